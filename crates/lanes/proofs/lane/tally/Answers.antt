use Rattle.std.proofs.Common.{rules, arith, ◌^◌}
use Rattle.std.proofs.lemmas.Iterator.{YieldsList-from_slice}
use Rattle.std.proofs.lemmas.Iterator.Adapters.{fits_from_length, at_most_from_yields_List}
use Rattle.lanes.proofs.Laws.{one_or_none}
use Rattle.lanes.proofs.lane.tally.Goals as goal

-- no slice has more than 2^63 elements, and each adds 0 or 1
pub sum-requires-clause-fits : goal.sum-requires-clause-fits
sum-requires-clause-fits c = fits_from_length _ _ (2 ^ 63) (2 ^ 64) (at_most_from_yields_List (YieldsList-from_slice c.args.readings.now cc) (omega (arith, c.iter.ensures.bound))) c.map.ensures.closure (omega arith) (λ x r q k. search (rules, one_or_none))

pub sum-requires-2-clause-fits : goal.sum-requires-2-clause-fits
sum-requires-2-clause-fits c = fits_from_length _ _ (2 ^ 63) (2 ^ 64) (at_most_from_yields_List (YieldsList-from_slice c.args.readings.now cc) (omega (arith, c.iter.ensures.bound))) c.map-2.ensures.closure (omega arith) (λ x r q k. search (rules, one_or_none))
