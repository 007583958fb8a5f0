use Rattle.std.proofs.Common.{arith}
use Rattle.std.proofs.lemmas.Int.{ints}
use Rattle.mouse.proofs.counters.Axis.moved.Goals as goal

pub returns : goal.returns
returns c = grind (arith, ints)
