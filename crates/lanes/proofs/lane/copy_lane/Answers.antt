use Rattle.std.proofs.Common.{rules, tests, arith, ◌≡◌, ℕ, ◌+◌, ◌<◌, ◌≤◌, List, length, get_or, set, filter}
use Rattle.std.specs.List.{enumerate_from}
use Rattle.std.proofs.lemmas.Grind.{common_steps}
use Rattle.std.proofs.lemmas.List.{get_or-map, length-map, length_push}
use Rattle.std.proofs.lemmas.List.Edits.{paste_more, paste_all}
use Rattle.std.proofs.lemmas.List.FromFn.{length-enumerate_from, get_or-enumerate_from}
use Rattle.std.proofs.lemmas.Iterator.{YieldsList-from_slice}
use Rattle.std.proofs.lemmas.Iterator.Consumers.{YieldsList-at, YieldsList-from_filter, YieldsList-from_enumerate, YieldsList-turn, YieldsList-end}
use lib.Seq.{paste}
use Rattle.lanes.specs.Readings.{data_byte, is_of}
use Rattle.lanes.specs.Lanes.{lane}
use Rattle.lanes.proofs.lane.copy_lane.Goals as goal

-- turn n takes this place, and a reading whose data the lane has there
abbrev Turn : ℕ → List ℕ → ℕ → ℕ → ℕ → Type 0
Turn p rs n place reading = (n < length (lane p rs)) × (place ≡ n) × (data_byte reading ≡ get_or (lane p rs) n (data_byte reading))

turn_of : (p : ℕ) (rs : List ℕ) (n place reading : ℕ) → (n < length (enumerate_from 0 (filter (is_of p) rs))) × ◌≡◌ {A = ℕ × ℕ} (place, reading) (get_or (enumerate_from 0 (filter (is_of p) rs)) n (place, reading)) → Turn p rs n place reading
unfolding lane
turn_of p rs n place reading h = grind (arith, h.0, h.1, length-enumerate_from, get_or-enumerate_from, length-map, get_or-map)

turn : (c : goal.After-data_of) → Turn c.args.port c.args.readings.now (length c.loop-place.yielded) c.in-Some.place c.in-Some.reading.now
turn c =
    turn_of _ _ _ _ _ (YieldsList-turn
    (YieldsList-at c.into_iter-place-iterator.ensures.into_iter_gives (YieldsList-from_enumerate (YieldsList-at c.enumerate-place-items.ensures.source
    (YieldsList-from_filter _ (is_of c.args.port) (YieldsList-from_slice c.args.readings.now cc) c.filter.ensures.closure (λ x r q k. search (rules, tests)))) c.enumerate-place-items.ensures.count))
    c.loop-place.yielded _ c.loop-place.yielded_by _ _ (c.in-Some.place, c.in-Some.reading) c.in-Some.is c.next.ensures.steps)

written : (p : ℕ) (rs old : List ℕ) (n m place reading : ℕ) → Turn p rs n place reading → length (lane p rs) ≤ length old → m ≡ n + 1 → set (paste old 0 (lane p rs) n) place (data_byte reading) ≡ paste old 0 (lane p rs) m
written p rs old n m place reading t room k =
    let more = paste_more old 0 (lane p rs) n (data_byte reading) (omega arith) t.0 in
    let at : 0 + n ≡ place = omega arith in
    let next : n + 1 ≡ m = omega arith in
    cc

pub bounds-out-place : goal.bounds-out-place
bounds-out-place c = omega (arith, turn c)

pub loop-place-preserved : goal.loop-place-preserved
loop-place-preserved c = simp (c.data_of.ensures, c.loop-place.invariant) (written _ _ _ _ _ _ _ (turn c) c.requires (length_push _ _))

pub returns : goal.returns
unfolding lane
returns c =
    let seen = YieldsList-end
    (YieldsList-at c.into_iter-place-iterator.ensures.into_iter_gives (YieldsList-from_enumerate (YieldsList-at c.enumerate-place-items.ensures.source
    (YieldsList-from_filter _ (is_of c.args.port) (YieldsList-from_slice c.args.readings.now cc) c.filter.ensures.closure (λ x r q k. search (rules, tests)))) c.enumerate-place-items.ensures.count))
    c.loop-place.yielded _ c.loop-place.yielded_by _ _ c.in-None.is c.next.ensures.steps in
    grind (arith, common_steps, length-enumerate_from, seen.1, paste_all)
