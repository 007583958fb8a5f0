-- The size of a lane reading by reading, and the laws of lanes.
use Rattle.std.proofs.Common.{◌≡◌, ℕ, ◌+◌, ◌<◌, ◌≤◌, Bool, true, false, cond, not, List, [], ◌∷◌, length, get_or, Some, None, refl, arith}
use mir.Val.{bool_byte}
use Rattle.std.specs.List.{between}
use Rattle.std.proofs.lemmas.List.{map-append, length-map}
use Rattle.std.proofs.lemmas.List.Elements.{filter-append}
use Rattle.std.proofs.lemmas.List.Sums.{length-filter, count_by-le-length, sum_by-cons}
use Rattle.std.proofs.lemmas.Slice.{first_rest}
use Rattle.std.proofs.lemmas.Bool.Decides.{nat_tests}
use Rattle.lanes.specs.Readings.{good, tag, names, is_of}
use Rattle.lanes.specs.Lanes.{lane, untagged, Joins, AddsUp}

pub joins : Joins
unfolding lane
joins p xs ys = simp (filter-append, map-append)

pub lane_short : (p : ℕ) (rs : List ℕ) → length (lane p rs) ≤ length rs
unfolding lane
lane_short p rs = simp (length-map, length-filter) (count_by-le-length (is_of p) rs)

size_cons : (p r : ℕ) (rs : List ℕ) → length (lane p rs) + bool_byte (is_of p r) ≡ length (lane p (r ∷ rs))
unfolding lane
size_cons p r rs = grind (arith, length-map)

-- the size by the first reading and the rest
pub size_first : (p : ℕ) (rs : List ℕ) → 0 < length rs → length (lane p (between 1 (length rs) rs)) + bool_byte (is_of p (get_or rs 0 0)) ≡ length (lane p rs)
size_first p rs some = rw (size_cons p (get_or rs 0 0), ← first_rest rs 0 some)

-- a test as a number
pub one_or_none : (t : Bool) → bool_byte t ≡ cond t 1 0
one_or_none true = refl
one_or_none false = refl

-- a reading counts once: in one of the four lanes, or as untagged
one_place : (g : Bool) (t : ℕ) → t < 4 → bool_byte (names 0 (cond g (Some t) None)) + bool_byte (names 1 (cond g (Some t) None)) + bool_byte (names 2 (cond g (Some t) None)) + bool_byte (names 3 (cond g (Some t) None)) + cond (not g) 1 0 ≡ 1
one_place true t h = grind (arith, nat_tests)
one_place false t h = refl

pub adds_up : (rs : List ℕ) → AddsUp rs
unfolding lane untagged
adds_up [] = refl
adds_up (r ∷ rs) = omega (arith, adds_up rs, size_cons 0 r rs, size_cons 1 r rs, size_cons 2 r rs, size_cons 3 r rs, one_place (good r) (tag r) (omega arith), sum_by-cons (λ r. cond (not (good r)) 1 0) r rs)
