-- Lanes: what each port said, from the readings of all.
--   lane p rs     the data bytes of the readings of port p, in their order
--   untagged rs   how many readings belong to no port
--   errors rs     how many had OBF, AUX and Error all set
use Rattle.std.specs.Prelude.{◌≡◌, ℕ, ◌+◌, not, List, ◌++◌, map, length, drop, Ok, Err, count_by, filter, Result, nat_lt}
use Rattle.ps2.specs.declared.refusal.Refusal.{Refusal}
use Rattle.ps2.specs.declared.refusal.Refusal.TheVariants.{NoSuchLine, TooManyReadings, BufferTooShort}
use Rattle.ps2.specs.Refusals.{refusing}
use Rattle.lanes.specs.declared.lane.Untagged.{Untagged}
use Rattle.lanes.specs.Readings.{data_byte, good, aux_error, is_of}

unfoldable pub lane : ℕ → List ℕ → List ℕ
lane p rs = map data_byte (filter (is_of p) rs)

unfoldable pub untagged : List ℕ → ℕ
untagged rs = count_by (λ r. not (good r)) rs

unfoldable pub errors : List ℕ → ℕ
errors rs = count_by aux_error rs

-- refused for the port or the number of readings, else r
abbrev pub admitted : List ℕ → ℕ → Result ℕ Refusal → Result ℕ Refusal
admitted rs p r = refusing (nat_lt 3 p) NoSuchLine (refusing (nat_lt 32768 (length rs)) TooManyReadings r)

-- what the size of a lane is answered with
abbrev pub size_answer : List ℕ → ℕ → Result ℕ Refusal
size_answer rs p = admitted rs p (Ok (length (lane p rs)))

-- what filling a buffer with room for so many bytes is answered with
abbrev pub fill_answer : List ℕ → ℕ → ℕ → Result ℕ Refusal
fill_answer rs p room = admitted rs p (refusing (nat_lt room (length (lane p rs))) BufferTooShort (Ok (length (lane p rs))))

-- the buffer after it: the lane, then what stood behind it; after a refusal, what it held
abbrev pub filled : Result ℕ Refusal → List ℕ → List ℕ → List ℕ
filled (Ok n) bytes old = bytes ++ drop n old
filled (Err e) bytes old = old

-- what counting the untagged readings is answered with
abbrev pub untagged_answer : List ℕ → Result Untagged Refusal
untagged_answer rs = refusing (nat_lt 32768 (length rs)) TooManyReadings (Ok (record { total = untagged rs; errors = errors rs }))

-- the lane of two lists joined is their lanes joined
abbrev pub Joins : Type 0
Joins = (p : ℕ) (xs ys : List ℕ) → lane p (xs ++ ys) ≡ lane p xs ++ lane p ys

-- the sizes of the four lanes and the number of untagged readings add up to the number of readings
abbrev pub AddsUp : List ℕ → Type 0
AddsUp rs = length (lane 0 rs) + length (lane 1 rs) + length (lane 2 rs) + length (lane 3 rs) + untagged rs ≡ length rs
