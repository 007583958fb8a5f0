-- Recorded readings taken apart by port, as text.
--   reading_of p      the reading of a pair of bytes: status, then data
--   lane_line rs p    a port's line: its number, the size of its lane, the lane in hexadecimal
--   lane_lines rs n   the lines of the ports below n
--   demuxed rs        the whole text: four lanes, and the readings that belong to none
use Rattle.std.specs.Prelude.{◌≡◌, ℕ, zero, suc, ◌+◌, ◌*◌, ◌<◌, ◌≤◌, List, [], ◌++◌, length, codes, decimal, slice_index}
use Rattle.ps2.specs.declared.refusal.Refusal.TheVariants.{TooManyReadings}
use Rattle.lanes.specs.Lanes.{lane, untagged, errors}
use Rattle.text.specs.Hex.{spaced}
use Rattle.report.specs.declared.failure.Failure.{Failure}
use Rattle.report.specs.declared.failure.Failure.TheVariants.{Refused, OutOfMemory}

abbrev pub reading_of : List ℕ → ℕ
reading_of p = slice_index p 0 * 256 + slice_index p 1

abbrev pub lane_text : ℕ → List ℕ → List ℕ
lane_text p bytes = codes "port " ++ (decimal p ++ (codes " (" ++ (decimal (length bytes) ++ (codes "):" ++ (spaced bytes ++ codes "\n")))))

abbrev pub lane_line : List ℕ → ℕ → List ℕ
lane_line rs p = lane_text p (lane p rs)

unfoldable pub lane_lines : List ℕ → ℕ → List ℕ
lane_lines rs zero = []
lane_lines rs (suc n) = lane_lines rs n ++ lane_line rs n

abbrev pub untagged_text : ℕ → ℕ → List ℕ
untagged_text total faulty = codes "none (" ++ (decimal total ++ (codes "): " ++ (decimal faulty ++ codes " with OBF, AUX and Error all set\n")))

abbrev pub demuxed : List ℕ → List ℕ
demuxed rs = lane_lines rs 4 ++ untagged_text (untagged rs) (errors rs)

-- the text of up to 32,768 readings
abbrev pub Done : List ℕ → List ℕ → Type 0
Done rs text = (length rs ≤ 32768) × (text ≡ demuxed rs)

-- there is no text where there are too many readings; want of memory may come at any time
abbrev pub Undone : List ℕ → Failure → Type 0
Undone rs (Refused e) = (e ≡ TooManyReadings) × (32768 < length rs)
Undone rs OutOfMemory = Unit {0}
