-- The lines of the ports.
use Rattle.std.proofs.Common.{◌≡◌, ℕ, ◌+◌, List, [], ◌++◌, refl, add-one}
use Rattle.report.specs.Demuxed.{lane_line, lane_lines}

pub lines_none : (rs : List ℕ) → lane_lines rs 0 ≡ []
unfolding lane_lines
lines_none rs = refl

pub lines_more : (rs : List ℕ) (n : ℕ) → lane_lines rs (n + 1) ≡ lane_lines rs n ++ lane_line rs n
unfolding lane_lines
lines_more rs n = rw add-one
