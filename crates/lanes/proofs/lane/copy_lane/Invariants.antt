use Rattle.std.proofs.Common.{◌≡◌, length}
use Rattle.lanes.specs.Lanes.{lane}
use lib.Seq.{paste}
use Rattle.lanes.proofs.lane.copy_lane.Given as goal

abbrev pub invariant-loop-place : goal.invariant-loop-place
invariant-loop-place l = l.out ≡ paste l.initial.out 0 (lane l.fn.port l.fn.readings) (length l.yielded)
