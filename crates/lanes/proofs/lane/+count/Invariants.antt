use Rattle.std.proofs.Common.{length}
use Rattle.lanes.proofs.lane.+count.Given as goal

abbrev pub decreases-count : goal.decreases-count
decreases-count l = length l.readings.now
