use Rattle.std.proofs.Common.{◌≡◌, vec_items, string_bytes}
use Rattle.report.specs.Demuxed.{lane_lines}
use Rattle.report.proofs.demux.demux.Given as goal

abbrev pub invariant-loop-port : goal.invariant-loop-port
invariant-loop-port l = string_bytes l.text ≡ lane_lines (vec_items l.readings) l.port
