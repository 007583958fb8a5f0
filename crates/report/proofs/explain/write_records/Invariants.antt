use Rattle.std.proofs.Common.{◌++◌, length, string_bytes}
use Rattle.session.specs.Files.{session}
use Rattle.session.specs.Readers.{left_of}
use Rattle.report.specs.Explained.{lines_of}
use Rattle.report.proofs.Lines.{Sofar}
use Rattle.report.proofs.explain.write_records.Given as goal

abbrev pub invariant-loop-found : goal.invariant-loop-found
invariant-loop-found l = Sofar (string_bytes l.initial.text ++ lines_of 0 0 (session (left_of l.initial.reader))) l.reader l.number (string_bytes l.text)

abbrev pub decreases-loop-found : goal.decreases-loop-found
decreases-loop-found l = length (left_of l.reader)
