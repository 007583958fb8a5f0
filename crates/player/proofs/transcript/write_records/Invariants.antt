use Rattle.std.proofs.Common.{◌++◌, length, string_bytes}
use Rattle.session.specs.Files.{session}
use Rattle.session.specs.Readers.{left_of}
use Rattle.player.specs.Transcripts.{lines_of}
use Rattle.player.proofs.Lines.{Sofar}
use Rattle.player.proofs.transcript.write_records.Given as goal

abbrev pub invariant-loop-found : goal.invariant-loop-found
invariant-loop-found g l =
    let state = g.C.KeyboardController.state in
    Sofar (string_bytes l.initial.text ++ lines_of 0 (state l.initial.controller) (session (left_of l.initial.reader))) l.reader l.number (state l.controller) (string_bytes l.text)

abbrev pub decreases-loop-found : goal.decreases-loop-found
decreases-loop-found g l = length (left_of l.reader)
