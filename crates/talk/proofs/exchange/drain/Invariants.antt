use Rattle.std.proofs.Common.{◌++◌, length, string_bytes}
use Rattle.mouse.specs.MouseKind.{mouse_kind}
use Rattle.talk.specs.Exchanged.{answer, drained}
use Rattle.talk.proofs.Draining.{Sofar}
use Rattle.talk.proofs.exchange.drain.Given as goal

abbrev pub invariant-loop-entry : goal.invariant-loop-entry
invariant-loop-entry l = Sofar (string_bytes l.initial.text ++ answer l.initial.mouse) (drained l.initial.mouse) (string_bytes l.text) l.mouse

abbrev pub decreases-loop-entry : goal.decreases-loop-entry
decreases-loop-entry l = length (mouse_kind.waiting l.mouse)
