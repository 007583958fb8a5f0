use Rattle.std.proofs.Common.{◌++◌, string_bytes}
use Rattle.talk.specs.Exchanged.{exchanged}
use Rattle.talk.proofs.Playing.{Sofar}
use Rattle.talk.proofs.exchange.write_lines.Given as goal

abbrev pub invariant-loop-index : goal.invariant-loop-index
invariant-loop-index l = Sofar (string_bytes l.initial.text ++ exchanged l.input) l.index-iterator l.mouse (string_bytes l.text)
