use Rattle.std.proofs.Common.{◌≡◌}
use Rattle.rules.specs.Arbiter.{first_of}
use Rattle.rules.specs.Turns.{gives}
use Rattle.kbc.specs.Chips.{state_of}
use Rattle.kbc.proofs.chip.Chip.find.Given as goal

abbrev pub invariant-loop-left : goal.invariant-loop-left
invariant-loop-left g l = let s = state_of g.B.Bank.values l.self in first_of (gives s) l.left l.line ≡ first_of (gives s) 6 s.next

abbrev pub decreases-loop-left : goal.decreases-loop-left
decreases-loop-left g l = l.left
