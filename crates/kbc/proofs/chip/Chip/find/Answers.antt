use Rattle.std.proofs.Common.{◌-◌, ◌<◌, sym, ap, ◌∙◌, arith}
use Rattle.rules.specs.Arbiter.{first_of}
use Rattle.rules.specs.Turns.{gives}
use Rattle.rules.proofs.Arbiters.{first_none, first_here, first_next}
use Rattle.kbc.specs.Chips.{state_of}
use Rattle.kbc.proofs.chip.Chip.find.Goals as goal

pub loop-left-preserved : goal.loop-left-preserved
loop-left-preserved g c =
    let has = gives (state_of g.B.Bank.values c.args.self.now) in
    let left = c.loop-left.left in
    let some : 0 < left = omega (arith, c.if-left-eq0.false) in
    ap (first_of has (left - 1)) c.after-line.ensures ∙ first_next has left c.loop-left.line some (sym c.if-has.ensures) ∙ c.loop-left.invariant

pub returns-then-has : goal.returns-then-has
returns-then-has g c =
    let has = gives (state_of g.B.Bank.values c.args.self.now) in
    let some : 0 < c.loop-left.left = omega (arith, c.if-left-eq0.false) in
    sym (first_here has c.loop-left.left c.loop-left.line some (sym c.if-has.ensures)) ∙ c.loop-left.invariant

pub returns-then-left-eq0 : goal.returns-then-left-eq0
returns-then-left-eq0 g c =
    let has = gives (state_of g.B.Bank.values c.args.self.now) in
    sym (first_none has c.loop-left.line) ∙ ap (λ k. first_of has k c.loop-left.line) (sym c.if-left-eq0.true) ∙ c.loop-left.invariant
