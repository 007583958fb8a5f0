use Rattle.std.proofs.Common.{◌≡◌, Some, None, sym, ◌∙◌}
use Rattle.std.proofs.lemmas.Option.{none-some}
use Rattle.parts.specs.Held.{held_at}
use Rattle.rules.specs.Arbiter.{first_of}
use Rattle.rules.specs.Turns.{gives, taken_from}
use Rattle.rules.proofs.Arbiters.{first_has}
use Rattle.rules.proofs.Fairness.{gives_taken}
use Rattle.kbc.specs.Chips.{state_of}
use Rattle.kbc.proofs.chip.Chip.fill.Goals as goal

-- a line that has something gives it
pub returns-in_err-entry-clause-value : goal.returns-in_err-entry-clause-value
returns-in_err-entry-clause-value g c =
    let s = state_of g.B.Bank.values c.args.self.now in
    let l = c.in_ok-line.line in
    let found : first_of (gives s) 6 s.next ≡ Some l = sym c.find.ensures ∙ c.in_ok-line.was in
    let nothing : taken_from (held_at s.held l) s l ≡ None = sym c.take.ensures.value ∙ c.in_err-entry.was in
    let given = gives_taken l s (first_has (gives s) 6 s.next l found) in
    absurd (none-some given.entry (sym nothing ∙ given.is))
