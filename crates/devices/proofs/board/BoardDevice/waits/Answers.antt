use Rattle.std.proofs.Common.{rules, ◌≡◌, ℕ, not, eqb, List, [], ◌∷◌, length, sym, refl, ap, ◌∙◌}
use Rattle.ps2.specs.Entries.{entries, ahead}
use Rattle.ps2.specs.Kinds.{nonempty}
use Rattle.devices.proofs.board.BoardDevice.waits.Goals as goal

any_waits : (bs : List ℕ) → not (eqb (length bs) 0) ≡ nonempty (entries bs)
any_waits [] = refl
any_waits (b ∷ bs) = search rules

pub returns-else-self : goal.returns-else-self
returns-else-self c =
    let bs = c.args.self.now.strokes.items in
    ap not c.is_empty.ensures ∙ any_waits bs ∙ ap (λ a. nonempty (ahead a bs)) (sym c.if-self.false)
