-- A mouse that gives all that waits, entry by entry.
use Rattle.std.proofs.Common.{◌≡◌, ℕ, List, [], ◌∷◌, ◌++◌, map, Some, None, sym, refl, ap, ◌∙◌, append_assoc, append-nil}
use Rattle.ps2.specs.declared.entry.Entry.{Entry}
use Rattle.ps2.specs.Entries.{shows}
use Rattle.ps2.specs.Kinds.{first, rest}
use Rattle.mouse.specs.declared.mouse.Mouse.{Mouse}
use Rattle.mouse.specs.MouseKind.{mouse_kind}
use Rattle.text.specs.Hex.{hex, spaced}
use Rattle.talk.specs.Exchanged.{given_all, drained, answer}

some_first : (es : List Entry) (e : Entry) → Some e ≡ first es → es ≡ e ∷ rest es
some_first [] e h = cc
some_first (x ∷ es) e h = cc

none_first : (es : List Entry) → None ≡ first es → es ≡ []
none_first [] h = refl
none_first (x ∷ es) h = cc

-- what is written so far with the answer of the mouse, and the mouse drained, stay the same
pub record Sofar (goal : List ℕ) (end : Mouse) (text : List ℕ) (m : Mouse) : Type 0 where
  pub written : text ++ answer m ≡ goal
  pub left : drained m ≡ end

module _ {goal : List ℕ} {end m : Mouse} {text : List ℕ} (so : Sofar goal end text m) (n : Mouse) (given : n ≡ mouse_kind.given m) where
  module _ (e : Entry) (gave : Some e ≡ first (mouse_kind.waiting m)) where
    waits : mouse_kind.waiting m ≡ e ∷ mouse_kind.waiting (mouse_kind.given m)
    waits = some_first (mouse_kind.waiting m) e gave ∙ ap (λ es. e ∷ es) (sym (mouse_kind.given_rest m))

    pub at_entry : (more : List ℕ) → more ≡ text ++ (32 ∷ hex (shows e)) → Sofar goal end more n
    unfolding spaced given_all
    at_entry more w = record {
      written = (λ i. w i ++ answer (given i)) ∙ append_assoc text _ _ ∙ ap (λ es. text ++ spaced (map shows es)) (sym waits) ∙ so.written;
      left = ap drained given ∙ ap (λ es. given_all es m) (sym waits) ∙ so.left;
    }

  pub at_end : None ≡ first (mouse_kind.waiting m) → (text ≡ goal) × (n ≡ end)
  unfolding spaced given_all
  at_end gave =
      let nothing = none_first (mouse_kind.waiting m) gave in
      (sym (ap (λ es. text ++ spaced (map shows es)) nothing ∙ append-nil text) ∙ so.written, given ∙ mouse_kind.given_none m nothing ∙ ap (λ es. given_all es m) (sym nothing) ∙ so.left)
