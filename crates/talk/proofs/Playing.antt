-- The lines of a talk, one by one.
use Rattle.std.proofs.Common.{◌≡◌, ℕ, ◌+◌, List, ◌∷◌, ◌++◌, Bor, Ok, None, Some, Option, Result, sym, ap, ◌∙◌, append_assoc, append-nil}
use Rattle.std.specs.declared.iter.Enumerate.{Enumerate}
use Rattle.std.specs.declared.str.SplitTerminator.{SplitTerminator}
use Rattle.std.specs.Iterator.Adapters.{enumerate_source, enumerate_count, enumerate_steps}
use Rattle.std.specs.Str.Iter.{split_terminator_pattern, split_terminator_steps}
use Rattle.std.specs.Str.Pattern.{FindsChar}
use Rattle.mouse.specs.declared.mouse.Mouse.{Mouse}
use Rattle.talk.specs.declared.fault.Fault.{Fault}
use Rattle.talk.specs.declared.step.Step.{Step}
use Rattle.talk.specs.Steps.{step_of}
use Rattle.talk.specs.Exchanged.{step_line, left_by, taken, turn, played}
use Rattle.talk.proofs.Lines.{left, left_none, left_more}

abbrev pub cuts : Enumerate (SplitTerminator ℕ) → Option (ℕ × Bor (List ℕ)) → Enumerate (SplitTerminator ℕ) → Type 0
cuts = enumerate_steps (split_terminator_steps FindsChar (λ a b. b ≡ a))

-- what is written so far, and the text of the lines that are left, are the whole text
pub record Sofar (goal : List ℕ) (s : Enumerate (SplitTerminator ℕ)) (m : Option Mouse) (text : List ℕ) : Type 0 where
  pub written : text ++ played (enumerate_count s) m (left (enumerate_source s)) ≡ goal
  pub at_newline : split_terminator_pattern (enumerate_source s) ≡ 10

module _ {goal : List ℕ} {s : Enumerate (SplitTerminator ℕ)} {m : Option Mouse} {text : List ℕ} (so : Sofar goal s m text) (t : Enumerate (SplitTerminator ℕ)) where
  pub at_end : cuts s None t → text ≡ goal
  unfolding played
  at_end k = sym (ap (λ ls. text ++ played (enumerate_count s) m ls) (left_none (enumerate_source s) (enumerate_source t) so.at_newline k.0) ∙ append-nil text) ∙ so.written

  module _ (n : ℕ) (line : Bor (List ℕ)) (k : cuts s (Some (n, line)) t) where
    more_left : (split_terminator_pattern (enumerate_source t) ≡ 10) × (left (enumerate_source s) ≡ line.now ∷ left (enumerate_source t))
    more_left = left_more (enumerate_source s) (enumerate_source t) so.at_newline line k.0

    pub at_line : (r : Result (Step × Option Mouse) Fault) → taken (step_of line.now) m ≡ r → text ++ turn (n + 1) line.now r (λ m. played (n + 1) m (left (enumerate_source t))) ≡ goal
    unfolding played
    at_line r e = (λ i. text ++ turn (n + 1) line.now (sym e i) (λ m. played (n + 1) m (left (enumerate_source t)))) ∙ (λ i. text ++ played (k.1 i) m (sym more_left.1 i)) ∙ so.written

    pub at_step : (step : Step) (p q : Option Mouse) (more : List ℕ) → taken (step_of line.now) m ≡ Ok (step, p) → more ≡ text ++ step_line line.now step p → q ≡ left_by step p → Sofar goal t q more
    at_step step p q more e w d = record {
      written = (λ i. w i ++ played ((k.2 ∙ ap (λ n. n + 1) (sym k.1)) i) (d i) (left (enumerate_source t))) ∙ append_assoc text _ _ ∙ at_line _ e;
      at_newline = more_left.0;
    }
