-- What holds of a talk, in other words than its rules.
--   Quiet m   nothing waits in the mouse, if there is one
--   Shown s   a step that is no note, its numbers in range
--   Laws      all of it together
use Rattle.std.specs.Prelude.{◌≡◌, ℕ, ◌<◌, true, List, [], ◌∷◌, ◌++◌, Some, None, Ok, Option}
use Rattle.ps2.specs.declared.event.Event.TheVariants.{Movement}
use Rattle.ps2.specs.Events.{told, in_range}
use Rattle.mouse.specs.declared.mouse.Mouse.{Mouse}
use Rattle.mouse.specs.MouseKind.{mouse_kind}
use Rattle.talk.specs.declared.step.Step.{Step}
use Rattle.talk.specs.declared.step.Step.TheVariants.{Note, Power, Host, Move}
use Rattle.talk.specs.Steps.{step_of}
use Rattle.talk.specs.StepWords.{step_words}
use Rattle.talk.specs.Exchanged.{taken, left_by, exchanged}

abbrev pub Quiet : Option Mouse → Type 0
Quiet None = Unit {0}
Quiet (Some m) = mouse_kind.waiting m ≡ []

abbrev pub Shown : Step → Type 0
Shown Note = ⊥
Shown (Power v) = Unit {0}
Shown (Host b) = b < 256
Shown (Move d) = in_range (told (Movement d)) ≡ true

pub record Laws : Type 0 where
  -- a good line leaves nothing waiting, where nothing waited before it
  pub settled : (l : List ℕ) (m : Option Mouse) (s : Step) (p : Option Mouse) → Quiet m → taken (step_of l) m ≡ Ok (s, p) → Quiet (left_by s p)
  -- what is printed of a text stays, whatever is said behind it
  pub kept : (t u : List ℕ) → (more : List ℕ) × (exchanged (t ++ (10 ∷ u)) ≡ exchanged t ++ more)
  -- a printed step is read as that step
  pub read_back : (s : Step) → Shown s → step_of (step_words s) ≡ Ok s
