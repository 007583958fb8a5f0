-- The place in the sequence, from the arguments alone.
use Rattle.std.proofs.Common.{◌≡◌, ℕ, Bool, true, false, ◌&&◌, eqb, List, [], ◌∷◌, Some, None, Option, sym, refl, ap, ◌∙◌, arith}
use Rattle.std.proofs.Math.Bool.{and_assoc}
use Rattle.std.proofs.lemmas.Bool.{eqb-true, and_parts}
use Rattle.parts.specs.declared.dialog.Place.{Place}
use Rattle.parts.specs.declared.dialog.Place.TheVariants.{Zero, One, Two}
use Rattle.parts.specs.declared.settings.Mode.{Mode}
use Rattle.parts.specs.declared.settings.Mode.TheVariants.{Legacy, Multiplexed}
use Rattle.parts.specs.Sequence.{is_one, is_two, leads, outcome}
use Rattle.rules.specs.Histories.{activates}

abbrev pub place_of : List ℕ → Place
place_of [] = Zero
place_of (b ∷ earlier) = leads (place_of earlier) b

abbrev pub is_enter : Option Mode → Bool
is_enter None = false
is_enter (Some Multiplexed) = true
is_enter (Some Legacy) = false

enter_at : (q : Place) (b : ℕ) → is_enter (outcome q b) ≡ is_two q && eqb b 0xa4
enter_at Zero b = refl
enter_at One b = refl
enter_at Two b = grind arith

two_at : (q : Place) (b : ℕ) → is_two (leads q b) ≡ is_one q && eqb b 0x56
two_at Zero b = grind arith
two_at One b = grind arith
two_at Two b = grind arith

one_at : (q : Place) (b : ℕ) → is_one (leads q b) ≡ eqb b 0xf0
one_at Zero b = grind arith
one_at One b = grind arith
one_at Two b = grind arith

-- an argument enters Multiplexed mode exactly as the last two arguments tell
pub enters_is : (args : List ℕ) (b : ℕ) → is_enter (outcome (place_of args) b) ≡ activates args b
unfolding activates
enters_is [] b = enter_at Zero b
enters_is (x ∷ []) b = enter_at (leads Zero x) b ∙ ap (λ t. t && eqb b 0xa4) (two_at Zero x)
enters_is (x ∷ (y ∷ earlier)) b =
    let q = place_of earlier in
    enter_at (leads (leads q y) x) b ∙ ap (λ t. t && eqb b 0xa4) (two_at (leads q y) x ∙ ap (λ t. t && eqb x 0x56) (one_at q y)) ∙ and_assoc (eqb y 0xf0) (eqb x 0x56) (eqb b 0xa4)

enter_byte : (q : Place) (b : ℕ) → outcome q b ≡ Some Multiplexed → b ≡ 0xa4
enter_byte q b e =
    let t : is_two q && eqb b 0xa4 ≡ true = sym (enter_at q b) ∙ ap is_enter e in
    eqb-true b 0xa4 (and_parts (is_two q) (eqb b 0xa4) t).1

-- behind it the place is the same, whatever it was before
pub entered_place : (q r : Place) (b : ℕ) → outcome q b ≡ Some Multiplexed → leads q b ≡ leads r b
entered_place q r b e = ap (leads q) (enter_byte q b e) ∙ at_a4 q ∙ sym (at_a4 r) ∙ ap (leads r) (sym (enter_byte q b e))
  where
    at_a4 : (q : Place) → leads q 0xa4 ≡ Zero
    at_a4 Zero = refl
    at_a4 One = refl
    at_a4 Two = refl
