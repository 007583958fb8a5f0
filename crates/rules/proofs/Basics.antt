-- Ports and lines by their numbers, and a port as a cable.
use Rattle.std.proofs.Common.{◌≡◌, ℕ, ◌<◌, ◌≤◌, Bool, true, false, cond, eqb, leb, ◌⊎◌, List, [], ◌∷◌, ◌++◌, Some, None, Option, sym, refl, ap, ◌∙◌, inl, inr, arith}
use Rattle.std.proofs.lemmas.Bool.{true≢false, eqb-true}
use Rattle.ps2.specs.declared.entry.Entry.{Entry}
use Rattle.ps2.specs.Kinds.{Kind}
use Rattle.parts.specs.declared.lines.Line.{Line}
use Rattle.parts.specs.declared.lines.Line.TheVariants.{Aux, Keyboard, Controller}
use Rattle.parts.specs.declared.lines.Port.{Port}
use Rattle.parts.specs.declared.lines.Port.TheVariants.{P0, P1, P2, P3}
use Rattle.parts.specs.declared.settings.Mode.TheVariants.{Legacy, Multiplexed}
use Rattle.parts.specs.Lines.{port_number, port_at, line_number, is_port}
use Rattle.rules.specs.Banks.{Kinds, Values, ask, change, port_kind, port_value}
use Rattle.rules.specs.States.{State}
use Rattle.parts.specs.Held.{Held, held_at, put_held}
use Rattle.rules.specs.Status.{present}
use Rattle.rules.specs.LoneCable.{Cable, Step, listed, play, play_all}
use Rattle.rules.specs.Law.{Among}

pub modes_apart : Legacy ≡ Multiplexed → ⊥
modes_apart e = let z : ◌≡◌ {A = ℕ} 0 1 = cc in omega arith

pub not_present : {A : Type 0} (o : Option A) → present o ≡ false → o ≡ None
not_present None e = refl
not_present (Some a) e = absurd (true≢false e)

-- by the two cases of a test
pub by_test : {A : Type 0} (b : Bool) → (b ≡ true → A) → (b ≡ false → A) → A
by_test true f g = f refl
by_test false f g = g refl

pub same_port : (p : Port) → is_port p (port_number p) ≡ true
same_port P0 = refl
same_port P1 = refl
same_port P2 = refl
same_port P3 = refl

pub other_port : (p : Port) (n : ℕ) → 4 ≤ n → is_port p n ≡ false
other_port P0 n f = grind arith
other_port P1 n f = grind arith
other_port P2 n f = grind arith
other_port P3 n f = grind arith

-- a line from its number
abbrev line_of : ℕ → Line
line_of n = cond (leb n 3) (Aux (port_at n)) (cond (eqb n 4) Keyboard Controller)

line_back : (l : Line) → line_of (line_number l) ≡ l
line_back (Aux P0) = refl
line_back (Aux P1) = refl
line_back (Aux P2) = refl
line_back (Aux P3) = refl
line_back Keyboard = refl
line_back Controller = refl

-- a line with the port's number is the port's
pub port_line : (p : Port) (l : Line) → is_port p (line_number l) ≡ true → l ≡ Aux p
port_line p l e = sym (line_back l) ∙ ap line_of (eqb-true _ _ e) ∙ line_back (Aux p)

pub line_few : (l : Line) → line_number l < 6
line_few (Aux P0) = omega arith
line_few (Aux P1) = omega arith
line_few (Aux P2) = omega arith
line_few (Aux P3) = omega arith
line_few Keyboard = omega arith
line_few Controller = omega arith

pub port_few : (p : Port) → port_number p < 4
port_few P0 = omega arith
port_few P1 = omega arith
port_few P2 = omega arith
port_few P3 = omega arith

pub port_number_at : (n : ℕ) → n ≤ 3 → port_number (port_at n) ≡ n
port_number_at n few = grind arith

-- the held place and the device of a port, after a change at the line of a number
pub held_at_put : (p : Port) (h : Held) (n : ℕ) (e : Option Entry) → held_at (put_held h n e) (Aux p) ≡ cond (is_port p n) e (held_at h (Aux p))
held_at_put P0 h n e = refl
held_at_put P1 h n e = refl
held_at_put P2 h n e = refl
held_at_put P3 h n e = refl

module _ {K : Kinds} where
  pub value_at : (p : Port) (v : Values K) (n : ℕ) (f : (k : Kind) → k.Value → k.Value) → port_value (change v n f) p ≡ cond (is_port p n) (f (port_kind K p) (port_value v p)) (port_value v p)
  value_at P0 v n f = refl
  value_at P1 v n f = refl
  value_at P2 v n f = refl
  value_at P3 v n f = refl

  pub ask_at : {A : Type 0} (p : Port) (v : Values K) (q : (k : Kind) → k.Value → A) (none : A) → ask v (Aux p) q none ≡ q (port_kind K p) (port_value v p)
  ask_at P0 v q none = refl
  ask_at P1 v q none = refl
  ask_at P2 v q none = refl
  ask_at P3 v q none = refl

  -- the port as a cable that has heard hs
  abbrev pub cable_of : (p : Port) → State K → List Entry → Cable (port_kind K p)
  cable_of p s hs = record { value = port_value s.devices p; held = held_at s.held (Aux p); heard = hs }

pub play_append : {k : Kind} (c : Cable k) (xs ys : List Step) → play_all c (xs ++ ys) ≡ play_all (play_all c xs) ys
play_append c [] ys = refl
play_append c (x ∷ xs) ys = play_append (play c x) xs ys

-- entries of a list
pub listed_is : (e : Entry) (o : Option Entry) → Among e (listed o) → o ≡ Some e
listed_is e None m = absurd m
listed_is e (Some x) (inl is) = ap Some (sym is)
listed_is e (Some x) (inr m) = absurd m

pub among_left : {A : Type 0} (a : A) (xs ys : List A) → Among a xs → Among a (xs ++ ys)
among_left a [] ys m = absurd m
among_left a (x ∷ xs) ys (inl e) = inl e
among_left a (x ∷ xs) ys (inr m) = inr (among_left a xs ys m)

pub among_append : {A : Type 0} (a : A) (xs ys : List A) → Among a (xs ++ ys) → Among a xs ⊎ Among a ys
among_append a [] ys m = inr m
among_append a (x ∷ xs) ys (inl e) = inl (inl e)
among_append a (x ∷ xs) ys (inr m) = elim (among_append a xs ys m) [ inl y ↦ inl (inr y) | inr y ↦ inr y ]
