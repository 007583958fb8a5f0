-- How far the arbiter is from a port, and that a move brings it nearer.
use Rattle.std.proofs.Common.{◌≡◌, ℕ, zero, suc, ◌+◌, ◌-◌, ◌%◌, ◌<◌, ◌≤◌, Bool, true, false, eqb, ltb, Some, None, Option, sym, refl, ap, ◌∙◌, sub-one, arith}
use Rattle.std.proofs.lemmas.Option.{none-some, same_Some}
use Rattle.std.proofs.lemmas.Bool.{true≢false}
use Rattle.parts.specs.declared.lines.Line.{Line}
use Rattle.parts.specs.declared.lines.Line.TheVariants.{Aux, Keyboard, Controller}
use Rattle.parts.specs.declared.lines.Port.{Port}
use Rattle.parts.specs.declared.lines.Port.TheVariants.{P0, P1, P2, P3}
use Rattle.parts.specs.Lines.{port_number, line_number, line_after, is_port}
use Rattle.rules.specs.Arbiter.{first_of}
use Rattle.rules.proofs.Basics.{by_test, port_line, line_few, port_few}

-- The search, line by line
-- ------------------------

module _ (has : Line → Bool) where
  pub first_none : (l : Line) → first_of has 0 l ≡ None
  unfolding first_of
  first_none l = refl

  pub first_here : (n : ℕ) (l : Line) → 0 < n → has l ≡ true → first_of has n l ≡ Some l
  unfolding first_of
  first_here zero l p h = absurd (omega arith)
  first_here (suc n) l p h = rw h

  pub first_next : (n : ℕ) (l : Line) → 0 < n → has l ≡ false → first_of has (n - 1) (line_after l) ≡ first_of has n l
  unfolding first_of
  first_next zero l p h = absurd (omega arith)
  first_next (suc n) l p h = rw (h, sub-one)

  -- the line that is found has something
  pub first_has : (n : ℕ) (l m : Line) → first_of has n l ≡ Some m → has m ≡ true
  unfolding first_of
  first_has zero l m e = absurd (none-some m e)
  first_has (suc n) l m e =
      by_test (has l) (λ t. let same : l ≡ m = same_Some l m (sym (rw t) ∙ e) in ap has (sym same) ∙ t) (λ t. first_has n (line_after l) m (sym (rw t) ∙ e))

-- How far it goes
-- ---------------

-- how many lines upward from l the port is: the difference of their numbers, modulo six
abbrev pub far : Line → Port → ℕ
far l p = (port_number p + 6 - line_number l) % 6

pub far_small : (l : Line) (p : Port) → far l p ≤ 5
far_small l p = omega arith

after_number : (l : Line) → line_number (line_after l) ≡ (line_number l + 1) % 6
after_number (Aux P0) = refl
after_number (Aux P1) = refl
after_number (Aux P2) = refl
after_number (Aux P3) = refl
after_number Keyboard = refl
after_number Controller = refl

-- a line that is not the port's is one further than the line above it
far_below : (n m q : ℕ) → n < 6 → q < 4 → m ≡ (n + 1) % 6 → eqb n q ≡ false → (q + 6 - n) % 6 ≡ suc ((q + 6 - m) % 6)
far_below n m q few small is o =
    let apart : n ≡ q → ⊥ = grind arith in
    by_test (eqb n 5) (λ t. let e : n ≡ 5 = grind arith in let z : m ≡ 0 = omega arith in omega arith) λ t.
    let e : n < 5 = grind arith in
    let z : m ≡ n + 1 = omega arith in
    by_test (ltb n q) (λ t. let e : n < q = grind arith in omega arith) λ t. let e : q < n = grind arith in omega arith

far_after : (l : Line) (p : Port) → is_port p (line_number l) ≡ false → far l p ≡ suc (far (line_after l) p)
far_after l p o = far_below (line_number l) (line_number (line_after l)) (port_number p) (line_few l) (port_few p) (after_number l) o

-- the first line that has something, where the port has: the port's own, or one that leaves the arbiter nearer to the port
pub record Found (has : Line → Bool) (p : Port) (l : Line) (r : Option Line) : Type 0 where
  pub line : Line
  pub found : r ≡ Some line
  pub passes : has line ≡ true
  pub nearer : is_port p (line_number line) ≡ false → far (line_after line) p < far l p

module _ (has : Line → Bool) (p : Port) (ready : has (Aux p) ≡ true) where
  found_here : (l : Line) → has l ≡ true → Found has p l (Some l)
  found_here l t = record { line = l; found = refl; passes = t; nearer = λ o. omega (arith, far_after l p o) }

  found_later : (l : Line) (r : Option Line) → is_port p (line_number l) ≡ false → Found has p (line_after l) r → Found has p l r
  found_later l r o f = record { line = f.line; found = f.found; passes = f.passes; nearer = λ n. omega (arith, far_after l p o, f.nearer n) }

  -- a line that has nothing is not the port's
  not_port : (l : Line) → has l ≡ false → is_port p (line_number l) ≡ false
  not_port l e = by_test (is_port p (line_number l)) (λ t. absurd (true≢false (sym ready ∙ ap has (sym (port_line p l t)) ∙ e))) (λ o. o)

  pub finds : (n : ℕ) (l : Line) → far l p < n → Found has p l (first_of has n l)
  unfolding first_of
  finds zero l h = absurd (omega arith)
  finds (suc n) l h = by_test (has l) (λ t. rw t (found_here l t)) (λ e. rw e (found_later l _ (not_port l e) (finds n (line_after l) (omega (arith, far_after l p (not_port l e))))))
