-- Printed steps are read as these steps.
use Rattle.std.proofs.Common.{◌≡◌, ℕ, zero, suc, ◌+◌, ◌*◌, ◌/◌, ◌%◌, ◌<◌, ◌≤◌, true, false, List, [], ◌∷◌, ◌++◌, length, get_or, ℤ, pos, negsuc, nat_abs, Some, Ok, codes, decimal, refl, ap, ◌∙◌, arith, ne_eqb}
use Rattle.std.specs.Fmt.{signed_decimal}
use Rattle.std.proofs.lemmas.Fmt.{decimal_by_steps, decimal_nonempty, decimal_is_IsNumeral}
use Rattle.std.proofs.lemmas.Str.Parse.{digit_at}
use Rattle.std.proofs.lemmas.List.Sums.{fold_push}
use Rattle.std.proofs.lemmas.Bool.Decides.{nat_tests}
use Rattle.std.proofs.lemmas.Int.{ints}
use Rattle.ps2.specs.declared.event.Movement.{Movement}
use Rattle.mouse.specs.declared.settings.Variant.TheVariants.{Plain, Wheel}
use Rattle.talk.specs.declared.step.Step.{Step}
use Rattle.talk.specs.declared.step.Step.TheVariants.{Note, Power, Host, Move}
use Rattle.talk.specs.Texts.{before, behind}
use Rattle.talk.specs.Steps.{move_of, host_of, step_of}
use Rattle.talk.specs.StepWords.{step_words}
use Rattle.talk.specs.TalkLaws.{Shown, Laws}
use Rattle.talk.specs.Numbers.{nibble_of, paired, byte_of, one_more, digits_of, count_of, signed_of, number_of}
use Rattle.text.specs.Hex.{hex_digit, hex}
use Rattle.talk.proofs.Cuts.{Lacks, before_at, behind_at}
use Rattle.talk.proofs.Laws.{settled, kept}

one_digit : (n d : ℕ) → n < 100 → d < 10 → one_more (Some n) (48 + d) ≡ Some (10 * n + d)
one_digit n d h k = grind (arith, nat_tests)

-- the digits of a number, read back
abbrev Read : ℕ → List ℕ → Type 0
Read n ds = n < 1000 → digits_of ds ≡ Some n

read_one : (n : ℕ) → n < 10 → Read n ((48 + n) ∷ [])
read_one n h lt = one_digit 0 n (omega arith) h ∙ ap Some (omega arith)

read_more : (n : ℕ) (ds : List ℕ) → 10 ≤ n → Read (n / 10) ds → Read n (ds ++ ((48 + n % 10) ∷ []))
read_more n ds h front lt = fold_push one_more (Some 0) ds (48 + n % 10) ∙ ap (λ o. one_more o (48 + n % 10)) (front (omega arith)) ∙ one_digit (n / 10) (n % 10) (omega arith) (omega arith) ∙ ap Some (omega arith)

count_back : (n : ℕ) → n < 1000 → count_of (decimal n) ≡ Some n
count_back n h = rw (ne_eqb (length (decimal n)) 0 (λ e. omega (arith, decimal_nonempty n (omega arith)))) (decimal_by_steps Read read_one read_more n (omega arith) h)

-- neither a space nor a minus sign is among the digits
decimal_lacks : (c n : ℕ) → c < 48 → n < 1000 → Lacks c (decimal n)
decimal_lacks c n low h i lt e = omega (arith, (digit_at (decimal n) i (decimal_is_IsNumeral n (omega arith)).0.1 lt).0)

number_back : (z : ℤ) → nat_abs z < 1000 → number_of (signed_decimal z) ≡ Some z
number_back (pos n) h = rw (ne_eqb (get_or (decimal n) 0 0) 45 (decimal_lacks 45 n (omega arith) (omega arith) 0 (decimal_nonempty n (omega arith)))) (ap (signed_of false) (count_back n (omega arith)))
number_back (negsuc n) h = ap (signed_of true) (count_back (suc n) (omega arith))

signed_lacks : (z : ℤ) → nat_abs z < 1000 → Lacks 32 (signed_decimal z)
signed_lacks (pos n) h i lt e = decimal_lacks 32 n (omega arith) (omega arith) i lt e
signed_lacks (negsuc n) h zero lt e = absurd (omega arith)
signed_lacks (negsuc n) h (suc i) lt e = decimal_lacks 32 (suc n) (omega arith) (omega arith) i (omega arith) e

nibble_back : (d : ℕ) → d < 16 → nibble_of (hex_digit d) ≡ Some d
nibble_back d h = grind (arith, nat_tests)

byte_back : (b : ℕ) → b < 256 → byte_of (hex b) ≡ Some b
byte_back b h = (λ k. paired (nibble_back (b / 16) (omega arith) k) (nibble_back (b % 16) (omega arith) k)) ∙ ap Some (omega arith)

-- four numbers in range, read back
small : (d : Movement) → Shown (Move d) → (nat_abs d.dx < 1000) × (nat_abs d.dy < 1000) × (nat_abs d.wheel < 1000) × (d.buttons < 1000)
small d h = (grind (arith, ints), grind (arith, ints), grind (arith, ints), grind (arith, nat_tests))

module _ (d : Movement) (h : Shown (Move d)) where
  abbrev two : List ℕ
  two = signed_decimal d.wheel ++ (32 ∷ decimal d.buttons)

  abbrev three : List ℕ
  three = signed_decimal d.dy ++ (32 ∷ two)

  move_back : move_of (signed_decimal d.dx ++ (32 ∷ three)) ≡ Ok (Move d)
  move_back =
      let s = small d h in
      let x = signed_lacks d.dx s.0 in
      let y = signed_lacks d.dy s.1 in
      let w = signed_lacks d.wheel s.2 in
      rw (before_at 32 (signed_decimal d.dx) three x, behind_at 32 (signed_decimal d.dx) three x, before_at 32 (signed_decimal d.dy) two y, behind_at 32 (signed_decimal d.dy) two y, before_at 32 (signed_decimal d.wheel) (decimal d.buttons) w, behind_at 32 (signed_decimal d.wheel) (decimal d.buttons) w, number_back d.dx s.0, number_back d.dy s.1, number_back d.wheel s.2, count_back d.buttons s.3, h) refl

-- a word, a space and what stands behind them
host_word : (t : List ℕ) → step_of (codes "host " ++ t) ≡ host_of (byte_of t)
unfolding before behind
host_word t = rw (ne_eqb (length (codes "host " ++ t)) 0 (λ e. omega arith)) refl

move_word : (t : List ℕ) → step_of (codes "move " ++ t) ≡ move_of t
unfolding before behind
move_word t = rw (ne_eqb (length (codes "move " ++ t)) 0 (λ e. omega arith)) refl

pub read_back : (s : Step) → Shown s → step_of (step_words s) ≡ Ok s
read_back Note h = absurd h
read_back (Power Plain) h = refl
read_back (Power Wheel) h = refl
read_back (Host b) h = host_word (hex b) ∙ ap host_of (byte_back b h)
read_back (Move d) h = move_word _ ∙ move_back d h

pub laws : Laws
laws = record { settled = settled; kept = kept; read_back = read_back }
