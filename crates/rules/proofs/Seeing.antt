-- What the status shows while the controller multiplexes.
use Rattle.std.proofs.Common.{◌≡◌, ℕ, ◌+◌, ◌*◌, ◌/◌, ◌%◌, ◌<◌, Bool, true, false, cond, ◌&&◌, eqb, [], ◌∷◌, map, Some, None, Option, sym, refl, ap, ◌∙◌, ap₂, arith}
use Rattle.ps2.specs.declared.entry.Entry.{Entry}
use Rattle.ps2.specs.declared.entry.Entry.TheVariants.{Byte, Parity, Timeout}
use Rattle.ps2.specs.Entries.{shows}
use Rattle.parts.specs.declared.lines.Line.{Line}
use Rattle.parts.specs.declared.lines.Line.TheVariants.{Aux, Keyboard, Controller}
use Rattle.parts.specs.declared.lines.Port.{Port}
use Rattle.parts.specs.declared.settings.Mode.TheVariants.{Multiplexed}
use Rattle.parts.specs.declared.output.Shown.{Shown}
use Rattle.parts.specs.Lines.{port_number, line_number, is_port}
use Rattle.rules.specs.Banks.{Kinds}
use Rattle.rules.specs.States.{State, mode_of}
use Rattle.rules.specs.Status.{status_of, status, tagged, error_bit}
use Rattle.parts.specs.Outputs.{worth, faulty, fault_bits}
use Rattle.rules.specs.Calls.{read_of}
use Rattle.rules.proofs.Basics.{other_port}
use Rattle.rules.specs.Histories.{Seen, seen, under, read_ok, waiting_under, output_of}

low_bit : (n b : ℕ) → b < 2 → (2 * n + b) % 2 ≡ b
low_bit n b small = omega arith

-- a status by its bits: the port's number n, bit 5, bit 2, bit 1, and a full output buffer
module _ (n five two one st : ℕ) (small : (five < 2) × ((two < 2) × (one < 2))) (is : st ≡ 64 * n + (32 * five + (4 * two + (2 * one + 1)))) where
  bits_tag : (p : Port) → tagged p st ≡ eqb five 1 && is_port p n
  bits_tag p =
      let a = small.0 in
      let b = small.1.0 in
      let c = small.1.1 in
      let obf : st % 2 ≡ 1 = omega arith in
      let half : st / 32 ≡ 2 * n + five = omega arith in
      let aux : st / 32 % 2 ≡ five = ap (λ x. x % 2) half ∙ low_bit n five small.0 in
      let port : st / 64 ≡ n = omega arith in
      ap (λ x. eqb x 1 && (eqb (st / 32 % 2) 1 && is_port p (st / 64))) obf ∙ ap₂ (λ x y. eqb x 1 && is_port p y) aux port

  bits_error : error_bit st ≡ eqb two 1
  bits_error =
      let a = small.0 in
      let b = small.1.0 in
      let c = small.1.1 in
      let quarter : st / 4 ≡ 2 * (8 * n + 4 * five) + two = omega arith in
      let error : st / 4 % 2 ≡ two = ap (λ x. x % 2) quarter ∙ low_bit (8 * n + 4 * five) two small.1.0 in
      ap (λ x. eqb x 1) error

-- a bit's worth
bit_worth : (b : Bool) (n : ℕ) → worth b n ≡ n * worth b 1
bit_worth true n = omega arith
bit_worth false n = omega arith

bit_small : (b : Bool) → worth b 1 < 2
bit_small true = omega arith
bit_small false = omega arith

bit_set : (b : Bool) → eqb (worth b 1) 1 ≡ b
bit_set true = refl
bit_set false = refl

abbrev status_at : Bool → Bool → Line → Entry → ℕ
status_at flag waits l e = status_of Multiplexed flag waits (Some (record { line = l; entry = e }))

module _ (flag waits : Bool) (e : Entry) where
  -- bits 7 and 6 beside an entry of the keyboard or the controller
  abbrev pair : Entry → ℕ
  pair (Byte b) = 0
  pair Parity = 2
  pair Timeout = 1

  fault_bits_pair : (e : Entry) → fault_bits e ≡ 64 * pair e
  fault_bits_pair (Byte b) = refl
  fault_bits_pair Parity = refl
  fault_bits_pair Timeout = refl

  tag_other : (p : Port) → tagged p (fault_bits e + worth flag 4 + 1 + worth waits 2) ≡ false
  tag_other p =
      bits_tag (pair e) 0 (worth flag 1) (worth waits 1) (fault_bits e + worth flag 4 + 1 + worth waits 2) (omega arith, (bit_small flag, bit_small waits))
      (omega (arith, fault_bits_pair e, bit_worth flag 4, bit_worth waits 2)) p

  module _ (q : Port) where
    small : (1 < 2) × ((worth (faulty e) 1 < 2) × (worth waits 1 < 2))
    small = (omega arith, (bit_small (faulty e), bit_small waits))

    bits : status_at flag waits (Aux q) e ≡ 64 * port_number q + (32 * 1 + (4 * worth (faulty e) 1 + (2 * worth waits 1 + 1)))
    bits = omega (arith, bit_worth (faulty e) 4, bit_worth waits 2)

    tag_aux : (p : Port) → tagged p (status_at flag waits (Aux q) e) ≡ is_port p (port_number q)
    tag_aux p = bits_tag (port_number q) 1 (worth (faulty e) 1) (worth waits 1) _ small bits p

    error_aux : error_bit (status_at flag waits (Aux q) e) ≡ faulty e
    error_aux = bits_error (port_number q) 1 (worth (faulty e) 1) (worth waits 1) _ small bits ∙ bit_set (faulty e)

  tag_is : (p : Port) (l : Line) → tagged p (status_at flag waits l e) ≡ is_port p (line_number l)
  tag_is p (Aux q) = tag_aux q p
  tag_is p Keyboard = tag_other p ∙ sym (other_port p 4 (omega arith))
  tag_is p Controller = tag_other p ∙ sym (other_port p 5 (omega arith))

  seen_if : (t : Bool) (x : Bool) → x ≡ faulty e → cond t (record { error = x; byte = shows e } ∷ []) [] ≡ map seen (cond t (e ∷ []) [])
  seen_if true x is = ap (λ x. record { error = x; byte = shows e } ∷ []) is
  seen_if false x is = refl

  none_if : (t : Bool) (x : Seen) → t ≡ false → cond t (x ∷ []) [] ≡ []
  none_if t x is = ap (λ t. cond t (x ∷ []) []) is

  under_is : (p : Port) (l : Line) → under p (status_at flag waits l e) (shows e) ≡ map seen (cond (is_port p (line_number l)) (e ∷ []) [])
  under_is p (Aux q) = ap (λ t. cond t (record { error = error_bit (status_at flag waits (Aux q) e); byte = shows e } ∷ []) []) (tag_aux q p) ∙ seen_if (is_port p (port_number q)) _ (error_aux q)
  under_is p Keyboard = none_if _ _ (tag_other p) ∙ ap (λ t. map seen (cond t (e ∷ []) [])) (sym (other_port p 4 (omega arith)))
  under_is p Controller = none_if _ _ (tag_other p) ∙ ap (λ t. map seen (cond t (e ∷ []) [])) (sym (other_port p 5 (omega arith)))

waiting_at : (flag waits : Bool) (p : Port) (o : Option Shown) → read_ok p (status_of Multiplexed flag waits o) (read_of o) ≡ map seen (output_of p o)
waiting_at flag waits p None = refl
waiting_at flag waits p (Some o) = under_is flag waits o.entry p o.line

module _ {K : Kinds} (s : State K) (m : mode_of s ≡ Multiplexed) where
  -- what waits under the port's tag is its entry in the output buffer
  pub waiting_is : (p : Port) → waiting_under p s ≡ map seen (output_of p s.output)
  waiting_is p = rw m (waiting_at _ _ p s.output)

  -- the tag names the line that the output entry came from
  pub tag_at : (p : Port) (o : Shown) → s.output ≡ Some o → tagged p (status s) ≡ is_port p (line_number o.line)
  tag_at p o e = rw (m, e) (tag_is _ _ o.entry p o.line)
