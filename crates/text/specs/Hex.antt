-- Hexadecimal text.
--   hex_digit n   the character of a digit below 16, in lower case
--   hex b         a byte as two digits
--   spaced bs     each byte as a space and two digits
use Rattle.std.specs.Prelude.{ℕ, ◌+◌, ◌/◌, ◌%◌, cond, List, [], ◌∷◌, nat_lt}
use Rattle.std.specs.List.{flat_map}

abbrev pub hex_digit : ℕ → ℕ
hex_digit n = cond (nat_lt n 10) (48 + n) (87 + n)

abbrev pub hex : ℕ → List ℕ
hex b = hex_digit (b / 16) ∷ hex_digit (b % 16) ∷ []

unfoldable pub spaced : List ℕ → List ℕ
spaced bs = flat_map (λ b. 32 ∷ hex b) bs
