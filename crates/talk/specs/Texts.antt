-- Texts, taken apart at a character.
--   before c t   the text t up to its first c
--   behind c t   what follows that c
--   lines_of t   its lines; the last need not be ended
use Rattle.std.specs.Prelude.{ℕ, cond, List, [], ◌∷◌, ◌==◌}

unfoldable pub before : ℕ → List ℕ → List ℕ
before c [] = []
before c (b ∷ t) = cond (b == c) [] (b ∷ before c t)

unfoldable pub behind : ℕ → List ℕ → List ℕ
behind c [] = []
behind c (b ∷ t) = cond (b == c) t (behind c t)

-- a byte in front of the first line
abbrev pub in_front : ℕ → List (List ℕ) → List (List ℕ)
in_front b [] = (b ∷ []) ∷ []
in_front b (l ∷ ls) = (b ∷ l) ∷ ls

unfoldable pub lines_of : List ℕ → List (List ℕ)
lines_of [] = []
lines_of (b ∷ t) = cond (b == 10) ([] ∷ lines_of t) (in_front b (lines_of t))
