-- Arbiter: whose turn it is.
--   first_of has n l   the first of n lines, from l upward, that has something to give
use Rattle.std.specs.Prelude.{ℕ, zero, suc, Bool, cond, Some, None, Option}
use Rattle.parts.specs.declared.lines.Line.{Line}
use Rattle.parts.specs.Lines.{line_after}

unfoldable pub first_of : (Line → Bool) → ℕ → Line → Option Line
first_of has zero l = None
first_of has (suc n) l = cond (has l) (Some l) (first_of has n (line_after l))
