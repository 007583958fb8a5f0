-- The text of spaced bytes, byte by byte.
use Rattle.std.proofs.Common.{◌≡◌, ℕ, ◌+◌, ◌<◌, List, [], ◌∷◌, ◌++◌, length, get_or, take, refl, arith}
pub use Rattle.std.proofs.lemmas.Fmt.{hex_byte}
pub use Rattle.std.proofs.lemmas.Grind.{put_two}
use Rattle.std.proofs.lemmas.Grind.{common_steps}
use Rattle.text.specs.Hex.{hex, spaced}

pub spaced_none : spaced [] ≡ []
unfolding spaced
spaced_none = refl

pub spaced_more : (bs : List ℕ) (i : ℕ) → i < length bs → spaced (take i bs) ++ (32 ∷ hex (get_or bs i 0)) ≡ spaced (take (i + 1) bs)
unfolding spaced
spaced_more bs i h = grind (arith, common_steps)

pub ruleset spacing = (hex_byte, put_two, spaced_none, spaced_more)
