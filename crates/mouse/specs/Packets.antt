-- Packets: up to four bytes that go to the host together.
--   bytes_of p    its bytes
--   behind p      it without its first byte
--   or_else p q   p, or q where p is empty
use Rattle.std.specs.Prelude.{ℕ, List, [], ◌∷◌}
use Rattle.mouse.specs.declared.packet.Packet.{Packet}
use Rattle.mouse.specs.declared.packet.Packet.TheVariants.{Empty, One, Two, Three, Four}

abbrev pub bytes_of : Packet → List ℕ
bytes_of Empty = []
bytes_of (One a) = a ∷ []
bytes_of (Two a b) = a ∷ b ∷ []
bytes_of (Three a b c) = a ∷ b ∷ c ∷ []
bytes_of (Four a b c d) = a ∷ b ∷ c ∷ d ∷ []

abbrev pub behind : Packet → Packet
behind Empty = Empty
behind (One a) = Empty
behind (Two a b) = One b
behind (Three a b c) = Two b c
behind (Four a b c d) = Three b c d

abbrev pub or_else : Packet → Packet → Packet
or_else Empty q = q
or_else (One a) q = One a
or_else (Two a b) q = Two a b
or_else (Three a b c) q = Three a b c
or_else (Four a b c d) q = Four a b c d
