-- Entries: what a device gives.
--   shows e      the byte that a host reads for an entry
--   entries bs   good bytes as entries
--   ahead a bs   the same, behind an acknowledge (FAh) if a
use Rattle.std.specs.Prelude.{ℕ, Bool, true, false, List, [], ◌∷◌}
use Rattle.ps2.specs.declared.entry.Entry.{Entry}
use Rattle.ps2.specs.declared.entry.Entry.TheVariants.{Byte, Parity, Timeout}

abbrev pub shows : Entry → ℕ
shows (Byte b) = b
shows Parity = 0xFF
shows Timeout = 0xFE

abbrev pub entries : List ℕ → List Entry
entries [] = []
entries (b ∷ bs) = Byte b ∷ entries bs

abbrev pub ahead : Bool → List ℕ → List Entry
ahead true bs = Byte 0xFA ∷ entries bs
ahead false bs = entries bs
