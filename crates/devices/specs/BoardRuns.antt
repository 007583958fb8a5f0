-- What a board keeps over every run, read from calls and answers alone.
--   owed h           whether a byte was taken since the last giving: the next entry given is its acknowledge
--   strokes_in h     the bytes of the accepted strokes, in order
--   strokes_out h    the stroke bytes given, in order: what was given where no acknowledge was owed
--   taken h          how many host bytes were taken
--   acknowledged h   how many of them were given their FAh
use Rattle.std.specs.Prelude.{◌≡◌, ℕ, ◌+◌, Bool, true, false, cond, ◌&&◌, List, [], ◌∷◌, ◌++◌, Some, None, ◌==◌}
use Rattle.ps2.specs.declared.entry.Entry.TheVariants.{Byte, Parity, Timeout}
use Rattle.ps2.specs.Events.{movement, stroke, pull, plug}
use Rattle.ps2.specs.Runs.{Call, gives, receives, happens, Ran}
use Rattle.devices.specs.Boards.{BoardValue, board_kind}

abbrev pub owed : List Call → Bool
owed [] = false
owed (gives e ∷ h) = false
owed (receives b true ∷ h) = true
owed (receives b false ∷ h) = owed h
owed (happens e a ∷ h) = owed h

abbrev pub strokes_in : List Call → List ℕ
strokes_in [] = []
strokes_in (happens (stroke bs) true ∷ h) = strokes_in h ++ bs
strokes_in (happens (stroke bs) false ∷ h) = strokes_in h
strokes_in (happens (movement x y w b) a ∷ h) = strokes_in h
strokes_in (happens pull a ∷ h) = strokes_in h
strokes_in (happens plug a ∷ h) = strokes_in h
strokes_in (gives e ∷ h) = strokes_in h
strokes_in (receives b t ∷ h) = strokes_in h

abbrev pub strokes_out : List Call → List ℕ
strokes_out [] = []
strokes_out (gives (Some (Byte b)) ∷ h) = cond (owed h) (strokes_out h) (strokes_out h ++ (b ∷ []))
strokes_out (gives (Some Parity) ∷ h) = strokes_out h
strokes_out (gives (Some Timeout) ∷ h) = strokes_out h
strokes_out (gives None ∷ h) = strokes_out h
strokes_out (receives b t ∷ h) = strokes_out h
strokes_out (happens e a ∷ h) = strokes_out h

abbrev pub taken : List Call → ℕ
taken [] = 0
taken (receives b t ∷ h) = taken h + cond t 1 0
taken (gives e ∷ h) = taken h
taken (happens e a ∷ h) = taken h

abbrev pub acknowledged : List Call → ℕ
acknowledged [] = 0
acknowledged (gives (Some (Byte b)) ∷ h) = acknowledged h + cond (owed h && b == 0xFA) 1 0
acknowledged (gives (Some Parity) ∷ h) = acknowledged h
acknowledged (gives (Some Timeout) ∷ h) = acknowledged h
acknowledged (gives None ∷ h) = acknowledged h
acknowledged (receives b t ∷ h) = acknowledged h
acknowledged (happens e a ∷ h) = acknowledged h

-- stroke bytes given, then those waiting, are the accepted strokes; an FAh was given or waits for each byte taken
pub record Kept (h : List Call) (v : BoardValue) : Type 0 where
  pub strokes : strokes_out h ++ v.strokes ≡ strokes_in h
  pub acknowledges : acknowledged h + cond v.acknowledges 1 0 ≡ taken h

-- nothing that a board accepted is lost or given twice, after every run from power-up
abbrev pub LosesNothing : Type 0
LosesNothing = (h : List Call) (v : BoardValue) → Ran board_kind h v → Kept h v
