-- Runs: what was asked of a device since its power-up, and what it answered.
--   Call        a call with its answer
--   Ran K h v   the calls h, newest first, led a device of kind K from power-up to the value v
use Rattle.std.specs.Prelude.{ℕ, Bool, List, [], ◌∷◌, Option}
use Rattle.ps2.specs.declared.entry.Entry.{Entry}
use Rattle.ps2.specs.Events.{Happening}
use Rattle.ps2.specs.Kinds.{Kind, first, chosen}

pub data Call : Type 0 where
  gives : Option Entry → Call
  receives : (byte : ℕ) (taken : Bool) → Call
  happens : Happening → (accepted : Bool) → Call

pub data Ran (K : Kind) : List Call → K.Value → Type 0 where
  begun : (v : K.Value) → Ran K [] (K.powered v)
  giving : {h : List Call} (v : K.Value) → Ran K h v → Ran K (gives (first (K.waiting v)) ∷ h) (K.given v)
  receiving : {h : List Call} (v : K.Value) (b : ℕ) → Ran K h v → Ran K (receives b (K.takes v b) ∷ h) (chosen (K.takes v b) (K.received v b) v)
  happening : {h : List Call} (v : K.Value) (e : Happening) → Ran K h v → Ran K (happens e (K.room v e) ∷ h) (chosen (K.room v e) (K.happened v e) v)
