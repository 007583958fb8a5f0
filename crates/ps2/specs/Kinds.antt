-- Kinds: what any device means. A kind has values; it tells of each what waits, which bytes are taken,
-- which events have room, and what it becomes.
--   first es, rest es   the entry that waits first, and the entries behind it
--   nonempty es         whether any waits
--   chosen t new old    new where t holds, else old: what is refused changes nothing
--   Kind                a kind of device, with the laws that every kind keeps
--   Model S             the kind of the device type S, and the value that each S stands for
use Rattle.std.specs.Prelude.{◌≡◌, ℕ, Bool, true, false, List, [], ◌∷◌, Some, None, Ok, Err, Option, Result}
use Rattle.ps2.specs.declared.entry.Entry.{Entry}
use Rattle.ps2.specs.declared.refusal.Refusal.{Refusal}
use Rattle.ps2.specs.declared.refusal.Refusal.TheVariants.{NoRoom}
use Rattle.ps2.specs.Events.{Happening}

abbrev pub nonempty : {A : Type 0} → List A → Bool
nonempty [] = false
nonempty (x ∷ xs) = true

abbrev pub first : {A : Type 0} → List A → Option A
first [] = None
first (x ∷ xs) = Some x

abbrev pub rest : {A : Type 0} → List A → List A
rest [] = []
rest (x ∷ xs) = xs

abbrev pub chosen : {A : Type 0} → Bool → A → A → A
chosen true new old = new
chosen false new old = old

abbrev pub room_answer : Bool → Result (Unit {0}) Refusal
room_answer true = Ok tt
room_answer false = Err NoRoom

pub record Kind : Type 1 where
  pub Value : Type 0
  -- what waits to be given, next one first
  pub waiting : Value → List Entry
  -- whether a host byte is taken, and an event has room
  pub takes : Value → ℕ → Bool
  pub room : Value → Happening → Bool
  -- the value after power-up, giving, a taken byte and an accepted event
  pub powered : Value → Value
  pub given : Value → Value
  pub received : Value → ℕ → Value
  pub happened : Value → Happening → Value
  -- giving leaves the rest; with nothing waiting it changes nothing; after a taken byte something waits
  pub given_rest : (v : Value) → waiting (given v) ≡ rest (waiting v)
  pub given_none : (v : Value) → waiting v ≡ [] → given v ≡ v
  pub taken_waits : (v : Value) (b : ℕ) → takes v b ≡ true → nonempty (waiting (received v b)) ≡ true

pub record Model (S : Type 0) : Type 1 where
  pub kind : Kind
  pub meaning : S → kind.Value
