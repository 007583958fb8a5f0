-- A lone cable: a device with one held place, and the list of what was heard from it.
--   Cable k       the cable of a device of kind k
--   Step          what happens on it
--   play c x      a step; play_all c xs, a list of them, the first one first
--   TakenAt c e   a take moves this entry: it is held, or else the device's next
use Rattle.std.specs.Prelude.{◌≡◌, ℕ, Bool, true, false, ◌⊎◌, List, [], ◌∷◌, ◌++◌, Some, None, Option}
use Rattle.ps2.specs.declared.entry.Entry.{Entry}
use Rattle.ps2.specs.declared.entry.Entry.TheVariants.{Byte, Timeout}
use Rattle.ps2.specs.Events.{Happening}
use Rattle.ps2.specs.Kinds.{Kind, first}

pub record Cable (k : Kind) : Type 0 where
  pub value : k.Value
  pub held : Option Entry
  pub heard : List Entry

pub data Step : Type 0 where
  send : ℕ → Step
  force : ℕ → Step
  occur : Happening → Step
  take : Step

-- the list of an entry, or of none
abbrev pub listed : Option Entry → List Entry
listed None = []
listed (Some e) = e ∷ []

module _ {k : Kind} where
  -- a send gives the device a byte; if it is not taken, a timeout is held
  abbrev pub sent_if : Bool → ℕ → Cable k → Cable k
  sent_if true b c = record { value = k.received c.value b; held = c.held; heard = c.heard }
  sent_if false b c = record { value = c.value; held = Some Timeout; heard = c.heard }

  -- an event reaches the device, if it has room
  abbrev pub occurs_if : Bool → Happening → Cable k → Cable k
  occurs_if true e c = record { value = k.happened c.value e; held = c.held; heard = c.heard }
  occurs_if false e c = c

  -- a take moves the held entry, or else the device's next entry, if any, to the end of the list
  abbrev pub takes : Option Entry → Cable k → Cable k
  takes (Some e) c = record { value = c.value; held = None; heard = c.heard ++ (e ∷ []) }
  takes None c = record { value = k.given c.value; held = None; heard = c.heard ++ listed (first (k.waiting c.value)) }

  abbrev pub play : Cable k → Step → Cable k
  play c (send b) = sent_if (k.takes c.value b) b c
  play c (force b) = record { value = c.value; held = Some (Byte b); heard = c.heard }
  play c (occur e) = occurs_if (k.room c.value e) e c
  play c take = takes c.held c

  abbrev pub play_all : Cable k → List Step → Cable k
  play_all c [] = c
  play_all c (x ∷ xs) = play_all (play c x) xs

  abbrev pub TakenAt : Cable k → Entry → Type 0
  TakenAt c e = (c.held ≡ Some e) ⊎ ((c.held ≡ None) × (first (k.waiting c.value) ≡ Some e))
