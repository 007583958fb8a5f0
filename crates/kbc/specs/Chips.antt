-- Chips: the state of a controller above its devices. (A `Model` of Chip cannot say it: its value's type would name a
-- member of the bank's bound.)
--   state_of f c   the state of c, f being the values of its devices
use Rattle.parts.specs.Held.{held_of}
use Rattle.rules.specs.Banks.{Kinds, Values}
use Rattle.rules.specs.States.{State}
use Rattle.kbc.specs.declared.chip.Chip.{Chip}

abbrev pub state_of : {B : Type 0} {K : Kinds} → (B → Values K) → Chip B → State K
state_of f c = record { settings = c.settings; dialog = c.dialog; output = c.output; next = c.next; held = held_of c.lines; devices = f c.devices }
