-- Settings: the mode, the command byte and the ports' flags.
--   new_settings              Legacy mode, each number and flag 0
--   disabling g, enabling g   a gate is closed or opened: bit 4 for the keyboard, bit 5 for AUX, a port's own flag
--   line_open g l             open are a port in Multiplexed mode by bit 5 and its flag, port 0 in Legacy mode by bit 5,
--                             the keyboard by bit 4
use Rattle.std.specs.Prelude.{ℕ, Bool, true, false, not, ◌&&◌, List, [], ◌∷◌, ◌==◌, bit_and, bit_or, slice_index_or, slice_set}
use Rattle.parts.specs.declared.lines.Line.{Line}
use Rattle.parts.specs.declared.lines.Line.TheVariants.{Aux, Keyboard, Controller}
use Rattle.parts.specs.declared.lines.Port.{Port}
use Rattle.parts.specs.declared.settings.Mode.{Mode}
use Rattle.parts.specs.declared.settings.Mode.TheVariants.{Legacy, Multiplexed}
use Rattle.parts.specs.declared.settings.Gate.{Gate}
use Rattle.parts.specs.declared.settings.Gate.TheVariants as gate
use Rattle.parts.specs.declared.settings.Settings.{Settings}
use Rattle.parts.specs.Lines.{port_number}

-- the four flags clear
abbrev pub no_flags : List Bool
no_flags = false ∷ (false ∷ (false ∷ (false ∷ [])))

abbrev pub new_settings : Settings
new_settings = record { mode = Legacy; command = 0; disabled = no_flags }

-- the settings but for the command byte or the flags
abbrev pub with_command : ℕ → Settings → Settings
with_command c g = record { mode = g.mode; command = c; disabled = g.disabled }

abbrev pub with_flags : List Bool → Settings → Settings
with_flags f g = record { mode = g.mode; command = g.command; disabled = f }

abbrev pub disabling : Gate → Settings → Settings
disabling gate.Keyboard g = with_command (bit_or g.command 0x10) g
disabling gate.Aux g = with_command (bit_or g.command 0x20) g
disabling (gate.OnePort p) g = with_flags (slice_set g.disabled (port_number p) true) g

abbrev pub enabling : Gate → Settings → Settings
enabling gate.Keyboard g = with_command (bit_and g.command 0xef) g
enabling gate.Aux g = with_command (bit_and g.command 0xdf) g
enabling (gate.OnePort p) g = with_flags (slice_set g.disabled (port_number p) false) g

-- whether a bit of the command byte is clear
abbrev pub clear : ℕ → ℕ → Bool
clear bit c = bit_and c bit == 0

-- whether a port is open in a mode
abbrev pub port_open : Mode → Settings → Port → Bool
port_open Legacy g p = port_number p == 0 && clear 0x20 g.command
port_open Multiplexed g p = clear 0x20 g.command && not (slice_index_or g.disabled (port_number p) false)

abbrev pub line_open : Settings → Line → Bool
line_open g (Aux p) = port_open g.mode g p
line_open g Keyboard = clear 0x10 g.command
line_open g Controller = false
