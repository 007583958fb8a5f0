-- Outputs: what stands beside an entry in the status, and the numbers of a turn's answer.
--   faulty e               a parity fault or a timeout
--   line_bits m flag l e   bits 7 to 2 beside an entry of a line, by the mode and the System Flag
--   carried_number c       the number of what became of the host byte
use Rattle.std.specs.Prelude.{ℕ, ◌+◌, ◌*◌, Bool, true, false, cond}
use Rattle.ps2.specs.declared.entry.Entry.{Entry}
use Rattle.ps2.specs.declared.entry.Entry.TheVariants.{Byte, Parity, Timeout}
use Rattle.parts.specs.declared.lines.Line.{Line}
use Rattle.parts.specs.declared.lines.Line.TheVariants.{Aux, Keyboard, Controller}
use Rattle.parts.specs.declared.lines.Port.{Port}
use Rattle.parts.specs.declared.settings.Mode.{Mode}
use Rattle.parts.specs.declared.settings.Mode.TheVariants.{Legacy, Multiplexed}
use Rattle.parts.specs.declared.output.Carried.{Carried}
use Rattle.parts.specs.declared.output.Carried.TheVariants.{NoByte, Stays, CarriedOut, NowMultiplexed, NowLegacy}
use Rattle.parts.specs.Lines.{port_number}

abbrev pub carried_number : Carried → ℕ
carried_number NoByte = 0
carried_number Stays = 1
carried_number CarriedOut = 2
carried_number NowMultiplexed = 3
carried_number NowLegacy = 4

-- lines 0 to 3
abbrev pub is_aux : Line → Bool
is_aux (Aux p) = true
is_aux Keyboard = false
is_aux Controller = false

-- n where the test holds, else 0
abbrev pub worth : Bool → ℕ → ℕ
worth t n = cond t n 0

abbrev pub faulty : Entry → Bool
faulty (Byte b) = false
faulty Parity = true
faulty Timeout = true

-- parity in bit 7, timeout in bit 6
abbrev pub fault_bits : Entry → ℕ
fault_bits (Byte b) = 0
fault_bits Parity = 128
fault_bits Timeout = 64

-- in Legacy mode bits 5 and 2 are set; in Multiplexed mode the port's number, bit 5, and bit 2 for a fault
abbrev pub aux_bits : Mode → Port → Entry → ℕ
aux_bits Legacy p e = fault_bits e + 36
aux_bits Multiplexed p e = 64 * port_number p + (32 + worth (faulty e) 4)

abbrev pub line_bits : Mode → Bool → Line → Entry → ℕ
line_bits m flag (Aux p) e = aux_bits m p e
line_bits m flag Keyboard e = fault_bits e + worth flag 4
line_bits m flag Controller e = fault_bits e + worth flag 4
