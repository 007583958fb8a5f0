-- Status: the byte at port 64h, and what a host sees in it.
--   status s       bit 0 output buffer full, bit 1 input buffer full, bits 7 to 2 by the output entry
--   interrupts s   IRQ 1 and IRQ 12
--   tagged p n     a status names the port: bits 0 and 5 set, the port's number in bits 7 and 6
--   error_bit n    bit 2
use Rattle.std.specs.Prelude.{ℕ, ◌+◌, ◌/◌, ◌%◌, Bool, true, false, not, ◌&&◌, Some, None, Option, ◌==◌}
use Rattle.parts.specs.declared.lines.Port.{Port}
use Rattle.parts.specs.declared.settings.Mode.{Mode}
use Rattle.parts.specs.declared.output.Shown.{Shown}
use Rattle.parts.specs.Lines.{is_port}
use Rattle.parts.specs.Settings.{clear}
use Rattle.parts.specs.Outputs.{is_aux, worth, line_bits}
use Rattle.rules.specs.Banks.{Kinds}
use Rattle.rules.specs.States.{State}

-- whether there is one
abbrev pub present : {A : Type 0} → Option A → Bool
present None = false
present (Some a) = true

-- bits 7 to 5, 2 and 0, by the output buffer
abbrev pub output_bits : Mode → Bool → Option Shown → ℕ
output_bits m flag None = worth flag 4
output_bits m flag (Some o) = line_bits m flag o.line o.entry + 1

-- by the mode, the System Flag, whether a host byte waits, and the output buffer
abbrev pub status_of : Mode → Bool → Bool → Option Shown → ℕ
status_of m flag waits o = output_bits m flag o + worth waits 2

abbrev pub status : {K : Kinds} → State K → ℕ
status s = status_of s.settings.mode (not (clear 4 s.settings.command)) (present s.dialog.input) s.output

-- IRQ 1 for an entry of the keyboard or the controller, if command bit 0 is set; IRQ 12 for an AUX entry, if bit 1 is
abbrev pub interrupts_by : Option Shown → ℕ → Bool × Bool
interrupts_by None c = (false, false)
interrupts_by (Some o) c = (not (is_aux o.line) && not (clear 1 c), is_aux o.line && not (clear 2 c))

abbrev pub interrupts : {K : Kinds} → State K → Bool × Bool
interrupts s = interrupts_by s.output s.settings.command

abbrev pub tagged : Port → ℕ → Bool
tagged p n = n % 2 == 1 && (n / 32 % 2 == 1 && is_port p (n / 64))

abbrev pub error_bit : ℕ → Bool
error_bit n = n / 4 % 2 == 1
