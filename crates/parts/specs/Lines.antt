-- Lines: AUX ports 0 to 3, the keyboard 4, the controller's own answers 5.
--   port_number p, line_number l   their numbers
--   port_at n                      the port of a number up to 3
--   line_after l                   the line above, with 0 after 5
--   device_line n                  the line of a number, if it has a device
--   in_legacy l                    whether Legacy mode has the line: all but ports 1 to 3
--   is_port p n                    whether a line's number is the port's
use Rattle.std.specs.Prelude.{ℕ, Bool, true, false, cond, Some, None, Option, ◌==◌, nat_le}
use Rattle.parts.specs.declared.lines.Port.{Port}
use Rattle.parts.specs.declared.lines.Port.TheVariants.{P0, P1, P2, P3}
use Rattle.parts.specs.declared.lines.Line.{Line}
use Rattle.parts.specs.declared.lines.Line.TheVariants.{Aux, Keyboard, Controller}

abbrev pub port_number : Port → ℕ
port_number P0 = 0
port_number P1 = 1
port_number P2 = 2
port_number P3 = 3

abbrev pub port_at : ℕ → Port
port_at n = cond (n == 0) P0 (cond (n == 1) P1 (cond (n == 2) P2 P3))

abbrev pub line_number : Line → ℕ
line_number (Aux p) = port_number p
line_number Keyboard = 4
line_number Controller = 5

abbrev pub line_after : Line → Line
line_after (Aux P0) = Aux P1
line_after (Aux P1) = Aux P2
line_after (Aux P2) = Aux P3
line_after (Aux P3) = Keyboard
line_after Keyboard = Controller
line_after Controller = Aux P0

abbrev pub device_line : ℕ → Option Line
device_line n = cond (nat_le n 3) (Some (Aux (port_at n))) (cond (n == 4) (Some Keyboard) None)

abbrev pub in_legacy : Line → Bool
in_legacy (Aux P0) = true
in_legacy (Aux P1) = false
in_legacy (Aux P2) = false
in_legacy (Aux P3) = false
in_legacy Keyboard = true
in_legacy Controller = true

abbrev pub is_port : Port → ℕ → Bool
is_port p n = n == port_number p
