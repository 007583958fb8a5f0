-- Controllers: the state of a controller over five devices.
--   state_by m0 .. m4   of these models
use Rattle.ps2.specs.Kinds.{Model}
use Rattle.rules.specs.States.{State}
use Rattle.bank.specs.Fives.{kinds_of, values_of}
use Rattle.kbc.specs.Chips.{state_of}
use Rattle.controller.specs.declared.Controller.{Controller}

abbrev pub state_by : {P0 P1 P2 P3 P4 : Type 0} (m0 : Model P0) (m1 : Model P1) (m2 : Model P2) (m3 : Model P3) (m4 : Model P4) → Controller P0 P1 P2 P3 P4 → State (kinds_of m0 m1 m2 m3 m4)
state_by m0 m1 m2 m3 m4 c = state_of (values_of m0 m1 m2 m3 m4) c.chip
