-- Sequence: the arguments that switch between the modes.
--   leads q b     the place after an argument: F0h leads to 1, 56h from 1 to 2, the rest to 0
--   outcome q b   the mode that an argument switches to: at place 2 Multiplexed by A4h, Legacy by A5h
use Rattle.std.specs.Prelude.{ℕ, Bool, true, false, cond, ◌&&◌, Some, None, Option, ◌==◌}
use Rattle.parts.specs.declared.dialog.Place.{Place}
use Rattle.parts.specs.declared.dialog.Place.TheVariants.{Zero, One, Two}
use Rattle.parts.specs.declared.settings.Mode.{Mode}
use Rattle.parts.specs.declared.settings.Mode.TheVariants.{Legacy, Multiplexed}

-- at place 1
abbrev pub is_one : Place → Bool
is_one Zero = false
is_one One = true
is_one Two = false

-- at place 2
abbrev pub is_two : Place → Bool
is_two Zero = false
is_two One = false
is_two Two = true

abbrev pub leads : Place → ℕ → Place
leads q b = cond (b == 0xf0) One (cond (is_one q && b == 0x56) Two Zero)

abbrev pub outcome : Place → ℕ → Option Mode
outcome q b = cond (is_two q && b == 0xa4) (Some Multiplexed) (cond (is_two q && b == 0xa5) (Some Legacy) None)
