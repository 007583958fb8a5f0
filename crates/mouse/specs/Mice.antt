-- Mice: a mouse as power-up or a Reset leaves it.
--   still       no movement
--   began v a   defaults, ID 0, no movement, no buttons, no rates; AAh 00h waits, behind an FAh if a
use Rattle.std.specs.Prelude.{Bool, false, pos}
use Rattle.mouse.specs.declared.counters.Axis.{Axis}
use Rattle.mouse.specs.declared.counters.Counters.{Counters}
use Rattle.mouse.specs.declared.packet.Packet.TheVariants.{Empty, Two}
use Rattle.mouse.specs.declared.settings.Variant.{Variant}
use Rattle.mouse.specs.declared.settings.Identity.TheVariants.{Standard}
use Rattle.mouse.specs.declared.mouse.Awaited.TheVariants.{Command}
use Rattle.mouse.specs.declared.mouse.Mouse.{Mouse}
use Rattle.mouse.specs.Settings.{defaults}

abbrev pub still_axis : Axis
still_axis = record { count = pos 0; overflow = false }

abbrev pub still : Counters
still = record { x = still_axis; y = still_axis; wheel = pos 0 }

abbrev pub began : Variant → Bool → Mouse
began v a = record {
  variant = v;
  settings = defaults;
  awaited = Command;
  knock = record { id = Standard; rates = (0, 0, 0) };
  motion = record { counters = still; buttons = 0; reported = 0 };
  answer = record { acknowledges = a; packet = Two 0xAA 0; last = Empty };
}
