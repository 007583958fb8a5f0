-- Events: what happens to a device from outside.
--   Happening    an event as a value, its borrowed bytes read
--   told e       the value of an event of the code
--   in_range e   whether each field is one that an event may have
use Rattle.std.specs.Prelude.{ℕ, Bool, true, ◌&&◌, List, length, ℤ, pos, negsuc, int_le, nat_le}
use Rattle.ps2.specs.declared.event.Event.{Event}
use Rattle.ps2.specs.declared.event.Event.TheVariants.{Movement, Stroke, Pull, Plug}

pub data Happening : Type 0 where
  movement : (dx dy wheel : ℤ) (buttons : ℕ) → Happening
  stroke : (bytes : List ℕ) → Happening
  pull : Happening
  plug : Happening

abbrev pub told : Event → Happening
told (Movement m) = movement m.dx m.dy m.wheel m.buttons
told (Stroke bs) = stroke bs.now
told Pull = pull
told Plug = plug

-- from -255 to 255
abbrev pub axis_in_range : ℤ → Bool
axis_in_range z = int_le (negsuc 254) z && int_le z (pos 255)

-- from -8 to 7
abbrev pub wheel_in_range : ℤ → Bool
wheel_in_range z = int_le (negsuc 7) z && int_le z (pos 7)

abbrev pub movement_in_range : ℤ → ℤ → ℤ → ℕ → Bool
movement_in_range x y w b = axis_in_range x && (axis_in_range y && (wheel_in_range w && nat_le b 31))

abbrev pub in_range : Happening → Bool
in_range (movement x y w b) = movement_in_range x y w b
in_range (stroke bs) = nat_le 1 (length bs) && nat_le (length bs) 16
in_range pull = true
in_range plug = true
