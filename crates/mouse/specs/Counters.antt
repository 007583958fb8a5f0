-- Counters: how far the mouse has moved since the last packet.
--   axis_moved a d    a counter after a movement d: within -255 to 255, or it stays and its flag is set
--   wheel_moved w d   the wheel's counter, which stops at -8 and 7
use Rattle.std.specs.Prelude.{Bool, true, false, cond, ◌&&◌, ℤ, pos, negsuc, ◌+ℤ◌, int_le}
use Rattle.std.specs.Int.{int_max, int_min}
use Rattle.mouse.specs.declared.counters.Axis.{Axis}

abbrev pub inside : ℤ → Bool
inside z = int_le (negsuc 254) z && int_le z (pos 255)

abbrev pub axis_moved : Axis → ℤ → Axis
axis_moved a d = cond a.overflow a (cond (inside (a.count +ℤ d)) (record { count = a.count +ℤ d; overflow = false }) (record { count = a.count; overflow = true }))

abbrev pub wheel_moved : ℤ → ℤ → ℤ
wheel_moved w d = int_max (negsuc 7) (int_min (w +ℤ d) (pos 7))
