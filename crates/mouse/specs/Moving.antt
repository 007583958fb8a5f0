-- Moving: what a mouse makes of a movement.
--   sampled m x y w b   buttons recorded, counters moved; the wheel counts under ID 3 and 4 only
--   reports m           whether a packet is to be queued: Stream mode, not wrapped, reporting enabled, nothing
--                       waits, and a counter or flag is set or the shown buttons differ from those last reported
--   queued m            the packet waits, scaled if 2:1; counters are reset, and the shown buttons are reported
use Rattle.std.specs.Prelude.{ℕ, Bool, true, false, cond, not, ◌&&◌, ◌||◌, ℤ, ◌==◌, unsigned_abs}
use Rattle.mouse.specs.declared.counters.Axis.{Axis}
use Rattle.mouse.specs.declared.counters.Counters.{Counters}
use Rattle.mouse.specs.declared.packet.Packet.{Packet}
use Rattle.mouse.specs.declared.settings.Identity.{Identity}
use Rattle.mouse.specs.declared.settings.Identity.TheVariants.{Standard, Wheel, FiveButtons}
use Rattle.mouse.specs.declared.settings.Mode.{Mode}
use Rattle.mouse.specs.declared.settings.Mode.TheVariants.{Stream, Remote}
use Rattle.mouse.specs.declared.mouse.Awaited.{Awaited}
use Rattle.mouse.specs.declared.mouse.Awaited.TheVariants as next
use Rattle.mouse.specs.declared.mouse.Mouse.{Mouse}
use Rattle.mouse.specs.declared.mouse.Answer.{Answer}
use Rattle.ps2.specs.Kinds.{nonempty}
use Rattle.mouse.specs.Packets.{bytes_of}
use Rattle.mouse.specs.Counters.{axis_moved, wheel_moved}
use Rattle.mouse.specs.Reports.{scaled, shown_buttons, movement_packet}
use Rattle.mouse.specs.Mice.{still}

abbrev pub wheel_counted : Identity → ℤ → ℤ → ℤ
wheel_counted Standard w d = w
wheel_counted Wheel w d = wheel_moved w d
wheel_counted FiveButtons w d = wheel_moved w d

abbrev pub counters_moved : Identity → Counters → ℤ → ℤ → ℤ → Counters
counters_moved id c x y w = record { x = axis_moved c.x x; y = axis_moved c.y y; wheel = wheel_counted id c.wheel w }

abbrev pub sampled : Mouse → ℤ → ℤ → ℤ → ℕ → Mouse
sampled m x y w b = record {
  variant = m.variant;
  settings = m.settings;
  awaited = m.awaited;
  knock = m.knock;
  answer = m.answer;
  motion = record { counters = counters_moved m.knock.id m.motion.counters x y w; buttons = b; reported = m.motion.reported };
}

abbrev pub axis_set : Axis → Bool
axis_set a = a.overflow || not (unsigned_abs a.count == 0)

abbrev pub counters_set : Counters → Bool
counters_set c = axis_set c.x || (axis_set c.y || not (unsigned_abs c.wheel == 0))

abbrev pub streams : Mode → Bool
streams Stream = true
streams Remote = false

-- Wrap mode: the next byte is echoed
abbrev pub wraps : Awaited → Bool
wraps next.Command = false
wraps next.Rate = false
wraps next.Resolution = false
wraps next.Echo = true

abbrev pub silent : Answer → Bool
silent a = not a.acknowledges && not (nonempty (bytes_of a.packet))

abbrev pub news : Mouse → Bool
news m = counters_set m.motion.counters || not (shown_buttons m.knock.id m.motion.buttons == m.motion.reported)

abbrev pub free : Mouse → Bool
free m = streams m.settings.mode && (not (wraps m.awaited) && (m.settings.reporting && silent m.answer))

abbrev pub reports : Mouse → Bool
reports m = free m && news m

abbrev pub shown_counters : Bool → Counters → Counters
shown_counters true c = record { x = scaled c.x; y = scaled c.y; wheel = c.wheel }
shown_counters false c = c

abbrev pub stream_packet : Mouse → Packet
stream_packet m = movement_packet m.knock.id (shown_counters m.settings.doubled m.motion.counters) m.motion.buttons

abbrev pub queued : Mouse → Mouse
queued m = record {
  variant = m.variant;
  settings = m.settings;
  awaited = m.awaited;
  knock = m.knock;
  motion = record { counters = still; buttons = m.motion.buttons; reported = shown_buttons m.knock.id m.motion.buttons };
  answer = record { acknowledges = false; packet = stream_packet m; last = stream_packet m };
}

abbrev pub reported : Mouse → Mouse
reported m = cond (reports m) (queued m) m

abbrev pub moved : Mouse → ℤ → ℤ → ℤ → ℕ → Mouse
moved m x y w b = reported (sampled m x y w b)
