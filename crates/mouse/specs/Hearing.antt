-- Hearing: what a mouse makes of a byte from the host.
--   replied p m     an FAh, then a packet; counters are reset; a Resend repeats the packet, or the FAh alone
--   echoed b m      the byte alone; counters are reset
--   resent m        the last packet again, or AAh 00h if there is none; nothing else changes
--   commanded c m   the answer to a command
--   heard m b       the answer to a byte: FFh is a Reset everywhere; else in Wrap mode all but ECh is echoed;
--                   else it is the argument awaited, or a command
use Rattle.std.specs.Prelude.{ℕ, true, false, cond, Some, None, Option, ◌==◌, nat_le}
use Rattle.mouse.specs.declared.packet.Packet.{Packet}
use Rattle.mouse.specs.declared.packet.Packet.TheVariants.{Empty, One, Two}
use Rattle.mouse.specs.declared.mouse.Mouse.{Mouse}
use Rattle.mouse.specs.declared.mouse.Motion.{Motion}
use Rattle.mouse.specs.declared.mouse.Awaited.{Awaited}
use Rattle.mouse.specs.declared.mouse.Awaited.TheVariants as next
use Rattle.mouse.specs.declared.command.Command.{Command}
use Rattle.mouse.specs.declared.command.Command.TheVariants.{Scale1To1, Scale2To1, SetResolution, StatusRequest, SetStream, ReadData, ResetWrap, SetWrap, SetRemote, GetId, SetRate, Enable, Disable, SetDefaults, Resend}
use Rattle.mouse.specs.declared.settings.Settings.{Settings}
use Rattle.mouse.specs.declared.settings.Knock.{Knock}
use Rattle.mouse.specs.declared.settings.Mode.TheVariants.{Stream, Remote}
use Rattle.mouse.specs.Settings.{id_of, defaults, listed_rate, knocked, mode_to, reporting_to, doubled_to, resolution_to, rate_to}
use Rattle.mouse.specs.Packets.{or_else}
use Rattle.mouse.specs.Reports.{shown_buttons, movement_packet, status_packet}
use Rattle.mouse.specs.Commands.{command_of}
use Rattle.mouse.specs.Mice.{still, began}

abbrev pub cleared : Motion → Motion
cleared m = record { counters = still; buttons = m.buttons; reported = m.reported }

abbrev pub replied : Packet → Mouse → Mouse
replied p m = record {
  variant = m.variant;
  settings = m.settings;
  awaited = m.awaited;
  knock = m.knock;
  motion = cleared m.motion;
  answer = record { acknowledges = true; packet = p; last = or_else p (One 0xFA) };
}

abbrev pub echoed : ℕ → Mouse → Mouse
echoed b m = record {
  variant = m.variant;
  settings = m.settings;
  awaited = m.awaited;
  knock = m.knock;
  motion = cleared m.motion;
  answer = record { acknowledges = false; packet = One b; last = One b };
}

abbrev pub resent : Mouse → Mouse
resent m = record {
  variant = m.variant;
  settings = m.settings;
  awaited = m.awaited;
  knock = m.knock;
  motion = m.motion;
  answer = record { acknowledges = false; packet = or_else m.answer.last (Two 0xAA 0); last = m.answer.last };
}

-- a mouse with one part changed
abbrev pub with_settings : Settings → Mouse → Mouse
with_settings s m = record { variant = m.variant; settings = s; awaited = m.awaited; knock = m.knock; motion = m.motion; answer = m.answer }

abbrev pub with_awaited : Awaited → Mouse → Mouse
with_awaited a m = record { variant = m.variant; settings = m.settings; awaited = a; knock = m.knock; motion = m.motion; answer = m.answer }

abbrev pub with_knock : Knock → Mouse → Mouse
with_knock k m = record { variant = m.variant; settings = m.settings; awaited = m.awaited; knock = k; motion = m.motion; answer = m.answer }

abbrev pub with_reported : ℕ → Mouse → Mouse
with_reported b m = record { variant = m.variant; settings = m.settings; awaited = m.awaited; knock = m.knock; motion = record { counters = m.motion.counters; buttons = m.motion.buttons; reported = b }; answer = m.answer }

-- a movement packet as asked for: never scaled, and what it shows is reported
abbrev pub data_read : Mouse → Mouse
data_read m = replied (movement_packet m.knock.id m.motion.counters m.motion.buttons) (with_reported (shown_buttons m.knock.id m.motion.buttons) m)

abbrev pub commanded : Command → Mouse → Mouse
commanded Scale1To1 m = replied Empty (with_settings (doubled_to false m.settings) m)
commanded Scale2To1 m = replied Empty (with_settings (doubled_to true m.settings) m)
commanded SetResolution m = replied Empty (with_awaited next.Resolution m)
commanded StatusRequest m = replied (status_packet m.settings m.motion.buttons) m
commanded SetStream m = replied Empty (with_settings (mode_to Stream m.settings) m)
commanded ReadData m = data_read m
commanded ResetWrap m = replied Empty m
commanded SetWrap m = replied Empty (with_awaited next.Echo m)
commanded SetRemote m = replied Empty (with_settings (mode_to Remote m.settings) m)
commanded GetId m = replied (One (id_of m.knock.id)) m
commanded SetRate m = replied Empty (with_awaited next.Rate m)
commanded Enable m = replied Empty (with_settings (reporting_to true m.settings) m)
commanded Disable m = replied Empty (with_settings (reporting_to false m.settings) m)
commanded SetDefaults m = replied Empty (with_settings defaults m)
commanded Resend m = resent m

-- a byte that is not listed sets nothing
abbrev pub obeyed : Option Command → Mouse → Mouse
obeyed (Some c) m = commanded c m
obeyed None m = replied Empty m

-- an argument that is not listed sets nothing
abbrev pub rated : ℕ → Mouse → Mouse
rated r m = cond (listed_rate r) (with_knock (knocked m.variant m.knock r) (with_settings (rate_to r m.settings) m)) m

abbrev pub resolved : ℕ → Mouse → Mouse
resolved r m = cond (nat_le r 3) (with_settings (resolution_to r m.settings) m) m

abbrev pub argued : Mouse → Mouse
argued m = replied Empty (with_awaited next.Command m)

abbrev pub wrapped_heard : ℕ → Mouse → Mouse
wrapped_heard b m = cond (b == 0xEC) (replied Empty (with_awaited next.Command m)) (echoed b m)

abbrev pub heard_in : Awaited → ℕ → Mouse → Mouse
heard_in next.Command b m = obeyed (command_of b) m
heard_in next.Rate b m = argued (rated b m)
heard_in next.Resolution b m = argued (resolved b m)
heard_in next.Echo b m = wrapped_heard b m

abbrev pub heard : Mouse → ℕ → Mouse
heard m b = cond (b == 0xFF) (began m.variant true) (heard_in m.awaited b m)
