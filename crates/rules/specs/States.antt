-- States: all that a controller keeps.
--   State K      a controller above devices of the five kinds K
--   power_on v   a new one: Legacy mode, each number and flag 0, the rest empty, devices powered up
--   with_..      the same state but for one part
use Rattle.std.specs.Prelude.{None, Option}
use Rattle.parts.specs.declared.lines.Line.{Line}
use Rattle.parts.specs.declared.lines.Line.TheVariants.{Aux}
use Rattle.parts.specs.declared.lines.Port.TheVariants.{P0}
use Rattle.parts.specs.declared.settings.Mode.{Mode}
use Rattle.parts.specs.declared.settings.Settings.{Settings}
use Rattle.parts.specs.declared.dialog.HostByte.{HostByte}
use Rattle.parts.specs.declared.dialog.Dialog.{Dialog}
use Rattle.parts.specs.declared.output.Shown.{Shown}
use Rattle.parts.specs.Settings.{new_settings}
use Rattle.parts.specs.Commands.{new_dialog}
use Rattle.parts.specs.Held.{Held, none_held}
use Rattle.rules.specs.Banks.{Kinds, Values, powered}

pub record State (K : Kinds) : Type 0 where
  pub settings : Settings
  pub dialog : Dialog
  pub output : Option Shown
  -- the line at which the arbiter begins
  pub next : Line
  pub held : Held
  pub devices : Values K

abbrev pub power_on : {K : Kinds} → Values K → State K
power_on v = record { settings = new_settings; dialog = new_dialog; output = None; next = Aux P0; held = none_held; devices = powered v }

module _ {K : Kinds} where
  -- the mode of a controller
  abbrev pub mode_of : State K → Mode
  mode_of s = s.settings.mode

  abbrev pub with_settings : Settings → State K → State K
  with_settings x s = record { settings = x; dialog = s.dialog; output = s.output; next = s.next; held = s.held; devices = s.devices }

  abbrev pub with_dialog : Dialog → State K → State K
  with_dialog x s = record { settings = s.settings; dialog = x; output = s.output; next = s.next; held = s.held; devices = s.devices }

  abbrev pub with_output : Option Shown → State K → State K
  with_output x s = record { settings = s.settings; dialog = s.dialog; output = x; next = s.next; held = s.held; devices = s.devices }

  abbrev pub with_next : Line → State K → State K
  with_next x s = record { settings = s.settings; dialog = s.dialog; output = s.output; next = x; held = s.held; devices = s.devices }

  abbrev pub with_held : Held → State K → State K
  with_held x s = record { settings = s.settings; dialog = s.dialog; output = s.output; next = s.next; held = x; devices = s.devices }

  abbrev pub with_devices : Values K → State K → State K
  with_devices x s = record { settings = s.settings; dialog = s.dialog; output = s.output; next = s.next; held = s.held; devices = x }

  abbrev pub with_mode : Mode → State K → State K
  with_mode m s = with_settings (record { mode = m; command = s.settings.command; disabled = s.settings.disabled }) s

  abbrev pub with_input : Option HostByte → State K → State K
  with_input i s = with_dialog (record { input = i; awaited = s.dialog.awaited; place = s.dialog.place }) s
