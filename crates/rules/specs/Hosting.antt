-- Hosting: what a host byte does.
--   revert s        Legacy mode; entries of lines 1 to 3 are thrown away, held or in the output buffer
--   obey c s        a command does what the table says
--   argue b s       an argument of the sequence: it is held at port 0, or 11h in its place
--   deliver a b s   a data byte goes to what awaits it
--   carry_out w s   the byte does its work and leaves the input buffer
--   blocked w s     it stays while the held place that it needs is full
use Rattle.std.specs.Prelude.{ℕ, Bool, false, cond, Some, None, Option}
use Rattle.ps2.specs.declared.entry.Entry.TheVariants.{Byte}
use Rattle.parts.specs.declared.lines.Line.{Line}
use Rattle.parts.specs.declared.lines.Line.TheVariants.{Aux, Keyboard, Controller}
use Rattle.parts.specs.declared.lines.Port.TheVariants.{P0}
use Rattle.parts.specs.declared.settings.Mode.{Mode}
use Rattle.parts.specs.declared.settings.Mode.TheVariants.{Legacy, Multiplexed}
use Rattle.parts.specs.declared.dialog.Awaited.{Awaited}
use Rattle.parts.specs.declared.dialog.Awaited.TheVariants.{CommandByte, KeyboardLoopback, AuxLoopback, AuxSend, Route}
use Rattle.parts.specs.declared.dialog.Command.{Command}
use Rattle.parts.specs.declared.dialog.Command.TheVariants.{ReadCommandByte, Await, Disable, Enable, AuxTest, SelfTest, KeyboardTest}
use Rattle.parts.specs.declared.dialog.HostByte.{HostByte}
use Rattle.parts.specs.declared.dialog.HostByte.TheVariants as host
use Rattle.parts.specs.declared.dialog.Place.TheVariants.{Zero}
use Rattle.parts.specs.declared.output.Shown.{Shown}
use Rattle.parts.specs.Lines.{in_legacy}
use Rattle.parts.specs.Settings.{no_flags, with_command, with_flags, disabling, enabling}
use Rattle.parts.specs.Held.{Held, held_at, kept_held}
use Rattle.rules.specs.Banks.{Kinds}
use Rattle.rules.specs.States.{State, with_settings, with_dialog, with_output, with_held, with_mode}
use Rattle.rules.specs.Status.{present}
use Rattle.parts.specs.Sequence.{leads, outcome}
use Rattle.parts.specs.Commands.{with_place, awaits, needs}
use Rattle.rules.specs.Sending.{hold, send}

-- an output entry of a line that Legacy mode has is kept
abbrev pub kept_output : Option Shown → Option Shown
kept_output None = None
kept_output (Some o) = cond (in_legacy o.line) (Some o) None

module _ {K : Kinds} where
  abbrev pub revert : State K → State K
  revert s = with_mode Legacy (with_output (kept_output s.output) (with_held (kept_held s.held) s))

  -- an answer of the controller's own
  abbrev pub answer : ℕ → State K → State K
  answer b s = hold Controller (Byte b) s

  -- D4h reverts at once; the other commands that await a byte do no more
  abbrev pub await : Option Awaited → State K → State K
  await None s = s
  await (Some CommandByte) s = s
  await (Some KeyboardLoopback) s = s
  await (Some AuxLoopback) s = s
  await (Some AuxSend) s = revert s
  await (Some (Route p)) s = s

  abbrev pub obey : Command → State K → State K
  obey ReadCommandByte s = answer s.settings.command s
  obey (Await a) s = await a s
  obey (Disable g) s = with_settings (disabling g s.settings) s
  obey (Enable g) s = with_settings (enabling g s.settings) s
  obey AuxTest s = answer 0x00 (revert s)
  obey SelfTest s = answer 0x55 (with_dialog (with_place Zero s.dialog) (revert s))
  obey KeyboardTest s = answer 0x00 s

  -- both switches hold 11h, version 1.1, in place of the argument; entering clears the four flags
  abbrev pub switch : Option Mode → ℕ → State K → State K
  switch None b s = hold (Aux P0) (Byte b) s
  switch (Some Multiplexed) b s = hold (Aux P0) (Byte 0x11) (with_mode Multiplexed (with_settings (with_flags no_flags s.settings) s))
  switch (Some Legacy) b s = hold (Aux P0) (Byte 0x11) (revert s)

  abbrev pub argue : ℕ → State K → State K
  argue b s = switch (outcome s.dialog.place b) b (with_dialog (with_place (leads s.dialog.place b) s.dialog) s)

  abbrev pub deliver : Option Awaited → ℕ → State K → State K
  deliver None b s = send Keyboard b s
  deliver (Some CommandByte) b s = with_settings (with_command b s.settings) s
  deliver (Some KeyboardLoopback) b s = hold Keyboard (Byte b) s
  deliver (Some AuxLoopback) b s = argue b s
  deliver (Some AuxSend) b s = send (Aux P0) b s
  deliver (Some (Route p)) b s = send (Aux p) b s

  -- what a host byte does, before it leaves the input buffer
  abbrev pub worked : HostByte → State K → State K
  worked (host.Command c) s = obey c s
  worked (host.Data b) s = deliver s.dialog.awaited b s

  -- the input buffer is empty again, and the next data byte is for what this byte awaits
  abbrev pub emptied : Option Awaited → State K → State K
  emptied a s = with_dialog (record { input = None; awaited = a; place = s.dialog.place }) s

  abbrev pub carry_out : HostByte → State K → State K
  carry_out w s = emptied (awaits w) (worked w s)

-- whether a held place is needed and full
abbrev pub full_at : Held → Option Line → Bool
full_at h None = false
full_at h (Some l) = present (held_at h l)

abbrev pub blocked : {K : Kinds} → HostByte → State K → Bool
blocked w s = full_at s.held (needs w s.dialog.awaited)
