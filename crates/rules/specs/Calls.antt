-- Calls: what each call answers, and the state after it.
--   became r t s   the state after an answer: t, or s as it was where the call is refused
--   read_answer, read_after; command_answer, command_after; data_answer, data_after; event_answer, event_after
use Rattle.std.specs.Prelude.{ℕ, Bool, true, false, not, ◌&&◌, Some, None, Ok, Err, Option, Result}
use Rattle.ps2.specs.declared.refusal.Refusal.{Refusal}
use Rattle.ps2.specs.declared.refusal.Refusal.TheVariants.{UnknownCommand, NoSuchLine, FieldOutOfRange, OutputEmpty, InputFull, PrefixInLegacy}
use Rattle.ps2.specs.Refusals.{refusing}
use Rattle.ps2.specs.Entries.{shows}
use Rattle.ps2.specs.Events.{Happening, in_range}
use Rattle.ps2.specs.Kinds.{room_answer}
use Rattle.parts.specs.declared.lines.Line.{Line}
use Rattle.parts.specs.declared.settings.Mode.{Mode}
use Rattle.parts.specs.declared.settings.Mode.TheVariants.{Legacy, Multiplexed}
use Rattle.parts.specs.declared.dialog.Command.{Command}
use Rattle.parts.specs.declared.dialog.HostByte.{HostByte}
use Rattle.parts.specs.declared.dialog.HostByte.TheVariants as host
use Rattle.parts.specs.declared.output.Shown.{Shown}
use Rattle.parts.specs.Lines.{line_number, device_line}
use Rattle.rules.specs.Banks.{Kinds, Values, ask, change}
use Rattle.rules.specs.States.{State, mode_of, with_output, with_input, with_devices}
use Rattle.rules.specs.Status.{present}
use Rattle.parts.specs.Commands.{decoded, is_prefix}

abbrev pub became : {A S : Type 0} → Result A Refusal → S → S → S
became (Ok a) t s = t
became (Err e) t s = s

-- whether a mode is Legacy
abbrev pub is_legacy : Mode → Bool
is_legacy Legacy = true
is_legacy Multiplexed = false

-- the byte of an output entry
abbrev pub read_of : Option Shown → Result ℕ Refusal
read_of None = Err OutputEmpty
read_of (Some o) = Ok (shows o.entry)

-- the command in the input buffer, once it is accepted
abbrev pub input_of : Option Command → Option HostByte
input_of None = None
input_of (Some c) = Some (host.Command c)

-- whether the device of a line has room for an event
abbrev pub room_at : {K : Kinds} → Values K → Line → Happening → Bool
room_at v l e = ask v l (λ k x. k.room x e) true

-- the devices after an event at a line
abbrev pub happened_at : {K : Kinds} → Values K → Line → Happening → Values K
happened_at v l e = change v (line_number l) (λ k x. k.happened x e)

-- the devices after an event at the line of a number, if it has one
abbrev pub event_to : {K : Kinds} → Option Line → Values K → Happening → Values K
event_to None v e = v
event_to (Some l) v e = happened_at v l e

-- the line is judged first, then the fields, then the room
abbrev pub event_at : {K : Kinds} → Option Line → Values K → Happening → Result (Unit {0}) Refusal
event_at None v e = Err NoSuchLine
event_at (Some l) v e = refusing (not (in_range e)) FieldOutOfRange (room_answer (room_at v l e))

module _ {K : Kinds} where
  abbrev pub read_answer : State K → Result ℕ Refusal
  read_answer s = read_of s.output

  abbrev pub read_after : State K → State K
  read_after s = became (read_answer s) (with_output None s) s

  abbrev pub command_answer : ℕ → State K → Result (Unit {0}) Refusal
  command_answer b s =
      refusing (not (present (decoded s.dialog.awaited b))) UnknownCommand
      (refusing (present s.dialog.input) InputFull
      (refusing (is_prefix b && is_legacy (mode_of s)) PrefixInLegacy (Ok tt)))

  abbrev pub command_after : ℕ → State K → State K
  command_after b s = became (command_answer b s) (with_input (input_of (decoded s.dialog.awaited b)) s) s

  abbrev pub data_answer : State K → Result (Unit {0}) Refusal
  data_answer s = refusing (present s.dialog.input) InputFull (Ok tt)

  abbrev pub data_after : ℕ → State K → State K
  data_after b s = became (data_answer s) (with_input (Some (host.Data b)) s) s

  abbrev pub event_answer : ℕ → Happening → State K → Result (Unit {0}) Refusal
  event_answer n e s = event_at (device_line n) s.devices e

  abbrev pub event_after : ℕ → Happening → State K → State K
  event_after n e s = became (event_answer n e s) (with_devices (event_to (device_line n) s.devices e) s) s
