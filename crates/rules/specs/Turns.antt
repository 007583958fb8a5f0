-- Turns: first the waiting host byte; then, unless the mode changed, an empty output buffer is filled.
--   carried, hosted     what became of the host byte, and the state after it
--   gives s l           whether a line has something to give: a held entry, or one in the device of an open line
--   fill_line, filled   the line that an empty output buffer is filled from, and the state after it
--   turn_answer s, turn_after s
use Rattle.std.specs.Prelude.{Bool, true, false, ◌&&◌, ◌||◌, Some, None, Option}
use Rattle.ps2.specs.declared.entry.Entry.{Entry}
use Rattle.ps2.specs.Kinds.{nonempty, first}
use Rattle.parts.specs.declared.lines.Line.{Line}
use Rattle.parts.specs.declared.settings.Mode.{Mode}
use Rattle.parts.specs.declared.settings.Mode.TheVariants.{Legacy, Multiplexed}
use Rattle.parts.specs.declared.dialog.HostByte.{HostByte}
use Rattle.parts.specs.declared.output.Shown.{Shown}
use Rattle.parts.specs.declared.output.Carried.{Carried}
use Rattle.parts.specs.declared.output.Carried.TheVariants.{NoByte, Stays, CarriedOut, NowMultiplexed, NowLegacy}
use Rattle.parts.specs.Lines.{line_number, line_after}
use Rattle.parts.specs.Settings.{line_open}
use Rattle.parts.specs.Held.{held_at, put_held}
use Rattle.rules.specs.Banks.{Kinds, Values, ask, change}
use Rattle.rules.specs.States.{State, mode_of, with_output, with_next, with_held, with_devices}
use Rattle.rules.specs.Status.{present}
use Rattle.rules.specs.Hosting.{carry_out, blocked}
use Rattle.rules.specs.Arbiter.{first_of}

-- from one mode to another
abbrev pub changed : Mode → Mode → Carried
changed Legacy Legacy = CarriedOut
changed Legacy Multiplexed = NowMultiplexed
changed Multiplexed Legacy = NowLegacy
changed Multiplexed Multiplexed = CarriedOut

-- whether the device of a line has an entry
abbrev pub waits_at : {K : Kinds} → Values K → Line → Bool
waits_at v l = ask v l (λ k x. nonempty (k.waiting x)) false

-- the first of them
abbrev pub first_at : {K : Kinds} → Values K → Line → Option Entry
first_at v l = ask v l (λ k x. first (k.waiting x)) None

-- the devices after the one of a line gave
abbrev pub given_at : {K : Kinds} → Values K → Line → Values K
given_at v l = change v (line_number l) (λ k x. k.given x)

module _ {K : Kinds} where
  -- what became of a host byte that stays, or is carried out
  abbrev pub carried_by : Bool → HostByte → State K → Carried
  carried_by true w s = Stays
  carried_by false w s = changed (mode_of s) (mode_of (carry_out w s))

  -- the state after it
  abbrev pub carried_to : Bool → HostByte → State K → State K
  carried_to true w s = s
  carried_to false w s = carry_out w s

  -- with no host byte there is nothing to do
  abbrev pub carried_for : Option HostByte → State K → Carried
  carried_for None s = NoByte
  carried_for (Some w) s = carried_by (blocked w s) w s

  -- the state then
  abbrev pub hosted_for : Option HostByte → State K → State K
  hosted_for None s = s
  hosted_for (Some w) s = carried_to (blocked w s) w s

  abbrev pub carried : State K → Carried
  carried s = carried_for s.dialog.input s

  abbrev pub hosted : State K → State K
  hosted s = hosted_for s.dialog.input s

  abbrev pub gives : State K → Line → Bool
  gives s l = present (held_at s.held l) || (line_open s.settings l && waits_at s.devices l)

  -- a held entry goes first
  abbrev pub taken_from : Option Entry → State K → Line → Option Entry
  taken_from (Some e) s l = Some e
  taken_from None s l = first_at s.devices l

  -- the state without the entry that a line gives
  abbrev pub taken_to : Option Entry → State K → Line → State K
  taken_to (Some e) s l = with_held (put_held s.held (line_number l) None) s
  taken_to None s l = with_devices (given_at s.devices l) s

  -- the entry moves to the output buffer, and the arbiter goes on behind its line
  abbrev pub shown_as : Option Entry → Line → State K → State K
  shown_as None l s = s
  shown_as (Some e) l s = with_output (Some (record { line = l; entry = e })) (with_next (line_after l) s)

  -- the entry of a line, if one was found, moves
  abbrev pub moved : Option Line → State K → State K
  moved None s = s
  moved (Some l) s = shown_as (taken_from (held_at s.held l) s l) l (taken_to (held_at s.held l) s l)

  -- a full output buffer is left as it is
  abbrev pub fill_line_by : Option Shown → State K → Option Line
  fill_line_by (Some o) s = None
  fill_line_by None s = first_of (gives s) 6 s.next

  abbrev pub fill_line : State K → Option Line
  fill_line s = fill_line_by s.output s

  abbrev pub filled : State K → State K
  filled s = moved (fill_line s) s

  -- nothing is filled in a turn that changed the mode
  abbrev pub line_if : Carried → State K → Option Line
  line_if NoByte s = fill_line s
  line_if Stays s = fill_line s
  line_if CarriedOut s = fill_line s
  line_if NowMultiplexed s = None
  line_if NowLegacy s = None

  -- the state then
  abbrev pub filled_if : Carried → State K → State K
  filled_if NoByte s = filled s
  filled_if Stays s = filled s
  filled_if CarriedOut s = filled s
  filled_if NowMultiplexed s = s
  filled_if NowLegacy s = s

  abbrev pub turn_answer : State K → Carried × Option Line
  turn_answer s = (carried s, line_if (carried s) (hosted s))

  abbrev pub turn_after : State K → State K
  turn_after s = filled_if (carried s) (hosted s)
