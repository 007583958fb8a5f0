-- Plays: a session's record as a call of the controller.
--   call_by i s     the call that a record makes, with its answer; a cable record with a bad field is refused before it
--   reply_to i s    what playing it answers
--   played_to i s   the state after it
--   gone r h        the history after it
--   Plays s i t     it leads from s to t: so every history goes on, and the law holds behind it
use Rattle.std.specs.Prelude.{◌≡◌, ℕ, cond, Ok, Err, Result, ◌==◌, nat_lt}
use Rattle.ps2.specs.declared.refusal.Refusal.{Refusal}
use Rattle.ps2.specs.declared.refusal.Refusal.TheVariants.{NoSuchLine, FieldOutOfRange}
use Rattle.ps2.specs.declared.event.Event.{Event}
use Rattle.ps2.specs.Events.{Happening, pull, plug, told}
use Rattle.ps2.specs.Events
use Rattle.session.specs.Records.{Item, command_write, data_write, status_read, data_read, turn, movement, stroke, cable}
use Rattle.parts.specs.declared.settings.Mode.TheVariants.{Multiplexed}
use Rattle.rules.specs.Banks.{Kinds, Values}
use Rattle.rules.specs.States.{State, mode_of}
use Rattle.rules.specs.Status.{status}
use Rattle.rules.specs.Turns.{turn_answer}
use Rattle.rules.specs.Calls.{read_answer, command_answer, data_answer, event_answer}
use Rattle.rules.specs.Histories.{Call, History, ◌▹◌, next}
use Rattle.rules.specs.Histories
use Rattle.rules.specs.Law.{Spans, Reached, Lawful}
use Rattle.player.specs.declared.reply.Reply.{Reply}
use Rattle.player.specs.declared.reply.Reply.TheVariants.{Done, Byte, Turned, Refused}

-- a cable record's second byte: 0 a pull, 1 a plug; of a bad one the line comes first, then the field
abbrev pub action_by : ℕ → ℕ → Result Happening Refusal
action_by l a = cond (a == 0) (Ok pull) (cond (a == 1) (Ok plug) (Err (cond (nat_lt 4 l) NoSuchLine FieldOutOfRange)))

-- an event of the code, or a refusal, as a value
abbrev pub told_action : Result Event Refusal → Result Happening Refusal
told_action (Ok e) = Ok (told e)
told_action (Err e) = Err e

abbrev pub event_call : {K : Kinds} → Result Happening Refusal → ℕ → State K → Result Call Refusal
event_call (Ok e) l s = Ok (Histories.happens l e (event_answer l e s))
event_call (Err e) l s = Err e

abbrev pub call_by : {K : Kinds} → Item → State K → Result Call Refusal
call_by (command_write b) s = Ok (Histories.command_write b (command_answer b s))
call_by (data_write b) s = Ok (Histories.data_write b (data_answer s))
call_by status_read s = Ok (Histories.status_read (status s))
call_by data_read s = Ok (Histories.data_read (read_answer s))
call_by turn s = Ok (Histories.turn (turn_answer s).0 (turn_answer s).1)
call_by (movement l b x y w) s = event_call (Ok (Events.movement x y w b)) l s
call_by (stroke l bs) s = event_call (Ok (Events.stroke bs)) l s
call_by (cable l a) s = event_call (action_by l a) l s

-- of a call that answers no value
abbrev pub done_reply : Result (Unit {0}) Refusal → Reply
done_reply (Ok u) = Done
done_reply (Err e) = Refused e

-- of a call that answers a byte
abbrev pub byte_reply : Result ℕ Refusal → Reply
byte_reply (Ok b) = Byte b
byte_reply (Err e) = Refused e

-- what is shown of a call
abbrev pub reply_of : Call → Reply
reply_of (Histories.status_read b) = Byte b
reply_of (Histories.data_read r) = byte_reply r
reply_of (Histories.command_write b r) = done_reply r
reply_of (Histories.data_write b r) = done_reply r
reply_of (Histories.happens n e r) = done_reply r
reply_of (Histories.turn c m) = Turned c m

-- what is shown of a reply, or of a refusal
abbrev pub shown : Result Reply Refusal → Reply
shown (Ok r) = r
shown (Err e) = Refused e

-- what is shown, also where there was no call
abbrev pub reply_by : Result Call Refusal → Reply
reply_by (Ok x) = reply_of x
reply_by (Err e) = Refused e

-- the state after the call, if there was one
abbrev pub next_by : {K : Kinds} → Result Call Refusal → State K → State K
next_by (Ok x) s = next s x
next_by (Err e) s = s

abbrev pub gone : Result Call Refusal → History → History
gone (Ok x) h = h ▹ x
gone (Err e) h = h

abbrev pub reply_to : {K : Kinds} → Item → State K → Reply
reply_to i s = reply_by (call_by i s)

abbrev pub played_to : {K : Kinds} → Item → State K → State K
played_to i s = next_by (call_by i s) s

pub record Plays {K : Kinds} (s : State K) (i : Item) (t : State K) : Type 0 where
  pub reached : (v : Values K) (h : History) → Reached v h s → Reached v (gone (call_by i s) h) t
  pub multiplexes : (v : Values K) (h : History) → Reached v h s → Spans (gone (call_by i s) h) → mode_of t ≡ Multiplexed
  pub lawful : (v : Values K) (h : History) → Reached v h s → mode_of t ≡ Multiplexed → Lawful v (gone (call_by i s) h)
