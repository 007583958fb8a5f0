-- The kind of a mouse. Its values are the mice themselves.
--   mouse_waiting m   the acknowledge, then the packet
--   mouse_kind        every host byte is taken, every event has room; only movements matter
use Rattle.std.specs.Prelude.{◌≡◌, ℕ, Bool, true, false, cond, List, [], Some, None, Option, ◌==◌, refl}
use Rattle.std.proofs.Common.{ap}
use Rattle.ps2.specs.declared.entry.Entry.{Entry}
use Rattle.ps2.specs.Entries.{ahead}
use Rattle.ps2.specs.Events.{Happening, movement, stroke, pull, plug}
use Rattle.ps2.specs.Kinds.{Kind, Model, nonempty, rest}
use Rattle.mouse.specs.declared.packet.Packet.{Packet}
use Rattle.mouse.specs.declared.packet.Packet.TheVariants.{Empty, One, Two, Three, Four}
use Rattle.mouse.specs.declared.mouse.Mouse.{Mouse}
use Rattle.mouse.specs.declared.mouse.Answer.{Answer}
use Rattle.mouse.specs.Packets.{bytes_of, behind, or_else}
use Rattle.mouse.specs.Mice.{began}
use Rattle.mouse.specs.declared.mouse.Awaited.{Awaited}
use Rattle.mouse.specs.declared.mouse.Awaited.TheVariants as next
use Rattle.mouse.specs.declared.command.Command.{Command}
use Rattle.mouse.specs.declared.command.Command.TheVariants.{Scale1To1, Scale2To1, SetResolution, StatusRequest, SetStream, ReadData, ResetWrap, SetWrap, SetRemote, GetId, SetRate, Enable, Disable, SetDefaults, Resend}
use Rattle.mouse.specs.Commands.{command_of}
use Rattle.mouse.specs.Hearing.{replied, echoed, with_awaited, commanded, obeyed, heard_in, heard}
use Rattle.mouse.specs.Moving.{moved}

abbrev pub answer_waiting : Bool → Packet → List Entry
answer_waiting a p = ahead a (bytes_of p)

abbrev pub answer_given : Bool → Packet → Packet → Answer
answer_given true p l = record { acknowledges = false; packet = p; last = l }
answer_given false p l = record { acknowledges = false; packet = behind p; last = l }

abbrev pub with_answer : Answer → Mouse → Mouse
with_answer a m = record { variant = m.variant; settings = m.settings; awaited = m.awaited; knock = m.knock; motion = m.motion; answer = a }

abbrev pub mouse_waiting : Mouse → List Entry
mouse_waiting m = answer_waiting m.answer.acknowledges m.answer.packet

abbrev pub mouse_given : Mouse → Mouse
mouse_given m = with_answer (answer_given m.answer.acknowledges m.answer.packet m.answer.last) m

abbrev pub mouse_happened : Mouse → Happening → Mouse
mouse_happened m (movement x y w b) = moved m x y w b
mouse_happened m (stroke bs) = m
mouse_happened m pull = m
mouse_happened m plug = m

pub given_rest : (a : Bool) (p l : Packet) → answer_waiting (answer_given a p l).acknowledges (answer_given a p l).packet ≡ rest (answer_waiting a p)
given_rest true p l = refl
given_rest false Empty l = refl
given_rest false (One a) l = refl
given_rest false (Two a b) l = refl
given_rest false (Three a b c) l = refl
given_rest false (Four a b c d) l = refl

pub given_none : (a : Bool) (p l : Packet) → answer_waiting a p ≡ [] → answer_given a p l ≡ record { acknowledges = a; packet = p; last = l }
given_none true p l e = cc
given_none false Empty l e = refl
given_none false (One a) l e = cc
given_none false (Two a b) l e = cc
given_none false (Three a b c) l e = cc
given_none false (Four a b c d) l e = cc

-- every answer has something in it
pub resent_waits : (l : Packet) → nonempty (answer_waiting false (or_else l (Two 0xAA 0))) ≡ true
resent_waits Empty = refl
resent_waits (One a) = refl
resent_waits (Two a b) = refl
resent_waits (Three a b c) = refl
resent_waits (Four a b c d) = refl

pub commanded_waits : (c : Command) (m : Mouse) → nonempty (mouse_waiting (commanded c m)) ≡ true
commanded_waits Scale1To1 m = refl
commanded_waits Scale2To1 m = refl
commanded_waits SetResolution m = refl
commanded_waits StatusRequest m = refl
commanded_waits SetStream m = refl
commanded_waits ReadData m = refl
commanded_waits ResetWrap m = refl
commanded_waits SetWrap m = refl
commanded_waits SetRemote m = refl
commanded_waits GetId m = refl
commanded_waits SetRate m = refl
commanded_waits Enable m = refl
commanded_waits Disable m = refl
commanded_waits SetDefaults m = refl
commanded_waits Resend m = resent_waits m.answer.last

pub obeyed_waits : (c : Option Command) (m : Mouse) → nonempty (mouse_waiting (obeyed c m)) ≡ true
obeyed_waits (Some c) m = commanded_waits c m
obeyed_waits None m = refl

pub wrapped_waits : (t : Bool) (b : ℕ) (m : Mouse) → nonempty (mouse_waiting (cond t (replied Empty (with_awaited next.Command m)) (echoed b m))) ≡ true
wrapped_waits true b m = refl
wrapped_waits false b m = refl

pub heard_in_waits : (a : Awaited) (b : ℕ) (m : Mouse) → nonempty (mouse_waiting (heard_in a b m)) ≡ true
heard_in_waits next.Command b m = obeyed_waits (command_of b) m
heard_in_waits next.Rate b m = refl
heard_in_waits next.Resolution b m = refl
heard_in_waits next.Echo b m = wrapped_waits (b == 0xEC) b m

pub heard_waits : (t : Bool) (b : ℕ) (m : Mouse) → nonempty (mouse_waiting (cond t (began m.variant true) (heard_in m.awaited b m))) ≡ true
heard_waits true b m = refl
heard_waits false b m = heard_in_waits m.awaited b m

pub none_given : (m : Mouse) → mouse_waiting m ≡ [] → mouse_given m ≡ m
none_given m e = ap (λ a. with_answer a m) (given_none m.answer.acknowledges m.answer.packet m.answer.last e)

abbrev pub mouse_kind : Kind
mouse_kind = record {
  Value = Mouse;
  waiting = mouse_waiting;
  takes = λ m b. true;
  room = λ m e. true;
  powered = λ m. began m.variant false;
  given = mouse_given;
  received = heard;
  happened = mouse_happened;
  given_rest = λ m. given_rest m.answer.acknowledges m.answer.packet m.answer.last;
  given_none = none_given;
  taken_waits = λ m b t. heard_waits (b == 0xFF) b m;
}

abbrev pub mouse_model : Model Mouse
mouse_model = record { kind = mouse_kind; meaning = λ m. m }
