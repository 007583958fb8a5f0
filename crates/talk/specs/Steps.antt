-- Steps: what a line asks for.
--   ranged d         a movement, its numbers in range or not
--   move_of t        the movement of four numbers, with one space between them
--   host_of b        a byte from the host
--   action_of w t    what the word w asks for, with t behind it
--   is_note t        whether a line is empty or begins with #
--   step_of t        the step of a line
use Rattle.std.specs.Prelude.{ℕ, Bool, cond, ◌||◌, List, length, ℤ, Some, None, Ok, Err, codes, Option, Result, ◌==◌, slice_index}
use Rattle.std.specs.Str.{bytes_eq}
use Rattle.mouse.specs.declared.settings.Variant.TheVariants.{Plain, Wheel}
use Rattle.ps2.specs.declared.event.Movement.{Movement}
use Rattle.ps2.specs.declared.event.Event.TheVariants as event
use Rattle.ps2.specs.Events.{told, in_range}
use Rattle.talk.specs.declared.fault.Fault.{Fault}
use Rattle.talk.specs.declared.fault.Fault.TheVariants.{UnknownWord, BadByte, BadMovement, OutOfRange}
use Rattle.talk.specs.declared.step.Step.{Step}
use Rattle.talk.specs.declared.step.Step.TheVariants.{Note, Power, Host, Move}
use Rattle.talk.specs.Texts.{before, behind}
use Rattle.talk.specs.Numbers.{byte_of, count_of, number_of}

abbrev pub ranged : Movement → Result Step Fault
ranged d = cond (in_range (told (event.Movement d))) (Ok (Move d)) (Err OutOfRange)

abbrev pub movement_of : Option ℤ → Option ℤ → Option ℤ → Option ℕ → Result Step Fault
movement_of None y w b = Err BadMovement
movement_of (Some x) None w b = Err BadMovement
movement_of (Some x) (Some y) None b = Err BadMovement
movement_of (Some x) (Some y) (Some w) None = Err BadMovement
movement_of (Some x) (Some y) (Some w) (Some b) = ranged (record { dx = x; dy = y; wheel = w; buttons = b })

abbrev pub move_of : List ℕ → Result Step Fault
move_of t = movement_of (number_of (before 32 t)) (number_of (before 32 (behind 32 t))) (number_of (before 32 (behind 32 (behind 32 t)))) (count_of (behind 32 (behind 32 (behind 32 t))))

abbrev pub host_of : Option ℕ → Result Step Fault
host_of None = Err BadByte
host_of (Some b) = Ok (Host b)

-- an action that has something behind it
abbrev pub action_of : List ℕ → List ℕ → Result Step Fault
action_of w t = cond (bytes_eq w (codes "host")) (host_of (byte_of t)) (cond (bytes_eq w (codes "move")) (move_of t) (Err UnknownWord))

abbrev pub is_note : List ℕ → Bool
is_note t = length t == 0 || slice_index t 0 == 35

abbrev pub step_of : List ℕ → Result Step Fault
step_of t = cond (is_note t) (Ok Note) (cond (bytes_eq t (codes "plain")) (Ok (Power Plain)) (cond (bytes_eq t (codes "wheel")) (Ok (Power Wheel)) (action_of (before 32 t) (behind 32 t))))
