-- A talk with a mouse, as text.
--   acted s m         a mouse after a step
--   playing s m       the same where there may be none yet: only a power-up brings one
--   answer m          what waits in a mouse, in hexadecimal
--   drained m         the mouse once all of that is given
--   step_line l s m   the line of a step: a note as it is; else the step, an arrow and the answer
--   taken r m         the step of a line, read as r, with the mouse that it leaves; or a fault
--   fault_line n f    the line of a fault in line number n
--   played n m ls     the text of the lines ls, with n lines before them
--   exchanged t       the whole text
use Rattle.std.specs.Prelude.{ℕ, ◌+◌, false, List, [], ◌∷◌, ◌++◌, map, Some, None, Ok, Err, codes, decimal, Option, Result}
use Rattle.ps2.specs.declared.entry.Entry.{Entry}
use Rattle.ps2.specs.Entries.{shows}
use Rattle.ps2.specs.declared.event.Event.TheVariants.{Movement}
use Rattle.ps2.specs.Events.{told}
use Rattle.mouse.specs.declared.mouse.Mouse.{Mouse}
use Rattle.mouse.specs.Mice.{began}
use Rattle.mouse.specs.MouseKind.{mouse_kind}
use Rattle.text.specs.Hex.{spaced}
use Rattle.talk.specs.declared.fault.Fault.{Fault}
use Rattle.talk.specs.declared.fault.Fault.TheVariants.{NoMouse}
use Rattle.talk.specs.declared.step.Step.{Step}
use Rattle.talk.specs.declared.step.Step.TheVariants.{Note, Power, Host, Move}
use Rattle.talk.specs.Faults.{fault_words}
use Rattle.talk.specs.Texts.{lines_of}
use Rattle.talk.specs.Steps.{step_of}
use Rattle.talk.specs.StepWords.{step_words}

abbrev pub acted : Step → Mouse → Mouse
acted Note m = m
acted (Power v) m = began v false
acted (Host b) m = mouse_kind.received m b
acted (Move d) m = mouse_kind.happened m (told (Movement d))

abbrev pub playing : Step → Option Mouse → Result (Option Mouse) Fault
playing s (Some m) = Ok (Some (acted s m))
playing Note None = Ok None
playing (Power v) None = Ok (Some (began v false))
playing (Host b) None = Err NoMouse
playing (Move d) None = Err NoMouse

unfoldable pub given_all : List Entry → Mouse → Mouse
given_all [] m = m
given_all (e ∷ es) m = given_all es (mouse_kind.given m)

abbrev pub drained : Mouse → Mouse
drained m = given_all (mouse_kind.waiting m) m

abbrev pub answer : Mouse → List ℕ
answer m = spaced (map shows (mouse_kind.waiting m))

-- where there may be no mouse yet
abbrev pub any_answer : Option Mouse → List ℕ
any_answer None = []
any_answer (Some m) = answer m

abbrev pub any_drained : Option Mouse → Option Mouse
any_drained None = None
any_drained (Some m) = Some (drained m)

abbrev pub played_line : Step → Option Mouse → List ℕ
played_line s m = step_words s ++ (codes " ->" ++ (any_answer m ++ codes "\n"))

abbrev pub step_line : List ℕ → Step → Option Mouse → List ℕ
step_line l Note m = l ++ codes "\n"
step_line l (Power v) m = played_line (Power v) m
step_line l (Host b) m = played_line (Host b) m
step_line l (Move d) m = played_line (Move d) m

abbrev pub left_by : Step → Option Mouse → Option Mouse
left_by Note m = m
left_by (Power v) m = any_drained m
left_by (Host b) m = any_drained m
left_by (Move d) m = any_drained m

abbrev pub fault_line : ℕ → Fault → List ℕ
fault_line n f = codes "line " ++ (decimal n ++ (codes ": " ++ (fault_words f ++ codes "\n")))

abbrev pub beside : Step → Result (Option Mouse) Fault → Result (Step × Option Mouse) Fault
beside s (Ok m) = Ok (s, m)
beside s (Err f) = Err f

abbrev pub taken : Result Step Fault → Option Mouse → Result (Step × Option Mouse) Fault
taken (Ok s) m = beside s (playing s m)
taken (Err f) m = Err f

-- the text from line l on, of number n, taken as r; k is the text of the lines behind it, by the mouse they find
abbrev pub turn : ℕ → List ℕ → Result (Step × Option Mouse) Fault → (Option Mouse → List ℕ) → List ℕ
turn n l (Ok t) k = step_line l t.0 t.1 ++ k (left_by t.0 t.1)
turn n l (Err f) k = fault_line n f

unfoldable pub played : ℕ → Option Mouse → List (List ℕ) → List ℕ
played n m [] = []
played n m (l ∷ ls) = turn (n + 1) l (taken (step_of l) m) (λ m. played (n + 1) m ls)

abbrev pub exchanged : List ℕ → List ℕ
exchanged t = played 0 None (lines_of t)
