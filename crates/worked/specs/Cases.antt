-- Worked cases: what the rules give on examples, beside what is expected of them.
--   Case                what the rules give, and what is expected, both as numbers or as text
--   five_boards         a new controller above five boards
--   says s is           what playing some records answers, as text
--   at_boards is text   a case: what playing records on five boards answers
--   at_mouse m bytes    a case: the bytes that wait in a mouse
--   cases               all of them; passes cases tells whether each is as expected
use Rattle.std.specs.Prelude.{ℕ, ◌+◌, ◌/◌, ◌%◌, Bool, true, false, ◌&&◌, List, [], ◌∷◌, ◌++◌, map, ℤ, pos, negsuc, Some, None, codes, ◌==◌}
use Rattle.ps2.specs.Entries.{shows}
use Rattle.ps2.specs.Refusals.{number_of}
use Rattle.ps2.specs.Events
use Rattle.devices.specs.Boards.{blank, board_model}
use Rattle.mouse.specs.declared.mouse.Mouse.{Mouse}
use Rattle.mouse.specs.declared.settings.Variant.TheVariants.{Plain}
use Rattle.mouse.specs.Mice.{began}
use Rattle.mouse.specs.MouseKind.{mouse_kind}
use Rattle.session.specs.Records.{Item, command_write, data_write, status_read, data_read, turn, stroke}
use Rattle.parts.specs.Lines.{line_number}
use Rattle.parts.specs.Outputs.{carried_number}
use Rattle.rules.specs.Banks.{Kinds, Values}
use Rattle.rules.specs.States.{State, power_on}
use Rattle.text.specs.Hex.{hex}
use Rattle.bank.specs.Fives.{kinds_of}
use Rattle.player.specs.declared.reply.Reply.{Reply}
use Rattle.player.specs.declared.reply.Reply.TheVariants.{Done, Byte, Turned, Refused}
use Rattle.player.specs.Plays.{reply_to, played_to}

pub record Case : Type 0 where
  pub given : List ℕ
  pub expected : List ℕ

-- two lists of numbers are equal
abbrev pub same : List ℕ → List ℕ → Bool
same [] [] = true
same [] (y ∷ ys) = false
same (x ∷ xs) [] = false
same (x ∷ xs) (y ∷ ys) = x == y && same xs ys

abbrev pub passes : List Case → Bool
passes [] = true
passes (c ∷ cs) = same c.given c.expected && passes cs

-- five boards
abbrev pub board_kinds : Kinds
board_kinds = kinds_of board_model board_model board_model board_model board_model

-- with nothing to say
abbrev pub blanks : Values board_kinds
blanks = record { port0 = blank; port1 = blank; port2 = blank; port3 = blank; keyboard = blank }

abbrev pub five_boards : State board_kinds
five_boards = power_on blanks

-- the character of a digit
abbrev pub digit : ℕ → ℕ
digit n = 48 + n

-- an answer as text: ok, two hex digits, the two parts of a turn, or ! and a refusal's two digits
abbrev pub answer_text : Reply → List ℕ
answer_text Done = codes "ok"
answer_text (Byte b) = hex b
answer_text (Turned c None) = digit (carried_number c) ∷ codes " -"
answer_text (Turned c (Some l)) = digit (carried_number c) ∷ 32 ∷ digit (line_number l) ∷ []
answer_text (Refused e) = 33 ∷ digit (number_of e / 10) ∷ digit (number_of e % 10) ∷ []

-- each answer and a semicolon
abbrev pub says : {K : Kinds} → State K → List Item → List ℕ
says s [] = []
says s (i ∷ is) = answer_text (reply_to i s) ++ (codes ";" ++ says (played_to i s) is)

-- a command, its argument, and a turn after each
abbrev pub told : ℕ → ℕ → List Item
told c b = command_write c ∷ turn ∷ data_write b ∷ turn ∷ []

-- an argument of the sequence, and the byte read for it
abbrev pub argument : ℕ → List Item
argument b = told 0xd3 b ++ (data_read ∷ [])

-- F0h, 56h, and the third argument
abbrev pub sequence : ℕ → List Item
sequence b = argument 0xf0 ++ (argument 0x56 ++ told 0xd3 b)

-- the sequence, and its 11h read
abbrev pub activation : List Item
activation = sequence 0xa4 ++ (turn ∷ data_read ∷ [])

-- a case of records played on five boards
abbrev pub at_boards : List Item → List ℕ → Case
at_boards is text = record { given = says five_boards is; expected = text }

-- the answers of the first two arguments, and of an activation
abbrev pub two_echoes : List ℕ
two_echoes = codes "ok;2 -;ok;2 0;f0;ok;2 -;ok;2 0;56;"

abbrev pub activated : List ℕ
activated = two_echoes ++ codes "ok;2 -;ok;3 -;0 0;11;"

-- a plain mouse at 2:1 with reporting enabled, its acknowledge given
abbrev pub eager : Mouse
eager = mouse_kind.given (mouse_kind.received (mouse_kind.given (mouse_kind.received (began Plain false) 0xe7)) 0xf4)

-- a movement along x
abbrev pub shift : ℤ → Mouse → Mouse
shift x m = mouse_kind.happened m (Events.movement x (pos 0) (pos 0) 0)

-- a case of what waits in a mouse
abbrev pub at_mouse : Mouse → List ℕ → Case
at_mouse m bytes = record { given = map shows (mouse_kind.waiting m); expected = bytes }

abbrev pub cases : List Case
cases =
    -- a new controller's status
    at_boards (status_read ∷ []) (codes "00;") ∷
    -- the sequence, each byte taken before the next; then with A5h; then with F0h twice
    (at_boards (sequence 0xa4 ++ (turn ∷ status_read ∷ data_read ∷ [])) (two_echoes ++ codes "ok;2 -;ok;3 -;0 0;21;11;") ∷
    (at_boards (sequence 0xa5 ++ (status_read ∷ data_read ∷ [])) (two_echoes ++ codes "ok;2 -;ok;2 0;25;11;") ∷
    (at_boards (argument 0xf0 ++ activation) (codes "ok;2 -;ok;2 0;f0;" ++ activated) ∷
    -- a good byte of port 3
    (at_boards (activation ++ (stroke 3 (0x81 ∷ []) ∷ turn ∷ status_read ∷ data_read ∷ [])) (activated ++ codes "ok;0 3;e1;81;") ∷
    -- a board's second host byte before its FAh was given: a timeout of port 2, then the FAh
    (at_boards (activation ++ (stroke 3 (0x81 ∷ []) ∷ turn ∷ (told 0x92 0xf4 ++ (told 0x92 0xf4 ++ (data_read ∷ turn ∷ status_read ∷ data_read ∷ turn ∷ status_read ∷ data_read ∷ [])))))
    (activated ++ codes "ok;0 3;ok;2 -;ok;2 -;ok;2 -;ok;2 -;81;0 2;a5;fe;0 2;a1;fa;") ∷
    -- at 15 bytes a board takes one more and refuses two
    (at_boards (stroke 2 (1 ∷ 2 ∷ 3 ∷ 4 ∷ 5 ∷ 6 ∷ 7 ∷ 8 ∷ 9 ∷ 10 ∷ 11 ∷ 12 ∷ 13 ∷ 14 ∷ 15 ∷ []) ∷ stroke 2 (16 ∷ 17 ∷ []) ∷ stroke 2 (16 ∷ []) ∷ []) (codes "ok;!24;ok;") ∷
    -- -5, 127 and 128 at 2:1; 255 and 1 more, read at 1:1
    (at_mouse (shift (negsuc 4) eager) (0x18 ∷ 0xf7 ∷ 0x00 ∷ []) ∷
    (at_mouse (shift (pos 127) eager) (0x08 ∷ 0xfe ∷ 0x00 ∷ []) ∷
    (at_mouse (shift (pos 128) eager) (0x48 ∷ 0xff ∷ 0x00 ∷ []) ∷
    (at_mouse (mouse_kind.received (shift (pos 1) (shift (pos 255) (began Plain false))) 0xeb) (0xfa ∷ 0x48 ∷ 0xff ∷ 0x00 ∷ []) ∷ []))))))))))
