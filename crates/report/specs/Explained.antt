-- A session file in words.
--   words i           a record in words
--   line n at i       the line of record number n, which stands at place at
--   lines n at is e   the lines of the records is from there on, n before them, and of the ending e
--   explained file    the whole text
use Rattle.std.specs.Prelude.{ℕ, ◌+◌, cond, List, [], ◌∷◌, ◌++◌, length, ℤ, codes, decimal, ◌==◌}
use Rattle.std.specs.Fmt.{signed_decimal}
use Rattle.ps2.specs.Refusals.{number_of, meaning_of}
use Rattle.session.specs.Records.{Item, command_write, data_write, status_read, data_read, turn, movement, stroke, cable, bytes_of}
use Rattle.session.specs.Files.{Session, Ending, complete, refused, session_of}
use Rattle.text.specs.Hex.{hex, spaced}

abbrev pub action_words : ℕ → List ℕ
action_words a = cond (a == 0) (codes "pull") (cond (a == 1) (codes "plug") (codes "action " ++ decimal a))

abbrev pub motion_words : ℤ → ℤ → ℤ → List ℕ
motion_words x y w = codes "dx " ++ (signed_decimal x ++ (codes ", dy " ++ (signed_decimal y ++ (codes ", wheel " ++ signed_decimal w))))

abbrev pub words : Item → List ℕ
words (command_write b) = codes "command write " ++ hex b
words (data_write b) = codes "data write " ++ hex b
words status_read = codes "status read"
words data_read = codes "data read"
words turn = codes "turn"
words (movement l b x y w) = codes "movement, line " ++ (decimal l ++ (codes ": buttons " ++ (decimal b ++ (codes ", " ++ motion_words x y w))))
words (stroke l bs) = codes "stroke, line " ++ (decimal l ++ (codes ":" ++ spaced bs))
words (cable l a) = codes "cable, line " ++ (decimal l ++ (codes ": " ++ action_words a))

abbrev pub line : ℕ → ℕ → Item → List ℕ
line n at i = decimal n ++ (codes " at " ++ (decimal at ++ (codes ": " ++ (words i ++ codes "\n"))))

abbrev pub end_line : ℕ → ℕ → Ending → List ℕ
end_line n at complete = codes "end at " ++ (decimal at ++ (codes ": " ++ (decimal n ++ codes " in all\n")))
end_line n at (refused e) = codes "refused at " ++ (decimal at ++ (codes " with " ++ (decimal (number_of e) ++ (codes ": " ++ (meaning_of e ++ codes "\n")))))

unfoldable pub lines : ℕ → ℕ → List Item → Ending → List ℕ
lines n at [] e = end_line n at e
lines n at (i ∷ is) e = line (n + 1) at i ++ lines (n + 1) (at + length (bytes_of i)) is e

-- the lines of a session, n records and at bytes behind its file's start
abbrev pub lines_of : ℕ → ℕ → Session → List ℕ
lines_of n at s = lines n at s.records s.ending

abbrev pub explained : List ℕ → List ℕ
explained file = lines_of 0 0 (session_of file)
