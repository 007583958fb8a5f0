-- Boards: the kind of a pickup board.
--   BoardValue   whether an acknowledge waits, and the stroke bytes that wait
--   blank        nothing waits
--   fits bs more whether more bytes find a place behind bs: there are 16
--   board_kind   what waits is the acknowledge, then the strokes; a byte is taken where no acknowledge waits;
--                a stroke has room where all of it finds a place
use Rattle.std.specs.Prelude.{◌≡◌, ℕ, ◌+◌, Bool, true, false, not, List, [], ◌∷◌, ◌++◌, length, nat_le, refl}
use Rattle.ps2.specs.Entries.{ahead}
use Rattle.ps2.specs.Events.{Happening, movement, stroke, pull, plug}
use Rattle.ps2.specs.Kinds.{Kind, Model, rest}
use Rattle.devices.specs.declared.board.Board.{Board}

pub record BoardValue : Type 0 where
  pub acknowledges : Bool
  pub strokes : List ℕ

abbrev pub blank : BoardValue
blank = record { acknowledges = false; strokes = [] }

abbrev pub board_given : Bool → List ℕ → BoardValue
board_given true bs = record { acknowledges = false; strokes = bs }
board_given false bs = record { acknowledges = false; strokes = rest bs }

abbrev pub fits : List ℕ → List ℕ → Bool
fits bs more = nat_le (length bs + length more) 16

abbrev pub board_room : BoardValue → Happening → Bool
board_room v (movement x y w b) = true
board_room v (stroke bs) = fits v.strokes bs
board_room v pull = true
board_room v plug = true

abbrev pub board_happened : BoardValue → Happening → BoardValue
board_happened v (movement x y w b) = v
board_happened v (stroke bs) = record { acknowledges = v.acknowledges; strokes = v.strokes ++ bs }
board_happened v pull = v
board_happened v plug = v

pub given_rest : (a : Bool) (bs : List ℕ) → ahead (board_given a bs).acknowledges (board_given a bs).strokes ≡ rest (ahead a bs)
given_rest true bs = refl
given_rest false [] = refl
given_rest false (b ∷ bs) = refl

pub given_none : (a : Bool) (bs : List ℕ) → ahead a bs ≡ [] → board_given a bs ≡ record { acknowledges = a; strokes = bs }
given_none true bs e = cc
given_none false [] e = refl
given_none false (b ∷ bs) e = cc

abbrev pub board_kind : Kind
board_kind = record {
  Value = BoardValue;
  waiting = λ v. ahead v.acknowledges v.strokes;
  takes = λ v b. not v.acknowledges;
  room = board_room;
  powered = λ v. blank;
  given = λ v. board_given v.acknowledges v.strokes;
  received = λ v b. record { acknowledges = true; strokes = v.strokes };
  happened = board_happened;
  given_rest = λ v. given_rest v.acknowledges v.strokes;
  given_none = λ v e. given_none v.acknowledges v.strokes e;
  taken_waits = λ v b t. refl;
}

abbrev pub board_model : Model Board
board_model = record { kind = board_kind; meaning = λ b. record { acknowledges = b.acknowledges; strokes = b.strokes.items } }
