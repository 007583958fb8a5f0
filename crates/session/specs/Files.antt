-- Files: the records of a session file, and how it ends.
--   first bs          the record at the front of some bytes, or why there is none
--   session bs        all records of some bytes, and their ending
--   session_of file   the same of a whole file, which may be too long or empty
--   answered s        what a reader answers that has s before it
--   behind s          s without its first record
use Rattle.std.specs.Prelude.{◌≡◌, ℕ, zero, suc, ◌+◌, ◌-◌, cond, List, [], ◌∷◌, length, take, drop, Some, None, Ok, Err, Option, Result, All, ◌==◌, nat_lt}
use Rattle.std.specs.List.{flat_map}
use Rattle.ps2.specs.declared.refusal.Refusal.{Refusal}
use Rattle.ps2.specs.declared.refusal.Refusal.TheVariants.{FileEndsInside, FileTooLong}
use Rattle.ps2.specs.Refusals.{refusing}
use Rattle.session.specs.Records.{Item, bytes_of, Valid, word, said}

-- payload length and kind, where header and payload are there whole
abbrev pub headed : List ℕ → Result (ℕ × ℕ) Refusal
headed bs =
    refusing (nat_lt (length bs) 4) FileEndsInside
    (refusing (nat_lt (length bs - 4) (word bs 0)) FileEndsInside
    (Ok (word bs 0, word bs 2)))

-- what the payload behind a header says
abbrev pub said_by : Result (ℕ × ℕ) Refusal → List ℕ → Result Item Refusal
said_by (Ok h) bs = said h.1 (take h.0 (drop 4 bs))
said_by (Err e) bs = Err e

abbrev pub first : List ℕ → Result Item Refusal
first bs = said_by (headed bs) bs

pub data Ending : Type 0 where
  complete : Ending
  refused : Refusal → Ending

pub record Session : Type 0 where
  pub records : List Item
  pub ending : Ending

-- a first record or a refusal, and what comes behind the record
abbrev pub onward : Result Item Refusal → Session → Session
onward (Ok i) s = record { records = i ∷ s.records; ending = s.ending }
onward (Err e) s = record { records = []; ending = refused e }

-- a record has four bytes at least, so as many records as bytes are always enough
unfoldable pub within : ℕ → List ℕ → Session
within zero bs = record { records = []; ending = complete }
within (suc n) [] = record { records = []; ending = complete }
within (suc n) (b ∷ bs) = onward (first (b ∷ bs)) (within n (drop (4 + word (b ∷ bs) 0) (b ∷ bs)))

unfoldable pub session : List ℕ → Session
session bs = within (length bs) bs

-- why a whole file is refused before its first record
abbrev pub barred : List ℕ → Option Refusal
barred file = cond (nat_lt 65536 (length file)) (Some FileTooLong) (cond (length file == 0) (Some FileEndsInside) None)

abbrev pub session_by : Option Refusal → List ℕ → Session
session_by None file = session file
session_by (Some e) file = record { records = []; ending = refused e }

abbrev pub session_of : List ℕ → Session
session_of file = session_by (barred file) file

abbrev pub answered_by : List Item → Ending → Result (Option Item) Refusal
answered_by [] complete = Ok None
answered_by [] (refused e) = Err e
answered_by (i ∷ is) end = Ok (Some i)

abbrev pub answered : Session → Result (Option Item) Refusal
answered s = answered_by s.records s.ending

abbrev pub tail : List Item → List Item
tail [] = []
tail (i ∷ is) = is

abbrev pub behind : Session → Session
behind s = record { records = tail s.records; ending = s.ending }

-- every list of valid records is read back from the bytes that spell them
abbrev pub ReadsBack : Type 0
ReadsBack = (is : List Item) → All Valid is → session (flat_map bytes_of is) ≡ record { records = is; ending = complete }
