-- Records: what one record says, and the bytes that say it.
--   Item           a record as a value, its borrowed bytes read
--   item_of r      the value of a record of the code
--   kind_of i      its kind's number
--   payload_of i   its fields as bytes, low byte first, signed ones in two's complement
--   bytes_of i     the record in a file: payload length, kind, payload
--   Valid i        whether its signed fields and its stroke fit their places
--   said k bs      what a payload bs of kind k says; refused if there is no such kind, or not of that length
use Rattle.std.specs.Prelude.{ℕ, ◌+◌, ◌*◌, ◌/◌, ◌%◌, ◌≤◌, Bool, cond, ◌&&◌, List, [], ◌∷◌, ◌++◌, length, drop, ℤ, Ok, Err, Result, FitsSigned, ◌==◌, nat_le, slice_index}
use Rattle.std.specs.Int.{w8, w16}
use Rattle.std.proofs.Common.{to_z, of_z}
use Rattle.ps2.specs.declared.refusal.Refusal.{Refusal}
use Rattle.ps2.specs.declared.refusal.Refusal.TheVariants.{BadRecord}
use Rattle.session.specs.declared.record_kinds.Record.{Record}
use Rattle.session.specs.declared.record_kinds.Record.TheVariants.{CommandWrite, DataWrite, StatusRead, DataRead, Turn, Movement, Stroke, Cable}

pub data Item : Type 0 where
  command_write : ℕ → Item
  data_write : ℕ → Item
  status_read : Item
  data_read : Item
  turn : Item
  movement : (line buttons : ℕ) (dx dy wheel : ℤ) → Item
  stroke : (line : ℕ) (bytes : List ℕ) → Item
  cable : (line action : ℕ) → Item

abbrev pub item_of : Record → Item
item_of (CommandWrite b) = command_write b
item_of (DataWrite b) = data_write b
item_of StatusRead = status_read
item_of DataRead = data_read
item_of Turn = turn
item_of (Movement l m) = movement l m.buttons m.dx m.dy m.wheel
item_of (Stroke l bs) = stroke l bs.now
item_of (Cable l a) = cable l a

abbrev pub kind_of : Item → ℕ
kind_of (command_write b) = 1
kind_of (data_write b) = 2
kind_of status_read = 3
kind_of data_read = 4
kind_of turn = 5
kind_of (movement l b x y w) = 6
kind_of (stroke l bs) = 7
kind_of (cable l a) = 8

-- a number below 65,536 in two bytes
abbrev pub pair : ℕ → List ℕ
pair n = n % 256 ∷ n / 256 ∷ []

abbrev pub payload_of : Item → List ℕ
payload_of (command_write b) = b ∷ []
payload_of (data_write b) = b ∷ []
payload_of status_read = []
payload_of data_read = []
payload_of turn = []
payload_of (movement l b x y w) = l ∷ b ∷ (pair (of_z w16 x) ++ (pair (of_z w16 y) ++ (of_z w8 w ∷ [])))
payload_of (stroke l bs) = l ∷ bs
payload_of (cable l a) = l ∷ a ∷ []

abbrev pub bytes_of : Item → List ℕ
bytes_of i = pair (length (payload_of i)) ++ (pair (kind_of i) ++ payload_of i)

-- what a record needs to be spelt in bytes: signed numbers fit 16 and 8 bits, a stroke has 1 to 16 bytes
abbrev pub Valid : Item → Type 0
Valid (command_write b) = Unit {0}
Valid (data_write b) = Unit {0}
Valid status_read = Unit {0}
Valid data_read = Unit {0}
Valid turn = Unit {0}
Valid (movement l b x y w) = FitsSigned w16 x × FitsSigned w16 y × FitsSigned w8 w
Valid (stroke l bs) = (1 ≤ length bs) × (length bs ≤ 16)
Valid (cable l a) = Unit {0}

-- the number that two bytes from place i on make
abbrev pub word : List ℕ → ℕ → ℕ
word bs i = slice_index bs i + slice_index bs (i + 1) * 256

-- a payload of kind k and length n
abbrev is : ℕ → ℕ → ℕ → List ℕ → Bool
is k n kind bs = kind == k && length bs == n

-- how many bytes a stroke may have
abbrev pub stroke_length : ℕ → Bool
stroke_length n = nat_le 1 n && nat_le n 16

abbrev pub said : ℕ → List ℕ → Result Item Refusal
said k bs =
    cond (is 1 1 k bs) (Ok (command_write (slice_index bs 0)))
    (cond (is 2 1 k bs) (Ok (data_write (slice_index bs 0)))
    (cond (is 3 0 k bs) (Ok status_read)
    (cond (is 4 0 k bs) (Ok data_read)
    (cond (is 5 0 k bs) (Ok turn)
    (cond (is 6 7 k bs) (Ok (movement (slice_index bs 0) (slice_index bs 1) (to_z w16 (word bs 2)) (to_z w16 (word bs 4)) (to_z w8 (slice_index bs 6))))
    (cond (k == 7 && stroke_length (length (drop 1 bs))) (Ok (stroke (slice_index bs 0) (drop 1 bs)))
    (cond (is 8 2 k bs) (Ok (cable (slice_index bs 0) (slice_index bs 1)))
    (Err BadRecord))))))))

abbrev pub plain : Result Record Refusal → Result Item Refusal
plain (Ok r) = Ok (item_of r)
plain (Err e) = Err e
