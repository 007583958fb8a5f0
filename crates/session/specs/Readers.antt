-- Readers: where a reader stands in its file, and what it has handed out.
--   file_of r     the whole file
--   left_of r     the bytes it has not read
--   Handed is r   the records is, each with its header, joined in order, are the bytes it has read: then come those left
use Rattle.std.specs.Prelude.{◌≡◌, ℕ, ◌+◌, ◌<◌, ◌≤◌, List, [], ◌∷◌, ◌++◌, length, take, drop, Some, None, Ok, Err, Option, Result}
use Rattle.std.specs.Borrow.{Bor}
use Rattle.std.specs.List.{flat_map}
use Rattle.ps2.specs.declared.refusal.Refusal.{Refusal}
use Rattle.session.specs.declared.record_kinds.Record.{Record}
use Rattle.session.specs.declared.decode.Parts.{Parts}
use Rattle.session.specs.declared.reader.Reader.{Reader}
use Rattle.session.specs.Records.{Item, item_of, bytes_of, word}
use Rattle.session.specs.Files.{headed, first, session, answered, behind}

abbrev pub file_of : Reader → List ℕ
file_of r = r.file.now

abbrev pub left_of : Reader → List ℕ
left_of r = r.left.now

abbrev pub Handed : List Item → Reader → Type 0
Handed is r = flat_map bytes_of is ++ left_of r ≡ file_of r

-- an answer, its borrowed bytes read
abbrev pub told : Result (Option Record) Refusal → Result (Option Item) Refusal
told (Ok None) = Ok None
told (Ok (Some r)) = Ok (Some (item_of r))
told (Err e) = Err e

-- the records that an answer hands out: one or none
abbrev pub handed : Result (Option Item) Refusal → List Item
handed (Ok None) = []
handed (Ok (Some i)) = i ∷ []
handed (Err e) = []

-- a reader at the start of a file
pub record AtStart (file : List ℕ) (r : Reader) : Type 0 where
  pub whole : file_of r ≡ file
  pub start : left_of r ≡ file
  pub short : length file ≤ 65536

-- what opening a file gives: such a reader, unless the file is barred
abbrev pub Opened : Option Refusal → List ℕ → Result Reader Refusal → Type 0
Opened None file (Ok r) = AtStart file r
Opened None file (Err e) = ⊥
Opened (Some e) file (Ok r) = ⊥
Opened (Some e) file (Err f) = f ≡ e

-- a header taken from the front of some bytes, which announces the payload behind it; the rest is behind that
abbrev pub Split : List ℕ → Result Parts Refusal → Type 0
Split bs (Ok p) = (Ok (length p.payload.now, p.kind) ≡ headed bs) × (p.payload.now ≡ take (word bs 0) (drop 4 bs)) × (p.rest.now ≡ drop (4 + word bs 0) bs)
Split bs (Err e) = Err e ≡ headed bs

-- the front of some bytes read as a record: what it says, and that its bytes and those behind it are all
abbrev pub Found : List ℕ → Result (Record × Bor (List ℕ)) Refusal → Type 0
Found bs (Ok r) = (Ok (item_of r.0) ≡ first bs) × (r.1.now ≡ drop (4 + word bs 0) bs) × (bytes_of (item_of r.0) ++ r.1.now ≡ bs)
Found bs (Err e) = Err e ≡ first bs

-- one step, by its bytes alone: none left, or a front that is a record, or one that is refused
abbrev pub Advanced : Reader → Result (Option Item) Refusal → Reader → Type 0
Advanced r (Ok None) s = (length (left_of r) ≡ 0) × (s ≡ r)
Advanced r (Ok (Some i)) s = (0 < length (left_of r)) × (Ok i ≡ first (left_of r)) × (left_of s ≡ drop (4 + word (left_of r) 0) (left_of r)) × (bytes_of i ++ left_of s ≡ left_of r) × (file_of s ≡ file_of r)
Advanced r (Err e) s = (0 < length (left_of r)) × (Err e ≡ first (left_of r)) × (s ≡ r)

-- one answer of a reader: the first of the records before it, and it stands behind that record
pub record Step (before : Reader) (answer : Result (Option Item) Refusal) (after : Reader) : Type 0 where
  pub value : answer ≡ answered (session (left_of before))
  pub rest : session (left_of after) ≡ behind (session (left_of before))
  pub moved : left_of after ≡ drop (length (flat_map bytes_of (handed answer))) (left_of before)
  pub same : file_of after ≡ file_of before

-- the law over all that is handed out: records joined are the bytes read, and at a good end the whole file
pub record Keeps (before : Reader) (answer : Result (Option Item) Refusal) (after : Reader) : Type 0 where
  pub joins : (is : List Item) → Handed is before → Handed (is ++ handed answer) after
  pub ends : (is : List Item) → Handed is before → answer ≡ Ok None → flat_map bytes_of is ≡ file_of after
