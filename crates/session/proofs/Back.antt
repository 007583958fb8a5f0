-- What is written as bytes reads as the same records.
use Rattle.std.proofs.Common.{◌≡◌, ℕ, ◌+◌, ◌-◌, ◌*◌, ◌/◌, ◌%◌, true, false, ltb, leb, List, [], ◌∷◌, ◌++◌, length, drop, Ok, sym, refl, ap, ◌∙◌, arith, length-append, w8, w16, to_z, of_z}
use Rattle.std.specs.List.{flat_map, AllByRecursion}
use Rattle.std.proofs.lemmas.List.Elements.{recursion_from_All}
use Rattle.std.proofs.lemmas.List.{take_at, drop_at, drop-drop}
use Rattle.std.proofs.lemmas.Int.{to_z-of_z}
use Rattle.std.proofs.lemmas.Bool.{le-leb, le-ltb}
use Rattle.session.specs.Records.{Item, command_write, data_write, status_read, data_read, turn, movement, stroke, cable, kind_of, payload_of, bytes_of, Valid, word, said}
use Rattle.session.specs.Files.{complete, headed, said_by, first, onward, session, ReadsBack}
use Rattle.session.proofs.Steps.{session_none, session_more}

halves : (n : ℕ) → n % 256 + n / 256 * 256 ≡ n
halves n = omega arith

said_valid : (i : Item) → Valid i → said (kind_of i) (payload_of i) ≡ Ok i
said_valid (command_write b) v = refl
said_valid (data_write b) v = refl
said_valid status_read v = refl
said_valid data_read v = refl
said_valid turn v = refl
said_valid (movement l b x y w) v =
    let sx = ap (to_z w16) (halves (of_z w16 x)) ∙ to_z-of_z w16 x v.0 in
    let sy = ap (to_z w16) (halves (of_z w16 y)) ∙ to_z-of_z w16 y v.1 in
    λ k. Ok (movement l b (sx k) (sy k) (to_z-of_z w8 w v.2 k))
said_valid (stroke l bs) v =
    let low : leb 1 (length bs) ≡ true = le-leb 1 _ v.0 in
    let high : leb (length bs) 16 ≡ true = le-leb _ 16 v.1 in
    simp (low, high)
said_valid (cable l a) v = refl

module _ (i : Item) (v : Valid i) (rest : List ℕ) where
  size : word (bytes_of i ++ rest) 0 ≡ length (payload_of i)
  size = halves (length (payload_of i))

  headed_valid : headed (bytes_of i ++ rest) ≡ Ok (length (payload_of i), kind_of i)
  headed_valid =
      let bs = bytes_of i ++ rest in
      let long : ltb (length bs) 4 ≡ false = le-ltb (length bs) 4 (omega arith) in
      let fits : ltb (length bs - 4) (word bs 0) ≡ false = le-ltb _ _ (omega (arith, size, length-append (payload_of i) rest)) in
      simp (long, fits) (λ k. Ok (size k, halves (kind_of i) k))

  first_valid : first (bytes_of i ++ rest) ≡ Ok i
  first_valid = ap (λ h. said_by h (bytes_of i ++ rest)) headed_valid ∙ ap (said (kind_of i)) (take_at (payload_of i) rest (length (payload_of i)) refl) ∙ said_valid i v

  rest_valid : drop (4 + word (bytes_of i ++ rest) 0) (bytes_of i ++ rest) ≡ rest
  rest_valid = sym (drop-drop (word (bytes_of i ++ rest) 0) 4 (bytes_of i ++ rest)) ∙ drop_at (payload_of i) rest _ (sym size)

all_read_back : (is : List Item) → AllByRecursion Valid is → session (flat_map bytes_of is) ≡ record { records = is; ending = complete }
all_read_back [] v = session_none
all_read_back (i ∷ is) v =
    let rest = flat_map bytes_of is in
    session_more (bytes_of i ++ rest) (omega arith) ∙ (λ k. onward (first_valid i v.0 rest k) (session (rest_valid i v.0 rest k))) ∙ ap (onward (Ok i)) (all_read_back is v.1)

pub reads_back : ReadsBack
reads_back is v = all_read_back is (recursion_from_All Valid is v)
