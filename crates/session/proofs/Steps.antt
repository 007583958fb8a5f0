-- One step of a reader: at the end, at a refusal, and at a record.
use Rattle.std.proofs.Common.{◌≡◌, ℕ, zero, suc, ◌+◌, ◌<◌, ◌≤◌, List, [], ◌∷◌, ◌++◌, length, drop, Some, None, Ok, Err, Option, Result, sym, refl, ap, ◌∙◌, subst, append-nil, arith, length-drop}
use Rattle.std.proofs.lemmas.List.{nil_from_length, drop_at}
use Rattle.ps2.specs.declared.refusal.Refusal.{Refusal}
use Rattle.session.specs.declared.reader.Reader.{Reader}
use Rattle.session.specs.Records.{Item, bytes_of, word}
use Rattle.session.specs.Files.{first, onward, within, session, complete, refused, answered, behind}
use Rattle.session.specs.Readers.{file_of, left_of, Advanced, Step}

within_same : (n m : ℕ) (bs : List ℕ) → length bs ≤ n → length bs ≤ m → within n bs ≡ within m bs
unfolding within
within_same zero zero bs h k = refl
within_same zero (suc m) [] h k = refl
within_same zero (suc m) (b ∷ bs) h k = absurd (omega arith)
within_same (suc n) zero [] h k = refl
within_same (suc n) zero (b ∷ bs) h k = absurd (omega arith)
within_same (suc n) (suc m) [] h k = refl
within_same (suc n) (suc m) (b ∷ bs) h k =
    let size = 4 + word (b ∷ bs) 0 in
    ap (onward (first (b ∷ bs))) (within_same n m (drop size (b ∷ bs)) (simp length-drop (omega arith)) (simp length-drop (omega arith)))

pub session_none : session [] ≡ record { records = []; ending = complete }
unfolding session within
session_none = refl

pub session_more : (bs : List ℕ) → 0 < length bs → session bs ≡ onward (first bs) (session (drop (4 + word bs 0) bs))
unfolding session within
session_more [] h = absurd (omega arith)
session_more (b ∷ bs) h =
    let rest = drop (4 + word (b ∷ bs) 0) (b ∷ bs) in
    ap (onward (first (b ∷ bs))) (within_same (length bs) (length rest) rest (simp length-drop (omega arith)) (omega arith))

read_end : (r : Reader) → length (left_of r) ≡ 0 → Step r (Ok None) r
read_end r h =
    let q = ap session (nil_from_length (left_of r) h) ∙ session_none in
    record { value = sym (ap answered q); rest = q ∙ sym (ap behind q); moved = refl; same = refl }

read_refused : (r : Reader) (e : Refusal) → 0 < length (left_of r) → Err e ≡ first (left_of r) → Step r (Err e) r
read_refused r e some h =
    let q : session (left_of r) ≡ record { records = []; ending = refused e } = session_more (left_of r) some ∙ ap (λ f. onward f (session (drop (4 + word (left_of r) 0) (left_of r)))) (sym h) in
    record { value = sym (ap answered q); rest = q ∙ sym (ap behind q); moved = refl; same = refl }

read_found : (r s : Reader) (i : Item) → 0 < length (left_of r) → Ok i ≡ first (left_of r) → left_of s ≡ drop (4 + word (left_of r) 0) (left_of r) → bytes_of i ++ left_of s ≡ left_of r → file_of s ≡ file_of r → Step r (Ok (Some i)) s
read_found r s i some h rest all file =
    let q : session (left_of r) ≡ onward (Ok i) (session (left_of s)) =
    session_more (left_of r) some ∙ (λ k. onward (sym h k) (session (sym rest k))) in
    record {
      value = sym (ap answered q);
      rest = sym (ap behind q);
      moved = sym (ap (λ l. drop (length (bytes_of i ++ [])) l) (sym all) ∙ drop_at (bytes_of i) (left_of s) (length (bytes_of i ++ [])) (ap length (sym (append-nil (bytes_of i)))));
      same = file;
    }

pub reading : (r : Reader) (answer : Result (Option Item) Refusal) (s : Reader) → Advanced r answer s → Step r answer s
reading r (Ok None) s a = subst (Step r (Ok None)) (sym a.1) (read_end r a.0)
reading r (Ok (Some i)) s a = read_found r s i a.0 a.1 a.2 a.3 a.4
reading r (Err e) s a = subst (Step r (Err e)) (sym a.2) (read_refused r e a.0 a.1)
