-- What a record says spells its bytes again.
use Rattle.std.proofs.Common.{◌≡◌, ℕ, zero, suc, ◌+◌, ◌-◌, ◌/◌, ◌%◌, ◌<◌, ◌≤◌, Bool, true, false, cond, ◌&&◌, eqb, ltb, leb, ◌⊎◌, List, [], ◌∷◌, ◌++◌, length, get_or, take, drop, Ok, Err, Result, sym, refl, ap, ◌∙◌, subst, inl, inr, append-nil, add-zero, add-one, arith, length-drop, take-append-drop, w8, w16, to_z, of_z}
use Rattle.std.proofs.lemmas.List.{drop_more, drop_all, length-take-le, drop-drop, get_or-take, get_or-drop, get_or_past}
use Rattle.std.proofs.lemmas.Int.{of_z-to_z}
use Rattle.std.proofs.lemmas.Bool.{cond_both, and_parts, eqb-true, leb-true, ltb-false, cases_lt}
use Rattle.ps2.specs.declared.refusal.Refusal.{Refusal}
use Rattle.ps2.specs.declared.refusal.Refusal.TheVariants.{FileEndsInside}
use Rattle.ps2.specs.Refusals.{refusing}
use Rattle.session.specs.Records.{Item, command_write, data_write, status_read, data_read, turn, movement, stroke, cable, kind_of, payload_of, bytes_of, pair, word, said}
use Rattle.session.specs.Files.{headed, said_by, first}

-- the n elements from place i on, one by one
abbrev listed : ℕ → ℕ → List ℕ → List ℕ
listed i zero bs = []
listed i (suc n) bs = get_or bs i 0 ∷ listed (suc i) n bs

listed_on : (i n : ℕ) (bs : List ℕ) → i + n ≤ length bs → listed i n bs ++ drop (i + n) bs ≡ drop i bs
listed_on i zero bs h = simp add-zero
listed_on i (suc n) bs h =
    let on : i + suc n ≡ suc i + n = omega arith in
    ap (λ m. get_or bs i 0 ∷ (listed (suc i) n bs ++ drop m bs)) on ∙ ap (λ l. get_or bs i 0 ∷ l) (listed_on (suc i) n bs (omega arith)) ∙ sym (simp add-one at (drop_more bs i 0 (omega arith)))

whole : (n : ℕ) (bs : List ℕ) → length bs ≡ n → listed 0 n bs ≡ bs
whole n bs h = sym (append-nil _) ∙ ap (λ l. listed 0 n bs ++ l) (sym (drop_all (0 + n) bs (omega arith))) ∙ listed_on 0 n bs (omega arith)

-- what a payload says has that kind and payload
abbrev Spelled : Result Item Refusal → ℕ → List ℕ → Type 0
Spelled (Ok i) k bs = (kind_of i ≡ k) × (payload_of i ≡ bs)
Spelled (Err e) k bs = Unit {0}

spelled : (k : ℕ) (bs : List ℕ) → ((i : ℕ) → get_or bs i 0 < 256) → Spelled (said k bs) k bs
spelled k bs small =
    choose _ (command_write (get_or bs 0 0)) _ (λ e. (kind 1 1 e, whole 1 bs (size 1 1 e)))
    (choose _ (data_write (get_or bs 0 0)) _ (λ e. (kind 2 1 e, whole 1 bs (size 2 1 e)))
    (choose _ status_read _ (λ e. (kind 3 0 e, whole 0 bs (size 3 0 e)))
    (choose _ data_read _ (λ e. (kind 4 0 e, whole 0 bs (size 4 0 e)))
    (choose _ turn _ (λ e. (kind 5 0 e, whole 0 bs (size 5 0 e)))
    (choose _ (movement (get_or bs 0 0) (get_or bs 1 0) (to_z w16 (word bs 2)) (to_z w16 (word bs 4)) (to_z w8 (get_or bs 6 0))) _ (λ e. (kind 6 7 e, moved (size 6 7 e)))
    (choose _ (stroke (get_or bs 0 0) (drop 1 bs)) _ (λ e. let p = and_parts (eqb k 7) _ e in (sym (eqb-true k 7 p.0), stroked (leb-true 1 _ (and_parts (leb 1 (length (drop 1 bs))) _ p.1).0)))
    (choose _ (cable (get_or bs 0 0) (get_or bs 1 0)) _ (λ e. (kind 8 2 e, whole 2 bs (size 8 2 e))) tt)))))))
  where
    choose : (t : Bool) (i : Item) (r : Result Item Refusal) → (t ≡ true → (kind_of i ≡ k) × (payload_of i ≡ bs)) → Spelled r k bs → Spelled (cond t (Ok i) r) k bs
    choose t i r here on = cond_both t (Ok i) r (λ r. Spelled r k bs) here (λ _. on)

    kind : (j n : ℕ) → (eqb k j && eqb (length bs) n) ≡ true → j ≡ k
    kind j n e = sym (eqb-true k j (and_parts _ _ e).0)

    size : (j n : ℕ) → (eqb k j && eqb (length bs) n) ≡ true → length bs ≡ n
    size j n e = eqb-true (length bs) n (and_parts (eqb k j) _ e).1

    low : (i : ℕ) → of_z w16 (to_z w16 (word bs i)) % 256 ≡ get_or bs i 0
    low i = ap (λ n. n % 256) (of_z-to_z w16 (word bs i) (omega (arith, small i, small (i + 1)))) ∙ omega (arith, small i)

    high : (i : ℕ) → of_z w16 (to_z w16 (word bs i)) / 256 ≡ get_or bs (i + 1) 0
    high i = ap (λ n. n / 256) (of_z-to_z w16 (word bs i) (omega (arith, small i, small (i + 1)))) ∙ omega (arith, small i)

    moved : length bs ≡ 7 → get_or bs 0 0 ∷ get_or bs 1 0 ∷ (pair (of_z w16 (to_z w16 (word bs 2))) ++ (pair (of_z w16 (to_z w16 (word bs 4))) ++ (of_z w8 (to_z w8 (get_or bs 6 0)) ∷ []))) ≡ bs
    moved h = simp (low 2, high 2, low 4, high 4, of_z-to_z w8 (get_or bs 6 0) (small 6)) (whole 7 bs h)

    stroked : 1 ≤ length (drop 1 bs) → get_or bs 0 0 ∷ drop 1 bs ≡ bs
    stroked h = sym (drop_more bs 0 0 (omega (arith, length-drop 1 bs)))

-- a header whose payload is there whole
record Whole (bs : List ℕ) (n k : ℕ) : Type 0 where
  long : 4 ≤ length bs
  fits : n ≤ length bs - 4
  size : n ≡ word bs 0
  kind : k ≡ word bs 2

headed_whole : (bs : List ℕ) (n k : ℕ) → ◌≡◌ {A = Result (ℕ × ℕ) Refusal} (Ok (n, k)) (headed bs) → Whole bs n k
headed_whole bs n k = go (ltb (length bs) 4) (ltb (length bs - 4) (word bs 0)) refl refl
  where
    go : (s t : Bool) → ltb (length bs) 4 ≡ s → ltb (length bs - 4) (word bs 0) ≡ t → ◌≡◌ {A = Result (ℕ × ℕ) Refusal} (Ok (n, k)) (refusing s FileEndsInside (refusing t FileEndsInside (Ok (word bs 0, word bs 2)))) → Whole bs n k
    go true t a b e = let z : ◌≡◌ {A = ℕ} 0 1 = cc in absurd (omega arith)
    go false true a b e = let z : ◌≡◌ {A = ℕ} 0 1 = cc in absurd (omega arith)
    go false false a b e =
        let p : ◌≡◌ {A = ℕ × ℕ} (n, k) (word bs 0, word bs 2) = cc in
        let size = ap (λ (p : ℕ × ℕ). p.0) p in
        record { long = ltb-false _ _ a; fits = omega (arith, size, ltb-false _ _ b); size = size; kind = ap (λ (p : ℕ × ℕ). p.1) p }

-- the bytes of the record behind such a header, and those behind the record, are all
bytes_first : (bs : List ℕ) (n k : ℕ) → Whole bs n k → ((i : ℕ) → get_or bs i 0 < 256) → (i : Item) → said k (take n (drop 4 bs)) ≡ Ok i → bytes_of i ++ drop (4 + n) bs ≡ bs
bytes_first bs n k w small i e =
    let body = take n (drop 4 bs) in
    let size : length body ≡ n = length-take-le n (drop 4 bs) (simp length-drop w.fits) in
    let s : Spelled (Ok i) k body = subst (λ r. Spelled r k body) e (spelled k body (λ j. small_part j (cases_lt j n) size)) in
    let l0 : n % 256 ≡ get_or bs 0 0 = omega (arith, small 0, w.size) in
    let l1 : n / 256 ≡ get_or bs 1 0 = omega (arith, small 0, w.size) in
    let k0 : k % 256 ≡ get_or bs 2 0 = omega (arith, small 2, w.kind) in
    let k1 : k / 256 ≡ get_or bs 3 0 = omega (arith, small 2, w.kind) in
    let back : body ++ drop (4 + n) bs ≡ drop 4 bs = ap (λ l. body ++ l) (sym (drop-drop n 4 bs)) ∙ take-append-drop n (drop 4 bs) in
    simp (s.0, s.1) (simp size (simp (l0, l1, k0, k1, back) (listed_on 0 4 bs w.long)))
  where
    small_part : (j : ℕ) → (j < n) ⊎ (n ≤ j) → length (take n (drop 4 bs)) ≡ n → get_or (take n (drop 4 bs)) j 0 < 256
    small_part j (inl h) size = rw (get_or-take n (drop 4 bs) j 0 h, get_or-drop 4 bs j 0) (small (4 + j))
    small_part j (inr h) size = rw (get_or_past (take n (drop 4 bs)) j 0 (omega arith)) (omega arith)

-- what the payload behind such a header says is the first record
pub says_first : (bs payload : List ℕ) (k : ℕ) → ◌≡◌ {A = Result (ℕ × ℕ) Refusal} (Ok (length payload, k)) (headed bs) → payload ≡ take (word bs 0) (drop 4 bs) → said k payload ≡ first bs
says_first bs payload k h p =
    let w = headed_whole bs (length payload) k h in
    ap (said k) (p ∙ ap (λ n. take n (drop 4 bs)) (sym w.size)) ∙ ap (λ h. said_by h bs) h

pub found : (bs payload rest : List ℕ) (k : ℕ) → ◌≡◌ {A = Result (ℕ × ℕ) Refusal} (Ok (length payload, k)) (headed bs) → payload ≡ take (word bs 0) (drop 4 bs) → rest ≡ drop (4 + word bs 0) bs →
    ((i : ℕ) → get_or bs i 0 < 256) → (i : Item) → Ok i ≡ said k payload → (Ok i ≡ first bs) × (rest ≡ drop (4 + word bs 0) bs) × (bytes_of i ++ rest ≡ bs)
found bs payload rest k h p r small i e =
    let w = headed_whole bs (length payload) k h in
    let same = ap (λ n. take n (drop 4 bs)) w.size in
    (e ∙ says_first bs payload k h p, r, ap (λ l. bytes_of i ++ l) (r ∙ ap (λ n. drop (4 + n) bs) (sym w.size)) ∙ bytes_first bs (length payload) k w small i (ap (said k) (same ∙ sym p) ∙ sym e))
