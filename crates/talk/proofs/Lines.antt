-- A text cut at its line ends.
use Rattle.std.proofs.Common.{◌≡◌, ℕ, ◌<◌, Bool, true, false, cond, List, [], ◌∷◌, ◌++◌, length, take, drop, Bor, Option, None, Some, MatchOption, subst, sym, refl, ap, ◌∙◌, arith, lit<}
use Rattle.std.specs.declared.str.SplitTerminator.{SplitTerminator}
use Rattle.std.specs.Str.Iter.{split_text, split_has_more, split_terminator_parts, split_terminator_pattern, split_terminator_steps}
use Rattle.std.specs.Str.Pattern.{FindsChar, HasCharAt}
use Rattle.std.proofs.lemmas.List.{take-append-drop}
use Rattle.std.proofs.lemmas.Str.Pattern.{NoCharPasses-char, drop_at_char}
use Rattle.talk.specs.Texts.{in_front, lines_of}
use Rattle.talk.proofs.Cuts.{Lacks, lacks_head, lacks_tail}

lines_last : (b : ℕ) (t : List ℕ) → Lacks 10 (b ∷ t) → lines_of (b ∷ t) ≡ (b ∷ t) ∷ []
unfolding lines_of
lines_last b [] h = rw (lacks_head 10 b [] h) refl
lines_last b (d ∷ t) h = rw (lacks_head 10 b (d ∷ t) h) (ap (in_front b) (lines_last d t (lacks_tail 10 b (d ∷ t) h)))

lines_more : (t u : List ℕ) → Lacks 10 t → lines_of (t ++ (10 ∷ u)) ≡ t ∷ lines_of u
unfolding lines_of
lines_more [] u h = refl
lines_more (b ∷ t) u h = rw (lacks_head 10 b t h) (ap (in_front b) (lines_more t u (lacks_tail 10 b t h)))

-- a line that was cut off is the first
module _ (x rest : List ℕ) (more : Bool) (ended : length x ≡ 0 → more ≡ true) where
  first_line : (t : List ℕ) (o : Option (ℕ × ℕ)) → FindsChar 10 t o → MatchOption o ((x ≡ t) × (more ≡ false)) (λ q. 0 < q.1 → (x ≡ take q.0 t) × (more ≡ true) × (rest ≡ drop q.1 t)) → lines_of t ≡ x ∷ cond more (lines_of rest) []
  first_line [] None f h = let e = ended (ap length h.0) in cc
  first_line (b ∷ t) None f h = lines_last b t (λ i lt. NoCharPasses-char 10 (b ∷ t) i f (lit< tt) lt) ∙ (λ k. sym h.0 k ∷ cond (sym h.1 k) (lines_of rest) [])
  first_line t (Some q) f h =
      let at : HasCharAt 10 t q.0 q.1 = f.1 in
      let p = h (omega (arith, at.ends)) in
      ap lines_of (sym (take-append-drop q.0 t) ∙ ap (λ u. take q.0 t ++ u) (drop_at_char 10 t q.0 q.1 at (lit< tt))) ∙ lines_more (take q.0 t) (drop q.1 t) (λ i lt. NoCharPasses-char 10 (take q.0 t) i f.0 (lit< tt) lt) ∙ (λ k. sym p.0 k ∷ cond (sym p.1 k) (lines_of (sym p.2 k)) [])

-- the lines that are left to come
abbrev pub left : SplitTerminator ℕ → List (List ℕ)
left s = cond (split_has_more (split_terminator_parts s)) (lines_of (split_text (split_terminator_parts s))) []

none_by : (t : List ℕ) (o : Option (ℕ × ℕ)) → FindsChar 10 t o → MatchOption o (length t ≡ 0) (λ q. q.1 ≡ 0) → lines_of t ≡ []
unfolding lines_of
none_by [] None f h = refl
none_by (b ∷ t) None f h = absurd (omega arith)
none_by t (Some q) f h = let at : HasCharAt 10 t q.0 q.1 = f.1 in absurd (omega (arith, at.ends))

none_left : (c : ℕ) (t : List ℕ) (more : Bool) → c ≡ 10 → (more ≡ true → (o : Option (ℕ × ℕ)) × FindsChar c t o × MatchOption o (length t ≡ 0) (λ q. q.1 ≡ 0)) → cond more (lines_of t) [] ≡ []
none_left c t false p h = refl
none_left c t true p h = let k = h refl in none_by t k.0 (subst (λ c. FindsChar c t k.0) p k.1) k.2

module _ (s t : SplitTerminator ℕ) (p : split_terminator_pattern s ≡ 10) where
  pub left_none : split_terminator_steps FindsChar (λ a b. b ≡ a) s None t → left s ≡ []
  left_none k = none_left _ _ _ p k.0

  pub left_more : (line : Bor (List ℕ)) → split_terminator_steps FindsChar (λ a b. b ≡ a) s (Some line) t → (split_terminator_pattern t ≡ 10) × (left s ≡ line.now ∷ left t)
  left_more line k =
      let whole = split_text (split_terminator_parts s) in
      let cut = k.2.1 in
      (k.1 ∙ p, ap (λ more. cond more (lines_of whole) []) k.0 ∙ first_line line.now _ _ k.3 whole cut.0 (subst (λ c. FindsChar c whole cut.0) p cut.1) cut.2)
