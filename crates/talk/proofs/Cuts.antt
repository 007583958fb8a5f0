-- Texts cut at a character.
use Rattle.std.proofs.Common.{◌≡◌, ℕ, suc, ◌<◌, false, eqb, List, [], ◌∷◌, ◌++◌, length, get_or, Bor, Option, None, Some, MatchOption, unwrap_or, sym, refl, ap, ◌∙◌, arith, eq-eqb, ne_eqb}
use Rattle.talk.specs.Texts.{before, behind}

-- no c in a text
abbrev pub Lacks : ℕ → List ℕ → Type 0
Lacks c t = (i : ℕ) → i < length t → get_or t i 0 ≡ c → ⊥

pub lacks_head : (c b : ℕ) (t : List ℕ) → Lacks c (b ∷ t) → eqb b c ≡ false
lacks_head c b t h = ne_eqb b c (h 0 (omega arith))

pub lacks_tail : (c b : ℕ) (t : List ℕ) → Lacks c (b ∷ t) → Lacks c t
lacks_tail c b t h i lt = h (suc i) (omega arith)

pub before_at : (c : ℕ) (t u : List ℕ) → Lacks c t → before c (t ++ (c ∷ u)) ≡ t
unfolding before
before_at c [] u h = rw (eq-eqb c c refl)
before_at c (b ∷ t) u h = rw (lacks_head c b t h) (ap (λ t. b ∷ t) (before_at c t u (lacks_tail c b t h)))

pub behind_at : (c : ℕ) (t u : List ℕ) → Lacks c t → behind c (t ++ (c ∷ u)) ≡ u
unfolding behind
behind_at c [] u h = rw (eq-eqb c c refl)
behind_at c (b ∷ t) u h = rw (lacks_head c b t h) (behind_at c t u (lacks_tail c b t h))

pub before_none : (c : ℕ) (t : List ℕ) → Lacks c t → before c t ≡ t
unfolding before
before_none c [] h = refl
before_none c (b ∷ t) h = rw (lacks_head c b t h) (ap (λ t. b ∷ t) (before_none c t (lacks_tail c b t h)))

pub behind_none : (c : ℕ) (t : List ℕ) → Lacks c t → behind c t ≡ []
unfolding behind
behind_none c [] h = refl
behind_none c (b ∷ t) h = rw (lacks_head c b t h) (behind_none c t (lacks_tail c b t h))

-- a cut at the first c gives its two parts, or the whole text and nothing behind it
pub cut_at_first : (c : ℕ) (t : List ℕ) (o : Option (Bor (List ℕ) × Bor (List ℕ))) (d r : Bor (List ℕ) × Bor (List ℕ)) → MatchOption o (Lacks c t) (λ x. (t ≡ x.0.now ++ (c ∷ x.1.now)) × Lacks c x.0.now) → d.0.now ≡ t → d.1.now ≡ [] → r ≡ unwrap_or o d → (r.0.now ≡ before c t) × (r.1.now ≡ behind c t)
cut_at_first c t None d r h e f g = (ap (λ x. x.0.now) g ∙ e ∙ sym (before_none c t h), ap (λ x. x.1.now) g ∙ f ∙ sym (behind_none c t h))
cut_at_first c t (Some x) d r h e f g = (ap (λ x. x.0.now) g ∙ sym (ap (before c) h.0 ∙ before_at c _ _ h.1), ap (λ x. x.1.now) g ∙ sym (ap (behind c) h.0 ∙ behind_at c _ _ h.1))
