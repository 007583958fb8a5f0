-- The laws of a talk, proved.
use Rattle.std.proofs.Common.{◌≡◌, ℕ, ◌+◌, ◌<◌, Bool, true, false, cond, eqb, List, [], ◌∷◌, ◌++◌, length, Some, None, Ok, Err, Option, Result, sym, refl, ap, ◌∙◌, subst, append_assoc, append-nil, arith}
use Rattle.ps2.specs.declared.entry.Entry.{Entry}
use Rattle.ps2.specs.Kinds.{rest}
use Rattle.mouse.specs.declared.mouse.Mouse.{Mouse}
use Rattle.mouse.specs.MouseKind.{mouse_kind}
use Rattle.talk.specs.declared.fault.Fault.{Fault}
use Rattle.talk.specs.declared.step.Step.{Step}
use Rattle.talk.specs.declared.step.Step.TheVariants.{Note, Power, Host, Move}
use Rattle.talk.specs.Texts.{in_front, lines_of}
use Rattle.talk.specs.Steps.{step_of}
use Rattle.talk.specs.Exchanged.{playing, given_all, any_drained, step_line, left_by, beside, taken, turn, played, exchanged}
use Rattle.talk.specs.TalkLaws.{Quiet}

-- a mouse that gave all that waited has nothing waiting
settled_by : (es : List Entry) (m : Mouse) → mouse_kind.waiting m ≡ es → mouse_kind.waiting (given_all es m) ≡ []
unfolding given_all
settled_by [] m h = h
settled_by (e ∷ es) m h = settled_by es (mouse_kind.given m) (mouse_kind.given_rest m ∙ ap rest h)

drained_quiet : (m : Option Mouse) → Quiet (any_drained m)
drained_quiet None = tt
drained_quiet (Some m) = settled_by (mouse_kind.waiting m) m refl

-- a note leaves the mouse as it is
playing_note : (m : Option Mouse) → playing Note m ≡ Ok m
playing_note None = refl
playing_note (Some m) = refl

noted : (t : Step) (r : Result (Option Mouse) Fault) (p : Option Mouse) → beside t r ≡ Ok (Note, p) → (t ≡ Note) × (r ≡ Ok p)
noted t (Ok q) p e = let same : ◌≡◌ {A = Step × Option Mouse} (t, q) (Note, p) = cc in (ap (λ x. x.0) same, ap (λ x. Ok x.1) same)
noted t (Err f) p e = cc

quiet_by : (r : Result Step Fault) (m : Option Mouse) (s : Step) (p : Option Mouse) → Quiet m → taken r m ≡ Ok (s, p) → Quiet (left_by s p)
quiet_by (Ok t) m Note p h e =
    let note = noted t (playing t m) p e in
    let same = sym (playing_note m) ∙ ap (λ s. playing s m) (sym note.0) ∙ note.1 in
    subst Quiet (cc) h
quiet_by (Err f) m Note p h e = cc
quiet_by r m (Power v) p h e = drained_quiet p
quiet_by r m (Host b) p h e = drained_quiet p
quiet_by r m (Move d) p h e = drained_quiet p

pub settled : (l : List ℕ) (m : Option Mouse) (s : Step) (p : Option Mouse) → Quiet m → taken (step_of l) m ≡ Ok (s, p) → Quiet (left_by s p)
settled l m s p h e = quiet_by (step_of l) m s p h e

some_by : (end : Bool) (b : ℕ) (ls : List (List ℕ)) → 0 < length (cond end ([] ∷ ls) (in_front b ls))
some_by true b ls = omega arith
some_by false b [] = omega arith
some_by false b (l ∷ ls) = omega arith

some_lines : (b : ℕ) (t : List ℕ) → 0 < length (lines_of (b ∷ t))
unfolding lines_of
some_lines b t = some_by (eqb b 10) b (lines_of t)

-- the lines of a text are lines of any text that goes on behind a newline
front_join : (b : ℕ) (ls ks : List (List ℕ)) → 0 < length ls → in_front b (ls ++ ks) ≡ in_front b ls ++ ks
front_join b [] ks h = absurd (omega arith)
front_join b (l ∷ ls) ks h = refl

one_join : (end : Bool) (b : ℕ) (u : List ℕ) → (ks : List (List ℕ)) × (cond end ([] ∷ ([] ∷ lines_of u)) (in_front b ([] ∷ lines_of u)) ≡ cond end ([] ∷ []) (in_front b []) ++ ks)
one_join true b u = ([] ∷ lines_of u, refl)
one_join false b u = (lines_of u, refl)

more_join : (end : Bool) (b d : ℕ) (t : List ℕ) (js ks : List (List ℕ)) → js ≡ lines_of (d ∷ t) ++ ks → cond end ([] ∷ js) (in_front b js) ≡ cond end ([] ∷ lines_of (d ∷ t)) (in_front b (lines_of (d ∷ t))) ++ ks
more_join true b d t js ks h = ap (λ js. [] ∷ js) h
more_join false b d t js ks h = ap (in_front b) h ∙ front_join b (lines_of (d ∷ t)) ks (some_lines d t)

lines_join : (t u : List ℕ) → (ks : List (List ℕ)) × (lines_of (t ++ (10 ∷ u)) ≡ lines_of t ++ ks)
unfolding lines_of
lines_join [] u = ([] ∷ lines_of u, refl)
lines_join (b ∷ []) u = one_join (eqb b 10) b u
lines_join (b ∷ (d ∷ t)) u =
    let on = lines_join (d ∷ t) u in
    (on.0, more_join (eqb b 10) b d t (lines_of ((d ∷ t) ++ (10 ∷ u))) on.0 on.1)

by_turn : (n : ℕ) (l : List ℕ) (r : Result (Step × Option Mouse) Fault) (j k : Option Mouse → List ℕ) → ((m : Option Mouse) → (more : List ℕ) × (k m ≡ j m ++ more)) → (more : List ℕ) × (turn n l r k ≡ turn n l r j ++ more)
by_turn n l (Ok t) j k h =
    let on = h (left_by t.0 t.1) in
    (on.0, ap (λ u. step_line l t.0 t.1 ++ u) on.1 ∙ sym (append_assoc (step_line l t.0 t.1) _ _))
by_turn n l (Err f) j k h = ([], sym (append-nil _))

kept_lines : (n : ℕ) (m : Option Mouse) (ls ks : List (List ℕ)) → (more : List ℕ) × (played n m (ls ++ ks) ≡ played n m ls ++ more)
unfolding played
kept_lines n m [] ks = (played n m ks, refl)
kept_lines n m (l ∷ ls) ks = by_turn (n + 1) l (taken (step_of l) m) _ _ (λ m. kept_lines (n + 1) m ls ks)

pub kept : (t u : List ℕ) → (more : List ℕ) × (exchanged (t ++ (10 ∷ u)) ≡ exchanged t ++ more)
kept t u =
    let ls = lines_join t u in
    let on = kept_lines 0 None (lines_of t) ls.0 in
    (on.0, ap (played 0 None) ls.1 ∙ on.1)
