-- A board loses nothing.
use Rattle.std.proofs.Common.{◌≡◌, ℕ, ◌+◌, Bool, true, false, cond, not, List, [], ◌∷◌, ◌++◌, sym, refl, ap, ◌∙◌, append_assoc, arith}
use Rattle.std.proofs.lemmas.Bool.{not-true}
use Rattle.ps2.specs.Entries.{ahead}
use Rattle.ps2.specs.Events.{movement, stroke, pull, plug}
use Rattle.ps2.specs.Kinds.{first, chosen}
use Rattle.ps2.specs.Runs.{Call, gives, receives, happens, Ran, begun, giving, receiving, happening}
use Rattle.devices.specs.Boards.{BoardValue, fits, board_given, board_happened, board_kind}
use Rattle.devices.specs.BoardRuns.{owed, strokes_in, strokes_out, taken, acknowledged, LosesNothing}

-- the same by the fields, with what is owed
record Keeps (h : List Call) (a : Bool) (bs : List ℕ) : Type 0 where
  awaits : a ≡ owed h
  strokes : strokes_out h ++ bs ≡ strokes_in h
  acknowledges : acknowledged h + cond a 1 0 ≡ taken h

gave : (h : List Call) (a : Bool) (bs : List ℕ) → Keeps h a bs → Keeps (gives (first (ahead a bs)) ∷ h) (board_given a bs).acknowledges (board_given a bs).strokes
gave h true bs k = record {
  awaits = refl;
  strokes = rw (sym k.awaits) k.strokes;
  acknowledges = rw (sym k.awaits) (omega (arith, k.acknowledges));
}
gave h false [] k = record { awaits = refl; strokes = k.strokes; acknowledges = k.acknowledges }
gave h false (b ∷ bs) k = record {
  awaits = refl;
  strokes = rw (sym k.awaits) (append_assoc (strokes_out h) (b ∷ []) bs ∙ k.strokes);
  acknowledges = rw (sym k.awaits) (omega (arith, k.acknowledges));
}

abbrev Held : List Call → BoardValue → Type 0
Held h v = Keeps h v.acknowledges v.strokes

taking : (h : List Call) (t : Bool) (v : BoardValue) (b : ℕ) → t ≡ not v.acknowledges → Held h v → Held (receives b t ∷ h) (chosen t (record { acknowledges = true; strokes = v.strokes }) v)
taking h true v b e k = record { awaits = refl; strokes = k.strokes; acknowledges = let f = not-true v.acknowledges (sym e) in omega (arith, simp f at k.acknowledges) }
taking h false v b e k = record { awaits = k.awaits; strokes = k.strokes; acknowledges = omega (arith, k.acknowledges) }

stroking : (h : List Call) (t : Bool) (v : BoardValue) (bs : List ℕ) → Held h v → Held (happens (stroke bs) t ∷ h) (chosen t (board_happened v (stroke bs)) v)
stroking h true v bs k = record { awaits = k.awaits; strokes = sym (append_assoc (strokes_out h) v.strokes bs) ∙ ap (λ l. l ++ bs) k.strokes; acknowledges = k.acknowledges }
stroking h false v bs k = record { awaits = k.awaits; strokes = k.strokes; acknowledges = k.acknowledges }

held : (h : List Call) (v : BoardValue) → Ran board_kind h v → Held h v
held h v (begun w) = record { awaits = refl; strokes = refl; acknowledges = refl }
held h v (giving {h = g} w r) = gave g w.acknowledges w.strokes (held g w r)
held h v (receiving {h = g} w b r) = taking g (not w.acknowledges) w b refl (held g w r)
held h v (happening {h = g} w (stroke bs) r) = stroking g (fits w.strokes bs) w bs (held g w r)
held h v (happening {h = g} w (movement x y z b) r) = let k = held g w r in record { awaits = k.awaits; strokes = k.strokes; acknowledges = k.acknowledges }
held h v (happening {h = g} w pull r) = let k = held g w r in record { awaits = k.awaits; strokes = k.strokes; acknowledges = k.acknowledges }
held h v (happening {h = g} w plug r) = let k = held g w r in record { awaits = k.awaits; strokes = k.strokes; acknowledges = k.acknowledges }

pub loses_nothing : LosesNothing
loses_nothing h v r = let k = held h v r in record { strokes = k.strokes; acknowledges = k.acknowledges }
