-- The lines of a file, record by record.
use Rattle.std.proofs.Common.{◌≡◌, ℕ, ◌+◌, ◌-◌, List, [], ◌∷◌, ◌++◌, length, Some, None, Ok, Err, Option, sym, refl, ap, ◌∙◌, append_assoc}
use Rattle.std.specs.List.{flat_map}
use Rattle.ps2.specs.declared.refusal.Refusal.{Refusal}
use Rattle.session.specs.declared.reader.Reader.{Reader}
use Rattle.session.specs.Records.{Item, bytes_of}
use Rattle.session.specs.Files.{Ending, complete, refused, session, session_by, answered_by, tail}
use Rattle.session.specs.Readers.{file_of, left_of, Opened, Step, Keeps}
use Rattle.session.proofs.Progress.{Progress, place_is, size, onward}
use Rattle.report.specs.Explained.{line, end_line, lines, lines_of}

-- what is written so far, and the lines of what is left, are the whole text
pub record Sofar (goal : List ℕ) (r : Reader) (number : ℕ) (text : List ℕ) : Type 0 where
  pub is : List Item
  pub progress : Progress is r number
  pub written : text ++ lines_of number (length (flat_map bytes_of is)) (session (left_of r)) ≡ goal

-- what a refusal to open a file says of its lines
pub refused_lines : (o : Option Refusal) (file : List ℕ) (e : Refusal) → Opened o file (Err e) → end_line 0 0 (refused e) ≡ lines_of 0 0 (session_by o file)
unfolding lines
refused_lines None file e h = absurd h
refused_lines (Some f) file e h = ap (λ e. end_line 0 0 (refused e)) h

-- the lines of a session, by what a reader answers
lines_none : (n at : ℕ) (is : List Item) (e : Ending) → Ok None ≡ answered_by is e → lines n at is e ≡ end_line n at complete
unfolding lines
lines_none n at [] complete h = refl
lines_none n at [] (refused e) h = cc
lines_none n at (i ∷ is) e h = cc

lines_refused : (n at : ℕ) (is : List Item) (e : Ending) (f : Refusal) → Err f ≡ answered_by is e → lines n at is e ≡ end_line 0 at (refused f)
unfolding lines
lines_refused n at [] complete f h = cc
lines_refused n at [] (refused e) f h = let same : e ≡ f = cc in ap (λ e. end_line 0 at (refused e)) same
lines_refused n at (i ∷ is) e f h = cc

lines_some : (n at : ℕ) (is : List Item) (e : Ending) (j : Item) → Ok (Some j) ≡ answered_by is e → lines n at is e ≡ line (n + 1) at j ++ lines (n + 1) (at + length (bytes_of j)) (tail is) e
unfolding lines
lines_some n at [] complete j h = cc
lines_some n at [] (refused e) j h = cc
lines_some n at (i ∷ is) e j h = let same : i ≡ j = cc in ap (λ i. line (n + 1) at i ++ lines (n + 1) (at + length (bytes_of i)) is e) same

module _ {goal : List ℕ} {r : Reader} {number : ℕ} {text : List ℕ} (so : Sofar goal r number text) where
  place : length (file_of r) - length (left_of r) ≡ length (flat_map bytes_of so.is)
  place = place_is so.progress

  pub at_end : (s : Reader) (place : ℕ) → place ≡ length (file_of r) - length (left_of r) → Step r (Ok None) s → text ++ end_line number place complete ≡ goal
  at_end s at e step = ap (λ at. text ++ end_line number at complete) (e ∙ place) ∙ ap (λ l. text ++ l) (sym (lines_none number _ _ _ step.value)) ∙ so.written

  pub at_refusal : (s : Reader) (e : Refusal) (place : ℕ) → place ≡ length (file_of r) - length (left_of r) → Step r (Err e) s → text ++ end_line 0 place (refused e) ≡ goal
  at_refusal s e at p step = ap (λ at. text ++ end_line 0 at (refused e)) (p ∙ place) ∙ ap (λ l. text ++ l) (sym (lines_refused number _ _ _ e step.value)) ∙ so.written

  module _ (s : Reader) (i : Item) (step : Step r (Ok (Some i)) s) (keeps : Keeps r (Ok (Some i)) s) where
    pub at_record : (place : ℕ) (more : List ℕ) → place ≡ length (file_of r) - length (left_of r) → more ≡ text ++ line (number + 1) place i → Sofar goal s (number + 1) more
    at_record at more p m =
        let is = so.is in
        let rest = lines_of (number + 1) (length (flat_map bytes_of (is ++ (i ∷ [])))) (session (left_of s)) in
        record {
          is = is ++ (i ∷ []);
          progress = onward so.progress s i step keeps;
          written = ap (λ l. l ++ rest) m ∙ append_assoc text (line (number + 1) at i) rest
              ∙ ap (λ l. text ++ l) ((λ k. line (number + 1) ((p ∙ place) k) i ++ lines_of (number + 1) (size so.progress s i step keeps k) (step.rest k)) ∙ sym (lines_some number _ _ _ i step.value)) ∙ so.written;
        }
