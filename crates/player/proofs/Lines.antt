-- The lines of a file, record by record, and the calls that they made.
use Rattle.std.proofs.Common.{◌≡◌, ℕ, ◌+◌, List, [], ◌∷◌, ◌++◌, Some, None, Ok, Err, Option, sym, refl, ap, ◌∙◌, append_assoc, append-nil}
use Rattle.ps2.specs.declared.refusal.Refusal.{Refusal}
use Rattle.session.specs.declared.reader.Reader.{Reader}
use Rattle.session.specs.Records.{Item}
use Rattle.session.specs.Files.{Ending, complete, refused, session, session_by, session_of, answered_by, tail}
use Rattle.session.specs.Readers.{left_of, Opened, Step, Keeps}
use Rattle.session.proofs.Progress.{Progress, onward}
use Rattle.rules.specs.Banks.{Kinds, Values}
use Rattle.rules.specs.States.{State, power_on}
use Rattle.rules.specs.Histories.{History, new}
use Rattle.rules.specs.Law.{Reached}
use Rattle.rules.proofs.Laws.{begun, stands}
use Rattle.player.specs.Replies.{line_text}
use Rattle.player.specs.Plays.{reply_to, played_to, call_by, gone}
use Rattle.player.specs.Transcripts.{end_line, lines_from, lines_of, state_to, history_to, tower_devices, Runs}
use Rattle.player.proofs.Playing.{plays}

module _ {K : Kinds} where
  -- the lines of a session, by what a reader answers
  lines_none : (n : ℕ) (s : State K) (is : List Item) (e : Ending) → Ok None ≡ answered_by is e → lines_from n s is e ≡ []
  unfolding lines_from
  lines_none n s [] complete h = refl
  lines_none n s [] (refused e) h = cc
  lines_none n s (i ∷ is) e h = cc

  lines_refused : (n : ℕ) (s : State K) (is : List Item) (e : Ending) (f : Refusal) → Err f ≡ answered_by is e → lines_from n s is e ≡ end_line n (refused f)
  unfolding lines_from
  lines_refused n s [] complete f h = cc
  lines_refused n s [] (refused e) f h = let same : e ≡ f = cc in ap (λ e. end_line n (refused e)) same
  lines_refused n s (i ∷ is) e f h = cc

  lines_some : (n : ℕ) (s : State K) (is : List Item) (e : Ending) (j : Item) → Ok (Some j) ≡ answered_by is e →
      lines_from n s is e ≡ line_text (n + 1) (reply_to j s) ++ lines_from (n + 1) (played_to j s) (tail is) e
  unfolding lines_from
  lines_some n s [] complete j h = cc
  lines_some n s [] (refused e) j h = cc
  lines_some n s (i ∷ is) e j h = let same : i ≡ j = cc in ap (λ i. line_text (n + 1) (reply_to i s) ++ lines_from (n + 1) (played_to i s) is e) same

  -- what is written so far, and the lines of what is left, are the whole text
  pub record Sofar (goal : List ℕ) (r : Reader) (number : ℕ) (s : State K) (text : List ℕ) : Type 0 where
    pub is : List Item
    pub progress : Progress is r number
    pub written : text ++ lines_of number s (session (left_of r)) ≡ goal

  module _ {goal : List ℕ} {r : Reader} {number : ℕ} {s : State K} {text : List ℕ} (so : Sofar goal r number s text) where
    pub at_end : (after : Reader) → Step r (Ok None) after → text ≡ goal
    at_end after step = sym (append-nil text) ∙ ap (λ l. text ++ l) (sym (lines_none number s _ _ step.value)) ∙ so.written

    pub at_refusal : (after : Reader) (e : Refusal) → Step r (Err e) after → text ++ end_line number (refused e) ≡ goal
    at_refusal after e step = ap (λ l. text ++ l) (sym (lines_refused number s _ _ e step.value)) ∙ so.written

    pub at_record : (after : Reader) (i : Item) → Step r (Ok (Some i)) after → Keeps r (Ok (Some i)) after →
        (t : State K) (more : List ℕ) → t ≡ played_to i s → more ≡ text ++ line_text (number + 1) (reply_to i s) → Sofar goal after (number + 1) t more
    at_record after i step keeps t more e m =
        let rest = lines_of (number + 1) t (session (left_of after)) in
        record {
          is = so.is ++ (i ∷ []);
          progress = onward so.progress after i step keeps;
          written = ap (λ l. l ++ rest) m ∙ append_assoc text (line_text (number + 1) (reply_to i s)) rest
              ∙ ap (λ l. text ++ l) ((λ k. line_text (number + 1) (reply_to i s) ++ lines_of (number + 1) (e k) (step.rest k)) ∙ sym (lines_some number s _ _ i step.value)) ∙ so.written;
        }

  -- the calls that the records make lead to the state after them
  pub reached_to : (v : Values K) (h : History) (s : State K) (is : List Item) → Reached v h s → Reached v (history_to h s is) (state_to s is)
  unfolding history_to state_to
  reached_to v h s [] r = r
  reached_to v h s (i ∷ is) r = reached_to v (gone (call_by i s) h) (played_to i s) is ((plays s i (played_to i s) refl).reached v h r)

-- what a refusal to open a file says of its lines
pub refused_lines : {K : Kinds} (s : State K) (o : Option Refusal) (file : List ℕ) (e : Refusal) → Opened o file (Err e) → end_line 0 (refused e) ≡ lines_of 0 s (session_by o file)
unfolding lines_from
refused_lines s None file e h = absurd h
refused_lines s (Some f) file e h = ap (λ e. end_line 0 (refused e)) h

pub runs : (file : List ℕ) → Runs file
runs file =
    let r = reached_to tower_devices new (power_on tower_devices) (session_of file).records (begun tower_devices (power_on tower_devices) refl) in
    record { reached = r; lawful = λ m. (stands _).lawful tower_devices _ r m }
