-- The witness is one.
use Rattle.std.proofs.Common.{◌≡◌, ◌++◌, refl, subst, inl, inr}
use Rattle.rules.specs.Arbiter.{first_of}
use Rattle.rules.specs.Histories.{new, ◌⊕◌, command_role, activates}
use Rattle.rules.specs.Law.{Reached}
use Rattle.rules.proofs.Laws.{begun, stands}
use Rattle.player.specs.Transcripts.{state_to, history_to}
use Rattle.player.proofs.Lines.{reached_to}
use Rattle.worked.specs.Cases.{blanks, five_boards}
use Rattle.worked.specs.Witness.{before, window, early, late, Witness}

joins : history_to new five_boards (before ++ window) ≡ early ⊕ late
unfolding first_of history_to state_to
joins = refl

pub witness : Witness
unfolding first_of history_to state_to command_role activates
witness = record {
  reached = subst (λ h. Reached blanks h (state_to five_boards (before ++ window))) joins (reached_to blanks new five_boards (before ++ window) (begun blanks five_boards refl));
  multiplexes = refl;
  spans = ((stands (state_to five_boards before)).lawful blanks early (reached_to blanks new five_boards before (begun blanks five_boards refl)) refl).spans;
  steady = (((((((((((((tt, refl), refl), refl), refl), refl), refl), refl), refl), refl), refl), refl), refl), refl);
  seven = refl;
  ready = (((((((((((((tt, refl), refl), refl), refl), refl), refl), refl), refl), refl), refl), refl), refl), refl);
  includes = refl;
  sends = inl refl;
  forces = inr (inl refl);
  timeout = inl refl;
}
