-- Playing a record keeps the law of runs.
use Rattle.std.proofs.Common.{◌≡◌, ℕ, Ok, Err, Result, sym, refl, subst}
use Rattle.ps2.specs.declared.refusal.Refusal.{Refusal}
use Rattle.ps2.specs.Events.{Happening}
use Rattle.session.specs.Records.{Item, command_write, data_write, status_read, data_read, turn, movement, stroke, cable}
use Rattle.rules.specs.Banks.{Kinds, Values}
use Rattle.rules.specs.States.{State}
use Rattle.rules.specs.Histories.{Call, History, Answers}
use Rattle.rules.specs.Law.{Spans, Reached, Lawful}
use Rattle.rules.proofs.Laws.{kept, stands}
use Rattle.player.specs.Plays.{action_by, event_call, call_by, next_by, gone, played_to, Plays}

module _ {K : Kinds} (s : State K) where
  -- the call's answer is the one that the rules give
  abbrev Fits : Result Call Refusal → Type 0
  Fits (Ok x) = Answers s x
  Fits (Err e) = Unit {0}

  event_fits : (o : Result Happening Refusal) (l : ℕ) → Fits (event_call o l s)
  event_fits (Ok e) l = refl
  event_fits (Err e) l = tt

  call_fits : (i : Item) → Fits (call_by i s)
  call_fits (command_write b) = refl
  call_fits (data_write b) = refl
  call_fits status_read = refl
  call_fits data_read = refl
  call_fits turn = refl
  call_fits (movement l b x y w) = refl
  call_fits (stroke l bs) = refl
  call_fits (cable l a) = event_fits (action_by l a) l

  -- by the call that the record makes
  plays_by : (i : Item) (r : Result Call Refusal) → call_by i s ≡ r → Fits r → (t : State K) → t ≡ next_by r s → Plays s i t
  plays_by i (Ok x) is fits t e =
      let k = kept s x t fits e in
      record {
        reached = λ v h r. subst (λ c. Reached v (gone c h) t) (sym is) (k.reached v h r);
        multiplexes = λ v h r sp. k.multiplexes v h r (subst (λ c. Spans (gone c h)) is sp);
        lawful = λ v h r m. subst (λ c. Lawful v (gone c h)) (sym is) (k.lawful v h r m);
      }
  plays_by i (Err e) is fits t same =
      let back : (v : Values K) (h : History) → Reached v h s → Reached v h t = λ v h. subst (Reached v h) (sym same) in
      record {
        reached = λ v h r. subst (λ c. Reached v (gone c h) t) (sym is) (back v h r);
        multiplexes = λ v h r sp. (stands t).multiplexes v h (back v h r) (subst (λ c. Spans (gone c h)) is sp);
        lawful = λ v h r m. subst (λ c. Lawful v (gone c h)) (sym is) ((stands t).lawful v h (back v h r) m);
      }

  pub plays : (i : Item) (t : State K) → t ≡ played_to i s → Plays s i t
  plays i t e = plays_by i (call_by i s) refl (call_fits i) t e
