-- The law of runs holds behind every call.
use Rattle.std.proofs.Common.{◌≡◌, ℕ, List, [], ◌∷◌, ◌++◌, map, Option, Result, sym, refl, ap, ◌∙◌, subst, inl, inr}
use Rattle.ps2.specs.declared.entry.Entry.{Entry}
use Rattle.ps2.specs.Events.{Happening}
use Rattle.ps2.specs.declared.refusal.Refusal.{Refusal}
use Rattle.parts.specs.declared.lines.Line.{Line}
use Rattle.parts.specs.declared.lines.Port.{Port}
use Rattle.parts.specs.declared.output.Carried.{Carried}
use Rattle.parts.specs.declared.settings.Mode.TheVariants.{Multiplexed}
use Rattle.rules.specs.Banks.{Kinds, Values}
use Rattle.rules.specs.States.{State, mode_of, power_on}
use Rattle.rules.specs.Status.{status}
use Rattle.rules.specs.Turns.{turn_answer, turn_after}
use Rattle.rules.specs.Calls.{read_answer, read_after, command_answer, command_after, data_answer, data_after, event_answer, event_after}
use Rattle.rules.specs.Histories.{Call, status_read, data_read, command_write, data_write, happens, turn, History, new, ◌▹◌, ◌⊕◌, after, next, Answers, Truthful, Seen, seen, reads, output_of}
use Rattle.rules.specs.Law.{Faithful, Unspoilt, Among, Genuine, Lawful, Reached, Kept, Stands}
use Rattle.rules.proofs.Seeing.{waiting_is}
use Rattle.rules.proofs.Following.{Follows, holds, empty_at}
use Rattle.rules.proofs.Spanning.{truthful_front, span_mode}
use Rattle.rules.proofs.Basics.{among_left}
use Rattle.rules.proofs.Fairness.{fair}

-- an entry behind each thing seen
record Behind (b : Seen) (es : List Entry) : Type 0 where
  entry : Entry
  is : b ≡ seen entry
  among : Among entry es

behind : (b : Seen) (es : List Entry) → Among b (map seen es) → Behind b es
behind b [] m = absurd m
behind b (e ∷ es) (inl is) = record { entry = e; is = is; among = inl refl }
behind b (e ∷ es) (inr m) = let r = behind b es m in record { entry = r.entry; is = r.is; among = inr r.among }

module _ {K : Kinds} (v : Values K) where
  faithful : (h : History) (p : Port) → mode_of (after v h) ≡ Multiplexed → Follows v h (after v h) p → Faithful v h p
  faithful h p m f = record {
    bytes = ap (λ x. reads v p h ++ x) (waiting_is (after v h) m p) ∙ f.bytes ∙ ap (λ c. map seen c.heard) (sym f.cable);
    value = ap (λ c. c.value) (sym f.cable);
    held = ap (λ c. c.held) (sym f.cable);
  }

  genuine : (h : History) (p : Port) → Follows v h (after v h) p → Genuine v h p
  genuine h p k b m =
      let r = behind b k.heard (subst (Among b) k.bytes (among_left b (reads v p h) (map seen (output_of p (after v h).output)) m)) in
      record { entry = r.entry; shown = r.is; from = k.sources r.entry r.among }

  unspoilt : (h : History) → Truthful v h → (p : Port) → Unspoilt v h p
  unspoilt h t p g w x e sp =
      let u : Truthful v (g ▹ x) = truthful_front v (g ▹ x) w (subst (Truthful v) e t) in
      empty_at v g (holds v g u.0) p x u.1

  pub lawful : (h : History) → Truthful v h → mode_of (after v h) ≡ Multiplexed → Lawful v h
  lawful h t m =
      let inv = holds v h t in
      record {
        spans = inv.spans m;
        faithful = λ p. faithful h p m (inv.follows m p);
        unspoilt = unspoilt h t;
        genuine = λ p. genuine h p (inv.follows m p);
        fair = λ p g w rest e sp st c r.
            let u : Truthful v (g ⊕ w) = truthful_front v (g ⊕ w) rest (subst (Truthful v) e t) in
            fair v p g w u (span_mode v g (truthful_front v g w u) sp) st c r;
      }

-- a call that answers and becomes what the rules give
pub kept : {K : Kinds} (s : State K) (x : Call) (t : State K) → Answers s x → t ≡ next s x → Kept s x t
kept {K = K} s x t a e =
    let told : (v : Values K) (h : History) → Reached v h s → Truthful v (h ▹ x) = λ v h r. (r.truthful, subst (λ s. Answers s x) r.state a) in
    let became : (v : Values K) (h : History) → Reached v h s → t ≡ after v (h ▹ x) = λ v h r. e ∙ ap (λ s. next s x) r.state in
    record {
      reached = λ v h r. record { truthful = told v h r; state = became v h r };
      multiplexes = λ v h r sp. ap mode_of (became v h r) ∙ span_mode v (h ▹ x) (told v h r) sp;
      lawful = λ v h r m. lawful v (h ▹ x) (told v h r) (ap mode_of (sym (became v h r)) ∙ m);
    }

-- and so for each kind of call
module _ {K : Kinds} (s : State K) where
  pub status_kept : (b : ℕ) → b ≡ status s → Kept s (status_read b) s
  status_kept b e = kept s (status_read b) s e refl

  pub read_kept : (t : State K) (r : Result ℕ Refusal) → r ≡ read_answer s → t ≡ read_after s → Kept s (data_read r) t
  read_kept t r a e = kept s (data_read r) t a e

  pub command_kept : (t : State K) (b : ℕ) (r : Result (Unit {0}) Refusal) → r ≡ command_answer b s → t ≡ command_after b s → Kept s (command_write b r) t
  command_kept t b r a e = kept s (command_write b r) t a e

  pub data_kept : (t : State K) (b : ℕ) (r : Result (Unit {0}) Refusal) → r ≡ data_answer s → t ≡ data_after b s → Kept s (data_write b r) t
  data_kept t b r a e = kept s (data_write b r) t a e

  pub event_kept : (t : State K) (n : ℕ) (x : Happening) (r : Result (Unit {0}) Refusal) → r ≡ event_answer n x s → t ≡ event_after n x s → Kept s (happens n x r) t
  event_kept t n x r a e = kept s (happens n x r) t a e

  pub turn_kept : (t : State K) (r : Carried × Option Line) → r ≡ turn_answer s → t ≡ turn_after s → Kept s (turn r.0 r.1) t
  turn_kept t r a e = kept s (turn r.0 r.1) t a e

  pub stands : Stands s
  stands = record {
    multiplexes = λ v h r sp. ap mode_of r.state ∙ span_mode v h r.truthful sp;
    lawful = λ v h r m. lawful v h r.truthful (ap mode_of (sym r.state) ∙ m);
  }

-- a new controller
pub begun : {K : Kinds} (v : Values K) (s : State K) → s ≡ power_on v → Reached v new s
begun v s e = record { truthful = tt; state = e }
