-- The mode, read from the answers: the controller multiplexes exactly where a span is open.
use Rattle.std.proofs.Common.{◌≡◌, Bool, true, false, ◌||◌, Some, None, Ok, Err, Option, Result, sym, refl, ap, ◌∙◌, subst}
use Rattle.std.proofs.lemmas.Bool.{true≢false}
use Rattle.ps2.specs.declared.refusal.Refusal.{Refusal}
use Rattle.parts.specs.declared.settings.Mode.{Mode}
use Rattle.parts.specs.declared.settings.Mode.TheVariants.{Legacy, Multiplexed}
use Rattle.parts.specs.declared.dialog.HostByte.{HostByte}
use Rattle.parts.specs.declared.output.Carried.{Carried}
use Rattle.parts.specs.declared.output.Carried.TheVariants.{NoByte, Stays, CarriedOut, NowMultiplexed, NowLegacy}
use Rattle.rules.specs.Banks.{Kinds, Values}
use Rattle.rules.specs.States.{State, mode_of}
use Rattle.rules.specs.Hosting.{carry_out, blocked}
use Rattle.rules.specs.Turns.{changed, carried_by, carried_to, carried_for, hosted_for, filled, filled_if}
use Rattle.rules.specs.Calls.{became, read_answer, command_answer, data_answer, event_answer}
use Rattle.rules.specs.Histories.{Call, status_read, data_read, command_write, data_write, happens, turn, History, new, ◌▹◌, ◌⊕◌, after, next, Answers, Truthful, carried_at, entering, leaving, opening, since, Steady}
use Rattle.rules.specs.Law.{Began, Spans}
use Rattle.rules.proofs.Filling.{keeps}

-- the mode after an answer
abbrev mode_by : Carried → Mode → Mode
mode_by NoByte m = m
mode_by Stays m = m
mode_by CarriedOut m = m
mode_by NowMultiplexed m = Multiplexed
mode_by NowLegacy m = Legacy

module _ {K : Kinds} where
  filled_mode : (s : State K) → mode_of (filled s) ≡ mode_of s
  filled_mode s = ap (λ g. g.mode) (keeps s).settings

  changed_mode : (w : HostByte) (s : State K) (m n : Mode) → mode_of s ≡ m → mode_of (carry_out w s) ≡ n → mode_of (filled_if (changed m n) (carry_out w s)) ≡ mode_by (changed m n) (mode_of s)
  changed_mode w s Legacy Legacy e f = filled_mode (carry_out w s) ∙ f ∙ sym e
  changed_mode w s Legacy Multiplexed e f = f
  changed_mode w s Multiplexed Legacy e f = f
  changed_mode w s Multiplexed Multiplexed e f = filled_mode (carry_out w s) ∙ f ∙ sym e

  blocked_mode : (x : Bool) (w : HostByte) (s : State K) → mode_of (filled_if (carried_by x w s) (carried_to x w s)) ≡ mode_by (carried_by x w s) (mode_of s)
  blocked_mode true w s = filled_mode s
  blocked_mode false w s = changed_mode w s (mode_of s) (mode_of (carry_out w s)) refl refl

  turn_mode : (i : Option HostByte) (s : State K) → mode_of (filled_if (carried_for i s) (hosted_for i s)) ≡ mode_by (carried_for i s) (mode_of s)
  turn_mode None s = filled_mode s
  turn_mode (Some w) s = blocked_mode (blocked w s) w s

  became_mode : {A : Type 0} (r : Result A Refusal) (t s : State K) → mode_of t ≡ mode_of s → mode_of (became r t s) ≡ mode_of s
  became_mode (Ok a) t s e = e
  became_mode (Err x) t s e = refl

  call_mode : (s : State K) (x : Call) → Answers s x → mode_of (next s x) ≡ mode_by (carried_at x) (mode_of s)
  call_mode s (status_read n) e = refl
  call_mode s (data_read r) e = became_mode (read_answer s) _ s refl
  call_mode s (command_write b r) e = became_mode (command_answer b s) _ s refl
  call_mode s (data_write b r) e = became_mode (data_answer s) _ s refl
  call_mode s (happens n x r) e = became_mode (event_answer n x s) _ s refl
  call_mode s (turn c m) e = turn_mode s.dialog.input s ∙ ap (λ q. mode_by q.0 (mode_of s)) (sym e)

-- steady calls keep the mode, and one that opens a span enters Multiplexed mode
steady_mode : (c : Carried) (m : Mode) → entering c || leaving c ≡ false → mode_by c m ≡ m
steady_mode NoByte m e = refl
steady_mode Stays m e = refl
steady_mode CarriedOut m e = refl
steady_mode NowMultiplexed m e = absurd (true≢false e)
steady_mode NowLegacy m e = absurd (true≢false e)

opening_mode : (c : Carried) (m : Mode) → entering c ≡ true → mode_by c m ≡ Multiplexed
opening_mode NoByte m e = absurd (true≢false (sym e))
opening_mode Stays m e = absurd (true≢false (sym e))
opening_mode CarriedOut m e = absurd (true≢false (sym e))
opening_mode NowMultiplexed m e = refl
opening_mode NowLegacy m e = absurd (true≢false (sym e))

module _ {K : Kinds} (v : Values K) where
  began_mode : (h : History) → Truthful v h → Began h → mode_of (after v h) ≡ Multiplexed
  began_mode new t b = absurd b
  began_mode (h ▹ x) t b = call_mode (after v h) x t.1 ∙ opening_mode (carried_at x) (mode_of (after v h)) b

  steady_since : (g w : History) → Truthful v (g ⊕ w) → Steady w → mode_of (after v g) ≡ Multiplexed → mode_of (after v (g ⊕ w)) ≡ Multiplexed
  steady_since g new t s m = m
  steady_since g (w ▹ x) t s m =
      call_mode (after v (g ⊕ w)) x t.1 ∙ steady_mode (carried_at x) (mode_of (after v (g ⊕ w))) s.1 ∙ steady_since g w t.0 s.0 m

  pub truthful_front : (g w : History) → Truthful v (g ⊕ w) → Truthful v g
  truthful_front g new t = t
  truthful_front g (w ▹ x) t = truthful_front g w t.0

  pub span_mode : (h : History) → Truthful v h → Spans h → mode_of (after v h) ≡ Multiplexed
  span_mode h t sp =
      let u : Truthful v (opening h ⊕ since h) = subst (Truthful v) sp.whole t in
      ap (λ h. mode_of (after v h)) sp.whole ∙ steady_since (opening h) (since h) u sp.steady (began_mode (opening h) (truthful_front (opening h) (since h) u) sp.began)
