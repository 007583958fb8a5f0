-- Seven bytes read in a row include one of each port that always had something to give.
use Rattle.std.proofs.Common.{◌≡◌, ℕ, suc, ◌+◌, ◌≤◌, Bool, true, false, cond, ◌&&◌, ◌||◌, List, [], ◌∷◌, Some, None, Ok, Err, Option, Result, sym, refl, ap, ◌∙◌, subst, arith}
use Rattle.std.proofs.lemmas.Bool.{true≢false, and_parts, or_parts}
use Rattle.ps2.specs.declared.entry.Entry.{Entry}
use Rattle.ps2.specs.declared.refusal.Refusal.{Refusal}
use Rattle.ps2.specs.Kinds.{nonempty, first}
use Rattle.parts.specs.declared.lines.Line.{Line}
use Rattle.parts.specs.declared.lines.Line.TheVariants.{Aux, Keyboard, Controller}
use Rattle.parts.specs.declared.lines.Port.{Port}
use Rattle.parts.specs.declared.lines.Port.TheVariants.{P0, P1, P2, P3}
use Rattle.parts.specs.declared.settings.Mode.{Mode}
use Rattle.parts.specs.declared.settings.Mode.TheVariants.{Legacy, Multiplexed}
use Rattle.parts.specs.declared.dialog.HostByte.{HostByte}
use Rattle.parts.specs.declared.dialog.HostByte.TheVariants as host
use Rattle.parts.specs.declared.output.Shown.{Shown}
use Rattle.parts.specs.declared.output.Carried.{Carried}
use Rattle.parts.specs.Lines.{line_number, line_after, device_line, is_port}
use Rattle.parts.specs.Held.{held_at}
use Rattle.rules.specs.Banks.{Kinds, Values}
use Rattle.rules.specs.States.{State, mode_of, with_output, with_input, with_devices}
use Rattle.rules.specs.Status.{status, present, tagged}
use Rattle.parts.specs.Settings.{line_open}
use Rattle.parts.specs.Commands.{decoded}
use Rattle.rules.specs.Hosting.{carry_out, blocked}
use Rattle.rules.specs.Arbiter.{first_of}
use Rattle.rules.specs.Turns.{changed, waits_at, first_at, gives, taken_from, taken_to, shown_as, moved, fill_line_by, filled, carried_by, carried_to, carried_for, hosted_for, carried, hosted, filled_if}
use Rattle.rules.specs.Calls.{became, event_to, read_of, input_of, command_answer, data_answer, event_answer}
use Rattle.rules.specs.Histories.{Call, status_read, data_read, command_write, data_write, happens, turn, History, new, ◌▹◌, ◌⊕◌, after, next, Answers, Truthful, last_write, arguments, entering, leaving, opens, closes, is_read, read_count, Steady, ready_at, Ready, includes}
use Rattle.rules.proofs.Basics.{modes_apart, by_test}
use Rattle.rules.proofs.Seeing.{tag_at}
use Rattle.rules.proofs.Carrying.{works}
use Rattle.rules.proofs.Filling.{keeps}
use Rattle.rules.proofs.Following.{Inv, holds}
use Rattle.rules.proofs.Arbiters.{far, far_small, Found, finds}

-- after n reads that were not the port's, by the output buffer and the arbiter's line
abbrev Bound : Port → ℕ → Option Shown → Line → Type 0
Bound p n None l = far l p + n ≤ 6
Bound p n (Some o) l = is_port p (line_number o.line) ≡ false → far l p + n ≤ 5

-- A line that has something to give gives it
-- ------------------------------------------

pub record Gives (o : Option Entry) : Type 0 where
  pub entry : Entry
  pub is : o ≡ Some entry

first_gives : (es : List Entry) → nonempty es ≡ true → Gives (first es)
first_gives [] e = absurd (true≢false (sym e))
first_gives (x ∷ xs) e = record { entry = x; is = refl }

module _ {K : Kinds} where
  waits_first : (v : Values K) (l : Line) → waits_at v l ≡ true → Gives (first_at v l)
  waits_first v (Aux P0) e = first_gives _ e
  waits_first v (Aux P1) e = first_gives _ e
  waits_first v (Aux P2) e = first_gives _ e
  waits_first v (Aux P3) e = first_gives _ e
  waits_first v Keyboard e = first_gives _ e
  waits_first v Controller e = absurd (true≢false (sym e))

  taken_gives : (h : Option Entry) (l : Line) (t : State K) → present h || (line_open t.settings l && waits_at t.devices l) ≡ true → Gives (taken_from h t l)
  taken_gives (Some e) l t g = record { entry = e; is = refl }
  taken_gives None l t g = waits_first t.devices l (and_parts (line_open t.settings l) _ g).1

  pub gives_taken : (l : Line) (t : State K) → gives t l ≡ true → Gives (taken_from (held_at t.held l) t l)
  gives_taken l t g = taken_gives (held_at t.held l) l t g

  -- Filling keeps the bound
  -- -----------------------

  bound_shown : (p : Port) (n : ℕ) (l : Line) (e : Option Entry) (t : State K) → Gives e → (is_port p (line_number l) ≡ false → far (line_after l) p + n ≤ 5) →
      Bound p n (shown_as e l t).output (shown_as e l t).next
  bound_shown p n l None t g near = let z : ◌≡◌ {A = ℕ} 0 1 = let q = g.is in cc in absurd (omega arith)
  bound_shown p n l (Some e) t g near = near

  bound_moved : (p : Port) (n : ℕ) (t : State K) (m : Option Line) → far t.next p + n ≤ 6 → Found (gives t) p t.next m → Bound p n (moved m t).output (moved m t).next
  bound_moved p n t m b f =
      let l = f.line in
      subst (λ m. Bound p n (moved m t).output (moved m t).next) (sym f.found)
      (bound_shown p n l _ (taken_to (held_at t.held l) t l) (gives_taken l t f.passes) (λ o. omega (arith, f.nearer o)))

  bound_by : (p : Port) (n : ℕ) (t : State K) (o : Option Shown) → t.output ≡ o → Bound p n o t.next → gives t (Aux p) ≡ true →
      Bound p n (moved (fill_line_by o t) t).output (moved (fill_line_by o t) t).next
  bound_by p n t (Some o) e b g = rw e b
  bound_by p n t None e b g = bound_moved p n t (first_of (gives t) 6 t.next) b (finds (gives t) p g 6 t.next (omega (arith, far_small t.next p)))

  bound_filled : (p : Port) (n : ℕ) (t : State K) → Bound p n t.output t.next → gives t (Aux p) ≡ true → Bound p n (filled t).output (filled t).next
  bound_filled p n t b g = bound_by p n t t.output refl b g

  -- the controller multiplexes; at most six bytes were read, none of them the port's, and the arbiter is near enough
  record Nears (p : Port) (n : ℕ) (u : State K) : Type 0 where
    mode : mode_of u ≡ Multiplexed
    few : n ≤ 6
    bound : Bound p n u.output u.next

bound_start : (p : Port) (o : Option Shown) (l : Line) → Bound p 0 o l
bound_start p None l = omega (arith, far_small l p)
bound_start p (Some o) l = λ n. omega (arith, far_small l p)

module _ {K : Kinds} (v : Values K) (p : Port) (h : History) (inv : Inv v h (after v h)) (n : ℕ) (so : Nears p n (after v h)) where
  abbrev s : State K
  s = after v h

  -- a call that is no read under the port's tag keeps near
  abbrev Keeps : Call → State K → Type 0
  Keeps x u = (opens x || closes x) ≡ false → is_read x && tagged p (status s) ≡ false → Nears p (cond (is_read x) (suc n) n) u

  read_keeps : (o : Option Shown) → s.output ≡ o → Keeps (data_read (read_of o)) (became (read_of o) (with_output None s) s)
  read_keeps None e k i = so
  read_keeps (Some o) e k i =
      let away : is_port p (line_number o.line) ≡ false = sym (tag_at s so.mode p o e) ∙ i in
      let near : far s.next p + n ≤ 5 = subst (λ o. Bound p n o s.next) e so.bound away in
      record { mode = so.mode; few = omega arith; bound = omega arith }

  same : (u : State K) → mode_of u ≡ mode_of s → u.output ≡ s.output → u.next ≡ s.next → Nears p n u
  same u m o x = record { mode = m ∙ so.mode; few = so.few; bound = rw (o, x) so.bound }

  became_same : {A : Type 0} (r : Result A Refusal) (u : State K) → mode_of u ≡ mode_of s → u.output ≡ s.output → u.next ≡ s.next → Nears p n (became r u s)
  became_same (Ok a) u m o x = same u m o x
  became_same (Err e) u m o x = so

  -- a turn: t is the state after the host byte
  fill_keeps : (t : State K) → mode_of t ≡ Multiplexed → t.output ≡ s.output → t.next ≡ s.next → gives t (Aux p) ≡ true → Nears p n (filled t)
  fill_keeps t m o x g = record { mode = ap (λ y. y.mode) (keeps t).settings ∙ m; few = so.few; bound = bound_filled p n t (rw (o, x) so.bound) g }

  abbrev TurnKeeps : Carried → State K → Type 0
  TurnKeeps c t = (entering c || leaving c) ≡ false → gives t (Aux p) ≡ true → Nears p n (filled_if c t)

  changed_keeps : (w : HostByte) → s.dialog.input ≡ Some w → (m k : Mode) → mode_of s ≡ m → mode_of (carry_out w s) ≡ k → TurnKeeps (changed m k) (carry_out w s)
  changed_keeps w i Legacy k e f st g = absurd (modes_apart (sym e ∙ so.mode))
  changed_keeps w i Multiplexed Legacy e f st g = absurd (true≢false st)
  changed_keeps w i Multiplexed Multiplexed e f st g =
      let k = works w (last_write h) (arguments h) s (inv.wrote w i) (inv.fits e) (inv.placed e) f in
      fill_keeps (carry_out w s) f k.output k.next g

  blocked_keeps : (w : HostByte) → s.dialog.input ≡ Some w → (x : Bool) → TurnKeeps (carried_by x w s) (carried_to x w s)
  blocked_keeps w i true st g = fill_keeps s so.mode refl refl g
  blocked_keeps w i false st g = changed_keeps w i (mode_of s) (mode_of (carry_out w s)) refl refl st g

  hosted_keeps : (i : Option HostByte) → s.dialog.input ≡ i → TurnKeeps (carried_for i s) (hosted_for i s)
  hosted_keeps None e st g = fill_keeps s so.mode refl refl g
  hosted_keeps (Some w) e st g = blocked_keeps w e (blocked w s) st g

  turn_keeps : TurnKeeps (carried s) (hosted s)
  turn_keeps = hosted_keeps s.dialog.input refl

  keeps_near : (x : Call) → Answers s x → ready_at p s x ≡ true → Keeps x (next s x)
  keeps_near (status_read b) e r = λ k i. so
  keeps_near (data_read a) e r = subst (λ a. Keeps (data_read a) (next s (data_read a))) (sym e) (read_keeps s.output refl)
  keeps_near (command_write b a) e r = λ k i. became_same (command_answer b s) (with_input (input_of (decoded s.dialog.awaited b)) s) refl refl refl
  keeps_near (data_write b a) e r = λ k i. became_same (data_answer s) (with_input (Some (host.Data b)) s) refl refl refl
  keeps_near (happens m x a) e r = λ k i. became_same (event_answer m x s) (with_devices (event_to (device_line m) s.devices x) s) refl refl refl
  keeps_near (turn c m) e r = λ k i. turn_keeps (ap (λ q. entering q.0 || leaving q.0) (sym e) ∙ k) r

module _ {K : Kinds} (v : Values K) (p : Port) where
  nears : (g w : History) → Truthful v (g ⊕ w) → mode_of (after v g) ≡ Multiplexed → Steady w → Ready v p g w → includes v p g w ≡ false → Nears p (read_count w) (after v (g ⊕ w))
  nears g new t m st r i = record { mode = m; few = omega arith; bound = bound_start p (after v g).output (after v g).next }
  nears g (w ▹ x) t m st r i =
      let no = or_parts (includes v p g w) _ i in
      let before = nears g w t.0 m st.0 r.0 no.0 in
      keeps_near v p (g ⊕ w) (holds v (g ⊕ w) t.0) (read_count w) before x t.1 r.1 st.1 no.1

  pub fair : (g w : History) → Truthful v (g ⊕ w) → mode_of (after v g) ≡ Multiplexed → Steady w → read_count w ≡ 7 → Ready v p g w → includes v p g w ≡ true
  fair g w t m st c r = by_test (includes v p g w) (λ e. e) (λ e. let few = (nears g w t m st r e).few in absurd (omega arith))
