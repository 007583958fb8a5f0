-- The port's lone cable follows the port, whatever is called.
use Rattle.std.proofs.Common.{◌≡◌, ℕ, ◌≤◌, Bool, true, false, cond, not, ◌||◌, eqb, leb, ◌⊎◌, List, [], ◌∷◌, ◌++◌, map, Some, None, Ok, Err, Option, Result, sym, refl, ap, ◌∙◌, subst, ap₂, inl, inr, append_assoc, append-nil, arith}
use Rattle.std.proofs.lemmas.Option.{none-some}
use Rattle.std.proofs.lemmas.Bool.{eqb-true}
use mathlib.Core.List.{map-append}
use Rattle.ps2.specs.declared.entry.Entry.{Entry}
use Rattle.ps2.specs.declared.refusal.Refusal.{Refusal}
use Rattle.ps2.specs.declared.refusal.Refusal.TheVariants.{UnknownCommand, FieldOutOfRange}
use Rattle.ps2.specs.Refusals.{refusing}
use Rattle.ps2.specs.Events.{Happening, in_range}
use Rattle.ps2.specs.Kinds.{room_answer}
use Rattle.parts.specs.declared.lines.Line.{Line}
use Rattle.parts.specs.declared.lines.Line.TheVariants.{Aux}
use Rattle.parts.specs.declared.lines.Port.{Port}
use Rattle.parts.specs.declared.settings.Mode.{Mode}
use Rattle.parts.specs.declared.settings.Mode.TheVariants.{Legacy, Multiplexed}
use Rattle.parts.specs.declared.dialog.Command.{Command}
use Rattle.parts.specs.declared.dialog.HostByte.{HostByte}
use Rattle.parts.specs.declared.dialog.HostByte.TheVariants as host
use Rattle.parts.specs.declared.output.Shown.{Shown}
use Rattle.parts.specs.declared.output.Carried.{Carried}
use Rattle.parts.specs.declared.output.Carried.TheVariants.{NoByte, Stays, CarriedOut, NowMultiplexed, NowLegacy}
use Rattle.parts.specs.Lines.{line_number, device_line, is_port}
use Rattle.parts.specs.Held.{held_at}
use Rattle.rules.specs.Banks.{Kinds, Values, port_value}
use Rattle.rules.specs.States.{State, mode_of, with_output, with_input, with_devices}
use Rattle.rules.specs.Status.{status, present}
use Rattle.parts.specs.Commands.{decoded}
use Rattle.rules.specs.Hosting.{carry_out, blocked}
use Rattle.rules.specs.Turns.{changed, carried_by, carried_to, carried_for, hosted_for, carried, hosted, fill_line, filled, line_if, filled_if, turn_after}
use Rattle.rules.specs.Calls.{became, read_of, input_of, room_at, happened_at, event_to, event_at, command_answer, data_answer, event_answer}
use Rattle.rules.specs.LoneCable.{TakenAt, occur, occurs_if, play_all}
use Rattle.rules.specs.Histories.{Call, status_read, data_read, command_write, data_write, happens, turn, History, new, ◌▹◌, after, next, Answers, Truthful, written, last_write, carries_out, carried_at, last_carried, role, argued, arguments, byte_steps, host_steps, take_steps, steps_at, entering, leaving, opens, closes, opening, steps, seen, read_ok, read_at, reads, output_of, standing, starts, lone}
use Rattle.rules.specs.Law.{Spans, Among, Turned}
use Rattle.rules.proofs.Basics.{modes_apart, by_test, port_line, port_number_at, ask_at, cable_of, play_append, among_append}
use Rattle.rules.proofs.Seeing.{waiting_is}
use Rattle.rules.proofs.Sequences.{place_of}
use Rattle.rules.proofs.Carrying.{role_of, is_aux_send, decoded_role, cable_parts, value_other, value_same, Wrote, wrote_role, works, fits, free, legacy_not, entered}
use Rattle.rules.proofs.Filling.{keeps, fills}

-- the port's lone cable stands as the port does, and has heard what was read and what waits
pub record Follows {K : Kinds} (v : Values K) (h : History) (s : State K) (p : Port) : Type 0 where
  pub heard : List Entry
  pub cable : lone v p h ≡ cable_of p s heard
  pub bytes : reads v p h ++ map seen (output_of p s.output) ≡ map seen heard
  pub sources : (e : Entry) → Among e heard → Among e (starts v p h).heard ⊎ Turned v h p e

pub record Inv {K : Kinds} (v : Values K) (h : History) (s : State K) : Type 0 where
  pub wrote : (w : HostByte) → s.dialog.input ≡ Some w → Wrote w (last_write h)
  pub expects : role_of s.dialog.awaited ≡ role (last_carried h)
  pub fits : mode_of s ≡ Multiplexed → is_aux_send s.dialog.awaited ≡ false
  pub placed : mode_of s ≡ Multiplexed → s.dialog.place ≡ place_of (arguments h)
  pub spans : mode_of s ≡ Multiplexed → Spans h
  pub follows : mode_of s ≡ Multiplexed → (p : Port) → Follows v h s p

-- the number of an event's line
abbrev number_by : Option Line → ℕ → ℕ
number_by None n = n
number_by (Some l) n = line_number l

number_back : (n : ℕ) → number_by (device_line n) n ≡ n
number_back n =
    by_test (leb n 3) (λ t. let few : n ≤ 3 = grind arith in rw t (port_number_at n few)) λ t.
    by_test (eqb n 4) (λ u. rw (t, u) (sym (eqb-true n 4 u))) λ u. rw (t, u)

event_line : (n : ℕ) (l : Line) → device_line n ≡ Some l → line_number l ≡ n
event_line n l e = sym (ap (λ o. number_by o n) e) ∙ number_back n

spans_next : (h : History) (x : Call) → opens x ≡ false → closes x ≡ false → Spans h → Spans (h ▹ x)
spans_next h x n m sp = record {
  whole = rw n (ap (λ g. g ▹ x) sp.whole);
  began = rw n sp.began;
  steady = rw n (sp.steady, ap₂ ◌||◌ n m);
}

module _ {K : Kinds} (v : Values K) where
  lone_next : (p : Port) (h : History) (x : Call) → opens x ≡ false → lone v p (h ▹ x) ≡ play_all (lone v p h) (steps_at p h x)
  lone_next p h x n =
      ap (λ b. play_all (standing p (after v (cond b (h ▹ x) (opening h)))) (cond b [] (steps p h ++ steps_at p h x))) n
      ∙ play_append (standing p (after v (opening h))) (steps p h) (steps_at p h x)

  reads_next : (p : Port) (h : History) (x : Call) → opens x ≡ false → reads v p (h ▹ x) ≡ reads v p h ++ read_at p (status (after v h)) x
  reads_next p h x n = ap (λ b. cond b [] (reads v p h ++ read_at p (status (after v h)) x)) n

  -- a source of an entry is one still after another call
  sources_next : (p : Port) (h : History) (x : Call) → opens x ≡ false → closes x ≡ false → (e : Entry) →
      Among e (starts v p h).heard ⊎ Turned v h p e → Among e (starts v p (h ▹ x)).heard ⊎ Turned v (h ▹ x) p e
  sources_next p h x n m e (inl a) = inl (subst (λ b. Among e (standing p (after v (cond b (h ▹ x) (opening h)))).heard) (sym n) a)
  sources_next p h x n m e (inr t) = inr (record {
    early = t.early;
    late = t.late ▹ x;
    became = t.became;
    whole = ap (λ g. g ▹ x) t.whole;
    inside = t.inside;
    steady = (t.steady, ap₂ ◌||◌ n m);
    taken = t.taken;
  })

  -- what a call does to the port: its steps on the cable, and what they add to what was heard
  record Moves (p : Port) (h : History) (x : Call) (u : State K) : Type 0 where
    out : List Entry
    cable : (hs : List Entry) → play_all (cable_of p (after v h) hs) (steps_at p h x) ≡ cable_of p u (hs ++ out)
    came : (e : Entry) → Among e out → Turned v (h ▹ x) p e
    bytes : map seen (output_of p (after v h).output) ++ map seen out ≡ read_at p (status (after v h)) x ++ map seen (output_of p u.output)

  follow : (p : Port) (h : History) (x : Call) (u : State K) → opens x ≡ false → closes x ≡ false → Moves p h x u → Follows v h (after v h) p → Follows v (h ▹ x) u p
  follow p h x u n m mv f =
      let M = map seen (output_of p u.output) in
      let R = read_at p (status (after v h)) x in
      record {
        heard = f.heard ++ mv.out;
        cable = lone_next p h x n ∙ ap (λ k. play_all k (steps_at p h x)) f.cable ∙ mv.cable f.heard;
        sources = λ e a. elim (among_append e f.heard mv.out a) [ inl y ↦ sources_next p h x n m e (f.sources e y) | inr y ↦ inr (mv.came e y) ];
        bytes = ap (λ r. r ++ M) (reads_next p h x n) ∙ append_assoc (reads v p h) R M ∙ ap (λ r. reads v p h ++ r) (sym mv.bytes)
            ∙ sym (append_assoc (reads v p h) (map seen (output_of p (after v h).output)) (map seen mv.out))
            ∙ ap (λ r. r ++ map seen mv.out) f.bytes ∙ sym (map-append seen f.heard mv.out);
      }

  module _ (h : History) (inv : Inv v h (after v h)) where
    abbrev s : State K
    s = after v h

    -- a call that carries out no byte: mode, what is awaited and the place stay
    quiet : (x : Call) (u : State K) → carried_at x ≡ NoByte → mode_of u ≡ mode_of s → u.dialog.awaited ≡ s.dialog.awaited → u.dialog.place ≡ s.dialog.place →
        ((w : HostByte) → u.dialog.input ≡ Some w → Wrote w (written x (last_write h))) → (mode_of s ≡ Multiplexed → (p : Port) → Moves p h x u) → Inv v (h ▹ x) u
    quiet x u n m a q w mv = record {
      wrote = w;
      expects = ap role_of a ∙ inv.expects ∙ ap role (sym (ap (λ k. cond (carries_out k) (last_write h) (last_carried h)) n));
      fits = λ e. ap is_aux_send a ∙ inv.fits (sym m ∙ e);
      placed = λ e. q ∙ inv.placed (sym m ∙ e) ∙ ap place_of (sym (ap (λ k. cond (carries_out k) (argued (role (last_carried h)) (last_write h) (arguments h)) (arguments h)) n));
      spans = λ e. spans_next h x (ap entering n) (ap leaving n) (inv.spans (sym m ∙ e));
      follows = λ e p. follow p h x u (ap entering n) (ap leaving n) (mv (sym m ∙ e) p) (inv.follows (sym m ∙ e) p);
    }

    -- nothing happens at the port
    idle_moves : (p : Port) (x : Call) (u : State K) → steps_at p h x ≡ [] → read_at p (status s) x ≡ [] → u.devices ≡ s.devices → u.held ≡ s.held → u.output ≡ s.output → Moves p h x u
    idle_moves p x u st r d k o = record {
      out = [];
      cable = λ hs. ap (play_all (cable_of p s hs)) st ∙ cable_parts hs (ap (λ d. port_value d p) (sym d)) (ap (λ k. held_at k (Aux p)) (sym k)) ∙ ap (cable_of p u) (sym (append-nil hs));
      came = λ e a. absurd a;
      bytes = append-nil (map seen (output_of p s.output)) ∙ ap (λ y. map seen (output_of p y)) (sym o) ∙ ap (λ y. y ++ map seen (output_of p u.output)) (sym r);
    }

    -- a call that changes nothing and is no step
    still : (x : Call) → carried_at x ≡ NoByte → ((p : Port) → steps_at p h x ≡ []) → ((p : Port) → read_at p (status s) x ≡ []) → ((o : _) → written x o ≡ o) → Inv v (h ▹ x) s
    still x n st r w = quiet x s n refl refl refl (λ b e. subst (Wrote b) (sym (w (last_write h))) (inv.wrote b e)) (λ m p. idle_moves p x s (st p) (r p) refl refl refl)

    -- a data read
    read_next : (o : Option Shown) → s.output ≡ o → Inv v (h ▹ data_read (read_of o)) (became (read_of o) (with_output None s) s)
    read_next None e = still (data_read (read_of None)) refl (λ p. refl) (λ p. refl) (λ o. refl)
    read_next (Some o) e =
        quiet (data_read (read_of (Some o))) (with_output None s) refl refl refl refl inv.wrote
        (λ m p. record {
          out = [];
          cable = λ hs. ap (cable_of p s) (sym (append-nil hs));
          came = λ e a. absurd a;
          bytes = ap (λ y. y ++ []) (sym (waiting_is s m p)) ∙ ap (λ y. read_ok p (status s) (read_of y) ++ []) e;
        })

    -- writes
    put_next : (x : Call) (w : HostByte) → carried_at x ≡ NoByte → ((p : Port) → steps_at p h x ≡ []) → ((p : Port) → read_at p (status s) x ≡ []) → Wrote w (written x (last_write h)) → Inv v (h ▹ x) (with_input (Some w) s)
    put_next x w n st r e =
        quiet x (with_input (Some w) s) n refl refl refl (λ u i. let same : w ≡ u = cc in subst (λ u. Wrote u (written x (last_write h))) same e)
        (λ m p. idle_moves p x (with_input (Some w) s) (st p) (r p) refl refl refl)

    command_put : (b : ℕ) (c : Option Command) → decoded s.dialog.awaited b ≡ c → (r : Result (Unit {0}) Refusal) → Ok tt ≡ refusing (not (present c)) UnknownCommand r →
        Inv v (h ▹ command_write b (Ok tt)) (with_input (input_of c) s)
    command_put b None e r ok = cc
    command_put b (Some c) e r ok =
        put_next (command_write b (Ok tt)) (host.Command c) refl (λ p. refl) (λ p. refl) (record { byte = b; is = refl; tells = decoded_role s.dialog.awaited b c e })

    command_next : (b : ℕ) (r : Result (Unit {0}) Refusal) → r ≡ command_answer b s → Inv v (h ▹ command_write b r) (became r (with_input (input_of (decoded s.dialog.awaited b)) s) s)
    command_next b (Ok tt) e = command_put b (decoded s.dialog.awaited b) refl _ e
    command_next b (Err x) e = still (command_write b (Err x)) refl (λ p. refl) (λ p. refl) (λ o. refl)

    data_next : (b : ℕ) (r : Result (Unit {0}) Refusal) → Inv v (h ▹ data_write b r) (became r (with_input (Some (host.Data b)) s) s)
    data_next b (Ok tt) = put_next (data_write b (Ok tt)) (host.Data b) refl (λ p. refl) (λ p. refl) refl
    data_next b (Err x) = still (data_write b (Err x)) refl (λ p. refl) (λ p. refl) (λ o. refl)

    -- an event that is accepted has room
    event_room : (l : Line) (e : Happening) → Ok tt ≡ event_at (Some l) s.devices e → room_at s.devices l e ≡ true
    event_room l e ok = go (in_range e) (room_at s.devices l e) ok
      where
        go : (x y : Bool) → Ok tt ≡ refusing (not x) FieldOutOfRange (room_answer y) → y ≡ true
        go x true z = refl
        go true false z = cc
        go false false z = cc

    -- it reaches the device of its line
    event_leads : (l : Line) (e : Happening) (p : Port) (x : Bool) (hs : List Entry) → is_port p (line_number l) ≡ x → room_at s.devices l e ≡ true →
        play_all (cable_of p s hs) (cond x (occur e ∷ []) []) ≡ cable_of p (with_devices (happened_at s.devices l e) s) hs
    event_leads l e p true hs t room =
        subst (λ l. room_at s.devices l e ≡ true → play_all (cable_of p s hs) (occur e ∷ []) ≡ cable_of p (with_devices (happened_at s.devices l e) s) hs) (sym (port_line p l t))
        (λ r. ap (λ b. occurs_if b e (cable_of p s hs)) (sym (ask_at p s.devices (λ k y. k.room y e) true) ∙ r) ∙ cable_parts hs (sym (value_same p (λ k y. k.happened y e) s)) refl)
        room
    event_leads l e p false hs t room = cable_parts hs (sym (value_other p (line_number l) (λ k y. k.happened y e) s t)) refl

    event_moves : (n : ℕ) (e : Happening) (o : Option Line) → device_line n ≡ o → Ok tt ≡ event_at o s.devices e → (p : Port) →
        Moves p h (happens n e (Ok tt)) (with_devices (event_to o s.devices e) s)
    event_moves n e None is ok p = cc
    event_moves n e (Some l) is ok p =
        let u = with_devices (happened_at s.devices l e) s in
        let here : is_port p (line_number l) ≡ is_port p n = ap (is_port p) (event_line n l is) in
        record {
          out = [];
          cable = λ hs. event_leads l e p (is_port p n) hs here (event_room l e ok) ∙ ap (cable_of p u) (sym (append-nil hs));
          came = λ x a. absurd a;
          bytes = append-nil (map seen (output_of p s.output));
        }

    event_next : (n : ℕ) (e : Happening) (r : Result (Unit {0}) Refusal) → r ≡ event_answer n e s →
        Inv v (h ▹ happens n e r) (became r (with_devices (event_to (device_line n) s.devices e) s) s)
    event_next n e (Ok tt) ok = quiet (happens n e (Ok tt)) _ refl refl refl refl inv.wrote (λ m p. event_moves n e (device_line n) refl ok p)
    event_next n e (Err x) ok = still (happens n e (Err x)) refl (λ p. refl) (λ p. refl) (λ o. refl)

    -- A turn whose host byte changed no mode: t is the state after the host byte.
    record Hosts (c : Carried) (t : State K) : Type 0 where
      opens_not : entering c ≡ false
      closes_not : leaving c ≡ false
      wrote : (w : HostByte) → t.dialog.input ≡ Some w → Wrote w (last_write h)
      expects : role_of t.dialog.awaited ≡ role (cond (carries_out c) (last_write h) (last_carried h))
      fits : mode_of t ≡ Multiplexed → is_aux_send t.dialog.awaited ≡ false
      placed : mode_of t ≡ Multiplexed → t.dialog.place ≡ place_of (cond (carries_out c) (argued (role (last_carried h)) (last_write h) (arguments h)) (arguments h))
      before : mode_of t ≡ Multiplexed → mode_of s ≡ Multiplexed
      cable : mode_of t ≡ Multiplexed → (p : Port) (hs : List Entry) → play_all (cable_of p s hs) (host_steps p c h) ≡ cable_of p t hs
      is : hosted s ≡ t
      output : mode_of t ≡ Multiplexed → t.output ≡ s.output

    turn_moves : (c : Carried) (t : State K) → Hosts c t → mode_of t ≡ Multiplexed → (p : Port) → Moves p h (turn c (fill_line t)) (filled t)
    turn_moves c t k m p =
        let f = fills p t in
        let xs = host_steps p c h in
        let ys = take_steps p (fill_line t) in
        record {
          out = f.out;
          cable = λ hs. play_append (cable_of p s hs) xs ys ∙ ap (λ y. play_all y ys) (k.cable m p hs) ∙ f.cable hs;
          came = λ e a. let r = f.came e a in record {
            early = h;
            late = new;
            became = c;
            whole = ap (λ l. h ▹ turn c l) r.0;
            inside = inv.spans (k.before m);
            steady = tt;
            taken = subst (λ u. TakenAt (standing p u) e) (sym k.is) r.1;
          };
          bytes = sym (map-append seen (output_of p s.output) f.out) ∙ ap (λ y. map seen (output_of p y ++ f.out)) (sym (k.output m)) ∙ ap (map seen) f.shows;
        }

    filled_next : (c : Carried) (t : State K) → Hosts c t → Inv v (h ▹ turn c (fill_line t)) (filled t)
    filled_next c t k =
        let f = keeps t in
        let mode : mode_of (filled t) ≡ Multiplexed → mode_of t ≡ Multiplexed = λ e. sym (ap (λ g. g.mode) f.settings) ∙ e in
        record {
          wrote = λ w e. k.wrote w (sym (ap (λ d. d.input) f.dialog) ∙ e);
          expects = ap (λ d. role_of d.awaited) f.dialog ∙ k.expects;
          fits = λ e. ap (λ d. is_aux_send d.awaited) f.dialog ∙ k.fits (mode e);
          placed = λ e. ap (λ d. d.place) f.dialog ∙ k.placed (mode e);
          spans = λ e. spans_next h (turn c (fill_line t)) k.opens_not k.closes_not (inv.spans (k.before (mode e)));
          follows = λ e p. follow p h (turn c (fill_line t)) (filled t) k.opens_not k.closes_not (turn_moves c t k (mode e) p) (inv.follows (k.before (mode e)) p);
        }

    -- no host byte, or it stays
    idle : (c : Carried) → entering c ≡ false → leaving c ≡ false → carries_out c ≡ false → ((p : Port) → host_steps p c h ≡ []) → hosted s ≡ s → Hosts c s
    idle c o k w n is = record {
      opens_not = o;
      closes_not = k;
      wrote = inv.wrote;
      expects = inv.expects ∙ ap (λ y. role (cond y (last_write h) (last_carried h))) (sym w);
      fits = inv.fits;
      placed = λ e. inv.placed e ∙ ap (λ y. place_of (cond y (argued (role (last_carried h)) (last_write h) (arguments h)) (arguments h))) (sym w);
      before = λ e. e;
      cable = λ e p hs. ap (play_all (cable_of p s hs)) (n p);
      is = is;
      output = λ e. refl;
    }

    module _ (w : HostByte) (wrote : Wrote w (last_write h)) where
      abbrev u : State K
      u = carry_out w s

      -- the host byte was carried out, and both before and after it the controller multiplexes
      carried_both : hosted s ≡ u → mode_of s ≡ Multiplexed → mode_of u ≡ Multiplexed → Hosts CarriedOut u
      carried_both is m n =
          let k = works w (last_write h) (arguments h) s wrote (inv.fits m) (inv.placed m) n in
          record {
            opens_not = refl;
            closes_not = refl;
            wrote = λ b e. absurd (none-some b e);
            expects = wrote_role w (last_write h) wrote;
            fits = λ e. fits w s e;
            placed = λ e. k.place ∙ ap (λ a. place_of (argued a (last_write h) (arguments h))) inv.expects;
            before = λ e. m;
            cable = λ e p hs. ap (λ a. play_all (cable_of p s hs) (byte_steps p a (arguments h) (last_write h))) (sym inv.expects) ∙ k.cable p hs;
            is = is;
            output = λ e. k.output;
          }

      carried_legacy : hosted s ≡ u → mode_of u ≡ Legacy → Hosts CarriedOut u
      carried_legacy is l =
          record {
            opens_not = refl;
            closes_not = refl;
            wrote = λ b e. absurd (none-some b e);
            expects = wrote_role w (last_write h) wrote;
            fits = λ e. legacy_not u l e;
            placed = λ e. legacy_not u l e;
            before = λ e. legacy_not u l e;
            cable = λ e. legacy_not u l e;
            is = is;
            output = λ e. legacy_not u l e;
          }

      -- the mode became Multiplexed: a span opens here
      opened_next : mode_of s ≡ Legacy → mode_of u ≡ Multiplexed → turn_after s ≡ u → Inv v (h ▹ turn NowMultiplexed None) u
      opened_next l m e = record {
        wrote = λ b q. absurd (none-some b q);
        expects = wrote_role w (last_write h) wrote;
        fits = λ q. fits w s q;
        placed = λ q. entered w (last_write h) (arguments h) s wrote l m ∙ ap (λ a. place_of (argued a (last_write h) (arguments h))) inv.expects;
        spans = λ q. record { whole = refl; began = refl; steady = tt };
        follows = λ q p. record { heard = output_of p u.output; cable = ap (standing p) e; bytes = refl; sources = λ x a. inl (subst (λ t. Among x (output_of p t.output)) (sym e) a) };
      }

      -- the mode became Legacy: the span closes
      closed_next : mode_of u ≡ Legacy → Inv v (h ▹ turn NowLegacy None) u
      closed_next l =
          record {
            wrote = λ b e. absurd (none-some b e);
            expects = wrote_role w (last_write h) wrote;
            fits = λ e. legacy_not u l e;
            placed = λ e. legacy_not u l e;
            spans = λ e. legacy_not u l e;
            follows = λ e. legacy_not u l e;
          }

      changed_next : hosted s ≡ u → (m n : Mode) → mode_of s ≡ m → mode_of u ≡ n → turn_after s ≡ filled_if (changed m n) u → Inv v (h ▹ turn (changed m n) (line_if (changed m n) u)) (filled_if (changed m n) u)
      changed_next z Legacy Legacy e f k = filled_next CarriedOut u (carried_legacy z f)
      changed_next z Legacy Multiplexed e f k = opened_next e f k
      changed_next z Multiplexed Legacy e f k = closed_next f
      changed_next z Multiplexed Multiplexed e f k = filled_next CarriedOut u (carried_both z e f)

    blocked_next : (w : HostByte) → s.dialog.input ≡ Some w → (x : Bool) → hosted s ≡ carried_to x w s → turn_after s ≡ filled_if (carried_by x w s) (carried_to x w s) →
        Inv v (h ▹ turn (carried_by x w s) (line_if (carried_by x w s) (carried_to x w s))) (filled_if (carried_by x w s) (carried_to x w s))
    blocked_next w i true z k = filled_next Stays s (idle Stays refl refl refl (λ p. refl) z)
    blocked_next w i false z k = changed_next w (inv.wrote w i) z (mode_of s) (mode_of (carry_out w s)) refl refl k

    hosted_next : (i : Option HostByte) → s.dialog.input ≡ i → turn_after s ≡ filled_if (carried_for i s) (hosted_for i s) →
        Inv v (h ▹ turn (carried_for i s) (line_if (carried_for i s) (hosted_for i s))) (filled_if (carried_for i s) (hosted_for i s))
    hosted_next None e k = filled_next NoByte s (idle NoByte refl refl refl (λ p. refl) (ap (λ i. hosted_for i s) e))
    hosted_next (Some w) e k = blocked_next w e (blocked w s) (ap (λ i. hosted_for i s) e) k

    turn_next : Inv v (h ▹ turn (carried s) (line_if (carried s) (hosted s))) (turn_after s)
    turn_next = hosted_next s.dialog.input refl refl

    -- a turn's send or force finds the port's held place empty
    abbrev Empty : Port → Carried → Type 0
    Empty p c = (host_steps p c h ≡ []) ⊎ (held_at s.held (Aux p) ≡ None)

    module _ (p : Port) where
      empty_out : (w : HostByte) → s.dialog.input ≡ Some w → blocked w s ≡ false → Empty p CarriedOut
      empty_out w i z = subst (λ a. (byte_steps p a (arguments h) (last_write h) ≡ []) ⊎ (held_at s.held (Aux p) ≡ None)) inv.expects (free w (last_write h) (arguments h) s (inv.wrote w i) z p)

      empty_changed : (w : HostByte) → s.dialog.input ≡ Some w → blocked w s ≡ false → (m n : Mode) → Empty p (changed m n)
      empty_changed w i z Legacy Multiplexed = inl refl
      empty_changed w i z Multiplexed Legacy = inl refl
      empty_changed w i z Legacy Legacy = empty_out w i z
      empty_changed w i z Multiplexed Multiplexed = empty_out w i z

      empty_blocked : (w : HostByte) → s.dialog.input ≡ Some w → (x : Bool) → blocked w s ≡ x → Empty p (carried_by x w s)
      empty_blocked w i true z = inl refl
      empty_blocked w i false z = empty_changed w i z (mode_of s) (mode_of (carry_out w s))

      empty_for : (i : Option HostByte) → s.dialog.input ≡ i → Empty p (carried_for i s)
      empty_for None e = inl refl
      empty_for (Some w) e = empty_blocked w e (blocked w s) refl

    pub empty_at : (p : Port) (x : Call) → Answers s x → Empty p (carried_at x)
    empty_at p (status_read n) e = inl refl
    empty_at p (data_read r) e = inl refl
    empty_at p (command_write b r) e = inl refl
    empty_at p (data_write b r) e = inl refl
    empty_at p (happens n x r) e = inl refl
    empty_at p (turn c m) e = subst (λ q. Empty p q.0) (sym e) (empty_for p s.dialog.input refl)

    -- every call keeps the invariant
    keeps_inv : (x : Call) → Answers s x → Inv v (h ▹ x) (next s x)
    keeps_inv (status_read n) e = still (status_read n) refl (λ p. refl) (λ p. refl) (λ o. refl)
    keeps_inv (data_read r) e = subst (λ r. Inv v (h ▹ data_read r) (next s (data_read r))) (sym e) (read_next s.output refl)
    keeps_inv (command_write b r) e = subst (λ r. Inv v (h ▹ command_write b r) (next s (command_write b r))) (sym e) (command_next b (command_answer b s) refl)
    keeps_inv (data_write b r) e = subst (λ r. Inv v (h ▹ data_write b r) (next s (data_write b r))) (sym e) (data_next b (data_answer s))
    keeps_inv (happens n x r) e = subst (λ r. Inv v (h ▹ happens n x r) (next s (happens n x r))) (sym e) (event_next n x (event_answer n x s) refl)
    keeps_inv (turn c m) e = subst (λ q. Inv v (h ▹ turn q.0 q.1) (turn_after s)) (sym e) turn_next

  -- and a new controller has it
  pub holds : (h : History) → Truthful v h → Inv v h (after v h)
  holds new t = record {
    wrote = λ w e. absurd (none-some w e);
    expects = refl;
    fits = λ e. absurd (modes_apart e);
    placed = λ e. absurd (modes_apart e);
    spans = λ e. absurd (modes_apart e);
    follows = λ e. absurd (modes_apart e);
  }
  holds (h ▹ x) t = keeps_inv h (holds h t.0) x t.1
