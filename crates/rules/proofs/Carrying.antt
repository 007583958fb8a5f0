-- What carrying out a host byte does to a port.
use Rattle.std.proofs.Common.{◌≡◌, ℕ, ◌-◌, ◌≤◌, Bool, true, false, cond, eqb, ◌⊎◌, List, [], ◌∷◌, Some, None, Option, sym, refl, ap, ◌∙◌, subst, inl, inr, arith}
use Rattle.std.proofs.lemmas.Bool.{true≢false, eqb-true}
use Rattle.ps2.specs.declared.entry.Entry.{Entry}
use Rattle.ps2.specs.declared.entry.Entry.TheVariants.{Byte, Timeout}
use Rattle.ps2.specs.Kinds.{Kind}
use Rattle.parts.specs.declared.lines.Line.{Line}
use Rattle.parts.specs.declared.lines.Line.TheVariants.{Aux, Keyboard, Controller}
use Rattle.parts.specs.declared.lines.Port.{Port}
use Rattle.parts.specs.declared.lines.Port.TheVariants.{P0, P1, P2, P3}
use Rattle.parts.specs.declared.settings.Mode.{Mode}
use Rattle.parts.specs.declared.settings.Mode.TheVariants.{Legacy, Multiplexed}
use Rattle.parts.specs.declared.dialog.Awaited.{Awaited}
use Rattle.parts.specs.declared.dialog.Awaited.TheVariants.{CommandByte, KeyboardLoopback, AuxLoopback, AuxSend, Route}
use Rattle.parts.specs.declared.dialog.Command.{Command}
use Rattle.parts.specs.declared.dialog.Command.TheVariants.{ReadCommandByte, Await, Disable, Enable, AuxTest, SelfTest, KeyboardTest}
use Rattle.parts.specs.declared.settings.Gate.TheVariants as gate
use Rattle.parts.specs.declared.dialog.HostByte.{HostByte}
use Rattle.parts.specs.declared.dialog.HostByte.TheVariants as host
use Rattle.parts.specs.declared.dialog.Place.{Place}
use Rattle.parts.specs.Lines.{port_number, port_at, line_number, is_port}
use Rattle.rules.specs.Banks.{Kinds, change, port_kind, port_value}
use Rattle.rules.specs.States.{State, mode_of, with_dialog}
use Rattle.parts.specs.Held.{held_at, put_held}
use Rattle.rules.specs.Status.{present}
use Rattle.parts.specs.Sequence.{leads, outcome}
use Rattle.parts.specs.Commands.{with_place, is_prefix, decoded, command_awaits, awaits, data_needs}
use Rattle.rules.specs.Sending.{takes_at, hold, send_if, send}
use Rattle.rules.specs.Hosting.{obey, switch, deliver, worked, full_at, blocked}
use Rattle.rules.specs.LoneCable.{Cable, Step, force, play_all, sent_if}
use Rattle.rules.specs.LoneCable
use Rattle.rules.specs.Histories.{Written, command, datum, Role, sent, argument, elsewhere, command_role, role, argued, forced, data_steps, byte_steps}
use Rattle.rules.proofs.Basics.{modes_apart, not_present, by_test, same_port, other_port, port_line, port_number_at, held_at_put, value_at, ask_at, cable_of}
use Rattle.rules.proofs.Sequences.{place_of, is_enter, enters_is, entered_place}

-- What is awaited, from the byte carried out just before
-- ------------------------------------------------------

abbrev pub role_of : Option Awaited → Role
role_of None = elsewhere
role_of (Some CommandByte) = elsewhere
role_of (Some KeyboardLoopback) = elsewhere
role_of (Some AuxLoopback) = argument
role_of (Some AuxSend) = elsewhere
role_of (Some (Route p)) = sent (port_number p)

abbrev pub is_aux_send : Option Awaited → Bool
is_aux_send None = false
is_aux_send (Some CommandByte) = false
is_aux_send (Some KeyboardLoopback) = false
is_aux_send (Some AuxLoopback) = false
is_aux_send (Some AuxSend) = true
is_aux_send (Some (Route p)) = false

-- at k, and at every other number
at_number : (P : ℕ → Type 0) (k b : ℕ) → P k → (eqb b k ≡ false → P b) → P b
at_number P k b at-k not-k = by_test (eqb b k) (λ e. subst P (sym (eqb-true b k e)) at-k) not-k

abbrev role_by : Option Command → Role → Role
role_by None r = r
role_by (Some c) r = role_of (command_awaits c)

prefix_role : (b : ℕ) → is_prefix b ≡ true → sent (port_number (port_at (b - 0x90))) ≡ sent (b - 0x90)
prefix_role b e = let few : b - 0x90 ≤ 3 = grind arith in ap sent (port_number_at (b - 0x90) few)

table_role : (a : Option Awaited) (b : ℕ) → role_by (decoded a b) (command_role b) ≡ command_role b
unfolding command_role
table_role a b =
    let P : ℕ → Type 0 = λ n. role_by (decoded a n) (command_role n) ≡ command_role n in
    by_test (is_prefix b) (λ e. rw e (prefix_role b e)) λ e90.
    at_number P 0x20 b refl λ e20.
    at_number P 0x60 b refl λ e60.
    at_number P 0xa7 b refl λ ea7.
    at_number P 0xa8 b refl λ ea8.
    at_number P 0xa9 b refl λ ea9.
    at_number P 0xaa b refl λ eaa.
    at_number P 0xab b refl λ eab.
    at_number P 0xad b refl λ ead.
    at_number P 0xae b refl λ eae.
    at_number P 0xd2 b refl λ ed2.
    at_number P 0xd3 b refl λ ed3.
    at_number P 0xd4 b refl λ ed4.
    rw (e90, e20, e60, ea7, ea8, ea9, eaa, eab, ead, eae, ed2, ed3, ed4)

-- a command of the table makes of a data byte what its byte tells a reader
pub decoded_role : (a : Option Awaited) (b : ℕ) (c : Command) → decoded a b ≡ Some c → command_role b ≡ role_of (command_awaits c)
decoded_role a b c e = sym (table_role a b) ∙ ap (λ o. role_by o (command_role b)) e

-- What a byte does at the ports
-- -----------------------------

abbrev none : Port → List Step
none p = []

-- a cable by its parts
pub cable_parts : {k : Kind} {x y : k.Value} {d e : Option Entry} (hs : List Entry) → x ≡ y → d ≡ e →
    ◌≡◌ {A = Cable k} (record { value = x; held = d; heard = hs }) (record { value = y; held = e; heard = hs })
cable_parts hs v h = λ i. record { value = v i; held = h i; heard = hs }

-- a step that needs a held place finds it empty
free_if : (x : Bool) (y : Step) (o : Option Entry) → (x ≡ true → present o ≡ false) → (cond x (y ∷ []) [] ≡ []) ⊎ (o ≡ None)
free_if true y o f = inr (not_present o (f refl))
free_if false y o f = inl refl

-- the write o put the command c into the input buffer
pub record Commanded (c : Command) (o : Option Written) : Type 0 where
  pub byte : ℕ
  pub is : o ≡ Some (command byte)
  pub tells : command_role byte ≡ role_of (command_awaits c)

-- the write o put w there
abbrev pub Wrote : HostByte → Option Written → Type 0
Wrote (host.Command c) o = Commanded c o
Wrote (host.Data b) o = o ≡ Some (datum b)

pub wrote_role : (w : HostByte) (o : Option Written) → Wrote w o → role_of (awaits w) ≡ role o
wrote_role (host.Command c) o e = sym e.tells ∙ ap role (sym e.is)
wrote_role (host.Data b) o e = ap role (sym e)

module _ {K : Kinds} where
  -- a put or a change at a line that is not the port's
  pub held_other : (p : Port) (n : ℕ) (e : Option Entry) (t : State K) → is_port p n ≡ false → held_at (put_held t.held n e) (Aux p) ≡ held_at t.held (Aux p)
  held_other p n e t o = held_at_put p t.held n e ∙ ap (λ x. cond x e (held_at t.held (Aux p))) o

  pub held_same : (p : Port) (e : Option Entry) (t : State K) → held_at (put_held t.held (port_number p) e) (Aux p) ≡ e
  held_same p e t = held_at_put p t.held (port_number p) e ∙ ap (λ x. cond x e (held_at t.held (Aux p))) (same_port p)

  pub value_other : (p : Port) (n : ℕ) (f : (k : Kind) → k.Value → k.Value) (t : State K) → is_port p n ≡ false → port_value (change t.devices n f) p ≡ port_value t.devices p
  value_other p n f t o = value_at p t.devices n f ∙ ap (λ x. cond x (f (port_kind K p) (port_value t.devices p)) (port_value t.devices p)) o

  pub value_same : (p : Port) (f : (k : Kind) → k.Value → k.Value) (t : State K) → port_value (change t.devices (port_number p) f) p ≡ f (port_kind K p) (port_value t.devices p)
  value_same p f t = value_at p t.devices (port_number p) f ∙ ap (λ x. cond x (f (port_kind K p) (port_value t.devices p)) (port_value t.devices p)) (same_port p)

  hold_other : (p : Port) (l : Line) (e : Entry) (t : State K) (hs : List Entry) → is_port p (line_number l) ≡ false → cable_of p t hs ≡ cable_of p (hold l e t) hs
  hold_other p l e t hs o = cable_parts hs refl (sym (held_other p (line_number l) (Some e) t o))

  send_other : (p : Port) (x : Bool) (l : Line) (b : ℕ) (t : State K) (hs : List Entry) → is_port p (line_number l) ≡ false → cable_of p t hs ≡ cable_of p (send_if x l b t) hs
  send_other p true l b t hs o = cable_parts hs (sym (value_other p (line_number l) (λ k x. k.received x b) t o)) refl
  send_other p false l b t hs o = hold_other p l Timeout t hs o

  send_same : (p : Port) (x : Bool) (b : ℕ) (t : State K) (hs : List Entry) → sent_if x b (cable_of p t hs) ≡ cable_of p (send_if x (Aux p) b t) hs
  send_same p true b t hs = cable_parts hs (sym (value_same p (λ k x. k.received x b) t)) refl
  send_same p false b t hs = cable_parts hs refl (sym (held_same p (Some Timeout) t))

  -- a send to a line, seen at a port
  send_at : (p : Port) (l : Line) (b : ℕ) (t : State K) (hs : List Entry) (x : Bool) → is_port p (line_number l) ≡ x →
      play_all (cable_of p t hs) (cond x (LoneCable.send b ∷ []) []) ≡ cable_of p (send l b t) hs
  send_at p l b t hs true e =
      subst (λ l. play_all (cable_of p t hs) (LoneCable.send b ∷ []) ≡ cable_of p (send l b t) hs) (sym (port_line p l e))
      (ap (λ x. sent_if x b (cable_of p t hs)) (sym (ask_at p t.devices (λ k x. k.takes x b) false)) ∙ send_same p (takes_at t.devices (Aux p) b) b t hs)
  send_at p l b t hs false e = send_other p (takes_at t.devices l b) l b t hs e

  -- a force at port 0, seen at a port
  force_at : (p : Port) (f b : ℕ) (t : State K) (hs : List Entry) → f ≡ b → play_all (cable_of p t hs) (cond (is_port p 0) (force f ∷ []) []) ≡ cable_of p (hold (Aux P0) (Byte b) t) hs
  force_at P0 f b t hs e = λ i. record { value = t.devices.port0; held = Some (Byte (e i)); heard = hs }
  force_at P1 f b t hs e = refl
  force_at P2 f b t hs e = refl
  force_at P3 f b t hs e = refl

  -- what working on a byte does, while the controller multiplexes and goes on multiplexing
  pub record Works (steps : Port → List Step) (q : Place) (t u : State K) : Type 0 where
    pub cable : (p : Port) (hs : List Entry) → play_all (cable_of p t hs) (steps p) ≡ cable_of p u hs
    pub place : u.dialog.place ≡ q
    pub output : u.output ≡ t.output
    pub next : u.next ≡ t.next

  same : (t u : State K) → u.held ≡ t.held → u.devices ≡ t.devices → u.dialog.place ≡ t.dialog.place → u.output ≡ t.output → u.next ≡ t.next → Works none t.dialog.place t u
  same t u h v q o n = record {
    cable = λ p hs. cable_parts hs (ap (λ x. port_value x p) (sym v)) (ap (λ x. held_at x (Aux p)) (sym h));
    place = q;
    output = o;
    next = n;
  }

  answered : (b : ℕ) (t : State K) → Works none t.dialog.place t (hold Controller (Byte b) t)
  answered b t = record { cable = λ p hs. hold_other p Controller (Byte b) t hs (other_port p 5 (omega arith)); place = refl; output = refl; next = refl }

  obeys : (c : Command) (t : State K) → mode_of (obey c t) ≡ Multiplexed → Works none t.dialog.place t (obey c t)
  obeys ReadCommandByte t m = answered t.settings.command t
  obeys (Await None) t m = same t t refl refl refl refl refl
  obeys (Await (Some CommandByte)) t m = same t t refl refl refl refl refl
  obeys (Await (Some KeyboardLoopback)) t m = same t t refl refl refl refl refl
  obeys (Await (Some AuxLoopback)) t m = same t t refl refl refl refl refl
  obeys (Await (Some AuxSend)) t m = absurd (modes_apart m)
  obeys (Await (Some (Route p))) t m = same t t refl refl refl refl refl
  obeys (Disable gate.Keyboard) t m = same t _ refl refl refl refl refl
  obeys (Disable gate.Aux) t m = same t _ refl refl refl refl refl
  obeys (Disable (gate.OnePort p)) t m = same t _ refl refl refl refl refl
  obeys (Enable gate.Keyboard) t m = same t _ refl refl refl refl refl
  obeys (Enable gate.Aux) t m = same t _ refl refl refl refl refl
  obeys (Enable (gate.OnePort p)) t m = same t _ refl refl refl refl refl
  obeys AuxTest t m = absurd (modes_apart m)
  obeys SelfTest t m = absurd (modes_apart m)
  obeys KeyboardTest t m = answered 0 t

  -- an argument of the sequence is a force at port 0
  switches : (o : Option Mode) (f b : ℕ) (t : State K) → f ≡ cond (is_enter o) 0x11 b → mode_of (switch o b t) ≡ Multiplexed →
      Works (λ p. cond (is_port p 0) (force f ∷ []) []) t.dialog.place t (switch o b t)
  switches None f b t e m = record { cable = λ p hs. force_at p f b t hs e; place = refl; output = refl; next = refl }
  switches (Some Multiplexed) f b t e m = record { cable = λ p hs. force_at p f 0x11 t hs e; place = refl; output = refl; next = refl }
  switches (Some Legacy) f b t e m = absurd (modes_apart m)

  sends : (l : Line) (x : Bool) (b : ℕ) (t : State K) (steps : Port → List Step) →
      ((p : Port) (hs : List Entry) → play_all (cable_of p t hs) (steps p) ≡ cable_of p (send_if x l b t) hs) → Works steps t.dialog.place t (send_if x l b t)
  sends l true b t steps cable = record { cable = cable; place = refl; output = refl; next = refl }
  sends l false b t steps cable = record { cable = cable; place = refl; output = refl; next = refl }

  placed : {steps : Port → List Step} {q r : Place} {t u : State K} → q ≡ r → Works steps q t u → Works steps r t u
  placed e w = record { cable = w.cable; place = w.place ∙ e; output = w.output; next = w.next }

  delivers : (a : Option Awaited) (args : List ℕ) (b : ℕ) (t : State K) → is_aux_send a ≡ false → t.dialog.place ≡ place_of args → mode_of (deliver a b t) ≡ Multiplexed →
      Works (λ p. data_steps p (role_of a) args b) (place_of (argued (role_of a) (Some (datum b)) args)) t (deliver a b t)
  delivers None args b t n e m = placed e (sends Keyboard (takes_at t.devices Keyboard b) b t none (λ p hs. send_other p _ Keyboard b t hs (other_port p 4 (omega arith))))
  delivers (Some CommandByte) args b t n e m = placed e (same t _ refl refl refl refl refl)
  delivers (Some KeyboardLoopback) args b t n e m = placed e (record { cable = λ p hs. hold_other p Keyboard (Byte b) t hs (other_port p 4 (omega arith)); place = refl; output = refl; next = refl })
  delivers (Some AuxLoopback) args b t n e m =
      let q = t.dialog.place in
      let f : forced args b ≡ cond (is_enter (outcome q b)) 0x11 b = ap (λ x. cond x 0x11 b) (sym (enters_is args b) ∙ ap (λ q. is_enter (outcome q b)) (sym e)) in
      let w = switches (outcome q b) (forced args b) b (with_dialog (with_place (leads q b) t.dialog) t) f m in
      record { cable = w.cable; place = w.place ∙ ap (λ q. leads q b) e; output = w.output; next = w.next }
  delivers (Some AuxSend) args b t n e m = absurd (true≢false n)
  delivers (Some (Route r)) args b t n e m = placed e (sends (Aux r) (takes_at t.devices (Aux r) b) b t (λ p. cond (is_port p (port_number r)) (LoneCable.send b ∷ []) []) (λ p hs. send_at p (Aux r) b t hs (is_port p (port_number r)) refl))

  -- Working on a host byte.
  pub works : (w : HostByte) (o : Option Written) (args : List ℕ) (s : State K) → Wrote w o → is_aux_send s.dialog.awaited ≡ false → s.dialog.place ≡ place_of args →
      mode_of (worked w s) ≡ Multiplexed → Works (λ p. byte_steps p (role_of s.dialog.awaited) args o) (place_of (argued (role_of s.dialog.awaited) o args)) s (worked w s)
  works (host.Command c) o args s e n q m =
      subst (λ o. Works (λ p. byte_steps p (role_of s.dialog.awaited) args o) (place_of (argued (role_of s.dialog.awaited) o args)) s (obey c s)) (sym e.is)
      (placed q (obeys c s m))
  works (host.Data b) o args s e n q m =
      subst (λ o. Works (λ p. byte_steps p (role_of s.dialog.awaited) args o) (place_of (argued (role_of s.dialog.awaited) o args)) s (deliver s.dialog.awaited b s)) (sym e)
      (delivers s.dialog.awaited args b s n q m)

  -- while the controller multiplexes, nothing awaits a byte for port 0 alone
  obey_fits : (c : Command) (s : State K) → mode_of (obey c s) ≡ Multiplexed → is_aux_send (command_awaits c) ≡ false
  obey_fits ReadCommandByte s m = refl
  obey_fits (Await None) s m = refl
  obey_fits (Await (Some CommandByte)) s m = refl
  obey_fits (Await (Some KeyboardLoopback)) s m = refl
  obey_fits (Await (Some AuxLoopback)) s m = refl
  obey_fits (Await (Some AuxSend)) s m = absurd (modes_apart m)
  obey_fits (Await (Some (Route p))) s m = refl
  obey_fits (Disable g) s m = refl
  obey_fits (Enable g) s m = refl
  obey_fits AuxTest s m = refl
  obey_fits SelfTest s m = refl
  obey_fits KeyboardTest s m = refl

  pub fits : (w : HostByte) (s : State K) → mode_of (worked w s) ≡ Multiplexed → is_aux_send (awaits w) ≡ false
  fits (host.Command c) s m = obey_fits c s m
  fits (host.Data b) s m = refl

  -- A byte that is not blocked finds the held place of its port empty.
  free_data : (a : Option Awaited) (args : List ℕ) (b : ℕ) (s : State K) → full_at s.held (data_needs a) ≡ false → (p : Port) →
      (data_steps p (role_of a) args b ≡ []) ⊎ (held_at s.held (Aux p) ≡ None)
  free_data None args b s f p = inl refl
  free_data (Some CommandByte) args b s f p = inl refl
  free_data (Some KeyboardLoopback) args b s f p = inl refl
  free_data (Some AuxLoopback) args b s f p =
      free_if (is_port p 0) (force (forced args b)) (held_at s.held (Aux p)) (λ e. subst (λ l. present (held_at s.held l) ≡ false) (port_line p (Aux P0) e) f)
  free_data (Some AuxSend) args b s f p = inl refl
  free_data (Some (Route q)) args b s f p =
      free_if (is_port p (port_number q)) (LoneCable.send b) (held_at s.held (Aux p)) (λ e. subst (λ l. present (held_at s.held l) ≡ false) (port_line p (Aux q) e) f)

  pub free : (w : HostByte) (o : Option Written) (args : List ℕ) (s : State K) → Wrote w o → blocked w s ≡ false → (p : Port) →
      (byte_steps p (role_of s.dialog.awaited) args o ≡ []) ⊎ (held_at s.held (Aux p) ≡ None)
  free (host.Command c) o args s e f p = subst (λ o. (byte_steps p (role_of s.dialog.awaited) args o ≡ []) ⊎ (held_at s.held (Aux p) ≡ None)) (sym e.is) (inl refl)
  free (host.Data b) o args s e f p = subst (λ o. (byte_steps p (role_of s.dialog.awaited) args o ≡ []) ⊎ (held_at s.held (Aux p) ≡ None)) (sym e) (free_data s.dialog.awaited args b s f p)

  -- Entering Multiplexed mode
  -- -------------------------

  pub legacy_not : {A : Type 0} (s : State K) → mode_of s ≡ Legacy → mode_of s ≡ Multiplexed → A
  legacy_not s e m = absurd (modes_apart (sym e ∙ m))

  send_mode : (x : Bool) (l : Line) (b : ℕ) (s : State K) → mode_of (send_if x l b s) ≡ mode_of s
  send_mode true l b s = refl
  send_mode false l b s = refl

  obey_stays : (c : Command) (s : State K) → mode_of s ≡ Legacy → mode_of (obey c s) ≡ Legacy
  obey_stays ReadCommandByte s e = e
  obey_stays (Await None) s e = e
  obey_stays (Await (Some CommandByte)) s e = e
  obey_stays (Await (Some KeyboardLoopback)) s e = e
  obey_stays (Await (Some AuxLoopback)) s e = e
  obey_stays (Await (Some AuxSend)) s e = refl
  obey_stays (Await (Some (Route p))) s e = e
  obey_stays (Disable gate.Keyboard) s e = e
  obey_stays (Disable gate.Aux) s e = e
  obey_stays (Disable (gate.OnePort p)) s e = e
  obey_stays (Enable gate.Keyboard) s e = e
  obey_stays (Enable gate.Aux) s e = e
  obey_stays (Enable (gate.OnePort p)) s e = e
  obey_stays AuxTest s e = refl
  obey_stays SelfTest s e = refl
  obey_stays KeyboardTest s e = e

  switch_enters : (o : Option Mode) (b : ℕ) (s : State K) → mode_of s ≡ Legacy → mode_of (switch o b s) ≡ Multiplexed → o ≡ Some Multiplexed
  switch_enters None b s e m = legacy_not s e m
  switch_enters (Some Multiplexed) b s e m = refl
  switch_enters (Some Legacy) b s e m = absurd (modes_apart m)

  switch_place : (o : Option Mode) (b : ℕ) (s : State K) → (switch o b s).dialog.place ≡ s.dialog.place
  switch_place None b s = refl
  switch_place (Some Multiplexed) b s = refl
  switch_place (Some Legacy) b s = refl

  deliver_enters : (a : Option Awaited) (args : List ℕ) (b : ℕ) (s : State K) → mode_of s ≡ Legacy → mode_of (deliver a b s) ≡ Multiplexed →
      (deliver a b s).dialog.place ≡ place_of (argued (role_of a) (Some (datum b)) args)
  deliver_enters None args b s e m = legacy_not s e (sym (send_mode (takes_at s.devices Keyboard b) Keyboard b s) ∙ m)
  deliver_enters (Some CommandByte) args b s e m = legacy_not s e m
  deliver_enters (Some KeyboardLoopback) args b s e m = legacy_not s e m
  deliver_enters (Some AuxLoopback) args b s e m =
      let q = s.dialog.place in
      switch_place (outcome q b) b (with_dialog (with_place (leads q b) s.dialog) s) ∙ entered_place q (place_of args) b (switch_enters (outcome q b) b (with_dialog (with_place (leads q b) s.dialog) s) e m)
  deliver_enters (Some AuxSend) args b s e m = legacy_not s e (sym (send_mode (takes_at s.devices (Aux P0) b) (Aux P0) b s) ∙ m)
  deliver_enters (Some (Route q)) args b s e m = legacy_not s e (sym (send_mode (takes_at s.devices (Aux q) b) (Aux q) b s) ∙ m)

  -- the place is then the one that the arguments tell
  pub entered : (w : HostByte) (o : Option Written) (args : List ℕ) (s : State K) → Wrote w o → mode_of s ≡ Legacy → mode_of (worked w s) ≡ Multiplexed →
      (worked w s).dialog.place ≡ place_of (argued (role_of s.dialog.awaited) o args)
  entered (host.Command c) o args s e l m = legacy_not (obey c s) (obey_stays c s l) m
  entered (host.Data b) o args s e l m = deliver_enters s.dialog.awaited args b s l m ∙ ap (λ o. place_of (argued (role_of s.dialog.awaited) o args)) (sym e)
