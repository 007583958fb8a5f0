-- What filling the output buffer does to a port.
use Rattle.std.proofs.Common.{◌≡◌, Bool, true, false, cond, List, [], ◌∷◌, ◌++◌, Some, None, Option, sym, refl, ap, ◌∙◌, subst, inl, inr, append-nil}
use Rattle.ps2.specs.declared.entry.Entry.{Entry}
use Rattle.ps2.specs.Kinds.{first}
use Rattle.parts.specs.declared.lines.Line.{Line}
use Rattle.parts.specs.declared.lines.Line.TheVariants.{Aux}
use Rattle.parts.specs.declared.lines.Port.{Port}
use Rattle.parts.specs.declared.output.Shown.{Shown}
use Rattle.parts.specs.Lines.{line_number, is_port}
use Rattle.rules.specs.Banks.{Kinds}
use Rattle.rules.specs.States.{State}
use Rattle.parts.specs.Held.{held_at}
use Rattle.rules.specs.Arbiter.{first_of}
use Rattle.rules.specs.Turns.{gives, taken_from, taken_to, shown_as, moved, fill_line_by, fill_line, filled}
use Rattle.rules.specs.Law.{Among}
use Rattle.rules.specs.LoneCable.{TakenAt, take, listed, takes, play_all}
use Rattle.rules.specs.Histories.{take_steps, output_of}
use Rattle.rules.proofs.Basics.{listed_is, same_port, port_line, ask_at, cable_of}
use Rattle.rules.proofs.Carrying.{cable_parts, held_other, held_same, value_other, value_same}

module _ {K : Kinds} where
  -- the parts that filling leaves
  pub record Keeps (t u : State K) : Type 0 where
    pub settings : u.settings ≡ t.settings
    pub dialog : u.dialog ≡ t.dialog

  keeps_shown : (e : Option Entry) (l : Line) (t : State K) → Keeps t (shown_as e l t)
  keeps_shown None l t = record { settings = refl; dialog = refl }
  keeps_shown (Some e) l t = record { settings = refl; dialog = refl }

  keeps_taken : (h : Option Entry) (l : Line) (t : State K) → Keeps t (taken_to h t l)
  keeps_taken (Some e) l t = record { settings = refl; dialog = refl }
  keeps_taken None l t = record { settings = refl; dialog = refl }

  keeps_moved : (m : Option Line) (t : State K) → Keeps t (moved m t)
  keeps_moved None t = record { settings = refl; dialog = refl }
  keeps_moved (Some l) t =
      let h = held_at t.held l in
      let a = keeps_taken h l t in
      let b = keeps_shown (taken_from h t l) l (taken_to h t l) in
      record { settings = b.settings ∙ a.settings; dialog = b.dialog ∙ a.dialog }

  pub keeps : (t : State K) → Keeps t (filled t)
  keeps t = keeps_moved (fill_line t) t

  -- a take at the port, if the line moved is the port's
  pub record Fills (p : Port) (m : Option Line) (t u : State K) : Type 0 where
    pub out : List Entry
    pub cable : (hs : List Entry) → play_all (cable_of p t hs) (take_steps p m) ≡ cable_of p u (hs ++ out)
    pub shows : output_of p t.output ++ out ≡ output_of p u.output
    pub came : (e : Entry) → Among e out → (m ≡ Some (Aux p)) × TakenAt (cable_of p t []) e

  fills_none : (p : Port) (t : State K) → Fills p None t t
  fills_none p t = record { out = []; cable = λ hs. ap (cable_of p t) (sym (append-nil hs)); shows = append-nil (output_of p t.output); came = λ e a. absurd a }

  -- showing an entry changes no port
  shown_cable : (p : Port) (e : Option Entry) (l : Line) (t : State K) (hs : List Entry) → cable_of p (shown_as e l t) hs ≡ cable_of p t hs
  shown_cable p None l t hs = refl
  shown_cable p (Some e) l t hs = refl

  shown_output : (p : Port) (e : Option Entry) (l : Line) (t : State K) → t.output ≡ None → output_of p (shown_as e l t).output ≡ cond (is_port p (line_number l)) (listed e) []
  shown_output p None l t o = ap (output_of p) o ∙ empty (is_port p (line_number l))
    where
      empty : (x : Bool) → [] ≡ cond x (listed None) []
      empty true = refl
      empty false = refl
  shown_output p (Some e) l t o = refl

  -- taking from another line
  taken_other : (p : Port) (h : Option Entry) (l : Line) (t : State K) (hs : List Entry) → is_port p (line_number l) ≡ false → cable_of p (taken_to h t l) hs ≡ cable_of p t hs
  taken_other p (Some e) l t hs o = cable_parts hs refl (held_other p (line_number l) None t o)
  taken_other p None l t hs o = cable_parts hs (value_other p (line_number l) (λ k x. k.given x) t o) refl

  -- taking from the port's own
  taken_same : (p : Port) (h : Option Entry) (t : State K) (hs : List Entry) → held_at t.held (Aux p) ≡ h →
      takes h (cable_of p t hs) ≡ cable_of p (taken_to h t (Aux p)) (hs ++ listed (taken_from h t (Aux p)))
  taken_same p (Some e) t hs is = cable_parts (hs ++ (e ∷ [])) refl (sym (held_same p None t))
  taken_same p None t hs is =
      let v = sym (value_same p (λ k x. k.given x) t) in
      let e = sym (ask_at p t.devices (λ k x. first (k.waiting x)) None) in
      let n = sym is in
      λ i. record { value = v i; held = n i; heard = hs ++ listed (e i) }

  taken_output : (h : Option Entry) (l : Line) (t : State K) → (taken_to h t l).output ≡ t.output
  taken_output (Some e) l t = refl
  taken_output None l t = refl

  -- what is taken from the port's own was held there, or is its device's next
  taken_came : (p : Port) (h : Option Entry) (t : State K) (e : Entry) → held_at t.held (Aux p) ≡ h → taken_from h t (Aux p) ≡ Some e → TakenAt (cable_of p t []) e
  taken_came p (Some x) t e is from = inl (is ∙ from)
  taken_came p None t e is from = inr (is, sym (ask_at p t.devices (λ k x. first (k.waiting x)) None) ∙ from)

  fills_own : (p : Port) (t : State K) → t.output ≡ None → Fills p (Some (Aux p)) t (moved (Some (Aux p)) t)
  fills_own p t o =
      let h = held_at t.held (Aux p) in
      let x = taken_from h t (Aux p) in
      record {
        out = listed x;
        cable = λ hs. ap (λ y. play_all (cable_of p t hs) (cond y (take ∷ []) [])) (same_port p) ∙ taken_same p h t hs refl ∙ sym (shown_cable p x (Aux p) (taken_to h t (Aux p)) (hs ++ listed x));
        shows = ap (λ y. output_of p y ++ listed x) o ∙ ap (λ y. cond y (listed x) []) (sym (same_port p)) ∙ sym (shown_output p x (Aux p) (taken_to h t (Aux p)) (taken_output h (Aux p) t ∙ o));
        came = λ e a. (refl, taken_came p h t e refl (listed_is e x a));
      }

  fills_line : (p : Port) (l : Line) (t : State K) (x : Bool) → is_port p (line_number l) ≡ x → t.output ≡ None → Fills p (Some l) t (moved (Some l) t)
  fills_line p l t true e o = subst (λ l. Fills p (Some l) t (moved (Some l) t)) (sym (port_line p l e)) (fills_own p t o)
  fills_line p l t false e o =
      let h = held_at t.held l in
      let x = taken_from h t l in
      record {
        out = [];
        cable = λ hs. ap (λ y. play_all (cable_of p t hs) (cond y (take ∷ []) [])) e ∙ sym (taken_other p h l t hs e) ∙ sym (shown_cable p x l (taken_to h t l) hs) ∙ ap (cable_of p (moved (Some l) t)) (sym (append-nil hs));
        shows = ap (λ y. output_of p y ++ []) o ∙ ap (λ y. cond y (listed x) []) (sym e) ∙ sym (shown_output p x l (taken_to h t l) (taken_output h l t ∙ o));
        came = λ e a. absurd a;
      }

  fills_if : (p : Port) (o : Option Shown) (t : State K) → t.output ≡ o → Fills p (fill_line_by o t) t (moved (fill_line_by o t) t)
  fills_if p (Some x) t o = fills_none p t
  fills_if p None t o = by_line (first_of (gives t) 6 t.next)
    where
      by_line : (m : Option Line) → Fills p m t (moved m t)
      by_line None = fills_none p t
      by_line (Some l) = fills_line p l t (is_port p (line_number l)) refl o

  pub fills : (p : Port) (t : State K) → Fills p (fill_line t) t (filled t)
  fills p t = fills_if p t.output t refl
