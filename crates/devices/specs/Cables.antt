-- Cables: the kind of a cable over a device of any kind.
--   CableValue K   whether it is plugged, and the value of the device below
--   cable_kind K   plugged it is the device below; pulled nothing waits, no byte is taken, every event is
--                  accepted, and only a plug changes anything: it powers the device below up
use Rattle.std.specs.Prelude.{◌≡◌, ℕ, Bool, true, false, List, [], refl}
use Rattle.std.proofs.Common.{ap}
use Rattle.ps2.specs.declared.entry.Entry.{Entry}
use Rattle.ps2.specs.Events.{Happening, movement, stroke, pull, plug}
use Rattle.ps2.specs.Kinds.{Kind, Model, nonempty, rest}
use Rattle.devices.specs.declared.cable.Cable.{Cable}

pub record CableValue (K : Kind) : Type 0 where
  pub plugged : Bool
  pub below : K.Value

abbrev pub cable_value : (K : Kind) → Bool → K.Value → CableValue K
cable_value K p v = record { plugged = p; below = v }

abbrev pub cable_waiting : (K : Kind) → Bool → K.Value → List Entry
cable_waiting K true v = K.waiting v
cable_waiting K false v = []

abbrev pub cable_takes : (K : Kind) → Bool → K.Value → ℕ → Bool
cable_takes K true v b = K.takes v b
cable_takes K false v b = false

-- pull and plug go no further down
abbrev pub cable_room : (K : Kind) → Bool → K.Value → Happening → Bool
cable_room K true v (movement x y w b) = K.room v (movement x y w b)
cable_room K true v (stroke bs) = K.room v (stroke bs)
cable_room K true v pull = true
cable_room K true v plug = true
cable_room K false v e = true

abbrev pub cable_given : (K : Kind) → Bool → K.Value → CableValue K
cable_given K true v = cable_value K true (K.given v)
cable_given K false v = cable_value K false v

abbrev pub cable_happened : (K : Kind) → Bool → K.Value → Happening → CableValue K
cable_happened K true v (movement x y w b) = cable_value K true (K.happened v (movement x y w b))
cable_happened K true v (stroke bs) = cable_value K true (K.happened v (stroke bs))
cable_happened K true v pull = cable_value K false v
cable_happened K true v plug = cable_value K true v
cable_happened K false v (movement x y w b) = cable_value K false v
cable_happened K false v (stroke bs) = cable_value K false v
cable_happened K false v pull = cable_value K false v
cable_happened K false v plug = cable_value K true (K.powered v)

pub given_rest : (K : Kind) (p : Bool) (v : K.Value) → cable_waiting K (cable_given K p v).plugged (cable_given K p v).below ≡ rest (cable_waiting K p v)
given_rest K true v = K.given_rest v
given_rest K false v = refl

pub given_none : (K : Kind) (p : Bool) (v : K.Value) → cable_waiting K p v ≡ [] → cable_given K p v ≡ cable_value K p v
given_none K true v e = ap (cable_value K true) (K.given_none v e)
given_none K false v e = refl

pub taken_waits : (K : Kind) (p : Bool) (v : K.Value) (b : ℕ) → cable_takes K p v b ≡ true → nonempty (cable_waiting K p (K.received v b)) ≡ true
taken_waits K true v b t = K.taken_waits v b t
taken_waits K false v b t = t

abbrev pub cable_kind : Kind → Kind
cable_kind K = record {
  Value = CableValue K;
  waiting = λ v. cable_waiting K v.plugged v.below;
  takes = λ v b. cable_takes K v.plugged v.below b;
  room = λ v e. cable_room K v.plugged v.below e;
  powered = λ v. cable_value K true (K.powered v.below);
  given = λ v. cable_given K v.plugged v.below;
  received = λ v b. cable_value K v.plugged (K.received v.below b);
  happened = λ v e. cable_happened K v.plugged v.below e;
  given_rest = λ v. given_rest K v.plugged v.below;
  given_none = λ v e. given_none K v.plugged v.below e;
  taken_waits = λ v b t. taken_waits K v.plugged v.below b t;
}

abbrev pub cable_model : {D : Type 0} → Model D → Model (Cable D)
cable_model m = record { kind = cable_kind m.kind; meaning = λ c. cable_value m.kind c.plugged (m.meaning c.below) }
