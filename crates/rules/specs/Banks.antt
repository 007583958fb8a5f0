-- Banks: the five devices, each of a kind of its own.
--   Kinds, Values K             five kinds, and a value of each
--   ask v l q none              what the device of a line tells; none where a line has no device
--   change v n f                the devices after a change of the one at the line of number n
--   powered v                   all of them powered up
--   port_kind K p, port_value   the kind and the value at a port
use Rattle.std.specs.Prelude.{ℕ, cond, ◌==◌}
use Rattle.ps2.specs.Kinds.{Kind}
use Rattle.parts.specs.declared.lines.Port.{Port}
use Rattle.parts.specs.declared.lines.Port.TheVariants.{P0, P1, P2, P3}
use Rattle.parts.specs.declared.lines.Line.{Line}
use Rattle.parts.specs.declared.lines.Line.TheVariants.{Aux, Keyboard, Controller}

pub record Kinds : Type 1 where
  pub port0 : Kind
  pub port1 : Kind
  pub port2 : Kind
  pub port3 : Kind
  pub keyboard : Kind

pub record Values (K : Kinds) : Type 0 where
  pub port0 : K.port0.Value
  pub port1 : K.port1.Value
  pub port2 : K.port2.Value
  pub port3 : K.port3.Value
  pub keyboard : K.keyboard.Value

abbrev pub ask : {K : Kinds} {A : Type 0} → Values K → Line → ((k : Kind) → k.Value → A) → A → A
ask {K} v (Aux P0) q none = q K.port0 v.port0
ask {K} v (Aux P1) q none = q K.port1 v.port1
ask {K} v (Aux P2) q none = q K.port2 v.port2
ask {K} v (Aux P3) q none = q K.port3 v.port3
ask {K} v Keyboard q none = q K.keyboard v.keyboard
ask {K} v Controller q none = none

abbrev pub change : {K : Kinds} → Values K → ℕ → ((k : Kind) → k.Value → k.Value) → Values K
change {K} v n f = record {
  port0 = cond (n == 0) (f K.port0 v.port0) v.port0;
  port1 = cond (n == 1) (f K.port1 v.port1) v.port1;
  port2 = cond (n == 2) (f K.port2 v.port2) v.port2;
  port3 = cond (n == 3) (f K.port3 v.port3) v.port3;
  keyboard = cond (n == 4) (f K.keyboard v.keyboard) v.keyboard;
}

abbrev pub powered : {K : Kinds} → Values K → Values K
powered {K} v = record {
  port0 = K.port0.powered v.port0;
  port1 = K.port1.powered v.port1;
  port2 = K.port2.powered v.port2;
  port3 = K.port3.powered v.port3;
  keyboard = K.keyboard.powered v.keyboard;
}

abbrev pub port_kind : Kinds → Port → Kind
port_kind K P0 = K.port0
port_kind K P1 = K.port1
port_kind K P2 = K.port2
port_kind K P3 = K.port3

abbrev pub port_value : {K : Kinds} → Values K → (p : Port) → (port_kind K p).Value
port_value v P0 = v.port0
port_value v P1 = v.port1
port_value v P2 = v.port2
port_value v P3 = v.port3
