-- Fives: five devices, each of any kind.
--   kinds_of m0 .. m4    the kinds, from the devices' models
--   five_of a b c d e    five devices
--   values_of m0 .. m4   the value that each device stands for
use Rattle.ps2.specs.Kinds.{Model}
use Rattle.rules.specs.Banks.{Kinds, Values}
use Rattle.bank.specs.declared.five.Five.{Five}

abbrev pub kinds_of : {P0 P1 P2 P3 P4 : Type 0} → Model P0 → Model P1 → Model P2 → Model P3 → Model P4 → Kinds
kinds_of m0 m1 m2 m3 m4 = record { port0 = m0.kind; port1 = m1.kind; port2 = m2.kind; port3 = m3.kind; keyboard = m4.kind }

abbrev pub values_of : {P0 P1 P2 P3 P4 : Type 0} (m0 : Model P0) (m1 : Model P1) (m2 : Model P2) (m3 : Model P3) (m4 : Model P4) → Five P0 P1 P2 P3 P4 → Values (kinds_of m0 m1 m2 m3 m4)
values_of m0 m1 m2 m3 m4 d = record {
  port0 = m0.meaning d.port0;
  port1 = m1.meaning d.port1;
  port2 = m2.meaning d.port2;
  port3 = m3.meaning d.port3;
  keyboard = m4.meaning d.keyboard;
}

abbrev pub five_of : {P0 P1 P2 P3 P4 : Type 0} → P0 → P1 → P2 → P3 → P4 → Five P0 P1 P2 P3 P4
five_of a b c d e = record { port0 = a; port1 = b; port2 = c; port3 = d; keyboard = e }
