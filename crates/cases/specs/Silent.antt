-- The kind of a device that takes nothing and keeps nothing.
use Rattle.std.specs.Prelude.{true, false, [], refl}
use Rattle.ps2.specs.Kinds.{Kind, Model}
use Rattle.cases.specs.declared.silent.Silent.{Silent}

abbrev pub silent_kind : Kind
silent_kind = record {
  Value = Unit {0};
  waiting = λ v. [];
  takes = λ v b. false;
  room = λ v e. true;
  powered = λ v. v;
  given = λ v. v;
  received = λ v b. v;
  happened = λ v e. v;
  given_rest = λ v. refl;
  given_none = λ v e. refl;
  taken_waits = λ v b t. t;
}

abbrev pub silent_model : Model Silent
silent_model = record { kind = silent_kind; meaning = λ s. tt }
