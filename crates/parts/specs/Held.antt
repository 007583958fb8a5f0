-- Held places: one for an entry at each of the six lines.
--   Held             what is held at each line
--   held_of t        of the table of line records
--   held_at h l      the entry held at a line
--   put_held h n e   the places after e is put at the line of number n
--   kept_held h      what reverting leaves: lines 1 to 3 are there in Multiplexed mode alone
use Rattle.std.specs.Prelude.{ℕ, cond, List, None, Option, ◌==◌, slice_index_or}
use Rattle.ps2.specs.declared.entry.Entry.{Entry}
use Rattle.parts.specs.declared.lines.Line.{Line}
use Rattle.parts.specs.declared.lines.Line.TheVariants.{Aux, Keyboard, Controller}
use Rattle.parts.specs.declared.lines.Port.TheVariants.{P0, P1, P2, P3}
use Rattle.parts.specs.declared.held.LineRecord.{LineRecord}
use Rattle.parts.specs.declared.held.Lines.{Lines}

pub record Held : Type 0 where
  pub port0 : Option Entry
  pub port1 : Option Entry
  pub port2 : Option Entry
  pub port3 : Option Entry
  pub keyboard : Option Entry
  pub controller : Option Entry

-- the entry in the record of a number
abbrev pub in_record : List LineRecord → ℕ → Option Entry
in_record t n = (slice_index_or t n (record { held = None })).held

abbrev pub held_of : Lines → Held
held_of l = record {
  port0 = in_record l.table 0;
  port1 = in_record l.table 1;
  port2 = in_record l.table 2;
  port3 = in_record l.table 3;
  keyboard = in_record l.table 4;
  controller = in_record l.table 5;
}

abbrev pub held_at : Held → Line → Option Entry
held_at h (Aux P0) = h.port0
held_at h (Aux P1) = h.port1
held_at h (Aux P2) = h.port2
held_at h (Aux P3) = h.port3
held_at h Keyboard = h.keyboard
held_at h Controller = h.controller

abbrev pub put_held : Held → ℕ → Option Entry → Held
put_held h n e = record {
  port0 = cond (n == 0) e h.port0;
  port1 = cond (n == 1) e h.port1;
  port2 = cond (n == 2) e h.port2;
  port3 = cond (n == 3) e h.port3;
  keyboard = cond (n == 4) e h.keyboard;
  controller = cond (n == 5) e h.controller;
}

-- nothing is held
abbrev pub none_held : Held
none_held = record { port0 = None; port1 = None; port2 = None; port3 = None; keyboard = None; controller = None }

abbrev pub kept_held : Held → Held
kept_held h = record { port0 = h.port0; port1 = None; port2 = None; port3 = None; keyboard = h.keyboard; controller = h.controller }
