-- The law of runs: the controller never mixes up, loses or starves a port.
--   Spans      a span is open behind a history: a turn answered 3, and none answered 3 or 4 since
--   Faithful   what was read under the port's tag, then what waits under it, is what its device gives alone on a cable;
--              the device and the held place end the same
--   Unspoilt   each send and each force in a span finds the port's held place empty
--   Genuine    each byte read under the tag was held at the port or given by its device at a turn of the span that
--              answered the port, or was its output entry when the span began
--   Fair       any seven bytes read in a row in a span include one of each port that had something to give at every
--              turn meanwhile
--   Reached    a controller, new above the devices v, went through the history h and is in the state s
--   Kept       the call x leads from s to t: every history that led to s goes on to t by it; and the controller
--              multiplexes exactly where a span is open, and then the law holds
--   Stands     the same of a state, behind every history that led to it
use Rattle.std.specs.Prelude.{◌≡◌, true, ◌⊎◌, List, [], ◌∷◌, ◌++◌, map, Some, None}
use Rattle.ps2.specs.declared.entry.Entry.{Entry}
use Rattle.parts.specs.declared.lines.Line.TheVariants.{Aux}
use Rattle.parts.specs.declared.lines.Port.{Port}
use Rattle.parts.specs.declared.settings.Mode.TheVariants.{Multiplexed}
use Rattle.parts.specs.declared.output.Carried.{Carried}
use Rattle.rules.specs.Banks.{Kinds, Values, port_value}
use Rattle.rules.specs.States.{State, mode_of}
use Rattle.parts.specs.Held.{held_at}
use Rattle.rules.specs.LoneCable.{TakenAt}
use Rattle.rules.specs.Turns.{hosted}
use Rattle.rules.specs.Histories.{Call, turn, History, new, ◌▹◌, ◌⊕◌, after, Truthful, carried_at, host_steps, opens, opening, since, standing, starts, Seen, seen, reads, waiting_under, lone, read_count, Steady, Ready, includes}

-- its last call is a turn answering 3
abbrev pub Began : History → Type 0
Began new = ⊥
Began (h ▹ x) = opens x ≡ true

pub record Spans (h : History) : Type 0 where
  pub whole : h ≡ opening h ⊕ since h
  pub began : Began (opening h)
  pub steady : Steady (since h)

-- one of a list
abbrev pub Among : {A : Type 0} → A → List A → Type 0
Among a [] = ⊥
Among a (b ∷ bs) = (a ≡ b) ⊎ Among a bs

module _ {K : Kinds} (v : Values K) where
  pub record Faithful (h : History) (p : Port) : Type 0 where
    pub bytes : reads v p h ++ waiting_under p (after v h) ≡ map seen (lone v p h).heard
    pub value : port_value (after v h).devices p ≡ (lone v p h).value
    pub held : held_at (after v h).held (Aux p) ≡ (lone v p h).held

  abbrev pub Unspoilt : History → Port → Type 0
  Unspoilt h p =
      (g w : History) (x : Call) → h ≡ (g ▹ x) ⊕ w → Spans g →
      (host_steps p (carried_at x) g ≡ []) ⊎ (held_at (after v g).held (Aux p) ≡ None)

  -- a turn of the span that answered the port, and the entry that it took, behind the turn's host byte
  pub record Turned (h : History) (p : Port) (e : Entry) : Type 0 where
    pub early : History
    pub late : History
    pub became : Carried
    pub whole : h ≡ (early ▹ turn became (Some (Aux p))) ⊕ late
    pub inside : Spans early
    pub steady : Steady late
    pub taken : TakenAt (standing p (hosted (after v early))) e

  -- where a byte that was read came from
  pub record Source (h : History) (p : Port) (b : Seen) : Type 0 where
    pub entry : Entry
    pub shown : b ≡ seen entry
    pub from : Among entry (starts v p h).heard ⊎ Turned h p entry

  abbrev pub Genuine : History → Port → Type 0
  Genuine h p = (b : Seen) → Among b (reads v p h) → Source h p b

  -- w is any part of the history that lies in one span and has seven data reads: from the first of them to the last, for one
  abbrev pub Fair : History → Port → Type 0
  Fair h p =
      (g w rest : History) → h ≡ (g ⊕ w) ⊕ rest → Spans g → Steady w → read_count w ≡ 7 →
      Ready v p g w → includes v p g w ≡ true

  -- all of it
  pub record Lawful (h : History) : Type 0 where
    pub spans : Spans h
    pub faithful : (p : Port) → Faithful h p
    pub unspoilt : (p : Port) → Unspoilt h p
    pub genuine : (p : Port) → Genuine h p
    pub fair : (p : Port) → Fair h p

  pub record Reached (h : History) (s : State K) : Type 0 where
    pub truthful : Truthful v h
    pub state : s ≡ after v h

pub record Kept {K : Kinds} (s : State K) (x : Call) (t : State K) : Type 0 where
  pub reached : (v : Values K) (h : History) → Reached v h s → Reached v (h ▹ x) t
  pub multiplexes : (v : Values K) (h : History) → Reached v h s → Spans (h ▹ x) → mode_of t ≡ Multiplexed
  pub lawful : (v : Values K) (h : History) → Reached v h s → mode_of t ≡ Multiplexed → Lawful v (h ▹ x)

pub record Stands {K : Kinds} (s : State K) : Type 0 where
  pub multiplexes : (v : Values K) (h : History) → Reached v h s → Spans h → mode_of s ≡ Multiplexed
  pub lawful : (v : Values K) (h : History) → Reached v h s → mode_of s ≡ Multiplexed → Lawful v h
