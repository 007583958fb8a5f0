-- Histories: the calls made of one controller with their answers, the latest last, and what is read from them.
--   Call                 a call with its answer
--   History              the calls so far
--   after v h            the controller that is new above the devices v, after these calls
--   Truthful v h         each answer is the one that the controller gives
--   last_write h         the last accepted write
--   last_carried h       the host byte that was carried out last
--   arguments h          the sequence's arguments that were carried out, the latest first
--   steps p h            the port's own steps since the last turn answering 3
--   reads v p h          what was read under the port's tag since then
--   opening h, since h   the calls up to that turn, and those after it
--   lone v p h           the port's device alone on a cable, with those steps
use Rattle.std.specs.Prelude.{◌≡◌, ℕ, suc, ◌-◌, Bool, true, false, cond, ◌&&◌, ◌||◌, List, [], ◌∷◌, ◌++◌, Some, None, Ok, Err, Option, Result, ◌==◌, nat_le}
use Rattle.ps2.specs.declared.entry.Entry.{Entry}
use Rattle.ps2.specs.declared.refusal.Refusal.{Refusal}
use Rattle.ps2.specs.Entries.{shows}
use Rattle.ps2.specs.Events.{Happening}
use Rattle.parts.specs.declared.lines.Line.{Line}
use Rattle.parts.specs.declared.lines.Line.TheVariants.{Aux}
use Rattle.parts.specs.declared.lines.Port.{Port}
use Rattle.parts.specs.declared.output.Shown.{Shown}
use Rattle.parts.specs.declared.output.Carried.{Carried}
use Rattle.parts.specs.declared.output.Carried.TheVariants.{NoByte, Stays, CarriedOut, NowMultiplexed, NowLegacy}
use Rattle.parts.specs.Lines.{line_number, is_port}
use Rattle.rules.specs.Banks.{Kinds, Values, port_kind, port_value}
use Rattle.rules.specs.States.{State, power_on}
use Rattle.rules.specs.Status.{status, tagged, error_bit}
use Rattle.parts.specs.Outputs.{faulty}
use Rattle.parts.specs.Held.{held_at}
use Rattle.rules.specs.Turns.{hosted, gives, turn_answer, turn_after}
use Rattle.rules.specs.Calls.{read_answer, read_after, command_answer, command_after, data_answer, data_after, event_answer, event_after}
use Rattle.rules.specs.LoneCable.{Cable, Step, send, force, occur, take, play_all}

pub data Call : Type 0 where
  status_read : ℕ → Call
  data_read : Result ℕ Refusal → Call
  command_write : ℕ → Result (Unit {0}) Refusal → Call
  data_write : ℕ → Result (Unit {0}) Refusal → Call
  happens : ℕ → Happening → Result (Unit {0}) Refusal → Call
  turn : Carried → Option Line → Call

pub data History : Type 0 where
  new : History
  ◌▹◌ : History → Call → History

infixl 60 ◌▹◌
-- one history after another
abbrev pub ◌⊕◌ : History → History → History
g ⊕ new = g
g ⊕ (h ▹ x) = (g ⊕ h) ▹ x

infixl 60 ◌⊕◌
-- The controller
-- --------------

-- the state after a call, whatever it answers
abbrev pub next : {K : Kinds} → State K → Call → State K
next s (status_read n) = s
next s (data_read r) = read_after s
next s (command_write b r) = command_after b s
next s (data_write b r) = data_after b s
next s (happens n e r) = event_after n e s
next s (turn c m) = turn_after s

-- the call answers what the controller's rules give
abbrev pub Answers : {K : Kinds} → State K → Call → Type 0
Answers s (status_read n) = n ≡ status s
Answers s (data_read r) = r ≡ read_answer s
Answers s (command_write b r) = r ≡ command_answer b s
Answers s (data_write b r) = r ≡ data_answer s
Answers s (happens n e r) = r ≡ event_answer n e s
Answers s (turn c m) = (c, m) ≡ turn_answer s

abbrev pub after : {K : Kinds} → Values K → History → State K
after v new = power_on v
after v (h ▹ x) = next (after v h) x

abbrev pub Truthful : {K : Kinds} → Values K → History → Type 0
Truthful v new = Unit {0}
Truthful v (h ▹ x) = Truthful v h × Answers (after v h) x

-- Read from calls and answers alone
-- ---------------------------------

-- a write, by its byte
pub data Written : Type 0 where
  command : ℕ → Written
  datum : ℕ → Written

-- a write counts if it is accepted
abbrev pub writes : Result (Unit {0}) Refusal → Written → Option Written → Option Written
writes (Ok u) w old = Some w
writes (Err e) w old = old

-- the last accepted write after a call
abbrev pub written : Call → Option Written → Option Written
written (status_read n) old = old
written (data_read r) old = old
written (command_write b r) old = writes r (command b) old
written (data_write b r) old = writes r (datum b) old
written (happens n e r) old = old
written (turn c m) old = old

abbrev pub last_write : History → Option Written
last_write new = None
last_write (h ▹ x) = written x (last_write h)

-- a turn answering 2, 3 or 4 carries out the last accepted write
abbrev pub carries_out : Carried → Bool
carries_out NoByte = false
carries_out Stays = false
carries_out CarriedOut = true
carries_out NowMultiplexed = true
carries_out NowLegacy = true

-- what became of the host byte at a call
abbrev pub carried_at : Call → Carried
carried_at (status_read n) = NoByte
carried_at (data_read r) = NoByte
carried_at (command_write b r) = NoByte
carried_at (data_write b r) = NoByte
carried_at (happens n e r) = NoByte
carried_at (turn c m) = c

abbrev pub last_carried : History → Option Written
last_carried new = None
last_carried (h ▹ x) = cond (carries_out (carried_at x)) (last_write h) (last_carried h)

-- what the byte carried out just before makes of a data byte: after command 90h to 93h it is sent to that port,
-- after command D3h it is an argument of the sequence
pub data Role : Type 0 where
  sent : ℕ → Role
  argument : Role
  elsewhere : Role

unfoldable pub command_role : ℕ → Role
command_role b = cond (nat_le 0x90 b && nat_le b 0x93) (sent (b - 0x90)) (cond (b == 0xd3) argument elsewhere)

-- what the byte carried out just before makes of the next data byte
abbrev pub role : Option Written → Role
role None = elsewhere
role (Some (command b)) = command_role b
role (Some (datum b)) = elsewhere

-- the arguments after a byte that was carried out
abbrev pub argued : Role → Option Written → List ℕ → List ℕ
argued r None earlier = earlier
argued r (Some (command b)) earlier = earlier
argued (sent n) (Some (datum b)) earlier = earlier
argued argument (Some (datum b)) earlier = b ∷ earlier
argued elsewhere (Some (datum b)) earlier = earlier

abbrev pub arguments : History → List ℕ
arguments new = []
arguments (h ▹ x) = cond (carries_out (carried_at x)) (argued (role (last_carried h)) (last_write h) (arguments h)) (arguments h)

-- A4h after F0h and 56h
unfoldable pub activates : List ℕ → ℕ → Bool
activates [] b = false
activates (x ∷ []) b = false
activates (x ∷ (y ∷ earlier)) b = y == 0xf0 && (x == 0x56 && b == 0xa4)

-- 11h then, else the byte itself
abbrev pub forced : List ℕ → ℕ → ℕ
forced earlier b = cond (activates earlier b) 0x11 b

-- The steps of a port
-- -------------------

-- a data byte is a send at the port that it goes to, and an argument a force at port 0
abbrev pub data_steps : Port → Role → List ℕ → ℕ → List Step
data_steps p (sent n) earlier b = cond (is_port p n) (send b ∷ []) []
data_steps p argument earlier b = cond (is_port p 0) (force (forced earlier b) ∷ []) []
data_steps p elsewhere earlier b = []

-- commands are no steps
abbrev pub byte_steps : Port → Role → List ℕ → Option Written → List Step
byte_steps p r earlier None = []
byte_steps p r earlier (Some (command b)) = []
byte_steps p r earlier (Some (datum b)) = data_steps p r earlier b

-- a turn answering 2 carries out the last accepted write
abbrev pub host_steps : Port → Carried → History → List Step
host_steps p NoByte h = []
host_steps p Stays h = []
host_steps p CarriedOut h = byte_steps p (role (last_carried h)) (arguments h) (last_write h)
host_steps p NowMultiplexed h = []
host_steps p NowLegacy h = []

-- a turn answering the port is a take
abbrev pub take_steps : Port → Option Line → List Step
take_steps p None = []
take_steps p (Some l) = cond (is_port p (line_number l)) (take ∷ []) []

-- an accepted event is an event at its line
abbrev pub event_steps : Port → ℕ → Happening → Result (Unit {0}) Refusal → List Step
event_steps p n e (Ok u) = cond (is_port p n) (occur e ∷ []) []
event_steps p n e (Err r) = []

-- the port's steps at a call
abbrev pub steps_at : Port → History → Call → List Step
steps_at p h (status_read n) = []
steps_at p h (data_read r) = []
steps_at p h (command_write b r) = []
steps_at p h (data_write b r) = []
steps_at p h (happens n e r) = event_steps p n e r
steps_at p h (turn c m) = host_steps p c h ++ take_steps p m

-- a turn answering 3 enters Multiplexed mode; a span begins behind it, and ends before the next turn answering 4
abbrev pub entering : Carried → Bool
entering NoByte = false
entering Stays = false
entering CarriedOut = false
entering NowMultiplexed = true
entering NowLegacy = false

-- a turn answering 4 leaves the mode
abbrev pub leaving : Carried → Bool
leaving NoByte = false
leaving Stays = false
leaving CarriedOut = false
leaving NowMultiplexed = false
leaving NowLegacy = true

-- the call enters Multiplexed mode
abbrev pub opens : Call → Bool
opens x = entering (carried_at x)

-- the call leaves it
abbrev pub closes : Call → Bool
closes x = leaving (carried_at x)

abbrev pub opening : History → History
opening new = new
opening (h ▹ x) = cond (opens x) (h ▹ x) (opening h)

abbrev pub since : History → History
since new = new
since (h ▹ x) = cond (opens x) new (since h ▹ x)

abbrev pub steps : Port → History → List Step
steps p new = []
steps p (h ▹ x) = cond (opens x) [] (steps p h ++ steps_at p h x)

-- The bytes read
-- --------------

-- what a host sees of an entry: the Error bit and the byte
pub record Seen : Type 0 where
  pub error : Bool
  pub byte : ℕ

-- of an entry
abbrev pub seen : Entry → Seen
seen e = record { error = faulty e; byte = shows e }

-- a byte beside a status, if that names the port
abbrev pub under : Port → ℕ → ℕ → List Seen
under p st b = cond (tagged p st) (record { error = error_bit st; byte = b } ∷ []) []

-- what an accepted read shows under the tag
abbrev pub read_ok : Port → ℕ → Result ℕ Refusal → List Seen
read_ok p st (Ok b) = under p st b
read_ok p st (Err e) = []

-- what a call reads under the port's tag, by the status just before it
abbrev pub read_at : Port → ℕ → Call → List Seen
read_at p st (status_read n) = []
read_at p st (data_read r) = read_ok p st r
read_at p st (command_write b r) = []
read_at p st (data_write b r) = []
read_at p st (happens n e r) = []
read_at p st (turn c m) = []

abbrev pub reads : {K : Kinds} → Values K → Port → History → List Seen
reads v p new = []
reads v p (h ▹ x) = cond (opens x) [] (reads v p h ++ read_at p (status (after v h)) x)

-- the byte that waits under the port's tag: what a data read would show now
abbrev pub waiting_under : {K : Kinds} → Port → State K → List Seen
waiting_under p s = read_ok p (status s) (read_answer s)

-- The lone cable
-- --------------

-- the output entry, if it is the port's
abbrev pub output_of : Port → Option Shown → List Entry
output_of p None = []
output_of p (Some o) = cond (is_port p (line_number o.line)) (o.entry ∷ []) []

-- a cable that stands as the port does, and has heard its output entry
abbrev pub standing : {K : Kinds} (p : Port) → State K → Cable (port_kind K p)
standing p s = record { value = port_value s.devices p; held = held_at s.held (Aux p); heard = output_of p s.output }

-- as the port stands behind the turn that began the mode
abbrev pub starts : {K : Kinds} → Values K → (p : Port) → History → Cable (port_kind K p)
starts v p h = standing p (after v (opening h))

abbrev pub lone : {K : Kinds} → Values K → (p : Port) → History → Cable (port_kind K p)
lone v p h = play_all (starts v p h) (steps p h)

-- Seven in a row
-- --------------

-- whether a call is accepted
abbrev pub is_accepted : {A : Type 0} → Result A Refusal → Bool
is_accepted (Ok a) = true
is_accepted (Err e) = false

-- an accepted data read
abbrev pub is_read : Call → Bool
is_read (status_read n) = false
is_read (data_read r) = is_accepted r
is_read (command_write b r) = false
is_read (data_write b r) = false
is_read (happens n e r) = false
is_read (turn c m) = false

-- how many data reads were accepted
abbrev pub read_count : History → ℕ
read_count new = 0
read_count (w ▹ x) = cond (is_read x) (suc (read_count w)) (read_count w)

-- no turn of w answers 3 or 4, so that it lies in one span
abbrev pub Steady : History → Type 0
Steady new = Unit {0}
Steady (w ▹ x) = Steady w × ((opens x || closes x) ≡ false)

-- at a turn, the port has something to give, judged after the turn's host byte
abbrev pub ready_at : {K : Kinds} → Port → State K → Call → Bool
ready_at p s (status_read n) = true
ready_at p s (data_read r) = true
ready_at p s (command_write b r) = true
ready_at p s (data_write b r) = true
ready_at p s (happens n e r) = true
ready_at p s (turn c m) = gives (hosted s) (Aux p)

-- so at every turn of w, which came after g
abbrev pub Ready : {K : Kinds} → Values K → Port → History → History → Type 0
Ready v p g new = Unit {0}
Ready v p g (w ▹ x) = Ready v p g w × (ready_at p (after v (g ⊕ w)) x ≡ true)

-- some byte of w, which came after g, was read under the port's tag
abbrev pub includes : {K : Kinds} → Values K → Port → History → History → Bool
includes v p g new = false
includes v p g (w ▹ x) = includes v p g w || (is_read x && tagged p (status (after v (g ⊕ w))))
