-- Sending: entries that come to be held, and bytes that go to a device.
--   hold l e s   an entry comes to be held at a line
--   send l b s   a byte is sent to a line's device; if it is not taken, a timeout is held there
use Rattle.std.specs.Prelude.{ℕ, Bool, true, false, Some}
use Rattle.ps2.specs.declared.entry.Entry.{Entry}
use Rattle.ps2.specs.declared.entry.Entry.TheVariants.{Timeout}
use Rattle.parts.specs.declared.lines.Line.{Line}
use Rattle.parts.specs.Lines.{line_number}
use Rattle.rules.specs.Banks.{Kinds, Values, ask, change}
use Rattle.rules.specs.States.{State, with_held, with_devices}
use Rattle.parts.specs.Held.{put_held}

-- whether the device of a line takes a byte
abbrev pub takes_at : {K : Kinds} → Values K → Line → ℕ → Bool
takes_at v l b = ask v l (λ k x. k.takes x b) false

-- the devices after the one of a line took a byte
abbrev pub received_at : {K : Kinds} → Values K → Line → ℕ → Values K
received_at v l b = change v (line_number l) (λ k x. k.received x b)

module _ {K : Kinds} where
  abbrev pub hold : Line → Entry → State K → State K
  hold l e s = with_held (put_held s.held (line_number l) (Some e)) s

  -- by whether it is taken
  abbrev pub send_if : Bool → Line → ℕ → State K → State K
  send_if true l b s = with_devices (received_at s.devices l b) s
  send_if false l b s = hold l Timeout s

  abbrev pub send : Line → ℕ → State K → State K
  send l b s = send_if (takes_at s.devices l b) l b s
