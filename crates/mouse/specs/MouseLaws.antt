-- What holds of a mouse, in other words than its rules.
--   Shown id c b p   the packet p, read as the published table has it, gives the movement, the buttons and the
--                    overflow flags that it was made from
--   Laws             all of it together
use Rattle.std.specs.Prelude.{◌≡◌, ℕ, ◌-◌, ◌/◌, ◌%◌, ◌^◌, ◌≤◌, Bool, true, false, List, length, ℤ, pos, negsuc, neg_ℤ, ◌≤ℤ◌, ◌==◌, nat_lt, slice_index, slice_index_or}
use Rattle.ps2.specs.Events.{Happening}
use Rattle.ps2.specs.Runs.{Call, Ran}
use Rattle.mouse.specs.declared.counters.Counters.{Counters}
use Rattle.mouse.specs.declared.settings.Identity.{Identity}
use Rattle.mouse.specs.declared.settings.Identity.TheVariants.{Standard, Wheel, FiveButtons}
use Rattle.mouse.specs.declared.mouse.Mouse.{Mouse}
use Rattle.mouse.specs.Packets.{bytes_of}
use Rattle.mouse.specs.Counters.{inside}
use Rattle.mouse.specs.Reports.{flag, scaled_count, movement_packet}
use Rattle.mouse.specs.Hearing.{heard}
use Rattle.mouse.specs.MouseKind.{mouse_waiting, mouse_happened, mouse_kind}

-- bit k of a packet's first byte
abbrev pub head_bit : List ℕ → ℕ → ℕ
head_bit p k = slice_index p 0 / 2 ^ k % 2

-- n, or n less 2m: a number in two's complement, its sign apart
abbrev pub signed_by : Bool → ℕ → ℕ → ℤ
signed_by false m n = pos n
signed_by true m n = negsuc (m - 1 - n)

-- the wheel as the fourth byte has it: a signed byte, or a signed half byte
abbrev pub wheel_read : Identity → ℕ → ℤ → Type 0
wheel_read Standard b w = Unit {0}
wheel_read Wheel b w = signed_by (nat_lt 127 b) 256 b ≡ w
wheel_read FiveButtons b w = signed_by (nat_lt 7 (b % 16)) 16 (b % 16) ≡ w

-- the fourth and fifth button in bits 4 and 5 of the fourth byte
abbrev pub more_buttons : Identity → ℕ → ℕ → Type 0
more_buttons Standard b buttons = Unit {0}
more_buttons Wheel b buttons = Unit {0}
more_buttons FiveButtons b buttons = b / 16 ≡ buttons / 8 % 4

pub record Shown (id : Identity) (c : Counters) (buttons : ℕ) (p : List ℕ) : Type 0 where
  pub three : slice_index_or p 0 0 % 8 ≡ buttons % 8
  pub always : head_bit p 3 ≡ 1
  pub x : signed_by (head_bit p 4 == 1) 256 (slice_index p 1) ≡ c.x.count
  pub y : signed_by (head_bit p 5 == 1) 256 (slice_index p 2) ≡ c.y.count
  pub x_overflow : head_bit p 6 ≡ flag c.x.overflow
  pub y_overflow : head_bit p 7 ≡ flag c.y.overflow
  pub wheel : wheel_read id (slice_index p 3) c.wheel
  pub more : more_buttons id (slice_index p 3) buttons

pub record Laws : Type 0 where
  -- decoding a packet of counters in range gives what it was made from
  pub shown : (id : Identity) (c : Counters) (b : ℕ) → inside c.x.count ≡ true → inside c.y.count ≡ true → negsuc 7 ≤ℤ c.wheel → c.wheel ≤ℤ pos 7 → Shown id c b (bytes_of (movement_packet id c b))
  -- scaling is odd, monotone, and stays within -255 to 255
  pub odd : (z : ℤ) → scaled_count (neg_ℤ z) ≡ neg_ℤ (scaled_count z)
  pub monotone : (y z : ℤ) → y ≤ℤ z → scaled_count y ≤ℤ scaled_count z
  pub bounded : (z : ℤ) → inside (scaled_count z) ≡ true
  -- a Reset gives one value for each model, from any value
  pub reset : (m n : Mouse) → m.variant ≡ n.variant → heard m 0xFF ≡ heard n 0xFF
  -- with reporting disabled an event leaves what waits as it was
  pub disabled : (m : Mouse) (e : Happening) → m.settings.reporting ≡ false → mouse_waiting (mouse_happened m e) ≡ mouse_waiting m
  -- from power-up, after any list of calls, at most five entries wait
  pub five : (h : List Call) (m : Mouse) → Ran mouse_kind h m → length (mouse_waiting m) ≤ 5
