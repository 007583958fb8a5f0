-- Reports: what the mouse tells, as packets.
--   scaled_size n            the table of 2:1 scaling
--   scaled a                 a counter under 2:1: sign kept, 255 and the overflow bit where it is larger
--   shown_buttons id b       the buttons that a packet can show: three, five under ID 4
--   movement_packet id c b   three bytes; four under ID 3 (wheel) and ID 4 (wheel, fourth and fifth button)
--   status_packet s b        settings, buttons, resolution and rate
use Rattle.std.specs.Prelude.{ℕ, ◌+◌, ◌*◌, ◌/◌, ◌%◌, min, Bool, cond, ◌||◌, ℤ, pos, neg_ℤ, ◌==◌, int_lt, nat_le, nat_lt, unsigned_abs}
use Rattle.std.specs.Int.{w8, w16}
use Rattle.std.proofs.Common.{of_z}
use Rattle.mouse.specs.declared.counters.Axis.{Axis}
use Rattle.mouse.specs.declared.counters.Counters.{Counters}
use Rattle.mouse.specs.declared.packet.Packet.{Packet}
use Rattle.mouse.specs.declared.packet.Packet.TheVariants.{Three, Four}
use Rattle.mouse.specs.declared.settings.Identity.{Identity}
use Rattle.mouse.specs.declared.settings.Identity.TheVariants.{Standard, Wheel, FiveButtons}
use Rattle.mouse.specs.declared.settings.Mode.{Mode}
use Rattle.mouse.specs.declared.settings.Mode.TheVariants.{Stream, Remote}
use Rattle.mouse.specs.declared.settings.Settings.{Settings}

abbrev pub scaled_size : ℕ → ℕ
scaled_size n = cond (nat_le n 1) n (cond (n == 2) 1 (cond (n == 3) 3 (cond (n == 4) 6 (cond (n == 5) 9 (2 * n)))))

abbrev pub scaled_count : ℤ → ℤ
scaled_count z = cond (int_lt z (pos 0)) (neg_ℤ (pos (min (scaled_size (unsigned_abs z)) 255))) (pos (min (scaled_size (unsigned_abs z)) 255))

abbrev pub scaled : Axis → Axis
scaled a = record { count = scaled_count a.count; overflow = a.overflow || nat_lt 255 (scaled_size (unsigned_abs a.count)) }

abbrev pub flag : Bool → ℕ
flag b = cond b 1 0

abbrev pub sign : ℤ → ℕ
sign z = flag (int_lt z (pos 0))

-- the low eight bits in two's complement
abbrev pub low : ℤ → ℕ
low z = of_z w16 z % 256

abbrev pub shown_buttons : Identity → ℕ → ℕ
shown_buttons Standard b = b % 8
shown_buttons Wheel b = b % 8
shown_buttons FiveButtons b = b % 32

-- buttons left, right and middle; bit 3 is always set; signs; overflows
abbrev pub head_byte : Axis → Axis → ℕ → ℕ
head_byte x y b = b % 8 + 8 + 16 * sign x.count + 32 * sign y.count + 64 * flag x.overflow + 128 * flag y.overflow

abbrev pub movement_packet : Identity → Counters → ℕ → Packet
movement_packet Standard c b = Three (head_byte c.x c.y b) (low c.x.count) (low c.y.count)
movement_packet Wheel c b = Four (head_byte c.x c.y b) (low c.x.count) (low c.y.count) (of_z w8 c.wheel)
movement_packet FiveButtons c b = Four (head_byte c.x c.y b) (low c.x.count) (low c.y.count) (of_z w8 c.wheel % 16 + 16 * (b / 8 % 4))

abbrev pub remote : Mode → ℕ
remote Stream = 0
remote Remote = 1

-- left in bit 2, middle in bit 1, right in bit 0; scaling, reporting and Remote mode in bits 4, 5 and 6
abbrev pub status_byte : Settings → ℕ → ℕ
status_byte s b = 64 * remote s.mode + 32 * flag s.reporting + 16 * flag s.doubled + 4 * (b % 2) + 2 * (b / 4 % 2) + b / 2 % 2

abbrev pub status_packet : Settings → ℕ → Packet
status_packet s b = Three (status_byte s b) s.resolution s.rate
