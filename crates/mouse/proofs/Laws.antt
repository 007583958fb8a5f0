-- The laws of a mouse.
use Rattle.std.proofs.Common.{◌≡◌, ℕ, suc, ◌-◌, ◌%◌, ◌≤◌, min, Bool, true, false, cond, not, ◌&&◌, eqb, ltb, List, length, get_or, ℤ, pos, negsuc, neg_ℤ, ◌≤ℤ◌, refl, ap, ◌∙◌, arith, w8, of_z}
use Rattle.std.proofs.lemmas.Int.{ints}
use Rattle.std.proofs.lemmas.Bool.{le-ltb, lt-ltb}
use Rattle.std.proofs.lemmas.Bool.Decides.{nat_tests}
use Rattle.ps2.specs.Events.{Happening, movement, stroke, pull, plug}
use Rattle.ps2.specs.Runs.{Call, Ran}
use Rattle.mouse.specs.declared.counters.Counters.{Counters}
use Rattle.mouse.specs.declared.settings.Identity.{Identity}
use Rattle.mouse.specs.declared.settings.Identity.TheVariants.{Standard, Wheel, FiveButtons}
use Rattle.mouse.specs.declared.packet.Packet.{Packet}
use Rattle.mouse.specs.declared.packet.Packet.TheVariants.{Empty, One, Two, Three, Four}
use Rattle.mouse.specs.declared.mouse.Mouse.{Mouse}
use Rattle.mouse.specs.Packets.{bytes_of}
use Rattle.mouse.specs.Counters.{inside}
use Rattle.mouse.specs.Reports.{scaled_size, scaled_count, flag, sign, low, head_byte, movement_packet}
use Rattle.mouse.specs.Mice.{began}
use Rattle.mouse.specs.Hearing.{heard}
use Rattle.mouse.specs.Moving.{streams, wraps, silent, sampled, news, queued}
use Rattle.mouse.specs.MouseKind.{answer_waiting, mouse_waiting, mouse_happened, mouse_kind}
use Rattle.mouse.specs.MouseLaws.{head_bit, signed_by, wheel_read, more_buttons, Shown, Laws}

five_at_most : (a : Bool) (p : Packet) → length (answer_waiting a p) ≤ 5
five_at_most true Empty = omega arith
five_at_most true (One a) = omega arith
five_at_most true (Two a b) = omega arith
five_at_most true (Three a b c) = omega arith
five_at_most true (Four a b c d) = omega arith
five_at_most false Empty = omega arith
five_at_most false (One a) = omega arith
five_at_most false (Two a b) = omega arith
five_at_most false (Three a b c) = omega arith
five_at_most false (Four a b c d) = omega arith

pub five : (h : List Call) (m : Mouse) → Ran mouse_kind h m → length (mouse_waiting m) ≤ 5
five h m r = five_at_most m.answer.acknowledges m.answer.packet

pub reset : (m n : Mouse) → m.variant ≡ n.variant → heard m 0xFF ≡ heard n 0xFF
reset m n e = ap (λ v. began v true) e

pub bounded : (z : ℤ) → inside (scaled_count z) ≡ true
bounded z = grind (arith, ints, nat_tests)

size_more : (m n : ℕ) → m ≤ n → scaled_size m ≤ scaled_size n
size_more m n h = grind (arith, nat_tests)

abbrev capped : ℕ → ℕ
capped n = min (scaled_size n) 255

capped_more : (m n : ℕ) → m ≤ n → capped m ≤ capped n
capped_more m n h = omega (arith, size_more m n h)

at_pos : (n : ℕ) → scaled_count (pos n) ≡ pos (capped n)
at_pos n = let e : ltb n 0 ≡ false = le-ltb n 0 (omega arith) in simp e

at_negsuc : (n : ℕ) → scaled_count (negsuc n) ≡ neg_ℤ (pos (capped (suc n)))
at_negsuc n = refl

pub monotone : (y z : ℤ) → y ≤ℤ z → scaled_count y ≤ℤ scaled_count z
monotone (pos m) (pos n) h = rw (at_pos m, at_pos n) (omega (arith, ints, capped_more m n (omega (arith, ints))))
monotone (pos m) (negsuc n) h = absurd (omega (arith, ints))
monotone (negsuc m) (pos n) h = rw (at_negsuc m, at_pos n) (omega (arith, ints))
monotone (negsuc m) (negsuc n) h = rw (at_negsuc m, at_negsuc n) (omega (arith, ints, capped_more (suc n) (suc m) (omega (arith, ints))))

pub odd : (z : ℤ) → scaled_count (neg_ℤ z) ≡ neg_ℤ (scaled_count z)
odd z = grind (arith, ints, nat_tests)

held_back : (s w r t u : Bool) → r ≡ false → ((s && (not w && (r && t))) && u) ≡ false
held_back true true r t u e = refl
held_back true false r t u e = rw e
held_back false w r t u e = refl

pub disabled : (m : Mouse) (e : Happening) → m.settings.reporting ≡ false → mouse_waiting (mouse_happened m e) ≡ mouse_waiting m
disabled m (movement x y w b) h =
    let n = sampled m x y w b in
    ap (λ t. mouse_waiting (cond t (queued n) n)) (held_back (streams m.settings.mode) (wraps m.awaited) m.settings.reporting (silent m.answer) (news n) h)
disabled m (stroke bs) h = refl
disabled m pull h = refl
disabled m plug h = refl

flag_small : (t : Bool) → flag t ≤ 1
flag_small true = omega arith
flag_small false = omega arith

axis_read : (z : ℤ) → inside z ≡ true → signed_by (eqb (sign z) 1) 256 (low z) ≡ z
axis_read (pos n) h =
    let e : ltb n 0 ≡ false = le-ltb n 0 (omega arith) in
    let small : n ≤ 255 = grind (arith, ints, nat_tests) in
    simp e (ap pos (omega arith))
axis_read (negsuc n) h =
    let small : n ≤ 254 = grind (arith, ints, nat_tests) in
    ap negsuc (omega arith)

wheel_byte : (w : ℤ) → negsuc 7 ≤ℤ w → w ≤ℤ pos 7 → signed_by (ltb 127 (of_z w8 w)) 256 (of_z w8 w) ≡ w
wheel_byte (pos n) l h = let e : ltb 127 n ≡ false = le-ltb 127 n (omega (arith, ints)) in simp e
wheel_byte (negsuc n) l h =
    let small : n ≤ 7 = omega (arith, ints) in
    let e : ltb 127 (256 - suc n) ≡ true = lt-ltb 127 (256 - suc n) (omega arith) in
    simp e (ap negsuc (omega arith))

wheel_half : (w : ℤ) (r : ℕ) → r ≡ of_z w8 w % 16 → negsuc 7 ≤ℤ w → w ≤ℤ pos 7 → signed_by (ltb 7 r) 16 r ≡ w
wheel_half (pos n) r q l h =
    let small : n ≤ 7 = omega (arith, ints) in
    let same : r ≡ n = omega arith in
    let e : ltb 7 n ≡ false = le-ltb 7 n small in
    simp (same, e)
wheel_half (negsuc n) r q l h =
    let small : n ≤ 7 = omega (arith, ints) in
    let same : r ≡ 16 - suc n = omega arith in
    let e : ltb 7 (16 - suc n) ≡ true = lt-ltb 7 (16 - suc n) (omega arith) in
    simp same (simp e (ap negsuc (omega arith)))

module _ (c : Counters) (b : ℕ) (ix : inside c.x.count ≡ true) (iy : inside c.y.count ≡ true) where
  sx : sign c.x.count ≤ 1
  sx = flag_small _

  sy : sign c.y.count ≤ 1
  sy = flag_small _

  ox : flag c.x.overflow ≤ 1
  ox = flag_small _

  oy : flag c.y.overflow ≤ 1
  oy = flag_small _

  made : (id : Identity) (p : List ℕ) → get_or p 0 0 ≡ head_byte c.x c.y b → get_or p 1 0 ≡ low c.x.count → get_or p 2 0 ≡ low c.y.count → wheel_read id (get_or p 3 0) c.wheel → more_buttons id (get_or p 3 0) b → Shown id c b p
  made id p e0 e1 e2 w m =
      let b4 : head_bit p 4 ≡ sign c.x.count = omega (arith, sx, sy, ox, oy, e0) in
      let b5 : head_bit p 5 ≡ sign c.y.count = omega (arith, sx, sy, ox, oy, e0) in
      record {
        three = omega (arith, sx, sy, ox, oy, e0);
        always = omega (arith, sx, sy, ox, oy, e0);
        x = (λ k. signed_by (eqb (b4 k) 1) 256 (e1 k)) ∙ axis_read c.x.count ix;
        y = (λ k. signed_by (eqb (b5 k) 1) 256 (e2 k)) ∙ axis_read c.y.count iy;
        x_overflow = omega (arith, sx, sy, ox, oy, e0);
        y_overflow = omega (arith, sx, sy, ox, oy, e0);
        wheel = w;
        more = m;
      }

pub shown : (id : Identity) (c : Counters) (b : ℕ) → inside c.x.count ≡ true → inside c.y.count ≡ true → negsuc 7 ≤ℤ c.wheel → c.wheel ≤ℤ pos 7 → Shown id c b (bytes_of (movement_packet id c b))
shown Standard c b ix iy wl wh = made c b ix iy Standard _ refl refl refl tt tt
shown Wheel c b ix iy wl wh = made c b ix iy Wheel _ refl refl refl (wheel_byte c.wheel wl wh) tt
shown FiveButtons c b ix iy wl wh =
    let r = of_z w8 c.wheel % 16 in
    made c b ix iy FiveButtons _ refl refl refl (wheel_half c.wheel _ (omega arith) wl wh) (omega arith)

pub laws : Laws
laws = record { shown = shown; odd = odd; monotone = monotone; bounded = bounded; reset = reset; disabled = disabled; five = five }
