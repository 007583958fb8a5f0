-- Numbers in a line.
--   nibble_of c    the value of a hexadecimal digit
--   byte_of t      a byte of two hexadecimal digits
--   one_more n c   a number with one decimal digit more; all above 999 count as 1000
--   digits_of t    the number that decimal digits make
--   count_of t     the same, of one digit or more
--   number_of t    the same, behind a minus sign or not
use Rattle.std.specs.Prelude.{ℕ, ◌+◌, ◌-◌, ◌*◌, min, Bool, true, false, cond, ◌&&◌, List, length, drop, ℤ, pos, neg_ℤ, Some, None, fold, Option, ◌==◌, nat_le, slice_index}

abbrev pub within : ℕ → ℕ → ℕ → Bool
within a b c = nat_le a c && nat_le c b

abbrev pub nibble_of : ℕ → Option ℕ
nibble_of c = cond (within 48 57 c) (Some (c - 48)) (cond (within 97 102 c) (Some (c - 87)) (cond (within 65 70 c) (Some (c - 55)) None))

abbrev pub paired : Option ℕ → Option ℕ → Option ℕ
paired None l = None
paired (Some h) None = None
paired (Some h) (Some l) = Some (16 * h + l)

abbrev pub byte_of : List ℕ → Option ℕ
byte_of t = cond (length t == 2) (paired (nibble_of (slice_index t 0)) (nibble_of (slice_index t 1))) None

abbrev pub one_more : Option ℕ → ℕ → Option ℕ
one_more None c = None
one_more (Some n) c = cond (within 48 57 c) (Some (min (10 * n + (c - 48)) 1000)) None

abbrev pub digits_of : List ℕ → Option ℕ
digits_of t = fold one_more (Some 0) t

abbrev pub count_of : List ℕ → Option ℕ
count_of t = cond (length t == 0) None (digits_of t)

abbrev pub signed_of : Bool → Option ℕ → Option ℤ
signed_of minus None = None
signed_of minus (Some n) = Some (cond minus (neg_ℤ (pos n)) (pos n))

abbrev pub number_of : List ℕ → Option ℤ
number_of t = cond (slice_index t 0 == 45) (signed_of true (count_of (drop 1 t))) (signed_of false (count_of t))
