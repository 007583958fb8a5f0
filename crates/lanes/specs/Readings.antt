-- Readings: a status byte and the data byte read after it, in one number.
--   status r, data_byte r   the two bytes
--   full, aux, error        the status bits OBF (0), AUX (5) and Error (2)
--   tag r                   the port number in status bits 7 and 6
--   good r                  a good byte of a port: OBF and AUX set, Error clear
--   aux_error r             OBF, AUX and Error all set: an AUX byte that belongs to no port
--   port_of r               the port that a reading belongs to, if it belongs to one
--   is_of p r               whether that port is p
use Rattle.std.specs.Prelude.{◌≡◌, ℕ, ◌/◌, ◌%◌, ◌^◌, Bool, true, false, cond, not, ◌&&◌, Some, None, Option, ◌==◌}

abbrev pub status : ℕ → ℕ
status r = r / 256

abbrev pub data_byte : ℕ → ℕ
data_byte r = r % 256

abbrev pub bit : ℕ → ℕ → Bool
bit k n = n / 2 ^ k % 2 == 1

abbrev pub full : ℕ → Bool
full r = bit 0 (status r)

abbrev pub error : ℕ → Bool
error r = bit 2 (status r)

abbrev pub aux : ℕ → Bool
aux r = bit 5 (status r)

abbrev pub tag : ℕ → ℕ
tag r = status r / 64 % 4

abbrev pub good : ℕ → Bool
good r = full r && (aux r && not (error r))

abbrev pub aux_error : ℕ → Bool
aux_error r = full r && (aux r && error r)

abbrev pub port_of : ℕ → Option ℕ
port_of r = cond (good r) (Some (tag r)) None

abbrev pub names : ℕ → Option ℕ → Bool
names p None = false
names p (Some q) = q == p

abbrev pub is_of : ℕ → ℕ → Bool
is_of p r = names p (port_of r)

-- no reading has two ports
abbrev pub OnePort : ℕ → Type 0
OnePort r = (p q : ℕ) → is_of p r ≡ true → is_of q r ≡ true → p ≡ q
