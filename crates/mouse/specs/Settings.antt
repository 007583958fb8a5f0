-- Settings: what a host can set.
--   id_of i         the device ID that a host reads
--   defaults        rate 100, resolution 4 counts/mm (code 2), 1:1, reporting disabled, Stream mode
--   listed_rate r   whether a sample rate is one of the seven
--   knocked v k r   identity and last three rates after one rate more: 200, 100, 80 makes a wheel model
--                   ID 3, and 200, 200, 80 ID 4
use Rattle.std.specs.Prelude.{ℕ, Bool, false, cond, ◌&&◌, ◌||◌, ◌==◌}
use Rattle.mouse.specs.declared.settings.Variant.{Variant}
use Rattle.mouse.specs.declared.settings.Variant.TheVariants as variant
use Rattle.mouse.specs.declared.settings.Mode.{Mode}
use Rattle.mouse.specs.declared.settings.Mode.TheVariants.{Stream}
use Rattle.mouse.specs.declared.settings.Identity.{Identity}
use Rattle.mouse.specs.declared.settings.Identity.TheVariants.{Standard, Wheel, FiveButtons}
use Rattle.mouse.specs.declared.settings.Settings.{Settings}
use Rattle.mouse.specs.declared.settings.Knock.{Knock}

abbrev pub id_of : Identity → ℕ
id_of Standard = 0
id_of Wheel = 3
id_of FiveButtons = 4

abbrev pub defaults : Settings
defaults = record { mode = Stream; reporting = false; doubled = false; resolution = 2; rate = 100 }

abbrev pub listed_rate : ℕ → Bool
listed_rate r = r == 10 || (r == 20 || (r == 40 || (r == 60 || (r == 80 || (r == 100 || r == 200)))))

abbrev pub are : ℕ × ℕ × ℕ → ℕ → ℕ → ℕ → Bool
are rs a b c = rs.0 == a && (rs.1 == b && rs.2 == c)

abbrev pub identified : Variant → ℕ × ℕ × ℕ → Identity → Identity
identified variant.Plain rs id = id
identified variant.Wheel rs id = cond (are rs 80 100 200) Wheel (cond (are rs 80 200 200) FiveButtons id)

abbrev pub knocked : Variant → Knock → ℕ → Knock
knocked v k r = record { id = identified v (r, k.rates.0, k.rates.1) k.id; rates = (r, k.rates.0, k.rates.1) }

-- settings with one of them changed
abbrev pub mode_to : Mode → Settings → Settings
mode_to m s = record { mode = m; reporting = s.reporting; doubled = s.doubled; resolution = s.resolution; rate = s.rate }

abbrev pub reporting_to : Bool → Settings → Settings
reporting_to r s = record { mode = s.mode; reporting = r; doubled = s.doubled; resolution = s.resolution; rate = s.rate }

abbrev pub doubled_to : Bool → Settings → Settings
doubled_to d s = record { mode = s.mode; reporting = s.reporting; doubled = d; resolution = s.resolution; rate = s.rate }

abbrev pub resolution_to : ℕ → Settings → Settings
resolution_to r s = record { mode = s.mode; reporting = s.reporting; doubled = s.doubled; resolution = r; rate = s.rate }

abbrev pub rate_to : ℕ → Settings → Settings
rate_to r s = record { mode = s.mode; reporting = s.reporting; doubled = s.doubled; resolution = s.resolution; rate = r }
