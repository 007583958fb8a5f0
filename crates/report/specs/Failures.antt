-- Failures: why there is no text.
--   failure_words f   a failure in words
use Rattle.std.specs.Prelude.{ℕ, List, ◌++◌, codes, decimal}
use Rattle.ps2.specs.Refusals.{number_of, meaning_of}
use Rattle.report.specs.declared.failure.Failure.{Failure}
use Rattle.report.specs.declared.failure.Failure.TheVariants.{Refused, OutOfMemory}

abbrev pub failure_words : Failure → List ℕ
failure_words (Refused e) = codes "refused with " ++ (decimal (number_of e) ++ (codes ": " ++ meaning_of e))
failure_words OutOfMemory = codes "out of memory"
