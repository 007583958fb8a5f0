-- Steps in words.
--   variant_words v   a model by its name
--   step_words s      a step as it is printed; a note has no words of its own
use Rattle.std.specs.Prelude.{ℕ, List, [], ◌++◌, codes, decimal}
use Rattle.std.specs.Fmt.{signed_decimal}
use Rattle.mouse.specs.declared.settings.Variant.{Variant}
use Rattle.mouse.specs.declared.settings.Variant.TheVariants.{Plain, Wheel}
use Rattle.text.specs.Hex.{hex}
use Rattle.talk.specs.declared.step.Step.{Step}
use Rattle.talk.specs.declared.step.Step.TheVariants.{Note, Power, Host, Move}

abbrev pub variant_words : Variant → List ℕ
variant_words Plain = codes "plain"
variant_words Wheel = codes "wheel"

abbrev pub step_words : Step → List ℕ
step_words Note = []
step_words (Power v) = variant_words v
step_words (Host b) = codes "host " ++ hex b
step_words (Move m) = codes "move " ++ (signed_decimal m.dx ++ (codes " " ++ (signed_decimal m.dy ++ (codes " " ++ (signed_decimal m.wheel ++ (codes " " ++ decimal m.buttons))))))
