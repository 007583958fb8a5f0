-- Replies: what playing a record answers, as text.
--   reply_text r    ok, two hex digits, a turn's two parts, or ! and a refusal's number
--   line_text n r   the line of record number n
use Rattle.std.specs.Prelude.{ℕ, List, ◌++◌, Some, None, codes, decimal}
use Rattle.ps2.specs.Refusals.{number_of}
use Rattle.parts.specs.Lines.{line_number}
use Rattle.parts.specs.Outputs.{carried_number}
use Rattle.text.specs.Hex.{hex}
use Rattle.player.specs.declared.reply.Reply.{Reply}
use Rattle.player.specs.declared.reply.Reply.TheVariants.{Done, Byte, Turned, Refused}

abbrev pub reply_text : Reply → List ℕ
reply_text Done = codes "ok"
reply_text (Byte b) = hex b
reply_text (Turned c None) = decimal (carried_number c) ++ codes " -"
reply_text (Turned c (Some l)) = decimal (carried_number c) ++ (codes " " ++ decimal (line_number l))
reply_text (Refused e) = codes "!" ++ decimal (number_of e)

abbrev pub line_text : ℕ → Reply → List ℕ
line_text n r = decimal n ++ (codes " " ++ (reply_text r ++ codes "\n"))
