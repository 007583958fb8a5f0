use Rattle.std.proofs.Common.{◌++◌, string_bytes, ap, ◌∙◌}
use Rattle.std.proofs.lemmas.Result.{IfOk-weaker}
use Rattle.player.proofs.Lines.{refused_lines}
use Rattle.player.proofs.transcript.write_file.Goals as goal

pub returns-in-Err : goal.returns-in-Err
returns-in-Err g c = IfOk-weaker c.write_refused.result _ _ (λ _ e. e ∙ ap (λ l. string_bytes c.args.text.now ++ l) (refused_lines _ _ _ _ c.in-Err.ensures)) c.write_refused.ensures
