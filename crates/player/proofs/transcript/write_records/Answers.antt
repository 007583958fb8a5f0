use Rattle.std.proofs.Common.{◌+◌, ◌++◌, Some, Ok, string_bytes, ap, ◌∙◌}
use Rattle.std.proofs.lemmas.Result.{IfOk-weaker}
use Rattle.session.specs.Records.{item_of}
use Rattle.session.specs.Readers.{Step, Keeps}
use Rattle.session.proofs.Progress.{shorter}
use Rattle.player.specs.Replies.{line_text}
use Rattle.player.proofs.Lines.{at_end, at_refusal, at_record}
use Rattle.player.proofs.transcript.write_records.Goals as goal
use Rattle.player.proofs.transcript.write_records.Goals.{In-Some}

pub returns-in-Err : goal.returns-in-Err
returns-in-Err g c = IfOk-weaker c.write_refused.result _ _ (λ _ e. e ∙ at_refusal c.loop-found.invariant _ _ c.in-Err.ensures.step) c.write_refused.ensures

pub returns-in_default : goal.returns-in_default
returns-in_default g c = at_end c.loop-found.invariant c.next_record.new.self (simp c.in_default.is at c.in-Ok.ensures.step)

pub loop-found-smaller : goal.loop-found-smaller
loop-found-smaller g c =
    let d = (goal.at.loop-found-smaller g c).In-Some in
    shorter c.loop-found.invariant.progress _ (item_of d.in-Some.next) (simp d.in-Some.is at d.in-Ok.ensures.step) (simp d.in-Some.is at d.in-Ok.ensures.keeps)

pub loop-found-preserved : goal.loop-found-preserved
loop-found-preserved g c =
    let d = (goal.at.loop-found-preserved g c).In-Some in
    let step : Step d.loop-found.reader (Ok (Some (item_of d.in-Some.next))) d.next_record.new.self = simp d.in-Some.is at d.in-Ok.ensures.step in
    let keeps : Keeps d.loop-found.reader (Ok (Some (item_of d.in-Some.next))) d.next_record.new.self = simp d.in-Some.is at d.in-Ok.ensures.keeps in
    at_record c.loop-found.invariant _ _ step keeps _ _ c.play-reply.ensures.after
    (c.in_ok-write_line.ensures ∙ ap (λ r. string_bytes c.loop-found.text ++ line_text (c.loop-found.number + 1) r) c.play-reply.ensures.value)
