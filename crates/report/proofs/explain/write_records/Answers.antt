use Rattle.std.proofs.Common.{Some, Ok, ◌∙◌}
use Rattle.std.proofs.lemmas.Result.{IfOk-weaker}
use Rattle.session.specs.Records.{item_of}
use Rattle.session.specs.Readers.{Step, Keeps}
use Rattle.session.proofs.Progress.{shorter}
use Rattle.report.proofs.Lines.{at_end, at_refusal, at_record}
use Rattle.report.proofs.explain.write_records.Goals as goal
use Rattle.report.proofs.explain.write_records.Goals.{In-Some}

step : (c : In-Some) → Step c.loop-found.reader (Ok (Some (item_of c.in-Some.next))) c.next_record.new.self
step c = simp c.in-Some.is at c.in-Ok.ensures.step

keeps : (c : In-Some) → Keeps c.loop-found.reader (Ok (Some (item_of c.in-Some.next))) c.next_record.new.self
keeps c = simp c.in-Some.is at c.in-Ok.ensures.keeps

pub returns-in-Err : goal.returns-in-Err
returns-in-Err c = IfOk-weaker c.write_refused.result _ _ (λ _ e. e ∙ at_refusal c.loop-found.invariant _ _ _ c.place-place.ensures c.in-Err.ensures.step) c.write_refused.ensures

pub returns-in_default : goal.returns-in_default
returns-in_default c = IfOk-weaker c.write_end.result _ _ (λ _ e. e ∙ at_end c.loop-found.invariant c.next_record.new.self _ c.place-place.ensures (simp c.in_default.is at c.in-Ok.ensures.step)) c.write_end.ensures

pub loop-found-smaller : goal.loop-found-smaller
loop-found-smaller c = let d = (goal.at.loop-found-smaller c).In-Some in shorter c.loop-found.invariant.progress _ _ (step d) (keeps d)

pub loop-found-preserved : goal.loop-found-preserved
loop-found-preserved c =
    let d = (goal.at.loop-found-preserved c).In-Some in
    at_record c.loop-found.invariant _ _ (step d) (keeps d) _ _ c.place-place.ensures c.in_ok-write_record.ensures
