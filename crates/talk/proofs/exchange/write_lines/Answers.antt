use Rattle.std.proofs.Common.{◌∙◌}
use Rattle.std.proofs.lemmas.Result.{IfOk-weaker}
use Rattle.talk.proofs.Playing.{at_end, at_line, at_step}
use Rattle.talk.proofs.exchange.write_lines.Goals as goal

pub returns-in-Err : goal.returns-in-Err
returns-in-Err c = IfOk-weaker c.write_fault.result _ _ (λ _ e. e ∙ at_line c.loop-index.invariant c.next.new.self c.in-Some.index c.in-Some.line c.in-Some.ensures.steps _ c.in-Err.ensures) c.write_fault.ensures

pub loop-index-preserved : goal.loop-index-preserved
loop-index-preserved c =
    let wrote = c.in_ok-write_step-in-Ok.ensures in
    at_step c.loop-index.invariant c.next.new.self c.in-Some.index c.in-Some.line c.in-Some.ensures.steps _ _ _ _ c.in-Ok.ensures wrote.0 wrote.1

pub returns : goal.returns
returns c = at_end c.loop-index.invariant c.next.new.self c.in-None.ensures.steps
