use Rattle.talk.proofs.Draining.{at_entry, at_end}
use Rattle.talk.proofs.exchange.drain.Goals as goal

pub loop-entry-preserved : goal.loop-entry-preserved
loop-entry-preserved c = at_entry c.loop-entry.invariant _ c.give.ensures.after _ c.in-Some.ensures.value _ c.in_ok-write_entry.ensures

pub returns : goal.returns
returns c = at_end c.loop-entry.invariant _ c.give.ensures.after c.in_default.ensures.value
