use Rattle.chart_term.specs.declared.event.Event.{Event}
use Rattle.term_step.proofs.Searching.{taken-is}
use Rattle.term_step.proofs.search.taken_of.Goals as goal

pub returns-in_ok-at-in-Event-clause-event : goal.returns-in_ok-at-in-Event-clause-event
returns-in_ok-at-in-Event-clause-event c =
    let event : Event = record { number = c.in-Event.number; at = c.in-Event.at; also = c.in-Event.also; label = c.in-Event.label } in
    (c.in-Event.ensures, taken-is c.args.term.now event c.empty.result c.instances.result.now c.in_ok-at-in-Event.at c.in-Event.ensures c.instances.ensures c.empty.ensures c.in_ok-at-in-Event.ensures, c.if-label-wanted.false)
