use Rattle.log_judge.proofs.Takings.{follows_on, ok_of}
use Rattle.log_judge.proofs.taking.take_event.Goals as goal

pub take-requires-clause-number : goal.take-requires-clause-number
take-requires-clause-number g c = record { label = c.args.event.event.label; is = c.requires.number }

pub returns-clause-fed : goal.returns-clause-fed
returns-clause-fed g c = λ x budget events f. ok_of c.take.result (λ all. all c.args.event.event.label c.requires.number) (c.take.ensures.fed x budget events f)

pub returns-clause-follows : goal.returns-clause-follows
returns-clause-follows g c = λ x budget h.
    follows_on g.S.Store.holds c.args.nets.now x budget c.args.track.now c.take.new.self c.args.event.event c.take.result
    (λ events f. ok_of c.take.result (λ all. all c.args.event.event.label c.requires.number) (c.take.ensures.fed x budget events f)) (λ events f. c.take.ensures.stays x budget events f) h
