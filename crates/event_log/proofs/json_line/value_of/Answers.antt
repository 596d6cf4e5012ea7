use Rattle.event_log.proofs.json_line.value_of.Goals as goal

pub returns-in_default : goal.returns-in_default
returns-in_default c = c.in-Err.ensures.err (λ is. c.in_default.not-Memory (c.classify.ensures.memory.1 is))
