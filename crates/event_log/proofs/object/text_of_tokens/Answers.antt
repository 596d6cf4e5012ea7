use Rattle.event_log.proofs.Spelling.{refusal}
use Rattle.event_log.proofs.object.text_of_tokens.Goals as goal

pub returns-in_default : goal.returns-in_default
returns-in_default c = λ text e. c.in-Err.ensures.none (refusal c.in-Err.fault c.in_default.not-NoMemory) text e
