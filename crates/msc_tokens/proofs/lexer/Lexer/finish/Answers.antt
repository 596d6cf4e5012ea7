use Rattle.msc_tokens.proofs.Answering.{answer_of, tells_spells, tells_end, tells_only, tells_faultless, tells_fault, tells_only_fault, tells_none}
use Rattle.msc_tokens.proofs.lexer.Lexer.finish.Goals as goal

pub returns-clause-ok : goal.returns-clause-ok
returns-clause-ok c = λ bytes h. tells_spells bytes c.end.result (answer_of bytes c.args.self c.end.result h c.end.ensures.ok c.end.ensures.err)

pub returns-clause-end_place : goal.returns-clause-end_place
returns-clause-end_place c = λ bytes h. tells_end bytes c.end.result (answer_of bytes c.args.self c.end.result h c.end.ensures.ok c.end.ensures.err)

pub returns-clause-only : goal.returns-clause-only
returns-clause-only c = λ bytes h. tells_only bytes c.end.result (answer_of bytes c.args.self c.end.result h c.end.ensures.ok c.end.ensures.err)

pub returns-clause-faultless : goal.returns-clause-faultless
returns-clause-faultless c = λ bytes h. tells_faultless bytes c.end.result (answer_of bytes c.args.self c.end.result h c.end.ensures.ok c.end.ensures.err)

pub returns-clause-fault : goal.returns-clause-fault
returns-clause-fault c = λ bytes h. tells_fault bytes c.end.result (answer_of bytes c.args.self c.end.result h c.end.ensures.ok c.end.ensures.err)

pub returns-clause-only_fault : goal.returns-clause-only_fault
returns-clause-only_fault c = λ bytes h. tells_only_fault bytes c.end.result (answer_of bytes c.args.self c.end.result h c.end.ensures.ok c.end.ensures.err)

pub returns-clause-none : goal.returns-clause-none
returns-clause-none c = λ bytes h. tells_none bytes c.end.result (answer_of bytes c.args.self c.end.result h c.end.ensures.ok c.end.ensures.err)
