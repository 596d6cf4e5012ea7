use Rattle.std.proofs.Common.{rules, [], Err}
use Rattle.msc_tokens.specs.Faults.{IfNamed}
use Rattle.msc_tokens.specs.Spelling.{IsSettled}
use Rattle.msc_tokens.proofs.Answering.{settled_answer, tells_fault, tells_only_fault, tells_none}
use Rattle.msc_tokens.proofs.lexer.lex_all.Goals as goal

pub returns-in-Err-clause-fault : goal.returns-in-Err-clause-fault
returns-in-Err-clause-fault c =
    let settled : IfNamed c.in-Err.fault (IsSettled c.args.bytes.now c.in-Err.fault) = c.in-Err.ensures.fault [] (search rules) in
    tells_fault c.args.bytes.now (Err c.in-Err.fault) (settled_answer c.args.bytes.now c.in-Err.fault settled)

pub returns-in-Err-clause-only_fault : goal.returns-in-Err-clause-only_fault
returns-in-Err-clause-only_fault c =
    let settled : IfNamed c.in-Err.fault (IsSettled c.args.bytes.now c.in-Err.fault) = c.in-Err.ensures.fault [] (search rules) in
    tells_only_fault c.args.bytes.now (Err c.in-Err.fault) (settled_answer c.args.bytes.now c.in-Err.fault settled)

pub returns-in-Err-clause-none : goal.returns-in-Err-clause-none
returns-in-Err-clause-none c =
    let settled : IfNamed c.in-Err.fault (IsSettled c.args.bytes.now c.in-Err.fault) = c.in-Err.ensures.fault [] (search rules) in
    tells_none c.args.bytes.now (Err c.in-Err.fault) (settled_answer c.args.bytes.now c.in-Err.fault settled)
