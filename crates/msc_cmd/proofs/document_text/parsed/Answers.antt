use Rattle.msc_base.specs.declared.limits.TheConstants.Limits.{NESTING}
use Rattle.std.proofs.Common.{rules}
use Rattle.msc_cmd.specs.DocumentTexts.{BreaksGrammar}
use Rattle.msc_cmd.proofs.TextFaults.{misread}
use Rattle.msc_cmd.proofs.document_text.parsed.Goals as goal

pub returns-in-Ok : goal.returns-in-Ok
returns-in-Ok c = record { reads = c.in-Ok.ensures.ok; only = λ other h. c.in-Ok.ensures.only NESTING other h; faultless = c.in-Ok.ensures.faultless }

pub returns-in-Some : goal.returns-in-Some
returns-in-Some c =
    let b : BreaksGrammar c.in-Err.fault c.in-Some.rule c.in-Some.there = search rules in
    misread c.args.tokens.tokens c.args.tokens.end_place c.in-Err.fault c.in-Some.rule c.in-Some.there b c.in-Err.ensures.place c.in-Err.ensures.only_fault c.in-Err.ensures.none
