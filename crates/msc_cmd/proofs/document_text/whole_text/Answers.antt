use Rattle.std.proofs.Common.{rules}
use Rattle.msc_cmd.specs.DocumentTexts.{BreaksRule}
use Rattle.msc_cmd.proofs.TextFaults.{whole_fault, whole_tokens}
use Rattle.msc_cmd.proofs.document_text.whole_text.Goals as goal

pub returns-in-Ok : goal.returns-in-Ok
returns-in-Ok c =
    whole_tokens c.args.text.now c.in-Ok.tokens.tokens c.in-Ok.tokens.end_place c.parsed.result c.requires c.in-Ok.ensures.ok c.in-Ok.ensures.end_place c.in-Ok.ensures.only c.in-Ok.ensures.faultless c.parsed.ensures

pub returns-in-Some : goal.returns-in-Some
returns-in-Some c =
    let b : BreaksRule c.in-Err.fault c.in-Some.broken c.in-Some.at = search rules in
    whole_fault c.args.text.now c.in-Err.fault c.in-Some.broken c.in-Some.at c.requires c.in-Err.ensures.fault c.in-Err.ensures.only_fault c.in-Err.ensures.none b
