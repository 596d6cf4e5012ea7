use Rattle.msc_base.specs.declared.limits.TheConstants.Limits.{NESTING}
use Rattle.msc_document.proofs.ParseAnswers.{moved, reads_it, reads_no_other, reads_faultless, reads_none, has_fault, has_one_fault}
use Rattle.msc_document.proofs.parsing.parse.Goals as goal

pub returns-clause-ok : goal.returns-clause-ok
returns-clause-ok c =
    reads_it NESTING c.args.tokens.now.tokens c.args.tokens.now.end_place c.read_document.result
    (moved NESTING c.as_slice.result.now c.args.tokens.now.tokens c.end_place.result c.args.tokens.now.end_place c.read_document.result c.as_slice.ensures c.end_place.ensures c.read_document.ensures)

pub returns-clause-only : goal.returns-clause-only
returns-clause-only c =
    reads_no_other NESTING c.args.tokens.now.tokens c.args.tokens.now.end_place c.read_document.result
    (moved NESTING c.as_slice.result.now c.args.tokens.now.tokens c.end_place.result c.args.tokens.now.end_place c.read_document.result c.as_slice.ensures c.end_place.ensures c.read_document.ensures)

pub returns-clause-faultless : goal.returns-clause-faultless
returns-clause-faultless c =
    reads_faultless NESTING c.args.tokens.now.tokens c.args.tokens.now.end_place c.read_document.result
    (moved NESTING c.as_slice.result.now c.args.tokens.now.tokens c.end_place.result c.args.tokens.now.end_place c.read_document.result c.as_slice.ensures c.end_place.ensures c.read_document.ensures)

pub returns-clause-none : goal.returns-clause-none
returns-clause-none c =
    reads_none NESTING c.args.tokens.now.tokens c.args.tokens.now.end_place c.read_document.result
    (moved NESTING c.as_slice.result.now c.args.tokens.now.tokens c.end_place.result c.args.tokens.now.end_place c.read_document.result c.as_slice.ensures c.end_place.ensures c.read_document.ensures)

pub returns-clause-place : goal.returns-clause-place
returns-clause-place c =
    has_fault NESTING c.args.tokens.now.tokens c.args.tokens.now.end_place c.read_document.result
    (moved NESTING c.as_slice.result.now c.args.tokens.now.tokens c.end_place.result c.args.tokens.now.end_place c.read_document.result c.as_slice.ensures c.end_place.ensures c.read_document.ensures)

pub returns-clause-only_fault : goal.returns-clause-only_fault
returns-clause-only_fault c =
    has_one_fault NESTING c.args.tokens.now.tokens c.args.tokens.now.end_place c.read_document.result
    (moved NESTING c.as_slice.result.now c.args.tokens.now.tokens c.end_place.result c.args.tokens.now.end_place c.read_document.result c.as_slice.ensures c.end_place.ensures c.read_document.ensures)
