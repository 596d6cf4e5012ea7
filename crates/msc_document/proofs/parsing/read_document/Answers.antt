use Rattle.std.proofs.Common.{◌∙◌, sym, length, inl, inr}
use Rattle.msc_tree.specs.Views.{document_view}
use Rattle.token_grammar.specs.declared.readers.ReadFault.TheVariants.{Refused, TooDeep}
use Rattle.msc_document.specs.DocumentReaders.{document_at}
use Rattle.token_grammar.proofs.Refusals.{empty_of, some_of, at_fault}
use Rattle.msc_document.proofs.ParseAnswers.{whole_document, left_document, refused_by, deep_by, answered}
use Rattle.msc_document.proofs.parsing.read_document.Goals as goal

pub returns-then-is_empty : goal.returns-then-is_empty
returns-then-is_empty c =
    whole_document c.args.levels c.args.tokens.now c.in-Ok.rest.now (document_view c.in-Ok.document) c.in-Ok.ensures (empty_of c.in-Ok.rest.now (sym c.is_empty.ensures ∙ c.if-is_empty.true))

pub returns-else-is_empty : goal.returns-else-is_empty
returns-else-is_empty c =
    let r = left_document c.args.levels c.args.tokens.now c.in-Ok.rest.now (document_view c.in-Ok.document) c.in-Ok.ensures (some_of c.in-Ok.rest.now (sym c.is_empty.ensures ∙ c.if-is_empty.false)) in
    answered c.args.levels c.args.tokens.now c.args.end c.refusal.result (inl (record { left = length c.in-Ok.rest.now; first = r; at = c.refusal.ensures r.prefix r.rest r.cut r.counted }))

pub returns-in-Err-Refused : goal.returns-in-Err-Refused
returns-in-Err-Refused c =
    let r = refused_by c.args.levels c.args.tokens.now c.in-Err-Refused.left
    (at_fault c.in-Err-Refused.field-0 (Refused c.in-Err-Refused.left) (document_at c.args.levels c.args.tokens.now) c.in-Err-Refused.field-0-is c.in-Err-Refused.ensures) in
    answered c.args.levels c.args.tokens.now c.args.end c.refusal-in-Err-Refused.result (inl (record { left = c.in-Err-Refused.left; first = r; at = c.refusal-in-Err-Refused.ensures r.prefix r.rest r.cut r.counted }))

pub returns-in-Err-TooDeep : goal.returns-in-Err-TooDeep
returns-in-Err-TooDeep c =
    let r = deep_by c.args.levels c.args.tokens.now c.in-Err-TooDeep.left
    (at_fault c.in-Err-TooDeep.field-0 (TooDeep c.in-Err-TooDeep.left) (document_at c.args.levels c.args.tokens.now) c.in-Err-TooDeep.field-0-is c.in-Err-TooDeep.ensures) in
    answered c.args.levels c.args.tokens.now c.args.end c.too_deep.result (inr (record { left = c.in-Err-TooDeep.left; first = r; at = c.too_deep.ensures r.prefix r.rest r.token r.cut r.counted }))
