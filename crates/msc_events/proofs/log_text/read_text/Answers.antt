use Rattle.std.proofs.Common.{◌∙◌, sym, length}
use Rattle.token_grammar.specs.declared.readers.ReadFault.TheVariants.{Refused, TooDeep}
use Rattle.token_grammar.proofs.Refusals.{at_fault, empty_of, some_of}
use Rattle.msc_events.specs.LogReaders.{text_at}
use Rattle.msc_events.proofs.LogAnswers.{text_deep, text_left, text_none, text_ok, text_only, text_refused, text_refused_at}
use Rattle.msc_events.proofs.log_text.read_text.Goals as goal

pub returns-then-is_empty-clause-ok : goal.returns-then-is_empty-clause-ok
returns-then-is_empty-clause-ok c = text_ok c.args.kind c.args.tokens.now c.in-Ok.rest.now c.in-Ok.text c.in-Ok.ensures (empty_of c.in-Ok.rest.now (sym c.is_empty.ensures ∙ c.if-is_empty.true))

pub returns-then-is_empty-clause-only : goal.returns-then-is_empty-clause-only
returns-then-is_empty-clause-only c = text_only c.args.kind _ c.in-Ok.text (text_ok c.args.kind c.args.tokens.now c.in-Ok.rest.now c.in-Ok.text c.in-Ok.ensures (empty_of c.in-Ok.rest.now (sym c.is_empty.ensures ∙ c.if-is_empty.true)))

pub returns-else-is_empty-clause-none : goal.returns-else-is_empty-clause-none
returns-else-is_empty-clause-none c = λ is. text_none c.args.kind c.args.tokens.now (length c.in-Ok.rest.now) (text_left c.args.kind c.args.tokens.now c.in-Ok.rest.now c.in-Ok.text c.in-Ok.ensures (some_of c.in-Ok.rest.now (sym c.is_empty.ensures ∙ c.if-is_empty.false)))

pub returns-else-is_empty-clause-place : goal.returns-else-is_empty-clause-place
returns-else-is_empty-clause-place c = λ is. text_refused_at c.args.kind c.args.tokens.now (length c.in-Ok.rest.now) c.args.end c.refusal.result (text_left c.args.kind c.args.tokens.now c.in-Ok.rest.now c.in-Ok.text c.in-Ok.ensures (some_of c.in-Ok.rest.now (sym c.is_empty.ensures ∙ c.if-is_empty.false))) c.refusal.ensures

pub returns-in-Err-Refused-clause-none : goal.returns-in-Err-Refused-clause-none
returns-in-Err-Refused-clause-none c = λ is. text_none c.args.kind c.args.tokens.now c.in-Err-Refused.left (text_refused c.args.kind c.args.tokens.now c.in-Err-Refused.left (at_fault c.in-Err-Refused.field-0 (Refused c.in-Err-Refused.left) (text_at c.args.kind c.args.tokens.now) c.in-Err-Refused.field-0-is c.in-Err-Refused.ensures))

pub returns-in-Err-Refused-clause-place : goal.returns-in-Err-Refused-clause-place
returns-in-Err-Refused-clause-place c = λ is. text_refused_at c.args.kind c.args.tokens.now c.in-Err-Refused.left c.args.end c.refusal-in-Err-Refused.result (text_refused c.args.kind c.args.tokens.now c.in-Err-Refused.left (at_fault c.in-Err-Refused.field-0 (Refused c.in-Err-Refused.left) (text_at c.args.kind c.args.tokens.now) c.in-Err-Refused.field-0-is c.in-Err-Refused.ensures)) c.refusal-in-Err-Refused.ensures

pub returns-in-Err-TooDeep-clause-none : goal.returns-in-Err-TooDeep-clause-none
returns-in-Err-TooDeep-clause-none c = λ is. absurd (text_deep c.args.kind c.args.tokens.now c.in-Err-TooDeep.left (at_fault c.in-Err-TooDeep.field-0 (TooDeep c.in-Err-TooDeep.left) (text_at c.args.kind c.args.tokens.now) c.in-Err-TooDeep.field-0-is c.in-Err-TooDeep.ensures))

pub returns-in-Err-TooDeep-clause-place : goal.returns-in-Err-TooDeep-clause-place
returns-in-Err-TooDeep-clause-place c = λ is. absurd (text_deep c.args.kind c.args.tokens.now c.in-Err-TooDeep.left (at_fault c.in-Err-TooDeep.field-0 (TooDeep c.in-Err-TooDeep.left) (text_at c.args.kind c.args.tokens.now) c.in-Err-TooDeep.field-0-is c.in-Err-TooDeep.ensures))
