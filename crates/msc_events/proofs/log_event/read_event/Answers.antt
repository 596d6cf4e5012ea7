use Rattle.std.proofs.Common.{◌∙◌, sym, length}
use Rattle.token_grammar.specs.declared.readers.ReadFault.TheVariants.{Refused, TooDeep}
use Rattle.token_grammar.proofs.Refusals.{at_fault, empty_of, refused_at, some_of}
use Rattle.msc_events.specs.LogReaders.{event_at}
use Rattle.msc_events.specs.LogEvents.{event}
use Rattle.msc_events.proofs.LogAnswers.{event_deep, event_left, event_none, event_ok, event_only, event_refused}
use Rattle.msc_events.proofs.log_event.read_event.Goals as goal

pub returns-then-is_empty-clause-ok : goal.returns-then-is_empty-clause-ok
returns-then-is_empty-clause-ok c = event_ok c.args.tokens.now c.in-Ok.rest.now c.in-Ok.label c.in-Ok.ensures (empty_of c.in-Ok.rest.now (sym c.is_empty.ensures ∙ c.if-is_empty.true))

pub returns-then-is_empty-clause-only : goal.returns-then-is_empty-clause-only
returns-then-is_empty-clause-only c = event_only _ c.in-Ok.label (event_ok c.args.tokens.now c.in-Ok.rest.now c.in-Ok.label c.in-Ok.ensures (empty_of c.in-Ok.rest.now (sym c.is_empty.ensures ∙ c.if-is_empty.true)))

pub returns-else-is_empty-clause-none : goal.returns-else-is_empty-clause-none
returns-else-is_empty-clause-none c = λ is. event_none c.args.tokens.now (length c.in-Ok.rest.now) (event_left c.args.tokens.now c.in-Ok.rest.now c.in-Ok.label c.in-Ok.ensures (some_of c.in-Ok.rest.now (sym c.is_empty.ensures ∙ c.if-is_empty.false)))

pub returns-else-is_empty-clause-place : goal.returns-else-is_empty-clause-place
returns-else-is_empty-clause-place c = λ is. refused_at (λ levels. event) 0 c.args.tokens.now (length c.in-Ok.rest.now) c.args.end c.refusal.result (event_left c.args.tokens.now c.in-Ok.rest.now c.in-Ok.label c.in-Ok.ensures (some_of c.in-Ok.rest.now (sym c.is_empty.ensures ∙ c.if-is_empty.false))) c.refusal.ensures

pub returns-in-Err-Refused-clause-none : goal.returns-in-Err-Refused-clause-none
returns-in-Err-Refused-clause-none c = λ is. event_none c.args.tokens.now c.in-Err-Refused.left (event_refused c.args.tokens.now c.in-Err-Refused.left (at_fault c.in-Err-Refused.field-0 (Refused c.in-Err-Refused.left) (event_at c.args.tokens.now) c.in-Err-Refused.field-0-is c.in-Err-Refused.ensures))

pub returns-in-Err-Refused-clause-place : goal.returns-in-Err-Refused-clause-place
returns-in-Err-Refused-clause-place c = λ is. refused_at (λ levels. event) 0 c.args.tokens.now c.in-Err-Refused.left c.args.end c.refusal-in-Err-Refused.result (event_refused c.args.tokens.now c.in-Err-Refused.left (at_fault c.in-Err-Refused.field-0 (Refused c.in-Err-Refused.left) (event_at c.args.tokens.now) c.in-Err-Refused.field-0-is c.in-Err-Refused.ensures)) c.refusal-in-Err-Refused.ensures

pub returns-in-Err-TooDeep-clause-none : goal.returns-in-Err-TooDeep-clause-none
returns-in-Err-TooDeep-clause-none c = λ is. absurd (event_deep c.args.tokens.now c.in-Err-TooDeep.left (at_fault c.in-Err-TooDeep.field-0 (TooDeep c.in-Err-TooDeep.left) (event_at c.args.tokens.now) c.in-Err-TooDeep.field-0-is c.in-Err-TooDeep.ensures))

pub returns-in-Err-TooDeep-clause-place : goal.returns-in-Err-TooDeep-clause-place
returns-in-Err-TooDeep-clause-place c = λ is. absurd (event_deep c.args.tokens.now c.in-Err-TooDeep.left (at_fault c.in-Err-TooDeep.field-0 (TooDeep c.in-Err-TooDeep.left) (event_at c.args.tokens.now) c.in-Err-TooDeep.field-0-is c.in-Err-TooDeep.ensures))
