use Rattle.std.proofs.Common.{◌≡◌, List, subst, IfOk, IfErr}
use Rattle.msc_base.specs.declared.label.Label.{Label}
use Rattle.msc_tokens.specs.declared.token.Token.{Token}
use Rattle.token_grammar.specs.Languages.{texts}
use Rattle.token_grammar.specs.Refusals.{IsRefusal}
use Rattle.msc_events.specs.LogEvents.{ReadsEvent}
use Rattle.msc_events.proofs.log_event.parse_event.Goals as goal

pub returns-clause-only : goal.returns-clause-only
returns-clause-only c =
    subst (λ (ts : List Token). IfOk c.read_event.result (λ label. (other : Label) → ReadsEvent (texts ts) other → other ≡ label)) c.as_slice.ensures c.read_event.ensures.only

pub returns-clause-none : goal.returns-clause-none
returns-clause-none c =
    subst (λ (ts : List Token). IfErr c.read_event.result (λ fault. IsRefusal fault → (label : Label) → ReadsEvent (texts ts) label → ⊥)) c.as_slice.ensures c.read_event.ensures.none
