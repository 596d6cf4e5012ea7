use Rattle.std.proofs.Common.{◌≡◌, List, ℕ, subst, IfOk, IfErr}
use Rattle.msc_tokens.specs.declared.token.Token.{Token}
use Rattle.token_grammar.specs.Languages.{texts}
use Rattle.token_grammar.specs.Refusals.{IsRefusal}
use Rattle.msc_events.specs.LogEvents.{ReadsText}
use Rattle.msc_events.proofs.log_text.parse_text.Goals as goal

pub returns-clause-only : goal.returns-clause-only
returns-clause-only c =
    subst (λ (ts : List Token). IfOk c.read_text.result (λ text. (other : List ℕ) → ReadsText c.args.kind (texts ts) other → other ≡ text)) c.as_slice.ensures c.read_text.ensures.only

pub returns-clause-none : goal.returns-clause-none
returns-clause-none c =
    subst (λ (ts : List Token). IfErr c.read_text.result (λ fault. IsRefusal fault → (text : List ℕ) → ReadsText c.args.kind (texts ts) text → ⊥)) c.as_slice.ensures c.read_text.ensures.none
