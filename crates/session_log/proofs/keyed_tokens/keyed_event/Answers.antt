use Rattle.std.proofs.Common.{◌≡◌, ◌∷◌, ℕ, List, codes, rules, subst, sym, ap, ◌∙◌}
use Rattle.msc_base.specs.Names.{IsName}
use Rattle.msc_base.specs.Only.{Never, Only}
use Rattle.msc_tokens.specs.declared.token.Token.{Token}
use Rattle.token_grammar.specs.Languages.{texts}
use Rattle.event_log.specs.Meanings.{IsEventOf}
use Rattle.session_log.specs.Sessions.{IsKeyedEvent}
use Rattle.session_log.specs.declared.keyed.KeyedLabel.{KeyedLabel}
use Rattle.session_log.proofs.Lines.{only_keyed, no_name, no_event, no_key}
use Rattle.session_log.proofs.keyed_tokens.keyed_event.Goals as goal

pub returns-in_default : goal.returns-in_default
returns-in_default c =
    let none : (key : List ℕ) (rest : List (List ℕ)) → texts c.as_slice.result.now ≡ key ∷ codes "=" ∷ rest → ⊥ = search rules in
    no_key c.args.version (texts c.args.tokens.now.tokens)
    (subst (λ (ts : List Token). (key : List ℕ) (rest : List (List ℕ)) → texts ts ≡ key ∷ codes "=" ∷ rest → ⊥) c.as_slice.ensures none)

pub returns-in_default-2 : goal.returns-in_default-2
returns-in_default-2 c =
    let are : texts c.as_slice.result.now ≡ c.in-Some.key.now ∷ codes "=" ∷ texts c.in-Some.rest.now = search rules in
    let none : IsName c.in-Some.key.now → ⊥ = search rules in
    no_name c.args.version (texts c.args.tokens.now.tokens) c.in-Some.key.now (texts c.in-Some.rest.now) (sym (ap texts c.as_slice.ensures) ∙ are) none

pub returns-in-None : goal.returns-in-None
returns-in-None c =
    let are : texts c.as_slice.result.now ≡ c.in-Some.key.now ∷ codes "=" ∷ texts c.in-Some.rest.now = search rules in
    let rest : c.in_ok-rest.rest.tokens ≡ c.in-Some.rest.now = search rules in
    let none : Never (IsEventOf c.args.version (texts c.in_ok-rest.rest.tokens)) = search rules in
    no_event c.args.version (texts c.args.tokens.now.tokens) c.in-Some.key.now (texts c.in-Some.rest.now) (sym (ap texts c.as_slice.ensures) ∙ are)
    (subst (λ (ts : List Token). Never (IsEventOf c.args.version (texts ts))) rest none)

pub returns-in_ok-new-in-Some-3 : goal.returns-in_ok-new-in-Some-3
returns-in_ok-new-in-Some-3 c =
    let tokens = texts c.args.tokens.now.tokens in
    let are : texts c.as_slice.result.now ≡ c.in-Some.key.now ∷ codes "=" ∷ texts c.in-Some.rest.now = search rules in
    let name : IsName c.in-Some.key.now × (c.in-Some-2.key ≡ c.in-Some.key.now) = search rules in
    let rest : c.in_ok-rest.rest.tokens ≡ c.in-Some.rest.now = search rules in
    let only : Only (IsEventOf c.args.version (texts c.in_ok-rest.rest.tokens)) c.in-Some-3.label = search rules in
    let there : tokens ≡ c.in-Some-2.key ∷ codes "=" ∷ texts c.in_ok-rest.rest.tokens =
    sym (ap texts c.as_slice.ensures) ∙ are ∙ ap (λ (k : List ℕ). k ∷ codes "=" ∷ texts c.in-Some.rest.now) (sym name.1) ∙ ap (λ (ts : List Token). c.in-Some-2.key ∷ codes "=" ∷ texts ts) (sym rest) in
    subst (λ (e : KeyedLabel). Only (IsKeyedEvent c.args.version tokens) e) (sym c.in_ok-new-in-Some-3.ensures)
    (only_keyed c.args.version tokens c.in-Some-2.key (texts c.in_ok-rest.rest.tokens) c.in-Some-3.label there (subst IsName (sym name.1) name.0) only)
