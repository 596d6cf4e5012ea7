use Rattle.std.proofs.Common.{rules, ◌≡◌, ◌||◌, Bool, Some, None, option_map, refl, ◌∙◌, sym, ap}
use Rattle.std.proofs.lemmas.Bool.{or_left}
use Rattle.gate_rules.specs.Callers.{caller_view, key_view}
use Rattle.gate_rules.specs.Claims.{first_use, is_used_by}
use Rattle.gate_rules.proofs.ClaimLaws.{taken_called, taken_handed}
use Rattle.gate_rules.proofs.claims.Claims.is_taken.Goals as goal

pub returns-then-is_used_by : goal.returns-then-is_used_by
returns-then-is_used_by c = λ others are.
    let some : option_map key_view c.far-far.result ≡ Some (key_view c.in-Some.field-0) = search rules in
    let far : Bool = is_used_by (first_use c.args.self.now.claimed) (option_map key_view c.far-far.result) c.place-place.result in
    c.if-is_used_by.true
    ∙ sym (or_left c.is_used_by.result far c.if-is_used_by.true)
    ∙ taken_called others c.args.self.now are (caller_view c.args.caller) (option_map key_view c.own-own.result) (option_map key_view c.far-far.result) c.place-place.result c.own-own.ensures c.far-far.ensures c.place-place.ensures
    (key_view c.in-Some.field-0) c.is_used_by.result far some c.is_used_by.ensures refl

pub returns-else-is_used_by : goal.returns-else-is_used_by
returns-else-is_used_by c = λ others are.
    let some : option_map key_view c.far-far.result ≡ Some (key_view c.in-Some.field-0) = search rules in
    ap (λ (b : Bool). b || c.is_used_by-else-is_used_by.result) (sym c.if-is_used_by.false)
    ∙ taken_called others c.args.self.now are (caller_view c.args.caller) (option_map key_view c.own-own.result) (option_map key_view c.far-far.result) c.place-place.result c.own-own.ensures c.far-far.ensures c.place-place.ensures
    (key_view c.in-Some.field-0) c.is_used_by.result c.is_used_by-else-is_used_by.result some c.is_used_by.ensures c.is_used_by-else-is_used_by.ensures

pub returns-in-None : goal.returns-in-None
returns-in-None c = λ others are.
    let none : option_map key_view c.far-far.result ≡ None = search rules in
    taken_handed others c.args.self.now are (caller_view c.args.caller) (option_map key_view c.own-own.result) (option_map key_view c.far-far.result) c.place-place.result c.own-own.ensures c.far-far.ensures c.place-place.ensures
    c.is_used_by-in-None.result none c.is_used_by-in-None.ensures
