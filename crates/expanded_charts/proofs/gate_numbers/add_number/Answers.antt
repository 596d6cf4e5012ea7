use Rattle.std.specs.HashMap.{get}
use Rattle.std.proofs.Common.{◌≡◌, ◌++◌, ◌∷◌, ◌∙◌, ℕ, List, [], Some, cond, ap, subst}
use Rattle.msc_unfolding.specs.Unfoldings.{On}
use Rattle.expanded_charts.specs.Expanding.{numbers_with}
use Rattle.expanded_charts.specs.GateNumbers.{gate_list, is_key}
use Rattle.expanded_charts.specs.declared.gate_numbers.GateKey.{GateKey}
use Rattle.expanded_charts.proofs.GateNumberFacts.{number_added}
use Rattle.expanded_charts.proofs.gate_numbers.add_number.Goals as goal

pub returns : goal.returns
returns c = λ shown h k.
    let key = c.key_of-key.result in
    let old = get is_key c.args.numbers.now in
    let mid = get is_key c.remove.new.self in
    let new = get is_key c.insert.new.self in
    let list : c.push.new.self ≡ gate_list c.remove.result ++ c.args.number ∷ [] = c.in_ok-push.ensures.ok ∙ ap (λ (l : List ℕ). l ++ c.args.number ∷ []) c.list_or_none-list.ensures in
    let put : (q : GateKey) → new q ≡ cond (is_key key q) (Some (gate_list c.remove.result ++ c.args.number ∷ [])) (mid q) = λ q. c.in_ok-insert.ensures.updates.0 q ∙ ap (λ (l : List ℕ). cond (is_key key q) (Some l) (mid q)) list in
    let added = number_added key c.args.number old mid new c.remove.result c.remove.ensures.value c.remove.ensures.updates.0 put shown h k in
    subst (λ (y : List ℕ). gate_list (new k) ≡ numbers_with (On k.name.now k.gate.now) (shown ++ (c.args.number, On y c.args.gate.now) ∷ [])) c.key_of-key.ensures.name
    (subst (λ (g : List ℕ). gate_list (new k) ≡ numbers_with (On k.name.now k.gate.now) (shown ++ (c.args.number, On key.name.now g) ∷ [])) c.key_of-key.ensures.gate added)
