use Rattle.std.proofs.Common.{rules, ◌≡◌, ◌∙◌, ℕ, List, IfOk, ap, subst}
use Rattle.column_order.specs.Laws.{numbers_from}
use Rattle.level_weaving.proofs.NumberLaws.{text_numbers}
use Rattle.level_weaving.proofs.levels.all_numbers.Goals as goal

pub returns : goal.returns
returns c =
    let many : c.in_ok-count.count ≡ c.args.count = search rules in
    subst (λ (list : List ℕ). IfOk c.text_order.result (λ numbers. numbers.items ≡ list)) (ap (λ (n : ℕ). numbers_from 0 n) many ∙ text_numbers c.args.count) c.text_order.ensures
