use Rattle.std.proofs.Common.{ℕ, List, [], subst}
use Rattle.std.proofs.lemmas.Result.{on_ok_weaker}
use Rattle.expansion_tree.specs.Views.{expansions_view}
use Rattle.choice_parts.specs.ChoiceParts.{part_list}
use Rattle.chart_choices.specs.Making.{AddsMakers}
use Rattle.chart_choices.proofs.Steps.{none_rising, pushed}
use Rattle.chart_choices.proofs.walk.add_choice.Goals as goal

pub add_all_makers-requires-clause-rising : goal.add_all_makers-requires-clause-rising
add_all_makers-requires-clause-rising c = none_rising c.no_makers-makers.result.keys c.no_makers-makers.ensures

pub returns : goal.returns
returns c =
    let s = c.args.tables.now in
    let t = c.add_all_makers.new.tables in
    let ys = part_list (expansions_view c.args.operands.now) in
    let is = c.add_all_makers.new.makers.keys in
    let added : AddsMakers s t ys [] is = subst (λ (a : List (List ℕ)). AddsMakers s t ys a is) c.no_makers-makers.ensures c.in_ok-add_all_makers.ensures in
    on_ok_weaker c.push_choice.result (pushed s t c.args.place ys is c.args.found.now.items c.push_choice.new.found.items added) c.push_choice.ensures
