use Rattle.std.proofs.Common.{ℕ, List, [], ◌∷◌, ◌++◌, subst}
use Rattle.std.proofs.lemmas.Result.{on_ok_weaker}
use Rattle.msc_base.specs.declared.label.Label.{Label}
use Rattle.expansion_tree.specs.Views.{expansions_view}
use Rattle.choice_parts.specs.ChoiceParts.{part_behind, part_list}
use Rattle.choice_terms.specs.JudgedParts.{IsJudgedPart}
use Rattle.chart_choices.specs.Making.{AddsMakers}
use Rattle.chart_choices.proofs.Steps.{forth, makers_both, none_rising, pushed}
use Rattle.chart_choices.proofs.walk.add_exception.Goals as goal

pub add_all_makers-requires-clause-rising : goal.add_all_makers-requires-clause-rising
add_all_makers-requires-clause-rising c = none_rising c.no_makers-makers.result.keys c.no_makers-makers.ensures

pub add_behind-requires-clause-judged : goal.add_behind-requires-clause-judged
add_behind-requires-clause-judged c =
    forth c.args.tables.now c.add_all_makers.new.tables (λ (ns : List (List ℕ)) (ls : List Label). IsJudgedPart ns ls (part_behind (expansions_view c.args.behind.now) c.args.pairs.now)) c.in_ok-add_all_makers.ensures.kept c.requires.behind

pub add_behind-requires-clause-ready : goal.add_behind-requires-clause-ready
add_behind-requires-clause-ready c = c.in_ok-add_all_makers.ensures.kept.ready

pub add_behind-requires-clause-rising : goal.add_behind-requires-clause-rising
add_behind-requires-clause-rising c = c.in_ok-add_all_makers.ensures.rising

pub returns : goal.returns
returns c =
    let s = c.args.tables.now in
    let t = c.add_all_makers.new.tables in
    let u = c.add_behind.new.tables in
    let ys = part_list (expansions_view c.args.operands.now) in
    let z = part_behind (expansions_view c.args.behind.now) c.args.pairs.now in
    let is = c.add_all_makers.new.makers.keys in
    let js = c.add_behind.new.makers.keys in
    let added : AddsMakers s t ys [] is = subst (λ (a : List (List ℕ)). AddsMakers s t ys a is) c.no_makers-makers.ensures c.in_ok-add_all_makers.ensures in
    let both : AddsMakers s u (ys ++ z ∷ []) [] js = makers_both s t u ys (z ∷ []) [] is js added c.in_ok-add_behind.ensures in
    on_ok_weaker c.push_choice.result (pushed s u c.args.place (ys ++ z ∷ []) js c.args.found.now.items c.push_choice.new.found.items both) c.push_choice.ensures
