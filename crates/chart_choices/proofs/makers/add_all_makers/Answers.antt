use Rattle.std.proofs.Common.{◌+◌, ◌∷◌, List, drop, subst}
use Rattle.expansion_tree.specs.Numbered.{Expansion}
use Rattle.expansion_tree.specs.Views.{expansion_view, expansions_view}
use Rattle.choice_parts.specs.ChoiceParts.{part_list}
use Rattle.chart_choices.proofs.Steps.{IsLeftOf, makers_end, makers_start, makers_step}
use Rattle.chart_choices.proofs.WalkParts.{parts_at, parts_end}
use Rattle.chart_choices.proofs.makers.add_all_makers.Goals as goal

pub loop-operand-init : goal.loop-operand-init
loop-operand-init c = makers_start c.args.tables.now (part_list (expansions_view c.args.operands.now)) c.args.makers.now.keys c.requires.ready c.requires.rising c.requires.judged

pub add_makers-requires-clause-judged : goal.add_makers-requires-clause-judged
add_makers-requires-clause-judged c =
    let s = c.args.tables.now in
    let a = c.args.makers.now.keys in
    let xs = c.args.operands.now in
    let all = part_list (expansions_view xs) in
    let i = c.loop-operand.operand-index in
    let now = c.loop-operand.tables in
    let b = c.loop-operand.makers.keys in
    let own = expansion_view c.operand-item.result in
    let more = part_list (expansions_view (drop (i + 1) xs)) in
    let here : IsLeftOf s all a now (own ∷ more) b = subst (λ (ys : List Expansion). IsLeftOf s all a now ys b) (parts_at xs i c.operand-item.result c.loop-operand-test.true c.operand-item.is) c.loop-operand.invariant in
    here.judged.0

pub loop-operand-preserved : goal.loop-operand-preserved
loop-operand-preserved c =
    let s = c.args.tables.now in
    let a = c.args.makers.now.keys in
    let xs = c.args.operands.now in
    let all = part_list (expansions_view xs) in
    let i = c.loop-operand.operand-index in
    let now = c.loop-operand.tables in
    let b = c.loop-operand.makers.keys in
    let own = expansion_view c.operand-item.result in
    let more = part_list (expansions_view (drop (i + 1) xs)) in
    let here : IsLeftOf s all a now (own ∷ more) b = subst (λ (ys : List Expansion). IsLeftOf s all a now ys b) (parts_at xs i c.operand-item.result c.loop-operand-test.true c.operand-item.is) c.loop-operand.invariant in
    makers_step s all a now own more b c.add_makers.new.tables c.add_makers.new.makers.keys here c.in_ok-add_makers.ensures

pub add_makers-requires-clause-ready : goal.add_makers-requires-clause-ready
add_makers-requires-clause-ready c = c.loop-operand.invariant.ready

pub add_makers-requires-clause-rising : goal.add_makers-requires-clause-rising
add_makers-requires-clause-rising c = c.loop-operand.invariant.rising

pub returns : goal.returns
returns c =
    let s = c.args.tables.now in
    let a = c.args.makers.now.keys in
    let xs = c.args.operands.now in
    let all = part_list (expansions_view xs) in
    let i = c.loop-operand.operand-index in
    let now = c.loop-operand.tables in
    let b = c.loop-operand.makers.keys in
    makers_end s all a now b (subst (λ (ys : List Expansion). IsLeftOf s all a now ys b) (parts_end xs i c.loop-operand-test.false) c.loop-operand.invariant)
