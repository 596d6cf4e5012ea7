use Rattle.std.proofs.Common.{◌≡◌, ◌+◌, ◌∷◌, ◌++◌, List, drop, false, length, rules, subst, true}
use Rattle.msc_meaning.specs.ItemViews.{items_view}
use Rattle.msc_meaning.specs.Refinements.{without_decomposed}
use Rattle.msc_meaning.specs.Views.{item_view}
use Rattle.expansion_tree.specs.Views.{expansion_view, expansions_view}
use Rattle.choice_parts.specs.ChoiceParts.{ChoiceParts, item_parts, items_parts}
use Rattle.chart_choices.specs.Making.{is_left}
use Rattle.chart_choices.proofs.Steps.{IsLeft, left_end, left_judged, left_start, left_step}
use Rattle.chart_choices.proofs.WalkParts.{items_none, left_at, left_end as left_done, left_over}
use Rattle.chart_choices.proofs.walk.add_left.Goals as goal

pub loop-item-init : goal.loop-item-init
loop-item-init c = left_start c.args.tables.now (items_parts (without_decomposed c.args.decomposed.now (items_view c.args.items.now)) (expansions_view c.args.row.now) c.args.pairs.now) c.args.found.now.items c.requires.ready c.requires.judged

pub loop-item-preserved-then-is_left_out : goal.loop-item-preserved-then-is_left_out
loop-item-preserved-then-is_left_out c =
    let s = c.args.tables.now in
    let a = c.args.found.now.items in
    let rs = c.args.decomposed.now in
    let xs = c.args.items.now in
    let ps = c.args.pairs.now in
    let all = items_parts (without_decomposed rs (items_view xs)) (expansions_view c.args.row.now) ps in
    let i = c.loop-item.item-index in
    let now = c.loop-item.tables in
    let b = c.loop-item.found.items in
    let rest = c.loop-item.rest.now in
    let out : is_left rs (item_view c.item-item.result) ≡ true = search rules in
    subst (λ (qs : List ChoiceParts). IsLeft s all a now qs b) (left_over rs xs i c.item-item.result (expansions_view rest) ps c.loop-item-test.true c.item-item.is out) c.loop-item.invariant

pub add_item-requires-clause-judged : goal.add_item-requires-clause-judged
add_item-requires-clause-judged c =
    let s = c.args.tables.now in
    let a = c.args.found.now.items in
    let rs = c.args.decomposed.now in
    let xs = c.args.items.now in
    let ps = c.args.pairs.now in
    let all = items_parts (without_decomposed rs (items_view xs)) (expansions_view c.args.row.now) ps in
    let i = c.loop-item.item-index in
    let now = c.loop-item.tables in
    let b = c.loop-item.found.items in
    let rest = c.loop-item.rest.now in
    let one = c.in-Some.first.now in
    let behind = c.in-Some.behind.now in
    let split : rest ≡ one ∷ behind = search rules in
    let stays : is_left rs (item_view c.item-item.result) ≡ false = search rules in
    let own = item_parts (item_view c.item-item.result) (expansion_view one) (expansions_view behind) ps in
    let more = items_parts (without_decomposed rs (items_view (drop (i + 1) xs))) (expansions_view behind) ps in
    let here : IsLeft s all a now (own ++ more) b = subst (λ (qs : List ChoiceParts). IsLeft s all a now qs b) (left_at rs xs i c.item-item.result rest one behind ps c.loop-item-test.true c.item-item.is stays split) c.loop-item.invariant in
    left_judged s all a now own more b here

pub add_item-requires-clause-ready : goal.add_item-requires-clause-ready
add_item-requires-clause-ready c = c.loop-item.invariant.ready

pub loop-item-preserved : goal.loop-item-preserved
loop-item-preserved c =
    let s = c.args.tables.now in
    let a = c.args.found.now.items in
    let rs = c.args.decomposed.now in
    let xs = c.args.items.now in
    let ps = c.args.pairs.now in
    let all = items_parts (without_decomposed rs (items_view xs)) (expansions_view c.args.row.now) ps in
    let i = c.loop-item.item-index in
    let now = c.loop-item.tables in
    let b = c.loop-item.found.items in
    let rest = c.loop-item.rest.now in
    let one = c.in-Some.first.now in
    let behind = c.in-Some.behind.now in
    let split : rest ≡ one ∷ behind = search rules in
    let stays : is_left rs (item_view c.item-item.result) ≡ false = search rules in
    let own = item_parts (item_view c.item-item.result) (expansion_view one) (expansions_view behind) ps in
    let more = items_parts (without_decomposed rs (items_view (drop (i + 1) xs))) (expansions_view behind) ps in
    let here : IsLeft s all a now (own ++ more) b = subst (λ (qs : List ChoiceParts). IsLeft s all a now qs b) (left_at rs xs i c.item-item.result rest one behind ps c.loop-item-test.true c.item-item.is stays split) c.loop-item.invariant in
    left_step s all a now own more b c.add_item.new.tables c.add_item.new.found.items here c.in_ok-add_item.ensures

pub returns-in_default : goal.returns-in_default
returns-in_default c =
    let s = c.args.tables.now in
    let a = c.args.found.now.items in
    let rs = c.args.decomposed.now in
    let xs = c.args.items.now in
    let ps = c.args.pairs.now in
    let all = items_parts (without_decomposed rs (items_view xs)) (expansions_view c.args.row.now) ps in
    let i = c.loop-item.item-index in
    let now = c.loop-item.tables in
    let b = c.loop-item.found.items in
    let rest = c.loop-item.rest.now in
    let empty : length rest ≡ 0 = search rules in
    left_end s all a now b (subst (λ (qs : List ChoiceParts). IsLeft s all a now qs b) (items_none (without_decomposed rs (items_view (drop i xs))) rest ps empty) c.loop-item.invariant)

pub returns : goal.returns
returns c =
    let s = c.args.tables.now in
    let a = c.args.found.now.items in
    let rs = c.args.decomposed.now in
    let xs = c.args.items.now in
    let ps = c.args.pairs.now in
    let all = items_parts (without_decomposed rs (items_view xs)) (expansions_view c.args.row.now) ps in
    let i = c.loop-item.item-index in
    let now = c.loop-item.tables in
    let b = c.loop-item.found.items in
    let rest = c.loop-item.rest.now in
    left_end s all a now b (subst (λ (qs : List ChoiceParts). IsLeft s all a now qs b) (left_done rs xs i (expansions_view rest) ps c.loop-item-test.false) c.loop-item.invariant)
