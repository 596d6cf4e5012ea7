use Rattle.std.proofs.Common.{◌≡◌, ◌∙◌, ◌+◌, ◌∷◌, ◌++◌, List, OnOk, ap, drop, length, rules, subst, sym}
use Rattle.std.proofs.lemmas.Result.{on_ok_weaker}
use Rattle.general_ordering.proofs.ViewFacts.{coregion_is, reference_is, single_is}
use Rattle.msc_meaning.specs.Bodies as body
use Rattle.msc_meaning.specs.ItemViews.{bodies_view, inline_view, items_view}
use Rattle.msc_meaning.specs.Views.{body_view, item_view}
use Rattle.msc_meaning.specs.declared.body.Body.{Body}
use Rattle.msc_meaning.specs.declared.body.InlineItem.{out-InlineItem}
use Rattle.msc_meaning.specs.declared.body.Item.TheViews.{the_lemmas}
use Rattle.expansion_tree.specs.Views.{expansion_view, expansions_view}
use Rattle.choice_parts.specs.ChoiceParts.{ChoiceParts, item_parts, items_parts, level_parts, operands_parts, own_parts, part_behind}
use Rattle.chart_choices.specs.Making.{AreJudged, IsWalked}
use Rattle.chart_choices.proofs.Steps.{IsLeft, left_end, left_judged, left_start, left_step, walked_none}
use Rattle.chart_choices.proofs.WalkParts.{inline_parts, items_at, items_end, items_none, level_items, operands_at, operands_end, operands_none}
use Rattle.chart_choices.proofs.walk.+walk.Goals as goal

-- ---- an item

pub add_item-returns-in-Single : goal.add_item-returns-in-Single
add_item-returns-in-Single t c =
    subst (λ (x : body.WovenItem). IsWalked c.args.tables.now c.args.tables.now (item_parts x (expansion_view c.args.part.now) (expansions_view c.args.behind.now) c.args.pairs.now) c.args.found.now.items c.args.found.now.items)
    (sym (ap item_view c.in-Single.is ∙ single_is _)) (walked_none c.args.tables.now c.args.found.now.items c.requires.ready)

pub add_item-returns-in-Coregion : goal.add_item-returns-in-Coregion
add_item-returns-in-Coregion t c =
    subst (λ (x : body.WovenItem). IsWalked c.args.tables.now c.args.tables.now (item_parts x (expansion_view c.args.part.now) (expansions_view c.args.behind.now) c.args.pairs.now) c.args.found.now.items c.args.found.now.items)
    (sym (ap item_view c.in-Coregion.is ∙ coregion_is _)) (walked_none c.args.tables.now c.args.found.now.items c.requires.ready)

pub add_item-returns-in-Reference : goal.add_item-returns-in-Reference
add_item-returns-in-Reference t c =
    subst (λ (x : body.WovenItem). IsWalked c.args.tables.now c.args.tables.now (item_parts x (expansion_view c.args.part.now) (expansions_view c.args.behind.now) c.args.pairs.now) c.args.found.now.items c.args.found.now.items)
    (sym (ap item_view c.in-Reference.is ∙ reference_is _)) (walked_none c.args.tables.now c.args.found.now.items c.requires.ready)

-- ---- an inline expression

pub add_inline-add_own-requires-clause-judged : goal.add_inline-add_own-requires-clause-judged
add_inline-add_own-requires-clause-judged t c =
    let s = c.args.tables.now in
    let a = c.args.found.now.items in
    let i = c.args.inline.now in
    let ys = expansions_view c.args.behind.now in
    let ps = c.args.pairs.now in
    let all = item_parts (inline_view i) (expansion_view c.args.part.now) ys ps in
    let ops = c.operands_in-operands.result.now in
    let own = own_parts (out-InlineItem i).form (out-InlineItem i).place (expansions_view ops) (part_behind ys ps) in
    let rest = operands_parts (bodies_view (out-InlineItem i).operands.items) (expansions_view ops) in
    let begun : IsLeft s all a s (own ++ rest) a = subst (λ (qs : List ChoiceParts). IsLeft s all a s qs a) (inline_parts i (expansion_view c.args.part.now) ops ys ps c.operands_in-operands.ensures) (left_start s all a c.requires.ready c.requires.judged) in
    left_judged s all a s own rest a begun

pub add_inline-add_operands-requires : goal.add_inline-add_operands-requires
add_inline-add_operands-requires t c =
    let s = c.args.tables.now in
    let a = c.args.found.now.items in
    let i = c.args.inline.now in
    let ys = expansions_view c.args.behind.now in
    let ps = c.args.pairs.now in
    let all = item_parts (inline_view i) (expansion_view c.args.part.now) ys ps in
    let ops = c.operands_in-operands.result.now in
    let own = own_parts (out-InlineItem i).form (out-InlineItem i).place (expansions_view ops) (part_behind ys ps) in
    let rest = operands_parts (bodies_view (out-InlineItem i).operands.items) (expansions_view ops) in
    let begun : IsLeft s all a s (own ++ rest) a = subst (λ (qs : List ChoiceParts). IsLeft s all a s qs a) (inline_parts i (expansion_view c.args.part.now) ops ys ps c.operands_in-operands.ensures) (left_start s all a c.requires.ready c.requires.judged) in
    let left : IsLeft s all a c.add_own.new.tables rest c.add_own.new.found.items = left_step s all a s own rest a c.add_own.new.tables c.add_own.new.found.items begun c.in_ok-add_own.ensures in
    let same : c.as_slice.result.now ≡ (out-InlineItem i).operands.items = search rules in
    (search (rules, the_lemmas), (subst (λ (bs : List Body). AreJudged c.add_own.new.tables.names c.add_own.new.tables.nets.labels (operands_parts (bodies_view bs) (expansions_view ops))) (sym same) left.judged, left.ready))

pub add_inline-returns : goal.add_inline-returns
add_inline-returns t c =
    let s = c.args.tables.now in
    let a = c.args.found.now.items in
    let i = c.args.inline.now in
    let ys = expansions_view c.args.behind.now in
    let ps = c.args.pairs.now in
    let all = item_parts (inline_view i) (expansion_view c.args.part.now) ys ps in
    let ops = c.operands_in-operands.result.now in
    let own = own_parts (out-InlineItem i).form (out-InlineItem i).place (expansions_view ops) (part_behind ys ps) in
    let rest = operands_parts (bodies_view (out-InlineItem i).operands.items) (expansions_view ops) in
    let begun : IsLeft s all a s (own ++ rest) a = subst (λ (qs : List ChoiceParts). IsLeft s all a s qs a) (inline_parts i (expansion_view c.args.part.now) ops ys ps c.operands_in-operands.ensures) (left_start s all a c.requires.ready c.requires.judged) in
    let left : IsLeft s all a c.add_own.new.tables rest c.add_own.new.found.items = left_step s all a s own rest a c.add_own.new.tables c.add_own.new.found.items begun c.in_ok-add_own.ensures in
    let same : c.as_slice.result.now ≡ (out-InlineItem i).operands.items = search rules in
    on_ok_weaker c.add_operands.result (left.whole c.add_operands.new.tables c.add_operands.new.found.items)
    (subst (λ (bs : List Body). OnOk c.add_operands.result (IsWalked c.add_own.new.tables c.add_operands.new.tables (operands_parts (bodies_view bs) (expansions_view ops)) c.add_own.new.found.items c.add_operands.new.found.items)) same c.add_operands.ensures)

-- ---- a level

pub add_level-add_items-requires : goal.add_level-add_items-requires
add_level-add_items-requires t c =
    let xs = c.as_slice-items.result.now in
    let row = c.row_in.result.now in
    let ps = c.pairs_in.result.now in
    let same = level_items c.args.body.now (expansion_view c.args.part.now) xs row ps (search rules) c.row_in.ensures c.pairs_in.ensures in
    (search (rules, the_lemmas), (subst (λ (qs : List ChoiceParts). AreJudged c.args.tables.now.names c.args.tables.now.nets.labels qs) same c.requires.judged, c.requires.ready))

pub add_level-returns : goal.add_level-returns
add_level-returns t c =
    let xs = c.as_slice-items.result.now in
    let row = c.row_in.result.now in
    let ps = c.pairs_in.result.now in
    let same = level_items c.args.body.now (expansion_view c.args.part.now) xs row ps (search rules) c.row_in.ensures c.pairs_in.ensures in
    subst (λ (qs : List ChoiceParts). OnOk c.add_items.result (IsWalked c.args.tables.now c.add_items.new.tables qs c.args.found.now.items c.add_items.new.found.items)) (sym same) c.add_items.ensures

-- ---- items

pub add_items-loop-item-init : goal.add_items-loop-item-init
add_items-loop-item-init t c = left_start c.args.tables.now (items_parts (items_view c.args.items.now) (expansions_view c.args.row.now) c.args.pairs.now) c.args.found.now.items c.requires.ready c.requires.judged

pub add_items-add_item-requires : goal.add_items-add_item-requires
add_items-add_item-requires t c =
    let s = c.args.tables.now in
    let a = c.args.found.now.items in
    let xs = c.args.items.now in
    let ps = c.args.pairs.now in
    let all = items_parts (items_view xs) (expansions_view c.args.row.now) ps in
    let i = c.loop-item.item-index in
    let now = c.loop-item.tables in
    let b = c.loop-item.found.items in
    let rest = c.loop-item.rest.now in
    let one = c.in-Some.first.now in
    let behind = c.in-Some.behind.now in
    let split : rest ≡ one ∷ behind = search rules in
    let own = item_parts (item_view c.item-item.result) (expansion_view one) (expansions_view behind) ps in
    let more = items_parts (items_view (drop (i + 1) xs)) (expansions_view behind) ps in
    let here : IsLeft s all a now (own ++ more) b = subst (λ (qs : List ChoiceParts). IsLeft s all a now qs b) (items_at xs i c.item-item.result rest one behind ps c.loop-item-test.true c.item-item.is split) c.loop-item.invariant in
    (search (rules, the_lemmas), (left_judged s all a now own more b here, c.loop-item.invariant.ready))

pub add_items-loop-item-preserved : goal.add_items-loop-item-preserved
add_items-loop-item-preserved t c =
    let s = c.args.tables.now in
    let a = c.args.found.now.items in
    let xs = c.args.items.now in
    let ps = c.args.pairs.now in
    let all = items_parts (items_view xs) (expansions_view c.args.row.now) ps in
    let i = c.loop-item.item-index in
    let now = c.loop-item.tables in
    let b = c.loop-item.found.items in
    let rest = c.loop-item.rest.now in
    let one = c.in-Some.first.now in
    let behind = c.in-Some.behind.now in
    let split : rest ≡ one ∷ behind = search rules in
    let own = item_parts (item_view c.item-item.result) (expansion_view one) (expansions_view behind) ps in
    let more = items_parts (items_view (drop (i + 1) xs)) (expansions_view behind) ps in
    let here : IsLeft s all a now (own ++ more) b = subst (λ (qs : List ChoiceParts). IsLeft s all a now qs b) (items_at xs i c.item-item.result rest one behind ps c.loop-item-test.true c.item-item.is split) c.loop-item.invariant in
    left_step s all a now own more b c.add_item.new.tables c.add_item.new.found.items here c.in_ok-add_item.ensures

pub add_items-returns-in_default : goal.add_items-returns-in_default
add_items-returns-in_default t c =
    let s = c.args.tables.now in
    let a = c.args.found.now.items in
    let xs = c.args.items.now in
    let ps = c.args.pairs.now in
    let all = items_parts (items_view xs) (expansions_view c.args.row.now) ps in
    let i = c.loop-item.item-index in
    let now = c.loop-item.tables in
    let b = c.loop-item.found.items in
    let rest = c.loop-item.rest.now in
    let empty : length rest ≡ 0 = search rules in
    left_end s all a now b (subst (λ (qs : List ChoiceParts). IsLeft s all a now qs b) (items_none (items_view (drop i xs)) rest ps empty) c.loop-item.invariant)

pub add_items-returns : goal.add_items-returns
add_items-returns t c =
    let s = c.args.tables.now in
    let a = c.args.found.now.items in
    let xs = c.args.items.now in
    let ps = c.args.pairs.now in
    let all = items_parts (items_view xs) (expansions_view c.args.row.now) ps in
    let i = c.loop-item.item-index in
    let now = c.loop-item.tables in
    let b = c.loop-item.found.items in
    let rest = c.loop-item.rest.now in
    left_end s all a now b (subst (λ (qs : List ChoiceParts). IsLeft s all a now qs b) (items_end xs i (expansions_view rest) ps c.loop-item-test.false) c.loop-item.invariant)

-- ---- operands

pub add_operands-loop-body-init : goal.add_operands-loop-body-init
add_operands-loop-body-init t c = left_start c.args.tables.now (operands_parts (bodies_view c.args.bodies.now) (expansions_view c.args.parts.now)) c.args.found.now.items c.requires.ready c.requires.judged

pub add_operands-add_level-requires : goal.add_operands-add_level-requires
add_operands-add_level-requires t c =
    let s = c.args.tables.now in
    let a = c.args.found.now.items in
    let bs = c.args.bodies.now in
    let all = operands_parts (bodies_view bs) (expansions_view c.args.parts.now) in
    let i = c.loop-body.body-index in
    let now = c.loop-body.tables in
    let b = c.loop-body.found.items in
    let rest = c.loop-body.rest.now in
    let one = c.in-Some.part.now in
    let behind = c.in-Some.others.now in
    let split : rest ≡ one ∷ behind = search rules in
    let own = level_parts (body_view c.body-item.result) (expansion_view one) in
    let more = operands_parts (bodies_view (drop (i + 1) bs)) (expansions_view behind) in
    let here : IsLeft s all a now (own ++ more) b = subst (λ (qs : List ChoiceParts). IsLeft s all a now qs b) (operands_at bs i c.body-item.result rest one behind c.loop-body-test.true c.body-item.is split) c.loop-body.invariant in
    (search (rules, the_lemmas), (left_judged s all a now own more b here, c.loop-body.invariant.ready))

pub add_operands-loop-body-preserved : goal.add_operands-loop-body-preserved
add_operands-loop-body-preserved t c =
    let s = c.args.tables.now in
    let a = c.args.found.now.items in
    let bs = c.args.bodies.now in
    let all = operands_parts (bodies_view bs) (expansions_view c.args.parts.now) in
    let i = c.loop-body.body-index in
    let now = c.loop-body.tables in
    let b = c.loop-body.found.items in
    let rest = c.loop-body.rest.now in
    let one = c.in-Some.part.now in
    let behind = c.in-Some.others.now in
    let split : rest ≡ one ∷ behind = search rules in
    let own = level_parts (body_view c.body-item.result) (expansion_view one) in
    let more = operands_parts (bodies_view (drop (i + 1) bs)) (expansions_view behind) in
    let here : IsLeft s all a now (own ++ more) b = subst (λ (qs : List ChoiceParts). IsLeft s all a now qs b) (operands_at bs i c.body-item.result rest one behind c.loop-body-test.true c.body-item.is split) c.loop-body.invariant in
    left_step s all a now own more b c.add_level.new.tables c.add_level.new.found.items here c.in_ok-add_level.ensures

pub add_operands-returns-in_default : goal.add_operands-returns-in_default
add_operands-returns-in_default t c =
    let s = c.args.tables.now in
    let a = c.args.found.now.items in
    let bs = c.args.bodies.now in
    let all = operands_parts (bodies_view bs) (expansions_view c.args.parts.now) in
    let i = c.loop-body.body-index in
    let now = c.loop-body.tables in
    let b = c.loop-body.found.items in
    let rest = c.loop-body.rest.now in
    let empty : length rest ≡ 0 = search rules in
    left_end s all a now b (subst (λ (qs : List ChoiceParts). IsLeft s all a now qs b) (operands_none (bodies_view (drop i bs)) rest empty) c.loop-body.invariant)

pub add_operands-returns : goal.add_operands-returns
add_operands-returns t c =
    let s = c.args.tables.now in
    let a = c.args.found.now.items in
    let bs = c.args.bodies.now in
    let all = operands_parts (bodies_view bs) (expansions_view c.args.parts.now) in
    let i = c.loop-body.body-index in
    let now = c.loop-body.tables in
    let b = c.loop-body.found.items in
    let rest = c.loop-body.rest.now in
    left_end s all a now b (subst (λ (qs : List ChoiceParts). IsLeft s all a now qs b) (operands_end bs i (expansions_view rest) c.loop-body-test.false) c.loop-body.invariant)
