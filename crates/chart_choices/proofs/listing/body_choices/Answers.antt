use Rattle.std.proofs.Common.{◌≡◌, ◌∙◌, [], List, rules, subst, sym}
use Rattle.msc_meaning.specs.ItemViews.{items_view}
use Rattle.msc_meaning.specs.Refinements.{without_decomposed}
use Rattle.msc_meaning.specs.Tables.{refinements}
use Rattle.msc_meaning.specs.Views.{body_view}
use Rattle.msc_meaning.specs.declared.body.Body.{out-Body}
use Rattle.expansion_tree.specs.Views.{expansion_view, expansions_view}
use Rattle.choice_parts.specs.ChoiceParts.{ChoiceParts, items_parts, level_parts}
use Rattle.chart_choices.specs.Making.{AreFound, AreJudged}
use Rattle.chart_choices.proofs.Steps.{walked_all}
use Rattle.chart_choices.proofs.WalkParts.{left_parts, whole_parts}
use Rattle.chart_choices.proofs.listing.body_choices.Goals as goal

pub add_level-requires-clause-judged : goal.add_level-requires-clause-judged
add_level-requires-clause-judged c =
    let rs = refinements c.args.decls.now in
    let none : rs ≡ [] = sym c.in_ok-decomposed.ensures ∙ c.is_empty.ensures.none c.if-is_empty.true in
    subst (λ (qs : List ChoiceParts). AreJudged c.args.tables.now.names c.args.tables.now.nets.labels qs) (whole_parts rs c.args.body.now (expansion_view c.args.expansion.now) none) c.requires.judged

pub returns-then-is_empty : goal.returns-then-is_empty
returns-then-is_empty c =
    let rs = refinements c.args.decls.now in
    let s = c.args.tables.now in
    let y = expansion_view c.args.expansion.now in
    let none : rs ≡ [] = sym c.in_ok-decomposed.ensures ∙ c.is_empty.ensures.none c.if-is_empty.true in
    let nothing : c.new-found.result.items ≡ [] = search rules in
    subst (λ (qs : List ChoiceParts). AreFound s.names s.nets.labels qs c.add_level.new.found.items) (sym (whole_parts rs c.args.body.now y none))
    (walked_all s c.add_level.new.tables (level_parts (body_view c.args.body.now) y) c.new-found.result.items c.add_level.new.found.items nothing c.in_ok-add_level.ensures)

pub add_left-requires-clause-judged : goal.add_left-requires-clause-judged
add_left-requires-clause-judged c =
    let rs = refinements c.args.decls.now in
    let y = expansion_view c.args.expansion.now in
    let some : rs ≡ [] → ⊥ = λ e. c.is_empty.ensures.some c.if-is_empty.false (c.in_ok-decomposed.ensures ∙ e) in
    let held : c.as_slice-items.result.now ≡ (out-Body c.args.body.now).items.items = search rules in
    let same = left_parts rs c.in_ok-decomposed.decomposed c.args.body.now y c.as_slice-items.result.now c.left_row_in-row.result.now c.pairs_in.result.now c.in_ok-decomposed.ensures some held c.left_row_in-row.ensures c.pairs_in.ensures in
    subst (λ (qs : List ChoiceParts). AreJudged c.args.tables.now.names c.args.tables.now.nets.labels qs) same c.requires.judged

pub returns : goal.returns
returns c =
    let rs = refinements c.args.decls.now in
    let s = c.args.tables.now in
    let y = expansion_view c.args.expansion.now in
    let some : rs ≡ [] → ⊥ = λ e. c.is_empty.ensures.some c.if-is_empty.false (c.in_ok-decomposed.ensures ∙ e) in
    let held : c.as_slice-items.result.now ≡ (out-Body c.args.body.now).items.items = search rules in
    let same = left_parts rs c.in_ok-decomposed.decomposed c.args.body.now y c.as_slice-items.result.now c.left_row_in-row.result.now c.pairs_in.result.now c.in_ok-decomposed.ensures some held c.left_row_in-row.ensures c.pairs_in.ensures in
    let nothing : c.new-found.result.items ≡ [] = search rules in
    subst (λ (qs : List ChoiceParts). AreFound s.names s.nets.labels qs c.add_left.new.found.items) (sym same)
    (walked_all s c.add_left.new.tables (items_parts (without_decomposed c.in_ok-decomposed.decomposed (items_view c.as_slice-items.result.now)) (expansions_view c.left_row_in-row.result.now) c.pairs_in.result.now) c.new-found.result.items c.add_left.new.found.items nothing c.in_ok-add_left.ensures)
