-- What statements are woven to counts no more than they, its events have different numbers, and the charts that it names are linked.
use Rattle.std.proofs.Common.{◌≡◌, ℕ, suc, ◌≤◌, ◌+◌, List, [], ◌∷◌, ap, arith, refl}
use Rattle.chart_extents.specs.OwnExtents.{own_extent}
use Rattle.chart_forms.specs.ChartSizes.{events_size}
use Rattle.chart_forms.specs.TableSizes.{item_size, items_size, level_size, operands_size}
use Rattle.chart_links.specs.Links.{chart_links}
use Rattle.chart_text.specs.Texts.{Whole}
use Rattle.msc_instances.specs.Instances.{instances}
use Rattle.msc_tree.specs.declared.event.RawEvent.{RawEvent}
use Rattle.msc_tree.specs.Charts.{Basic, Chart}
use Rattle.msc_tree.specs.Statements.{Form, Statement, statements}
use Rattle.msc_tree.specs.Statements as tree
use Rattle.msc_meaning.specs.Bodies.{Body, ReferencePart, WovenItems, WovenItem, Coregion, Bodies}
use Rattle.msc_meaning.specs.LevelItems.{cover_of, level_items}
use Rattle.msc_meaning.specs.Levels.{AreWovenItems, AreWovenOperands, IsWovenItem, IsWovenLevel, a_coregion, a_reference, an_event, an_inline, no_woven, no_woven_operand, nodes_from, operand_number, woven, woven_and, woven_operand_and}
use Rattle.msc_meaning.specs.Pieces.{Piece, statements_pieces}
use Rattle.woven_laws.specs.NumberLaws.{WovenNumbersDiffer}
use Rattle.woven_laws.specs.BuiltCharts.{WovenChartsAreKnown, named_size, refinements_size}
use Rattle.woven_laws.proofs.DeclSizes.{refinements_within}
use Rattle.woven_laws.proofs.Refined.{chart_refined}
use Rattle.msc_meaning.specs.Tables.{refinements}
use Rattle.msc_meaning.specs.WovenTables.{chart_decls}
use Rattle.woven_laws.specs.JoinSums.{item_joins, items_joins, level_joins, operands_joins}
use Rattle.woven_laws.proofs.DrawnNames.{drawn_linked}
use Rattle.woven_laws.proofs.GraphSizes.{graph_light}
use Rattle.woven_laws.proofs.LinkedSizes.{chart_low, count}
use Rattle.woven_laws.proofs.PieceSizes.{at_size_is, different_size, inline_parts, level_low, lists_size, parts_size, pieces_size, sizes_at, statements_are}
use Rattle.woven_laws.proofs.WalkedSizes.{form_size, statements_walked}
use Rattle.woven_laws.proofs.WovenNames.{chart_linked}

-- what the charts that are named count, and what joins add
module _ (size_of : List ℕ → ℕ) (product : WovenItems → ReferencePart → ℕ) where
  abbrev own : List Piece → ℕ
  own ps = pieces_size (count size_of product) ps

  nodes_size : (whole : WovenItems) (n : ℕ) (at : List ℕ) (es : List RawEvent) → item_size size_of product whole (Coregion (nodes_from n at es)) ≡ 1 + events_size es
  nodes_size whole n at [] = refl
  nodes_size whole n at (e ∷ es) = omega (arith, nodes_size whole (suc n) at es)

  mutual
    body_light : {cover : List (List ℕ)} {ps : List Piece} (b : Body) → IsWovenLevel cover ps b → level_size size_of product b ≤ own ps + level_joins product b
    body_light {ps = ps} _ (woven {order = order} {held = held} o h p) =
        let here : items_size size_of product held held ≤ sizes_at (count size_of product) (level_items ps) order + items_joins product held held = items_light held (level_items ps) held h in
        let low : sizes_at (count size_of product) (level_items ps) order ≤ lists_size (count size_of product) (level_items ps) = different_size (count size_of product) (level_items ps) order o.once in
        omega (arith, here, low, level_low (count size_of product) ps)

    items_light : {cover : List (List ℕ)} {order : List ℕ} (whole : WovenItems) (all : List (List Piece)) (xs : WovenItems) → AreWovenItems cover all order xs
        → items_size size_of product whole xs ≤ sizes_at (count size_of product) all order + items_joins product whole xs
    items_light whole all _ (no_woven) = omega arith
    items_light whole all _ (woven_and {x = i} {order = order} {parts = parts} {item = x} {held = xs} at h g) =
        let here : item_size size_of product whole x ≤ own parts + item_joins product whole x = item_light whole x h in
        let rest : items_size size_of product whole xs ≤ sizes_at (count size_of product) all order + items_joins product whole xs = items_light whole all xs g in
        omega (arith, here, rest, at_size_is (count size_of product) all i parts at)

    item_light : {cover : List (List ℕ)} {parts : List Piece} (whole : WovenItems) (x : WovenItem) → IsWovenItem cover parts x → item_size size_of product whole x ≤ own parts + item_joins product whole x
    item_light whole _ (an_event {p = p} {e = e} is here) =
        let size : form_size (count size_of product) p.form ≡ form_size (count size_of product) (tree.Single e) = ap (form_size (count size_of product)) is in
        omega (arith, size)
    item_light whole _ (a_coregion {p = p} {at = at} {es = es} is here) =
        let size : form_size (count size_of product) p.form ≡ form_size (count size_of product) (tree.Coregion es) = ap (form_size (count size_of product)) is in
        omega (arith, size, nodes_size whole p.first at es)
    item_light whole _ (an_inline {cover = cover} {p = p} {ps = ps} {head = head} {operands = operands} {held = held} is h) =
        let here : operands_size size_of product held ≤ operand_number operands + parts_size (count size_of product) (cover_of cover p) (p ∷ ps) 0 (operand_number operands) + operands_joins product held = operands_light held h in
        omega (arith, here, inline_parts (count size_of product) (cover_of cover p) p ps head operands 0 (operand_number operands) is)
    item_light whole _ (a_reference {p = p} {r = r} is) =
        let size : form_size (count size_of product) p.form ≡ form_size (count size_of product) (tree.Refer r) = ap (form_size (count size_of product)) is in
        omega (arith, size)

    operands_light : {cover : List (List ℕ)} {parts : List Piece} {j m : ℕ} (bs : Bodies) → AreWovenOperands cover parts j m bs
        → operands_size size_of product bs ≤ m + parts_size (count size_of product) cover parts j m + operands_joins product bs
    operands_light _ (no_woven_operand) = omega arith
    operands_light _ (woven_operand_and {cover = cover} {parts = parts} {k = j} {n = n} {body = b} {others = bs} h g) =
        let here = body_light b h in
        let rest : operands_size size_of product bs ≤ n + parts_size (count size_of product) cover parts (suc j) n + operands_joins product bs = operands_light bs g in
        omega (arith, here, rest)

chart_light : (c : Chart) (held : List Statement) (b : Body) (size_of refining : List ℕ → ℕ) (product : WovenItems → ReferencePart → ℕ) → c.content ≡ Basic held → IsWovenLevel (instances c) (statements_pieces (instances c) 0 (statements held)) b
    → 2 + level_size size_of product b + refinements_size refining (refinements (chart_decls c)) ≤ (own_extent c).size + level_joins product b + named_size size_of refining (chart_links c)
chart_light c held b size_of refining product is h =
    let low = body_light size_of product b h in
    let walked = statements_walked (count size_of product) 0 Whole (statements held) in
    omega (arith, low, statements_are (count size_of product) (instances c) 0 (statements held), walked, chart_low size_of refining product c held is, refinements_within refining (chart_decls c))

pub woven_charts_are_known : WovenNumbersDiffer → WovenChartsAreKnown
woven_charts_are_known numbers = record {
  light = chart_light;
  drawn = λ c drawn size_of refining product is. graph_light size_of refining product c drawn is;
  once = λ names held b h. numbers names 0 (statements held) b h;
  named = chart_linked;
  nodes = drawn_linked;
  refined = chart_refined;
}
