-- What the passages of a chart count with their references, and what the charts of their decompositions do, is no more than the chart by
-- itself and the charts of its links.
use Rattle.std.proofs.Common.{◌≡◌, ℕ, ◌≤◌, ◌+◌, Option, None, Some, List, [], ◌∷◌, ◌++◌, map, refl, ap, arith}
use Rattle.std.specs.List.{flat_map}
use Rattle.chart_extents.specs.OwnExtents.{own_extent}
use Rattle.chart_extents.specs.OwnExtents as extent
use Rattle.chart_forms.specs.ChartSizes.{content_size, passage_size}
use Rattle.chart_forms.specs.TableSizes.{expression_size, expressions_size}
use Rattle.chart_links.specs.Links.{Link, chart_links, decl_links, expression_links, passage_links, parts_links, refined_links, used_links}
use Rattle.chart_text.proofs.GatheringLaws.{summed_append}
use Rattle.chart_text.specs.Gathering.{summed}
use Rattle.chart_text.specs.Texts.{Passage, Scope, a_head, a_statement, an_item, an_operand, chart_text, content_text, covered_scope, own_scope}
use Rattle.msc_base.specs.declared.place.Place.{Place}
use Rattle.msc_meaning.specs.Bodies.{ReferencePart, WovenItems}
use Rattle.msc_tree.specs.Charts.{Basic, Chart, Content}
use Rattle.msc_tree.specs.Expressions.{Expression, Empty, Alt, Par, Seq, Opt, Loop, Expressions, none, more}
use Rattle.msc_tree.specs.Expressions as expression
use Rattle.msc_meaning.specs.WovenTables.{chart_decls, declares}
use Rattle.msc_tree.specs.Statements.{Single, Coregion, Condition, Inline, Refer, Stop, Statement, Column, Covered, Heading, Ended}
use Rattle.msc_tree.specs.declared.chart.Decl.{Decl}
use Rattle.woven_laws.specs.BuiltCharts.{named_size}
use Rattle.woven_laws.proofs.DeclSizes.{decls_on, decls_size, option_size}
use Rattle.woven_laws.proofs.WalkedSizes.{passage_count}

-- what the expression of a reference counts
abbrev pub count : (List ℕ → ℕ) → (WovenItems → ReferencePart → ℕ) → Expression → ℕ
count size_of product e = expression_size size_of product e

module _ (size_of refining : List ℕ → ℕ) (product : WovenItems → ReferencePart → ℕ) where
  pub named_on : (xs ys : List Link) → named_size size_of refining (xs ++ ys) ≡ named_size size_of refining xs + named_size size_of refining ys
  named_on [] ys = omega arith
  named_on (x ∷ xs) ys = omega (arith, named_on xs ys)

  mutual
    pub expression_counts : (place : Place) (scope : Scope) (depth : ℕ) (e : Expression) → count size_of product e ≡ extent.expression_size e + named_size size_of refining (expression_links place scope depth e)
    expression_counts place scope depth Empty = refl
    expression_counts place scope depth (expression.Chart name) = omega arith
    expression_counts place scope depth (Alt parts) = omega (arith, parts_count place scope (depth + 1) parts)
    expression_counts place scope depth (Par parts) = omega (arith, parts_count place scope (depth + 1) parts)
    expression_counts place scope depth (Seq parts) = omega (arith, parts_count place scope (depth + 1) parts)
    expression_counts place scope depth (Opt part) = omega (arith, expression_counts place scope (depth + 1) part)
    expression_counts place scope depth (Loop lower upper part) = omega (arith, expression_counts place scope (depth + 1) part)

    parts_count : (place : Place) (scope : Scope) (depth : ℕ) (xs : Expressions) → expressions_size size_of product xs ≡ extent.parts_size xs + named_size size_of refining (parts_links place scope depth xs)
    parts_count place scope depth none = refl
    parts_count place scope depth (more x xs) =
        let on : named_size size_of refining (expression_links place scope depth x ++ parts_links place scope depth xs) ≡ named_size size_of refining (expression_links place scope depth x) + named_size size_of refining (parts_links place scope depth xs)
        = named_on (expression_links place scope depth x) (parts_links place scope depth xs) in
        omega (arith, on, expression_counts place scope depth x, parts_count place scope depth xs)

  -- what the chart of a decomposition counts
  decl_linked : (d : Decl) → option_size refining d.refined ≡ named_size size_of refining (decl_links d)
  decl_linked d = by d.refined
    where
      by : (o : Option (List ℕ)) → option_size refining o ≡ named_size size_of refining (refined_links d.name d.place o)
      by None = refl
      by (Some chart) = omega arith

  passage_low : (p : Passage) → passage_count (count size_of product) p + decls_size refining (declares p) ≤ passage_size p + extent.passage_size p + named_size size_of refining (passage_links p)
  passage_low (a_head decl) = omega (arith, decl_linked decl)
  passage_low (a_statement depth scope (Column decl held)) = omega (arith, decl_linked decl)
  passage_low (a_statement depth scope (Covered cover held)) = omega arith
  passage_low (a_statement depth scope (Heading decl)) = omega (arith, decl_linked decl)
  passage_low (a_statement depth scope (Ended name)) = omega arith
  passage_low (an_item s place (Single e)) = omega arith
  passage_low (an_item s place (Coregion es)) = omega arith
  passage_low (an_item s place (Condition names shared)) = omega arith
  passage_low (an_item s place (Inline head held)) = omega arith
  passage_low (an_item s place (Refer r)) = omega (arith, expression_counts place (covered_scope s.scope (own_scope s.side) r.shared) (s.depth + 3) r.expression)
  passage_low (an_item s place Stop) = omega arith
  passage_low (an_operand s x) = omega arith

  text_low : (text : List Passage) → summed (passage_count (count size_of product)) text + decls_size refining (flat_map declares text) ≤ summed passage_size text + summed extent.passage_size text + named_size size_of refining (flat_map passage_links text)
  text_low [] = omega arith
  text_low (p ∷ text) =
      let on : named_size size_of refining (passage_links p ++ flat_map passage_links text) ≡ named_size size_of refining (passage_links p) + named_size size_of refining (flat_map passage_links text) = named_on (passage_links p) (flat_map passage_links text) in
      let more_decls = decls_on refining (declares p) (flat_map declares text) in
      omega (arith, on, more_decls, passage_low p, text_low text)

  pub chart_low : (c : Chart) (held : List Statement) → c.content ≡ Basic held → 2 + summed (passage_count (count size_of product)) (content_text (Basic held)) + decls_size refining (chart_decls c) ≤ (own_extent c).size + named_size size_of refining (chart_links c)
  chart_low c held is =
      let links : chart_links c ≡ flat_map passage_links (chart_text c) = ap (λ (x : Content). used_links x (flat_map passage_links (chart_text c))) is in
      let named : named_size size_of refining (chart_links c) ≡ named_size size_of refining (flat_map passage_links (chart_text c)) = ap (named_size size_of refining) links in
      let on = summed_append (passage_count (count size_of product)) (map a_head c.decls) (content_text c.content) in
      let same : summed (passage_count (count size_of product)) (content_text c.content) ≡ summed (passage_count (count size_of product)) (content_text (Basic held)) = ap (λ (x : Content). summed (passage_count (count size_of product)) (content_text x)) is in
      let low : summed (passage_count (count size_of product)) (chart_text c) + decls_size refining (chart_decls c) ≤ summed passage_size (chart_text c) + summed extent.passage_size (chart_text c) + named_size size_of refining (flat_map passage_links (chart_text c)) = text_low (chart_text c) in
      let own : content_size c.content (chart_text c) ≡ 2 + summed passage_size (chart_text c) = ap (λ (x : Content). content_size x (chart_text c)) is in
      omega (arith, named, on, same, low, own)
