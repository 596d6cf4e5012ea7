-- What a graph counts in a table is what its text counts by itself, and the charts of its links.
use Rattle.std.proofs.Common.{◌≡◌, ℕ, ◌≤◌, ◌+◌, List, [], ◌∷◌, ◌++◌, map, refl, ap, ◌∙◌, arith}
use Rattle.std.specs.List.{flat_map}
use Rattle.std.proofs.lemmas.Grind.{flat_map-append}
use Rattle.chart_extents.specs.OwnExtents.{own_extent}
use Rattle.chart_extents.specs.OwnExtents as extent
use Rattle.chart_forms.specs.ChartSizes.{content_size, part_size}
use Rattle.chart_forms.specs.TableSizes.{graph_size, graphs_size, line_size, lines_size, node_size}
use Rattle.chart_links.specs.Links.{Link, chart_links, expression_links, part_links, passage_links, used_links}
use Rattle.chart_text.specs.Gathering.{summed}
use Rattle.chart_text.specs.Texts.{Whole, chart_text}
use Rattle.graph_text.proofs.GraphLaws.{summed_both}
use Rattle.graph_text.specs.GraphGathering.{summed_parts}
use Rattle.graph_text.specs.GraphTexts.{GraphPart, frames_parts, graph_parts, graph_text, line_parts, lines_parts, node_parts}
use Rattle.msc_meaning.specs.Bodies.{ReferencePart, WovenItems}
use Rattle.msc_tree.specs.Charts.{Chart, Content, HighLevel}
use Rattle.msc_tree.specs.Graphs.{Graph, graph, Lines, no_lines, line_and, Line, line, Node, Ends, Connect, Condition, Refer, Frames, Graphs, no_graphs, graph_and}
use Rattle.woven_laws.specs.BuiltCharts.{named_size}
use Rattle.woven_laws.proofs.LinkedSizes.{expression_counts, named_on}

module _ (size_of refining : List ℕ → ℕ) (product : WovenItems → ReferencePart → ℕ) where
  -- what parts of a graph count, with the charts that they name
  abbrev count_of : List GraphPart → ℕ
  count_of ps = summed_parts part_size ps + summed_parts extent.part_size ps + named_size size_of refining (flat_map part_links ps)

  count_both : (xs ys : List GraphPart) → count_of (xs ++ ys) ≡ count_of xs + count_of ys
  count_both xs ys =
      let links : named_size size_of refining (flat_map part_links (xs ++ ys)) ≡ named_size size_of refining (flat_map part_links xs) + named_size size_of refining (flat_map part_links ys) =
      ap (named_size size_of refining) (flat_map-append part_links xs ys) ∙ named_on size_of refining product (flat_map part_links xs) (flat_map part_links ys) in
      omega (arith, summed_both part_size xs ys, summed_both extent.part_size xs ys, links)

  mutual
    graph_counts : (depth : ℕ) (g : Graph) → graph_size size_of product g ≡ count_of (graph_parts depth g)
    graph_counts depth (graph starts held) = omega (arith, lines_count (depth + 2) held)

    lines_count : (depth : ℕ) (xs : Lines) → lines_size size_of product xs ≡ count_of (lines_parts depth xs)
    lines_count depth no_lines = refl
    lines_count depth (line_and x xs) = omega (arith, line_counts depth x, lines_count depth xs, count_both (line_parts depth x) (lines_parts depth xs))

    line_counts : (depth : ℕ) (x : Line) → line_size size_of product x ≡ count_of (line_parts depth x)
    line_counts depth (line label place Ends next) = omega arith
    line_counts depth (line label place Connect next) = omega arith
    line_counts depth (line label place (Condition names) next) = omega arith
    line_counts depth (line label place (Refer e) next) = omega (arith, expression_counts size_of refining product place Whole depth e, named_on size_of refining product (expression_links place Whole depth e) [])
    line_counts depth (line label place (Frames held) next) = omega (arith, frames_count (depth + 2) held)

    frames_count : (depth : ℕ) (xs : Graphs) → graphs_size size_of product xs ≡ count_of (frames_parts depth xs)
    frames_count depth no_graphs = refl
    frames_count depth (graph_and x xs) = omega (arith, graph_counts depth x, frames_count depth xs, count_both (graph_parts depth x) (frames_parts depth xs))

  pub graph_light : (c : Chart) (drawn : Graph) → c.content ≡ HighLevel drawn → graph_size size_of product drawn ≤ (own_extent c).size + named_size size_of refining (chart_links c)
  graph_light c drawn is =
      let links : named_size size_of refining (chart_links c) ≡ named_size size_of refining (flat_map part_links (graph_parts 0 drawn)) = ap (λ (x : Content). named_size size_of refining (used_links x (flat_map passage_links (chart_text c)))) is in
      let own : content_size c.content (chart_text c) ≡ summed_parts part_size (graph_parts 0 drawn) = ap (λ (x : Content). content_size x (chart_text c)) is in
      let nodes : summed_parts extent.part_size (graph_text c.content) ≡ summed_parts extent.part_size (graph_parts 0 drawn) = ap (λ (x : Content). summed_parts extent.part_size (graph_text x)) is in
      omega (arith, graph_counts 0 drawn, links, own, nodes)
