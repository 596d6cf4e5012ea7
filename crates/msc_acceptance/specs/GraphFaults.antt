-- The graphs of all charts, and those in which each walk is to come to an end: frames, and the graphs of charts to which charts refer
-- (Z.120, clause 7.5).
use Rattle.std.specs.Prelude.{ℕ, Bool, List, map}
use Rattle.std.specs.List.{flat_map, list_any}
use Rattle.std.specs.Str.{bytes_eq}
use Rattle.chart_links.specs.Links.{chart_links, linked}
use Rattle.graph_rules.specs.GraphRules.{content_graphs, ending_graphs}
use Rattle.msc_tree.specs.Charts.{Chart}
use Rattle.msc_tree.specs.Graphs.{Graph}

-- those of the charts, with the frames of their nodes
abbrev pub charts_graphs : List Chart → List Graph
charts_graphs charts = flat_map (λ (c : Chart). content_graphs c.content) charts

-- the names by which charts name charts: in references, in nodes, and in decompositions
abbrev pub linked_names : List Chart → List (List ℕ)
linked_names charts = flat_map (λ (c : Chart). map linked (chart_links c)) charts

-- whether one of the charts refers to that of the name
abbrev pub is_referred : List Chart → List ℕ → Bool
is_referred charts name = list_any (bytes_eq name) (linked_names charts)

-- those in which each walk is to come to an end, where charts of these names are referred to
abbrev pub graphs_ending : (List ℕ → Bool) → List Chart → List Graph
graphs_ending referred charts = flat_map (λ (c : Chart). ending_graphs (referred c.name) c.content) charts
