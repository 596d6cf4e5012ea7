-- What is known of the charts that are well formed, name no other instances and create none that may not be, and of what any basic chart is
-- woven to.
use Rattle.std.specs.Prelude.{◌≡◌, ◌≤◌, ◌+◌, ℕ, List, [], ◌∷◌, map}
use Rattle.chart_extents.specs.OwnExtents.{own_extent}
use Rattle.chart_forms.specs.BodyEvents.{events_within}
use Rattle.chart_forms.specs.BuiltBodies.{IsBuiltBody}
use Rattle.chart_forms.specs.TableSizes.{graph_size, level_size}
use Rattle.chart_links.specs.Links.{Link, Refers, Refines, chart_links, depth_of, linked}
use Rattle.chart_text.specs.WellFormed.{IsWellFormed}
use Rattle.creation_rules.specs.Creating.{ChartCreatesTwice}
use Rattle.gate_ends.specs.FoundEnds.{level_names}
use Rattle.msc_base.specs.Lists.{IsAmong}
use Rattle.msc_base.specs.Orders.{Once}
use Rattle.msc_base.specs.declared.place.Place.{Place}
use Rattle.msc_instances.specs.Instances.{instances}
use Rattle.msc_instances.specs.NameFaults.{ChartNamesOther}
use Rattle.msc_meaning.specs.Bodies.{Body, EventNode, ReferencePart, WovenItems}
use Rattle.msc_meaning.specs.Levels.{IsWovenLevel}
use Rattle.msc_meaning.specs.Pieces.{statements_pieces}
use Rattle.msc_meaning.specs.Tables.{Refinement, refinements}
use Rattle.msc_meaning.specs.WovenTables.{chart_decls}
use Rattle.msc_tree.specs.Charts.{Basic, Chart, HighLevel}
use Rattle.msc_tree.specs.Graphs.{Graph}
use Rattle.msc_tree.specs.Statements.{Statement, statements}
use Rattle.woven_laws.specs.GraphNames.{graph_names}
use Rattle.woven_laws.specs.JoinSums.{level_joins}

-- what the statements of a chart, where they are well formed, name no others and create none that may not be, are woven to is built at its
-- instances
pub record BuiltChartsAreKnown : Type 0 where
  pub built : (c : Chart) (held : List Statement) (b : Body) → c.content ≡ Basic held → IsWellFormed c → ((p : Place) → ChartNamesOther c p → ⊥) → ((p : Place) → ChartCreatesTwice c p → ⊥)
      → IsWovenLevel (instances c) (statements_pieces (instances c) 0 (statements held)) b → IsBuiltBody (instances c) b

-- a link names the chart, below its own
pub record IsLinked (links : List Link) (name : List ℕ) : Type 0 where
  pub link : Link
  pub says : IsAmong links link
  pub is : linked link ≡ name
  pub deep : 2 ≤ depth_of link

-- what the charts of links count together, those of references and those that refine instances each by its own count
module _ (referred refining : List ℕ → ℕ) where
  abbrev pub link_size : Link → ℕ
  link_size (Refers chart place scope depth) = referred chart
  link_size (Refines instance chart place) = refining chart

  abbrev pub named_size : List Link → ℕ
  named_size [] = 0
  named_size (link ∷ links) = link_size link + named_size links

-- what the charts that refine instances count together
abbrev pub refinements_size : (List ℕ → ℕ) → List Refinement → ℕ
refinements_size refining [] = 0
refinements_size refining (r ∷ rs) = refining r.chart + refinements_size refining rs

-- what statements are woven to, with the charts that refine instances, is no larger than they with what joins add, whatever the charts count
-- that are named, and a graph is no larger than its text; the numbers of the events of statements, at any depth, differ; and the charts that
-- they or the nodes of a graph name, and those that refine instances, are those of the text's links
pub record WovenChartsAreKnown : Type 0 where
  pub light : (c : Chart) (held : List Statement) (b : Body) (size_of refining : List ℕ → ℕ) (product : WovenItems → ReferencePart → ℕ) → c.content ≡ Basic held → IsWovenLevel (instances c) (statements_pieces (instances c) 0 (statements held)) b
      → 2 + level_size size_of product b + refinements_size refining (refinements (chart_decls c)) ≤ (own_extent c).size + level_joins product b + named_size size_of refining (chart_links c)
  pub drawn : (c : Chart) (drawn : Graph) (size_of refining : List ℕ → ℕ) (product : WovenItems → ReferencePart → ℕ) → c.content ≡ HighLevel drawn → graph_size size_of product drawn ≤ (own_extent c).size + named_size size_of refining (chart_links c)
  pub once : (names : List (List ℕ)) (held : List Statement) (b : Body) → IsWovenLevel names (statements_pieces names 0 (statements held)) b → Once (map (λ (n : EventNode). n.number) (events_within b))
  pub named : (c : Chart) (held : List Statement) (b : Body) → c.content ≡ Basic held → IsWovenLevel (instances c) (statements_pieces (instances c) 0 (statements held)) b
      → (name : List ℕ) → IsAmong (level_names b) name → IsLinked (chart_links c) name
  pub nodes : (c : Chart) (drawn : Graph) → c.content ≡ HighLevel drawn → (name : List ℕ) → IsAmong (graph_names drawn) name → IsLinked (chart_links c) name
  pub refined : (c : Chart) (held : List Statement) → c.content ≡ Basic held → (r : Refinement) → IsAmong (refinements (chart_decls c)) r → IsLinked (chart_links c) r.chart
