-- What the charts of an accepted document have.
use Rattle.std.specs.List.{flat_map, list_any}
use Rattle.std.specs.Prelude.{◌≡◌, ◌≤◌, ⊤, ℕ, zero, suc, Bool, List, [], ◌∷◌, ◌++◌, Some, fold, length, map}
use Rattle.std.specs.Str.{bytes_eq}
use Rattle.chart_cycles.specs.Cycles.{AreOrdered}
use Rattle.chart_forms.specs.BodyEvents.{events_within}
use Rattle.chart_forms.specs.BuiltBodies.{IsBuiltBody}
use Rattle.chart_forms.specs.TableSizes.{counted_size}
use Rattle.formed_graphs.specs.FormedGraphs.{IsFormedGraph}
use Rattle.gate_ends.specs.FoundEnds.{AreAll, level_names}
use Rattle.gate_ends.specs.LevelGates.{items_in}
use Rattle.gate_rules.specs.GateLaws.{HasGates}
use Rattle.general_ordering.specs.EventNames.{BreaksNameRule, Twice}
use Rattle.graph_rules.specs.GraphRules.{AreLabelled, HasEndlessLine, HaveFewLines, InGraphs, graphs_to_end}
use Rattle.graph_shapes.specs.GraphLists.{graphs_in}
use Rattle.msc_base.specs.Lists.{AreDifferent}
use Rattle.msc_base.specs.NameTables.{with_name}
use Rattle.msc_base.specs.Orders.{Once}
use Rattle.msc_base.specs.declared.limits.TheConstants.Limits.{EXPANDED_NESTING, EXPANDED_SIZE, INSTANCES}
use Rattle.msc_base.specs.declared.place.Place.{Place}
use Rattle.msc_meaning.specs.Bodies.{Body, EventNode}
use Rattle.msc_meaning.specs.BodyLevels.{BodyLevel, EachLevel, body_levels}
use Rattle.msc_meaning.specs.Levels.{IsWovenLevel}
use Rattle.msc_meaning.specs.Pieces.{Piece}
use Rattle.msc_meaning.specs.Tables.{ChartEntry, Table, Woven, Basic, HighLevel, Refinement, chart_at, refinements}
use Rattle.msc_tree.specs.Graphs.{Graph}
use Rattle.msc_tree.specs.declared.chart.Decl.{Decl}
use Rattle.woven_laws.specs.GraphNames.{graph_names}
use Rattle.chart_lists.specs.Listing.{content_instances, cover_of}

-- ---- one chart

-- a body with only forms that are built, at its instances
pub record IsAcceptedBody (body : Body) : Type 0 where
  pub built : IsBuiltBody (cover_of body) body
  -- it is what a level is woven to
  pub pieces : List Piece
  pub woven : IsWovenLevel (cover_of body) pieces body
  -- no two of its events, at any depth, have one number, and none has the name of an earlier one of its level
  pub once : Once (map (λ (n : EventNode). n.number) (events_within body))
  pub named_once : (place : Place) → BreaksNameRule Twice body place → ⊥

-- a graph at which walks start, which has few lines, and each label of which is that of one line; so it is of its frames
pub record IsAcceptedGraph (drawn : Graph) : Type 0 where
  pub formed : IsFormedGraph drawn
  pub few : HaveFewLines (graphs_in drawn)
  pub labelled : AreLabelled (graphs_in drawn)

abbrev pub IsAcceptedContent : Woven → Type 0
IsAcceptedContent (Basic body) = IsAcceptedBody body
IsAcceptedContent (HighLevel drawn) = IsAcceptedGraph drawn

abbrev pub IsAcceptedChart : ChartEntry → Type 0
IsAcceptedChart c = IsAcceptedContent c.content

-- ---- charts together

abbrev pub EachChart : (ChartEntry → Type 0) → Table → Type 0
EachChart P [] = ⊤
EachChart P (c ∷ table) = P c × EachChart P table

-- the charts that a chart references, or the nodes of its graph name
abbrev pub content_names : Woven → List (List ℕ)
content_names (Basic body) = level_names body
content_names (HighLevel drawn) = graph_names drawn

-- its decomposed instances: the heads of a high-level chart have no use
abbrev pub used_refinements : List Decl → Woven → List Refinement
used_refinements decls (Basic body) = refinements decls
used_refinements decls (HighLevel drawn) = []

-- the charts that it names: those, and those that refine its instances
abbrev pub named_charts : ChartEntry → List (List ℕ)
named_charts c = content_names c.content ++ map (λ (r : Refinement). r.chart) (used_refinements c.decls c.content)

-- whether a chart of the table names that of the name
abbrev pub is_named : Table → List ℕ → Bool
is_named table name = list_any (bytes_eq name) (flat_map named_charts table)

-- the graphs of a chart in which each walk is to come to an end: frames, and its own graph, where charts name it
abbrev pub woven_ending : Bool → Woven → List Graph
woven_ending named (Basic body) = []
woven_ending named (HighLevel drawn) = graphs_to_end named drawn

-- the chart of that name is there, and so are those that it names
pub record HasNamed (table : Table) (IsThere : List ℕ → Type 0) (name : List ℕ) : Type 0 where
  pub chart : ChartEntry
  pub is : chart_at table name ≡ Some chart
  pub named : AreAll IsThere (named_charts chart)

-- they stand in each other less than so deep
abbrev pub IsThereTo : Table → ℕ → List ℕ → Type 0
IsThereTo table zero name = ⊥
IsThereTo table (suc depth) name = HasNamed table (IsThereTo table depth) name

-- the instances of all charts, each once, behind these
abbrev pub table_instances : List (List ℕ) → Table → List (List ℕ)
table_instances seen [] = seen
table_instances seen (c ∷ table) = table_instances (fold with_name seen (content_instances c.content)) table

-- the levels of a chart
abbrev pub content_levels : Woven → List BodyLevel
content_levels (Basic body) = body_levels body
content_levels (HighLevel drawn) = []

-- the charts are accepted one by one and have different names; each chart that is named is there, the called gates of each level have one
-- end, each expansion has an order and is within the limits, and from each line that walks reach they can come to an end, where they are to
pub record IsAcceptedTable (table : Table) : Type 0 where
  pub charts : EachChart IsAcceptedChart table
  pub different : AreDifferent (map (λ (c : ChartEntry). c.name) table)
  pub few_instances : length (table_instances [] table) ≤ INSTANCES
  pub there : EachChart (λ c. IsThereTo table EXPANDED_NESTING c.name) table
  pub gates : EachChart (λ c. EachLevel (λ l. HasGates table (items_in l.body)) (content_levels c.content)) table
  pub small : EachChart (λ c. counted_size table c.name ≤ EXPANDED_SIZE) table
  pub ordered : AreOrdered table EXPANDED_NESTING table
  pub ending : EachChart (λ c. (place : Place) → InGraphs HasEndlessLine (woven_ending (is_named table c.name) c.content) place → ⊥) table
