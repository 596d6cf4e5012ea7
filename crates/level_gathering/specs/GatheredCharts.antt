-- What charts are gathered to: a table in which the gates of charts can be looked up, and the references of each level.
use Rattle.std.specs.Prelude.{◌≡◌, ℕ, List, [], ◌∷◌}
use Rattle.msc_tree.specs.Charts.{Chart}
use Rattle.msc_tree.specs.Charts as tree
use Rattle.msc_tree.specs.Graphs.{Graph}
use Rattle.msc_tree.specs.Statements.{Reference, Statement, statements}
use Rattle.msc_instances.specs.Instances.{instances}
use Rattle.msc_meaning.specs.Bodies.{Body, level, no_items}
use Rattle.msc_meaning.specs.Pieces.{statements_pieces}
use Rattle.msc_meaning.specs.Tables.{ChartEntry, Table, Basic}
use Rattle.level_gathering.specs.Gathered.{IsGatheredLevel}

-- what a chart is gathered to, and the references of each level, as body_levels has them; a graph has no gates, and none are looked for
pub data IsGatheredChart (chart : Chart) : Body → List (List Reference) → Type 0 where
  a_basic : {body : Body} {references : List (List Reference)} (held : List Statement) → chart.content ≡ tree.Basic held
      → IsGatheredLevel (instances chart) (statements_pieces (instances chart) 0 (statements held)) body references → IsGatheredChart chart body references
  a_graph : (drawn : Graph) → chart.content ≡ tree.HighLevel drawn → IsGatheredChart chart (level [] no_items []) ([] ∷ [])

abbrev pub gathered_entry : List ℕ → Body → ChartEntry
gathered_entry name body = record { name = name; decls = []; content = Basic body }

-- of each chart, in their order
pub data AreGathered : List Chart → Table → List (List (List Reference)) → Type 0 where
  no_chart : AreGathered [] [] []
  chart_and : {chart : Chart} {charts : List Chart} {body : Body} {table : Table} {references : List (List Reference)} {others : List (List (List Reference))}
      → IsGatheredChart chart body references → AreGathered charts table others → AreGathered (chart ∷ charts) (gathered_entry chart.name body ∷ table) (references ∷ others)
