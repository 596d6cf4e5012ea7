-- The laws of what joins add to the sizes of charts.
use Rattle.std.specs.Prelude.{◌≡◌, ◌≤◌, ℕ, List, Some, slice_get, slice_index_or}
use Rattle.gate_ends.specs.FoundEnds.{inner_to}
use Rattle.gate_ends.specs.JoinCounts.{reference_count}
use Rattle.join_sizes.specs.JoinSizes.{AreJoinSizes}
use Rattle.msc_base.specs.declared.limits.TheConstants.Limits.{TOTAL_SIZE}
use Rattle.msc_instances.specs.Instances.{instances}
use Rattle.msc_meaning.specs.Bodies.{Body}
use Rattle.msc_meaning.specs.Tables.{Basic, ChartEntry, Table}
use Rattle.msc_meaning.specs.WovenTables.{AreEntriesOf}
use Rattle.msc_tree.specs.Charts.{Chart}
use Rattle.woven_laws.specs.JoinSums.{level_joins}

-- there is one list of what joins add; and what is told of a chart, where it is within the limit of the sum, is no less than what the joins of
-- the body that the chart is woven to add, counted in the table of what the charts are woven to, at any depth
pub record JoinSizesAreKnown : Type 0 where
  pub one : (charts : List Chart) (sizes others : List ℕ) → AreJoinSizes charts sizes → AreJoinSizes charts others → sizes ≡ others
  pub enough : (charts : List Chart) (table : Table) (sizes : List ℕ) (i : ℕ) (c : Chart) (e : ChartEntry) (b : Body) (depth : ℕ) → AreJoinSizes charts sizes → AreEntriesOf instances charts table
      → slice_get charts i ≡ Some c → slice_get table i ≡ Some e → e.content ≡ Basic b → slice_index_or sizes i 0 ≤ TOTAL_SIZE → level_joins (reference_count (inner_to table depth)) b ≤ slice_index_or sizes i 0
