-- What joins between two gates add to the sizes of charts: counted on the charts as they are gathered, whatever rules on gates they break,
-- and told up to a number above all limits.
use Rattle.std.specs.Prelude.{◌≡◌, ℕ, suc, min, true, false, List, [], ◌∷◌, map}
use Rattle.chart_forms.specs.TiedTexts.{are_tied}
use Rattle.gate_ends.specs.FoundEnds.{AreAll, GateEvents, GoesTo, inner_to}
use Rattle.gate_ends.specs.JoinCounts.{levels_count}
use Rattle.gate_tables.specs.GateFacts.{most_counted}
use Rattle.level_gathering.specs.GatheredCharts.{AreGathered}
use Rattle.msc_meaning.specs.BodyLevels.{body_levels}
use Rattle.msc_meaning.specs.Tables.{ChartEntry, Table, Woven, Basic, HighLevel}
use Rattle.msc_tree.specs.Charts.{Chart}
use Rattle.msc_tree.specs.Statements.{Reference}

-- of what a chart is gathered to, with the references of its levels
abbrev pub content_joins : (List ℕ → List ℕ → GateEvents) → Woven → List (List Reference) → ℕ
content_joins inner (Basic body) references = levels_count inner (body_levels body) references
content_joins inner (HighLevel drawn) references = 0

-- of each chart
abbrev pub table_joins : (List ℕ → List ℕ → GateEvents) → Table → List (List (List Reference)) → List ℕ
table_joins inner [] references = []
table_joins inner (c ∷ table) [] = []
table_joins inner (c ∷ table) (r ∷ references) = min (content_joins inner c.content r) most_counted ∷ table_joins inner table references

-- nothing, where no join of the charts ties two gates; else what is counted, at a depth within which references end
pub data AreJoinSizes (charts : List Chart) (sizes : List ℕ) : Type 0 where
  untied : are_tied charts ≡ false → sizes ≡ [] → AreJoinSizes charts sizes
  tied : (table : Table) (references : List (List (List Reference))) (depth : ℕ) → are_tied charts ≡ true → AreGathered charts table references → AreAll (GoesTo table (suc depth)) (map (λ (c : ChartEntry). c.name) table)
      → sizes ≡ table_joins (inner_to table (suc depth)) table references → AreJoinSizes charts sizes
