-- Charts of a table whose events can happen in an order, with all charts that they name.
use Rattle.std.specs.Prelude.{Bool, true, false, ℕ, List, [], ◌∷◌}
use Rattle.msc_meaning.specs.Tables.{Table, ChartEntry}
use Rattle.expansion_order.specs.Ranks.{CanBeRanked}
use Rattle.expanded_charts.specs.Expanding.{expansion}
use Rattle.expanded_charts.specs.Numbering.{numbered_by, numbering_of}
use Rattle.gate_ends.specs.FoundEnds.{table_ends}

-- the events of the chart's expansion have ranks; the references of its charts stand in each other less than so deep
abbrev pub IsOrdered : Table → ℕ → List ℕ → Type 0
IsOrdered table depth name = CanBeRanked (numbered_by (numbering_of (expansion (table_ends table) table depth name)) (expansion (table_ends table) table depth name))

-- so it is of each of these charts
abbrev pub AreOrdered : Table → ℕ → List ChartEntry → Type 0
AreOrdered table depth [] = Unit {0}
AreOrdered table depth (c ∷ charts) = IsOrdered table depth c.name × AreOrdered table depth charts

-- whether the chart's order is cyclic
abbrev pub TellsCycle : Table → ℕ → ChartEntry → Bool → Type 0
TellsCycle table depth c true = IsOrdered table depth c.name → ⊥
TellsCycle table depth c false = IsOrdered table depth c.name

-- for each of these charts
abbrev pub TellCycles : Table → ℕ → List ChartEntry → List Bool → Type 0
TellCycles table depth [] [] = Unit {0}
TellCycles table depth [] (b ∷ told) = ⊥
TellCycles table depth (c ∷ charts) [] = ⊥
TellCycles table depth (c ∷ charts) (b ∷ told) = TellsCycle table depth c b × TellCycles table depth charts told
