-- What is asked of the graphs of a chart, and of the charts that it names, for its term to be sound.
use Rattle.std.specs.Prelude.{◌<◌, ℕ, zero, suc, List}
use Rattle.msc_base.specs.declared.limits.TheConstants.Limits.{EXPANDED_NESTING}
use Rattle.msc_tree.specs.Graphs.{graph}
use Rattle.graph_shapes.specs.GraphLists.{frames_in}
use Rattle.graph_shapes.specs.GraphShapes.{shape_of}
use Rattle.msc_meaning.specs.Tables.{Table, Woven, Basic, HighLevel}
use Rattle.expansion_order.specs.Ranks.{CanBeRanked}
use Rattle.expanded_terms.specs.GraphWalks.{IsWholeNet}
use Rattle.node_ranks.specs.NamedCharts.{HasEntry, IsNestedTo}
use Rattle.made_terms.specs.DrawnWalks.{AreEnding, IsEndingTo}
use Rattle.table_terms.specs.TableTerms.{numbered_chart}

-- of a high-level chart that is judged each label is that of one line, and a walk through each of its frames leads to an end
abbrev pub IsJudgedContent : Woven → Type 0
IsJudgedContent (Basic held) = Unit {0}
IsJudgedContent (HighLevel (graph starts lines)) = IsWholeNet (shape_of (graph starts lines)) × AreEnding (frames_in lines)

-- the chart is there, and the graphs of the charts that it names are ending
pub record HasJudgedEntry (table : Table) (P : List ℕ → Type 0) (name : List ℕ) : Type 0 where
  pub has : HasEntry table P name
  pub content : IsJudgedContent has.entry.content

-- they stand in each other less than so deep
abbrev pub IsJudgedTo : Table → ℕ → List ℕ → Type 0
IsJudgedTo table zero name = ⊥
IsJudgedTo table (suc depth) name = HasJudgedEntry table (IsEndingTo table depth) name

-- its graphs are so, and each chart that is nested less deep has events with ranks
pub record HasSoundGraphs (table : Table) (name : List ℕ) : Type 0 where
  pub judged : IsJudgedTo table EXPANDED_NESTING name
  pub nested : IsNestedTo table EXPANDED_NESTING name
  pub ranked : (depth : ℕ) (other : List ℕ) → depth < EXPANDED_NESTING → IsNestedTo table depth other → CanBeRanked (numbered_chart table other)
