-- The terms of charts are those of their expansions.
use Rattle.std.specs.Prelude.{◌≡◌, ◌+◌, ℕ, List}
use Rattle.chart_term.specs.Terms.{Tree}
use Rattle.msc_meaning.specs.Bodies.{WovenItems}
use Rattle.msc_meaning.specs.FarEnds.{GateMap}
use Rattle.msc_meaning.specs.InnerEvents.{GateEnd}
use Rattle.msc_meaning.specs.Tables.{Table}
use Rattle.msc_tree.specs.Graphs.{Lines}
use Rattle.expanded_charts.specs.Expanding.{NumberedEvent, expand_charts, expand_lines}
use Rattle.expansion_terms.specs.ExpansionTerms.{expansion_term, part_terms}
use Rattle.expanded_terms.specs.ExpandedTerms.{Leaves, charts_to, lines_terms}
use Rattle.expanded_terms.specs.NetWeights.{held_in, held_to}

-- the term of an event
abbrev pub event_by : Leaves → NumberedEvent → Tree
event_by leaves e = leaves.event e.number e.happening

-- a chart's term is the term of its expansion, at any depth, wherever its gates lead; the same tags are still to be seen, and it takes as
-- many numbers
pub record ExpansionsHaveTerms : Type 0 where
  pub term : (leaves : Leaves) (ends_of : WovenItems → List GateEnd) (table : Table) (depth : ℕ) (name : List ℕ) (gates : GateMap) (n : ℕ)
      → expansion_term (event_by leaves) leaves.walk (expand_charts ends_of table depth name gates n).part ≡ (charts_to leaves ends_of table depth).term name gates n
  -- and the terms of the nodes of a graph are those of what its lines come to
  pub lines : (leaves : Leaves) (ends_of : WovenItems → List GateEnd) (table : Table) (depth : ℕ) (n : ℕ) (held : Lines)
      → part_terms (event_by leaves) leaves.walk (expand_lines (expand_charts ends_of table depth) ends_of n held).parts ≡ lines_terms (charts_to leaves ends_of table depth) leaves ends_of n held
  pub shown : (leaves : Leaves) (ends_of : WovenItems → List GateEnd) (table : Table) (depth : ℕ) (name : List ℕ) (gates : GateMap) (n : ℕ)
      → (expand_charts ends_of table depth name gates n).shown ≡ (charts_to leaves ends_of table depth).shown name n
  pub next : (leaves : Leaves) (ends_of : WovenItems → List GateEnd) (table : Table) (depth : ℕ) (name : List ℕ) (gates : GateMap) (n : ℕ)
      → (expand_charts ends_of table depth name gates n).next ≡ n + (charts_to leaves ends_of table depth).count name

-- what the walks of a chart's expansion hold is what those of its text hold
pub record ExpansionsHold : Type 0 where
  pub held : (leaves : Leaves) (ends_of : WovenItems → List GateEnd) (table : Table) (depth : ℕ) (name : List ℕ) (gates : GateMap) (n : ℕ)
      → held_in (event_by leaves) leaves.walk (expand_charts ends_of table depth name gates n).part ≡ held_to leaves ends_of table depth name gates n
