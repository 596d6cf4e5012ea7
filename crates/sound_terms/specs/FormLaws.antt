-- What is seen by form: that a tie names each number once, that all numbers are in the tables, that a walk stays within its graph.
use Rattle.std.specs.Prelude.{ℕ, ◌<◌, ◌≡◌, true, List, None, length}
use Rattle.hmsc_graph.specs.Graphs.{Net, Spot, Start, Goal, End, WalkThrough}
use Rattle.msc_base.specs.Lists.{IsIn}
use Rattle.hmsc_graph.specs.Nets.{IsNet, size_of}
use Rattle.hmsc_graph.specs.Walks.{IsFirstEndless}
use Rattle.term_tables.specs.Fitting.{fits}
use Rattle.term_tables.specs.NetValues.{NetsValue}
use Rattle.chart_term.specs.NormalForms.{numbers}
use Rattle.chart_term.specs.Tables.{Tables}
use Rattle.chart_term.specs.TermPatterns.{Both, InPairs}
use Rattle.chart_term.specs.Terms.{Tree, Tied}
use Rattle.term_laws.specs.FullSoundness.{AreNumbersKnown, AreTiesOnce}
use Rattle.term_laws.specs.OneResidual.{AreOnce}
use Rattle.term_laws.specs.Soundness.{AreTidyTables, IsTidyOver, NetLacks, IsOutside}

-- where a term has no number twice, a tie over it whose numbers are outside loops and nets has each of them once in any pattern
pub record TiesByForm : Type 0 where
  pub once : (w : Tables) (x : Tree) (q : List (ℕ × ℕ)) → AreTidyTables w → IsTidyOver w x → AreTiesOnce w x → AreOnce (numbers x) → ((j : ℕ) → InPairs j q → IsOutside (NetLacks w) j x) → AreTiesOnce w (Tied x q)

-- the test of the numbers of a term says yes exactly where all are known
pub record FitsIsKnown : Type 0 where
  pub exact : (v : NetsValue) (x : Tree) → Both (fits v x ≡ true) (AreNumbersKnown (length v.labels) v.tables x)

-- a walk passes nodes of its graph alone; where no node is endless, a walk leads from the start to an end, if there is a first node
pub record WalksStayWithin : Type 0 where
  pub within : (g : Net) (passed all : List ℕ) (f : Spot) (t : Goal) → IsNet g → ((m : ℕ) → m < size_of g → IsIn m all) → WalkThrough g passed f t → WalkThrough g all f t
  pub ends : (g : Net) (all : List ℕ) (m : ℕ) → IsNet g → ((k : ℕ) → k < size_of g → IsIn k all) → IsFirstEndless g None → IsIn m g.starts → WalkThrough g all Start End
