-- The laws of walks through the net of a graph.
use Rattle.std.specs.Prelude.{ℕ, ◌≡◌, false, Bool, List, ◌∷◌, Some, None}
use Rattle.msc_base.specs.declared.label.LabelRef.{LabelRef}
use Rattle.msc_base.specs.Orders.{Once}
use Rattle.msc_unfolding.specs.Unfoldings.{Unfolding}
use Rattle.hmsc_graph.specs.Graphs.{Net, Start, End, Any}
use Rattle.hmsc_graph.specs.Walks.{IsFirstEndless}
use Rattle.term_tables.specs.NetValues.{NetsValue}
use Rattle.chart_term.specs.Tables.{NetEntry, net_count}
use Rattle.chart_term.specs.TermPatterns.{Both}
use Rattle.chart_term.specs.Terms.{Tree}
use Rattle.term_laws.specs.FullSoundness.{fresh_walk}
use Rattle.term_meaning.specs.Meanings.{Means}
use Rattle.term_meaning.specs.UnfoldingSets.{AreOnWalk}
use Rattle.msc_tree.specs.Graphs.{graph, Lines}
use Rattle.msc_meaning.specs.ChartUnfoldings.{OfWalk}
use Rattle.msc_meaning.specs.Meanings.{Finished, Begun}
use Rattle.msc_meaning.specs.Tables.{Table, ChartEntry, chart_at, HighLevel}
use Rattle.graph_shapes.specs.GraphNets.{IsNetOf}
use Rattle.graph_walks.specs.LineUnfoldings.{OfLine}
use Rattle.graph_walks.specs.NodeTerms.{AreFitNodes, AreFitTables, IsNodeTerm, IsGraphTerm, with_net}

-- the walks of the text, finished or under way, are those of the net from the start to anywhere; the finished ones are those to an end
pub record TextWalksNet : Type 0 where
  pub any : (table : Table) (starts : List LabelRef) (lines : Lines) (g : Net) → IsNetOf starts lines g → (o : Bool) (u : Unfolding) → Both (OfWalk table o lines starts u) (AreOnWalk g o (OfLine table lines) Start Any u)
  pub to_end : (table : Table) (starts : List LabelRef) (lines : Lines) (g : Net) → IsNetOf starts lines g → (o : Bool) (u : Unfolding) → Both (OfWalk table false lines starts u) (AreOnWalk g o (OfLine table lines) Start End u)

-- what is asked of the net that was added last, and of the tables below it
pub record IsLastNet (table : Table) (places : ℕ → List ℕ) (v : NetsValue) (names : List (List ℕ)) (lo hi : ℕ) (starts : List LabelRef) (lines : Lines) (e : NetEntry) : Type 0 where
  pub fit : AreFitNodes table places v names lo hi e.nodes lines
  pub net : IsNetOf starts lines e.net

-- the tables with that net are fit; the walk to an end is the term of a node that means the finished walks, and it is there where no node
-- is endless; the walk to anywhere is the term of the judged graph; and where a chart has the graph it means the chart
pub record GraphTermsMean : Type 0 where
  pub tables : (table : Table) (places : ℕ → List ℕ) (v : NetsValue) (names : List (List ℕ)) (lo hi : ℕ) (starts : List LabelRef) (lines : Lines) (e : NetEntry) → IsLastNet table places v names lo hi starts lines e
      → AreFitTables places (with_net v e) names
  pub closed : (table : Table) (places : ℕ → List ℕ) (v : NetsValue) (names : List (List ℕ)) (lo hi : ℕ) (starts : List LabelRef) (lines : Lines) (e : NetEntry) (x : Tree) → IsLastNet table places v names lo hi starts lines e
      → fresh_walk (e ∷ v.tables) (net_count v.tables) End ≡ Some x → IsNodeTerm places (with_net v e) names lo hi x (OfWalk table false lines starts)
  pub there : (table : Table) (places : ℕ → List ℕ) (v : NetsValue) (names : List (List ℕ)) (lo hi : ℕ) (start : LabelRef) (starts : List LabelRef) (lines : Lines) (e : NetEntry) → IsLastNet table places v names lo hi (start ∷ starts) lines e
      → IsFirstEndless e.net None → (x : Tree) × (fresh_walk (e ∷ v.tables) (net_count v.tables) End ≡ Some x)
  pub under_way : (table : Table) (places : ℕ → List ℕ) (v : NetsValue) (names : List (List ℕ)) (lo hi : ℕ) (starts : List LabelRef) (lines : Lines) (e : NetEntry) (x : Tree) → IsLastNet table places v names lo hi starts lines e
      → fresh_walk (e ∷ v.tables) (net_count v.tables) Any ≡ Some x → IsGraphTerm table places (with_net v e) names lo hi x starts lines
  pub judged : (table : Table) (places : ℕ → List ℕ) (v : NetsValue) (names : List (List ℕ)) (lo hi : ℕ) (x : Tree) (starts : List LabelRef) (lines : Lines) (name : List ℕ) (entry : ChartEntry)
      → Once v.labels → chart_at table name ≡ Some entry → entry.content ≡ HighLevel (graph starts lines) → IsGraphTerm table places v names lo hi x starts lines → Means v names x (Finished table name) (Begun table name)
