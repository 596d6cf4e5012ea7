-- What is said of the terms of nodes and of graphs, over the tables of now and all later ones.
use Rattle.std.specs.Prelude.{ℕ, ◌≡◌, ◌≤◌, true, List, [], ◌∷◌, length}
use Rattle.msc_base.specs.declared.label.LabelRef.{LabelRef}
use Rattle.msc_base.specs.Orders.{Once}
use Rattle.msc_unfolding.specs.Unfoldings.{Unfolding}
use Rattle.term_tables.specs.NetValues.{NetsValue}
use Rattle.chart_term.specs.Tables.{NetEntry}
use Rattle.chart_term.specs.Terms.{Tree, Nil}
use Rattle.term_laws.specs.FullSoundness.{AreSoundNets, IsSoundNode, IsFullySound}
use Rattle.term_laws.specs.Placing.{AreEventsPlaced, AreNetsPlaced}
use Rattle.term_meaning.specs.Extending.{IsPortionFromNow}
use Rattle.msc_tree.specs.Graphs.{Lines, no_lines, line_and, line}
use Rattle.msc_meaning.specs.ChartUnfoldings.{OfNode, OfWalk}
use Rattle.msc_meaning.specs.Tables.{Table}
use Rattle.graph_shapes.specs.GraphShapes.{is_end}

-- names and labels stand once, the nets are sound, and their events stand where their labels say
pub record AreFitTables (places : ℕ → List ℕ) (v : NetsValue) (names : List (List ℕ)) : Type 0 where
  pub once : Once names
  pub labels_once : Once v.labels
  pub nets : AreSoundNets (length v.labels) v.tables
  pub placed : AreNetsPlaced places v.tables

-- from now on the term means these unfoldings, finished as well as under way, and nothing is shown of it; its events have the numbers from
-- lo on below hi, and stand where their labels say; it is sound as the term of a node
pub record IsNodeTerm (places : ℕ → List ℕ) (v : NetsValue) (names : List (List ℕ)) (lo hi : ℕ) (x : Tree) (U : Unfolding → Type 0) : Type 0 where
  pub means : IsPortionFromNow v names lo hi [] x (λ o. U)
  pub sound : IsSoundNode (length v.labels) v.tables x
  pub placed : AreEventsPlaced places x

-- the terms of the nodes of these lines, one for each line; that of an end is Nil
abbrev pub AreNodeTerms : Table → (ℕ → List ℕ) → NetsValue → List (List ℕ) → ℕ → ℕ → List Tree → Lines → Type 0
AreNodeTerms table places v names lo hi [] no_lines = Unit {0}
AreNodeTerms table places v names lo hi [] (line_and x xs) = ⊥
AreNodeTerms table places v names lo hi (y ∷ ys) no_lines = ⊥
AreNodeTerms table places v names lo hi (y ∷ ys) (line_and (line label place node next) xs) =
    IsNodeTerm places v names lo hi y (OfNode table node) × (is_end node ≡ true → y ≡ Nil) × AreNodeTerms table places v names lo hi ys xs

-- over fit tables the terms mean what the nodes of these lines do
pub record AreFitNodes (table : Table) (places : ℕ → List ℕ) (v : NetsValue) (names : List (List ℕ)) (lo hi : ℕ) (nodes : List Tree) (lines : Lines) : Type 0 where
  pub tables : AreFitTables places v names
  pub order : lo ≤ hi
  pub are : AreNodeTerms table places v names lo hi nodes lines

-- the term of a judged graph: with `false` it means the finished walks, with `true` those under way too
pub record IsGraphTerm (table : Table) (places : ℕ → List ℕ) (v : NetsValue) (names : List (List ℕ)) (lo hi : ℕ) (x : Tree) (starts : List LabelRef) (lines : Lines) : Type 0 where
  pub means : IsPortionFromNow v names lo hi [] x (λ o. OfWalk table o lines starts)
  pub sound : IsFullySound (length v.labels) v.tables x
  pub placed : AreEventsPlaced places x

-- the tables with one net more
abbrev pub with_net : NetsValue → NetEntry → NetsValue
with_net v e = record v { tables = e ∷ v.tables }
