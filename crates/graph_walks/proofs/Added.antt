-- The net of a graph that was added, and the walks through it.
use Rattle.std.specs.Prelude.{ℕ, suc, ◌≡◌, false, List, Option, Some, None, length, IfSome, IfNone}
use Rattle.std.proofs.Common.{ap, sym, ◌∙◌, refl, subst}
use Rattle.msc_base.specs.declared.label.LabelRef.{LabelRef}
use Rattle.hmsc_graph.specs.Graphs.{Net, End, Any}
use Rattle.chart_term.specs.Properties.{Each}
use Rattle.chart_term.specs.Tables.{NetEntry, net_count}
use Rattle.chart_term.specs.Terms.{Tree}
use Rattle.term_tables.specs.NetValues.{NetsValue}
use Rattle.term_laws.specs.FullSoundness.{fresh_walk}
use Rattle.term_permission.specs.Fresh.{IsUnreached}
use Rattle.term_permission.specs.Ready.{AreReadyTables, IsReady}
use Rattle.msc_tree.specs.Graphs.{Graph, graph, Lines, line_list}
use Rattle.term_meaning.specs.Extending.{as_it_is, one_more}
use Rattle.msc_meaning.specs.ChartUnfoldings.{OfWalk}
use Rattle.msc_meaning.specs.Tables.{Table}
use Rattle.graph_shapes.specs.GraphNets.{lines_of, IsNetOf}
use Rattle.graph_shapes.proofs.NetFacts.{sized}
use Rattle.graph_walks.specs.AddedNets.{IsAdded, IsJudgedTerm, IsClosedTerm, IsJudged, IsClosed, LeadsToNoEnd}
use Rattle.graph_walks.specs.GraphLaws.{IsLastNet, GraphTermsMean}
use Rattle.graph_walks.specs.NodeParts.{HaveGrown}
use Rattle.graph_walks.specs.NodeTerms.{AreFitNodes, IsNodeTerm, IsGraphTerm}

-- the tables stay ready
pub ready_added : (drawn : Graph) (nodes : List Tree) (v w : NetsValue) → AreReadyTables v.tables → Each (IsReady v.tables) nodes → length nodes ≡ length (line_list (lines_of drawn)) → IsAdded drawn nodes v w → AreReadyTables w.tables
ready_added drawn nodes v w tables ready many h =
    subst (λ (u : NetsValue). AreReadyTables u.tables) (sym h.is) (tables, ready, sized drawn h.net h.of_graph ∙ sym many)

-- there is one net more
pub counted_added : (drawn : Graph) (nodes : List Tree) (v w : NetsValue) → IsAdded drawn nodes v w → net_count w.tables ≡ suc (net_count v.tables)
counted_added drawn nodes v w h = ap (λ (u : NetsValue). net_count u.tables) h.is

last_net : (table : Table) (places : ℕ → List ℕ) (v : NetsValue) (names : List (List ℕ)) (lo hi : ℕ) (starts : List LabelRef) (lines : Lines) (g : Net) (nodes : List Tree) → IsNetOf starts lines g → AreFitNodes table places v names lo hi nodes lines
    → IsLastNet table places v names lo hi starts lines (record { net = g; nodes = nodes })
last_net table places v names lo hi starts lines g nodes n f = record { fit = f; net = n }

-- no walk to an end
pub closed_none : (drawn : Graph) (nodes : List Tree) (v w : NetsValue) (made : Option Tree) → IsAdded drawn nodes v w → made ≡ fresh_walk w.tables (net_count v.tables) End → (made ≡ None → IsUnreached w.tables (net_count v.tables) End)
    → IfNone made (LeadsToNoEnd drawn nodes v w)
closed_none drawn nodes v w None h e k = record { added = h; walk = sym e; none = k refl }
closed_none drawn nodes v w (Some x) h e k = tt

module _ (law : GraphTermsMean) where
  open_at : (drawn : Graph) (nodes : List Tree) (v w : NetsValue) (x : Tree) → IsAdded drawn nodes v w → fresh_walk w.tables (net_count v.tables) Any ≡ Some x
      → (table : Table) (places : ℕ → List ℕ) (names : List (List ℕ)) (lo hi : ℕ) → AreFitNodes table places v names lo hi nodes (lines_of drawn) → IsJudgedTerm table places w names lo hi x drawn
  open_at (graph starts lines) nodes v w x h walk table places names lo hi f =
      let e : NetEntry = record { net = h.net; nodes = nodes } in
      subst (λ (u : NetsValue). IsGraphTerm table places u names lo hi x starts lines) (sym h.is)
      (law.under_way table places v names lo hi starts lines e x (last_net table places v names lo hi starts lines h.net nodes h.of_graph f)
      (subst (λ (u : NetsValue). fresh_walk u.tables (net_count v.tables) Any ≡ Some x) h.is walk))

  pub judged_made : (drawn : Graph) (nodes : List Tree) (v w : NetsValue) (x : Tree) → IsAdded drawn nodes v w → fresh_walk w.tables (net_count v.tables) Any ≡ Some x → IsJudged drawn nodes v w x
  judged_made drawn nodes v w x h walk = record { added = h; walk = walk; means = open_at drawn nodes v w x h walk }

  closed_at : (drawn : Graph) (nodes : List Tree) (v w : NetsValue) (x : Tree) → IsAdded drawn nodes v w → fresh_walk w.tables (net_count v.tables) End ≡ Some x
      → (table : Table) (places : ℕ → List ℕ) (names : List (List ℕ)) (lo hi : ℕ) → AreFitNodes table places v names lo hi nodes (lines_of drawn) → IsClosedTerm table places w names lo hi x drawn
  closed_at (graph starts lines) nodes v w x h walk table places names lo hi f =
      let e : NetEntry = record { net = h.net; nodes = nodes } in
      subst (λ (u : NetsValue). IsNodeTerm places u names lo hi x (OfWalk table false lines starts)) (sym h.is)
      (law.closed table places v names lo hi starts lines e x (last_net table places v names lo hi starts lines h.net nodes h.of_graph f)
      (subst (λ (u : NetsValue). fresh_walk u.tables (net_count v.tables) End ≡ Some x) h.is walk))

  pub closed_made : (drawn : Graph) (nodes : List Tree) (v w : NetsValue) (x : Tree) → IsAdded drawn nodes v w → fresh_walk w.tables (net_count v.tables) End ≡ Some x → IsClosed drawn nodes v w x
  closed_made drawn nodes v w x h walk = record { added = h; walk = walk; means = closed_at drawn nodes v w x h walk }

  -- the walk to an end, where there is one
  pub closed_some : (drawn : Graph) (nodes : List Tree) (v w : NetsValue) (made : Option Tree) → IsAdded drawn nodes v w → made ≡ fresh_walk w.tables (net_count v.tables) End → IfSome made (IsClosed drawn nodes v w)
  closed_some drawn nodes v w None h e = tt
  closed_some drawn nodes v w (Some x) h e = closed_made drawn nodes v w x h (sym e)

  -- the tables stay fit
  pub grown_added : (drawn : Graph) (nodes : List Tree) (v w : NetsValue) → IsAdded drawn nodes v w → (table : Table) (places : ℕ → List ℕ) (names : List (List ℕ)) (lo hi : ℕ) → AreFitNodes table places v names lo hi nodes (lines_of drawn) → HaveGrown places v w names
  grown_added (graph starts lines) nodes v w h table places names lo hi f =
      let e : NetEntry = record { net = h.net; nodes = nodes } in
      subst (λ (u : NetsValue). HaveGrown places v u names) (sym h.is)
      (record { labels = refl; tables = one_more e as_it_is; fit = law.tables table places v names lo hi starts lines e (last_net table places v names lo hi starts lines h.net nodes h.of_graph f) })
