-- Walks through graphs: one under way, and one that ends.
use Rattle.std.proofs.Common.{◌≡◌, false, [], ◌∷◌, codes, refl, inr}
use Rattle.msc_base.specs.Orders.{first, later}
use Rattle.msc_unfolding.specs.Unfoldings.{Unfolding}
use Rattle.msc_tree.specs.Expressions.{Chart}
use Rattle.msc_tree.specs.Graphs.{graph}
use Rattle.msc_meaning.specs.ChartUnfoldings.{OfExpression, OfWoven, OfWalk, of_level, no_item, item_then, single, chart, of_body, of_graph, stops, ends, goes, end_node, refer}
use Rattle.msc_meaning.specs.FarEnds.{no_gates}
use Rattle.msc_meaning.specs.InnerEvents.{no_ends}
use Rattle.msc_meaning.specs.Meanings.{Finished, Open}
use Rattle.msc_meaning.specs.Tables.{Basic, HighLevel}
use Rattle.msc_meaning.specs.WorkedCharts as worked
use Rattle.msc_meaning.specs.WorkedLaws.{EndlessUnfolds, WalkUnderWayStopsEarly, WalkUnfolds, LaterNodeFirstConforms, a_received}
use Rattle.msc_meaning.specs.WorkedParts.{to}
use Rattle.msc_meaning.proofs.Showing.{Derived, at_entry, drawn, only_one, none_at_all, run, run_of, in_finished}

-- ---- a graph that never ends

-- a walk that stops after two nodes
abbrev under_way : Derived (Open worked.endless (codes "H"))
under_way = record {
  of = _;
  is = record {
    chart = _;
    is = refl;
    starts = _;
    lines = _;
    drawn = refl;
    walks =
        goes first first (refer (chart refl (of_body (of_level no_ends (item_then single (item_then single no_item))))))
        (goes first first (refer (chart refl (of_body (of_level no_ends (item_then single (item_then single no_item)))))) stops);
  };
}

never_ends : {u : Unfolding} → OfWalk worked.endless false worked.endless_lines worked.endless_starts u → ⊥
never_ends (ends first (later a)) = elim a [ ]
never_ends (ends (later b) a) = elim b [ ]
never_ends (goes first first x w) = never_ends w
never_ends (goes first (later a) x w) = elim a [ ]
never_ends (goes (later b) a x w) = elim b [ ]

not_finished : (u : Unfolding) → Finished worked.endless (codes "H") u → ⊥
not_finished u f = no_walk (in_finished worked.endless (codes "H") _ refl u f)
  where
    no_walk : {u : Unfolding} → OfWoven worked.endless no_gates [] (HighLevel (graph worked.endless_starts worked.endless_lines)) u → ⊥
    no_walk (of_graph w) = never_ends w

pub endless_unfolds : EndlessUnfolds
endless_unfolds = none_at_all not_finished

pub walk_under_way_stops_early : WalkUnderWayStopsEarly
walk_under_way_stops_early = record {
  begins = record { rest = a_received ∷ []; runs = run_of _ under_way.of (0 ∷ 1 ∷ 2 ∷ 3 ∷ []) _ (inr under_way.is) refl refl };
  unfinished = λ c. not_finished c.of c.is;
}

-- ---- a graph of two nodes

abbrev p_chart : Derived (OfExpression worked.two_nodes no_gates (Chart (codes "P")))
p_chart = record { of = _; is = chart refl (of_body (of_level no_ends (item_then single no_item))) }

abbrev q_chart : Derived (OfExpression worked.two_nodes no_gates (Chart (codes "Q")))
q_chart = record { of = _; is = chart refl (of_body (of_level no_ends (item_then single no_item))) }

abbrev walked : Derived (Finished worked.two_nodes (codes "K"))
walked = record {
  of = _;
  is = record {
    chart = _;
    is = refl;
    unfolds = of_graph
        (goes first first (refer (chart refl (of_body (of_level no_ends (item_then single no_item)))))
        (goes first (later first) (refer (chart refl (of_body (of_level no_ends (item_then single no_item)))))
        (ends first (later (later first)))));
  };
}

p_only : {v : Unfolding} → OfExpression worked.two_nodes no_gates (Chart (codes "P")) v → v ≡ p_chart.of
p_only {v} (chart {entry = c} e s) = only (at_entry worked.two_nodes (codes "P") _ no_gates refl c v e s)
  where
    only : {v : Unfolding} → OfWoven worked.two_nodes no_gates [] (Basic worked.p_body) v → v ≡ p_chart.of
    only (of_body (of_level no_ends (item_then single no_item))) = refl

q_only : {v : Unfolding} → OfExpression worked.two_nodes no_gates (Chart (codes "Q")) v → v ≡ q_chart.of
q_only {v} (chart {entry = c} e s) = only (at_entry worked.two_nodes (codes "Q") _ no_gates refl c v e s)
  where
    only : {v : Unfolding} → OfWoven worked.two_nodes no_gates [] (Basic worked.q_body) v → v ≡ q_chart.of
    only (of_body (of_level no_ends (item_then single no_item))) = refl

pub later_node_first_conforms : LaterNodeFirstConforms
later_node_first_conforms = run walked (1 ∷ 0 ∷ []) refl refl

walk_only : {u : Unfolding} → OfWalk worked.two_nodes false worked.node_lines (to (codes "L1") ∷ []) u → u ≡ walked.of
walk_only (goes first first (refer x) (goes first (later first) (refer y) (ends first (later (later first))))) = let e : _ ≡ p_chart.of = p_only x in let f : _ ≡ q_chart.of = q_only y in cc
walk_only (ends (later a) b) = elim a [ ]
walk_only (ends first (later (later (later b)))) = elim b [ ]
walk_only (goes (later a) b x w) = elim a [ ]
walk_only (goes first (later (later (later b))) x w) = elim b [ ]
walk_only (goes first first (refer x) (ends (later a) b)) = elim a [ ]
walk_only (goes first first (refer x) (ends first (later (later (later b))))) = elim b [ ]
walk_only (goes first first (refer x) (goes (later a) b y w)) = elim a [ ]
walk_only (goes first first (refer x) (goes first (later (later (later b))) y w)) = elim b [ ]
walk_only (goes first first (refer x) (goes first (later first) (refer y) (ends (later a) b))) = elim a [ ]
walk_only (goes first first (refer x) (goes first (later first) (refer y) (ends first (later (later (later b)))))) = elim b [ ]
walk_only (goes first first (refer x) (goes first (later first) (refer y) (goes (later a) b z w))) = elim a [ ]
walk_only (goes first first (refer x) (goes first (later first) (refer y) (goes first (later (later (later b))) z w))) = elim b [ ]
walk_only (goes first first (refer x) (goes first (later first) (refer y) (goes first (later (later first)) end_node (ends a b)))) = elim a [ ]
walk_only (goes first first (refer x) (goes first (later first) (refer y) (goes first (later (later first)) end_node (goes a b z w)))) = elim a [ ]

walked_only : (u : Unfolding) → Finished worked.two_nodes (codes "K") u → u ≡ walked.of
walked_only u f = only (in_finished worked.two_nodes (codes "K") _ refl u f)
  where
    only : {u : Unfolding} → OfWoven worked.two_nodes no_gates [] (HighLevel (graph (to (codes "L1") ∷ []) worked.node_lines)) u → u ≡ walked.of
    only (of_graph w) = walk_only w

pub walk_unfolds : WalkUnfolds
walk_unfolds = only_one _ walked walked_only (drawn _ walked.of refl refl)
