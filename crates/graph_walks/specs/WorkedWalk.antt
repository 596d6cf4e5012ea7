-- A graph of two nodes, one after another, each of a chart of one action: the terms of the nodes and the net meet what the laws ask.
use Rattle.std.specs.Prelude.{ℕ, false, true, List, [], ◌∷◌, Some, None, codes, ◌≡◌}
use Rattle.msc_base.specs.declared.label.Far.TheVariants.{Nobody}
use Rattle.msc_base.specs.declared.label.Kind.TheVariants.{Action}
use Rattle.msc_base.specs.declared.label.Label.{Label}
use Rattle.msc_base.specs.declared.label.LabelRef.{LabelRef}
use Rattle.hmsc_graph.specs.Graphs.{Start, End, Any}
use Rattle.chart_term.specs.Tables.{NetEntry}
use Rattle.chart_term.specs.Terms.{TermEvent, Event, Nil, Walk}
use Rattle.term_tables.specs.NetValues.{NetsValue}
use Rattle.term_laws.specs.FullSoundness.{fresh_walk}
use Rattle.term_meaning.specs.Meanings.{Means}
use Rattle.msc_meaning.specs.Meanings.{Finished, Begun}
use Rattle.msc_meaning.specs.WorkedCharts.{p, q, x, y, node_lines, two_nodes}
use Rattle.msc_meaning.specs.WorkedParts.{to}
use Rattle.graph_walks.specs.GraphLaws.{IsLastNet}
use Rattle.graph_walks.specs.NodeTerms.{with_net}

abbrev done : List ℕ → List ℕ → Label
done at text = record { at = at; kind = Action; text = text; far = Nobody }

-- the labels of both actions, and no nets
abbrev pub their_tables : NetsValue
their_tables = record { labels = done p x ∷ done q y ∷ []; tables = [] }

abbrev pub their_names : List (List ℕ)
their_names = p ∷ q ∷ []

-- the label of each number stands at the instance of that number
abbrev pub their_places : ℕ → List ℕ
their_places label = label ∷ []

abbrev pub their_event : ℕ → TermEvent
their_event n = record { number = n; at = n; also = None; label = n }

abbrev pub their_starts : List LabelRef
their_starts = to (codes "L1") ∷ []

-- the net, with the terms of its nodes
abbrev pub their_net : NetEntry
their_net = record {
  net = record { starts = 0 ∷ []; next = (1 ∷ []) ∷ (2 ∷ []) ∷ [] ∷ []; ends = false ∷ false ∷ true ∷ [] };
  nodes = Event (their_event 0) ∷ Event (their_event 1) ∷ Nil ∷ [];
}

-- they meet what is asked of the net that was added last; and the walks through it are there, and mean the chart K
pub record WalkIsMet : Type 0 where
  pub met : IsLastNet two_nodes their_places their_tables their_names 0 2 their_starts node_lines their_net
  pub ended : fresh_walk (their_net ∷ []) 0 End ≡ Some (Walk 0 Start End [])
  pub open_walk : fresh_walk (their_net ∷ []) 0 Any ≡ Some (Walk 0 Start Any [])
  pub means : Means (with_net their_tables their_net) their_names (Walk 0 Start Any []) (Finished two_nodes (codes "K")) (Begun two_nodes (codes "K"))
