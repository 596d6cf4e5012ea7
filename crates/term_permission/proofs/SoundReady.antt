-- Terms that are sound in full are ready.
use Rattle.std.specs.Prelude.{ℕ, ◌<◌, [], ◌∷◌, length}
use Rattle.hmsc_graph.specs.Graphs.{Spot, Start, At, Goal, To, End, Any}
use Rattle.chart_term.specs.Tables.{Tables, net_count, nodes_of}
use Rattle.chart_term.specs.Terms.{Tree}
use Rattle.term_laws.specs.FullSoundness.{IsSpotOf, IsGoalOf, AreNumbersKnown, IsSoundNode, IsSoundOver, AreSoundNets}
use Rattle.term_permission.specs.Ready.{IsSpotWithin, IsGoalWithin, IsWalkWithin, IsWithin, IsReady, AreReadyTables}
use Rattle.term_permission.specs.ReadyBySoundness.{ReadyBySoundness}
use Rattle.term_laws.specs.Soundness.{IsKnown}
use Rattle.term_permission.proofs.PermitWalks.{nodes_in}
use Rattle.term_laws.proofs.EveryPart.{part_below, part_map}
use Rattle.term_laws.proofs.TidyTables.{each_map}

module _ (labels : ℕ) (w : Tables) where
  spot_within : (n : ℕ) (f : Spot) → IsSpotOf w n f → IsSpotWithin (length (nodes_of w n)) f
  spot_within n Start h = tt
  spot_within n (At m) h = (nodes_in w n m).0 h

  goal_within : (n : ℕ) (t : Goal) → IsGoalOf w n t → IsGoalWithin (length (nodes_of w n)) t
  goal_within n (To m) h = (nodes_in w n m).0 h
  goal_within n End h = tt
  goal_within n Any h = tt

  known_within : (x : Tree) → AreNumbersKnown labels w x → IsWithin w x
  known_within x h =
      part_map (λ e. e.label < labels) (λ e. Unit {0}) (λ y q. Unit {0}) (λ y q. Unit {0}) (λ y. Unit {0}) (λ y. Unit {0}) (λ n f t. IsKnown w n × IsSpotOf w n f × IsGoalOf w n t) (IsWalkWithin w) (net_count w)
      (λ e i. tt) (λ x q b i. tt) (λ x b i. tt) (λ n f t l i. (l, spot_within n f i.1, goal_within n t i.2)) x
      (part_below (λ e. e.label < labels) (λ y q. Unit {0}) (λ y. Unit {0}) (λ n f t. IsKnown w n × IsSpotOf w n f × IsGoalOf w n t) (net_count w) (λ n f t i. i.0) x h) h

  ready_term : (x : Tree) → IsSoundOver labels w x → IsReady w x
  ready_term x h = record { within = known_within x h.known; normal = h.normal }

ready_tables : (labels : ℕ) (w : Tables) → AreSoundNets labels w → AreReadyTables w
ready_tables labels [] h = tt
ready_tables labels (e ∷ es) h = (ready_tables labels es h.0, each_map (IsSoundNode labels es) (IsReady es) (λ x i. ready_term labels es x i.sound) e.nodes h.1, h.5)

pub ready_by_soundness : ReadyBySoundness
ready_by_soundness = record {
  term = λ labels w x h. ready_term labels w x h.term;
  tables = λ labels w x h. ready_tables labels w h.nets;
}
