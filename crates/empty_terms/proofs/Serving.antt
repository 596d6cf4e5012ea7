-- Sound terms can be asked.
use Rattle.std.specs.Prelude.{ℕ, ◌<◌, ◌≡◌, ◌==◌, [], ◌∷◌}
use Rattle.std.proofs.Common.{arith, sym, subst}
use Rattle.std.proofs.lemmas.Bool.Decides.{nat_tests}
use Rattle.chart_term.specs.Properties.{IsBelow}
use Rattle.chart_term.specs.Tables.{Tables, net_count, nth_tree, node_of}
use Rattle.term_laws.specs.FullSoundness.{AreSoundNets, IsSpotOf, IsGoalOf}
use Rattle.term_laws.specs.Soundness.{IsKnown}
use Rattle.term_laws.proofs.EveryPart.{part_below}
use Rattle.term_laws.proofs.TidyTables.{each_nth, picked}
use Rattle.empty_terms.specs.ChartTerms.{SoundTermsServe}

older : (labels : ℕ) (w : Tables) → AreSoundNets labels w → (n m : ℕ) → IsBelow n (node_of w n m)
older labels [] h n m = tt
older labels (e ∷ es) h n m =
    picked (IsBelow n) (n == net_count es) (nth_tree e.nodes m) (node_of es n m)
    (λ p. let same : n ≡ net_count es = grind (arith, nat_tests) in subst (λ (k : ℕ). IsBelow k (nth_tree e.nodes m)) (sym same) (each_nth (IsBelow (net_count es)) e.nodes tt h.2 m))
    (λ p. older labels es h.0 n m)

pub sound_terms_serve : SoundTermsServe
sound_terms_serve labels w x sound unbegun nodes = record {
  unbegun = unbegun;
  within = part_below (λ e. e.label < labels) (λ y q. Unit {0}) (λ y. Unit {0}) (λ n f t. IsKnown w n × IsSpotOf w n f × IsGoalOf w n t) (net_count w) (λ n f t h. h.0) x sound.term.known;
  nodes = nodes;
  older = older labels w sound.nets;
}
