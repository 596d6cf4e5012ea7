-- A certificate shows one pattern at most.
use Rattle.std.specs.Prelude.{ℕ, List, ◌≡◌, refl}
use Rattle.std.proofs.Common.{ap, ap₂}
use Rattle.msc_base.specs.Patterns.{Mode, seq, join, bind}
use Rattle.hmsc_graph.specs.Graphs.{Spot}
use Rattle.chart_term.specs.TermMeanings.{NetTerms}
use Rattle.chart_term.specs.Terms.{Tree}
use Rattle.certificates.specs.Certificates.{Certificate, Certificates, Stops, PlacedShape, Shows, shows_empty, shows_event, shows_parts, shows_branch, shows_inner, shows_turns, shows_nodes, ShowsParts, shows_no_part, shows_part, ShowsBranch, shows_this, shows_that, ShowsTurns, shows_no_turn, shows_turn, ShowsNodes, shows_end, shows_node}

module _ (w : NetTerms) where
  mutual
    pub determined : {x : Tree} {c : Certificate} {p q : PlacedShape} → Shows w x c p → Shows w x c q → p ≡ q
    determined (shows_empty h) (shows_empty k) = refl
    determined shows_event shows_event = refl
    determined (shows_parts h) (shows_parts k) = parts_determined h k
    determined (shows_branch h) (shows_branch k) = branch_determined h k
    determined (shows_inner {q = r} h) (shows_inner k) = ap (λ p. bind p r) (determined h k)
    determined (shows_turns h g l) (shows_turns k m n) = turns_determined h k
    determined (shows_nodes g h) (shows_nodes l k) = nodes_determined h k

    parts_determined : {m : Mode} {xs : List Tree} {cs : Certificates} {p q : PlacedShape} → ShowsParts w m xs cs p → ShowsParts w m xs cs q → p ≡ q
    parts_determined shows_no_part shows_no_part = refl
    parts_determined (shows_part {m = m} h r) (shows_part k s) = ap₂ (λ p q. join m p q) (determined h k) (parts_determined r s)

    branch_determined : {xs : List Tree} {i : ℕ} {c : Certificate} {p q : PlacedShape} → ShowsBranch w xs i c p → ShowsBranch w xs i c q → p ≡ q
    branch_determined (shows_this h) (shows_this k) = determined h k
    branch_determined (shows_that h) (shows_that k) = branch_determined h k

    turns_determined : {x : Tree} {cs : Certificates} {p q : PlacedShape} → ShowsTurns w x cs p → ShowsTurns w x cs q → p ≡ q
    turns_determined shows_no_turn shows_no_turn = refl
    turns_determined (shows_turn h r) (shows_turn k s) = ap₂ (λ p q. join seq p q) (determined h k) (turns_determined r s)

    nodes_determined : {n : ℕ} {f : Spot} {ss : Stops} {p q : PlacedShape} → ShowsNodes w n f ss p → ShowsNodes w n f ss q → p ≡ q
    nodes_determined (shows_end i a h) (shows_end j b k) = determined h k
    nodes_determined (shows_end i a h) (shows_node j k s) = elim s [ ]
    nodes_determined (shows_node i h r) (shows_end j b k) = elim r [ ]
    nodes_determined (shows_node i h r) (shows_node j k s) = ap₂ (λ p q. join seq p q) (determined h k) (nodes_determined r s)
