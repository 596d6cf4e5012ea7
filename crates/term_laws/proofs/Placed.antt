-- Permission and taking keep events where their labels stand.
use Rattle.std.specs.Prelude.{ℕ, ◌==◌, List, [], ◌∷◌, ◌≡◌, Option, Some, Bool, true, false}
use Rattle.msc_base.specs.Patterns.{Mode}
use Rattle.hmsc_graph.specs.Graphs.{Spot, Goal}
use Rattle.chart_term.specs.NormalForms.{NetPermits, only, join_all, choice_of, tie_of}
use Rattle.chart_term.specs.Properties.{Each, EachTurn, MayHave}
use Rattle.chart_term.specs.Tables.{NetEntry, Tables, net_count, choose}
use Rattle.chart_term.specs.Terms.{TermEvent, Block, Tree, Trees, items, Part, Row, parts}
use Rattle.term_laws.specs.FullSoundness.{EveryPartOf, EveryRowPart}
use Rattle.term_laws.specs.Permission.{permit, permit_nth, permits_of}
use Rattle.term_laws.specs.Placing.{IsPlaced, AreEventsPlaced, AreNetsPlaced, HaveOnePlace, OnePlaceIsKept}
use Rattle.term_laws.specs.Taking.{IsAfter, after_event, after_choice, after_join, after_tied, after_loop, after_walk, IsAfterOne, first_one, later_one, IsAfterJoin, first_part, later_part, IsAfterRow, in_turn, in_gap, past_turn, past_gap}
use Rattle.term_laws.proofs.EveryPart.{permit_part, join_part, choice_part, bound_part, after_part, row_out}
use Rattle.term_laws.proofs.Keeping.{at_some}
use Rattle.term_laws.proofs.TidyTables.{nth_has}

module _ (places : ℕ → List ℕ) where
  abbrev P : Tree → Type 0
  P = AreEventsPlaced places

  module _ (k : NetPermits) where
    pub permit-placed : (b : Block) (x : Tree) → P x → MayHave P (permit k b x)
    permit-placed = permit_part (IsPlaced places) (λ y q. Unit {0}) (λ y. Unit {0}) (λ n f t. Unit {0}) k (λ n f g t u h s a. tt) (λ x q h. tt) (λ b x z e q h. tt) (λ x y z b e a p q h. tt)

    pub join-placed : (m : Mode) (xs : List Tree) → Each P xs → P (join_all m xs)
    join-placed = join_part (IsPlaced places) (λ y q. Unit {0}) (λ y. Unit {0}) (λ n f t. Unit {0}) k (λ n f g t u h s a. tt) (λ x q h. tt) (λ b x z e q h. tt) (λ x y z b e a p q h. tt)

    pub choice-placed : (xs : List Tree) → Each P xs → MayHave P (choice_of xs)
    choice-placed = choice_part (IsPlaced places) (λ y q. Unit {0}) (λ y. Unit {0}) (λ n f t. Unit {0}) k (λ n f g t u h s a. tt) (λ x q h. tt) (λ b x z e q h. tt) (λ x y z b e a p q h. tt)

    pub tie-placed : (x : Tree) (q : List (ℕ × ℕ)) → P x → P (tie_of x q)
    tie-placed x q h = bound_part (IsPlaced places) (λ y q. Unit {0}) (λ y. Unit {0}) (λ n f t. Unit {0}) k (λ n f g t u h s a. tt) (λ x q h. tt) (λ b x z e q h. tt) (λ x y z b e a p q h. tt) x q (h, tt)

    -- where node terms are so too
    module _ (kept : (n m : ℕ) (d : List ℕ) (x : Tree) → k.kept n m d ≡ Some x → P x) where
      pub after-placed : {x y : Tree} {e : TermEvent} → IsAfter k x e y → P x → P y
      after-placed = after_part (IsPlaced places) (λ y q. Unit {0}) (λ y. Unit {0}) (λ n f t. Unit {0}) k (λ n f g t u h s a. tt) (λ x q h. tt) (λ b x z e q h. tt) (λ x y z b e a p q h. tt) kept

      -- an event that can happen first is at the instances of its label
      mutual
        pub taken-placed : {x y : Tree} {e : TermEvent} → IsAfter k x e y → P x → IsPlaced places e
        taken-placed after_event h = h
        taken-placed (after_choice a) h = taken-one a h
        taken-placed (after_join a) h = taken-part a h
        taken-placed (after_tied a p) h = taken-placed a h.0
        taken-placed (after_loop {r = r} b a m p) h = taken-row a h.0 (row_out (IsPlaced places) (λ y q. Unit {0}) (λ y. Unit {0}) (λ n f t. Unit {0}) r h.2)
        taken-placed (after_walk {n = n} {c = c} m {x = x} p a l1 l2 q r) h = taken-placed a (kept n m c x p)

        taken-one : {xs : Trees} {y : Tree} {e : TermEvent} → IsAfterOne k xs e y → EveryPartOf (IsPlaced places) (λ y q. Unit {0}) (λ y. Unit {0}) (λ n f t. Unit {0}) xs → IsPlaced places e
        taken-one (first_one a) h = taken-placed a h.0
        taken-one (later_one a) h = taken-one a h.1

        taken-part : {m : Mode} {xs : Trees} {ys : List Tree} {e : TermEvent} → IsAfterJoin k m xs e ys → EveryPartOf (IsPlaced places) (λ y q. Unit {0}) (λ y. Unit {0}) (λ n f t. Unit {0}) xs → IsPlaced places e
        taken-part (first_part a) h = taken-placed a h.0
        taken-part (later_part s a) h = taken-part a h.1

        taken-row : {x : Tree} {b : Bool} {ps qs : List Part} {e : TermEvent} → IsAfterRow k x b ps e qs → P x → EachTurn P ps → IsPlaced places e
        taken-row (in_turn a) h d = taken-placed a d.0
        taken-row (in_gap {x = x} {y = y} {c = c} p a) h d = taken-placed a (at_some P (permit k (only c) x) y p (permit-placed (only c) x h))
        taken-row (past_turn p a) h d = taken-row a h d.1
        taken-row (past_gap a) h d = taken-row a h d

  chosen : (t : Bool) (a b : Option Tree) (x : Tree) → (a ≡ Some x → P x) → (b ≡ Some x → P x) → choose t a b ≡ Some x → P x
  chosen true a b x f g q = f q
  chosen false a b x f g q = g q

  -- what a walk's block leaves of a node term
  pub kept-placed : (w : Tables) → AreNetsPlaced places w → (n m : ℕ) (d : List ℕ) (x : Tree) → (permits_of w).kept n m d ≡ Some x → P x
  kept-placed [] h n m d x q = cc
  kept-placed (e ∷ es) h n m d x q =
      chosen (n == net_count es) (permit_nth (permits_of es) (only d) e.nodes m) ((permits_of es).kept n m d) x
      (λ r. at_some P (permit_nth (permits_of es) (only d) e.nodes m) x r (nth_has P (permits_of es) (only d) e.nodes (permit-placed (permits_of es) (only d)) h.1 m))
      (λ r. kept-placed es h.0 n m d x r) q

pub one_place_is_kept : OnePlaceIsKept
one_place_is_kept = record {
  after_keeps = λ w x y e h a. record {
    places = h.places;
    nets = h.nets;
    term = after-placed h.places (permits_of w) (kept-placed h.places w h.nets) a h.term;
  };
}
