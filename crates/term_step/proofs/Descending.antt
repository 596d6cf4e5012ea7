-- The children of a term that a look shows.
use Rattle.std.specs.Prelude.{ℕ, zero, suc, ◌<◌, List, [], ◌≡◌, Option, Some, None, refl, length, slice_get}
use Rattle.std.proofs.Common.{ap, ◌∙◌, arith}
use Rattle.msc_base.specs.Patterns.{seq, par}
use Rattle.hmsc_graph.specs.Graphs.{Spot, Goal}
use Rattle.hmsc_graph.specs.Nets.{size_of}
use Rattle.chart_term.specs.NormalForms.{NetPermits, begun, only}
use Rattle.chart_term.specs.PartLists.{AreTurns}
use Rattle.chart_term.proofs.Turns.{begun-length}
use Rattle.chart_term.specs.Tables.{Tables, net_of, nodes_of, node_of, net_count}
use Rattle.chart_term.specs.Terms.{Tree, Nil, Join, Choice, Tied, Loop, Walk, trees, Part, Gap, row_of, ◌∪◌}
use Rattle.chart_term.proofs.Lists.{items-trees, parts-row_of}
use Rattle.term_step.specs.Children.{child, row_child}
use Rattle.term_laws.specs.Permission.{permit, permits_of}
use Rattle.term_permission.specs.Ready.{IsReady, AreReadyTables}
use Rattle.term_step.specs.Searches.{child_count}
use Rattle.term_permission.proofs.PermitLoops.{ready-loop}
use Rattle.term_laws.specs.Normality.{IsSet}
use Rattle.term_laws.specs.Values.{block_of}
use Rattle.bit_sets.specs.Blocks.{BlockValue}

module _ (w : Tables) where
  pub count-seq : (x : Tree) (ps : List Part) → x ≡ Join seq (trees (begun ps)) → AreTurns ps → child_count w x ≡ length ps
  count-seq x ps e h = ap (child_count w) e ∙ (ap length (items-trees (begun ps)) ∙ begun-length ps h)

  pub count-par : (x : Tree) (ps : List Part) → x ≡ Join par (trees (begun ps)) → AreTurns ps → child_count w x ≡ length ps
  count-par x ps e h = ap (child_count w) e ∙ (ap length (items-trees (begun ps)) ∙ begun-length ps h)

  pub count-choice : (x : Tree) (ps : List Part) → x ≡ Choice (trees (begun ps)) → AreTurns ps → child_count w x ≡ length ps
  count-choice x ps e h = ap (child_count w) e ∙ (ap length (items-trees (begun ps)) ∙ begun-length ps h)

  pub count-tied : (x y : Tree) (q : List (ℕ × ℕ)) → x ≡ Tied y q → child_count w x ≡ 1
  count-tied x y q e = ap (child_count w) e

  pub count-loop : (x y : Tree) (lo : ℕ) (hi : Option ℕ) (ps : List Part) → x ≡ Loop y lo hi (row_of ps) → child_count w x ≡ length ps
  count-loop x y lo hi ps e = ap (child_count w) e ∙ ap length (parts-row_of ps)

  pub count-walk : (x : Tree) (n : ℕ) (f : Spot) (t : Goal) (c : List ℕ) → x ≡ Walk n f t c → child_count w x ≡ size_of (net_of w n)
  count-walk x n f t c e = ap (child_count w) e

  pub count-nil : (x : Tree) → x ≡ Nil → child_count w x ≡ 0
  count-nil x e = ap (child_count w) e

module _ (k : NetPermits) where
  pub child-tied : (x y : Tree) (q : List (ℕ × ℕ)) (i : ℕ) → x ≡ Tied y q → i < 1 → child k x i ≡ Some y
  child-tied x y q zero e l = ap (λ u. child k u 0) e
  child-tied x y q (suc i) e l = absurd (omega arith)

  pub child-loop : (x y : Tree) (lo : ℕ) (hi : Option ℕ) (ps : List Part) (i : ℕ) (t : Part) → x ≡ Loop y lo hi (row_of ps) → slice_get ps i ≡ Some t → child k x i ≡ row_child k y hi (Some t)
  child-loop x y lo hi ps i t e h = ap (λ u. child k u i) e ∙ (ap (λ l. row_child k y hi (slice_get l i)) (parts-row_of ps) ∙ ap (row_child k y hi) h)

  pub child-none : (x : Tree) (i : ℕ) → x ≡ Nil → child k x i ≡ None
  child-none x i e = ap (λ u. child k u i) e

  pub gap-child : (x : Tree) (hi : Option ℕ) (t : Part) (c : List ℕ) → t ≡ Gap c → (hi ≡ Some 0 → ⊥) → row_child k x hi (Some t) ≡ permit k (only c) x
  gap-child x None t c e h = ap (λ u. row_child k x None (Some u)) e
  gap-child x (Some zero) t c e h = absurd (h refl)
  gap-child x (Some (suc n)) t c e h = ap (λ u. row_child k x (Some (suc n)) (Some u)) e

  pub gap-shut : (x : Tree) (hi : Option ℕ) (t : Part) (c : List ℕ) → t ≡ Gap c → hi ≡ Some 0 → row_child k x hi (Some t) ≡ None
  gap-shut x hi t c e h = λ i. row_child k x (h i) (Some (e i))

module _ (w : Tables) (tables : AreReadyTables w) where
  -- a walk's node that there is
  pub record IsChildNode (x : Tree) (n index : ℕ) (c : List ℕ) : Type 0 where
    pub net : n < net_count w
    pub within : index < size_of (net_of w n)
    pub node : index < length (nodes_of w n)
    pub ready : IsReady w (node_of w n index)
    pub set : IsSet c
    pub child : child (permits_of w) x index ≡ permit (permits_of w) (only c) (node_of w n index)

  pub ready-body : (x y : Tree) (lo : ℕ) (hi : Option ℕ) (ps : List Part) → x ≡ Loop y lo hi (row_of ps) → IsReady w x → IsReady w y
  ready-body x y lo hi ps e h = (ready-loop w x y lo hi ps e h).body

-- a block without event numbers
pub alone-block : (c : List ℕ) (own d : BlockValue) → own ≡ record { instances = c ∪ d.instances; events = [] } → d ≡ record { instances = []; events = [] } → block_of own ≡ only c
alone-block c own d e h = ap block_of e ∙ ap (λ (b : BlockValue). only (c ∪ b.instances)) h

pub ruleset descending = (ready-body, count-seq, count-par, count-choice, count-tied, count-loop, count-walk, count-nil, child-tied, child-loop, child-none, gap-child, gap-shut)
