-- Soundness in full where tables grow: more labels, and one more net; and the weight of what the constructors make.
use Rattle.std.specs.Prelude.{ℕ, ◌+◌, ◌≤◌, ◌≡◌, List, [], ◌∷◌, Option, Some, length}
use Rattle.msc_base.specs.Patterns.{Mode}
use Rattle.hmsc_graph.specs.Graphs.{Goal}
use Rattle.hmsc_graph.specs.Nets.{IsNet, size_of}
use Rattle.chart_term.specs.NormalForms.{join_all, choice_of, tie_of}
use Rattle.chart_term.specs.Properties.{Each}
use Rattle.chart_term.specs.Tables.{NetEntry, Tables}
use Rattle.chart_term.specs.Terms.{Tree, weight}
use Rattle.term_laws.specs.FullSoundness.{AreEndsNil, IsSoundNode, AreSoundNets, IsFullySound, fresh_loop, fresh_walk}

-- sound tables, and terms that are sound over them, stay so where the table of labels has more, and where the tables get one more net; a
-- net whose node terms are sound, whose edges lead to its nodes, and whose ends are empty makes sound tables of sound tables
pub record TablesStaySound : Type 0 where
  pub more_labels : (labels more : ℕ) (w : Tables) → labels ≤ more → AreSoundNets labels w → AreSoundNets more w
  pub more_labels_node : (labels more : ℕ) (w : Tables) (x : Tree) → labels ≤ more → IsSoundNode labels w x → IsSoundNode more w x
  pub more_labels_term : (labels more : ℕ) (w : Tables) (x : Tree) → labels ≤ more → IsFullySound labels w x → IsFullySound more w x
  pub later_node : (labels : ℕ) (w : Tables) (e : NetEntry) (x : Tree) → AreSoundNets labels w → IsSoundNode labels w x → IsSoundNode labels (e ∷ w) x
  pub one_net_more : (labels : ℕ) (w : Tables) (e : NetEntry) → AreSoundNets labels w → Each (IsSoundNode labels w) e.nodes → IsNet e.net → size_of e.net ≡ length e.nodes → AreEndsNil e
      → AreSoundNets labels (e ∷ w)

-- the weight of a list of terms
abbrev pub weight_all : List Tree → ℕ
weight_all [] = 0
weight_all (x ∷ xs) = weight x + weight_all xs

-- no constructor makes more than one part more
pub record ConstructorsWeigh : Type 0 where
  pub join : (m : Mode) (xs : List Tree) → weight (join_all m xs) ≤ 1 + weight_all xs
  pub choice : (xs : List Tree) (y : Tree) → choice_of xs ≡ Some y → weight y ≤ 1 + weight_all xs
  pub tied : (x : Tree) (q : List (ℕ × ℕ)) → weight (tie_of x q) ≤ 1 + weight x + length q
  pub loop : (w : Tables) (x : Tree) (lo : ℕ) (hi : Option ℕ) (y : Tree) → fresh_loop w x lo hi ≡ Some y → weight y ≤ 2 + weight x
  pub walk : (w : Tables) (n : ℕ) (t : Goal) (y : Tree) → fresh_walk w n t ≡ Some y → weight y ≤ 1
