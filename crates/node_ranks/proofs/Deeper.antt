-- At a greater depth an expansion is the same.
use Rattle.std.specs.Prelude.{ℕ, zero, suc, ◌≤◌, List}
use Rattle.std.proofs.Common.{◌≡◌, ◌∙◌, refl, ap, arith}
use Rattle.hmsc_graph.specs.declared.shape.Shape.{Shape}
use Rattle.msc_meaning.specs.Bodies.{WovenItems}
use Rattle.msc_meaning.specs.FarEnds.{GateMap}
use Rattle.msc_meaning.specs.InnerEvents.{GateEnd}
use Rattle.msc_meaning.specs.Tables.{Table}
use Rattle.expanded_charts.specs.Expanding as tree
use Rattle.expanded_charts.specs.Expanding.{in_row, aside, one_of, or_nothing, exception, turns, tied, past, expand_charts}
use Rattle.node_ranks.specs.NamedCharts.{IsNestedTo}
use Rattle.node_ranks.specs.NodeRanks.{DeeperIsSame}
use Rattle.node_ranks.proofs.Families.{Family, PartsFamily, IsKept, entry_kept, walks_kept}

abbrev pub AreSame : Family → Family → Type 0
AreSame e d = (n : ℕ) → e n ≡ d n

abbrev AreSameParts : PartsFamily → PartsFamily → Type 0
AreSameParts l k = (n : ℕ) → l n ≡ k n

same_kept : IsKept AreSame AreSameParts
same_kept = record {
  nothing = λ n. refl;
  then = λ e d l k h i n. ap (λ x. tree.then x l) (h n) ∙ ap (λ y. tree.put (d n) y) (i (d n).next);
  in_row = λ l k h n. ap in_row (h n);
  aside = λ l k h n. ap aside (h n);
  one_of = λ l k h n. ap one_of (h n);
  or_nothing = λ e d h n. ap or_nothing (h n);
  exception = λ e d h n. ap exception (h n);
  turns = λ lower upper e d h n. ap (turns n lower upper) (h n);
  tied = λ ts e d h n. ap (tied ts) (h n);
  past = λ f e d h n. ap (past f) (h n);
  event = λ h n. refl;
}

walk_same : (g : Shape) (l k : PartsFamily) → AreSameParts l k → AreSame (λ n. tree.walk n g (l (suc n))) (λ n. tree.walk n g (k (suc n)))
walk_same g l k h n = ap (tree.walk n g) (h (suc n))

pub deeper : (ends_of : WovenItems → List GateEnd) (table : Table) (k j : ℕ) (name : List ℕ) (gates : GateMap) → k ≤ j → IsNestedTo table k name → AreSame (expand_charts ends_of table k name gates) (expand_charts ends_of table j name gates)
deeper ends_of table zero j name gates l w = absurd w
deeper ends_of table (suc k) zero name gates l w = absurd (omega (arith, l))
deeper ends_of table (suc k) (suc j) name gates l w =
    let known = λ (other : List ℕ) (gates : GateMap) (v : IsNestedTo table k other). deeper ends_of table k j other gates (omega (arith, l)) v in
    entry_kept AreSame AreSameParts same_kept ends_of (expand_charts ends_of table k) (expand_charts ends_of table j) (IsNestedTo table k) known
    (walks_kept AreSame AreSameParts same_kept ends_of (expand_charts ends_of table k) (expand_charts ends_of table j) (IsNestedTo table k) known walk_same) table name gates w

pub deeper_is_same : DeeperIsSame
deeper_is_same = record { same = λ ends_of table k j name gates n l w. deeper ends_of table k j name gates l w n }
