-- What is left by the number of a label is left by the label.
use Rattle.std.specs.Prelude.{ℕ, ◌≡◌, List, [], ◌∷◌, Some, length, slice_get}
use Rattle.std.proofs.Common.{ap, sym, ◌∙◌, arith}
use Rattle.std.proofs.lemmas.Option.{same_Some}
use Rattle.msc_base.specs.declared.label.Label.{Label}
use Rattle.chart_term.specs.Terms.{Tree}
use Rattle.term_laws.specs.Permission.{permits_of}
use Rattle.term_tables.specs.NetValues.{NetsValue, label_number}
use Rattle.term_step.specs.AllAfter.{AreAllLeft, AreTooMany}
use Rattle.term_successors.specs.Successors.{AreRising, IsLeftOf}
use Rattle.term_successors.proofs.TermSets.{rising_different}
use Rattle.term_sets.specs.Subsets.{AreAllTaken, IsTaken, IsTooMuch}

module _ (v : NetsValue) (label : Label) (a : ℕ) (labelled : label_number v.labels label ≡ Some a) (terms : List Tree) where
  left_of_label : (y : Tree) → IsTaken (permits_of v.tables) a terms y → IsLeftOf v label terms y
  left_of_label y t = record { term = t.term; held = t.held; left = record { event = t.left.event; labelled = labelled ∙ ap Some (sym t.left.labelled); after = t.left.after } }

  taken_by_number : (y : Tree) → IsLeftOf v label terms y → IsTaken (permits_of v.tables) a terms y
  taken_by_number y l = record { term = l.term; held = l.held; left = record { event = l.left.event; labelled = same_Some _ _ (sym l.left.labelled ∙ labelled); after = l.left.after } }

  pub label_leaves : (most : ℕ) (found : List Tree) → AreRising found → AreAllTaken (permits_of v.tables) a terms most found → AreAllLeft v label terms most found
  label_leaves most found rising t = record {
    different = rising_different found rising;
    exact = λ y. record { to = λ i. left_of_label y ((t.exact y).to i); from = λ l. (t.exact y).from (taken_by_number y l) };
    within = t.within;
  }

  pub label_leaves_more : (most : ℕ) → IsTooMuch (permits_of v.tables) a terms most → AreTooMany v label terms most
  label_leaves_more most t = record {
    some = t.some;
    different = rising_different t.some t.rising;
    each = λ y i. left_of_label y (t.each y i);
    above = t.above;
  }

-- a list of one term
pub one_alone : (xs : List Tree) (x : Tree) → length xs ≡ 1 → slice_get xs 0 ≡ Some x → x ∷ [] ≡ xs
one_alone [] x l e = cc
one_alone (y ∷ []) x l e = let q : x ≡ y = cc in ap (λ (z : Tree). z ∷ []) q
one_alone (y ∷ z ∷ xs) x l e = absurd (omega (arith, l))
