-- Where nothing is shown of the parts, they may share their numbers: one net may stand in several places.
use Rattle.std.specs.Prelude.{ℕ, ◌≤◌, Bool, List, [], ◌∷◌}
use Rattle.std.proofs.Common.{refl, arith, inl, inr}
use Rattle.msc_base.specs.declared.label.Label.{Label}
use Rattle.msc_base.specs.Orders.{Once}
use Rattle.msc_base.specs.Patterns.{Mode}
use Rattle.msc_unfolding.specs.Unfoldings.{Unfolding}
use Rattle.chart_term.specs.TermMeanings.{NetTerms, HasPattern, HasParts, one_part, HasChoice, this_one, that_one}
use Rattle.chart_term.specs.TermPatterns.{Shape, Occurs}
use Rattle.chart_term.specs.Terms.{Tree}
use Rattle.sound_terms.specs.Intervals.{IsInside}
use Rattle.term_meaning.specs.Naming.{IsSeen}
use Rattle.term_meaning.specs.Portions.{IsPortion, tags_in}
use Rattle.term_meaning.specs.UnfoldingSets.{AreJoined, Either, Nothing, OnlyEmpty}
use Rattle.term_meaning.proofs.MeaningRules.{mean_choice, mean_part}
use Rattle.term_meaning.proofs.Named.{seen_meet}
use Rattle.term_meaning.proofs.PortionRules.{portion_no_choice, portion_no_part, portion_wide}

module _ (labels : List Label) (names : List (List ℕ)) (w : NetTerms) (o : Bool) (lo hi : ℕ) where
  abbrev Hidden : (Shape → Type 0) → (Unfolding → Type 0) → Type 0
  Hidden P U = IsPortion labels names lo hi [] P U

  pub hidden_no_part : lo ≤ hi → (m : Mode) → Hidden (HasParts w o m []) OnlyEmpty
  hidden_no_part l m = portion_wide labels names lo lo lo hi [] (HasParts w o m []) OnlyEmpty (omega arith) l (portion_no_part labels names w o m lo)

  pub hidden_part : Once names → (m : Mode) (x : Tree) (xs : List Tree) (A B : Unfolding → Type 0) → Hidden (HasPattern w o x) A → Hidden (HasParts w o m xs) B → Hidden (HasParts w o m (x ∷ xs)) (AreJoined m A B)
  hidden_part once m x xs A B p q = record {
    mean = mean_part (IsSeen labels names (tags_in [])) w o (seen_meet labels names once (tags_in [])) m x xs A B p.mean q.mean;
    within = within;
    bare = λ n h. refl;
    order = p.order;
  }
    where
      within : (s : Shape) → HasParts w o m (x ∷ xs) s → (n : ℕ) → Occurs n s → IsInside lo hi n
      within _ (one_part {s = s} {t = t} h k) n (inl i) = p.within s h n i
      within _ (one_part {s = s} {t = t} h k) n (inr i) = q.within t k n i

  pub hidden_no_choice : lo ≤ hi → Hidden (HasChoice w o []) Nothing
  hidden_no_choice l = portion_wide labels names lo lo lo hi [] (HasChoice w o []) Nothing (omega arith) l (portion_no_choice labels names w o lo)

  pub hidden_choice : (x : Tree) (xs : List Tree) (A B : Unfolding → Type 0) → Hidden (HasPattern w o x) A → Hidden (HasChoice w o xs) B → Hidden (HasChoice w o (x ∷ xs)) (Either A B)
  hidden_choice x xs A B p q = record {
    mean = mean_choice (IsSeen labels names (tags_in [])) w o x xs A B p.mean q.mean;
    within = within;
    bare = λ n h. refl;
    order = p.order;
  }
    where
      within : (s : Shape) → HasChoice w o (x ∷ xs) s → (n : ℕ) → Occurs n s → IsInside lo hi n
      within s (this_one h) n i = p.within s h n i
      within s (that_one h) n i = q.within s h n i
