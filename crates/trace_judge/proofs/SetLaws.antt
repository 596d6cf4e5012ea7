-- A set that is stepped through labels has exactly what is left of the term after them; and there is always such a set.
use Rattle.std.specs.Prelude.{ℕ, ◌+◌, ◌≡◌, ◌≤◌, List, [], ◌∷◌, ◌++◌, Option, Some, None, refl}
use Rattle.std.proofs.Common.{ap, sym, ◌∙◌, subst, arith, inl, inr}
use Rattle.msc_base.specs.declared.label.Label.{Label}
use Rattle.term_tables.specs.NetValues.{NetsValue, label_number}
use Rattle.chart_term.specs.Properties.{Each}
use Rattle.chart_term.specs.Tables.{Tables}
use Rattle.chart_term.specs.Terms.{Tree}
use Rattle.term_laws.specs.Listing.{IsDeepEnough, next_set, set_weight}
use Rattle.term_laws.specs.Permission.{permits_of}
use Rattle.term_laws.specs.Residuals.{IsResidual, res_none}
use Rattle.term_laws.specs.Soundness.{AreTidyTables}
use Rattle.term_successors.specs.Successors.{IsSuccessor}
use Rattle.term_laws.specs.Taking.{IsAfter}
use Rattle.term_laws.proofs.Placed.{one_place_is_kept}
use Rattle.term_laws.proofs.FullSound.{full_soundness_is_kept, tidy_tables}
use Rattle.term_laws.proofs.Normalising.{are_different}
use Rattle.term_laws.proofs.Ranking.{rank}
use Rattle.term_laws.proofs.SetExact.{set_sound, set_whole, deep_at}
use Rattle.term_laws.proofs.TermSentences.{net_rank}
use Rattle.trace_judge.specs.Laws.{SetsGoOn}
use Rattle.trace_judge.specs.Logs.{AreResiduals}
use Rattle.trace_judge.specs.Sets.{IsSoundFor, AreSuccessors}
use Rattle.term_successors.specs.Successors.{IsLeftOf}
use Rattle.trace_judge.proofs.Lefts.{one_more, last_one, stopped, left_more, left_last, left_start, left_itself}
use Rattle.term_successors.proofs.TermSets.{same_weight}

-- Sets after labels

pub set_start : (v : NetsValue) (x : Tree) → AreResiduals v x [] (x ∷ [])
set_start v x = record {
  different = (tt, tt);
  exact = λ y. record {
    to = λ h. elim h [ inl e ↦ left_itself v x y (sym e) | inr b ↦ absurd b ];
    from = λ h. inl (sym (left_start v x y h));
  };
}

pub set_step : (v : NetsValue) (x : Tree) (l : List Label) (a : Label) (old new : List Tree) → AreResiduals v x l old → AreSuccessors v a old new → AreResiduals v x (l ++ a ∷ []) new
set_step v x l a old new r s = record {
  different = s.different;
  exact = λ y. record {
    to = λ h. let i = (s.exact y).to h in left_more v x i.term y l a ((r.exact i.term).to i.held) i.left;
    from = λ h. let i = left_last v x y l a h in (s.exact y).from (record { term = i.term; held = (r.exact i.term).from i.left; left = i.after });
  };
}

pub set_weighs : (v : NetsValue) (x : Tree) (l : List Label) (set other : List Tree) → AreResiduals v x l set → AreResiduals v x l other → set_weight set ≡ set_weight other
set_weighs v x l set other r s =
    same_weight set other r.different s.different (λ y i. (s.exact y).from ((r.exact y).to i)) (λ y i. (r.exact y).from ((s.exact y).to i))

pub sets_go_on : SetsGoOn
sets_go_on = record { start = set_start; step = set_step; weight = set_weighs }

-- There is a list of all that an event leaves of some terms

-- the ranks of the terms together
abbrev all_ranks : Tables → List Tree → ℕ
all_ranks w [] = 0
all_ranks w (x ∷ xs) = rank (net_rank w) x + all_ranks w xs

all_deep : (w : Tables) → AreTidyTables w → (n : ℕ) (xs : List Tree) → all_ranks w xs ≤ n → Each (λ x. IsDeepEnough w x n) xs
all_deep w t n [] l = tt
all_deep w t n (x ∷ xs) l = (deep_at w t n x (omega arith), all_deep w t n xs (omega arith))

-- what is left after the one label
one_after : (v : NetsValue) (a : Label) (n : ℕ) → label_number v.labels a ≡ Some n → (x y : Tree) → IsResidual (permits_of v.tables) x (n ∷ []) y → IsSuccessor v a x y
one_after v a n q x y r =
    let i = last_one (permits_of v.tables) x y [] n r in
    record { event = i.event; labelled = q ∙ ap Some (sym i.is); after = subst (λ (t : Tree). IsAfter (permits_of v.tables) t i.event y) (sym (stopped (permits_of v.tables) x i.term i.left)) i.after }

after_one : (v : NetsValue) (a : Label) (n : ℕ) → label_number v.labels a ≡ Some n → (x y : Tree) → IsSuccessor v a x y → IsResidual (permits_of v.tables) x (n ∷ []) y
after_one v a n q x y s = one_more (permits_of v.tables) x x y [] n s.event (some_is s.event.label n (sym s.labelled ∙ q)) res_none s.after
  where
    some_is : (m n : ℕ) → Some m ≡ Some n → m ≡ n
    some_is m n e = cc

pub record HasSuccessors (v : NetsValue) (a : Label) (terms : List Tree) : Type 0 where
  pub next : List Tree
  pub are : AreSuccessors v a terms next

pub successors_exist : (v : NetsValue) (a : Label) (x : Tree) (terms : List Tree) → IsSoundFor v x → HasSuccessors v a terms
successors_exist v a x terms h = go (label_number v.labels a) refl
  where
    go : (o : Option ℕ) → label_number v.labels a ≡ o → HasSuccessors v a terms
    go None q = record { next = []; are = record { different = tt; exact = λ y. record { to = λ i. absurd i; from = λ i. nothing y i } } }
      where
        nothing : (y : Tree) → IsLeftOf v a terms y → ⊥
        nothing y i = let bad : None ≡ Some i.left.event.label = sym q ∙ i.left.labelled in cc
    go (Some n) q =
        let w = v.tables in
        let d = all_ranks w terms in
        record {
          next = next_set d (permits_of w) n terms;
          are = record {
            different = are_different _;
            exact = λ y. record {
              to = λ i. let r = set_sound w d (n ∷ []) terms y i in record { term = r.0; held = r.1; left = one_after v a n q r.0 y r.2 };
              from = λ i. set_whole w d (n ∷ []) terms (all_deep w (tidy_tables _ w h.full.nets) d terms (omega arith), tt) i.term y i.held (after_one v a n q i.term y i.left);
            };
          };
        }

-- what an event leaves of a sound term is sound
pub stays_sound : (v : NetsValue) (a : Label) (x y : Tree) → IsSoundFor v x → IsSuccessor v a x y → IsSoundFor v y
stays_sound v a x y h s = record { full = full_soundness_is_kept.after_keeps _ v.tables x y s.event h.full s.after; placed = one_place_is_kept.after_keeps v.tables x y s.event h.placed s.after }
