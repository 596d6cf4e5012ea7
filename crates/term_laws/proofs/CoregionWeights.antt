-- The fourth weight of a coregion of twenty equal actions: its terms are too many to compare each with each by computation.
use Rattle.std.specs.Prelude.{ℕ, zero, suc, ◌+◌, ◌-◌, ◌<◌, ◌≤◌, false, List, [], ◌∷◌, ◌≡◌, ◌==◌, refl, length}
use Rattle.std.proofs.Common.{ap, sym, subst, ◌∙◌, arith}
use Rattle.std.proofs.lemmas.Bool.Decides.{nat_tests}
use Rattle.msc_base.specs.Patterns.{par}
use Rattle.chart_term.specs.Properties.{Each}
use Rattle.chart_term.specs.Terms.{Tree, Join, trees}
use Rattle.term_laws.specs.Listing.{residual_set, set_weight, AreDeepAlong, IsDeepEnough, IsResidualSet}
use Rattle.term_laws.specs.Permission.{permits_of}
use Rattle.term_laws.proofs.Coregions.{actions, coregion_of, coregions, next_coregions, labels, raised, coregion_sets}
use Rattle.term_laws.proofs.Ranking.{rank, ranks}
use Rattle.term_laws.proofs.Removals.{with_first, removals, Lacks, HasNoRepeats, EachList, each_app}
use Rattle.term_laws.proofs.SetExact.{deep_at, residual_set_is_exact}
use Rattle.term_laws.proofs.TermSentences.{net_rank}
use Rattle.term_laws.proofs.Weights.{weigh, alike}

-- so many numbers from this one on
abbrev from : ℕ → ℕ → List ℕ
from n zero = []
from n (suc m) = n ∷ from (n + 1) m

later_number : (m n : ℕ) → n < m → (m == n) ≡ false
later_number m n h = grind (arith, nat_tests)

lacks_earlier : (n k m : ℕ) → n < k → Lacks n (from k m)
lacks_earlier n k zero h = tt
lacks_earlier n k (suc m) h = (later_number k n h, lacks_earlier n (k + 1) m (omega arith))

no_repeats : (n m : ℕ) → HasNoRepeats (from n m)
no_repeats n zero = tt
no_repeats n (suc m) = (lacks_earlier n (n + 1) m (omega arith), no_repeats (n + 1) m)

-- the weight after so many actions, for a term and labels that are those of a coregion
weight_left : (ns : List ℕ) → HasNoRepeats ns → (m : ℕ) (x : Tree) (l : List ℕ) → x ≡ coregion_of ns → l ≡ labels m → weigh x l ≡ set_weight (coregions (removals (raised m 0) ns))
weight_left ns h m x l e d = (λ i. weigh (e i) (d i)) ∙ ap set_weight (coregion_sets 39 (permits_of []) ns h m)

-- 1,140 terms of 18
twenty_removed : set_weight (coregions (removals 3 (from 1 20))) ≡ 20520
twenty_removed = refl

pub twenty_three : weigh (Join par (alike 1 20)) (0 ∷ 0 ∷ 0 ∷ []) ≡ 20520
twenty_three = weight_left (from 1 20) (no_repeats 1 20) 3 (Join par (alike 1 20)) (0 ∷ 0 ∷ 0 ∷ []) refl refl ∙ twenty_removed

-- the set that was weighed is the set of residual terms: no coregion on the way is larger than the first
longer : (n b : ℕ) (xs : List (List ℕ)) → 1 ≤ b → EachList (λ x. length x ≤ b - 1) xs → EachList (λ x. length x ≤ b) (with_first n xs)
longer n b [] h g = tt
longer n b (x ∷ xs) h g = (let p : length x ≤ b - 1 = g.0 in omega arith, longer n b xs h g.1)

shorter : (k : ℕ) (ns : List ℕ) (b : ℕ) → length ns ≤ b → EachList (λ x. length x ≤ b) (removals k ns)
shorter zero ns b h = (h, tt)
shorter (suc k) [] b h = tt
shorter (suc k) (n ∷ ns) b h =
    each_app (λ x. length x ≤ b) (removals k ns) (with_first n (removals (suc k) ns)) (shorter k ns b (omega arith)) (longer n b (removals (suc k) ns) (omega arith) (shorter (suc k) ns (b - 1) (omega arith)))

actions_rank : (f : ℕ → ℕ) (ns : List ℕ) → ranks f (trees (actions ns)) ≡ length ns
actions_rank f [] = refl
actions_rank f (n ∷ ns) = let e : ranks f (trees (actions ns)) ≡ length ns = actions_rank f ns in omega arith

coregion_rank : (f : ℕ → ℕ) (ns : List ℕ) → rank f (coregion_of ns) ≤ length ns + 1
coregion_rank f [] = omega arith
coregion_rank f (n ∷ []) = omega arith
coregion_rank f (n ∷ m ∷ ns) = let e : ranks f (trees (actions (n ∷ m ∷ ns))) ≡ length (n ∷ m ∷ ns) = actions_rank f (n ∷ m ∷ ns) in omega arith

each_deep : (xs : List (List ℕ)) → EachList (λ x. length x ≤ 39) xs → Each (λ x. IsDeepEnough [] x 40) (coregions xs)
each_deep [] h = tt
each_deep (x ∷ xs) h = (deep_at [] tt 40 (coregion_of x) (let p : length x ≤ 39 = h.0 in omega (arith, coregion_rank (net_rank []) x)), each_deep xs h.1)

deep_along : (ns : List ℕ) → HasNoRepeats ns → length ns ≤ 39 → (m j : ℕ) → AreDeepAlong [] 40 (coregions (removals j ns)) (labels m)
deep_along ns h b zero j = tt
deep_along ns h b (suc m) j =
    (each_deep (removals j ns) (shorter j ns 39 b), subst (λ xs. AreDeepAlong [] 40 xs (labels m)) (sym (next_coregions 39 (permits_of []) j ns h)) (deep_along ns h b m (suc j)))

set_left : (ns : List ℕ) → HasNoRepeats ns → length ns ≤ 39 → (m : ℕ) (x : Tree) (l : List ℕ) → x ≡ coregion_of ns → l ≡ labels m → IsResidualSet [] x l (residual_set 40 (permits_of []) (x ∷ []) l)
set_left ns h b m x l e d = rw e (rw d (residual_set_is_exact.set [] 40 (coregion_of ns) (labels m) (deep_along ns h b m 0)))

pub twenty_set : IsResidualSet [] (Join par (alike 1 20)) (0 ∷ 0 ∷ 0 ∷ []) (residual_set 40 (permits_of []) (Join par (alike 1 20) ∷ []) (0 ∷ 0 ∷ 0 ∷ []))
twenty_set = set_left (from 1 20) (no_repeats 1 20) (omega arith) 3 (Join par (alike 1 20)) (0 ∷ 0 ∷ 0 ∷ []) refl refl
