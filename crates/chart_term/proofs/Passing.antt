-- What a search for a label passes over, by the stored facts.
use Rattle.std.proofs.Common.{◌≡◌, ℕ, zero, suc, ◌+◌, ◌-◌, ◌<◌, ◌≤◌, ◌==◌, ◌⊎◌, inl, inr, Bool, true, false, ◌||◌, ◌&&◌, nat_eq, nat_le, min, max, List, [], ◌∷◌, ◌++◌, length, slice_get, Option, Some, None, refl, ap, ap₂, sym, subst, ◌∙◌, arith}
use Rattle.std.proofs.lemmas.Bool.{and_from, and_parts, both_ways, cases_order, eqb-true, leb-true, le-leb, or_left, or_parts, or_right}
use Rattle.std.proofs.lemmas.List.Folds.{list_any-append}
use Rattle.persistent_sequence.proofs.Parts.{length_parts}
use Rattle.term_facts.specs.declared.facts.Facts.{Facts}
use Rattle.term_facts.specs.declared.facts.Span.{Span}
use Rattle.term_facts.specs.NodeFacts.{FactsPassed, FactsWithin, facts_may, labels_in, lies_in, span_of, wider}
use Rattle.chart_term.specs.Facts.{HasFacts, RowHasFacts, holds_walk, instances, instances_row, row_walk}
use Rattle.chart_term.specs.Labels.{labels, labels_row}
use Rattle.chart_term.specs.NormalForms.{has_gap}
use Rattle.chart_term.specs.PartLists.{AllPassed, ArePassed, IsNext, IsPassed, IsWithin, Lacks}
use Rattle.chart_term.specs.Terms.{Tree, Part, Gap, Turn, has, row_of}

-- a number within one of two ranges lies in the wider one
pub lies_first : (r s : Option Span) (n : ℕ) → lies_in r n ≡ true → lies_in (wider r s) n ≡ true
lies_first None s n h = cc
lies_first (Some r) None n h = h
lies_first (Some r) (Some s) n h =
    let (a, b) = and_parts (nat_le r.least n) (nat_le n r.greatest) h in
    let p = leb-true r.least n a in
    let q = leb-true n r.greatest b in
    and_from (nat_le (min r.least s.least) n) (nat_le n (max r.greatest s.greatest)) (le-leb (min r.least s.least) n (omega arith)) (le-leb n (max r.greatest s.greatest) (omega arith))

pub lies_second : (r s : Option Span) (n : ℕ) → lies_in s n ≡ true → lies_in (wider r s) n ≡ true
lies_second None s n h = h
lies_second (Some r) None n h = cc
lies_second (Some r) (Some s) n h =
    let (a, b) = and_parts (nat_le s.least n) (nat_le n s.greatest) h in
    let p = leb-true s.least n a in
    let q = leb-true n s.greatest b in
    and_from (nat_le (min r.least s.least) n) (nat_le n (max r.greatest s.greatest)) (le-leb (min r.least s.least) n (omega arith)) (le-leb n (max r.greatest s.greatest) (omega arith))

-- a number of the list lies in its range
pub lies_there : (ns : List ℕ) (n : ℕ) → has ns n ≡ true → lies_in (span_of ns) n ≡ true
lies_there [] n h = cc
lies_there (m ∷ ms) n h = by_case (m == n) refl h (lies_there ms n)
  where
    itself : m ≡ n → lies_in (Some (record { least = m; greatest = m })) n ≡ true
    itself e = and_from (nat_le m n) (nat_le n m) (le-leb m n (omega arith)) (le-leb n m (omega arith))

    by_case : (b : Bool) → (m == n) ≡ b → (b || has ms n) ≡ true → (has ms n ≡ true → lies_in (span_of ms) n ≡ true) → lies_in (span_of (m ∷ ms)) n ≡ true
    by_case true e k f = lies_first (Some (record { least = m; greatest = m })) (span_of ms) n (itself (eqb-true m n e))
    by_case false e k f = lies_second (Some (record { least = m; greatest = m })) (span_of ms) n (f k)

-- so one beside the range isn't there
pub lacks_there : (ns : List ℕ) (n : ℕ) → lies_in (span_of ns) n ≡ false → has ns n ≡ false
lacks_there ns n h = by_case (has ns n) refl
  where
    by_case : (b : Bool) → has ns n ≡ b → has ns n ≡ false
    by_case true e = let bad : lies_in (span_of ns) n ≡ true = lies_there ns n e in cc
    by_case false e = e

-- by the facts of a term
pub term_lacks : (x : Tree) (a : ℕ) (f : Facts) → HasFacts x f → facts_may a f ≡ false → Lacks a x
term_lacks x a f p h = (
  sym p.trail ∙ (or_parts f.holds_walk (lies_in (labels_in f.ranges) a) h).0,
  lacks_there (labels x) a (ap (λ s. lies_in s a) (sym p.labels) ∙ (or_parts f.holds_walk (lies_in (labels_in f.ranges) a) h).1),
)

term_within : (x : Tree) (c : List ℕ) (f : Facts) → HasFacts x f → FactsWithin c f → IsWithin c x
term_within x c f p w = (sym p.trail ∙ w.trail, λ n h. ap (λ l. has l n) (sym w.instances) ∙ p.instances n ∙ h)

pub turn_passed : (x : Tree) (a : ℕ) (c : List ℕ) (f : Facts) → HasFacts x f → FactsPassed a c f → IsPassed a c (Turn x)
turn_passed x a c f p (inl h) = inl (term_lacks x a f p h)
turn_passed x a c f p (inr w) = inr (term_within x c f p w)

-- by those of a list of turns, for each of them
walk_at : (ps : List Part) (j : ℕ) (x : Tree) → row_walk (row_of ps) ≡ false → slice_get ps j ≡ Some (Turn x) → holds_walk x ≡ false
walk_at [] j x h e = cc
walk_at (Gap c ∷ ps) zero x h e = cc
walk_at (Gap c ∷ ps) (suc j) x h e = walk_at ps j x h e
walk_at (Turn y ∷ ps) zero x h e = let same : y ≡ x = cc in subst (λ z. holds_walk z ≡ false) same (or_parts (holds_walk y) (row_walk (row_of ps)) h).0
walk_at (Turn y ∷ ps) (suc j) x h e = walk_at ps j x (or_parts (holds_walk y) (row_walk (row_of ps)) h).1 e

label_at : (ps : List Part) (j : ℕ) (x : Tree) (n : ℕ) → slice_get ps j ≡ Some (Turn x) → has (labels x) n ≡ true → has (labels_row (row_of ps)) n ≡ true
label_at [] j x n e h = cc
label_at (Gap c ∷ ps) zero x n e h = cc
label_at (Gap c ∷ ps) (suc j) x n e h = label_at ps j x n e h
label_at (Turn y ∷ ps) zero x n e h = let same : y ≡ x = cc in list_any-append (λ m. nat_eq m n) (labels y) (labels_row (row_of ps)) ∙ or_left (has (labels y) n) (has (labels_row (row_of ps)) n) (ap (λ z. has (labels z) n) same ∙ h)
label_at (Turn y ∷ ps) (suc j) x n e h = list_any-append (λ m. nat_eq m n) (labels y) (labels_row (row_of ps)) ∙ or_right (has (labels y) n) (has (labels_row (row_of ps)) n) (label_at ps j x n e h)

instance_at : (ps : List Part) (j : ℕ) (x : Tree) (n : ℕ) → slice_get ps j ≡ Some (Turn x) → has (instances x) n ≡ true → has (instances_row (row_of ps)) n ≡ true
instance_at [] j x n e h = cc
instance_at (Gap c ∷ ps) zero x n e h = cc
instance_at (Gap c ∷ ps) (suc j) x n e h = instance_at ps j x n e h
instance_at (Turn y ∷ ps) zero x n e h = let same : y ≡ x = cc in list_any-append (λ m. nat_eq m n) (instances y) (instances_row (row_of ps)) ∙ or_left (has (instances y) n) (has (instances_row (row_of ps)) n) (ap (λ z. has (instances z) n) same ∙ h)
instance_at (Turn y ∷ ps) (suc j) x n e h = list_any-append (λ m. nat_eq m n) (instances y) (instances_row (row_of ps)) ∙ or_right (has (instances y) n) (has (instances_row (row_of ps)) n) (instance_at ps j x n e h)

gap_free : (ps : List Part) (j : ℕ) (c : List ℕ) → has_gap ps ≡ false → slice_get ps j ≡ Some (Gap c) → ⊥
gap_free [] j c h e = cc
gap_free (Gap d ∷ ps) j c h e = cc
gap_free (Turn y ∷ ps) zero c h e = cc
gap_free (Turn y ∷ ps) (suc j) c h e = gap_free ps j c h e

pub all_passed : (ps : List Part) (a : ℕ) (c : List ℕ) (f : Facts) → has_gap ps ≡ false → RowHasFacts (row_of ps) f → FactsPassed a c f → AllPassed a c ps
all_passed ps a c f g p h j (Gap d) e = gap_free ps j d g e
all_passed ps a c f g p (inl h) j (Turn x) e = inl (walk_at ps j x walks e, lacking (has (labels x) a) refl)
  where
    walks : row_walk (row_of ps) ≡ false
    walks = sym p.trail ∙ (or_parts f.holds_walk (lies_in (labels_in f.ranges) a) h).0

    none : has (labels_row (row_of ps)) a ≡ false
    none = lacks_there (labels_row (row_of ps)) a (ap (λ s. lies_in s a) (sym p.labels) ∙ (or_parts f.holds_walk (lies_in (labels_in f.ranges) a) h).1)

    lacking : (b : Bool) → has (labels x) a ≡ b → has (labels x) a ≡ false
    lacking true k = absurd (both_ways (has (labels_row (row_of ps)) a) none (label_at ps j x a e k))
    lacking false k = k
all_passed ps a c f g p (inr w) j (Turn x) e = inr (walk_at ps j x (sym p.trail ∙ w.trail) e, λ n k. ap (λ l. has l n) (sym w.instances) ∙ p.instances n ∙ instance_at ps j x n e k)

-- one part after another
pub passed_next : (ps : List Part) (i k a : ℕ) (c : List ℕ) (q : Part) → slice_get ps k ≡ Some q → IsPassed a c q → ArePassed a c ps i k → ArePassed a c ps i (k + 1)
passed_next ps i k a c q is new f j p low high at = elim (cases_order j k) [
  | inl e ↦ let same : q ≡ p = cc in subst (IsPassed a c) same new
  | inr (inl less) ↦ f j p low less at
  | inr (inr later) ↦ absurd (omega arith)
]

pub passed_first : (ps : List Part) (i a : ℕ) (c : List ℕ) → ArePassed a c ps i i
passed_first ps i a c j p low high at = absurd (omega arith)

-- a search over two lists
get_first : (ps qs : List Part) (j : ℕ) → j < length ps → slice_get (ps ++ qs) j ≡ slice_get ps j
get_first [] qs j h = absurd (omega arith)
get_first (p ∷ ps) qs zero h = refl
get_first (p ∷ ps) qs (suc j) h = get_first ps qs j (omega (arith, h))

get_second : (ps qs : List Part) (j : ℕ) → length ps ≤ j → slice_get (ps ++ qs) j ≡ slice_get qs (j - length ps)
get_second [] qs j h = ap (λ m. slice_get qs m) (omega arith)
get_second (p ∷ ps) qs zero h = absurd (omega arith)
get_second (p ∷ ps) qs (suc j) h = get_second ps qs j (omega (arith, h)) ∙ ap (λ m. slice_get qs m) (omega arith)

pub none_next : (ps : List Part) (i a : ℕ) (c : List ℕ) → AllPassed a c ps → IsNext ps i a c None
none_next ps i a c f j p from to e = f j p e

pub first_next : (ps qs rs : List Part) (i k a : ℕ) (c : List ℕ) → ps ≡ qs ++ rs → IsNext qs i a c (Some k) → IsNext ps i a c (Some k)
first_next ps qs rs i k a c e (from, within, passed) =
    (from, omega (arith, within, length_parts ps qs rs e), λ j p low high at. passed j p low high (sym (get_first qs rs j (omega (arith, high, within))) ∙ ap (λ l. slice_get l j) (sym e) ∙ at))

module _ (ps qs rs : List Part) (i n a : ℕ) (c : List ℕ) (e : ps ≡ qs ++ rs) (long : n ≡ length qs) where
  at_second : (j : ℕ) (p : Part) → n ≤ j → slice_get ps j ≡ Some p → slice_get rs (j - n) ≡ Some p
  at_second j p low at =
      let same : j - length qs ≡ j - n = omega (arith, long) in
      ap (λ m. slice_get rs m) (sym same) ∙ sym (get_second qs rs j (omega (arith, low, long))) ∙ ap (λ l. slice_get l j) (sym e) ∙ at

  -- from within the second list
  pub behind_none : n ≤ i → IsNext rs (i - n) a c None → IsNext ps i a c None
  behind_none lt f j p from to at = f (j - n) p (omega (arith, lt, from)) (omega (arith, lt, from, to, length_parts ps qs rs e, long)) (at_second j p (omega (arith, lt, from)) at)

  pub behind_some : (k : ℕ) → n ≤ i → IsNext rs (i - n) a c (Some k) → IsNext ps i a c (Some (n + k))
  behind_some k lt (from, within, passed) =
      (omega (arith, from, lt), omega (arith, within, length_parts ps qs rs e, long), λ j p low high at. passed (j - n) p (omega (arith, lt, low)) (omega (arith, lt, low, high)) (at_second j p (omega (arith, lt, low)) at))

  in_first : (j : ℕ) (p : Part) → IsNext qs i a c None → i ≤ j → j < n → slice_get ps j ≡ Some p → IsPassed a c p
  in_first j p f low high at = f j p low (omega (arith, high, long)) (sym (get_first qs rs j (omega (arith, high, long))) ∙ ap (λ l. slice_get l j) (sym e) ∙ at)

  either : (j : ℕ) → (j < n) ⊎ (n ≤ j)
  either j = elim (cases_order j n) [
    | inl e ↦ inr (omega arith)
    | inr (inl l) ↦ inl l
    | inr (inr l) ↦ inr (omega arith)
  ]

  -- from within the first list, where it has none
  pub both_none : i < n → IsNext qs i a c None → IsNext rs 0 a c None → IsNext ps i a c None
  both_none lt f g j p from to at = elim (either j) [
    | inl before ↦ in_first j p f from before at
    | inr after ↦ g (j - n) p (omega arith) (omega (arith, after, to, length_parts ps qs rs e, long)) (at_second j p after at)
  ]

  pub both_some : (k : ℕ) → i < n → IsNext qs i a c None → IsNext rs 0 a c (Some k) → IsNext ps i a c (Some (n + k))
  both_some k lt f (from, within, passed) = (
    omega (arith, lt),
    omega (arith, within, length_parts ps qs rs e, long),
    λ j p low high at. elim (either j) [
      | inl before ↦ in_first j p f low before at
      | inr after ↦ passed (j - n) p (omega arith) (omega (arith, after, high)) (at_second j p after at)
    ],
  )

pub ruleset passing = (term_lacks, turn_passed, all_passed, none_next, first_next, passed_first)
