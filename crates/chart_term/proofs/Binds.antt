-- Pairs that a tie keeps, and numbers that are gathered, one after another.
use Rattle.std.proofs.Common.{◌≡◌, ℕ, ◌+◌, ◌<◌, inl, inr, Bool, true, false, ◌||◌, ◌&&◌, not, cond, ◌==◌, List, [], ◌∷◌, ◌++◌, refl, ap, ap₂, sym, ◌∙◌, arith, length, take, get_or, append-nil}
use Rattle.std.specs.List.{list_any}
use Rattle.std.specs.Ordering.{is_eq, nat_cmp, ordering_then}
use Rattle.std.specs.declared.cmp.Ordering.{Ordering}
use Rattle.std.specs.declared.cmp.Ordering.TheVariants.{Less, Equal, Greater}
use Rattle.std.proofs.lemmas.Bool.{cases_order, lt-ltb, le-ltb, eq-eqb, ne_eqb, eqb-true}
use Rattle.std.proofs.lemmas.List.{map-append}
use Rattle.std.proofs.lemmas.List.Folds.{list_any-append}
use Rattle.msc_base.specs.declared.label.Pair.{Pair}
use Rattle.chart_term.specs.NormalForms.{without_pair, with_pair, unless_pair, kept_pairs}
use Rattle.chart_term.specs.Order.{pair_cmp}
use Rattle.chart_term.specs.Terms.{has}
use Rattle.chart_term.specs.Views.{pair_of, pairs_of}
use Rattle.chart_term.proofs.Flattening.{taken_next}

-- whether two pairs are equal
abbrev pub same_pair : ℕ × ℕ → ℕ × ℕ → Bool
same_pair p r = (p.0 == r.0) && (p.1 == r.1)

-- whether the pair is one of these
abbrev pub pair_met : ℕ × ℕ → List (ℕ × ℕ) → Bool
pair_met p q = list_any (λ r. same_pair r p) q

-- whether both ends are among the numbers
abbrev pub occurs : List ℕ → ℕ × ℕ → Bool
occurs ns p = has ns p.0 && has ns p.1

abbrev put_pair : Bool → ℕ × ℕ → List (ℕ × ℕ) → List (ℕ × ℕ)
put_pair true p q = q ++ p ∷ []
put_pair false p q = q

without_pair-append : (p : ℕ × ℕ) (q s : List (ℕ × ℕ)) → without_pair p (q ++ s) ≡ without_pair p q ++ without_pair p s
without_pair-append p [] s = refl
without_pair-append p (r ∷ q) s = ap (unless_pair (same_pair p r) r) (without_pair-append p q s) ∙ out (same_pair p r) r (without_pair p q) (without_pair p s)
  where
    out : (b : Bool) (r : ℕ × ℕ) (u v : List (ℕ × ℕ)) → unless_pair b r (u ++ v) ≡ unless_pair b r u ++ v
    out true r u v = refl
    out false r u v = refl

same_ends : (p r : ℕ × ℕ) → same_pair p r ≡ true → (p.0 ≡ r.0) × (p.1 ≡ r.1)
same_ends p r h = both (p.0 == r.0) (p.1 == r.1) refl refl h
  where
    both : (a b : Bool) → (p.0 == r.0) ≡ a → (p.1 == r.1) ≡ b → (a && b) ≡ true → (p.0 ≡ r.0) × (p.1 ≡ r.1)
    both true true x y k = (eqb-true p.0 r.0 x, eqb-true p.1 r.1 y)
    both true false x y k = cc
    both false b x y k = cc

same_occurs : (ns : List ℕ) (p r : ℕ × ℕ) → same_pair r p ≡ true → occurs ns r ≡ occurs ns p
same_occurs ns p r h = let (a, b) = same_ends r p h in ap₂ (λ m n. has ns m && has ns n) a b

kept-snoc : (ns : List ℕ) (q : List (ℕ × ℕ)) (p : ℕ × ℕ) → kept_pairs ns (q ++ p ∷ []) ≡ put_pair (occurs ns p && not (pair_met p q)) p (kept_pairs ns q)
kept-snoc ns [] p = first (occurs ns p)
  where
    first : (b : Bool) → with_pair b p [] ≡ put_pair (b && true) p []
    first true = refl
    first false = refl
kept-snoc ns (r ∷ q) p = ap (with_pair (occurs ns r) r) (kept-snoc ns q p) ∙ by_case (occurs ns r) (occurs ns p) (pair_met p q) (same_pair r p) refl (same_occurs ns p r)
  where
    by_case : (a b met same : Bool) → same_pair r p ≡ same → (same_pair r p ≡ true → a ≡ b) → with_pair a r (put_pair (b && not met) p (kept_pairs ns q)) ≡ put_pair (b && not (same || met)) p (with_pair a r (kept_pairs ns q))
    by_case a false met same e f = refl
    by_case a true true true e f = refl
    by_case a true true false e f = refl
    by_case true true false true e f = ap (λ l. r ∷ l) (without_pair-append r (kept_pairs ns q) (p ∷ []) ∙ ap (λ b. without_pair r (kept_pairs ns q) ++ unless_pair b p []) e ∙ append-nil (without_pair r (kept_pairs ns q)))
    by_case true true false false e f = ap (λ l. r ∷ l) (without_pair-append r (kept_pairs ns q) (p ∷ []) ∙ ap (λ b. without_pair r (kept_pairs ns q) ++ unless_pair b p []) e)
    by_case false true false true e f = let bad : false ≡ true = f e in cc
    by_case false true false false e f = refl

pairs_next : (xs : List Pair) (i : ℕ) (x : Pair) → i < length xs → x ≡ get_or xs i x → pairs_of (take (i + 1) xs) ≡ pairs_of (take i xs) ++ pair_of x ∷ []
pairs_next xs i x lt e = ap pairs_of (taken_next xs i x lt e) ∙ map-append pair_of (take i xs) (x ∷ [])

kept_next : (ns : List ℕ) (xs : List Pair) (i : ℕ) (x : Pair) → i < length xs → x ≡ get_or xs i x → kept_pairs ns (pairs_of (take (i + 1) xs)) ≡ put_pair (occurs ns (pair_of x) && not (pair_met (pair_of x) (pairs_of (take i xs)))) (pair_of x) (kept_pairs ns (pairs_of (take i xs)))
kept_next ns xs i x lt e = ap (kept_pairs ns) (pairs_next xs i x lt e) ∙ kept-snoc ns (pairs_of (take i xs)) (pair_of x)

-- whether the pair is kept: both ends occur, and it is new
keeps : (ns : List ℕ) (met : List (ℕ × ℕ)) (p : ℕ × ℕ) (first second new old keep : Bool) → first ≡ has ns p.0 → second ≡ has ns p.1 → new ≡ not old → old ≡ pair_met p met → keep ≡ ((first && second) && new) → occurs ns p && not (pair_met p met) ≡ keep
keeps ns met p first second new old keep a b c d e = sym (e ∙ ap₂ (λ x y. x && y) (ap₂ (λ x y. x && y) a b) (c ∙ ap not d))

pub pair_kept : (ns : List ℕ) (xs : List Pair) (i : ℕ) (x : Pair) (kept after : List Pair) (first second new old keep : Bool) → i < length xs → x ≡ get_or xs i x → first ≡ has ns x.first → second ≡ has ns x.second → new ≡ not old → old ≡ pair_met (pair_of x) (pairs_of (take i xs)) → keep ≡ ((first && second) && new) → pairs_of kept ≡ kept_pairs ns (pairs_of (take i xs)) → keep ≡ true → after ≡ kept ++ x ∷ [] → pairs_of after ≡ kept_pairs ns (pairs_of (take (i + 1) xs))
pair_kept ns xs i x kept after first second new old keep lt e a b c d k so yes_ put =
    ap pairs_of put ∙ map-append pair_of kept (x ∷ []) ∙ ap (λ l. l ++ pair_of x ∷ []) so
    ∙ sym (kept_next ns xs i x lt e ∙ ap (λ t. put_pair t (pair_of x) (kept_pairs ns (pairs_of (take i xs)))) (keeps ns (pairs_of (take i xs)) (pair_of x) first second new old keep a b c d k ∙ yes_))

pub pair_dropped : (ns : List ℕ) (xs : List Pair) (i : ℕ) (x : Pair) (kept : List Pair) (first second new old keep : Bool) → i < length xs → x ≡ get_or xs i x → first ≡ has ns x.first → second ≡ has ns x.second → new ≡ not old → old ≡ pair_met (pair_of x) (pairs_of (take i xs)) → keep ≡ ((first && second) && new) → pairs_of kept ≡ kept_pairs ns (pairs_of (take i xs)) → keep ≡ false → pairs_of kept ≡ kept_pairs ns (pairs_of (take (i + 1) xs))
pair_dropped ns xs i x kept first second new old keep lt e a b c d k so no_ =
    so ∙ sym (kept_next ns xs i x lt e ∙ ap (λ t. put_pair t (pair_of x) (kept_pairs ns (pairs_of (take i xs)))) (keeps ns (pairs_of (take i xs)) (pair_of x) first second new old keep a b c d k ∙ no_))

number_same : (m n : ℕ) → is_eq (nat_cmp m n) ≡ (m == n)
number_same m n = elim (cases_order m n) [
  | inl e ↦ rw (le-ltb m n (omega arith), eq-eqb m n e) refl
  | inr (inl less) ↦ rw (lt-ltb m n less, ne_eqb m n (omega arith)) refl
  | inr (inr later) ↦ rw (le-ltb m n (omega arith), ne_eqb m n (omega arith)) refl
]

pair_same : (p r : ℕ × ℕ) → is_eq (pair_cmp p r) ≡ same_pair p r
pair_same p r = split (nat_cmp p.0 r.0) (nat_cmp p.1 r.1) ∙ ap₂ (λ a b. a && b) (number_same p.0 r.0) (number_same p.1 r.1)
  where
    split : (o u : Ordering) → is_eq (ordering_then o u) ≡ (is_eq o && is_eq u)
    split Less u = refl
    split Equal u = refl
    split Greater u = refl

pub pair_seen : (xs : List Pair) (i : ℕ) (x : Pair) (r : ℕ × ℕ) (old new : Bool) → i < length xs → x ≡ get_or xs i x → new ≡ cond (is_eq (pair_cmp (pair_of x) r)) true old → old ≡ pair_met r (pairs_of (take i xs)) → new ≡ pair_met r (pairs_of (take (i + 1) xs))
pair_seen xs i x r old new lt e p q =
    p ∙ ap₂ (λ b c. cond b true c) (pair_same (pair_of x) r) q ∙ turned (same_pair (pair_of x) r) (pair_met r (pairs_of (take i xs)))
    ∙ sym (ap (pair_met r) (pairs_next xs i x lt e) ∙ list_any-append (λ s. same_pair s r) (pairs_of (take i xs)) (pair_of x ∷ []) ∙ ap (λ b. pair_met r (pairs_of (take i xs)) || b) (or_none (same_pair (pair_of x) r)))
  where
    or_none : (b : Bool) → (b || false) ≡ b
    or_none true = refl
    or_none false = refl

    turned : (b c : Bool) → cond b true c ≡ (c || b)
    turned true true = refl
    turned true false = refl
    turned false true = refl
    turned false false = refl
