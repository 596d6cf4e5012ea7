-- A tie below which only some items of a level stand: its pairs with an end elsewhere tie nothing.
use Rattle.std.specs.Prelude.{◌≡◌, ◌&&◌, ℕ, Bool, true, false, List, [], ◌∷◌, ◌++◌, filter, map, refl, if◌then◌else◌}
use Rattle.std.proofs.Common.{◌∙◌, ap, sym, append_assoc}
use Rattle.msc_base.specs.declared.label.Pair.{Pair}
use Rattle.msc_base.specs.Orders.{Among, first, later}
use Rattle.msc_unfolding.specs.Unfoldings.{Tag, is_same_tag}
use Rattle.chart_term.specs.NormalForms.{bound_form, kept_pairs, numbers, tie_of, with_pair}
use Rattle.chart_term.specs.Terms.{Tree, has}
use Rattle.chart_term.specs.Views.{pair_of, pairs_of}
use Rattle.expanded_charts.specs.Expanding.{Shown, numbers_with, pairs_between, tied_pairs}

module _ (ns : List ℕ) where
  abbrev kept : List Pair → List (ℕ × ℕ)
  kept qs = kept_pairs ns (pairs_of qs)

  -- the same pairs are kept of both, whatever stands behind
  abbrev KeepSame : List Pair → List Pair → Type 0
  KeepSame a b = (r s : List Pair) → kept r ≡ kept s → kept (a ++ r) ≡ kept (b ++ s)

  same_both : (a b c d : List Pair) → KeepSame a b → KeepSame c d → KeepSame (a ++ c) (b ++ d)
  same_both a b c d f g r s e =
      ap kept (append_assoc a c r) ∙ (f (c ++ r) (d ++ s) (g r s e) ∙ sym (ap kept (append_assoc b d s)))

  kept_with : (p : Pair) (a b : List Pair) → KeepSame a b → KeepSame (p ∷ a) (p ∷ b)
  kept_with p a b f r s e = ap (with_pair (has ns p.first && has ns p.second) (pair_of p)) (f r s e)

  kept_without : (p : Pair) (a b : List Pair) → (has ns p.first && has ns p.second) ≡ false → KeepSame a b → KeepSame (p ∷ a) b
  kept_without p a b none f r s e = ap (λ (t : Bool). with_pair t (pair_of p) (kept (a ++ r))) none ∙ f r s e

  -- the first without some numbers that aren't among those
  data Thinned : List ℕ → List ℕ → Type 0 where
    thin_none : Thinned [] []
    thin_kept : {m : ℕ} {xs ys : List ℕ} → Thinned xs ys → Thinned (m ∷ xs) (m ∷ ys)
    thin_gone : {m : ℕ} {xs ys : List ℕ} → has ns m ≡ false → Thinned xs ys → Thinned (m ∷ xs) ys

  either : (a b : Bool) → b ≡ false → (a && b) ≡ false
  either true b e = e
  either false b e = refl

  abbrev before_each : ℕ → List ℕ → List Pair
  before_each m ks = map (λ (n : ℕ). let p : Pair = record { first = m; second = n } in p) ks

  row_same : (m : ℕ) {xs ys : List ℕ} → Thinned xs ys → KeepSame (before_each m xs) (before_each m ys)
  row_same m thin_none = λ r s e. e
  row_same m (thin_kept {m = n} {xs = xs} {ys = ys} t) = kept_with (record { first = m; second = n }) (before_each m xs) (before_each m ys) (row_same m t)
  row_same m (thin_gone {m = n} {xs = xs} {ys = ys} g t) = kept_without (record { first = m; second = n }) (before_each m xs) (before_each m ys) (either (has ns m) (has ns n) g) (row_same m t)

  row_gone : (m : ℕ) (xs : List ℕ) → has ns m ≡ false → KeepSame (before_each m xs) []
  row_gone m [] g = λ r s e. e
  row_gone m (n ∷ xs) g = kept_without (record { first = m; second = n }) (before_each m xs) [] (ap (λ (b : Bool). b && has ns n) g) (row_gone m xs g)

  between_same : {xs ys : List ℕ} (ks ls : List ℕ) → Thinned xs ys → Thinned ks ls → KeepSame (pairs_between xs ks) (pairs_between ys ls)
  between_same ks ls thin_none u = λ r s e. e
  between_same ks ls (thin_kept {m = m} {xs = xs} {ys = ys} t) u = same_both (before_each m ks) (before_each m ls) (pairs_between xs ks) (pairs_between ys ls) (row_same m u) (between_same ks ls t u)
  between_same ks ls (thin_gone {m = m} {xs = xs} {ys = ys} g t) u = same_both (before_each m ks) [] (pairs_between xs ks) (pairs_between ys ls) (row_gone m ks g) (between_same ks ls t u)

  -- what shows tags in front of others, and behind them
  abbrev Elsewhere : Shown → Type 0
  Elsewhere sh = (p : ℕ × Tag) → Among p sh → has ns p.0 ≡ false

  all_gone : (a : Tag) (sh : Shown) → Elsewhere sh → Thinned (numbers_with a sh) []
  all_gone a [] f = thin_none
  all_gone a (p ∷ sh) f = by (is_same_tag p.1 a) (all_gone a sh (λ q i. f q (later i)))
    where
      by : (b : Bool) → Thinned (numbers_with a sh) [] → Thinned (map (λ (q : ℕ × Tag). q.0) (if b then p ∷ filter (λ (q : ℕ × Tag). is_same_tag q.1 a) sh else filter (λ (q : ℕ × Tag). is_same_tag q.1 a) sh)) []
      by true t = thin_gone (f p first) t
      by false t = t

  mid_kept : (a : Tag) (mid back : Shown) → Elsewhere back → Thinned (numbers_with a (mid ++ back)) (numbers_with a mid)
  mid_kept a [] back f = all_gone a back f
  mid_kept a (p ∷ mid) back f = by (is_same_tag p.1 a) (mid_kept a mid back f)
    where
      test : ℕ × Tag → Bool
      test q = is_same_tag q.1 a

      by : (b : Bool) → Thinned (numbers_with a (mid ++ back)) (numbers_with a mid)
          → Thinned (map (λ (q : ℕ × Tag). q.0) (if b then p ∷ filter test (mid ++ back) else filter test (mid ++ back))) (map (λ (q : ℕ × Tag). q.0) (if b then p ∷ filter test mid else filter test mid))
      by true t = thin_kept t
      by false t = t

  thinned : (a : Tag) (front mid back : Shown) → Elsewhere front → Elsewhere back → Thinned (numbers_with a (front ++ (mid ++ back))) (numbers_with a mid)
  thinned a [] mid back f g = mid_kept a mid back g
  thinned a (p ∷ front) mid back f g = by (is_same_tag p.1 a) (thinned a front mid back (λ q i. f q (later i)) g)
    where
      test : ℕ × Tag → Bool
      test q = is_same_tag q.1 a

      by : (b : Bool) → Thinned (numbers_with a (front ++ (mid ++ back))) (numbers_with a mid) → Thinned (map (λ (q : ℕ × Tag). q.0) (if b then p ∷ filter test (front ++ (mid ++ back)) else filter test (front ++ (mid ++ back)))) (numbers_with a mid)
      by true t = thin_gone (f p first) t
      by false t = t

  tied_same : (ts : List (Tag × Tag)) (front mid back : Shown) → Elsewhere front → Elsewhere back → KeepSame (tied_pairs (front ++ (mid ++ back)) ts) (tied_pairs mid ts)
  tied_same [] front mid back f g = λ r s e. e
  tied_same (t ∷ ts) front mid back f g =
      let all : Shown = front ++ (mid ++ back) in
      same_both (pairs_between (numbers_with t.0 all) (numbers_with t.1 all)) (pairs_between (numbers_with t.0 mid) (numbers_with t.1 mid)) (tied_pairs all ts) (tied_pairs mid ts)
      (between_same (numbers_with t.1 all) (numbers_with t.1 mid) (thinned t.0 front mid back f g) (thinned t.1 front mid back f g)) (tied_same ts front mid back f g)

-- the tie is that of the pairs among what the term has
pub tie_same : (x : Tree) (ts : List (Tag × Tag)) (front mid back : Shown) → ((p : ℕ × Tag) → Among p front → has (numbers x) p.0 ≡ false) → ((p : ℕ × Tag) → Among p back → has (numbers x) p.0 ≡ false)
    → tie_of x (pairs_of (tied_pairs (front ++ (mid ++ back)) ts)) ≡ tie_of x (pairs_of (tied_pairs mid ts))
tie_same x ts front mid back f g = ap (bound_form x) (plain (tied_pairs (front ++ (mid ++ back)) ts) (tied_pairs mid ts) (tied_same (numbers x) ts front mid back f g))
  where
    nil : (a : List Pair) → a ++ [] ≡ a
    nil [] = refl
    nil (p ∷ a) = ap (λ (l : List Pair). p ∷ l) (nil a)

    plain : (a b : List Pair) → KeepSame (numbers x) a b → kept (numbers x) a ≡ kept (numbers x) b
    plain a b h = sym (ap (kept (numbers x)) (nil a)) ∙ (h [] [] refl ∙ ap (kept (numbers x)) (nil b))
