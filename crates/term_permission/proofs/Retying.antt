-- The pairs of a tie that are still live, looked at where a search finds them.
use Rattle.std.specs.List.{list_any, position_from}
use Rattle.std.specs.Prelude.{ℕ, ◌+◌, ◌<◌, ◌≤◌, ◌==◌, Bool, true, false, List, [], ◌∷◌, ◌++◌, ◌≡◌, ◌||◌, ◌&&◌, Some, None, refl, length, take, drop, slice_get, filter}
use Rattle.std.proofs.Common.{ap, ap₂, sym, ◌∙◌, arith, cond, subst}
use Rattle.std.proofs.lemmas.Bool.Decides.{nat_tests}
use Rattle.std.proofs.lemmas.List.{take_at, append_assoc, length-append}
use Rattle.std.proofs.lemmas.List.Elements.{filter-append}
use Rattle.std.proofs.lemmas.Bool.{or_parts}
use Rattle.msc_base.specs.declared.label.Pair.{Pair}
use Rattle.term_facts.specs.NodeFacts.{lies_in, numbers_in}
use Rattle.term_facts.specs.declared.facts.Facts.{Facts}
use Rattle.term_facts.specs.declared.facts.Span.{Span}
use Rattle.tie_list.specs.Names.{has_end_in}
use Rattle.chart_term.specs.Facts.{HasFacts}
use Rattle.chart_term.specs.NormalForms.{bound_form, kept_pairs, numbers, tie_of, unless_pair, with_pair, without_pair}
use Rattle.chart_term.specs.Tables.{Tables}
use Rattle.chart_term.specs.TermPatterns.{pairs}
use Rattle.chart_term.specs.Terms.{Tree, Tied, has}
use Rattle.chart_term.specs.Views.{pair_of, pairs_of}
use Rattle.chart_term.proofs.Binding.{kept_less}
use Rattle.chart_term.proofs.Passing.{lies_there}
use Rattle.term_laws.specs.Normality.{ArePairsOnce, AreShown}
use Rattle.term_permission.specs.Gone.{AreShownBut, has_ends}
use Rattle.term_permission.specs.Ready.{IsReady}

-- where a search from an index finds its item
pub record IsFound {A : Type 0} (test : A → Bool) (i : ℕ) (xs : List A) (at : ℕ) : Type 0 where
  pub middle : List A
  pub item : A
  pub behind : List A
  pub are : xs ≡ middle ++ item ∷ behind
  pub place : at ≡ i + length middle
  pub passed : list_any test middle ≡ false
  pub there : test item ≡ true

same_place : (i j : ℕ) → Some i ≡ Some j → j ≡ i + 0
same_place i j h = let e : i ≡ j = cc in omega (arith, e)

pub found_at : {A : Type 0} (test : A → Bool) (i : ℕ) (xs : List A) (at : ℕ) → position_from test i xs ≡ Some at → IsFound test i xs at
found_at test i [] at h = cc
found_at test i (x ∷ xs) at h = by_case (test x) refl h (found_at test (i + 1) xs at)
  where
    by_case : (b : Bool) → test x ≡ b → cond b (Some i) (position_from test (i + 1) xs) ≡ Some at → (position_from test (i + 1) xs ≡ Some at → IsFound test (i + 1) xs at) → IsFound test i (x ∷ xs) at
    by_case true e k f = record { middle = []; item = x; behind = xs; are = refl; place = same_place i at k; passed = refl; there = e }
    by_case false e k f =
        let g = f k in
        record { middle = x ∷ g.middle; item = g.item; behind = g.behind; are = ap (λ l. x ∷ l) g.are; place = omega (arith, g.place); passed = ap₂ (λ a b. a || b) e g.passed; there = g.there }

pub none_at : {A : Type 0} (test : A → Bool) (i : ℕ) (xs : List A) → position_from test i xs ≡ None → list_any test xs ≡ false
none_at test i [] h = refl
none_at test i (x ∷ xs) h = by_case (test x) refl h (none_at test (i + 1) xs)
  where
    by_case : (b : Bool) → test x ≡ b → cond b (Some i) (position_from test (i + 1) xs) ≡ None → (position_from test (i + 1) xs ≡ None → list_any test xs ≡ false) → list_any test (x ∷ xs) ≡ false
    by_case true e k f = cc
    by_case false e k f = ap₂ (λ a b. a || b) e (f k)

-- a list in two parts
pub drop_front : {A : Type 0} (xs ys : List A) (i : ℕ) → i ≡ length xs → drop i (xs ++ ys) ≡ ys
drop_front {A} xs ys i e = ap (λ n. drop n (xs ++ ys)) e ∙ go xs
  where
    go : (zs : List A) → drop (length zs) (zs ++ ys) ≡ ys
    go [] = refl
    go (z ∷ zs) = go zs

pub get_front : {A : Type 0} (xs : List A) (y : A) (ys : List A) (i : ℕ) → i ≡ length xs → slice_get (xs ++ y ∷ ys) i ≡ Some y
get_front {A} xs y ys i e = ap (slice_get (xs ++ y ∷ ys)) e ∙ go xs
  where
    go : (zs : List A) → slice_get (zs ++ y ∷ ys) (length zs) ≡ Some y
    go [] = refl
    go (z ∷ zs) = go zs

keep_one : {A : Type 0} (b : Bool) (x : A) (xs : List A) → b ≡ true → cond b (x ∷ xs) xs ≡ x ∷ xs
keep_one b x xs e = ap (λ c. cond c (x ∷ xs) xs) e

drop_one : {A : Type 0} (b : Bool) (x : A) (xs : List A) → b ≡ false → cond b (x ∷ xs) xs ≡ xs
drop_one b x xs e = ap (λ c. cond c (x ∷ xs) xs) e

module _ (s : Span) (ns : List ℕ) where
  -- pairs without an end in the span are live
  live : (q : List Pair) → AreShownBut s ns q → list_any (has_end_in s.least s.greatest) q ≡ false → filter (has_ends ns) q ≡ q
  live [] h f = refl
  live (p ∷ q) h f =
      let (a, b) = or_parts (has_end_in s.least s.greatest p) (list_any (has_end_in s.least s.greatest) q) f in
      keep_one (has_ends ns p) p (filter (has_ends ns) q) (h.0 a) ∙ ap (λ l. p ∷ l) (live q h.1 b)

  shown_behind : (q r : List Pair) → AreShownBut s ns (q ++ r) → AreShownBut s ns r
  shown_behind [] r h = h
  shown_behind (p ∷ q) r h = shown_behind q r h.1

  shown_front : (q r : List Pair) → AreShownBut s ns (q ++ r) → AreShownBut s ns q
  shown_front [] r h = tt
  shown_front (p ∷ q) r h = (h.0, shown_front q r h.1)

  -- the pairs before an index are live, those from there on are as they were
  pub record IsWalked (all kept : List Pair) (from : ℕ) : Type 0 where
    pub before : List Pair
    pub behind : List Pair
    pub are : kept ≡ before ++ behind
    pub place : from ≡ length before
    pub shown : AreShownBut s ns behind
    pub same : filter (has_ends ns) all ≡ before ++ filter (has_ends ns) behind

  pub walk_starts : (all kept : List Pair) → AreShownBut s ns all → kept ≡ all → IsWalked all kept 0
  walk_starts all kept h e = record { before = []; behind = all; are = e; place = refl; shown = h; same = refl }

  module _ (all kept : List Pair) (from at : ℕ) (w : IsWalked all kept from) (h : Some at ≡ position_from (has_end_in s.least s.greatest) from (drop from kept)) where
    found : IsFound (has_end_in s.least s.greatest) from w.behind at
    found = found_at (has_end_in s.least s.greatest) from w.behind at (sym (h ∙ ap (position_from (has_end_in s.least s.greatest) from) (ap (drop from) w.are ∙ drop_front w.before w.behind from w.place)))

    -- where the pair stands
    whole : kept ≡ (w.before ++ found.middle) ++ found.item ∷ found.behind
    whole = w.are ∙ (ap (λ l. w.before ++ l) found.are ∙ sym (append_assoc w.before found.middle (found.item ∷ found.behind)))

    here : at ≡ length (w.before ++ found.middle)
    here = omega (arith, w.place, found.place, length-append w.before found.middle)

    pub goes_on : from ≤ at
    goes_on = omega (arith, found.place)

    pub is_within : at < length kept
    is_within = let l = length-append (w.before ++ found.middle) (found.item ∷ found.behind) in let k = ap length whole in omega (arith, here, l, k)

    shown_all : AreShownBut s ns (found.middle ++ found.item ∷ found.behind)
    shown_all = subst (AreShownBut s ns) found.are w.shown

    middle_live : filter (has_ends ns) found.middle ≡ found.middle
    middle_live = live found.middle (shown_front found.middle (found.item ∷ found.behind) shown_all) found.passed

    tail_shown : AreShownBut s ns found.behind
    tail_shown = (shown_behind found.middle (found.item ∷ found.behind) shown_all).1

    is_item : (p : Pair) → slice_get kept at ≡ Some p → found.item ≡ p
    is_item p e = got (sym (sym e ∙ (ap (λ l. slice_get l at) whole ∙ get_front (w.before ++ found.middle) found.item found.behind at here)))
      where
        got : Some found.item ≡ Some p → found.item ≡ p
        got k = cc

    split : filter (has_ends ns) all ≡ (w.before ++ found.middle) ++ cond (has_ends ns found.item) (found.item ∷ filter (has_ends ns) found.behind) (filter (has_ends ns) found.behind)
    split =
        w.same
        ∙ (ap (λ l. w.before ++ l) (ap (filter (has_ends ns)) found.are ∙ (filter-append (has_ends ns) found.middle (found.item ∷ found.behind) ∙ ap (λ l. l ++ cond (has_ends ns found.item) (found.item ∷ filter (has_ends ns) found.behind) (filter (has_ends ns) found.behind)) middle_live))
        ∙ sym (append_assoc w.before found.middle (cond (has_ends ns found.item) (found.item ∷ filter (has_ends ns) found.behind) (filter (has_ends ns) found.behind))))

    -- the pair that is found is live
    pub walk_keeps : (p : Pair) (after : ℕ) → slice_get kept at ≡ Some p → has_ends ns p ≡ true → after ≡ at + 1 → IsWalked all kept after
    walk_keeps p after e live_ n = record {
      before = (w.before ++ found.middle) ++ found.item ∷ [];
      behind = found.behind;
      are = whole ∙ sym (append_assoc (w.before ++ found.middle) (found.item ∷ []) found.behind);
      place = omega (arith, n, here, length-append (w.before ++ found.middle) (found.item ∷ []));
      shown = tail_shown;
      same =
          split ∙ (ap (λ l. (w.before ++ found.middle) ++ l) (keep_one (has_ends ns found.item) found.item (filter (has_ends ns) found.behind) (ap (has_ends ns) (is_item p e) ∙ live_))
          ∙ sym (append_assoc (w.before ++ found.middle) (found.item ∷ []) (filter (has_ends ns) found.behind)));
    }

    next_at : at + 1 ≡ length ((w.before ++ found.middle) ++ found.item ∷ [])
    next_at = omega (arith, here, length-append (w.before ++ found.middle) (found.item ∷ []))

    -- it isn't, and is dropped
    without : take at kept ++ drop (at + 1) kept ≡ (w.before ++ found.middle) ++ found.behind
    without =
        ap₂ (λ k l. k ++ l) (ap (take at) whole ∙ take_at (w.before ++ found.middle) (found.item ∷ found.behind) at (sym here))
        (ap (drop (at + 1)) (whole ∙ sym (append_assoc (w.before ++ found.middle) (found.item ∷ []) found.behind)) ∙ drop_front ((w.before ++ found.middle) ++ found.item ∷ []) found.behind (at + 1) next_at)

    pub walk_drops : (p : Pair) (new : List Pair) → slice_get kept at ≡ Some p → has_ends ns p ≡ false → new ≡ take at kept ++ drop (at + 1) kept → IsWalked all new at
    walk_drops p new e dead n = record {
      before = w.before ++ found.middle;
      behind = found.behind;
      are = n ∙ without;
      place = here;
      shown = tail_shown;
      same = split ∙ ap (λ l. (w.before ++ found.middle) ++ l) (drop_one (has_ends ns found.item) found.item (filter (has_ends ns) found.behind) (ap (has_ends ns) (is_item p e) ∙ dead));
    }

    pub is_shorter : (new : List Pair) → new ≡ take at kept ++ drop (at + 1) kept → length new + 1 ≡ length kept
    is_shorter new n =
        let k = ap length (n ∙ without) ∙ length-append (w.before ++ found.middle) found.behind in
        let l = ap length whole ∙ length-append (w.before ++ found.middle) (found.item ∷ found.behind) in
        omega (arith, k, l)

  -- at the end all are live
  pub walk_ends : (all kept : List Pair) (from : ℕ) → IsWalked all kept from → None ≡ position_from (has_end_in s.least s.greatest) from (drop from kept) → filter (has_ends ns) all ≡ kept
  walk_ends all kept from w h =
      let none = none_at (has_end_in s.least s.greatest) from w.behind (sym (h ∙ ap (position_from (has_end_in s.least s.greatest) from) (ap (drop from) w.are ∙ drop_front w.before w.behind from w.place))) in
      w.same ∙ (ap (λ l. w.before ++ l) (live w.behind w.shown none) ∙ sym w.are)

-- pairs that stand once, in normal form
without_none : (p : ℕ × ℕ) (q : List (ℕ × ℕ)) → pairs q p.0 p.1 ≡ false → without_pair p q ≡ q
without_none p [] h = refl
without_none p (r ∷ q) h = let (u, v) = or_parts ((p.0 == r.0) && (p.1 == r.1)) (pairs q p.0 p.1) h in λ i. unless_pair (u i) r (without_none p q v i)

kept_live : (ns : List ℕ) (q : List Pair) → ArePairsOnce (pairs_of q) → kept_pairs ns (pairs_of q) ≡ pairs_of (filter (has_ends ns) q)
kept_live ns [] h = refl
kept_live ns (p ∷ q) h = by_case (has_ends ns p) (kept_live ns q h.1)
  where
    by_case : (b : Bool) → kept_pairs ns (pairs_of q) ≡ pairs_of (filter (has_ends ns) q) → with_pair b (pair_of p) (kept_pairs ns (pairs_of q)) ≡ pairs_of (cond b (p ∷ filter (has_ends ns) q) (filter (has_ends ns) q))
    by_case true e = ap (λ l. pair_of p ∷ l) (without_none (pair_of p) (kept_pairs ns (pairs_of q)) (kept_less ns (pairs_of q) p.first p.second h.0) ∙ e)
    by_case false e = e

-- what is put back
pub tied_none : (x z : Tree) (q kept : List Pair) → ArePairsOnce (pairs_of q) → filter (has_ends (numbers x)) q ≡ kept → true ≡ (length kept == 0) → z ≡ x → z ≡ tie_of x (pairs_of q)
tied_none x z q kept o e l h = h ∙ sym (ap (bound_form x) (kept_live (numbers x) q o ∙ ap pairs_of e) ∙ empty_form kept l)
  where
    empty_form : (k : List Pair) → true ≡ (length k == 0) → bound_form x (pairs_of k) ≡ x
    empty_form [] m = refl
    empty_form (p ∷ k) m = let q : (length (p ∷ k) == 0) ≡ false = grind (arith, nat_tests) in cc

pub tied_some : (x z : Tree) (q kept : List Pair) → ArePairsOnce (pairs_of q) → filter (has_ends (numbers x)) q ≡ kept → false ≡ (length kept == 0) → z ≡ Tied x (pairs_of kept) → z ≡ tie_of x (pairs_of q)
tied_some x z q kept o e l h = h ∙ sym (ap (bound_form x) (kept_live (numbers x) q o ∙ ap pairs_of e) ∙ some_form kept l)
  where
    some_form : (k : List Pair) → false ≡ (length k == 0) → bound_form x (pairs_of k) ≡ Tied x (pairs_of k)
    some_form [] m = cc
    some_form (p ∷ k) m = refl

-- pairs in normal form have both ends in a term, and so in the span of what it had
pub shown_by_span : (s : Span) (ns ms : List ℕ) (q : List Pair) → AreShown ns (pairs_of q) → ((n : ℕ) → has ns n ≡ true → lies_in (Some s) n ≡ true) → AreShownBut s ms q
shown_by_span s ns ms [] h f = tt
shown_by_span s ns ms (p ∷ q) h f = (λ e. absurd (apart (lies_in (Some s) p.first) (f p.first h.0) (or_parts (lies_in (Some s) p.first) (lies_in (Some s) p.second) e).0), shown_by_span s ns ms q h.2 f)
  where
    apart : (b : Bool) → b ≡ true → b ≡ false → ⊥
    apart b u v = cc

-- where numbers beside the span are kept
pub shown_by_kept : (s : Span) (ns ms : List ℕ) (q : List Pair) → AreShown ns (pairs_of q) → ((n : ℕ) → has ns n ≡ true → lies_in (Some s) n ≡ false → has ms n ≡ true) → AreShownBut s ms q
shown_by_kept s ns ms [] h f = tt
shown_by_kept s ns ms (p ∷ q) h f = (
  λ e. let (a, b) = or_parts (lies_in (Some s) p.first) (lies_in (Some s) p.second) e in ap₂ (λ c d. c && d) (f p.first h.0 a) (f p.second h.1 b),
  shown_by_kept s ns ms q h.2 f,
)

-- the range of a term has its numbers
pub range_there : (x : Tree) (f : Facts) (r : Span) → HasFacts x f → ((n : ℕ) → lies_in (numbers_in f.ranges) n ≡ true → lies_in (Some r) n ≡ true) → (n : ℕ) → has (numbers x) n ≡ true → lies_in (Some r) n ≡ true
range_there x f r h c n i = c n (ap (λ u. lies_in u n) h.span ∙ lies_there (numbers x) n i)

-- the pairs of a tie in normal form
pub tied_pairs : (w : Tables) (x y : Tree) (q : List (ℕ × ℕ)) → x ≡ Tied y q → IsReady w x → AreShown (numbers y) q × ArePairsOnce q
tied_pairs w x y q e h = let n = subst (λ (u : Tree). IsReady w u) e h in (n.normal.2, n.normal.3)
