-- The normalising constructors make terms in normal form, and so do permission and taking.
use Rattle.std.specs.Prelude.{ℕ, zero, suc, ◌<◌, Bool, true, false, ltb, List, [], ◌∷◌, ◌≡◌, ◌&&◌, ◌||◌, ◌==◌, Option, Some, None, refl}
use Rattle.std.specs.Option.{option_map}
use Rattle.std.proofs.Common.{ap, ◌∙◌, arith, cond}
use Rattle.std.proofs.lemmas.Bool.Decides.{nat_tests}
use Rattle.std.proofs.lemmas.Bool.{ltb-true, both_ways, or_parts, and_parts}
use Rattle.msc_base.specs.Patterns.{Mode, seq, par}
use Rattle.hmsc_graph.specs.Graphs.{Spot, At, Goal, To, End, Any, reach}
use Rattle.chart_term.specs.Equality.{same_tree}
use Rattle.chart_term.specs.NormalForms.{NetPermits, only, cut, open_part, flat, join_of, join_all, and_then, or_skip, unless, choice_of, choice_form, unless_same, without, distinct, open_choice, open_choices, unless_pair, without_pair, with_pair, kept_pairs, bound_form, tie_of, numbers, cut_gaps, put_turn, drop_nil, only_turns, at_zero, live_gap, live, is_nil, has_free, free_gap, drop_free, lower_of, thin_gap, thin, has_gap, begun, turns_form, loop_of, turns_in, some_kept, walk_of, walk_cut, walk_form, allowed, are_nil}
use Rattle.chart_term.specs.Properties.{Each, EachTurn, EachGap, MayHave}
use Rattle.chart_term.specs.TermPatterns.{instances_of, earlier, pairs}
use Rattle.chart_term.specs.Terms.{TermEvent, Block, has, hits, add_at, add_member, ◌∪◌, Tree, Nil, Event, Join, Choice, Tied, Loop, Walk, Trees, none, more, Row, ends, gap, turn, items, trees, Part, Gap, Turn, parts, row_of}
use Rattle.chart_term.proofs.Lists.{items-trees, parts-row_of}
use Rattle.chart_term.proofs.Looping.{IsSubRow, sub_end, sub_gap, sub_drop, sub_turn, sub_over, sub_nil, sub_zero, sub_live, sub_free}
use Rattle.term_laws.specs.Normality.{IsAbove, IsSet, IsPartOf, IsAlternative, AreDifferent, AreShown, ArePairsOnce, IsPositive, IsNotNil, AreApart, IsNormalLoop, IsNormalWalk, IsNormal, AreNormal, IsNormalRow}
use Rattle.chart_term.specs.Spreads.{touch}
use Rattle.term_laws.specs.Permission.{permit, permit_all, permit_some, permit_row, wider, with_turn}
use Rattle.term_laws.specs.Taking.{Stays, fewer, down, IsAfter, after_event, after_choice, after_join, after_tied, after_loop, after_walk, IsAfterOne, first_one, later_one, IsAfterJoin, first_part, later_part, IsAfterRow, in_turn, in_gap, past_turn, past_gap}
use Rattle.term_laws.proofs.Keeping.{sub_thin, each_turn_sub, each_turn_cut, at_some}
use Rattle.term_laws.proofs.Opening.{each_flat, each_choices, each_without, each_distinct, each_app}

-- Sets

pub above_less : (n m : ℕ) (c : List ℕ) → n < m → IsAbove m c → IsAbove n c
above_less n m [] l h = tt
above_less n m (k ∷ c) l h = omega arith

less_of : (n m : ℕ) → (n == m) ≡ false → ltb n m ≡ false → m < n
less_of n m e h = grind (arith, nat_tests)

above_at : (m n k : ℕ) (ks r : List ℕ) (a b : Bool) → m < n → m < k → IsAbove m (add_at a b n k ks r)
above_at m n k ks r true b l p = p
above_at m n k ks r false true l p = l
above_at m n k ks r false false l p = p

above_added : (m n : ℕ) (c : List ℕ) → m < n → IsAbove m c → IsAbove m (add_member n c)
above_added m n [] l p = l
above_added m n (k ∷ c) l p = above_at m n k c (add_member n c) (n == k) (ltb n k) l p

pub add_set : (n : ℕ) (c : List ℕ) → IsSet c → IsSet (add_member n c)
add_set n [] h = (tt, tt)
add_set n (m ∷ c) h = go (n == m) (ltb n m) refl refl (add_set n c h.1)
  where
    go : (a b : Bool) → (n == m) ≡ a → ltb n m ≡ b → IsSet (add_member n c) → IsSet (add_at a b n m c (add_member n c))
    go true b e l r = h
    go false true e l r = (ltb-true n m l, h)
    go false false e l r = (above_added m n c (less_of n m e l) h.0, r)

pub union_set : (c d : List ℕ) → IsSet c → IsSet (c ∪ d)
union_set c [] h = h
union_set c (n ∷ d) h = add_set n (c ∪ d) (union_set c d h)

pub above_cut : (all : List ℕ) (n : ℕ) (c : List ℕ) → IsSet c → IsAbove n c → IsAbove n (cut all c)
above_cut all n [] h l = tt
above_cut all n (m ∷ c) h l = go (has all m) (above_cut all n c h.1 (above_less n m c l h.0))
  where
    go : (t : Bool) → IsAbove n (cut all c) → IsAbove n (cond t (m ∷ cut all c) (cut all c))
    go true r = l
    go false r = r

pub cut_set : (all c : List ℕ) → IsSet c → IsSet (cut all c)
cut_set all [] h = tt
cut_set all (m ∷ c) h = go (has all m) (cut_set all c h.1)
  where
    go : (t : Bool) → IsSet (cut all c) → IsSet (cond t (m ∷ cut all c) (cut all c))
    go true r = (above_cut all m c h.1 h.0, r)
    go false r = r

pub cut_again : (all c : List ℕ) → cut all (cut all c) ≡ cut all c
cut_again all [] = refl
cut_again all (m ∷ c) = go (has all m) refl (cut_again all c)
  where
    head : (t : Bool) → has all m ≡ true → cond (has all m) (m ∷ cut all (cut all c)) (cut all (cut all c)) ≡ m ∷ cut all (cut all c)
    head t e = rw e refl

    go : (t : Bool) → has all m ≡ t → cut all (cut all c) ≡ cut all c → cut all (cond t (m ∷ cut all c) (cut all c)) ≡ cond t (m ∷ cut all c) (cut all c)
    go true e r = head true e ∙ ap (λ l. m ∷ l) r
    go false e r = r

-- Lists of parts

each_trees : (P : Tree → Type 0) (xs : List Tree) → Each P xs → Each P (items (trees xs))
each_trees P xs h = rw (items-trees xs) h

-- a gap that is left was there
gap_sub : {ps qs : List Part} → IsSubRow ps qs → has_gap ps ≡ true → has_gap qs ≡ true
gap_sub sub_end h = h
gap_sub (sub_gap s) h = refl
gap_sub (sub_drop s) h = refl
gap_sub (sub_turn s) h = gap_sub s h
gap_sub (sub_over s) h = gap_sub s h

pub each_gap_sub : (q : List ℕ → Type 0) {ps qs : List Part} → IsSubRow ps qs → EachGap q qs → EachGap q ps
each_gap_sub q sub_end e = tt
each_gap_sub q (sub_gap h) e = (e.0, each_gap_sub q h e.1)
each_gap_sub q (sub_drop h) e = each_gap_sub q h e.1
each_gap_sub q (sub_turn h) e = each_gap_sub q h e
each_gap_sub q (sub_over h) e = each_gap_sub q h e

no_gap_left : (ps : List Part) → has_gap (only_turns ps) ≡ false
no_gap_left [] = refl
no_gap_left (Gap c ∷ ps) = no_gap_left ps
no_gap_left (Turn x ∷ ps) = no_gap_left ps

positive : (hi : Option ℕ) (ps : List Part) → has_gap (at_zero hi ps) ≡ true → IsPositive hi
positive None ps h = tt
positive (Some zero) ps h = both_ways (has_gap (only_turns ps)) (no_gap_left ps) h
positive (Some (suc n)) ps h = tt

put_not_nil : (x : Tree) (ps : List Part) → EachTurn IsNotNil ps → EachTurn IsNotNil (put_turn x ps)
put_not_nil Nil ps h = h
put_not_nil (Event e) ps h = (refl, h)
put_not_nil (Join m xs) ps h = (refl, h)
put_not_nil (Choice xs) ps h = (refl, h)
put_not_nil (Tied x q) ps h = (refl, h)
put_not_nil (Loop x lo hi r) ps h = (refl, h)
put_not_nil (Walk n f t c) ps h = (refl, h)

not_nil : (ps : List Part) → EachTurn IsNotNil (drop_nil ps)
not_nil [] = tt
not_nil (Gap c ∷ ps) = not_nil ps
not_nil (Turn x ∷ ps) = put_not_nil x (drop_nil ps) (not_nil ps)

cut_gap : (all : List ℕ) (ps : List Part) → EachGap (λ c. cut all c ≡ c) (cut_gaps all ps)
cut_gap all [] = tt
cut_gap all (Gap c ∷ ps) = (cut_again all c, cut_gap all ps)
cut_gap all (Turn x ∷ ps) = cut_gap all ps

set_gap : (all : List ℕ) (ps : List Part) → EachGap IsSet ps → EachGap IsSet (cut_gaps all ps)
set_gap all [] h = tt
set_gap all (Gap c ∷ ps) h = (cut_set all c h.0, set_gap all ps h.1)
set_gap all (Turn x ∷ ps) h = set_gap all ps h

live_at : (p : List ℕ → Option Tree) (c : List ℕ) (r : Option Tree) (ps : List Part) → p c ≡ r → EachGap (λ d. some_kept (p d) ≡ true) ps → EachGap (λ d. some_kept (p d) ≡ true) (live_gap r c ps)
live_at p c None ps e h = h
live_at p c (Some y) ps e h = (ap some_kept e, h)

live_gaps : (p : List ℕ → Option Tree) (ps : List Part) → EachGap (λ d. some_kept (p d) ≡ true) (live p ps)
live_gaps p [] = tt
live_gaps p (Gap c ∷ ps) = live_at p c (p c) (live p ps) refl (live_gaps p ps)
live_gaps p (Turn x ∷ ps) = live_gaps p ps

free_at : (p : List ℕ → Option Tree) (c : List ℕ) (t : Bool) (ps : List Part) → is_nil (p c) ≡ t → EachGap (λ d. is_nil (p d) ≡ false) ps → EachGap (λ d. is_nil (p d) ≡ false) (free_gap t c ps)
free_at p c true ps e h = h
free_at p c false ps e h = (e, h)

not_free_gaps : (p : List ℕ → Option Tree) (ps : List Part) → EachGap (λ d. is_nil (p d) ≡ false) (drop_free p ps)
not_free_gaps p [] = tt
not_free_gaps p (Gap c ∷ ps) = free_at p c (is_nil (p c)) (drop_free p ps) refl (not_free_gaps p ps)
not_free_gaps p (Turn x ∷ ps) = not_free_gaps p ps

apart_gap : (c : List ℕ) (ps : List Part) → AreApart ps → AreApart (thin_gap c ps)
apart_gap c [] h = (tt, tt)
apart_gap c (Gap d ∷ ps) h = h
apart_gap c (Turn x ∷ ps) h = (tt, h)

apart_thin : (ps : List Part) → AreApart (thin ps)
apart_thin [] = tt
apart_thin (Gap c ∷ ps) = apart_gap c (thin ps) (apart_thin ps)
apart_thin (Turn x ∷ ps) = apart_thin ps

-- Pairs

two_less : (a b c : Bool) → (b ≡ false → c ≡ false) → (a || b) ≡ false → (a || c) ≡ false
two_less true b c f h = h
two_less false b c f h = f h

without_lacks : (p : ℕ × ℕ) (q : List (ℕ × ℕ)) → pairs (without_pair p q) p.0 p.1 ≡ false
without_lacks p [] = refl
without_lacks p (r ∷ q) = go ((p.0 == r.0) && (p.1 == r.1)) refl (without_lacks p q)
  where
    go : (t : Bool) → ((p.0 == r.0) && (p.1 == r.1)) ≡ t → pairs (without_pair p q) p.0 p.1 ≡ false → pairs (unless_pair t r (without_pair p q)) p.0 p.1 ≡ false
    go true e h = h
    go false e h = rw (e, h) refl

without_fewer : (p : ℕ × ℕ) (q : List (ℕ × ℕ)) (m n : ℕ) → pairs q m n ≡ false → pairs (without_pair p q) m n ≡ false
without_fewer p [] m n h = h
without_fewer p (r ∷ q) m n h = go ((p.0 == r.0) && (p.1 == r.1)) h (without_fewer p q m n)
  where
    go : (t : Bool) → (((m == r.0) && (n == r.1)) || pairs q m n) ≡ false → (pairs q m n ≡ false → pairs (without_pair p q) m n ≡ false) → pairs (unless_pair t r (without_pair p q)) m n ≡ false
    go true h f = f ((or_parts ((m == r.0) && (n == r.1)) (pairs q m n) h).1)
    go false h f = two_less ((m == r.0) && (n == r.1)) (pairs q m n) (pairs (without_pair p q) m n) f h

without_once : (p : ℕ × ℕ) (q : List (ℕ × ℕ)) → ArePairsOnce q → ArePairsOnce (without_pair p q)
without_once p [] h = tt
without_once p (r ∷ q) h = go ((p.0 == r.0) && (p.1 == r.1)) (without_once p q h.1)
  where
    go : (t : Bool) → ArePairsOnce (without_pair p q) → ArePairsOnce (unless_pair t r (without_pair p q))
    go true i = i
    go false i = (without_fewer p q r.0 r.1 h.0, i)

without_shown : (ns : List ℕ) (p : ℕ × ℕ) (q : List (ℕ × ℕ)) → AreShown ns q → AreShown ns (without_pair p q)
without_shown ns p [] h = tt
without_shown ns p (r ∷ q) h = go ((p.0 == r.0) && (p.1 == r.1)) (without_shown ns p q h.2)
  where
    go : (t : Bool) → AreShown ns (without_pair p q) → AreShown ns (unless_pair t r (without_pair p q))
    go true i = i
    go false i = (h.0, h.1, i)

kept_once : (ns : List ℕ) (q : List (ℕ × ℕ)) → ArePairsOnce (kept_pairs ns q)
kept_once ns [] = tt
kept_once ns (p ∷ q) = go (has ns p.0 && has ns p.1) (kept_once ns q)
  where
    go : (t : Bool) → ArePairsOnce (kept_pairs ns q) → ArePairsOnce (with_pair t p (kept_pairs ns q))
    go true i = (without_lacks p (kept_pairs ns q), without_once p (kept_pairs ns q) i)
    go false i = i

kept_shown : (ns : List ℕ) (q : List (ℕ × ℕ)) → AreShown ns (kept_pairs ns q)
kept_shown ns [] = tt
kept_shown ns (p ∷ q) = go (has ns p.0 && has ns p.1) refl (kept_shown ns q)
  where
    go : (t : Bool) → (has ns p.0 && has ns p.1) ≡ t → AreShown ns (kept_pairs ns q) → AreShown ns (with_pair t p (kept_pairs ns q))
    go true e i = let (u, v) = and_parts (has ns p.0) (has ns p.1) e in (u, v, without_shown ns p (kept_pairs ns q) i)
    go false e i = i

-- Alternatives

none_same : (x : Tree) (ys : List Tree) → Each (λ y. same_tree x y ≡ false) (without x ys)
none_same x [] = tt
none_same x (y ∷ ys) = go (same_tree x y) refl (none_same x ys)
  where
    go : (t : Bool) → same_tree x y ≡ t → Each (λ z. same_tree x z ≡ false) (without x ys) → Each (λ z. same_tree x z ≡ false) (unless_same t y (without x ys))
    go true e i = i
    go false e i = (e, i)

without_different : (x : Tree) (ys : List Tree) → AreDifferent ys → AreDifferent (without x ys)
without_different x [] h = tt
without_different x (y ∷ ys) h = go (same_tree x y) (without_different x ys h.1)
  where
    go : (t : Bool) → AreDifferent (without x ys) → AreDifferent (unless_same t y (without x ys))
    go true i = i
    go false i = (each_without (λ z. same_tree y z ≡ false) x ys h.0, i)

pub are_different : (xs : List Tree) → AreDifferent (distinct xs)
are_different [] = tt
are_different (x ∷ xs) = (none_same x (distinct xs), without_different x (distinct xs) (are_different xs))

different_trees : (xs : List Tree) → AreDifferent xs → AreDifferent (items (trees xs))
different_trees xs h = rw (items-trees xs) h

module _ (k : NetPermits) where
  normal_in : (xs : List Tree) → Each (IsNormal k) xs → AreNormal k (trees xs)
  normal_in [] h = tt
  normal_in (x ∷ xs) h = (h.0, normal_in xs h.1)

  normal_out : (xs : Trees) → AreNormal k xs → Each (IsNormal k) (items xs)
  normal_out none h = tt
  normal_out (more x xs) h = (h.0, normal_out xs h.1)

  normal_row_in : (ps : List Part) → EachTurn (IsNormal k) ps → IsNormalRow k (row_of ps)
  normal_row_in [] h = tt
  normal_row_in (Gap c ∷ ps) h = normal_row_in ps h
  normal_row_in (Turn x ∷ ps) h = (h.0, normal_row_in ps h.1)

  normal_row_out : (r : Row) → IsNormalRow k r → EachTurn (IsNormal k) (parts r)
  normal_row_out ends h = tt
  normal_row_out (gap c r) h = normal_row_out r h
  normal_row_out (turn x r) h = (h.0, normal_row_out r h.1)

  -- joins

  open_parts : (m : Mode) (x : Tree) → IsNormal k x → Each (IsPartOf m) (open_part m x)
  open_parts m Nil h = tt
  open_parts seq (Join seq xs) h = h.1
  open_parts seq (Join par xs) h = (tt, tt)
  open_parts par (Join seq xs) h = (tt, tt)
  open_parts par (Join par xs) h = h.1
  open_parts m (Event e) h = (tt, tt)
  open_parts m (Choice xs) h = (tt, tt)
  open_parts m (Tied x q) h = (tt, tt)
  open_parts m (Loop x lo hi r) h = (tt, tt)
  open_parts m (Walk n f t c) h = (tt, tt)

  flat_normal : (m : Mode) (xs : List Tree) → Each (IsNormal k) xs → Each (IsNormal k) (flat m xs)
  flat_normal m xs h = each_flat (IsNormal k) m (λ ys i. normal_out ys i.0) xs h

  flat_parts : (m : Mode) (xs : List Tree) → Each (IsNormal k) xs → Each (IsPartOf m) (flat m xs)
  flat_parts m [] h = tt
  flat_parts m (x ∷ xs) h = each_app (IsPartOf m) (open_part m x) (flat m xs) (open_parts m x h.0) (flat_parts m xs h.1)

  of_normal : (m : Mode) (xs : List Tree) → Each (IsNormal k) xs → Each (IsPartOf m) xs → IsNormal k (join_of m xs)
  of_normal m [] h i = tt
  of_normal m (x ∷ []) h i = h.0
  of_normal m (x ∷ y ∷ ys) h i = (normal_in (x ∷ y ∷ ys) h, each_trees (IsPartOf m) (x ∷ y ∷ ys) i, tt)

  pub join_normal : (m : Mode) (xs : List Tree) → Each (IsNormal k) xs → IsNormal k (join_all m xs)
  join_normal m xs h = of_normal m (flat m xs) (flat_normal m xs h) (flat_parts m xs h)

  -- choices

  pub opened_parts : (x : Tree) → IsNormal k x → Each IsAlternative (open_choice x)
  opened_parts (Choice xs) h = h.1
  opened_parts Nil h = (tt, tt)
  opened_parts (Event e) h = (tt, tt)
  opened_parts (Join m xs) h = (tt, tt)
  opened_parts (Tied x q) h = (tt, tt)
  opened_parts (Loop x lo hi r) h = (tt, tt)
  opened_parts (Walk n f t c) h = (tt, tt)

  choices_normal : (xs : List Tree) → Each (IsNormal k) xs → Each (IsNormal k) (open_choices xs)
  choices_normal xs h = each_choices (IsNormal k) (λ ys i. normal_out ys i.0) xs h

  pub choices_parts : (xs : List Tree) → Each (IsNormal k) xs → Each IsAlternative (open_choices xs)
  choices_parts [] h = tt
  choices_parts (x ∷ xs) h = each_app IsAlternative (open_choice x) (open_choices xs) (opened_parts x h.0) (choices_parts xs h.1)

  form_normal : (xs : List Tree) → Each (IsNormal k) xs → Each IsAlternative xs → AreDifferent xs → MayHave (IsNormal k) (choice_form xs)
  form_normal [] h i d = tt
  form_normal (x ∷ []) h i d = h.0
  form_normal (x ∷ y ∷ ys) h i d = (normal_in (x ∷ y ∷ ys) h, each_trees IsAlternative (x ∷ y ∷ ys) i, tt, different_trees (x ∷ y ∷ ys) d)

  pub choice_normal : (xs : List Tree) → Each (IsNormal k) xs → MayHave (IsNormal k) (choice_of xs)
  choice_normal xs h =
      form_normal (distinct (open_choices xs)) (each_distinct (IsNormal k) (open_choices xs) (choices_normal xs h)) (each_distinct IsAlternative (open_choices xs) (choices_parts xs h)) (are_different (open_choices xs))

  -- bound terms
  tie_normal : (x : Tree) (q : List (ℕ × ℕ)) → IsNormal k x → AreShown (numbers x) q → ArePairsOnce q → IsNormal k (bound_form x q)
  tie_normal x [] h i o = h
  tie_normal x (p ∷ q) h i o = (h, tt, i, o)

  pub bound_normal : (x : Tree) (q : List (ℕ × ℕ)) → IsNormal k x → IsNormal k (tie_of x q)
  bound_normal x q h = tie_normal x (kept_pairs (numbers x) q) h (kept_shown (numbers x) q) (kept_once (numbers x) q)

  -- loops
  begun_normal : (ps : List Part) → EachTurn (IsNormal k) ps → Each (IsNormal k) (begun ps)
  begun_normal [] h = tt
  begun_normal (Gap c ∷ ps) h = begun_normal ps h
  begun_normal (Turn x ∷ ps) h = (h.0, begun_normal ps h.1)

  loop_same : (x : Tree) (hi : Option ℕ) (ps : List Part) → IsNormalLoop k x hi ps → IsNormalLoop k x hi (parts (row_of ps))
  loop_same x hi ps h = rw (parts-row_of ps) h

  turn_form : (t : Bool) (x : Tree) (lo : ℕ) (hi : Option ℕ) (ps : List Part) → has_gap ps ≡ t → IsNormal k x → EachTurn (IsNormal k) ps → (has_gap ps ≡ true → IsNormalLoop k x hi ps) → MayHave (IsNormal k) (turns_form t x lo hi ps)
  turn_form true x lo hi ps g h d f = (h, normal_row_in ps d, loop_same x hi ps (f g))
  turn_form false x zero hi ps g h d f = join_normal seq (begun ps) (begun_normal ps d)
  turn_form false x (suc lo) hi ps g h d f = tt

  pub turns_normal : (x : Tree) (lo : ℕ) (hi : Option ℕ) (ps : List Part) → IsNormal k x → EachTurn (IsNormal k) ps → EachGap IsSet ps → MayHave (IsNormal k) (loop_of (λ c. permit k (only c) x) (touch k.spread x) x lo hi ps)
  turns_normal x lo hi ps h d g =
      let p : List ℕ → Option Tree = λ c. permit k (only c) x in
      let a0 = cut_gaps (touch k.spread x) ps in
      let a1 = drop_nil a0 in
      let a2 = at_zero hi a1 in
      let a3 = live p a2 in
      let a4 = drop_free p a3 in
      let a5 = thin a4 in
      let s1 = sub_nil a0 in
      let s2 = sub_zero hi a1 in
      let s3 = sub_live p a2 in
      let s4 = sub_free p a3 in
      let s5 = sub_thin a4 in
      let gaps : (q : List ℕ → Type 0) → EachGap q a0 → EachGap q a5 = λ q e. each_gap_sub q s5 (each_gap_sub q s4 (each_gap_sub q s3 (each_gap_sub q s2 (each_gap_sub q s1 e)))) in
      let turns : (q : Tree → Type 0) → EachTurn q a1 → EachTurn q a5 = λ q e. each_turn_sub q s5 (each_turn_sub q s4 (each_turn_sub q s3 (each_turn_sub q s2 e))) in
      turn_form (has_gap a5) x (lower_of (has_free p a3) lo) hi a5 refl h
      (turns (IsNormal k) (each_turn_sub (IsNormal k) s1 (each_turn_cut (IsNormal k) (touch k.spread x) ps d)))
      (λ e. record {
        sets = gaps IsSet (set_gap (touch k.spread x) ps g);
        cuts = gaps (λ c. cut (touch k.spread x) c ≡ c) (cut_gap (touch k.spread x) ps);
        leaves = each_gap_sub (λ c. some_kept (p c) ≡ true) s5 (each_gap_sub (λ c. some_kept (p c) ≡ true) s4 (live_gaps p a2));
        not_free = each_gap_sub (λ c. is_nil (p c) ≡ false) s5 (not_free_gaps p a3);
        not_over = turns IsNotNil (not_nil a0);
        positive = positive hi a1 (gap_sub s3 (gap_sub s4 (gap_sub s5 e)));
        apart = apart_thin a4;
        some = e;
      })

  -- walks
  leading : (a b : Bool) (n : ℕ) (f : Spot) (t : Goal) (c : List ℕ) → ((a ≡ true) → (b ≡ false) → IsNormalWalk k n f t c) → MayHave (IsNormal k) (walk_form a b (Walk n f t c))
  leading false b n f t c h = tt
  leading true true n f t c h = tt
  leading true false n f t c h = h refl refl

  cut_normal : (n : ℕ) (f : Spot) (t : Goal) (c : List ℕ) → IsSet c → cut (k.spread n) c ≡ c → MayHave (IsNormal k) (walk_cut k n f t c)
  cut_normal n f Any c h e = record { set = h; cuts = e; leads = tt }
  cut_normal n f (To m) c h e = leading (reach (k.net n) (allowed k n c) f (To m)) (are_nil k n f (To m) c (allowed k n c)) n f (To m) c (λ a b. record { set = h; cuts = e; leads = (a, b) })
  cut_normal n f End c h e = leading (reach (k.net n) (allowed k n c) f End) (are_nil k n f End c (allowed k n c)) n f End c (λ a b. record { set = h; cuts = e; leads = (a, b) })

  pub trail_normal : (n : ℕ) (f : Spot) (t : Goal) (c : List ℕ) → IsSet c → MayHave (IsNormal k) (walk_of k n f t c)
  trail_normal n f t c h = cut_normal n f t (cut (k.spread n) c) (cut_set (k.spread n) c h) (cut_again (k.spread n) c)

  -- permission
  abbrev MayRow : Option (List Part) → Type 0
  MayRow None = Unit {0}
  MayRow (Some ps) = EachTurn (IsNormal k) ps × EachGap IsSet ps

  abbrev MayAll : Option (List Tree) → Type 0
  MayAll None = Unit {0}
  MayAll (Some xs) = Each (IsNormal k) xs

  event_normal : (t : Bool) (e : TermEvent) → MayHave (IsNormal k) (unless t (Event e))
  event_normal true e = tt
  event_normal false e = tt

  map_normal : (m : Mode) (p : Option (List Tree)) → MayAll p → MayHave (IsNormal k) (option_map (join_all m) p)
  map_normal m None h = tt
  map_normal m (Some xs) h = join_normal m xs h

  tied_normal : (q : List (ℕ × ℕ)) (r : Option Tree) → MayHave (IsNormal k) r → MayHave (IsNormal k) (option_map (λ y. tie_of y q) r)
  tied_normal q None h = tt
  tied_normal q (Some y) h = bound_normal y q h

  in_normal : (x : Tree) (lo : ℕ) (hi : Option ℕ) (p : Option (List Part)) → IsNormal k x → MayRow p → MayHave (IsNormal k) (turns_in (λ c. permit k (only c) x) (touch k.spread x) x lo hi p)
  in_normal x lo hi None h i = tt
  in_normal x lo hi (Some ps) h i = turns_normal x lo hi ps h i.0 i.1

  and_normal : (r : Option Tree) (p : Option (List Tree)) → MayHave (IsNormal k) r → MayAll p → MayAll (and_then r p)
  and_normal None p h i = tt
  and_normal (Some y) None h i = tt
  and_normal (Some y) (Some ys) h i = (h, i)

  skip_normal : (r : Option Tree) (xs : List Tree) → MayHave (IsNormal k) r → Each (IsNormal k) xs → Each (IsNormal k) (or_skip r xs)
  skip_normal None xs h i = i
  skip_normal (Some y) xs h i = (h, i)

  wider_normal : (c d : List ℕ) (p : Option (List Part)) → IsSet c → MayRow p → MayRow (wider c p d)
  wider_normal c d None h i = tt
  wider_normal c d (Some ps) h i = (i.0, (union_set c d h, i.1))

  with_normal : (r : Option Tree) (p : Option (List Part)) → MayHave (IsNormal k) r → MayRow p → MayRow (with_turn r p)
  with_normal None p h i = tt
  with_normal (Some y) None h i = tt
  with_normal (Some y) (Some ps) h i = ((h, i.0), i.1)

  mutual
    pub permit_normal : (b : Block) (x : Tree) → IsNormal k x → MayHave (IsNormal k) (permit k b x)
    permit_normal b Nil h = tt
    permit_normal b (Event e) h = event_normal (hits b e) e
    permit_normal b (Join m xs) h = map_normal m (permit_all k b xs) (all_normal b xs h.0)
    permit_normal b (Choice xs) h = choice_normal (permit_some k b xs) (some_normal b xs h.0)
    permit_normal b (Tied x q) h = tied_normal q (permit k b x) (permit_normal b x h.0)
    permit_normal b (Loop x lo hi r) h = in_normal x lo hi (permit_row k b r) h.0 (row_normal b r h.1 h.2.sets)
    permit_normal b (Walk n f t c) h = trail_normal n f t (c ∪ b.instances) (union_set c b.instances h.set)

    all_normal : (b : Block) (xs : Trees) → AreNormal k xs → MayAll (permit_all k b xs)
    all_normal b none h = tt
    all_normal b (more x xs) h = and_normal (permit k b x) (permit_all k b xs) (permit_normal b x h.0) (all_normal b xs h.1)

    some_normal : (b : Block) (xs : Trees) → AreNormal k xs → Each (IsNormal k) (permit_some k b xs)
    some_normal b none h = tt
    some_normal b (more x xs) h = skip_normal (permit k b x) (permit_some k b xs) (permit_normal b x h.0) (some_normal b xs h.1)

    row_normal : (b : Block) (r : Row) → IsNormalRow k r → EachGap IsSet (parts r) → MayRow (permit_row k b r)
    row_normal b ends h g = (tt, tt)
    row_normal b (gap c r) h g = wider_normal c b.instances (permit_row k b r) g.0 (row_normal b r h g.1)
    row_normal b (turn x r) h g = with_normal (permit k b x) (permit_row k b r) (permit_normal b x h.0) (row_normal b r h.1 g)

  -- taking out
  stays_normal : (m : Mode) (e : TermEvent) (x x' : Tree) → IsNormal k x → Stays k m e x x' → IsNormal k x'
  stays_normal seq e x x' h s = at_some (IsNormal k) (permit k (only (instances_of e).instances) x) x' s (permit_normal (only (instances_of e).instances) x h)
  stays_normal par e x x' h s = rw s h

  module _ (nets : (n m : ℕ) (d : List ℕ) (x : Tree) → k.kept n m d ≡ Some x → IsNormal k x) where
    mutual
      pub after_normal : {x y : Tree} {e : TermEvent} → IsAfter k x e y → IsNormal k x → IsNormal k y
      after_normal after_event h = tt
      after_normal (after_choice {xs = xs} a) h = one_normal a (normal_out xs h.0)
      after_normal (after_join {m = m} {xs = xs} {ys = ys} a) h = join_normal m ys (parts_normal a (normal_out xs h.0))
      after_normal (after_tied {x = x} {y = y} {z = z} {q = q} {e = e} a p) h = bound_normal z q (at_some (IsNormal k) (permit k (earlier q e) y) z p (permit_normal (earlier q e) y (after_normal a h.0)))
      after_normal (after_loop {x = x} {z = z} {lo = lo} {hi = hi} {r = r} {e = e} b {ps = ps} a hm p) h =
          let i = row_left a h.0 (normal_row_out r h.1) h.2.sets in
          at_some (IsNormal k) (loop_of (λ c. permit k (only c) x) (touch k.spread x) x (down b lo) (fewer b hi) ps) z p (turns_normal x (down b lo) (fewer b hi) ps h.0 i.0 i.1)
      after_normal (after_walk {n = n} {s = f} {t = t} {c = c} {e = e} m {x = x} {y = y} {u = u} {v = v} p a l1 l2 q r) h =
          join_normal seq (u ∷ y ∷ v ∷ []) (
            at_some (IsNormal k) (walk_of k n f (To m) (c ∪ (instances_of e).instances)) u q (trail_normal n f (To m) (c ∪ (instances_of e).instances) (union_set c (instances_of e).instances h.set)),
            (after_normal a (nets n m c x p), (at_some (IsNormal k) (walk_of k n (At m) t c) v r (trail_normal n (At m) t c h.set), tt)),
          )

      one_normal : {xs : Trees} {y : Tree} {e : TermEvent} → IsAfterOne k xs e y → Each (IsNormal k) (items xs) → IsNormal k y
      one_normal (first_one a) h = after_normal a h.0
      one_normal (later_one a) h = one_normal a h.1

      parts_normal : {m : Mode} {xs : Trees} {ys : List Tree} {e : TermEvent} → IsAfterJoin k m xs e ys → Each (IsNormal k) (items xs) → Each (IsNormal k) ys
      parts_normal (first_part a) h = (after_normal a h.0, h.1)
      parts_normal (later_part {m = m} {x = x} {x' = x'} {e = e} s a) h = (stays_normal m e x x' h.0 s, parts_normal a h.1)

      row_left : {x : Tree} {b : Bool} {ps qs : List Part} {e : TermEvent} → IsAfterRow k x b ps e qs → IsNormal k x → EachTurn (IsNormal k) ps → EachGap IsSet ps → EachTurn (IsNormal k) qs × EachGap IsSet qs
      row_left (in_turn a) h d g = ((after_normal a d.0, d.1), g)
      row_left (in_gap {x = x} {y = y} {c = c} {e = e} p a) h d g =
          ((after_normal a (at_some (IsNormal k) (permit k (only c) x) y p (permit_normal (only c) x h)), d), (union_set c (instances_of e).instances g.0, (g.0, g.1)))
      row_left (past_turn {y = y} {z = z} {e = e} p a) h d g =
          let i = row_left a h d.1 g in
          ((at_some (IsNormal k) (permit k (only (instances_of e).instances) y) z p (permit_normal (only (instances_of e).instances) y d.0), i.0), i.1)
      row_left (past_gap {c = c} {e = e} a) h d g = let i = row_left a h d g.1 in (i.0, (union_set c (instances_of e).instances g.0, i.1))
