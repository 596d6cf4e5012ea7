-- Permission by the empty block gives a term in normal form back.
use Rattle.std.specs.Prelude.{ℕ, zero, suc, Bool, true, false, List, [], ◌∷◌, ◌++◌, ◌≡◌, ◌&&◌, ◌||◌, ◌==◌, Option, Some, None, refl}
use Rattle.std.specs.Option.{option_map}
use Rattle.std.proofs.Common.{ap, ◌∙◌}
use Rattle.std.proofs.lemmas.Bool.{or_parts, and_from}
use Rattle.msc_base.specs.Patterns.{Mode, seq, par}
use Rattle.hmsc_graph.specs.Graphs.{Spot, Goal, To, End, Any, reach}
use Rattle.chart_term.specs.Equality.{same_tree}
use Rattle.chart_term.specs.NormalForms.{NetPermits, only, cut, open_part, flat, join_of, join_all, and_then, or_skip, unless, choice_of, choice_form, unless_same, without, distinct, open_choice, open_choices, unless_pair, without_pair, with_pair, kept_pairs, bound_form, tie_of, numbers, cut_gaps, put_turn, drop_nil, at_zero, live_gap, live, is_nil, has_free, free_gap, drop_free, lower_of, thin_gap, thin, turns_form, turns_end, loop_of, turns_in, some_kept, walk_of, walk_cut, walk_form, allowed, are_nil}
use Rattle.chart_term.specs.Properties.{Each, EachTurn, EachGap}
use Rattle.chart_term.specs.TermPatterns.{pairs}
use Rattle.chart_term.specs.Terms.{TermEvent, has, has_some, hits, Tree, Nil, Event, Join, Choice, Tied, Loop, Walk, Trees, none, more, Row, ends, gap, turn, items, trees, Part, Gap, Turn, parts, row_of}
use Rattle.term_laws.specs.Normality.{IsPartOf, IsAlternative, AreTwoOrMore, AreDifferent, IsSomePair, AreShown, ArePairsOnce, IsPositive, IsNotNil, IsTurnFirst, AreApart, IsNormalLoop, IsLeading, IsNormalWalk, IsNormal, AreNormal, IsNormalRow}
use Rattle.chart_term.specs.Spreads.{touch}
use Rattle.term_laws.specs.Permission.{permit, permit_all, permit_some, permit_row, wider, with_turn}

trees-items : (xs : Trees) → trees (items xs) ≡ xs
trees-items none = refl
trees-items (more x xs) = ap (λ l. more x l) (trees-items xs)

row-parts : (r : Row) → row_of (parts r) ≡ r
row-parts ends = refl
row-parts (gap c r) = ap (λ l. gap c l) (row-parts r)
row-parts (turn x r) = ap (λ l. turn x l) (row-parts r)

-- joins
open_same : (m : Mode) (x : Tree) → IsPartOf m x → open_part m x ≡ x ∷ []
open_same m Nil h = absurd h
open_same m (Event e) h = refl
open_same seq (Join seq xs) h = absurd h
open_same seq (Join par xs) h = refl
open_same par (Join seq xs) h = refl
open_same par (Join par xs) h = absurd h
open_same m (Choice xs) h = refl
open_same m (Tied x q) h = refl
open_same m (Loop x lo hi r) h = refl
open_same m (Walk n f t c) h = refl

pub flat_same : (m : Mode) (xs : List Tree) → Each (IsPartOf m) xs → flat m xs ≡ xs
flat_same m [] h = refl
flat_same m (x ∷ xs) h = λ i. open_same m x h.0 i ++ flat_same m xs h.1 i

of_same : (m : Mode) (xs : Trees) → AreTwoOrMore xs → join_of m (items xs) ≡ Join m xs
of_same m none h = absurd h
of_same m (more x none) h = absurd h
of_same m (more x (more y xs)) h = ap (λ l. Join m (more x (more y l))) (trees-items xs)

pub join_same : (m : Mode) (xs : Trees) → Each (IsPartOf m) (items xs) → AreTwoOrMore xs → join_all m (items xs) ≡ Join m xs
join_same m xs h t = ap (join_of m) (flat_same m (items xs) h) ∙ of_same m xs t

-- choices
pub alone_same : (x : Tree) → IsAlternative x → open_choice x ≡ x ∷ []
alone_same Nil h = refl
alone_same (Event e) h = refl
alone_same (Join m xs) h = refl
alone_same (Choice xs) h = absurd h
alone_same (Tied x q) h = refl
alone_same (Loop x lo hi r) h = refl
alone_same (Walk n f t c) h = refl

choices_same : (xs : List Tree) → Each IsAlternative xs → open_choices xs ≡ xs
choices_same [] h = refl
choices_same (x ∷ xs) h = λ i. alone_same x h.0 i ++ choices_same xs h.1 i

pub without_same : (x : Tree) (ys : List Tree) → Each (λ y. same_tree x y ≡ false) ys → without x ys ≡ ys
without_same x [] h = refl
without_same x (y ∷ ys) h = λ i. unless_same (h.0 i) y (without_same x ys h.1 i)

pub distinct_same : (xs : List Tree) → AreDifferent xs → distinct xs ≡ xs
distinct_same [] h = refl
distinct_same (x ∷ xs) h = (λ i. x ∷ without x (distinct_same xs h.1 i)) ∙ ap (λ l. x ∷ l) (without_same x xs h.0)

form_same : (xs : Trees) → AreTwoOrMore xs → choice_form (items xs) ≡ Some (Choice xs)
form_same none h = absurd h
form_same (more x none) h = absurd h
form_same (more x (more y xs)) h = ap (λ l. Some (Choice (more x (more y l)))) (trees-items xs)

pub choice_same : (xs : Trees) → Each IsAlternative (items xs) → AreTwoOrMore xs → AreDifferent (items xs) → choice_of (items xs) ≡ Some (Choice xs)
choice_same xs h t d = (λ i. choice_form (distinct (choices_same (items xs) h i))) ∙ (ap choice_form (distinct_same (items xs) d) ∙ form_same xs t)

-- bound terms

without_pair_same : (p : ℕ × ℕ) (q : List (ℕ × ℕ)) → pairs q p.0 p.1 ≡ false → without_pair p q ≡ q
without_pair_same p [] h = refl
without_pair_same p (r ∷ q) h = let (u, v) = or_parts ((p.0 == r.0) && (p.1 == r.1)) (pairs q p.0 p.1) h in λ i. unless_pair (u i) r (without_pair_same p q v i)

pairs_same : (ns : List ℕ) (q : List (ℕ × ℕ)) → AreShown ns q → ArePairsOnce q → kept_pairs ns q ≡ q
pairs_same ns [] h o = refl
pairs_same ns (p ∷ q) h o = (λ i. with_pair (and_from (has ns p.0) (has ns p.1) h.0 h.1 i) p (pairs_same ns q h.2 o.1 i)) ∙ ap (λ l. p ∷ l) (without_pair_same p q o.0)

tie_same : (x : Tree) (q : List (ℕ × ℕ)) → IsSomePair q → bound_form x q ≡ Tied x q
tie_same x [] h = absurd h
tie_same x (p ∷ q) h = refl

pub bound_same : (x : Tree) (q : List (ℕ × ℕ)) → IsSomePair q → AreShown (numbers x) q → ArePairsOnce q → tie_of x q ≡ Tied x q
bound_same x q s h o = ap (bound_form x) (pairs_same (numbers x) q h o) ∙ tie_same x q s

-- loops
cuts_same : (all : List ℕ) (ps : List Part) → EachGap (λ c. cut all c ≡ c) ps → cut_gaps all ps ≡ ps
cuts_same all [] h = refl
cuts_same all (Gap c ∷ ps) h = λ i. Gap (h.0 i) ∷ cuts_same all ps h.1 i
cuts_same all (Turn x ∷ ps) h = ap (λ l. Turn x ∷ l) (cuts_same all ps h)

pub put_same : (x : Tree) (ps : List Part) → IsNotNil x → put_turn x ps ≡ Turn x ∷ ps
put_same Nil ps h = cc
put_same (Event e) ps h = refl
put_same (Join m xs) ps h = refl
put_same (Choice xs) ps h = refl
put_same (Tied x q) ps h = refl
put_same (Loop x lo hi r) ps h = refl
put_same (Walk n f t c) ps h = refl

nil_same : (ps : List Part) → EachTurn IsNotNil ps → drop_nil ps ≡ ps
nil_same [] h = refl
nil_same (Gap c ∷ ps) h = ap (λ l. Gap c ∷ l) (nil_same ps h)
nil_same (Turn x ∷ ps) h = ap (put_turn x) (nil_same ps h.1) ∙ put_same x ps h.0

zero_same : (hi : Option ℕ) (ps : List Part) → IsPositive hi → at_zero hi ps ≡ ps
zero_same None ps h = refl
zero_same (Some zero) ps h = absurd h
zero_same (Some (suc n)) ps h = refl

live_one : (r : Option Tree) (c : List ℕ) (ps : List Part) → some_kept r ≡ true → live_gap r c ps ≡ Gap c ∷ ps
live_one None c ps h = cc
live_one (Some y) c ps h = refl

live_same : (p : List ℕ → Option Tree) (ps : List Part) → EachGap (λ c. some_kept (p c) ≡ true) ps → live p ps ≡ ps
live_same p [] h = refl
live_same p (Gap c ∷ ps) h = ap (live_gap (p c) c) (live_same p ps h.1) ∙ live_one (p c) c ps h.0
live_same p (Turn x ∷ ps) h = ap (λ l. Turn x ∷ l) (live_same p ps h)

free_same : (p : List ℕ → Option Tree) (ps : List Part) → EachGap (λ c. is_nil (p c) ≡ false) ps → drop_free p ps ≡ ps
free_same p [] h = refl
free_same p (Gap c ∷ ps) h = λ i. free_gap (h.0 i) c (free_same p ps h.1 i)
free_same p (Turn x ∷ ps) h = ap (λ l. Turn x ∷ l) (free_same p ps h)

none_free : (p : List ℕ → Option Tree) (ps : List Part) → EachGap (λ c. is_nil (p c) ≡ false) ps → has_free p ps ≡ false
none_free p [] h = refl
none_free p (Gap c ∷ ps) h = λ i. h.0 i || none_free p ps h.1 i
none_free p (Turn x ∷ ps) h = none_free p ps h

gap_same : (c : List ℕ) (ps : List Part) → IsTurnFirst ps → thin_gap c ps ≡ Gap c ∷ ps
gap_same c [] h = refl
gap_same c (Gap d ∷ ps) h = absurd h
gap_same c (Turn x ∷ ps) h = refl

thin_same : (ps : List Part) → AreApart ps → thin ps ≡ ps
thin_same [] h = refl
thin_same (Gap c ∷ ps) h = ap (thin_gap c) (thin_same ps h.1) ∙ gap_same c ps h.0
thin_same (Turn x ∷ ps) h = ap (λ l. Turn x ∷ l) (thin_same ps h)

module _ (k : NetPermits) where
  pub turns_same : (x : Tree) (lo : ℕ) (hi : Option ℕ) (r : Row) → IsNormalLoop k x hi (parts r) → loop_of (λ c. permit k (only c) x) (touch k.spread x) x lo hi (parts r) ≡ Some (Loop x lo hi r)
  turns_same x lo hi r h =
      let p : List ℕ → Option Tree = λ c. permit k (only c) x in
      let all : List ℕ = touch k.spread x in
      let ps : List Part = parts r in
      let e : live p (at_zero hi (drop_nil (cut_gaps all ps))) ≡ ps =
      (λ i. live p (at_zero hi (drop_nil (cuts_same all ps h.cuts i)))) ∙ ((λ i. live p (at_zero hi (nil_same ps h.not_over i))) ∙ ((λ i. live p (zero_same hi ps h.positive i)) ∙ live_same p ps h.leaves)) in
      (λ i. turns_end x (lower_of (has_free p (e i)) lo) hi (thin (drop_free p (e i))))
      ∙ ((λ i. turns_end x (lower_of (none_free p ps h.not_free i) lo) hi (thin (free_same p ps h.not_free i)))
      ∙ ((λ i. turns_end x lo hi (thin_same ps h.apart i))
      ∙ ((λ i. turns_form (h.some i) x lo hi ps) ∙ ap (λ s. Some (Loop x lo hi s)) (row-parts r))))

  walk_same : (a b : Bool) (x : Tree) → a ≡ true → b ≡ false → walk_form a b x ≡ Some x
  walk_same a b x e f = λ i. walk_form (e i) (f i) x

  cut_same : (n : ℕ) (f : Spot) (t : Goal) (c : List ℕ) → IsLeading k n f t c → walk_cut k n f t c ≡ Some (Walk n f t c)
  cut_same n f Any c h = refl
  cut_same n f (To m) c h = walk_same (reach (k.net n) (allowed k n c) f (To m)) (are_nil k n f (To m) c (allowed k n c)) (Walk n f (To m) c) h.0 h.1
  cut_same n f End c h = walk_same (reach (k.net n) (allowed k n c) f End) (are_nil k n f End c (allowed k n c)) (Walk n f End c) h.0 h.1

  trail_same : (n : ℕ) (f : Spot) (t : Goal) (c : List ℕ) → IsNormalWalk k n f t c → walk_of k n f t c ≡ Some (Walk n f t c)
  trail_same n f t c h = ap (walk_cut k n f t) h.cuts ∙ cut_same n f t c h.leads

  no_hit : (e : TermEvent) → hits (only []) e ≡ false
  no_hit e = go e.also
    where
      go : (o : Option ℕ) → ((false || has_some [] o) || false) ≡ false
      go None = refl
      go (Some n) = refl

  mutual
    pub permit_same : (x : Tree) → IsNormal k x → permit k (only []) x ≡ Some x
    permit_same Nil h = refl
    permit_same (Event e) h = ap (λ t. unless t (Event e)) (no_hit e)
    permit_same (Join m xs) h = ap (option_map (join_all m)) (all_same xs h.0) ∙ ap Some (join_same m xs h.1 h.2)
    permit_same (Choice xs) h = ap choice_of (some_same xs h.0) ∙ choice_same xs h.1 h.2 h.3
    permit_same (Tied x q) h = ap (option_map (λ y. tie_of y q)) (permit_same x h.0) ∙ ap Some (bound_same x q h.1 h.2 h.3)
    permit_same (Loop x lo hi r) h = ap (turns_in (λ c. permit k (only c) x) (touch k.spread x) x lo hi) (row_same r h.1) ∙ turns_same x lo hi r h.2
    permit_same (Walk n f t c) h = trail_same n f t c h

    all_same : (xs : Trees) → AreNormal k xs → permit_all k (only []) xs ≡ Some (items xs)
    all_same none h = refl
    all_same (more x xs) h = λ i. and_then (permit_same x h.0 i) (all_same xs h.1 i)

    some_same : (xs : Trees) → AreNormal k xs → permit_some k (only []) xs ≡ items xs
    some_same none h = refl
    some_same (more x xs) h = λ i. or_skip (permit_same x h.0 i) (some_same xs h.1 i)

    row_same : (r : Row) → IsNormalRow k r → permit_row k (only []) r ≡ Some (parts r)
    row_same ends h = refl
    row_same (gap c r) h = ap (λ o. wider c o []) (row_same r h)
    row_same (turn x r) h = λ i. with_turn (permit_same x h.0 i) (row_same r h.1 i)
