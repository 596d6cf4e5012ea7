-- Permission raises no rank.
use Rattle.std.specs.Option.{option_map}
use Rattle.std.specs.Prelude.{ℕ, zero, suc, ◌+◌, ◌≤◌, List, [], ◌∷◌, ◌≡◌, Option, Some, None, Bool, true, false, ◌++◌, refl, length, ◌&&◌, ◌==◌}
use Rattle.std.proofs.Common.{ap, arith}
use Rattle.msc_base.specs.Patterns.{Mode, seq, par}
use Rattle.hmsc_graph.specs.Graphs.{Spot, Goal, To, End, Any, reach}
use Rattle.chart_term.specs.NormalForms.{NetPermits, only, cut, open_part, flat, join_of, join_all, and_then, or_skip, unless, choice_of, choice_form, unless_same, without, distinct, open_choice, open_choices, bound_form, tie_of, kept_pairs, numbers, cut_gaps, drop_nil, at_zero, live, drop_free, has_free, lower_of, thin, thin_gap, has_gap, begun, turns_form, loop_of, turns_in, walk_cut, walk_form, allowed, are_nil, unless_pair, without_pair, with_pair}
use Rattle.chart_term.specs.Terms.{TermEvent, Tree, Nil, Event, Join, Choice, Tied, Loop, Walk, Trees, none, more, Row, ends, gap, turn, Block, hits, items, trees, Part, Gap, Turn, parts, row_of, ◌∪◌, has, weight, weights, row_weight}
use Rattle.chart_term.proofs.Looping.{IsSubRow, sub_end, sub_gap, sub_drop, sub_turn, sub_over, sub_nil, sub_zero, sub_live, sub_free}
use Rattle.chart_term.specs.Spreads.{touch}
use Rattle.term_laws.specs.Permission.{permit, permit_all, permit_some, permit_row, wider, with_turn}
use Rattle.chart_term.specs.Equality.{same_tree}

abbrev mutual
  pub rank : (ℕ → ℕ) → Tree → ℕ
  rank f Nil = 1
  rank f (Event e) = 1
  rank f (Join m xs) = 1 + ranks f xs
  rank f (Choice xs) = 1 + ranks f xs
  rank f (Tied x q) = 1 + rank f x + length q
  rank f (Loop x lo hi r) = 1 + rank f x + row_rank f r
  rank f (Walk n s t c) = 1 + f n

  pub ranks : (ℕ → ℕ) → Trees → ℕ
  ranks f none = 0
  ranks f (more x xs) = rank f x + ranks f xs

  pub row_rank : (ℕ → ℕ) → Row → ℕ
  row_rank f ends = 0
  row_rank f (gap c r) = 1 + row_rank f r
  row_rank f (turn x r) = rank f x + row_rank f r

module _ (k : NetPermits) (nr : ℕ → ℕ) where
  abbrev pub list_rank : List Tree → ℕ
  list_rank [] = 0
  list_rank (x ∷ xs) = rank nr x + list_rank xs

  abbrev pub parts_rank : List Part → ℕ
  parts_rank [] = 0
  parts_rank (Gap c ∷ ps) = 1 + parts_rank ps
  parts_rank (Turn x ∷ ps) = rank nr x + parts_rank ps

  pub ranks-items : (xs : Trees) → list_rank (items xs) ≡ ranks nr xs
  ranks-items none = refl
  ranks-items (more x xs) = ap (λ n. rank nr x + n) (ranks-items xs)

  ranks-trees : (xs : List Tree) → ranks nr (trees xs) ≡ list_rank xs
  ranks-trees [] = refl
  ranks-trees (x ∷ xs) = ap (λ n. rank nr x + n) (ranks-trees xs)

  rank-row_of : (ps : List Part) → row_rank nr (row_of ps) ≡ parts_rank ps
  rank-row_of [] = refl
  rank-row_of (Gap c ∷ ps) = ap (λ n. 1 + n) (rank-row_of ps)
  rank-row_of (Turn x ∷ ps) = ap (λ n. rank nr x + n) (rank-row_of ps)

  pub rank-parts : (r : Row) → parts_rank (parts r) ≡ row_rank nr r
  rank-parts ends = refl
  rank-parts (gap c r) = ap (λ n. 1 + n) (rank-parts r)
  rank-parts (turn x r) = ap (λ n. rank nr x + n) (rank-parts r)

  rank_app : (xs ys : List Tree) → list_rank (xs ++ ys) ≡ list_rank xs + list_rank ys
  rank_app [] ys = omega arith
  rank_app (x ∷ xs) ys = omega (arith, rank_app xs ys)

  open_rank : (m : Mode) (x : Tree) → list_rank (open_part m x) ≤ rank nr x
  open_rank m Nil = omega arith
  open_rank seq (Join seq xs) = omega (arith, ranks-items xs)
  open_rank seq (Join par xs) = omega arith
  open_rank par (Join seq xs) = omega arith
  open_rank par (Join par xs) = omega (arith, ranks-items xs)
  open_rank m (Event e) = omega arith
  open_rank m (Choice xs) = omega arith
  open_rank m (Tied x q) = omega arith
  open_rank m (Loop x lo hi r) = omega arith
  open_rank m (Walk n f t c) = omega arith

  flat_rank : (m : Mode) (xs : List Tree) → list_rank (flat m xs) ≤ list_rank xs
  flat_rank m [] = omega arith
  flat_rank m (x ∷ xs) = omega (arith, rank_app (open_part m x) (flat m xs), open_rank m x, flat_rank m xs)

  of_rank : (m : Mode) (xs : List Tree) → rank nr (join_of m xs) ≤ 1 + list_rank xs
  of_rank m [] = omega arith
  of_rank m (x ∷ []) = omega arith
  of_rank m (x ∷ y ∷ ys) = omega (arith, ranks-trees ys)

  pub join_rank : (m : Mode) (xs : List Tree) → rank nr (join_all m xs) ≤ 1 + list_rank xs
  join_rank m xs = omega (arith, of_rank m (flat m xs), flat_rank m xs)

  sub_rank : {ps qs : List Part} → IsSubRow ps qs → parts_rank ps ≤ parts_rank qs
  sub_rank sub_end = omega arith
  sub_rank (sub_gap h) = omega (arith, sub_rank h)
  sub_rank (sub_drop h) = omega (arith, sub_rank h)
  sub_rank (sub_turn h) = omega (arith, sub_rank h)
  sub_rank (sub_over h) = omega (arith, sub_rank h)

  cut_rank : (all : List ℕ) (ps : List Part) → parts_rank (cut_gaps all ps) ≡ parts_rank ps
  cut_rank all [] = refl
  cut_rank all (Gap c ∷ ps) = ap (λ n. 1 + n) (cut_rank all ps)
  cut_rank all (Turn x ∷ ps) = ap (λ n. rank nr x + n) (cut_rank all ps)

  thin_gap_rank : (c : List ℕ) (ps : List Part) → parts_rank (thin_gap c ps) ≤ 1 + parts_rank ps
  thin_gap_rank c [] = omega arith
  thin_gap_rank c (Gap d ∷ ps) = omega arith
  thin_gap_rank c (Turn x ∷ ps) = omega arith

  thin_rank : (ps : List Part) → parts_rank (thin ps) ≤ parts_rank ps
  thin_rank [] = omega arith
  thin_rank (Gap c ∷ ps) = omega (arith, thin_gap_rank c (thin ps), thin_rank ps)
  thin_rank (Turn x ∷ ps) = omega (arith, thin_rank ps)

  begun_rank : (ps : List Part) → list_rank (begun ps) ≤ parts_rank ps
  begun_rank [] = omega arith
  begun_rank (Gap c ∷ ps) = omega (arith, begun_rank ps)
  begun_rank (Turn x ∷ ps) = omega (arith, begun_rank ps)

  abbrev pub OptLe : Option Tree → ℕ → Type 0
  OptLe None n = Unit {0}
  OptLe (Some x) n = rank nr x ≤ n

  abbrev ListLe : Option (List Tree) → ℕ → Type 0
  ListLe None n = Unit {0}
  ListLe (Some xs) n = list_rank xs ≤ n

  abbrev PartsLe : Option (List Part) → ℕ → Type 0
  PartsLe None n = Unit {0}
  PartsLe (Some ps) n = parts_rank ps ≤ n

  form_rank : (t : Bool) (x : Tree) (lo : ℕ) (hi : Option ℕ) (ps : List Part) (n : ℕ) → parts_rank ps ≤ n → OptLe (turns_form t x lo hi ps) (1 + rank nr x + n)
  form_rank true x lo hi ps n l = omega (arith, rank-row_of ps)
  form_rank false x zero hi ps n l = omega (arith, join_rank seq (begun ps), begun_rank ps)
  form_rank false x (suc lo) hi ps n l = tt

  pub turns_rank : (p : List ℕ → Option Tree) (all : List ℕ) (x : Tree) (lo : ℕ) (hi : Option ℕ) (ps : List Part) (n : ℕ) → parts_rank ps ≤ n → OptLe (loop_of p all x lo hi ps) (1 + rank nr x + n)
  turns_rank p all x lo hi ps n l =
      let a = cut_gaps all ps in
      let b = drop_nil a in
      let c = at_zero hi b in
      let d = live p c in
      let e = drop_free p d in
      let l1 : parts_rank a ≡ parts_rank ps = cut_rank all ps in
      let l2 : parts_rank b ≤ parts_rank a = sub_rank (sub_nil a) in
      let l3 : parts_rank c ≤ parts_rank b = sub_rank (sub_zero hi b) in
      let l4 : parts_rank d ≤ parts_rank c = sub_rank (sub_live p c) in
      let l5 : parts_rank e ≤ parts_rank d = sub_rank (sub_free p d) in
      let l6 : parts_rank (thin e) ≤ parts_rank e = thin_rank e in
      form_rank (has_gap (thin e)) x (lower_of (has_free p d) lo) hi (thin e) n (omega arith)

  turns_in_rank : (p : List ℕ → Option Tree) (all : List ℕ) (x : Tree) (lo : ℕ) (hi : Option ℕ) (o : Option (List Part)) (n : ℕ) → PartsLe o n → OptLe (turns_in p all x lo hi o) (1 + rank nr x + n)
  turns_in_rank p all x lo hi None n l = tt
  turns_in_rank p all x lo hi (Some ps) n l = turns_rank p all x lo hi ps n l

  walk_rank : (a b : Bool) (n : ℕ) (f : Spot) (t : Goal) (c : List ℕ) → OptLe (walk_form a b (Walk n f t c)) (1 + nr n)
  walk_rank false b n f t c = tt
  walk_rank true true n f t c = omega arith
  walk_rank true false n f t c = omega arith

  trail_cut_rank : (n : ℕ) (f : Spot) (t : Goal) (c : List ℕ) → OptLe (walk_cut k n f t c) (1 + nr n)
  trail_cut_rank n f Any c = omega arith
  trail_cut_rank n f (To m) c = walk_rank (reach (k.net n) (allowed k n c) f (To m)) (are_nil k n f (To m) c (allowed k n c)) n f (To m) c
  trail_cut_rank n f End c = walk_rank (reach (k.net n) (allowed k n c) f End) (are_nil k n f End c (allowed k n c)) n f End c

  and_rank : (r : Option Tree) (p : Option (List Tree)) (m n : ℕ) → OptLe r m → ListLe p n → ListLe (and_then r p) (m + n)
  and_rank None p m n h l = tt
  and_rank (Some y) None m n h l = tt
  and_rank (Some y) (Some ys) m n h l = omega arith

  skip_rank : (r : Option Tree) (ys : List Tree) (m n : ℕ) → OptLe r m → list_rank ys ≤ n → list_rank (or_skip r ys) ≤ m + n
  skip_rank None ys m n h l = omega arith
  skip_rank (Some y) ys m n h l = omega arith

  map_join_rank : (m : Mode) (p : Option (List Tree)) (n : ℕ) → ListLe p n → OptLe (option_map (join_all m) p) (1 + n)
  map_join_rank m None n l = tt
  map_join_rank m (Some ys) n l = omega (arith, join_rank m ys)

  form_rank_of : (ys : List Tree) (n : ℕ) → list_rank ys ≤ n → OptLe (choice_form ys) (1 + n)
  form_rank_of [] n l = tt
  form_rank_of (x ∷ []) n l = omega arith
  form_rank_of (x ∷ y ∷ ys) n l = omega (arith, ranks-trees ys)

  unless_rank : (t : Bool) (y : Tree) (ys : List Tree) → list_rank (unless_same t y ys) ≤ rank nr y + list_rank ys
  unless_rank true y ys = omega arith
  unless_rank false y ys = omega arith

  without_rank : (x : Tree) (ys : List Tree) → list_rank (without x ys) ≤ list_rank ys
  without_rank x [] = omega arith
  without_rank x (y ∷ ys) = omega (arith, unless_rank (same_tree x y) y (without x ys), without_rank x ys)

  distinct_rank : (xs : List Tree) → list_rank (distinct xs) ≤ list_rank xs
  distinct_rank [] = omega arith
  distinct_rank (x ∷ xs) = omega (arith, without_rank x (distinct xs), distinct_rank xs)

  opened_rank : (x : Tree) → list_rank (open_choice x) ≤ rank nr x
  opened_rank (Choice xs) = omega (arith, ranks-items xs)
  opened_rank Nil = omega arith
  opened_rank (Event e) = omega arith
  opened_rank (Join m xs) = omega arith
  opened_rank (Tied x q) = omega arith
  opened_rank (Loop x lo hi r) = omega arith
  opened_rank (Walk n f t c) = omega arith

  choices_rank : (xs : List Tree) → list_rank (open_choices xs) ≤ list_rank xs
  choices_rank [] = omega arith
  choices_rank (x ∷ xs) = omega (arith, rank_app (open_choice x) (open_choices xs), opened_rank x, choices_rank xs)

  choice_rank : (ys : List Tree) (n : ℕ) → list_rank ys ≤ n → OptLe (choice_of ys) (1 + n)
  choice_rank ys n l =
      let a : list_rank (open_choices ys) ≤ list_rank ys = choices_rank ys in
      let b : list_rank (distinct (open_choices ys)) ≤ list_rank (open_choices ys) = distinct_rank (open_choices ys) in
      form_rank_of (distinct (open_choices ys)) n (omega arith)

  pub tie_rank : (y : Tree) (q : List (ℕ × ℕ)) → rank nr (bound_form y q) ≤ 1 + rank nr y + length q
  tie_rank y [] = omega arith
  tie_rank y (p ∷ q) = omega arith

  unless_length : (t : Bool) (p : ℕ × ℕ) (q : List (ℕ × ℕ)) → length (unless_pair t p q) ≤ 1 + length q
  unless_length true p q = omega arith
  unless_length false p q = omega arith

  without_length : (p : ℕ × ℕ) (q : List (ℕ × ℕ)) → length (without_pair p q) ≤ length q
  without_length p [] = omega arith
  without_length p (r ∷ q) = omega (arith, unless_length ((p.0 == r.0) && (p.1 == r.1)) r (without_pair p q), without_length p q)

  with_length : (t : Bool) (p : ℕ × ℕ) (q : List (ℕ × ℕ)) → length (with_pair t p q) ≤ 1 + length q
  with_length true p q = omega (arith, without_length p q)
  with_length false p q = omega arith

  pub kept_length : (ns : List ℕ) (q : List (ℕ × ℕ)) → length (kept_pairs ns q) ≤ length q
  kept_length ns [] = omega arith
  kept_length ns (p ∷ q) = omega (arith, with_length (has ns p.0 && has ns p.1) p (kept_pairs ns q), kept_length ns q)

  bound_rank : (r : Option Tree) (q : List (ℕ × ℕ)) (n : ℕ) → OptLe r n → OptLe (option_map (λ y. tie_of y q) r) (1 + n + length q)
  bound_rank None q n l = tt
  bound_rank (Some y) q n l = omega (arith, tie_rank y (kept_pairs (numbers y) q), kept_length (numbers y) q)

  event_rank : (t : Bool) (e : TermEvent) → OptLe (unless t (Event e)) 1
  event_rank true e = tt
  event_rank false e = omega arith

  gap_rank : (c d : List ℕ) (p : Option (List Part)) (n : ℕ) → PartsLe p n → PartsLe (wider c p d) (1 + n)
  gap_rank c d None n l = tt
  gap_rank c d (Some ps) n l = omega arith

  turn_rank : (r : Option Tree) (p : Option (List Part)) (m n : ℕ) → OptLe r m → PartsLe p n → PartsLe (with_turn r p) (m + n)
  turn_rank None p m n h l = tt
  turn_rank (Some y) None m n h l = tt
  turn_rank (Some y) (Some ps) m n h l = omega arith

  mutual
    permit_le : (b : Block) (x : Tree) → OptLe (permit k b x) (rank nr x)
    permit_le b Nil = omega arith
    permit_le b (Event e) = event_rank (hits b e) e
    permit_le b (Join m xs) = map_join_rank m (permit_all k b xs) (ranks nr xs) (all_le b xs)
    permit_le b (Choice xs) = choice_rank (permit_some k b xs) (ranks nr xs) (some_le b xs)
    permit_le b (Tied x q) = bound_rank (permit k b x) q (rank nr x) (permit_le b x)
    permit_le b (Loop x lo hi r) = turns_in_rank (λ c. permit k (only c) x) (touch k.spread x) x lo hi (permit_row k b r) (row_rank nr r) (row_le b r)
    permit_le b (Walk n f t c) = trail_cut_rank n f t (cut (k.spread n) (c ∪ b.instances))

    all_le : (b : Block) (xs : Trees) → ListLe (permit_all k b xs) (ranks nr xs)
    all_le b none = omega arith
    all_le b (more x xs) = and_rank (permit k b x) (permit_all k b xs) (rank nr x) (ranks nr xs) (permit_le b x) (all_le b xs)

    some_le : (b : Block) (xs : Trees) → list_rank (permit_some k b xs) ≤ ranks nr xs
    some_le b none = omega arith
    some_le b (more x xs) = skip_rank (permit k b x) (permit_some k b xs) (rank nr x) (ranks nr xs) (permit_le b x) (some_le b xs)

    row_le : (b : Block) (r : Row) → PartsLe (permit_row k b r) (row_rank nr r)
    row_le b ends = omega arith
    row_le b (gap c r) = gap_rank c b.instances (permit_row k b r) (row_rank nr r) (row_le b r)
    row_le b (turn x r) = turn_rank (permit k b x) (permit_row k b r) (rank nr x) (row_rank nr r) (permit_le b x) (row_le b r)

  pub at_some : (r : Option Tree) (y : Tree) (n : ℕ) → r ≡ Some y → OptLe r n → rank nr y ≤ n
  at_some r y n e l = rw e at l

  pub permit_rank : (b : Block) (x y : Tree) → permit k b x ≡ Some y → rank nr y ≤ rank nr x
  permit_rank b x y e = at_some (permit k b x) y (rank nr x) e (permit_le b x)

-- the weight is the rank where nets weigh nothing
mutual
  pub weight_rank : (x : Tree) → weight x ≡ rank (λ n. 0) x
  weight_rank Nil = refl
  weight_rank (Event e) = refl
  weight_rank (Join m xs) = ap (λ n. 1 + n) (weights_rank xs)
  weight_rank (Choice xs) = ap (λ n. 1 + n) (weights_rank xs)
  weight_rank (Tied x q) = ap (λ n. 1 + n + length q) (weight_rank x)
  weight_rank (Loop x lo hi r) = λ i. 1 + weight_rank x i + row_weight_rank r i
  weight_rank (Walk n s t c) = refl

  weights_rank : (xs : Trees) → weights xs ≡ ranks (λ n. 0) xs
  weights_rank none = refl
  weights_rank (more x xs) = λ i. weight_rank x i + weights_rank xs i

  row_weight_rank : (r : Row) → row_weight r ≡ row_rank (λ n. 0) r
  row_weight_rank ends = refl
  row_weight_rank (gap c r) = ap (λ n. 1 + n) (row_weight_rank r)
  row_weight_rank (turn x r) = λ i. weight_rank x i + row_weight_rank r i

pub permit_weight : (k : NetPermits) (b : Block) (x y : Tree) → permit k b x ≡ Some y → weight y ≤ weight x
permit_weight k b x y e = let p = permit_rank k (λ n. 0) b x y e in let q = weight_rank x in let r = weight_rank y in omega arith
