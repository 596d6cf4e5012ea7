-- What permission leaves of a term are its patterns that avoid the block.
use Rattle.std.specs.Option.{option_map}
use Rattle.std.specs.Prelude.{ℕ, suc, Bool, true, false, List, [], ◌∷◌, ◌++◌, ◌≡◌, ◌||◌, Option, Some, None, refl}
use Rattle.msc_base.specs.Patterns.{Mode, seq, empty, one, join, bind}
use Rattle.hmsc_graph.specs.Graphs.{Spot, At, Goal}
use Rattle.msc_base.specs.Lists.{IsIn}
use Rattle.chart_term.specs.NormalForms.{NetPermits, only, cut, join_all, and_then, or_skip, unless, choice_of, tie_of, loop_of, turns_in, walk_of}
use Rattle.chart_term.specs.TermMeanings.{NetTerms, UpTo, HasPattern, has_nil, has_event, has_join, has_choice, holds_tie, holds_loop, holds_walk, HasParts, no_part, one_part, HasChoice, this_one, that_one, HasRow, gaps_end, gaps_turn, gaps_shut, gaps_more, HasWalk, walk_stop, walk_last, walk_step, PatternSet, ◌⊑◌, Avoiding, PatternsOf, Leaves, terms_of}
use Rattle.chart_term.specs.TermPatterns.{Shape, Avoids, same, on, in_join, in_bind, Both, InPairs}
use Rattle.chart_term.specs.Terms.{TermEvent, Block, hits, has, has_some, Tree, Nil, Event, Join, Choice, Tied, Loop, Walk, Trees, more, Row, ends, gap, turn, items, Part, Gap, Turn, parts, ◌∪◌, none}
use Rattle.chart_term.proofs.Instances.{IsInside, inside_left, inside_right, inside_own, cut_avoids, both_avoids}
use Rattle.chart_term.proofs.Joining.{join_to, join_from, choice_to, choice_from}
use Rattle.chart_term.proofs.Looping.{Eases, Falls, Rows, turns_to, turns_from}
use Rattle.chart_term.proofs.Walking.{IsExactNet, Walks, change, trail_to, trail_from}
use Rattle.chart_term.specs.Spreads.{touch, touch_all, touch_row}
use Rattle.term_laws.specs.Permission.{permit, permit_all, permit_some, permit_row, wider, with_turn}
use Rattle.chart_term.specs.Properties.{EachGap}
use Rattle.chart_term.proofs.Binding.{bound_to, bound_from, Shows}

module _ (k : NetPermits) (node : ℕ → ℕ → Tree) (o : Bool) where
  abbrev w : NetTerms
  w = terms_of k node

  -- the conditions on a term: the counts and blocks of its loops, and its nets
  abbrev mutual
    pub IsRegular : Tree → Type 0
    IsRegular Nil = Unit {0}
    IsRegular (Event e) = Unit {0}
    IsRegular (Join m xs) = AreRegular xs
    IsRegular (Choice xs) = AreRegular xs
    IsRegular (Tied x q) = IsRegular x × ((j : ℕ) → InPairs j q → (b : Block) (y : Tree) → permit k b x ≡ Some y → Shows w o y j)
    IsRegular (Loop x lo hi r) = IsRegular x × IsRegularRow r × UpTo hi lo × Falls w o x (parts r)
    IsRegular (Walk n f t c) = IsExactNet k node o n

    pub AreRegular : Trees → Type 0
    AreRegular none = Unit {0}
    AreRegular (more x xs) = IsRegular x × AreRegular xs

    pub IsRegularRow : Row → Type 0
    IsRegularRow ends = Unit {0}
    IsRegularRow (gap c r) = IsRegularRow r
    IsRegularRow (turn x r) = IsRegular x × IsRegularRow r

  -- no number of the block occurs in a loop operand or a net
  abbrev pub IsFree : Block → Tree → Type 0
  IsFree b x = (s : Shape) → HasPattern w o x s → Avoids (only b.instances) s → Avoids b s

  abbrev mutual
    pub Fits : Block → Tree → Type 0
    Fits b Nil = Unit {0}
    Fits b (Event e) = Unit {0}
    Fits b (Join m xs) = FitsAll b xs
    Fits b (Choice xs) = FitsAll b xs
    Fits b (Tied x q) = Fits b x
    Fits b (Loop x lo hi r) = IsFree b x × FitsRow b r
    Fits b (Walk n f t c) = (m : ℕ) → IsIn m (k.nodes n) → IsFree b (node n m)

    pub FitsAll : Block → Trees → Type 0
    FitsAll b none = Unit {0}
    FitsAll b (more x xs) = Fits b x × FitsAll b xs

    pub FitsRow : Block → Row → Type 0
    FitsRow b ends = Unit {0}
    FitsRow b (gap c r) = FitsRow b r
    FitsRow b (turn x r) = Fits b x × FitsRow b r

  mutual
    pub only_fits : (c : List ℕ) (x : Tree) → Fits (only c) x
    only_fits c Nil = tt
    only_fits c (Event e) = tt
    only_fits c (Join m xs) = only_fits_all c xs
    only_fits c (Choice xs) = only_fits_all c xs
    only_fits c (Tied x q) = only_fits c x
    only_fits c (Loop x lo hi r) = (λ s a h. h, only_fits_row c r)
    only_fits c (Walk n f t d) = λ m i s a h. h

    only_fits_all : (c : List ℕ) (xs : Trees) → FitsAll (only c) xs
    only_fits_all c none = tt
    only_fits_all c (more x xs) = (only_fits c x, only_fits_all c xs)

    only_fits_row : (c : List ℕ) (r : Row) → FitsRow (only c) r
    only_fits_row c ends = tt
    only_fits_row c (gap d r) = only_fits_row c r
    only_fits_row c (turn x r) = (only_fits c x, only_fits_row c r)

  inside_none : (x : Tree) (all : List ℕ) (n : ℕ) (s : Shape) → HasRow w o x [] n s → IsInside all s
  inside_none x all n s gaps_end = tt

  inside_gap : (x : Tree) (c : List ℕ) (ps : List Part) (all : List ℕ) → ((t : Shape) → HasPattern w o x t → IsInside all t) → ((n : ℕ) (s : Shape) → HasRow w o x ps n s → IsInside all s) → (n : ℕ) (s : Shape) → HasRow w o x (Gap c ∷ ps) n s → IsInside all s
  inside_gap x c ps all g f n s (gaps_shut r) = f n s r
  inside_gap x c ps all g f (suc n) s (gaps_more a av r) = (g _ a, inside_gap x c ps all g f n _ r)

  inside_walk : (n : ℕ) → IsExactNet k node o n → (f : Spot) (t : Goal) (c : List ℕ) (s : Shape) → HasWalk w o n f t c s → IsInside (k.spread n) s
  inside_walk n h f t c s (walk_stop a) = tt
  inside_walk n h f t c s (walk_last m i a) = tt
  inside_walk n h f t c s (walk_step m i a av r) = (h.inside m (h.within f m i) _ a, inside_walk n h (At m) t c _ r)

  -- the events of a term have their instances where it touches
  mutual
    pub inside : (x : Tree) → IsRegular x → (s : Shape) → HasPattern w o x s → IsInside (touch k.spread x) s
    inside Nil h s has_nil = tt
    inside (Event e) h s has_event = inside_own e
    inside (Join m xs) h s (has_join a) = inside_all m xs h s a
    inside (Choice xs) h s (has_choice a) = inside_one xs h s a
    inside (Tied x q) h s (holds_tie a) = inside x h.0 _ a
    inside (Loop x lo hi r) h s (holds_loop n a l u) = inside_row x r h.1 (touch k.spread x ++ touch_row k.spread r) (inside_right (touch k.spread x) (touch_row k.spread r)) (λ t b. inside_left (touch k.spread x) (touch_row k.spread r) t (inside x h.0 t b)) n s a
    inside (Walk n f t c) h s (holds_walk a) = inside_walk n h f t c s a

    inside_all : (m : Mode) (xs : Trees) → AreRegular xs → (s : Shape) → HasParts w o m (items xs) s → IsInside (touch_all k.spread xs) s
    inside_all m none h s no_part = tt
    inside_all m (more x xs) h s (one_part {s = u} {t = v} a r) = (inside_left (touch k.spread x) (touch_all k.spread xs) u (inside x h.0 _ a), inside_right (touch k.spread x) (touch_all k.spread xs) v (inside_all m xs h.1 _ r))

    inside_one : (xs : Trees) → AreRegular xs → (s : Shape) → HasChoice w o (items xs) s → IsInside (touch_all k.spread xs) s
    inside_one none h s a = elim a [ ]
    inside_one (more x xs) h s (this_one a) = inside_left (touch k.spread x) (touch_all k.spread xs) s (inside x h.0 _ a)
    inside_one (more x xs) h s (that_one a) = inside_right (touch k.spread x) (touch_all k.spread xs) s (inside_one xs h.1 _ a)

    inside_row : (x : Tree) (r : Row) → IsRegularRow r → (all : List ℕ) → ((t : Shape) → IsInside (touch_row k.spread r) t → IsInside all t) → ((t : Shape) → HasPattern w o x t → IsInside all t) → (n : ℕ) (s : Shape) → HasRow w o x (parts r) n s → IsInside all s
    inside_row x ends h all f g n s a = inside_none x all n s a
    inside_row x (gap c r) h all f g n s a = inside_gap x c (parts r) all g (λ m t b. inside_row x r h all f g m t b) n s a
    inside_row x (turn y r) h all f g n s (gaps_turn {s = u} {u = v} a b) =
        (f u (inside_left (touch k.spread y) (touch_row k.spread r) u (inside y h.0 u a)), inside_row x r h.1 all (λ t i. f t (inside_right (touch k.spread y) (touch_row k.spread r) t i)) g n v b)

  pub touched : (x : Tree) → IsRegular x → (c : List ℕ) (s : Shape) → HasPattern w o x s → Both (Avoids (only (cut (touch k.spread x) c)) s) (Avoids (only c) s)
  touched x h c s a = cut_avoids (touch k.spread x) c s (inside x h s a)

  -- joins
  abbrev pub PartsOf : Mode → Option (List Tree) → PatternSet
  PartsOf m None s = ⊥
  PartsOf m (Some xs) s = HasParts w o m xs s

  and_sound : (m : Mode) (b : Block) (x : Tree) (xs : List Tree) (r : Option Tree) (p : Option (List Tree)) → PatternsOf w o r ⊑ Avoiding b (HasPattern w o x) → PartsOf m p ⊑ Avoiding b (HasParts w o m xs)
      → PartsOf m (and_then r p) ⊑ Avoiding b (HasParts w o m (x ∷ xs))
  and_sound m b x xs None p f g s h = absurd h
  and_sound m b x xs (Some y) None f g s h = absurd h
  and_sound m b x xs (Some y) (Some ys) f g s (one_part a h) = let i = f _ a in let j = g _ h in (join m i.0 j.0, (one_part i.1.0 j.1.0, (i.1.1, j.1.1)), in_join i.2 j.2)

  and_pair : (m : Mode) (r : Option Tree) (p : Option (List Tree)) (s t : Shape) → PatternsOf w o r s → PartsOf m p t → PartsOf m (and_then r p) (join m s t)
  and_pair m None p s t h i = absurd h
  and_pair m (Some y) None s t h i = absurd i
  and_pair m (Some y) (Some ys) s t h i = one_part h i

  and_whole : (m : Mode) (b : Block) (x : Tree) (xs : List Tree) (r : Option Tree) (p : Option (List Tree)) → Avoiding b (HasPattern w o x) ⊑ PatternsOf w o r → Avoiding b (HasParts w o m xs) ⊑ PartsOf m p
      → Avoiding b (HasParts w o m (x ∷ xs)) ⊑ PartsOf m (and_then r p)
  and_whole m b x xs r p f g s (one_part a h, av) = let i = f _ (a, av.0) in let j = g _ (h, av.1) in (join m i.0 j.0, and_pair m r p i.0 j.0 i.1 j.1, in_join i.2 j.2)

  join_sound : (m : Mode) (b : Block) (xs : Trees) (p : Option (List Tree)) → PartsOf m p ⊑ Avoiding b (HasParts w o m (items xs)) → PatternsOf w o (option_map (join_all m) p) ⊑ Avoiding b (HasPattern w o (Join m xs))
  join_sound m b xs None f s h = absurd h
  join_sound m b xs (Some ys) f s h = let i = join_to w o m ys s h in let j = f _ i.1 in (j.0, (has_join j.1.0, j.1.1), on i.2 j.2)

  join_whole : (m : Mode) (b : Block) (xs : Trees) (p : Option (List Tree)) → Avoiding b (HasParts w o m (items xs)) ⊑ PartsOf m p → Avoiding b (HasPattern w o (Join m xs)) ⊑ PatternsOf w o (option_map (join_all m) p)
  join_whole m b xs None f s (has_join h, av) = absurd (f s (h, av)).1
  join_whole m b xs (Some ys) f s (has_join h, av) = let i = f s (h, av) in let j = join_from w o m ys _ i.1 in (j.0, j.1, on i.2 j.2)

  no_parts_sound : (m : Mode) (b : Block) → PartsOf m (Some []) ⊑ Avoiding b (HasParts w o m [])
  no_parts_sound m b s no_part = (empty, (no_part, tt), same)

  no_parts_whole : (m : Mode) (b : Block) → Avoiding b (HasParts w o m []) ⊑ PartsOf m (Some [])
  no_parts_whole m b s (no_part, av) = (empty, no_part, same)

  -- bound terms
  abbrev ShowsAll : List (ℕ × ℕ) → Option Tree → Type 0
  ShowsAll q r = (j : ℕ) → InPairs j q → (y : Tree) → r ≡ Some y → Shows w o y j

  bound_sound : (b : Block) (x : Tree) (q : List (ℕ × ℕ)) (r : Option Tree) → ShowsAll q r → PatternsOf w o r ⊑ Avoiding b (HasPattern w o x) → PatternsOf w o (option_map (λ y. tie_of y q) r) ⊑ Avoiding b (HasPattern w o (Tied x q))
  bound_sound b x q None v f s h = absurd h
  bound_sound b x q (Some y) v f s h = let j = bound_to w o y q (λ n i. v n i y refl) s h in let k = bound_parts b x y q f j.0 j.1 in (k.0, k.1, on j.2 k.2)
    where
      bound_parts : (b : Block) (x y : Tree) (q : List (ℕ × ℕ)) → HasPattern w o y ⊑ Avoiding b (HasPattern w o x) → HasPattern w o (Tied y q) ⊑ Avoiding b (HasPattern w o (Tied x q))
      bound_parts b x y q f s (holds_tie h) = let i = f _ h in (bind i.0 q, (holds_tie i.1.0, i.1.1), in_bind i.2)

  bound_whole : (b : Block) (x : Tree) (q : List (ℕ × ℕ)) (r : Option Tree) → ShowsAll q r → Avoiding b (HasPattern w o x) ⊑ PatternsOf w o r → Avoiding b (HasPattern w o (Tied x q)) ⊑ PatternsOf w o (option_map (λ y. tie_of y q) r)
  bound_whole b x q None v f s (holds_tie h, a) = absurd (f _ (h, a)).1
  bound_whole b x q (Some y) v f s (holds_tie h, a) =
      let i = f _ (h, a) in
      let j = bound_from w o y q (λ n d. v n d y refl) (bind i.0 q) (holds_tie i.1) in
      (j.0, j.1, on (in_bind i.2) j.2)

  -- choices
  skip_sound : (b : Block) (x : Tree) (xs : List Tree) (r : Option Tree) (ys : List Tree) → PatternsOf w o r ⊑ Avoiding b (HasPattern w o x) → HasChoice w o ys ⊑ Avoiding b (HasChoice w o xs) → HasChoice w o (or_skip r ys) ⊑ Avoiding b (HasChoice w o (x ∷ xs))
  skip_sound b x xs None ys f g s h = let i = g s h in (i.0, (that_one i.1.0, i.1.1), i.2)
  skip_sound b x xs (Some y) ys f g s (this_one a) = let i = f s a in (i.0, (this_one i.1.0, i.1.1), i.2)
  skip_sound b x xs (Some y) ys f g s (that_one h) = let i = g s h in (i.0, (that_one i.1.0, i.1.1), i.2)

  skip_whole : (b : Block) (x : Tree) (xs : List Tree) (r : Option Tree) (ys : List Tree) → Avoiding b (HasPattern w o x) ⊑ PatternsOf w o r → Avoiding b (HasChoice w o xs) ⊑ HasChoice w o ys → Avoiding b (HasChoice w o (x ∷ xs)) ⊑ HasChoice w o (or_skip r ys)
  skip_whole b x xs None ys f g s (this_one a, h) = absurd (f s (a, h)).1
  skip_whole b x xs None ys f g s (that_one a, h) = g s (a, h)
  skip_whole b x xs (Some y) ys f g s (this_one a, h) = let i = f s (a, h) in (i.0, this_one i.1, i.2)
  skip_whole b x xs (Some y) ys f g s (that_one a, h) = let i = g s (a, h) in (i.0, that_one i.1, i.2)

  choice_sound : (b : Block) (xs : Trees) (ys : List Tree) → HasChoice w o ys ⊑ Avoiding b (HasChoice w o (items xs)) → PatternsOf w o (choice_of ys) ⊑ Avoiding b (HasPattern w o (Choice xs))
  choice_sound b xs ys f s h = let i = f s (choice_to w o ys s h) in (i.0, (has_choice i.1.0, i.1.1), i.2)

  choice_whole : (b : Block) (xs : Trees) (ys : List Tree) → Avoiding b (HasChoice w o (items xs)) ⊑ HasChoice w o ys → Avoiding b (HasPattern w o (Choice xs)) ⊑ PatternsOf w o (choice_of ys)
  choice_whole b xs ys f s (has_choice h, a) = let i = f s (h, a) in (i.0, choice_from w o ys _ i.1, i.2)

  -- events
  event_sound : (b : Block) (e : TermEvent) (t : Bool) → hits b e ≡ t → PatternsOf w o (unless t (Event e)) ⊑ Avoiding b (HasPattern w o (Event e))
  event_sound b e true p s h = absurd h
  event_sound b e false p s has_event = (one e, (has_event, p), same)

  event_whole : (b : Block) (e : TermEvent) (t : Bool) → hits b e ≡ t → Avoiding b (HasPattern w o (Event e)) ⊑ PatternsOf w o (unless t (Event e))
  event_whole b e true p s (has_event, h) = cc
  event_whole b e false p s (has_event, h) = (one e, has_event, same)

  nil_law : (b : Block) → Leaves w o b Nil (Some Nil)
  nil_law b = record { sound = to; whole = from }
    where
      to : HasPattern w o Nil ⊑ Avoiding b (HasPattern w o Nil)
      to s has_nil = (empty, (has_nil, tt), same)

      from : Avoiding b (HasPattern w o Nil) ⊑ HasPattern w o Nil
      from s (has_nil, h) = (empty, has_nil, same)

  -- rows of gaps
  abbrev pub RowsOf : Tree → Option (List Part) → ℕ → PatternSet
  RowsOf x None n s = ⊥
  RowsOf x (Some ps) n s = HasRow w o x ps n s

  -- what a row leaves
  pub record RowLeaves (b : Block) (x : Tree) (ps : List Part) (r : Option (List Part)) : Type 0 where
    pub to : (n : ℕ) → RowsOf x r n ⊑ Avoiding b (Rows w o x ps n)
    pub from : (n : ℕ) → Avoiding b (Rows w o x ps n) ⊑ RowsOf x r n

  row_end : (b : Block) (x : Tree) → RowLeaves b x [] (Some [])
  row_end b x = record { to = λ n. to n; from = λ n. from n }
    where
      to : (n : ℕ) → Rows w o x [] n ⊑ Avoiding b (Rows w o x [] n)
      to n s gaps_end = (empty, (gaps_end, tt), same)

      from : (n : ℕ) → Avoiding b (Rows w o x [] n) ⊑ Rows w o x [] n
      from n s (gaps_end, h) = (empty, gaps_end, same)

  -- a gap takes the block's instances too
  gap_to : (b : Block) (x : Tree) (c d : List ℕ) → ((s : Shape) → HasPattern w o x s → Avoids (only d) s → Avoids (only c) s × Avoids b s) → (ps qs : List Part) → ((n : ℕ) → Rows w o x qs n ⊑ Avoiding b (Rows w o x ps n)) → (n : ℕ) → Rows w o x (Gap d ∷ qs) n ⊑ Avoiding b (Rows w o x (Gap c ∷ ps) n)
  gap_to b x c d g ps qs f n s (gaps_shut r) = let i = f n s r in (i.0, (gaps_shut i.1.0, i.1.1), i.2)
  gap_to b x c d g ps qs f (suc n) s (gaps_more {s = u} a av r) =
      let i = gap_to b x c d g ps qs f n _ r in
      let p = g u a av in
      (join seq u i.0, (gaps_more a p.0 i.1.0, (p.1, i.1.1)), in_join same i.2)

  or_drop : (a b : Bool) → (a || b) ≡ false → (a || false) ≡ false
  or_drop true b h = cc
  or_drop false b h = refl

  -- who avoids the block avoids its instances
  pub instances_only : (b : Block) (s : Shape) → Avoids b s → Avoids (only b.instances) s
  instances_only b empty h = tt
  instances_only b (one e) h = or_drop (has b.instances e.at || has_some b.instances e.also) (has b.numbers e.number) h
  instances_only b (join m x y) h = (instances_only b x h.0, instances_only b y h.1)
  instances_only b (bind x q) h = instances_only b x h

  gap_from : (b : Block) (x : Tree) (c : List ℕ) (ps qs : List Part) → ((n : ℕ) → Avoiding b (Rows w o x ps n) ⊑ Rows w o x qs n) → (n : ℕ) → Avoiding b (Rows w o x (Gap c ∷ ps) n) ⊑ Rows w o x (Gap (c ∪ b.instances) ∷ qs) n
  gap_from b x c ps qs f n s (gaps_shut r, h) = let i = f n s (r, h) in (i.0, gaps_shut i.1, i.2)
  gap_from b x c ps qs f (suc n) s (gaps_more {s = u} a av r, h) =
      let i = gap_from b x c ps qs f n _ (r, h.1) in
      (join seq u i.0, gaps_more a ((both_avoids c b.instances u).from (av, instances_only b u h.0)) i.1, in_join same i.2)

  row_gap : (b : Block) (x : Tree) → IsFree b x → (c : List ℕ) (ps : List Part) (r : Option (List Part)) → RowLeaves b x ps r → RowLeaves b x (Gap c ∷ ps) (wider c r b.instances)
  row_gap b x free c ps None h = record { to = λ n s a. absurd a; from = λ n. none n }
    where
      none : (n : ℕ) → Avoiding b (Rows w o x (Gap c ∷ ps) n) ⊑ (λ s. ⊥)
      none n s (gaps_shut r, a) = h.from n s (r, a)
      none (suc n) s (gaps_more a av r, g) = absurd (none n _ (r, g.1)).1
  row_gap b x free c ps (Some qs) h = record { to = gap_to b x c (c ∪ b.instances) (λ s a e. let p = (both_avoids c b.instances s).to e in (p.0, free s a p.1)) ps qs h.to; from = gap_from b x c ps qs h.from }

  row_turn : (b : Block) (x y : Tree) (t : Option Tree) → Leaves w o b y t → (ps : List Part) (r : Option (List Part)) → RowLeaves b x ps r → RowLeaves b x (Turn y ∷ ps) (with_turn t r)
  row_turn b x y t g ps r h = record { to = λ n. to n t r g.sound h.to; from = λ n. from n }
    where
      to : (n : ℕ) (t : Option Tree) (r : Option (List Part)) → PatternsOf w o t ⊑ Avoiding b (HasPattern w o y) → ((n : ℕ) → RowsOf x r n ⊑ Avoiding b (Rows w o x ps n)) → RowsOf x (with_turn t r) n ⊑ Avoiding b (Rows w o x (Turn y ∷ ps) n)
      to n None r f g s a = absurd a
      to n (Some z) None f g s a = absurd a
      to n (Some z) (Some qs) f g s (gaps_turn a q) = let i = f _ a in let j = g n _ q in (join seq i.0 j.0, (gaps_turn i.1.0 j.1.0, (i.1.1, j.1.1)), in_join i.2 j.2)

      pair : (t : Option Tree) (r : Option (List Part)) (n : ℕ) (s u : Shape) → PatternsOf w o t s → RowsOf x r n u → RowsOf x (with_turn t r) n (join seq s u)
      pair None r n s u a q = absurd a
      pair (Some z) None n s u a q = absurd q
      pair (Some z) (Some qs) n s u a q = gaps_turn a q

      from : (n : ℕ) → Avoiding b (Rows w o x (Turn y ∷ ps) n) ⊑ RowsOf x (with_turn t r) n
      from n s (gaps_turn a q, e) = let i = g.whole _ (a, e.0) in let j = h.from n _ (q, e.1) in (join seq i.0 j.0, pair t r n i.0 j.0 i.1 j.1, in_join i.2 j.2)

  -- the blocks of the permitted row do not grow either
  pub wide_ease : (b : Block) (x : Tree) (c d : List ℕ) → Eases w o x c d → Eases w o x (c ∪ b.instances) (d ∪ b.instances)
  wide_ease b x c d e s a h = let p = (both_avoids c b.instances s).to h in (both_avoids d b.instances s).from (e s a p.0, p.1)

  abbrev pub FallsOf : Tree → Option (List Part) → Type 0
  FallsOf x None = Unit {0}
  FallsOf x (Some ps) = Falls w o x ps

  abbrev pub EachOf : Tree → (List ℕ → Type 0) → Option (List Part) → Type 0
  EachOf x q None = Unit {0}
  EachOf x q (Some ps) = EachGap q ps

  each_wide : (b : Block) (x : Tree) (c : List ℕ) (r : Row) → EachGap (Eases w o x c) (parts r) → EachOf x (Eases w o x (c ∪ b.instances)) (permit_row k b r)
  each_wide b x c ends h = tt
  each_wide b x c (gap d r) h = each_gap d (permit_row k b r) (wide_ease b x c d h.0) (each_wide b x c r h.1)
    where
      each_gap : (d : List ℕ) (p : Option (List Part)) → Eases w o x (c ∪ b.instances) (d ∪ b.instances) → EachOf x (Eases w o x (c ∪ b.instances)) p → EachOf x (Eases w o x (c ∪ b.instances)) (wider d p b.instances)
      each_gap d None e f = tt
      each_gap d (Some ps) e f = (e, f)
  each_wide b x c (turn y r) h = each_turn (permit k b y) (permit_row k b r) (each_wide b x c r h)
    where
      each_turn : (t : Option Tree) (p : Option (List Part)) → EachOf x (Eases w o x (c ∪ b.instances)) p → EachOf x (Eases w o x (c ∪ b.instances)) (with_turn t p)
      each_turn None p f = tt
      each_turn (Some z) None f = tt
      each_turn (Some z) (Some ps) f = f

  pub falls_wide : (b : Block) (x : Tree) (r : Row) → Falls w o x (parts r) → FallsOf x (permit_row k b r)
  falls_wide b x ends h = tt
  falls_wide b x (gap c r) h = falls_gap (permit_row k b r) (each_wide b x c r h.0) (falls_wide b x r h.1)
    where
      falls_gap : (p : Option (List Part)) → EachOf x (Eases w o x (c ∪ b.instances)) p → FallsOf x p → FallsOf x (wider c p b.instances)
      falls_gap None e f = tt
      falls_gap (Some ps) e f = (e, f)
  falls_wide b x (turn y r) h = falls_turn (permit k b y) (permit_row k b r) (falls_wide b x r h)
    where
      falls_turn : (t : Option Tree) (p : Option (List Part)) → FallsOf x p → FallsOf x (with_turn t p)
      falls_turn None p f = tt
      falls_turn (Some z) None f = tt
      falls_turn (Some z) (Some ps) f = f

  -- a loop
  loop_law : (b : Block) (x : Tree) → IsRegular x → ((c : List ℕ) → Leaves w o (only c) x (permit k (only c) x)) → (lo : ℕ) (hi : Option ℕ) → UpTo hi lo → (r : Row) (p : Option (List Part)) → FallsOf x p → RowLeaves b x (parts r) p
      → Leaves w o b (Loop x lo hi r) (turns_in (λ c. permit k (only c) x) (touch k.spread x) x lo hi p)
  loop_law b x h f lo hi u r None d g = record { sound = λ s a. absurd a; whole = none }
    where
      none : Avoiding b (HasPattern w o (Loop x lo hi r)) ⊑ (λ s. ⊥)
      none s (holds_loop n a l v, e) = g.from n s (a, e)
  loop_law b x h f lo hi u r (Some ps) d g = record { sound = to; whole = from }
    where
      ease : (c : List ℕ) → Eases w o x (cut (touch k.spread x) c) c
      ease c s a = (touched x h c s a).to

      hard : (c : List ℕ) → Eases w o x c (cut (touch k.spread x) c)
      hard c s a = (touched x h c s a).from

      to : PatternsOf w o (loop_of (λ c. permit k (only c) x) (touch k.spread x) x lo hi ps) ⊑ Avoiding b (HasPattern w o (Loop x lo hi r))
      to s a =
          let i = turns_to w o x (λ c. permit k (only c) x) f (touch k.spread x) ease hard lo hi ps u s a in
          let j = g.to i.1.0 i.0 i.1.1 in
          (j.0, (holds_loop i.1.0 j.1.0 i.1.2 i.1.3, j.1.1), on i.2 j.2)

      from : Avoiding b (HasPattern w o (Loop x lo hi r)) ⊑ PatternsOf w o (loop_of (λ c. permit k (only c) x) (touch k.spread x) x lo hi ps)
      from s (holds_loop n a l v, e) =
          let i = g.from n s (a, e) in
          let j = turns_from w o x (λ c. permit k (only c) x) f (touch k.spread x) ease hard lo hi ps d i.0 (n, i.1, l, v) in
          (j.0, j.1, on i.2 j.2)

  -- a walk
  trail_law : (b : Block) (n : ℕ) (f : Spot) (t : Goal) (c : List ℕ) → IsExactNet k node o n → ((m : ℕ) → IsIn m (k.nodes n) → IsFree b (node n m)) → Leaves w o b (Walk n f t c) (walk_of k n f t (c ∪ b.instances))
  trail_law b n f t c h g = record { sound = to; whole = from }
    where
      avoided : (f : Spot) (t : Goal) (s : Shape) → Walks k node o n f t (c ∪ b.instances) s → Avoids b s
      avoided f t s (walk_stop a) = tt
      avoided f t s (walk_last m i a) = tt
      avoided f t s (walk_step m {s = u} i a av r) = (g m (h.within f m i) u a ((both_avoids c b.instances u).to av).1, avoided (At m) t _ r)

      to : PatternsOf w o (walk_of k n f t (c ∪ b.instances)) ⊑ Avoiding b (HasPattern w o (Walk n f t c))
      to s a =
          let i = trail_to k node o n h f t (c ∪ b.instances) s a in
          (i.0, (holds_walk (change k node o n h (c ∪ b.instances) c (λ m j u p q. ((both_avoids c b.instances u).to q).0) f t i.0 i.1), avoided f t i.0 i.1), i.2)

      narrow : (f : Spot) (t : Goal) (s : Shape) → Walks k node o n f t c s → Avoids b s → Walks k node o n f t (c ∪ b.instances) s
      narrow f t s (walk_stop a) e = walk_stop a
      narrow f t s (walk_last m i a) e = walk_last m i a
      narrow f t s (walk_step m {s = u} i a av r) e = walk_step m i a ((both_avoids c b.instances u).from (av, instances_only b u e.0)) (narrow (At m) t _ r e.1)

      from : Avoiding b (HasPattern w o (Walk n f t c)) ⊑ PatternsOf w o (walk_of k n f t (c ∪ b.instances))
      from s (holds_walk a, e) = trail_from k node o n h f t (c ∪ b.instances) s (narrow f t s a e)

  -- what is known of the parts of a join and a choice
  pub record AllLeave (b : Block) (xs : Trees) : Type 0 where
    pub to : (m : Mode) → PartsOf m (permit_all k b xs) ⊑ Avoiding b (HasParts w o m (items xs))
    pub from : (m : Mode) → Avoiding b (HasParts w o m (items xs)) ⊑ PartsOf m (permit_all k b xs)
    pub one_to : HasChoice w o (permit_some k b xs) ⊑ Avoiding b (HasChoice w o (items xs))
    pub one_from : Avoiding b (HasChoice w o (items xs)) ⊑ HasChoice w o (permit_some k b xs)

  no_one_to : (b : Block) → HasChoice w o [] ⊑ Avoiding b (HasChoice w o [])
  no_one_to b s h = elim h [ ]

  no_one_from : (b : Block) → Avoiding b (HasChoice w o []) ⊑ HasChoice w o []
  no_one_from b s h = elim h.0 [ ]

  mutual
    pub permit_law : (x : Tree) → IsRegular x → (b : Block) → Fits b x → Leaves w o b x (permit k b x)
    permit_law Nil h b g = nil_law b
    permit_law (Event e) h b g = record { sound = event_sound b e (hits b e) refl; whole = event_whole b e (hits b e) refl }
    permit_law (Join m xs) h b g = let r = permits_law xs h b g in record { sound = join_sound m b xs (permit_all k b xs) (r.to m); whole = join_whole m b xs (permit_all k b xs) (r.from m) }
    permit_law (Choice xs) h b g = let r = permits_law xs h b g in record { sound = choice_sound b xs (permit_some k b xs) r.one_to; whole = choice_whole b xs (permit_some k b xs) r.one_from }
    permit_law (Tied x q) h b g =
        let r = permit_law x h.0 b g in
        let v : ShowsAll q (permit k b x) = λ j i y e. h.1 j i b y e in
        record { sound = bound_sound b x q (permit k b x) v r.sound; whole = bound_whole b x q (permit k b x) v r.whole }
    permit_law (Loop x lo hi r) h b g = loop_law b x h.0 (λ c. permit_law x h.0 (only c) (only_fits c x)) lo hi h.2 r (permit_row k b r) (falls_wide b x r h.3) (row_law x r h.1 b g.0 g.1)
    permit_law (Walk n f t c) h b g = trail_law b n f t c h g

    pub permits_law : (xs : Trees) → AreRegular xs → (b : Block) → FitsAll b xs → AllLeave b xs
    permits_law none h b g = record { to = λ m. no_parts_sound m b; from = λ m. no_parts_whole m b; one_to = no_one_to b; one_from = no_one_from b }
    permits_law (more x xs) h b g =
        let p = permit_law x h.0 b g.0 in
        let r = permits_law xs h.1 b g.1 in
        record {
          to = λ m. and_sound m b x (items xs) (permit k b x) (permit_all k b xs) p.sound (r.to m);
          from = λ m. and_whole m b x (items xs) (permit k b x) (permit_all k b xs) p.whole (r.from m);
          one_to = skip_sound b x (items xs) (permit k b x) (permit_some k b xs) p.sound r.one_to;
          one_from = skip_whole b x (items xs) (permit k b x) (permit_some k b xs) p.whole r.one_from;
        }

    pub row_law : (x : Tree) (r : Row) → IsRegularRow r → (b : Block) → IsFree b x → FitsRow b r → RowLeaves b x (parts r) (permit_row k b r)
    row_law x ends h b f g = row_end b x
    row_law x (gap c r) h b f g = row_gap b x f c (parts r) (permit_row k b r) (row_law x r h b f g)
    row_law x (turn y r) h b f g = row_turn b x y (permit k b y) (permit_law y h.0 b g.0) (parts r) (permit_row k b r) (row_law x r h.1 b f g.1)
