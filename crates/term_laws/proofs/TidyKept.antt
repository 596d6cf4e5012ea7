-- Permission and taking keep terms tidy.
use Rattle.std.specs.Prelude.{ℕ, ◌≢◌, ◌==◌, Bool, true, false, List, [], ◌∷◌, ◌≡◌, Option, Some, None, ◌⊎◌, refl, ◌||◌, ◌++◌}
use Rattle.std.proofs.Common.{◌∙◌, arith, inl, inr, sym, ap}
use Rattle.std.proofs.lemmas.Bool.Decides.{nat_tests}
use Rattle.msc_base.specs.Patterns.{Mode, empty, one, join, bind}
use Rattle.hmsc_graph.specs.Graphs.{Spot, Goal}
use Rattle.msc_base.specs.Lists.{IsIn}
use Rattle.list_facts.proofs.Bools.{or_true}
use Rattle.term_laws.proofs.Normalising.{each_gap_sub}
use Rattle.chart_term.specs.NormalForms.{NetPermits, only, lower_of, cut_gaps, cut, numbers, numbers_row, numbers_all}
use Rattle.chart_term.specs.Properties.{Each, EachTurn, MayHave, EveryRow, EveryOf, Every, EachGap}
use Rattle.chart_term.specs.TermMeanings.{NetTerms, UpTo, HasPattern, has_nil, has_event, has_join, has_choice, holds_tie, holds_loop, holds_walk, HasParts, no_part, one_part, HasChoice, this_one, that_one, HasRow, gaps_end, gaps_turn, gaps_shut, gaps_more, HasWalk, walk_stop, walk_last, walk_step, terms_of}
use Rattle.chart_term.specs.TermPatterns.{instances_of, earlier, Shape, Avoids, put_if, before_in, InPairs, Occurs}
use Rattle.chart_term.specs.Terms.{TermEvent, Block, hits, has, Tree, Nil, Event, Join, Choice, Tied, Loop, Walk, Trees, none, more, Row, ends, gap, turn, items, trees, Part, Gap, Turn, parts, row_of, ◌∪◌}
use Rattle.chart_term.proofs.Instances.{has_union, includes_avoids, cut_out, cut_into, has_self, has_left, has_right}
use Rattle.chart_term.proofs.Lists.{parts-row_of}
use Rattle.chart_term.proofs.Looping.{Eases, Falls, IsSubRow, sub_end, sub_gap, sub_drop, sub_turn, sub_over}
use Rattle.chart_term.proofs.Sameness.{hits_earlier}
use Rattle.chart_term.proofs.Walking.{IsExactNet}
use Rattle.chart_term.specs.Spreads.{touch}
use Rattle.term_laws.specs.Permission.{permit, permit_row, wider, with_turn}
use Rattle.term_laws.specs.Soundness.{Includes, NeverGrows, IsTidy, Lacks, IsOutside, AreOutside, AreTidy, IsTidyRow, IsFitting, AreFitting, IsFittingRow}
use Rattle.term_laws.specs.Taking.{fewer, down, HasMore, IsAfter, IsAfterRow, in_turn, in_gap, past_turn, past_gap}
use Rattle.term_laws.proofs.Keeping.{Kind, permit_keeps, after_keeps, at_some}
use Rattle.term_laws.proofs.Permitting.{IsRegular, AreRegular, IsRegularRow, Fits, FitsAll, FitsRow, permit_law}
use Rattle.term_laws.proofs.TakingSound.{IsClosed, IsTurnOf}
use Rattle.term_laws.proofs.Everywhere.{permit_every, after_every, every_row_in, every_out, every_row_out}
use Rattle.chart_term.proofs.Binding.{Shows, kept_in, kept_less}

-- no event of the pattern has the number
abbrev pub NoNumber : ℕ → Shape → Type 0
NoNumber j empty = Unit {0}
NoNumber j (one e) = e.number ≢ j
NoNumber j (join m x y) = NoNumber j x × NoNumber j y
NoNumber j (bind x q) = NoNumber j x

pub earlier_pairs : (q : List (ℕ × ℕ)) (n j : ℕ) → has (before_in q n) j ≡ true → InPairs j q
earlier_pairs [] n j h = cc
earlier_pairs (p ∷ q) n j h = go (n == p.1) h (earlier_pairs q n j)
  where
    first : (m : ℕ) (ns : List ℕ) → has (m ∷ ns) j ≡ true → (j ≡ m) ⊎ (has ns j ≡ true)
    first m ns h = grind (arith, nat_tests)

    go : (t : Bool) → has (put_if t p.0 (before_in q n)) j ≡ true → (has (before_in q n) j ≡ true → InPairs j q) → InPairs j (p ∷ q)
    go true h f = elim (first p.0 (before_in q n) h) [ inl e ↦ inl (inl e) | inr i ↦ inr (f i) ]
    go false h f = inr (f h)

-- blocks that never grow

union_left : (c d : List ℕ) (n : ℕ) → has c n ≡ true → has (c ∪ d) n ≡ true
union_left c d n h = rw (has_union c d n, h) refl

wide_both : (c g d : List ℕ) → Includes c g → Includes (c ∪ d) (g ∪ d)
wide_both c g d h n i = rw (has_union c d n) (go (has g n) refl (sym (has_union g d n) ∙ i))
  where
    go : (t : Bool) → has g n ≡ t → (has g n || has d n) ≡ true → (has c n || has d n) ≡ true
    go true e j = let p : has c n ≡ true = h n e in rw p refl
    go false e j = let p : has d n ≡ true = rw e at j in rw p (or_true (has c n))

pub never_sub : {ps qs : List Part} → IsSubRow ps qs → NeverGrows qs → NeverGrows ps
never_sub sub_end e = tt
never_sub (sub_gap {c = c} h) e = (each_gap_sub (Includes c) h e.0, never_sub h e.1)
never_sub (sub_drop h) e = never_sub h e.1
never_sub (sub_turn h) e = never_sub h e
never_sub (sub_over h) e = never_sub h e

cut_includes : (all c d : List ℕ) → Includes c d → Includes (cut all c) (cut all d)
cut_includes all c d h n i = let p = cut_out all d n i in cut_into all c n p.0 (h n p.1)

each_cut : (all c : List ℕ) (ps : List Part) → EachGap (Includes c) ps → EachGap (Includes (cut all c)) (cut_gaps all ps)
each_cut all c [] e = tt
each_cut all c (Gap d ∷ ps) e = (cut_includes all c d e.0, each_cut all c ps e.1)
each_cut all c (Turn y ∷ ps) e = each_cut all c ps e

pub never_cut : (all : List ℕ) (ps : List Part) → NeverGrows ps → NeverGrows (cut_gaps all ps)
never_cut all [] e = tt
never_cut all (Gap c ∷ ps) e = (each_cut all c ps e.0, never_cut all ps e.1)
never_cut all (Turn y ∷ ps) e = never_cut all ps e

abbrev NeverOf : Option (List Part) → Type 0
NeverOf None = Unit {0}
NeverOf (Some ps) = NeverGrows ps

abbrev EachOf : (List ℕ → Type 0) → Option (List Part) → Type 0
EachOf q None = Unit {0}
EachOf q (Some ps) = EachGap q ps

each_wide : (k : NetPermits) (b : Block) (c : List ℕ) (r : Row) → EachGap (Includes c) (parts r) → EachOf (Includes (c ∪ b.instances)) (permit_row k b r)
each_wide k b c ends h = tt
each_wide k b c (gap d r) h = each_gap (permit_row k b r) (wide_both c d b.instances h.0) (each_wide k b c r h.1)
  where
    each_gap : (p : Option (List Part)) → Includes (c ∪ b.instances) (d ∪ b.instances) → EachOf (Includes (c ∪ b.instances)) p → EachOf (Includes (c ∪ b.instances)) (wider d p b.instances)
    each_gap None e f = tt
    each_gap (Some ps) e f = (e, f)
each_wide k b c (turn y r) h = each_turn (permit k b y) (permit_row k b r) (each_wide k b c r h)
  where
    each_turn : (t : Option Tree) (p : Option (List Part)) → EachOf (Includes (c ∪ b.instances)) p → EachOf (Includes (c ∪ b.instances)) (with_turn t p)
    each_turn None p f = tt
    each_turn (Some z) None f = tt
    each_turn (Some z) (Some ps) f = f

pub never_wide : (k : NetPermits) (b : Block) (r : Row) → NeverGrows (parts r) → NeverOf (permit_row k b r)
never_wide k b ends h = tt
never_wide k b (gap c r) h = never_gap (permit_row k b r) (each_wide k b c r h.0) (never_wide k b r h.1)
  where
    never_gap : (p : Option (List Part)) → EachOf (Includes (c ∪ b.instances)) p → NeverOf p → NeverOf (wider c p b.instances)
    never_gap None e f = tt
    never_gap (Some ps) e f = (e, f)
never_wide k b (turn y r) h = never_turn (permit k b y) (permit_row k b r) (never_wide k b r h)
  where
    never_turn : (t : Option Tree) (p : Option (List Part)) → NeverOf p → NeverOf (with_turn t p)
    never_turn None p f = tt
    never_turn (Some z) None f = tt
    never_turn (Some z) (Some ps) f = f

-- a set that includes another holds back more
module _ (w : NetTerms) (o : Bool) (x : Tree) where
  falls_each : (c : List ℕ) (ps : List Part) → EachGap (Includes c) ps → EachGap (Eases w o x c) ps
  falls_each c [] h = tt
  falls_each c (Gap d ∷ ps) h = (λ s a i. includes_avoids c d s h.0 i, falls_each c ps h.1)
  falls_each c (Turn y ∷ ps) h = falls_each c ps h

  pub falls_of : (ps : List Part) → NeverGrows ps → Falls w o x ps
  falls_of [] h = tt
  falls_of (Gap c ∷ ps) h = (falls_each c ps h.0, falls_of ps h.1)
  falls_of (Turn y ∷ ps) h = falls_of ps h

-- a net lacks a number; a net is sound
module _ (k : NetPermits) (node : ℕ → ℕ → Tree) (o : Bool) (NL : ℕ → ℕ → Type 0) (NG : ℕ → Type 0) where
  abbrev w : NetTerms
  w = terms_of k node

  abbrev pub Tidy : Tree → Type 0
  Tidy x = IsTidy NL NG x

  -- what is known of sound nets
  pub record AreExactNets : Type 0 where
    pub fine : (n : ℕ) → NG n → IsExactNet k node o n
    pub good : (n m : ℕ) (d : List ℕ) (x : Tree) → NG n → k.kept n m d ≡ Some x → Tidy x
    pub lacks : (j n m : ℕ) (d : List ℕ) (x : Tree) → NL j n → k.kept n m d ≡ Some x → Lacks NL j x
    pub node_lacks : (j n m : ℕ) → NL j n → Lacks NL j (node n m)
    pub known : (n m : ℕ) (d : List ℕ) (x : Tree) → k.kept n m d ≡ Some x → IsIn m (k.nodes n)

  mutual
    lacks_out : (j : ℕ) (x : Tree) → Lacks NL j x → IsOutside NL j x
    lacks_out j Nil h = tt
    lacks_out j (Event e) h = tt
    lacks_out j (Join m xs) h = lacks_out_all j xs h
    lacks_out j (Choice xs) h = lacks_out_all j xs h
    lacks_out j (Tied x q) h = lacks_out j x h
    lacks_out j (Loop x lo hi r) h = h
    lacks_out j (Walk n f t c) h = h

    lacks_out_all : (j : ℕ) (xs : Trees) → EveryOf (λ e. e.number ≢ j) (NL j) xs → AreOutside NL j xs
    lacks_out_all j none h = tt
    lacks_out_all j (more x xs) h = (lacks_out j x h.0, lacks_out_all j xs h.1)

  mutual
    lacks_fits : (j : ℕ) (x : Tree) → Lacks NL j x → IsFitting NL j x
    lacks_fits j Nil h = tt
    lacks_fits j (Event e) h = tt
    lacks_fits j (Join m xs) h = lacks_fit_all j xs h
    lacks_fits j (Choice xs) h = lacks_fit_all j xs h
    lacks_fits j (Tied x q) h = lacks_fits j x h
    lacks_fits j (Loop x lo hi r) h = (h.0, lacks_fit_row j r h.1)
    lacks_fits j (Walk n f t c) h = h

    lacks_fit_all : (j : ℕ) (xs : Trees) → EveryOf (λ e. e.number ≢ j) (NL j) xs → AreFitting NL j xs
    lacks_fit_all j none h = tt
    lacks_fit_all j (more x xs) h = (lacks_fits j x h.0, lacks_fit_all j xs h.1)

    lacks_fit_row : (j : ℕ) (r : Row) → EveryRow (λ e. e.number ≢ j) (NL j) r → IsFittingRow NL j r
    lacks_fit_row j ends h = tt
    lacks_fit_row j (gap c r) h = lacks_fit_row j r h
    lacks_fit_row j (turn x r) h = (lacks_fits j x h.0, lacks_fit_row j r h.1)

  -- a number that is outside may stand in a block
  mutual
    pub outside_fits : (j : ℕ) (x : Tree) → IsOutside NL j x → IsFitting NL j x
    outside_fits j Nil h = tt
    outside_fits j (Event e) h = tt
    outside_fits j (Join m xs) h = outside_fit_all j xs h
    outside_fits j (Choice xs) h = outside_fit_all j xs h
    outside_fits j (Tied x q) h = outside_fits j x h
    outside_fits j (Loop x lo hi r) h = (h.0, lacks_fit_row j r h.1)
    outside_fits j (Walk n f t c) h = h

    outside_fit_all : (j : ℕ) (xs : Trees) → AreOutside NL j xs → AreFitting NL j xs
    outside_fit_all j none h = tt
    outside_fit_all j (more x xs) h = (outside_fits j x h.0, outside_fit_all j xs h.1)

  out_in : (j : ℕ) (xs : List Tree) → Each (IsOutside NL j) xs → AreOutside NL j (trees xs)
  out_in j [] h = tt
  out_in j (x ∷ xs) h = (h.0, out_in j xs h.1)

  out_out : (j : ℕ) (xs : Trees) → AreOutside NL j xs → Each (IsOutside NL j) (items xs)
  out_out j none h = tt
  out_out j (more x xs) h = (h.0, out_out j xs h.1)

  good_in : (xs : List Tree) → Each Tidy xs → AreTidy NL NG (trees xs)
  good_in [] h = tt
  good_in (x ∷ xs) h = (h.0, good_in xs h.1)

  good_out : (xs : Trees) → AreTidy NL NG xs → Each Tidy (items xs)
  good_out none h = tt
  good_out (more x xs) h = (h.0, good_out xs h.1)

  good_row_in : (ps : List Part) → EachTurn Tidy ps → IsTidyRow NL NG (row_of ps)
  good_row_in [] h = tt
  good_row_in (Gap c ∷ ps) h = good_row_in ps h
  good_row_in (Turn x ∷ ps) h = (h.0, good_row_in ps h.1)

  good_row_out : (r : Row) → IsTidyRow NL NG r → EachTurn Tidy (parts r)
  good_row_out ends h = tt
  good_row_out (gap c r) h = good_row_out r h
  good_row_out (turn x r) h = (h.0, good_row_out r h.1)

  -- a number that is outside is in no net
  mutual
    lacks_bare : (j : ℕ) (x : Tree) → Lacks NL j x → Every (λ e. Unit {0}) (NL j) x
    lacks_bare j Nil h = tt
    lacks_bare j (Event e) h = tt
    lacks_bare j (Join m xs) h = lacks_bare_all j xs h
    lacks_bare j (Choice xs) h = lacks_bare_all j xs h
    lacks_bare j (Tied x q) h = lacks_bare j x h
    lacks_bare j (Loop x lo hi r) h = (lacks_bare j x h.0, lacks_bare_row j r h.1)
    lacks_bare j (Walk n f t c) h = h

    lacks_bare_all : (j : ℕ) (xs : Trees) → EveryOf (λ e. e.number ≢ j) (NL j) xs → EveryOf (λ e. Unit {0}) (NL j) xs
    lacks_bare_all j none h = tt
    lacks_bare_all j (more x xs) h = (lacks_bare j x h.0, lacks_bare_all j xs h.1)

    lacks_bare_row : (j : ℕ) (r : Row) → EveryRow (λ e. e.number ≢ j) (NL j) r → EveryRow (λ e. Unit {0}) (NL j) r
    lacks_bare_row j ends h = tt
    lacks_bare_row j (gap c r) h = lacks_bare_row j r h
    lacks_bare_row j (turn x r) h = (lacks_bare j x h.0, lacks_bare_row j r h.1)

  mutual
    pub outside_bare : (j : ℕ) (x : Tree) → IsOutside NL j x → Every (λ e. Unit {0}) (NL j) x
    outside_bare j Nil h = tt
    outside_bare j (Event e) h = tt
    outside_bare j (Join m xs) h = outside_bare_all j xs h
    outside_bare j (Choice xs) h = outside_bare_all j xs h
    outside_bare j (Tied x q) h = outside_bare j x h
    outside_bare j (Loop x lo hi r) h = (lacks_bare j x h.0, lacks_bare_row j r h.1)
    outside_bare j (Walk n f t c) h = h

    outside_bare_all : (j : ℕ) (xs : Trees) → AreOutside NL j xs → EveryOf (λ e. Unit {0}) (NL j) xs
    outside_bare_all j none h = tt
    outside_bare_all j (more x xs) h = (outside_bare j x h.0, outside_bare_all j xs h.1)

  module _ (nets : AreExactNets) where
    bare_kept : (j n m : ℕ) (d : List ℕ) (x : Tree) → NL j n → k.kept n m d ≡ Some x → Every (λ e. Unit {0}) (NL j) x
    bare_kept j n m d x h e = lacks_bare j x (nets.lacks j n m d x h e)

    permit_lacks : (j : ℕ) (b : Block) (x : Tree) → Lacks NL j x → MayHave (Lacks NL j) (permit k b x)
    permit_lacks j = permit_every (λ e. e.number ≢ j) (NL j) k

    after_lacks : (j : ℕ) {x y : Tree} {e : TermEvent} → IsAfter k x e y → Lacks NL j x → Lacks NL j y
    after_lacks j = after_every (λ e. e.number ≢ j) (NL j) k (nets.lacks j)

    out_kind : (j : ℕ) → Kind k (IsOutside NL j) (Lacks NL j) (λ x lo hi ps. Lacks NL j x) (λ x z. Unit {0})
    out_kind j = record {
      nil = tt;
      join_in = λ m xs h. out_in j xs h;
      join_out = λ m xs h. out_out j xs h;
      choice_in = λ x y xs a b h. (a, (b, out_in j xs h));
      choice_out = λ xs h. out_out j xs h;
      bound_out = λ x q h. h;
      bound_in = λ x z q h d i. i;
      bound_fewer = λ x q h. h;
      turns_in = λ x lo hi ps h d g a. (h, every_row_in (λ e. e.number ≢ j) (NL j) ps d);
      turns_out = λ x lo hi r h. (h.0, every_row_out (λ e. e.number ≢ j) (NL j) r h.1);
      release = λ x h. lacks_out j x h;
      turn_permit = λ b x h i. permit_lacks j b x h;
      turn_after = λ x y e h a i. after_lacks j a h;
      new_turn = λ x y z c lo hi ps e h p a f. after_lacks j a (at_some (Lacks NL j) (permit k (only c) x) y p (permit_lacks j (only c) x h));
      sub = λ x lo hi ps qs s h. h;
      cuts = λ x lo hi ps h. h;
      low = λ x lo hi ps b h. h;
      wide = λ b x lo hi r qs e h. h;
      after_row = λ x lo hi r qs b e a hm h. h;
      trail_in = λ n f g t u c d h s a l. h;
      permitted = λ b x z e. tt;
      taken = λ x y z b e a p. tt;
    }

    pub permit_out : (j : ℕ) (b : Block) (x : Tree) → IsOutside NL j x → MayHave (IsOutside NL j) (permit k b x)
    permit_out j = permit_keeps k (IsOutside NL j) (Lacks NL j) (λ x lo hi ps. Lacks NL j x) (λ x z. Unit {0}) (out_kind j)

    pub after_out : (j : ℕ) {x y : Tree} {e : TermEvent} → IsAfter k x e y → IsOutside NL j x → IsOutside NL j y
    after_out j = after_keeps k (IsOutside NL j) (Lacks NL j) (λ x lo hi ps. Lacks NL j x) (λ x z. Unit {0}) (out_kind j) (λ n m f t c d x h e. lacks_out j x (nets.lacks j n m d x h e))

    -- a number that a term lacks is in no event of its patterns
    mutual
      pub lacks_none : {x : Tree} {s : Shape} (j : ℕ) → HasPattern w o x s → Lacks NL j x → NoNumber j s
      lacks_none j has_nil h = tt
      lacks_none j has_event h = h
      lacks_none j (has_join {xs = xs} a) h = lacks_parts j a (every_out (λ e. e.number ≢ j) (NL j) xs h)
      lacks_none j (has_choice {xs = xs} a) h = lacks_one j a (every_out (λ e. e.number ≢ j) (NL j) xs h)
      lacks_none j (holds_tie a) h = lacks_none j a h
      lacks_none j (holds_loop {r = r} n a l u) h = lacks_gaps j a h.0 (every_row_out (λ e. e.number ≢ j) (NL j) r h.1)
      lacks_none j (holds_walk a) h = lacks_walk j a h

      lacks_parts : {m : Mode} {xs : List Tree} {s : Shape} (j : ℕ) → HasParts w o m xs s → Each (Lacks NL j) xs → NoNumber j s
      lacks_parts j no_part h = tt
      lacks_parts j (one_part a r) h = (lacks_none j a h.0, lacks_parts j r h.1)

      lacks_one : {xs : List Tree} {s : Shape} (j : ℕ) → HasChoice w o xs s → Each (Lacks NL j) xs → NoNumber j s
      lacks_one j (this_one a) h = lacks_none j a h.0
      lacks_one j (that_one a) h = lacks_one j a h.1

      lacks_gaps : {x : Tree} {ps : List Part} {n : ℕ} {s : Shape} (j : ℕ) → HasRow w o x ps n s → Lacks NL j x → EachTurn (Lacks NL j) ps → NoNumber j s
      lacks_gaps j gaps_end h d = tt
      lacks_gaps j (gaps_turn a r) h d = (lacks_none j a d.0, lacks_gaps j r h d.1)
      lacks_gaps j (gaps_shut r) h d = lacks_gaps j r h d
      lacks_gaps j (gaps_more a av r) h d = (lacks_none j a h, lacks_gaps j r h d)

      lacks_walk : {n : ℕ} {f : Spot} {t : Goal} {c : List ℕ} {s : Shape} (j : ℕ) → HasWalk w o n f t c s → NL j n → NoNumber j s
      lacks_walk j (walk_stop p) h = tt
      lacks_walk j (walk_last m i a) h = tt
      lacks_walk {n = n} j (walk_step m i a av r) h = (lacks_none j a (nets.node_lacks j n m h), lacks_walk j r h)

    -- a number that no net of a term has is among the numbers of the term where it stands in one of its patterns
    abbrev Bare : ℕ → Tree → Type 0
    Bare j x = Every (λ e. Unit {0}) (NL j) x

    clash : (j : ℕ) (s : Shape) → NoNumber j s → Occurs j s → ⊥
    clash j empty h i = i
    clash j (one e) h i = h (sym i)
    clash j (join m x y) h (inl i) = clash j x h.0 i
    clash j (join m x y) h (inr i) = clash j y h.1 i
    clash j (bind x q) h i = clash j x h i

    abbrev list_numbers : List Tree → List ℕ
    list_numbers [] = []
    list_numbers (x ∷ xs) = numbers x ++ list_numbers xs

    same_list : (xs : Trees) → list_numbers (items xs) ≡ numbers_all xs
    same_list none = refl
    same_list (more x xs) = ap (λ l. numbers x ++ l) (same_list xs)

    all_numbers : (xs : Trees) (j : ℕ) → has (list_numbers (items xs)) j ≡ true → has (numbers_all xs) j ≡ true
    all_numbers xs j h = rw (same_list xs) at h

    abbrev part_numbers : List Part → List ℕ
    part_numbers [] = []
    part_numbers (Gap c ∷ ps) = part_numbers ps
    part_numbers (Turn y ∷ ps) = numbers y ++ part_numbers ps

    same_numbers : (r : Row) → part_numbers (parts r) ≡ numbers_row r
    same_numbers ends = refl
    same_numbers (gap c r) = same_numbers r
    same_numbers (turn y r) = ap (λ l. numbers y ++ l) (same_numbers r)

    row_numbers : (r : Row) (j : ℕ) → has (part_numbers (parts r)) j ≡ true → has (numbers_row r) j ≡ true
    row_numbers r j h = rw (same_numbers r) at h

    mutual
      pub shows_of : {x : Tree} {s : Shape} (j : ℕ) → HasPattern w o x s → Bare j x → Occurs j s → has (numbers x) j ≡ true
      shows_of j has_nil h i = absurd i
      shows_of j (has_event {e = e}) h i = rw i (has_self e.number [])
      shows_of j (has_join {xs = xs} a) h i = all_numbers xs j (shows_parts j a (every_out (λ e. Unit {0}) (NL j) xs h) i)
      shows_of j (has_choice {xs = xs} a) h i = all_numbers xs j (shows_one j a (every_out (λ e. Unit {0}) (NL j) xs h) i)
      shows_of j (holds_tie a) h i = shows_of j a h i
      shows_of j (holds_loop {x = x} {r = r} n a l u) h i = elim (shows_gaps j a h.0 (every_row_out (λ e. Unit {0}) (NL j) r h.1) i) [ inl p ↦ has_left (numbers x) (numbers_row r) j p | inr p ↦ has_right (numbers x) (numbers_row r) j (row_numbers r j p) ]
      shows_of j (holds_walk {s = s} a) h i = absurd (clash j s (lacks_walk j a h) i)

      shows_parts : {m : Mode} {xs : List Tree} {s : Shape} (j : ℕ) → HasParts w o m xs s → Each (Bare j) xs → Occurs j s → has (list_numbers xs) j ≡ true
      shows_parts j no_part h i = absurd i
      shows_parts j (one_part {x = x} {xs = xs} a r) h (inl i) = has_left (numbers x) (list_numbers xs) j (shows_of j a h.0 i)
      shows_parts j (one_part {x = x} {xs = xs} a r) h (inr i) = has_right (numbers x) (list_numbers xs) j (shows_parts j r h.1 i)

      shows_one : {xs : List Tree} {s : Shape} (j : ℕ) → HasChoice w o xs s → Each (Bare j) xs → Occurs j s → has (list_numbers xs) j ≡ true
      shows_one j (this_one {x = x} {xs = xs} a) h i = has_left (numbers x) (list_numbers xs) j (shows_of j a h.0 i)
      shows_one j (that_one {x = x} {xs = xs} a) h i = has_right (numbers x) (list_numbers xs) j (shows_one j a h.1 i)

      shows_gaps : {x : Tree} {ps : List Part} {n : ℕ} {s : Shape} (j : ℕ) → HasRow w o x ps n s → Bare j x → EachTurn (Bare j) ps → Occurs j s → (has (numbers x) j ≡ true) ⊎ (has (part_numbers ps) j ≡ true)
      shows_gaps j gaps_end h d i = absurd i
      shows_gaps j (gaps_shut a) h d i = shows_gaps j a h d i
      shows_gaps j (gaps_more b av a) h d (inl i) = inl (shows_of j b h i)
      shows_gaps j (gaps_more b av a) h d (inr i) = shows_gaps j a h d i
      shows_gaps j (gaps_turn {y = y} {ps = ps} b a) h d (inl i) = inr (has_left (numbers y) (part_numbers ps) j (shows_of j b d.0 i))
      shows_gaps j (gaps_turn {y = y} {ps = ps} b a) h d (inr i) = elim (shows_gaps j a h d.1 i) [ inl p ↦ inl p | inr p ↦ inr (has_right (numbers y) (part_numbers ps) j p) ]

    pub permit_shows : (q : List (ℕ × ℕ)) (x : Tree) → ((j : ℕ) → InPairs j q → IsOutside NL j x) → (j : ℕ) → InPairs j q → (b : Block) (y : Tree) → permit k b x ≡ Some y → Shows w o y j
    permit_shows q x f j p b y e s a i = shows_of j a (at_some (Bare j) (permit k b x) y e (permit_every (λ e. Unit {0}) (NL j) k b x (outside_bare j x (f j p)))) i

    after_shows : (x y z : Tree) (q : List (ℕ × ℕ)) (e : TermEvent) → ((j : ℕ) → InPairs j q → IsOutside NL j x) → IsAfter k x e y → permit k (earlier q e) y ≡ Some z → (j : ℕ) → InPairs j q → Shows w o z j
    after_shows x y z q e f h g j p s a i =
        shows_of j a (at_some (Bare j) (permit k (earlier q e) y) z g (permit_every (λ e. Unit {0}) (NL j) k (earlier q e) y (after_every (λ e. Unit {0}) (NL j) k (bare_kept j) h (outside_bare j x (f j p))))) i

    mutual
      pub good_ok : (x : Tree) → Tidy x → IsRegular k node o x
      good_ok Nil h = tt
      good_ok (Event e) h = tt
      good_ok (Join m xs) h = goods_ok xs h
      good_ok (Choice xs) h = goods_ok xs h
      good_ok (Tied x q) h = (good_ok x h.0, permit_shows q x h.1)
      good_ok (Loop x lo hi r) h = (good_ok x h.0, row_ok r h.1, h.2, falls_of w o x (parts r) h.3)
      good_ok (Walk n f t c) h = nets.fine n h

      goods_ok : (xs : Trees) → AreTidy NL NG xs → AreRegular k node o xs
      goods_ok none h = tt
      goods_ok (more x xs) h = (good_ok x h.0, goods_ok xs h.1)

      row_ok : (r : Row) → IsTidyRow NL NG r → IsRegularRow k node o r
      row_ok ends h = tt
      row_ok (gap c r) h = row_ok r h
      row_ok (turn x r) h = (good_ok x h.0, row_ok r h.1)

    -- rows after an event
    weaker : (c d : List ℕ) (ps : List Part) → EachGap (Includes c) ps → EachGap (Includes (c ∪ d)) ps
    weaker c d [] h = tt
    weaker c d (Gap g ∷ ps) h = (λ n a. union_left c d n (h.0 n a), weaker c d ps h.1)
    weaker c d (Turn y ∷ ps) h = weaker c d ps h

    each_after : {x : Tree} {b : Bool} {ps qs : List Part} {e : TermEvent} (c : List ℕ) → IsAfterRow k x b ps e qs → EachGap (Includes c) ps → EachGap (Includes (c ∪ (instances_of e).instances)) qs
    each_after c (in_turn {x = x} {ps = ps} {e = e} a) h = weaker c (instances_of e).instances ps h
    each_after c (in_gap {x = x} {c = g} {ps = ps} {e = e} p a) h =
        (wide_both c g (instances_of e).instances h.0, (λ n i. union_left c (instances_of e).instances n (h.0 n i), weaker c (instances_of e).instances ps h.1))
    each_after c (past_turn p a) h = each_after c a h
    each_after c (past_gap {x = x} {c = g} {e = e} a) h = (wide_both c g (instances_of e).instances h.0, each_after c a h.1)

    pub never_after : {x : Tree} {b : Bool} {ps qs : List Part} {e : TermEvent} → IsAfterRow k x b ps e qs → NeverGrows ps → NeverGrows qs
    never_after (in_turn a) h = h
    never_after (in_gap {x = x} {c = g} {ps = ps} {e = e} p a) h =
        ((λ n i. union_left g (instances_of e).instances n i, weaker g (instances_of e).instances ps h.0), h)
    never_after (past_turn p a) h = never_after a h
    never_after (past_gap {c = g} a) h = (each_after g a h.0, never_after a h.1)

    pub up_down : (b : Bool) (lo : ℕ) (hi : Option ℕ) → HasMore b hi → UpTo hi lo → UpTo (fewer b hi) (down b lo)
    up_down b lo None e h = tt
    up_down true lo (Some i) e h = omega arith
    up_down false lo (Some i) e h = h

    pub up_low : (t : Bool) (lo : ℕ) (hi : Option ℕ) → UpTo hi lo → UpTo hi (lower_of t lo)
    up_low t lo None h = tt
    up_low true lo (Some i) h = omega arith
    up_low false lo (Some i) h = h

    pub never_some : (p : Option (List Part)) (qs : List Part) → p ≡ Some qs → NeverOf p → NeverGrows qs
    never_some p qs e h = rw e at h

    abbrev pub TidyLoop : Tree → ℕ → Option ℕ → List Part → Type 0
    TidyLoop x lo hi ps = Tidy x × UpTo hi lo × NeverGrows ps

    abbrev pub Replaces : Tree → Tree → Type 0
    Replaces x z = (j : ℕ) → IsOutside NL j x → IsOutside NL j z

    pub good_kind : Kind k Tidy Tidy TidyLoop Replaces
    good_kind = record {
      nil = tt;
      join_in = λ m xs h. good_in xs h;
      join_out = λ m xs h. good_out xs h;
      choice_in = λ x y xs a b h. (a, (b, good_in xs h));
      choice_out = λ xs h. good_out xs h;
      bound_out = λ x q h. h.0;
      bound_in = λ x z q h d i. (i, λ j p. d j (h.1 j p), h.2);
      bound_fewer = λ x q h. (h.0, λ j p. h.1 j (kept_in j (numbers x) q p), λ j. kept_less (numbers x) q j j (h.2 j));
      turns_in = λ x lo hi ps h d g a. (h.0, good_row_in ps d, h.1, never_same ps h.2);
      turns_out = λ x lo hi r h. ((h.0, h.2, h.3), good_row_out r h.1);
      release = λ x h. h;
      turn_permit = λ b x h i. i;
      turn_after = λ x y e h a i. i;
      new_turn = λ x y z c lo hi ps e h p a f. f h.0;
      sub = λ x lo hi ps qs s h. (h.0, h.1, never_sub s h.2);
      cuts = λ x lo hi ps h. (h.0, h.1, never_cut (touch k.spread x) ps h.2);
      low = λ x lo hi ps b h. (h.0, up_low b lo hi h.1, h.2);
      wide = λ b x lo hi r qs e h. (h.0, h.1, never_some (permit_row k b r) qs e (never_wide k b r h.2));
      after_row = λ x lo hi r qs b e a hm h. (h.0, up_down b lo hi hm h.1, never_after a h.2);
      trail_in = λ n f g t u c d h s a l. h;
      permitted = λ b x z e j h. at_some (IsOutside NL j) (permit k b x) z e (permit_out j b x h);
      taken = λ x y z b e a p j h. at_some (IsOutside NL j) (permit k b y) z p (permit_out j b y (after_out j a h));
    }
      where
        never_same : (ps : List Part) → NeverGrows ps → NeverGrows (parts (row_of ps))
        never_same ps h = rw (parts-row_of ps) h

    pub permit_good : (b : Block) (x : Tree) → Tidy x → MayHave Tidy (permit k b x)
    permit_good = permit_keeps k Tidy Tidy TidyLoop Replaces good_kind

    pub after_good : {x y : Tree} {e : TermEvent} → IsAfter k x e y → Tidy x → Tidy y
    after_good = after_keeps k Tidy Tidy TidyLoop Replaces good_kind (λ n m f t c d x h e. nets.good n m d x h e)

    -- a block whose numbers a pattern lacks is avoided where its instances are
    free_of : (b : Block) (s : Shape) → ((j : ℕ) → has b.numbers j ≡ true → NoNumber j s) → Avoids (only b.instances) s → Avoids b s
    free_of b empty f h = tt
    free_of b (one e) f h = go (has b.numbers e.number) refl
      where
        go : (t : Bool) → has b.numbers e.number ≡ t → hits b e ≡ false
        go true p = absurd (f e.number p refl)
        go false p = rw p h
    free_of b (join m x y) f h = (free_of b x (λ j p. (f j p).0) h.0, free_of b y (λ j p. (f j p).1) h.1)
    free_of b (bind x q) f h = free_of b x f h

    -- a block fits the term
    abbrev Fitting : Block → Tree → Type 0
    Fitting b x = (j : ℕ) → has b.numbers j ≡ true → IsFitting NL j x

    mutual
      pub outs_fit : (b : Block) (x : Tree) → Fitting b x → Fits k node o b x
      outs_fit b Nil h = tt
      outs_fit b (Event e) h = tt
      outs_fit b (Join m xs) h = outs_fit_all b xs h
      outs_fit b (Choice xs) h = outs_fit_all b xs h
      outs_fit b (Tied x q) h = outs_fit b x h
      outs_fit b (Loop x lo hi r) h = (λ s a i. free_of b s (λ j p. lacks_none j a (h j p).0) i, outs_fit_row b r (λ j p. (h j p).1))
      outs_fit b (Walk n f t c) h = λ m i s a d. free_of b s (λ j p. lacks_none j a (nets.node_lacks j n m (h j p))) d

      outs_fit_all : (b : Block) (xs : Trees) → ((j : ℕ) → has b.numbers j ≡ true → AreFitting NL j xs) → FitsAll k node o b xs
      outs_fit_all b none h = tt
      outs_fit_all b (more x xs) h = (outs_fit b x (λ j p. (h j p).0), outs_fit_all b xs (λ j p. (h j p).1))

      outs_fit_row : (b : Block) (r : Row) → ((j : ℕ) → has b.numbers j ≡ true → IsFittingRow NL j r) → FitsRow k node o b r
      outs_fit_row b ends h = tt
      outs_fit_row b (gap c r) h = outs_fit_row b r h
      outs_fit_row b (turn x r) h = (outs_fit b x (λ j p. (h j p).0), outs_fit_row b r (λ j p. (h j p).1))

    begun_good : (y : Tree) (ps : List Part) → EachTurn Tidy ps → IsTurnOf y ps → Tidy y
    begun_good y [] h i = absurd i
    begun_good y (Gap c ∷ ps) h i = begun_good y ps h i
    begun_good y (Turn z ∷ ps) h (inl e) = rw e h.0
    begun_good y (Turn z ∷ ps) h (inr i) = begun_good y ps h.1 i

    pub closed : IsClosed k node o Tidy
    closed = record {
      held = record {
        ok = good_ok;
        joined = λ m x xs h. (h.0, h.1);
        chosen = λ x xs h. (h.0, h.1);
        tied = λ x q h. h.0;
        operand = λ x lo hi r h. h.0;
        begun = λ x lo hi y r h i. begun_good y (parts r) (good_row_out r h.1) i;
        permitted = λ c x y h e. at_some Tidy (permit k (only c) x) y e (permit_good (only c) x h);
        kept = λ n f t c d m x h i e. nets.good n m d x h e;
      };
      known = nets.known;
      fits = λ x y q e h a. permit_law k node o y (good_ok y (after_good a h.0)) (earlier q e) (outs_fit (earlier q e) y (λ j p. outside_fits j y (after_out j a (h.1 j (earlier_pairs q e.number j p)))));
      shows = λ x y z q e h a p. after_shows x y z q e h.1 a p;
      no_self = λ x q e h. hits_earlier q e e ∙ h.2 e.number;
      falls = λ x b lo hi r e ps h a. falls_of w o x ps (never_after a h.3);
    }
