-- What permission and taking keep of a property of terms.
use Rattle.std.specs.Option.{option_map}
use Rattle.std.specs.Prelude.{ℕ, zero, suc, Bool, true, false, List, [], ◌∷◌, ◌≡◌, Option, Some, None, refl}
use Rattle.msc_base.specs.Patterns.{Mode, seq, par}
use Rattle.hmsc_graph.specs.Graphs.{Spot, At, Goal, To, End, Any, reach}
use Rattle.chart_term.specs.NormalForms.{NetPermits, only, cut, flat, join_of, join_all, and_then, or_skip, unless, choice_of, choice_form, distinct, open_choices, bound_form, tie_of, kept_pairs, numbers, cut_gaps, drop_nil, at_zero, live_gap, live, drop_free, has_free, lower_of, thin, thin_gap, has_gap, begun, turns_form, loop_of, walk_of, walk_cut, walk_form, allowed, are_nil, turns_in}
use Rattle.chart_term.specs.Properties.{Each, EachTurn, MayHave}
use Rattle.chart_term.specs.TermPatterns.{instances_of, earlier}
use Rattle.chart_term.specs.Terms.{TermEvent, Block, hits, Tree, Nil, Event, Join, Choice, Tied, Loop, Walk, Trees, none, more, Row, ends, gap, turn, items, trees, Part, Gap, Turn, parts, row_of, ◌∪◌}
use Rattle.chart_term.proofs.Looping.{IsSubRow, sub_end, sub_gap, sub_drop, sub_turn, sub_over, sub_nil, sub_zero, sub_live, sub_free}
use Rattle.chart_term.specs.Spreads.{touch}
use Rattle.term_laws.specs.Permission.{permit, permit_all, permit_some, permit_row, wider, with_turn}
use Rattle.term_laws.specs.Taking.{Stays, fewer, down, HasMore, IsAfter, after_event, after_choice, after_join, after_tied, after_loop, after_walk, IsAfterOne, first_one, later_one, IsAfterJoin, first_part, later_part, IsAfterRow, in_turn, in_gap, past_turn, past_gap}
use Rattle.term_laws.proofs.Opening.{each_flat, each_choices, each_distinct}

-- a gap whose block leaves something of the operand
abbrev pub AliveAt : NetPermits → Tree → List ℕ → Type 0
AliveAt k x c = (y : Tree) × (permit k (only c) x ≡ Some y)

abbrev pub AliveGaps : NetPermits → Tree → List Part → Type 0
AliveGaps k x [] = Unit {0}
AliveGaps k x (Gap c ∷ ps) = AliveAt k x c × AliveGaps k x ps
AliveGaps k x (Turn y ∷ ps) = AliveGaps k x ps

-- a walk leads there
abbrev pub Leading : NetPermits → ℕ → Spot → Goal → List ℕ → Type 0
Leading k n f Any c = Unit {0}
Leading k n f End c = reach (k.net n) (allowed k n c) f End ≡ true
Leading k n f (To m) c = reach (k.net n) (allowed k n c) f (To m) ≡ true

-- a walk that is left begins where it began or at a node, and goes where it went or to a node; the node's term isn't held back
pub data Begins (k : NetPermits) (n : ℕ) : Spot → Spot → Type 0 where
  as_before : {f : Spot} → Begins k n f f
  at_node : {f : Spot} (m : ℕ) (d : List ℕ) (x : Tree) → k.kept n m d ≡ Some x → Begins k n f (At m)

pub data Aims (k : NetPermits) (n : ℕ) : Goal → Goal → Type 0 where
  as_before : {t : Goal} → Aims k n t t
  to_node : {t : Goal} (m : ℕ) (d : List ℕ) (x : Tree) → k.kept n m d ≡ Some x → Aims k n t (To m)

-- a property of terms: T is what it asks of begun turns, X of a loop, D of what replaces a bound term
pub record Kind (k : NetPermits) (P T : Tree → Type 0) (X : Tree → ℕ → Option ℕ → List Part → Type 0) (D : Tree → Tree → Type 0) : Type 0 where
  pub nil : P Nil
  pub join_in : (m : Mode) (xs : List Tree) → Each P xs → P (Join m (trees xs))
  pub join_out : (m : Mode) (xs : Trees) → P (Join m xs) → Each P (items xs)
  pub choice_in : (x y : Tree) (xs : List Tree) → P x → P y → Each P xs → P (Choice (trees (x ∷ y ∷ xs)))
  pub choice_out : (xs : Trees) → P (Choice xs) → Each P (items xs)
  pub bound_out : (x : Tree) (q : List (ℕ × ℕ)) → P (Tied x q) → P x
  pub bound_in : (x z : Tree) (q : List (ℕ × ℕ)) → P (Tied x q) → D x z → P z → P (Tied z q)
  pub bound_fewer : (x : Tree) (q : List (ℕ × ℕ)) → P (Tied x q) → P (Tied x (kept_pairs (numbers x) q))
  pub turns_in : (x : Tree) (lo : ℕ) (hi : Option ℕ) (ps : List Part) → X x lo hi ps → EachTurn T ps → has_gap ps ≡ true → AliveGaps k x ps → P (Loop x lo hi (row_of ps))
  pub turns_out : (x : Tree) (lo : ℕ) (hi : Option ℕ) (r : Row) → P (Loop x lo hi r) → X x lo hi (parts r) × EachTurn T (parts r)
  pub release : (x : Tree) → T x → P x
  pub turn_permit : (b : Block) (x : Tree) → T x → MayHave P (permit k b x) → MayHave T (permit k b x)
  pub turn_after : (x y : Tree) (e : TermEvent) → T x → IsAfter k x e y → P y → T y
  pub new_turn : (x y z : Tree) (c : List ℕ) (lo : ℕ) (hi : Option ℕ) (ps : List Part) (e : TermEvent) → X x lo hi ps → permit k (only c) x ≡ Some y → IsAfter k y e z → (P x → P z) → T z
  pub sub : (x : Tree) (lo : ℕ) (hi : Option ℕ) (ps qs : List Part) → IsSubRow qs ps → X x lo hi ps → X x lo hi qs
  pub cuts : (x : Tree) (lo : ℕ) (hi : Option ℕ) (ps : List Part) → X x lo hi ps → X x lo hi (cut_gaps (touch k.spread x) ps)
  pub low : (x : Tree) (lo : ℕ) (hi : Option ℕ) (ps : List Part) (b : Bool) → X x lo hi ps → X x (lower_of b lo) hi ps
  pub wide : (b : Block) (x : Tree) (lo : ℕ) (hi : Option ℕ) (r : Row) (qs : List Part) → permit_row k b r ≡ Some qs → X x lo hi (parts r) → X x lo hi qs
  pub after_row : (x : Tree) (lo : ℕ) (hi : Option ℕ) (r : Row) (qs : List Part) (b : Bool) (e : TermEvent) → IsAfterRow k x b (parts r) e qs → HasMore b hi → X x lo hi (parts r) → X x (down b lo) (fewer b hi) qs
  pub trail_in : (n : ℕ) (f g : Spot) (t u : Goal) (c d : List ℕ) → P (Walk n f t c) → Begins k n f g → Aims k n t u → Leading k n g u d → P (Walk n g u d)
  pub permitted : (b : Block) (x z : Tree) → permit k b x ≡ Some z → D x z
  pub taken : (x y z : Tree) (b : Block) (e : TermEvent) → IsAfter k x e y → permit k b y ≡ Some z → D x z

-- a row without neighbouring gaps has some of its gaps
sub_thin_gap : (c : List ℕ) {ps qs : List Part} → IsSubRow ps qs → IsSubRow (thin_gap c ps) (Gap c ∷ qs)
sub_thin_gap c sub_end = sub_gap sub_end
sub_thin_gap c (sub_gap h) = sub_drop (sub_gap h)
sub_thin_gap c (sub_drop {ps = []} h) = sub_gap (sub_drop h)
sub_thin_gap c (sub_drop {ps = Gap d ∷ ps} h) = sub_drop (sub_drop h)
sub_thin_gap c (sub_drop {ps = Turn x ∷ ps} h) = sub_gap (sub_drop h)
sub_thin_gap c (sub_turn h) = sub_gap (sub_turn h)
sub_thin_gap c (sub_over {ps = []} h) = sub_gap (sub_over h)
sub_thin_gap c (sub_over {ps = Gap d ∷ ps} h) = sub_drop (sub_over h)
sub_thin_gap c (sub_over {ps = Turn x ∷ ps} h) = sub_gap (sub_over h)

pub sub_thin : (ps : List Part) → IsSubRow (thin ps) ps
sub_thin [] = sub_end
sub_thin (Gap c ∷ ps) = sub_thin_gap c (sub_thin ps)
sub_thin (Turn x ∷ ps) = sub_turn (sub_thin ps)

pub each_turn_sub : (T : Tree → Type 0) {ps qs : List Part} → IsSubRow qs ps → EachTurn T ps → EachTurn T qs
each_turn_sub T sub_end h = tt
each_turn_sub T (sub_gap s) h = each_turn_sub T s h
each_turn_sub T (sub_drop s) h = each_turn_sub T s h
each_turn_sub T (sub_turn s) h = (h.0, each_turn_sub T s h.1)
each_turn_sub T (sub_over s) h = each_turn_sub T s h.1

pub each_turn_cut : (T : Tree → Type 0) (all : List ℕ) (ps : List Part) → EachTurn T ps → EachTurn T (cut_gaps all ps)
each_turn_cut T all [] h = tt
each_turn_cut T all (Gap c ∷ ps) h = each_turn_cut T all ps h
each_turn_cut T all (Turn x ∷ ps) h = (h.0, each_turn_cut T all ps h.1)

pub at_some : (P : Tree → Type 0) (r : Option Tree) (y : Tree) → r ≡ Some y → MayHave P r → P y
at_some P r y e h = rw e at h

-- a gap that is left leaves something of the operand
module _ (k : NetPermits) where
  pub alive_sub : (x : Tree) {ps qs : List Part} → IsSubRow qs ps → AliveGaps k x ps → AliveGaps k x qs
  alive_sub x sub_end h = tt
  alive_sub x (sub_gap s) h = (h.0, alive_sub x s h.1)
  alive_sub x (sub_drop s) h = alive_sub x s h.1
  alive_sub x (sub_turn s) h = alive_sub x s h
  alive_sub x (sub_over s) h = alive_sub x s h

  alive_gap : (x : Tree) (c : List ℕ) (r : Option Tree) (ps : List Part) → permit k (only c) x ≡ r → AliveGaps k x ps → AliveGaps k x (live_gap r c ps)
  alive_gap x c None ps e h = h
  alive_gap x c (Some y) ps e h = ((y, e), h)

  pub alive_live : (x : Tree) (ps : List Part) → AliveGaps k x (live (λ c. permit k (only c) x) ps)
  alive_live x [] = tt
  alive_live x (Gap c ∷ ps) = alive_gap x c (permit k (only c) x) (live (λ c. permit k (only c) x) ps) refl (alive_live x ps)
  alive_live x (Turn y ∷ ps) = alive_live x ps

module _ (k : NetPermits) (P T : Tree → Type 0) (X : Tree → ℕ → Option ℕ → List Part → Type 0) (D : Tree → Tree → Type 0) (kind : Kind k P T X D) where
  flat_keeps : (m : Mode) (xs : List Tree) → Each P xs → Each P (flat m xs)
  flat_keeps m xs h = each_flat P m (kind.join_out m) xs h

  of_keeps : (m : Mode) (xs : List Tree) → Each P xs → P (join_of m xs)
  of_keeps m [] h = kind.nil
  of_keeps m (x ∷ []) h = h.0
  of_keeps m (x ∷ y ∷ ys) h = kind.join_in m (x ∷ y ∷ ys) h

  pub join_keeps : (m : Mode) (xs : List Tree) → Each P xs → P (join_all m xs)
  join_keeps m xs h = of_keeps m (flat m xs) (flat_keeps m xs h)

  alternatives_keep : (xs : List Tree) → Each P xs → MayHave P (choice_form xs)
  alternatives_keep [] h = tt
  alternatives_keep (x ∷ []) h = h.0
  alternatives_keep (x ∷ y ∷ ys) h = kind.choice_in x y ys h.0 h.1.0 h.1.1

  choices_keep : (xs : List Tree) → Each P xs → Each P (open_choices xs)
  choices_keep xs h = each_choices P kind.choice_out xs h

  pub choice_keeps : (xs : List Tree) → Each P xs → MayHave P (choice_of xs)
  choice_keeps xs h = alternatives_keep (distinct (open_choices xs)) (each_distinct P (open_choices xs) (choices_keep xs h))

  tie_keeps : (x : Tree) (q : List (ℕ × ℕ)) → P x → P (Tied x q) → P (bound_form x q)
  tie_keeps x [] h i = h
  tie_keeps x (p ∷ q) h i = i

  pub tied_keeps : (x : Tree) (q : List (ℕ × ℕ)) → P (Tied x q) → P (tie_of x q)
  tied_keeps x q h = tie_keeps x (kept_pairs (numbers x) q) (kind.bound_out x q h) (kind.bound_fewer x q h)

  begun_keeps : (ps : List Part) → EachTurn T ps → Each P (begun ps)
  begun_keeps [] h = tt
  begun_keeps (Gap c ∷ ps) h = begun_keeps ps h
  begun_keeps (Turn x ∷ ps) h = (kind.release x h.0, begun_keeps ps h.1)

  form_keeps : (t : Bool) (x : Tree) (lo : ℕ) (hi : Option ℕ) (ps : List Part) → has_gap ps ≡ t → AliveGaps k x ps → X x lo hi ps → EachTurn T ps → MayHave P (turns_form t x lo hi ps)
  form_keeps true x lo hi ps g a h d = kind.turns_in x lo hi ps h d g a
  form_keeps false x zero hi ps g a h d = join_keeps seq (begun ps) (begun_keeps ps d)
  form_keeps false x (suc lo) hi ps g a h d = tt

  pub turns_keep : (x : Tree) (lo : ℕ) (hi : Option ℕ) (ps : List Part) → X x lo hi ps → EachTurn T ps → MayHave P (loop_of (λ c. permit k (only c) x) (touch k.spread x) x lo hi ps)
  turns_keep x lo hi ps h d =
      let p : List ℕ → Option Tree = λ c. permit k (only c) x in
      let a0 = cut_gaps (touch k.spread x) ps in
      let a1 = drop_nil a0 in
      let a2 = at_zero hi a1 in
      let a3 = live p a2 in
      let a4 = drop_free p a3 in
      let a5 = thin a4 in
      let h0 = kind.cuts x lo hi ps h in
      let h1 = kind.sub x lo hi a0 a1 (sub_nil a0) h0 in
      let h2 = kind.sub x lo hi a1 a2 (sub_zero hi a1) h1 in
      let h3 = kind.sub x lo hi a2 a3 (sub_live p a2) h2 in
      let h4 = kind.sub x lo hi a3 a4 (sub_free p a3) h3 in
      let h5 = kind.sub x lo hi a4 a5 (sub_thin a4) h4 in
      let d0 = each_turn_cut T (touch k.spread x) ps d in
      let d1 = each_turn_sub T (sub_nil a0) d0 in
      let d2 = each_turn_sub T (sub_zero hi a1) d1 in
      let d3 = each_turn_sub T (sub_live p a2) d2 in
      let d4 = each_turn_sub T (sub_free p a3) d3 in
      let d5 = each_turn_sub T (sub_thin a4) d4 in
      form_keeps (has_gap a5) x (lower_of (has_free p a3) lo) hi a5 refl (alive_sub k x (sub_thin a4) (alive_sub k x (sub_free p a3) (alive_live k x a2))) (kind.low x lo hi a5 (has_free p a3) h5) d5

  walk_keeps : (a b : Bool) (n : ℕ) (f : Spot) (t : Goal) (c : List ℕ) → (a ≡ true → P (Walk n f t c)) → MayHave P (walk_form a b (Walk n f t c))
  walk_keeps false b n f t c h = tt
  walk_keeps true true n f t c h = kind.nil
  walk_keeps true false n f t c h = h refl

  trail_cut_keeps : (n : ℕ) (f g : Spot) (t u : Goal) (c d : List ℕ) → P (Walk n f t c) → Begins k n f g → Aims k n t u → MayHave P (walk_cut k n g u d)
  trail_cut_keeps n f g t Any c d h s a = kind.trail_in n f g t Any c d h s a tt
  trail_cut_keeps n f g t (To m) c d h s a = walk_keeps (reach (k.net n) (allowed k n d) g (To m)) (are_nil k n g (To m) d (allowed k n d)) n g (To m) d (λ e. kind.trail_in n f g t (To m) c d h s a e)
  trail_cut_keeps n f g t End c d h s a = walk_keeps (reach (k.net n) (allowed k n d) g End) (are_nil k n g End d (allowed k n d)) n g End d (λ e. kind.trail_in n f g t End c d h s a e)

  pub trail_keeps : (n : ℕ) (f g : Spot) (t u : Goal) (c d : List ℕ) → P (Walk n f t c) → Begins k n f g → Aims k n t u → MayHave P (walk_of k n g u d)
  trail_keeps n f g t u c d h s a = trail_cut_keeps n f g t u c (cut (k.spread n) d) h s a

  abbrev EachOpt : Option (List Tree) → Type 0
  EachOpt None = Unit {0}
  EachOpt (Some xs) = Each P xs

  abbrev TurnsOpt : Option (List Part) → Type 0
  TurnsOpt None = Unit {0}
  TurnsOpt (Some ps) = EachTurn T ps

  and_keeps : (r : Option Tree) (p : Option (List Tree)) → MayHave P r → EachOpt p → EachOpt (and_then r p)
  and_keeps None p h i = tt
  and_keeps (Some x) None h i = tt
  and_keeps (Some x) (Some xs) h i = (h, i)

  map_keeps : (m : Mode) (p : Option (List Tree)) → EachOpt p → MayHave P (option_map (join_all m) p)
  map_keeps m None h = tt
  map_keeps m (Some xs) h = join_keeps m xs h

  skip_keeps : (r : Option Tree) (xs : List Tree) → MayHave P r → Each P xs → Each P (or_skip r xs)
  skip_keeps None xs h i = i
  skip_keeps (Some x) xs h i = (h, i)

  bound_keeps : (x : Tree) (q : List (ℕ × ℕ)) (b : Block) (r : Option Tree) → permit k b x ≡ r → P (Tied x q) → MayHave P r → MayHave P (option_map (λ y. tie_of y q) r)
  bound_keeps x q b None e h i = tt
  bound_keeps x q b (Some z) e h i = tied_keeps z q (kind.bound_in x z q h (kind.permitted b x z e) i)

  event_keeps : (t : Bool) (e : TermEvent) → P (Event e) → MayHave P (unless t (Event e))
  event_keeps true e h = tt
  event_keeps false e h = h

  wider_keeps : (c d : List ℕ) (p : Option (List Part)) → TurnsOpt p → TurnsOpt (wider c p d)
  wider_keeps c d None i = tt
  wider_keeps c d (Some ps) i = i

  with_keeps : (t : Option Tree) (p : Option (List Part)) → MayHave T t → TurnsOpt p → TurnsOpt (with_turn t p)
  with_keeps None p i j = tt
  with_keeps (Some z) None i j = tt
  with_keeps (Some z) (Some ps) i j = (i, j)

  in_keeps : (b : Block) (x : Tree) (lo : ℕ) (hi : Option ℕ) (r : Row) (p : Option (List Part)) → permit_row k b r ≡ p → X x lo hi (parts r) → TurnsOpt p → MayHave P (turns_in (λ c. permit k (only c) x) (touch k.spread x) x lo hi p)
  in_keeps b x lo hi r None e h i = tt
  in_keeps b x lo hi r (Some ps) e h i = turns_keep x lo hi ps (kind.wide b x lo hi r ps e h) i

  mutual
    pub permit_keeps : (b : Block) (x : Tree) → P x → MayHave P (permit k b x)
    permit_keeps b Nil h = h
    permit_keeps b (Event e) h = event_keeps (hits b e) e h
    permit_keeps b (Join m xs) h = map_keeps m (permit_all k b xs) (all_keep b xs (kind.join_out m xs h))
    permit_keeps b (Choice xs) h = choice_keeps (permit_some k b xs) (some_keep b xs (kind.choice_out xs h))
    permit_keeps b (Tied x q) h = bound_keeps x q b (permit k b x) refl h (permit_keeps b x (kind.bound_out x q h))
    permit_keeps b (Loop x lo hi r) h = let i = kind.turns_out x lo hi r h in in_keeps b x lo hi r (permit_row k b r) refl i.0 (turn_keep b r i.1)
    permit_keeps b (Walk n f t c) h = trail_keeps n f f t t c (c ∪ b.instances) h as_before as_before

    all_keep : (b : Block) (xs : Trees) → Each P (items xs) → EachOpt (permit_all k b xs)
    all_keep b none h = tt
    all_keep b (more x xs) h = and_keeps (permit k b x) (permit_all k b xs) (permit_keeps b x h.0) (all_keep b xs h.1)

    turn_keep : (b : Block) (r : Row) → EachTurn T (parts r) → TurnsOpt (permit_row k b r)
    turn_keep b ends h = tt
    turn_keep b (gap c r) h = wider_keeps c b.instances (permit_row k b r) (turn_keep b r h)
    turn_keep b (turn x r) h = with_keeps (permit k b x) (permit_row k b r) (kind.turn_permit b x h.0 (permit_keeps b x (kind.release x h.0))) (turn_keep b r h.1)

    some_keep : (b : Block) (xs : Trees) → Each P (items xs) → Each P (permit_some k b xs)
    some_keep b none h = tt
    some_keep b (more x xs) h = skip_keeps (permit k b x) (permit_some k b xs) (permit_keeps b x h.0) (some_keep b xs h.1)

  stays_keeps : (m : Mode) (e : TermEvent) (x x' : Tree) → P x → Stays k m e x x' → P x'
  stays_keeps seq e x x' h s = at_some P (permit k (only (instances_of e).instances) x) x' s (permit_keeps (only (instances_of e).instances) x h)
  stays_keeps par e x x' h s = rw s h

  -- where what permission leaves of the node terms has it too
  module _ (kept : (n m : ℕ) (f : Spot) (t : Goal) (c d : List ℕ) (x : Tree) → P (Walk n f t c) → k.kept n m d ≡ Some x → P x) where
    mutual
      pub after_keeps : {x y : Tree} {e : TermEvent} → IsAfter k x e y → P x → P y
      after_keeps after_event h = kind.nil
      after_keeps (after_choice {xs = xs} a) h = one_keeps a (kind.choice_out xs h)
      after_keeps (after_join {m = m} {xs = xs} {ys = ys} a) h = join_keeps m ys (parts_keep a (kind.join_out m xs h))
      after_keeps (after_tied {x = x} {y = y} {z = z} {q = q} {e = e} a p) h =
          tied_keeps z q (kind.bound_in x z q h (kind.taken x y z (earlier q e) e a p) (at_some P (permit k (earlier q e) y) z p (permit_keeps (earlier q e) y (after_keeps a (kind.bound_out x q h)))))
      after_keeps (after_loop {x = x} {z = z} {lo = lo} {hi = hi} {r = r} {e = e} b {ps = ps} a hm p) h =
          let i = kind.turns_out x lo hi r h in
          at_some P _ z p (turns_keep x (down b lo) (fewer b hi) ps (kind.after_row x lo hi r ps b e a hm i.0) (row_keeps a lo hi (parts r) i.0 i.1))
      after_keeps (after_walk {n = n} {s = f} {t = t} {c = c} {e = e} m {x = x} {y = y} {u = u} {v = v} p a l1 l2 q r) h =
          join_keeps seq (u ∷ y ∷ v ∷ [])
          (at_some P _ u q (trail_keeps n f f t (To m) c (c ∪ (instances_of e).instances) h as_before (to_node m c x p)), (after_keeps a (kept n m f t c c x h p), (at_some P _ v r (trail_keeps n f (At m) t t c c h (at_node m c x p) as_before), tt)))

      one_keeps : {xs : Trees} {y : Tree} {e : TermEvent} → IsAfterOne k xs e y → Each P (items xs) → P y
      one_keeps (first_one a) h = after_keeps a h.0
      one_keeps (later_one a) h = one_keeps a h.1

      parts_keep : {m : Mode} {xs : Trees} {ys : List Tree} {e : TermEvent} → IsAfterJoin k m xs e ys → Each P (items xs) → Each P ys
      parts_keep (first_part a) h = (after_keeps a h.0, h.1)
      parts_keep (later_part {m = m} {x = x} {x' = x'} {e = e} s a) h = (stays_keeps m e x x' h.0 s, parts_keep a h.1)

      row_keeps : {x : Tree} {b : Bool} {ps qs : List Part} {e : TermEvent} → IsAfterRow k x b ps e qs → (lo : ℕ) (hi : Option ℕ) (rs : List Part) → X x lo hi rs → EachTurn T ps → EachTurn T qs
      row_keeps (in_turn {y = y} {z = z} {e = e} a) lo hi rs h d = (kind.turn_after y z e d.0 a (after_keeps a (kind.release y d.0)), d.1)
      row_keeps (in_gap {x = x} {y = y} {z = z} {c = c} {e = e} p a) lo hi rs h d =
          (kind.new_turn x y z c lo hi rs e h p a (λ i. after_keeps a (at_some P (permit k (only c) x) y p (permit_keeps (only c) x i))), d)
      row_keeps (past_turn {y = y} {z = z} {e = e} p a) lo hi rs h d =
          (at_some T (permit k (only (instances_of e).instances) y) z p (kind.turn_permit (only (instances_of e).instances) y d.0 (permit_keeps (only (instances_of e).instances) y (kind.release y d.0))), row_keeps a lo hi rs h d.1)
      row_keeps (past_gap a) lo hi rs h d = row_keeps a lo hi rs h d
