-- What it takes for a term to be without events, by its constructor.
use Rattle.std.specs.Prelude.{ℕ, zero, suc, ◌+◌, ◌-◌, ◌<◌, ◌≤◌, ◌≡◌, ◌↔◌, ◌⊎◌, ◌||◌, Bool, true, false, List, [], ◌∷◌, Option, Some, None, refl, IsTrue, length, slice_get, slice_set, ◌++◌, nat_eq, Result, Ok, Err, IfOk}
use Rattle.std.proofs.Common.{ap, sym, subst, ◌∙◌, arith, inl, inr, get_or, length-append}
use Rattle.std.proofs.lemmas.Option.{slice_get_within}
use Rattle.list_facts.proofs.Reading.{some_at}
use Rattle.msc_base.specs.Lists.{IsIn}
use Rattle.msc_base.specs.Patterns.{Mode, seq, par, empty, one, join, bind}
use Rattle.hmsc_graph.specs.Graphs.{Net, Spot, Start, At, Goal, To, End, Any, WalkThrough, last, step, arrives}
use Rattle.hmsc_graph.specs.Nets.{IsNet, size_of}
use Rattle.hmsc_graph.proofs.SearchFacts.{behind_below}
use Rattle.chart_term.specs.NormalForms.{only}
use Rattle.chart_term.specs.Tables.{Tables, net_count, net_of, node_of, terms_over}
use Rattle.chart_term.specs.TermMeanings.{NetTerms, MayStop, aim, UpTo, HasPattern, has_nil, has_event, has_join, has_choice, holds_tie, holds_loop, holds_walk, HasParts, no_part, one_part, HasChoice, this_one, that_one, HasRow, gaps_end, gaps_turn, gaps_shut, gaps_more, HasWalk, walk_stop, walk_last, walk_step}
use Rattle.chart_term.specs.TermPatterns.{Shape, Avoids, HasNoEvent}
use Rattle.chart_term.specs.Terms.{TermEvent, Tree, Nil, Event, Join, Choice, Tied, Loop, Walk, Trees, trees, items, Row, gap, ends, Part, Gap, has_some}
use Rattle.chart_term.proofs.Lists.{items-trees}
use Rattle.certificates.specs.Certificates.{HasEmpty}
use Rattle.certificates.specs.CertificateLaws.{IsUnbegun}
use Rattle.empty_terms.specs.Answers.{AreAllYes, AreNodesTold, ArePartsTold, AreToldFrom, AreWalksTold, AreYes, IsOneYes}
use Rattle.empty_terms.specs.Outlines.{parts_in, IsAt, IsNetAt, IsOutline, ArePartsKnown}
use Rattle.empty_terms.specs.declared.outline.Outline.{Outline}
use Rattle.empty_terms.proofs.Numbering.{seq_parts, par_parts, choice_parts}
use Rattle.chart_term.specs.Properties.{IsBelow}
use Rattle.empty_terms.specs.Passing.{HasEmptyWalk}

-- the block of a walk from the start, and of a row that no turn has begun, hits nothing
all_avoid : (s : Shape) → Avoids (only []) s
all_avoid empty = tt
all_avoid (one e) = none_some e.also
  where
    none_some : (o : Option ℕ) → ((false || has_some [] o) || false) ≡ false
    none_some None = refl
    none_some (Some n) = refl
all_avoid (join m x y) = (all_avoid x, all_avoid y)
all_avoid (bind x q) = all_avoid x

-- ---- by constructor

module _ (w : NetTerms) where
  pub nil_empty : HasEmpty w Nil
  nil_empty = record { pattern = empty; has = has_nil; none = tt }

  -- the one pattern of an event
  event_full : (e : TermEvent) (s : Shape) → HasPattern w false (Event e) s → HasNoEvent s → ⊥
  event_full e s has_event h = h

  pub event_not : (e : TermEvent) → HasEmpty w (Event e) → ⊥
  event_not e h = event_full e h.pattern h.has h.none

  all_empty : (m : Mode) (xs : List Tree) → ((j : ℕ) (x : Tree) → slice_get xs j ≡ Some x → HasEmpty w x) → (s : Shape) × HasParts w false m xs s × HasNoEvent s
  all_empty m [] h = (empty, no_part, tt)
  all_empty m (x ∷ xs) h =
      let first = h 0 x refl in
      let (t, a, n) = all_empty m xs (λ j y g. h (suc j) y g) in
      (join m first.pattern t, one_part first.has a, (first.none, n))

  each_empty : (m : Mode) (xs : List Tree) (s : Shape) → HasParts w false m xs s → HasNoEvent s → (j : ℕ) (x : Tree) → slice_get xs j ≡ Some x → HasEmpty w x
  each_empty m [] s a n j x g = cc
  each_empty m (y ∷ xs) _ (one_part {s = s} a r) n zero x g =
      let same : y ≡ x = cc in subst (λ (z : Tree). HasEmpty w z) same (record { pattern = s; has = a; none = n.0 })
  each_empty m (y ∷ xs) _ (one_part {t = t} a r) n (suc j) x g = each_empty m xs t r n.1 j x g

  join_out : (m : Mode) (xs : Trees) (s : Shape) → HasPattern w false (Join m xs) s → HasParts w false m (items xs) s
  join_out m xs s (has_join h) = h

  pub join_empty : (m : Mode) (xs : List Tree) → ((j : ℕ) (x : Tree) → slice_get xs j ≡ Some x → HasEmpty w x) ↔ HasEmpty w (Join m (trees xs))
  join_empty m xs = (
    λ h. let (s, a, n) = all_empty m xs h in record { pattern = s; has = has_join (subst (λ (l : List Tree). HasParts w false m l s) (sym (items-trees xs)) a); none = n },
    λ h. each_empty m xs h.pattern (subst (λ (l : List Tree). HasParts w false m l h.pattern) (items-trees xs) (join_out m (trees xs) h.pattern h.has)) h.none,
  )

  -- one of the terms can be
  abbrev pub OneIsEmpty : List Tree → Type 0
  OneIsEmpty xs = (j : ℕ) × (x : Tree) × (slice_get xs j ≡ Some x) × HasEmpty w x

  one_empty : (xs : List Tree) (j : ℕ) (x : Tree) → slice_get xs j ≡ Some x → (h : HasEmpty w x) → HasChoice w false xs h.pattern
  one_empty [] j x g h = cc
  one_empty (y ∷ xs) zero x g h = let same : x ≡ y = cc in this_one (subst (λ (z : Tree). HasPattern w false z h.pattern) same h.has)
  one_empty (y ∷ xs) (suc j) x g h = that_one (one_empty xs j x g h)

  which_empty : (xs : List Tree) (s : Shape) → HasChoice w false xs s → HasNoEvent s → OneIsEmpty xs
  which_empty [] s a n = elim a [ ]
  which_empty (x ∷ xs) s (this_one a) n = (0, x, refl, record { pattern = s; has = a; none = n })
  which_empty (x ∷ xs) s (that_one a) n = let (j, y, g, h) = which_empty xs s a n in (suc j, y, g, h)

  choice_out : (xs : Trees) (s : Shape) → HasPattern w false (Choice xs) s → HasChoice w false (items xs) s
  choice_out xs s (has_choice h) = h

  pub choice_empty : (xs : List Tree) → OneIsEmpty xs ↔ HasEmpty w (Choice (trees xs))
  choice_empty xs = (
    λ h. let (j, x, g, e) = h in record { pattern = e.pattern; has = has_choice (subst (λ (l : List Tree). HasChoice w false l e.pattern) (sym (items-trees xs)) (one_empty xs j x g e)); none = e.none },
    λ h. which_empty xs h.pattern (subst (λ (l : List Tree). HasChoice w false l h.pattern) (items-trees xs) (choice_out (trees xs) h.pattern h.has)) h.none,
  )

  tie_out : (x : Tree) (q : List (ℕ × ℕ)) (s : Shape) → HasPattern w false (Tied x q) s → HasNoEvent s → HasEmpty w x
  tie_out x q _ (holds_tie {s = s} h) n = record { pattern = s; has = h; none = n }

  pub tied_empty : (x : Tree) (q : List (ℕ × ℕ)) → HasEmpty w x ↔ HasEmpty w (Tied x q)
  tied_empty x q = (λ h. record { pattern = bind h.pattern q; has = holds_tie h.has; none = h.none }, λ h. tie_out x q h.pattern h.has h.none)

  -- so many turns without events
  turns_of : (x : Tree) → HasEmpty w x → (n : ℕ) → (s : Shape) × HasRow w false x (Gap [] ∷ []) n s × HasNoEvent s
  turns_of x h zero = (empty, gaps_shut gaps_end, tt)
  turns_of x h (suc n) = let (s, a, e) = turns_of x h n in (join seq h.pattern s, gaps_more h.has (all_avoid h.pattern) a, (h.none, e))

  turn_in : (x : Tree) (ps : List Part) (n : ℕ) (s : Shape) → ps ≡ Gap [] ∷ [] → 0 < n → HasRow w false x ps n s → HasNoEvent s → HasEmpty w x
  turn_in x _ _ _ e l gaps_end n = cc
  turn_in x _ _ _ e l (gaps_turn a r) n = cc
  turn_in x _ _ _ e l (gaps_shut {c = c} {ps = ps} {n = k} {u = u} r) n = none_behind ps (let same : ps ≡ [] = cc in same) k u l r
    where
      none_behind : (ps : List Part) → ps ≡ [] → (k : ℕ) (u : Shape) → 0 < k → HasRow w false x ps k u → HasEmpty w x
      none_behind _ e _ _ l gaps_end = absurd (omega arith)
      none_behind _ e _ _ l (gaps_turn a r) = cc
      none_behind _ e _ _ l (gaps_shut r) = cc
      none_behind _ e _ _ l (gaps_more a av r) = cc
  turn_in x _ _ _ e l (gaps_more {s = s} a av r) n = record { pattern = s; has = a; none = n.0 }

  loop_out : (x : Tree) (lo : ℕ) (hi : Option ℕ) (s : Shape) → HasPattern w false (Loop x lo hi (gap [] ends)) s → HasNoEvent s → 0 < lo → HasEmpty w x
  loop_out x lo hi s (holds_loop n a l u) none p = turn_in x (Gap [] ∷ []) n s refl (omega arith) a none

  pub loop_empty : (x : Tree) (lo : ℕ) (hi : Option ℕ) → UpTo hi lo → ((0 < lo) → HasEmpty w x) ↔ HasEmpty w (Loop x lo hi (gap [] ends))
  loop_empty x zero hi u = (λ h. record { pattern = empty; has = holds_loop zero (gaps_shut gaps_end) (omega arith) u; none = tt }, λ h l. absurd (omega arith))
  loop_empty x (suc lo) hi u = (
    λ h. let (s, a, n) = turns_of x (h (omega arith)) (suc lo) in record { pattern = s; has = holds_loop (suc lo) a (omega arith) u; none = n },
    λ h l. loop_out x (suc lo) hi h.pattern h.has h.none l,
  )

  -- walks
  no_stops : (t : Goal) → aim t ≡ End → MayStop t false → ⊥
  no_stops Any e h = h
  no_stops End e h = h
  no_stops (To m) e h = h

  abbrev IsPassed : ℕ → List ℕ → Type 0
  IsPassed n ks = (m : ℕ) → IsIn m ks → HasEmpty w (w.node n m)

  walk_in : (n : ℕ) (t : Goal) (ks : List ℕ) → aim t ≡ End → IsPassed n ks → (f : Spot) → WalkThrough (w.net n) ks f End → (s : Shape) × HasWalk w false n f t [] s × HasNoEvent s
  walk_in n t ks e p f (last m i a) = (empty, walk_last m i (subst (λ (g : Goal). arrives (w.net n) g m ≡ true) (sym e) a), tt)
  walk_in n t ks e p f (step m i j k) =
      let h = p m j in
      let (s, a, none) = walk_in n t ks e p (At m) k in
      (join seq h.pattern s, walk_step m i h.has (all_avoid h.pattern) a, (h.none, none))

  also : (n m : ℕ) (ks : List ℕ) → HasEmpty w (w.node n m) → IsPassed n ks → IsPassed n (m ∷ ks)
  also n m ks h p k (inl e) = subst (λ (j : ℕ). HasEmpty w (w.node n j)) (sym e) h
  also n m ks h p k (inr i) = p k i

  wider : (g : Net) (m : ℕ) (ks : List ℕ) (f : Spot) → WalkThrough g ks f End → WalkThrough g (m ∷ ks) f End
  wider g m ks f (last k i a) = last k i a
  wider g m ks f (step k i j r) = step k i (inr j) (wider g m ks (At k) r)

  walk_from : (n : ℕ) (f : Spot) (t : Goal) (c : List ℕ) (s : Shape) → aim t ≡ End → HasWalk w false n f t c s → HasNoEvent s → (ks : List ℕ) × IsPassed n ks × WalkThrough (w.net n) ks f End
  walk_from n f t c _ e (walk_stop h) none = absurd (no_stops t e h)
  walk_from n f t c _ e (walk_last m i a) none = ([], λ k b. absurd b, last m i (subst (λ (g : Goal). arrives (w.net n) g m ≡ true) e a))
  walk_from n f t c _ e (walk_step m {s = s} {u = u} i h av r) none =
      let (ks, p, k) = walk_from n (At m) t c u e r none.1 in
      (m ∷ ks, also n m ks (record { pattern = s; has = h; none = none.0 }) p, step m i (inl refl) (wider (w.net n) m ks (At m) k))

  walk_out : (n : ℕ) (f : Spot) (t : Goal) (c : List ℕ) (s : Shape) → HasPattern w false (Walk n f t c) s → HasWalk w false n f t c s
  walk_out n f t c s (holds_walk h) = h

  fresh_empty : (n : ℕ) (t : Goal) → aim t ≡ End → HasEmptyWalk w n ↔ HasEmpty w (Walk n Start t [])
  fresh_empty n t e = (
    λ h. let (s, a, none) = walk_in n t h.passed e h.empty Start h.walk in record { pattern = s; has = holds_walk a; none = none },
    λ h. let (ks, p, k) = walk_from n Start t [] h.pattern e (walk_out n Start t [] h.pattern h.has) h.none in record { passed = ks; empty = p; walk = k },
  )

  pub walk_empty : (n : ℕ) (f : Spot) (t : Goal) (c : List ℕ) → IsUnbegun (Walk n f t c) → HasEmptyWalk w n ↔ HasEmpty w (Walk n f t c)
  walk_empty n f t c (a, b, d) =
      subst (λ (g : Spot). HasEmptyWalk w n ↔ HasEmpty w (Walk n g t c)) (sym a)
      (subst (λ (l : List ℕ). HasEmptyWalk w n ↔ HasEmpty w (Walk n Start t l)) (sym d) (fresh_empty n t b))

  pub row_empty : (x : Tree) (lo : ℕ) (hi : Option ℕ) (r : Row) → IsUnbegun (Loop x lo hi r) → ((0 < lo) → HasEmpty w x) ↔ HasEmpty w (Loop x lo hi r)
  row_empty x lo hi r (u, e, l) = subst (λ (z : Row). ((0 < lo) → HasEmpty w x) ↔ HasEmpty w (Loop x lo hi z)) (sym e) (loop_empty x lo hi l)

  -- ---- by answers

  pub join_told : (m : Mode) (xs : List Tree) (bs : List Bool) (f c : ℕ) (b : Bool) → c ≡ length xs → IsTrue b ↔ AreAllYes bs f c → ArePartsTold w bs f xs → IsTrue b ↔ HasEmpty w (Join m (trees xs))
  join_told m xs bs f c b n h t = (
    λ i. (join_empty m xs).0 (λ j x g. (t j x g).0 (h.0 i j (let l = slice_get_within xs j x g in omega (arith, n)))),
    λ e. h.1 (λ j l. let (x, g) = some_at xs j (omega (arith, n)) in (t j x g).1 ((join_empty m xs).1 e j x g)),
  )

  pub choice_told : (xs : List Tree) (bs : List Bool) (f c : ℕ) (b : Bool) → c ≡ length xs → IsTrue b ↔ IsOneYes bs f c → ArePartsTold w bs f xs → IsTrue b ↔ HasEmpty w (Choice (trees xs))
  choice_told xs bs f c b n h t = (
    λ i. let (j, l, y) = h.0 i in let (x, g) = some_at xs j (omega (arith, n)) in (choice_empty xs).0 (j, x, g, (t j x g).0 y),
    λ e. let (j, x, g, y) = (choice_empty xs).1 e in h.1 (j, (let l = slice_get_within xs j x g in omega (arith, n)), (t j x g).1 y),
  )

  -- the same of a term that is known by what it is equal to
  pub nil_told : (x : Tree) (b : Bool) → x ≡ Nil → b ≡ true → IsTrue b ↔ HasEmpty w x
  nil_told x b e t = (λ i. subst (λ (z : Tree). HasEmpty w z) (sym e) nil_empty, λ h. t)

  pub event_told : (x : Tree) (e : TermEvent) → x ≡ Event e → HasEmpty w x → ⊥
  event_told x e is h = event_not e (subst (λ (z : Tree). HasEmpty w z) is h)

  pub seq_told : (x : Tree) (xs : List Tree) (bs : List Bool) (f c : ℕ) (b : Bool) → x ≡ Join seq (trees xs) → c ≡ length xs → IsTrue b ↔ AreAllYes bs f c → ArePartsTold w bs f (parts_in x) → IsTrue b ↔ HasEmpty w x
  seq_told x xs bs f c b e n h t =
      subst (λ (z : Tree). IsTrue b ↔ HasEmpty w z) (sym e) (join_told seq xs bs f c b n h (subst (λ (l : List Tree). ArePartsTold w bs f l) (seq_parts x xs e) t))

  pub par_told : (x : Tree) (xs : List Tree) (bs : List Bool) (f c : ℕ) (b : Bool) → x ≡ Join par (trees xs) → c ≡ length xs → IsTrue b ↔ AreAllYes bs f c → ArePartsTold w bs f (parts_in x) → IsTrue b ↔ HasEmpty w x
  par_told x xs bs f c b e n h t =
      subst (λ (z : Tree). IsTrue b ↔ HasEmpty w z) (sym e) (join_told par xs bs f c b n h (subst (λ (l : List Tree). ArePartsTold w bs f l) (par_parts x xs e) t))

  pub one_told : (x : Tree) (xs : List Tree) (bs : List Bool) (f c : ℕ) (b : Bool) → x ≡ Choice (trees xs) → c ≡ length xs → IsTrue b ↔ IsOneYes bs f c → ArePartsTold w bs f (parts_in x) → IsTrue b ↔ HasEmpty w x
  one_told x xs bs f c b e n h t =
      subst (λ (z : Tree). IsTrue b ↔ HasEmpty w z) (sym e) (choice_told xs bs f c b n h (subst (λ (l : List Tree). ArePartsTold w bs f l) (choice_parts x xs e) t))

  -- the answer for the one part
  the_part : (x y : Tree) (bs : List Bool) (f : ℕ) (b : Bool) → parts_in x ≡ y ∷ [] → b ≡ get_or bs f false → ArePartsTold w bs f (parts_in x) → IsTrue b ↔ HasEmpty w y
  the_part x y bs f b e g t =
      let h = t 0 y (ap (λ (l : List Tree). slice_get l 0) e) in
      let q : f + 0 ≡ f = omega arith in
      subst (λ (a : Bool). IsTrue a ↔ HasEmpty w y) (ap (λ (n : ℕ). get_or bs n false) q ∙ sym g) h

  pub tied_told : (x y : Tree) (q : List (ℕ × ℕ)) (bs : List Bool) (f : ℕ) (b : Bool) → x ≡ Tied y q → b ≡ get_or bs f false → ArePartsTold w bs f (parts_in x) → IsTrue b ↔ HasEmpty w x
  tied_told x y q bs f b e g t =
      let h = the_part x y bs f b (ap parts_in e) g t in
      subst (λ (z : Tree). IsTrue b ↔ HasEmpty w z) (sym e) (λ i. (tied_empty y q).0 (h.0 i), λ k. h.1 ((tied_empty y q).1 k))

  pub zero_told : (x y : Tree) (lo : ℕ) (hi : Option ℕ) (r : Row) → x ≡ Loop y lo hi r → IsUnbegun x → lo ≡ 0 → IsTrue (nat_eq lo 0) ↔ HasEmpty w x
  zero_told x y lo hi r e u z = (λ i. subst (λ (a : Tree). HasEmpty w a) (sym e) ((row_empty y lo hi r (subst IsUnbegun e u)).0 (λ l. absurd (omega arith))), λ h. subst (λ (n : ℕ). IsTrue (nat_eq n 0)) (sym z) refl)

  pub owed_told : (x y : Tree) (lo : ℕ) (hi : Option ℕ) (r : Row) (bs : List Bool) (f : ℕ) (b : Bool) → x ≡ Loop y lo hi r → IsUnbegun x → 0 < lo → b ≡ get_or bs f false → ArePartsTold w bs f (parts_in x) → IsTrue b ↔ HasEmpty w x
  owed_told x y lo hi r bs f b e u l g t =
      let h = the_part x y bs f b (ap parts_in e) g t in
      let k = row_empty y lo hi r (subst IsUnbegun e u) in
      (λ i. subst (λ (a : Tree). HasEmpty w a) (sym e) (k.0 (λ m. h.0 i)), λ j. h.1 (k.1 (subst (λ (a : Tree). HasEmpty w a) e j) l))

  pub walk_by : (x : Tree) (n : ℕ) (f : Spot) (t : Goal) (c : List ℕ) (ws : List Bool) (b : Bool) → x ≡ Walk n f t c → IsUnbegun x → IsBelow (length ws) x → b ≡ get_or ws n false → AreWalksTold w ws → IsTrue b ↔ HasEmpty w x
  walk_by x n f t c ws b e u l g known =
      let h = known n (subst (IsBelow (length ws)) e l) in
      let k = walk_empty n f t c (subst IsUnbegun e u) in
      (λ i. subst (λ (a : Tree). HasEmpty w a) (sym e) (k.0 (h.0 (sym g ∙ i))), λ j. g ∙ h.1 (k.1 (subst (λ (a : Tree). HasEmpty w a) e j)))

-- the walk through a net, by the answers for its nodes
through : (g : Net) (ks js : List ℕ) → IsNet g → ((m : ℕ) → m < size_of g → IsIn m ks → IsIn m js) → (f : Spot) (t : Goal) → WalkThrough g ks f t → WalkThrough g js f t
through g ks js net h f t (last m i a) = last m i a
through g ks js net h f t (step m i j k) = step m i (h m (behind_below g f m net i) j) (through g ks js net h (At m) t k)

pub walk_told : (w : Tables) (n r : ℕ) (bs : List Bool) (ms : List ℕ) (b : Bool) → IsNet (net_of w n) → AreYes bs r (size_of (net_of w n)) ms → AreNodesTold w n r bs → IsTrue b ↔ WalkThrough (net_of w n) ms Start End → IsTrue b ↔ HasEmptyWalk (terms_over w) n
walk_told w n r bs ms b net y t h = (
  λ i. record { passed = ms; empty = λ m j. let (l, e) = (y m).0 j in (t m l).0 e; walk = h.0 i },
  λ e. h.1 (through (net_of w n) e.passed ms net (λ m l j. (y m).1 (l, (t m l).1 (e.empty m j))) Start End e.walk),
)

-- ---- one answer more

get_set_same : (bs : List Bool) (k : ℕ) (b : Bool) → k < length bs → get_or (slice_set bs k b) k false ≡ b
get_set_same [] k b l = absurd (omega arith)
get_set_same (c ∷ bs) zero b l = refl
get_set_same (c ∷ bs) (suc k) b l = get_set_same bs k b (omega arith)

get_set_other : (bs : List Bool) (k i : ℕ) (b : Bool) → (i ≡ k → ⊥) → get_or (slice_set bs k b) i false ≡ get_or bs i false
get_set_other [] k i b n = refl
get_set_other (c ∷ bs) zero zero b n = absurd (n refl)
get_set_other (c ∷ bs) zero (suc i) b n = refl
get_set_other (c ∷ bs) (suc k) zero b n = refl
get_set_other (c ∷ bs) (suc k) (suc i) b n = get_set_other bs k i b (λ e. n (ap suc e))

this_or_later : (k i : ℕ) → k ≤ i → (i ≡ k) ⊎ (k + 1 ≤ i)
this_or_later k i l = grind arith

-- the parts of a term are told, where all behind it are
pub parts_told : (w : NetTerms) (ts : List Tree) (fs : List ℕ) (bs : List Bool) (k n f : ℕ) (x : Tree) → n ≡ k + 1 → IsAt ts k x → slice_get fs k ≡ Some f → ArePartsKnown ts fs → AreToldFrom w ts bs n → ArePartsTold w bs f (parts_in x)
parts_told w ts fs bs k n f x e at first known h j y g = let r = known k f x first at in h (f + j) y (let l = r.0 in omega arith) (r.1 j y g)

pub parts_within : (ts : List Tree) (fs : List ℕ) (k f : ℕ) (x : Tree) → IsAt ts k x → slice_get fs k ≡ Some f → ArePartsKnown ts fs → (j : ℕ) → j < length (parts_in x) → f + j < length ts
parts_within ts fs k f x at first known j l = let (y, g) = some_at (parts_in x) j l in slice_get_within ts (f + j) y ((known k f x first at).1 j y g)

pub told_more : (w : NetTerms) (ts : List Tree) (bs new : List Bool) (k n : ℕ) (x : Tree) (b : Bool) → n ≡ k + 1 → k < length bs → IsAt ts k x → new ≡ slice_set bs k b → IsTrue b ↔ HasEmpty w x → AreToldFrom w ts bs n → AreToldFrom w ts new k
told_more w ts bs new k n x b e l at is h told i y m g =
    subst (λ (cs : List Bool). IsTrue (get_or cs i false) ↔ HasEmpty w y) (sym is) (by (this_or_later k i m))
  where
    by : (i ≡ k) ⊎ (k + 1 ≤ i) → IsTrue (get_or (slice_set bs k b) i false) ↔ HasEmpty w y
    by (inl q) =
        let same : Some x ≡ Some y = sym at ∙ (ap (slice_get ts) (sym q) ∙ g) in
        let one : x ≡ y = cc in
        subst (λ (j : ℕ). IsTrue (get_or (slice_set bs k b) j false) ↔ HasEmpty w y) (sym q)
        (subst (λ (a : Bool). IsTrue a ↔ HasEmpty w y) (sym (get_set_same bs k b l)) (subst (λ (z : Tree). IsTrue b ↔ HasEmpty w z) one h))
    by (inr q) = subst (λ (a : Bool). IsTrue a ↔ HasEmpty w y) (sym (get_set_other bs k i b (λ r. absurd (omega arith)))) (told i y (omega arith) g)

pub told_later : (w : NetTerms) (ts : List Tree) (bs : List Bool) (k n : ℕ) → k ≤ n → AreToldFrom w ts bs k → AreToldFrom w ts bs n
told_later w ts bs k n l h i x m g = h i x (omega arith) g

-- nothing is told behind the last term
pub told_past : (w : NetTerms) (ts : List Tree) (bs : List Bool) (n : ℕ) → length ts ≤ n → AreToldFrom w ts bs n
told_past w ts bs n l i x m g = absurd (let k = slice_get_within ts i x g in omega arith)

-- one walk more
pub walks_more : (w : NetTerms) (ws new : List Bool) (b : Bool) → new ≡ ws ++ b ∷ [] → IsTrue b ↔ HasEmptyWalk w (length ws) → AreWalksTold w ws → AreWalksTold w new
walks_more w ws new b e h known n l = subst (λ (cs : List Bool). IsTrue (get_or cs n false) ↔ HasEmptyWalk w n) (sym e) (by (before_or n (length ws) (omega (arith, l, ap length e, length-append ws (b ∷ [])))))
  where
    before_or : (n k : ℕ) → n < k + 1 → (n < k) ⊎ (n ≡ k)
    before_or n k l = grind arith

    here : (ws : List Bool) → get_or (ws ++ b ∷ []) (length ws) false ≡ b
    here [] = refl
    here (c ∷ ws) = here ws

    there : (ws : List Bool) (n : ℕ) → n < length ws → get_or (ws ++ b ∷ []) n false ≡ get_or ws n false
    there [] n l = absurd (omega arith)
    there (c ∷ ws) zero l = refl
    there (c ∷ ws) (suc n) l = there ws n (omega arith)

    by : (n < length ws) ⊎ (n ≡ length ws) → IsTrue (get_or (ws ++ b ∷ []) n false) ↔ HasEmptyWalk w n
    by (inl q) = subst (λ (a : Bool). IsTrue a ↔ HasEmptyWalk w n) (sym (there ws n q)) (known n q)
    by (inr q) = subst (λ (m : ℕ). IsTrue (get_or (ws ++ b ∷ []) m false) ↔ HasEmptyWalk w m) (sym q) (subst (λ (a : Bool). IsTrue a ↔ HasEmptyWalk w (length ws)) (sym (here ws)) h)

pub no_walks : (w : NetTerms) → AreWalksTold w []
no_walks w n l = absurd (omega arith)

-- the nodes of a net are told, where all from its root on are
pub nodes_told : (w : Tables) (ts : List Tree) (n r : ℕ) (bs : List Bool) → IsNetAt w ts n r → AreToldFrom (terms_over w) ts bs r → AreNodesTold w n r bs
nodes_told w ts n r bs h t m l = t (r + m) (node_of w n m) (omega arith) (h.nodes m l)

pub nodes_within : (w : Tables) (ts : List Tree) (n r : ℕ) → IsNetAt w ts n r → r + size_of (net_of w n) ≤ length ts
nodes_within w ts n r h = by (size_of (net_of w n)) refl
  where
    by : (k : ℕ) → size_of (net_of w n) ≡ k → r + k ≤ length ts
    by zero q = omega (arith, h.within)
    by (suc k) q = let l = slice_get_within ts (r + k) (node_of w n k) (h.nodes k (omega (arith, q))) in omega arith

-- the net of this number, where all stand in the outline
pub net_at : (w : Tables) (x : Tree) (o : Outline) (n r : ℕ) → IsOutline w x o → n < net_count w → slice_get o.roots.items (length o.roots.items - suc n) ≡ Some r → IsNetAt w o.terms n r
net_at w x o n r h l g =
    let e = h.each in
    let same : net_count w - suc (length o.roots.items - suc n) ≡ n = omega arith in
    subst (λ (k : ℕ). IsNetAt w o.terms k r) same (h.outlined.nets (length o.roots.items - suc n) r g)

pub length_set : (bs : List Bool) (k : ℕ) (b : Bool) → length (slice_set bs k b) ≡ length bs
length_set [] k b = refl
length_set (c ∷ bs) zero b = refl
length_set (c ∷ bs) (suc k) b = let e = length_set bs k b in omega arith

pub if_ok : {A E : Type 0} (P Q : A → Type 0) (r : Result A E) → ((a : A) → P a → Q a) → IfOk r P → IfOk r Q
if_ok P Q (Ok a) f h = f a h
if_ok P Q (Err e) f h = h
