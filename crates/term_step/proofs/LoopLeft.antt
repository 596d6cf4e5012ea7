-- What is left of a loop, by its row's parts from their end.
use Rattle.std.specs.Option.{option_map}
use Rattle.std.specs.Prelude.{ℕ, zero, suc, ◌+◌, ◌<◌, Bool, true, false, List, [], ◌∷◌, ◌≡◌, ◌||◌, ◌&&◌, Option, Some, None, refl, length, take, drop, slice_get}
use Rattle.std.proofs.Common.{ap, sym, ◌∙◌, add-one, arith, cond}
use Rattle.std.proofs.lemmas.Option.{slice_get_within}
use Rattle.chart_term.specs.NormalForms.{NetPermits, only, cut, is_nil, some_kept, loop_of}
use Rattle.chart_term.specs.Properties.{EachGap}
use Rattle.chart_term.specs.Spreads.{touch, spread_of}
use Rattle.chart_term.specs.Tables.{Tables}
use Rattle.chart_term.specs.TermPatterns.{instances_of}
use Rattle.chart_term.specs.Terms.{TermEvent, has, Tree, Loop, Part, Gap, Turn, row_of, ◌∪◌}
use Rattle.chart_term.specs.Views.{event_of}
use Rattle.chart_term.proofs.Lists.{parts-row_of}
use Rattle.chart_term.proofs.Instances.{has_union}
use Rattle.term_step.specs.Children.{RowLeft, turn_first, gap_first, row_left, where_so, loop_left, put}
use Rattle.term_laws.specs.Listing.{may_begin}
use Rattle.term_laws.specs.Normality.{IsSet}
use Rattle.term_laws.specs.Permission.{permit, permits_of}
use Rattle.term_permission.specs.Ready.{AreReadyParts, IsReadyLoop}
use Rattle.term_permission.specs.RowRests.{RowRest, no_rest, turn_before, gap_before, tried_before, open_before, rest_of, rest_end, kept_before, keep_first, keep_parts}
use Rattle.term_step.specs.Searches.{IsTaken, is_gap, part_before, tail_of}
use Rattle.term_laws.specs.Taking.{fewer, down}
use Rattle.term_laws.specs.Values.{block_of}
use Rattle.term_step.specs.declared.ascent.Taken.{Taken}
use Rattle.term_step.proofs.Ascending.{taken-permits}
use Rattle.term_permission.proofs.PermitLoops.{cut_alike}
use Rattle.term_laws.proofs.Normalising.{union_set, cut_set}
use Rattle.term_laws.proofs.SetFacts.{set_ext, has_cut}
use Rattle.term_permission.proofs.RowRests.{turns-rest}

-- a set with more members of the instances that count
wide-alike : (all c d a b : List ℕ) → IsSet c → cut all c ≡ c → d ≡ cut all a → ((n : ℕ) → has a n ≡ has b n) → c ∪ d ≡ cut all (c ∪ b)
wide-alike all c d a b s h e f = set_ext (c ∪ d) (cut all (c ∪ b)) (union_set c d s) (cut_set all (c ∪ b) (union_set c b s)) (λ n. has_union c d n ∙ ((λ i. own n i || other n i) ∙ (spread (has c n) (has b n) (has all n) ∙ sym (has_cut all (c ∪ b) n ∙ ap (λ t. t && has all n) (has_union c b n)))))
  where
    own : (n : ℕ) → has c n ≡ (has c n && has all n)
    own n = ap (λ l. has l n) (sym h) ∙ has_cut all c n

    other : (n : ℕ) → has d n ≡ (has b n && has all n)
    other n = ap (λ l. has l n) e ∙ (has_cut all a n ∙ ap (λ t. t && has all n) (f n))

    spread : (x y z : Bool) → ((x && z) || (y && z)) ≡ ((x || y) && z)
    spread true true true = refl
    spread true true false = refl
    spread true false true = refl
    spread true false false = refl
    spread false y z = refl

-- how many parts stand before what is left of the index, and from which index on the parts stay
abbrev pub kept_count : List Part → ℕ → ℕ
kept_count [] i = 0
kept_count (Turn x ∷ ps) zero = 0
kept_count (Gap c ∷ ps) zero = 1
kept_count (t ∷ ps) (suc i) = suc (kept_count ps i)

abbrev pub tail_place : List Part → ℕ → ℕ
tail_place [] i = 0
tail_place (Turn x ∷ ps) zero = 1
tail_place (Gap c ∷ ps) zero = 0
tail_place (t ∷ ps) (suc i) = suc (tail_place ps i)

pub gap-count : (ps : List Part) (i : ℕ) (t : Part) → slice_get ps i ≡ Some t → is_gap t ≡ true → (kept_count ps i ≡ suc i) × (tail_place ps i ≡ i)
gap-count [] i t h g = cc
gap-count (Turn x ∷ ps) zero t h g = let e : Turn x ≡ t = cc in let f : is_gap (Turn x) ≡ is_gap t = ap is_gap e in cc
gap-count (Gap c ∷ ps) zero t h g = (refl, refl)
gap-count (Turn x ∷ ps) (suc i) t h g = let r = gap-count ps i t h g in (ap (λ n. suc n) r.0, ap (λ n. suc n) r.1)
gap-count (Gap c ∷ ps) (suc i) t h g = let r = gap-count ps i t h g in (ap (λ n. suc n) r.0, ap (λ n. suc n) r.1)

pub turn-count : (ps : List Part) (i : ℕ) (t : Part) → slice_get ps i ≡ Some t → is_gap t ≡ false → (kept_count ps i ≡ i) × (tail_place ps i ≡ suc i)
turn-count [] i t h g = cc
turn-count (Turn x ∷ ps) zero t h g = (refl, refl)
turn-count (Gap c ∷ ps) zero t h g = let e : Gap c ≡ t = cc in let f : is_gap (Gap c) ≡ is_gap t = ap is_gap e in cc
turn-count (Turn x ∷ ps) (suc i) t h g = let r = turn-count ps i t h g in (ap (λ n. suc n) r.0, ap (λ n. suc n) r.1)
turn-count (Gap c ∷ ps) (suc i) t h g = let r = turn-count ps i t h g in (ap (λ n. suc n) r.0, ap (λ n. suc n) r.1)

pub counts-are : (ps : List Part) (i : ℕ) (t : Part) (b : Bool) (n m : ℕ) → slice_get ps i ≡ Some t → b ≡ is_gap t → n ≡ cond b (i + 1) i → m ≡ cond b i (i + 1) → (kept_count ps i ≡ n) × (tail_place ps i ≡ m)
counts-are ps i t true n m h e f g = let r = gap-count ps i t h (sym e) in (r.0 ∙ (sym (add-one i) ∙ sym f), r.1 ∙ sym g)
counts-are ps i t false n m h e f g = let r = turn-count ps i t h (sym e) in (r.0 ∙ sym f, r.1 ∙ (sym (add-one i) ∙ sym g))

-- whether a turn begins
begins_is : (k : NetPermits) (e : TermEvent) (ps : List Part) (i : ℕ) (t : Part) (y : Tree) (r : RowLeft) → slice_get ps i ≡ Some t → row_left k e ps i y ≡ Some r → r.begins ≡ is_gap t
begins_is k e [] i t y r g h = cc
begins_is k e (Turn z ∷ ps) zero t y r g h =
    let p : Turn z ≡ t = cc in let q : record { begins = false; row_parts = Turn y ∷ ps } ≡ r = cc in
    ap (λ (s : RowLeft). s.begins) (sym q) ∙ ap is_gap p
begins_is k e (Gap c ∷ ps) zero t y r g h =
    let p : Gap c ≡ t = cc in let q : record { begins = true; row_parts = Gap (c ∪ (instances_of e).instances) ∷ Turn y ∷ Gap c ∷ ps } ≡ r = cc in
    ap (λ (s : RowLeft). s.begins) (sym q) ∙ ap is_gap p
begins_is k e (Turn z ∷ ps) (suc i) t y r g h = go (permit k (only (instances_of e).instances) z) (row_left k e ps i y) (λ s q. begins_is k e ps i t y s g q) h
  where
    go : (o : Option Tree) (p : Option RowLeft) → ((s : RowLeft) → p ≡ Some s → s.begins ≡ is_gap t) → turn_first o p ≡ Some r → r.begins ≡ is_gap t
    go None p f h1 = cc
    go (Some u) None f h1 = cc
    go (Some u) (Some s) f h1 =
        let q : record { begins = s.begins; row_parts = Turn u ∷ s.row_parts } ≡ r = cc in
        ap (λ (v : RowLeft). v.begins) (sym q) ∙ f s refl
begins_is k e (Gap c ∷ ps) (suc i) t y r g h = go (row_left k e ps i y) (λ s q. begins_is k e ps i t y s g q) h
  where
    go : (p : Option RowLeft) → ((s : RowLeft) → p ≡ Some s → s.begins ≡ is_gap t) → gap_first (c ∪ (instances_of e).instances) p ≡ Some r → r.begins ≡ is_gap t
    go None f h1 = cc
    go (Some s) f h1 =
        let q : record { begins = s.begins; row_parts = Gap (c ∪ (instances_of e).instances) ∷ s.row_parts } ≡ r = cc in
        ap (λ (v : RowLeft). v.begins) (sym q) ∙ f s refl

module _ (w : Tables) (t : Taken) (taken : IsTaken t) (x : Tree) (hi : Option ℕ) (d : List ℕ) (narrow : d ≡ cut (touch (permits_of w).spread x) t.at.instances) where
  abbrev k : NetPermits
  k = permits_of w

  abbrev e : TermEvent
  e = event_of t.event

  abbrev all : List ℕ
  all = touch (permits_of w).spread x

  abbrev p : List ℕ → Option Tree
  p c = permit (permits_of w) (only c) x

  abbrev q : Tree → Option Tree
  q y = permit (permits_of w) (block_of t.at) y

  -- parts that stay
  tail_gap : (c : List ℕ) (o : Option Tree) (r : RowRest) → some_kept o ≡ true → is_nil o ≡ false → open_before hi o c r ≡ part_before hi (Gap c) r
  tail_gap c o r h g = at hi o h g
    where
      tried : (o : Option Tree) → some_kept o ≡ true → is_nil o ≡ false → tried_before o c r ≡ gap_before false c r
      tried None h g = cc
      tried (Some u) h g = ap (λ b. gap_before b c r) g

      at : (m : Option ℕ) (o : Option Tree) → some_kept o ≡ true → is_nil o ≡ false → open_before m o c r ≡ part_before m (Gap c) r
      at None o h g = tried o h g
      at (Some zero) o h g = refl
      at (Some (suc n)) o h g = tried o h g

  tail_rest : (ps : List Part) → EachGap (λ c. cut all c ≡ c) ps → EachGap (λ c. some_kept (p c) ≡ true) ps → EachGap (λ c. is_nil (p c) ≡ false) ps → rest_of p all hi ps ≡ tail_of hi ps no_rest
  tail_rest [] h g f = refl
  tail_rest (Gap c ∷ ps) h g f = (λ i. open_before hi (p (h.0 i)) (h.0 i) (tail_rest ps h.1 g.1 f.1 i)) ∙ tail_gap c (p c) (tail_of hi ps no_rest) g.0 f.0
  tail_rest (Turn y ∷ ps) h g f = ap (turn_before y) (tail_rest ps h g f)

  -- parts in front
  wide : (c : List ℕ) → IsSet c → cut all c ≡ c → c ∪ d ≡ cut all (c ∪ (instances_of e).instances)
  wide c s h = wide-alike all c d t.at.instances (instances_of e).instances s h narrow taken.same

  gap_kept : (c : List ℕ) (o : Option RowLeft) (r : Option RowRest) → IsSet c → cut all c ≡ c → r ≡ option_map (λ (s : RowLeft). rest_of p all hi s.row_parts) o
      → keep_first p q hi d (Gap c) r ≡ option_map (λ (s : RowLeft). rest_of p all hi s.row_parts) (gap_first (c ∪ (instances_of e).instances) o)
  gap_kept c None r s h f = ap (keep_first p q hi d (Gap c)) f
  gap_kept c (Some l) r s h f = ap (keep_first p q hi d (Gap c)) f ∙ (λ i. Some (open_before hi (p (wide c s h i)) (wide c s h i) (rest_of p all hi l.row_parts)))

  turn_kept : (y : Tree) (u : Option Tree) (o : Option RowLeft) (r : Option RowRest) → q y ≡ u → r ≡ option_map (λ (s : RowLeft). rest_of p all hi s.row_parts) o
      → keep_first p q hi d (Turn y) r ≡ option_map (λ (s : RowLeft). rest_of p all hi s.row_parts) (turn_first u o)
  turn_kept y None None r g f = ap (keep_first p q hi d (Turn y)) f
  turn_kept y None (Some l) r g f = ap (keep_first p q hi d (Turn y)) f ∙ ap (λ o. kept_before o (rest_of p all hi l.row_parts)) g
  turn_kept y (Some u) None r g f = ap (keep_first p q hi d (Turn y)) f
  turn_kept y (Some u) (Some l) r g f = ap (keep_first p q hi d (Turn y)) f ∙ ap (λ o. kept_before o (rest_of p all hi l.row_parts)) g

  row_kept : (ps : List Part) (i : ℕ) (y : Tree) → AreReadyParts w ps → EachGap (λ c. cut all c ≡ c) ps → EachGap (λ c. some_kept (p c) ≡ true) ps → EachGap (λ c. is_nil (p c) ≡ false) ps → i < length ps
      → keep_parts p q hi d (take (kept_count ps i) ps) (turn_before y (tail_of hi (drop (tail_place ps i) ps) no_rest)) ≡ option_map (λ (s : RowLeft). rest_of p all hi s.row_parts) (row_left k e ps i y)
  row_kept [] i y r h g f l = absurd (omega arith)
  row_kept (Turn z ∷ ps) zero y r h g f l = ap (λ s. Some (turn_before y s)) (sym (tail_rest ps h g f))
  row_kept (Gap c ∷ ps) zero y r h g f l =
      gap_kept c (Some (record { begins = true; row_parts = Turn y ∷ Gap c ∷ ps })) (Some (turn_before y (tail_of hi (Gap c ∷ ps) no_rest))) r.0 h.0 (ap (λ s. Some (turn_before y s)) (sym (tail_rest (Gap c ∷ ps) h g f)))
  row_kept (Turn z ∷ ps) (suc i) y r h g f l =
      turn_kept z (permit k (only (instances_of e).instances) z) (row_left k e ps i y) (keep_parts p q hi d (take (kept_count ps i) ps) (turn_before y (tail_of hi (drop (tail_place ps i) ps) no_rest))) (taken-permits w t taken z r.0) (row_kept ps i y r.1 h g f (omega arith))
  row_kept (Gap c ∷ ps) (suc i) y r h g f l =
      gap_kept c (row_left k e ps i y) (keep_parts p q hi d (take (kept_count ps i) ps) (turn_before y (tail_of hi (drop (tail_place ps i) ps) no_rest))) r.0 h.0 (row_kept ps i y r.1 h.1 g.1 f.1 (omega arith))

-- what is left of the loop, by what is left of its row
module _ (w : Tables) (t : Taken) (taken : IsTaken t) (x : Tree) (lo : ℕ) (hi : Option ℕ) (ps : List Part) (i : ℕ) (u : Part) (y : Tree) (ready : IsReadyLoop w x hi ps) (there : slice_get ps i ≡ Some u) where
  abbrev sides : List ℕ → ℕ → ℕ → Option RowRest
  sides d n m = keep_parts (λ c. permit (permits_of w) (only c) x) (λ z. permit (permits_of w) (block_of t.at) z) (fewer (is_gap u) hi) d (take n ps) (turn_before y (tail_of (fewer (is_gap u) hi) (drop m ps) no_rest))

  shut_loop : may_begin (is_gap u) hi ≡ false → (o : Option RowLeft) → row_left (permits_of w) (event_of t.event) ps i y ≡ o → loop_left (permits_of w) x lo hi o ≡ None
  shut_loop h None e = refl
  shut_loop h (Some r) e =
      let b : r.begins ≡ is_gap u = begins_is (permits_of w) (event_of t.event) ps i u y r there e in
      λ j. where_so ((ap (λ s. may_begin s hi) b ∙ h) j) (loop_of (λ c. permit (permits_of w) (only c) x) (touch (permits_of w).spread x) x (down r.begins lo) (fewer r.begins hi) r.row_parts)

  put_loop : put (permits_of w) (event_of t.event) (Loop x lo hi (row_of ps)) i y ≡ loop_left (permits_of w) x lo hi (row_left (permits_of w) (event_of t.event) ps i y)
  put_loop = ap (λ l. loop_left (permits_of w) x lo hi (row_left (permits_of w) (event_of t.event) l i y)) (parts-row_of ps)

  pub loop-shut : may_begin (is_gap u) hi ≡ false → put (permits_of w) (event_of t.event) (Loop x lo hi (row_of ps)) i y ≡ None
  loop-shut h = put_loop ∙ shut_loop h (row_left (permits_of w) (event_of t.event) ps i y) refl

  module _ (allof d : List ℕ) (alike : (n : ℕ) → has allof n ≡ has (touch (spread_of w) x) n) (narrow : d ≡ cut allof t.at.instances) (may : may_begin (is_gap u) hi ≡ true) (n m : ℕ) (counts : (kept_count ps i ≡ n) × (tail_place ps i ≡ m)) where
    narrowed : d ≡ cut (touch (permits_of w).spread x) t.at.instances
    narrowed = narrow ∙ cut_alike allof (touch (spread_of w) x) t.at.instances alike

    sides_are : sides d n m ≡ option_map (λ (s : RowLeft). rest_of (λ c. permit (permits_of w) (only c) x) (touch (permits_of w).spread x) (fewer (is_gap u) hi) s.row_parts) (row_left (permits_of w) (event_of t.event) ps i y)
    sides_are = (λ j. sides d (sym counts.0 j) (sym counts.1 j)) ∙ row_kept w t taken x (fewer (is_gap u) hi) d narrowed ps i y ready.parts ready.normal.cuts ready.normal.leaves ready.normal.not_free (slice_get_within ps i u there)

    none_left : (o : Option RowLeft) → option_map (λ (s : RowLeft). rest_of (λ c. permit (permits_of w) (only c) x) (touch (permits_of w).spread x) (fewer (is_gap u) hi) s.row_parts) o ≡ None → loop_left (permits_of w) x lo hi o ≡ None
    none_left None h = refl
    none_left (Some r) h = cc

    some_left : (r : RowRest) (o : Option RowLeft) → row_left (permits_of w) (event_of t.event) ps i y ≡ o → option_map (λ (s : RowLeft). rest_of (λ c. permit (permits_of w) (only c) x) (touch (permits_of w).spread x) (fewer (is_gap u) hi) s.row_parts) o ≡ Some r
        → loop_left (permits_of w) x lo hi o ≡ rest_end x (down (is_gap u) lo) (fewer (is_gap u) hi) r
    some_left r None e h = cc
    some_left r (Some s) e h =
        let b : s.begins ≡ is_gap u = begins_is (permits_of w) (event_of t.event) ps i u y s there e in
        let f : rest_of (λ c. permit (permits_of w) (only c) x) (touch (permits_of w).spread x) (fewer (is_gap u) hi) s.row_parts ≡ r = cc in
        (λ j. where_so ((ap (λ v. may_begin v hi) b ∙ may) j) (loop_of (λ c. permit (permits_of w) (only c) x) (touch (permits_of w).spread x) x (down (b j) lo) (fewer (b j) hi) s.row_parts))
        ∙ (turns-rest (λ c. permit (permits_of w) (only c) x) (touch (permits_of w).spread x) x (down (is_gap u) lo) (fewer (is_gap u) hi) s.row_parts ∙ ap (rest_end x (down (is_gap u) lo) (fewer (is_gap u) hi)) f)

    pub loop-none : sides d n m ≡ None → put (permits_of w) (event_of t.event) (Loop x lo hi (row_of ps)) i y ≡ None
    loop-none h = put_loop ∙ none_left (row_left (permits_of w) (event_of t.event) ps i y) (sym sides_are ∙ h)

    pub loop-some : (r : RowRest) → sides d n m ≡ Some r → put (permits_of w) (event_of t.event) (Loop x lo hi (row_of ps)) i y ≡ rest_end x (down (is_gap u) lo) (fewer (is_gap u) hi) r
    loop-some r h = put_loop ∙ some_left r (row_left (permits_of w) (event_of t.event) ps i y) refl (sym sides_are ∙ h)
