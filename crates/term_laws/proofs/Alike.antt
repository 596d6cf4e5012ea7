-- Blocks that say the same of the instances that a term touches permit the same of it.
use Rattle.std.specs.Option.{option_map}
use Rattle.std.specs.Prelude.{ℕ, ◌==◌, Bool, true, false, List, [], ◌∷◌, ◌++◌, ◌≡◌, ◌||◌, ◌&&◌, Option, Some, None, refl}
use Rattle.std.proofs.Common.{ap, sym, ◌∙◌}
use Rattle.std.proofs.lemmas.Bool.{or_left, or_right}
use Rattle.chart_term.specs.NormalForms.{NetPermits, only, cut, cut_gaps, drop_nil, at_zero, live, has_free, drop_free, lower_of, thin, turns_end, walk_cut, join_all, and_then, or_skip, unless, choice_of, tie_of, turns_in}
use Rattle.chart_term.specs.Properties.{EachGap}
use Rattle.chart_term.specs.TermPatterns.{instances_of, some_list}
use Rattle.chart_term.specs.Terms.{TermEvent, Block, has, has_some, hits, Tree, Nil, Event, Join, Choice, Tied, Loop, Walk, Trees, none, more, Row, ends, gap, turn, Part, Gap, Turn, parts, ◌∪◌}
use Rattle.chart_term.specs.Spreads.{touch, touch_all, touch_row}
use Rattle.chart_term.proofs.Instances.{has_union, has_app, has_self}
use Rattle.term_laws.specs.Normality.{IsSet, IsNormal, AreNormal, IsNormalRow}
use Rattle.term_laws.specs.Permission.{permit, permit_all, permit_some, permit_row, wider, with_turn}
use Rattle.term_laws.proofs.Normalising.{union_set, cut_set}
use Rattle.term_laws.proofs.SetFacts.{set_ext, has_cut}

-- every member of the first is one of the second
abbrev pub AreIn : List ℕ → List ℕ → Type 0
AreIn c d = (n : ℕ) → has c n ≡ true → has d n ≡ true

pub in_left : (c d all : List ℕ) → AreIn (c ++ d) all → AreIn c all
in_left c d all h n e = h n (has_app c d n ∙ or_left (has c n) (has d n) e)

pub in_right : (c d all : List ℕ) → AreIn (c ++ d) all → AreIn d all
in_right c d all h n e = h n (has_app c d n ∙ or_right (has c n) (has d n) e)

-- the blocks say the same of these instances, and of all numbers
pub record AgreeOn (all : List ℕ) (b d : Block) : Type 0 where
  pub instances : (n : ℕ) → has all n ≡ true → has b.instances n ≡ has d.instances n
  pub numbers : (n : ℕ) → has b.numbers n ≡ has d.numbers n

-- cut to some of these instances, unions with a set are the same
pub cut-alike : (own c a b : List ℕ) → IsSet c → ((n : ℕ) → has own n ≡ true → has a n ≡ has b n) → cut own (c ∪ a) ≡ cut own (c ∪ b)
cut-alike own c a b s h = set_ext (cut own (c ∪ a)) (cut own (c ∪ b)) (cut_set own (c ∪ a) (union_set c a s)) (cut_set own (c ∪ b) (union_set c b s)) (λ n. has_cut own (c ∪ a) n ∙ (at n (has own n) refl ∙ sym (has_cut own (c ∪ b) n)))
  where
    no : (t u : Bool) → (t && false) ≡ (u && false)
    no true true = refl
    no true false = refl
    no false true = refl
    no false false = refl

    at : (n : ℕ) (t : Bool) → has own n ≡ t → (has (c ∪ a) n && has own n) ≡ (has (c ∪ b) n && has own n)
    at n true e = ap (λ t. t && has own n) (has_union c a n ∙ (ap (λ t. has c n || t) (h n e) ∙ sym (has_union c b n)))
    at n false e = ap (λ t. has (c ∪ a) n && t) e ∙ (no (has (c ∪ a) n) (has (c ∪ b) n) ∙ sym (ap (λ t. has (c ∪ b) n && t) e))

-- a set with more members
pub union-alike : (c a b : List ℕ) → IsSet c → ((n : ℕ) → has a n ≡ has b n) → c ∪ a ≡ c ∪ b
union-alike c a b s h = set_ext (c ∪ a) (c ∪ b) (union_set c a s) (union_set c b s) (λ n. has_union c a n ∙ (ap (λ t. has c n || t) (h n) ∙ sym (has_union c b n)))

-- what a row comes to whose blocks are cut
abbrev cut_ended : (List ℕ → Option Tree) → Tree → ℕ → Option ℕ → List Part → Option Tree
cut_ended p x lo hi rs = let qs = live p (at_zero hi (drop_nil rs)) in turns_end x (lower_of (has_free p qs) lo) hi (thin (drop_free p qs))

module _ (k : NetPermits) (all : List ℕ) (b d : Block) (alike : AgreeOn all b d) where
  some_alike : (o : Option ℕ) → AreIn (some_list o) all → has_some b.instances o ≡ has_some d.instances o
  some_alike None h = refl
  some_alike (Some n) h = alike.instances n (h n (has_self n []))

  event_alike : (e : TermEvent) → AreIn (instances_of e).instances all → hits b e ≡ hits d e
  event_alike e h =
      let first : has b.instances e.at ≡ has d.instances e.at = alike.instances e.at (h e.at (has_self e.at (some_list e.also))) in
      let second : has_some b.instances e.also ≡ has_some d.instances e.also = some_alike e.also (λ n i. h n (or_right (e.at == n) (has (some_list e.also) n) i)) in
      λ i. (first i || second i) || alike.numbers e.number i

  -- rows that are the same once their blocks are cut
  rows_alike : (x : Tree) (lo : ℕ) (hi : Option ℕ) (o p : Option (List Part)) → option_map (cut_gaps (touch k.spread x)) o ≡ option_map (cut_gaps (touch k.spread x)) p
      → turns_in (λ c. permit k (only c) x) (touch k.spread x) x lo hi o ≡ turns_in (λ c. permit k (only c) x) (touch k.spread x) x lo hi p
  rows_alike x lo hi None None h = refl
  rows_alike x lo hi None (Some qs) h = cc
  rows_alike x lo hi (Some ps) None h = cc
  rows_alike x lo hi (Some ps) (Some qs) h = let e : cut_gaps (touch k.spread x) ps ≡ cut_gaps (touch k.spread x) qs = cc in ap (cut_ended (λ c. permit k (only c) x) x lo hi) e

  gap_alike : (own : List ℕ) → AreIn own all → (c : List ℕ) (o p : Option (List Part)) → IsSet c → option_map (cut_gaps own) o ≡ option_map (cut_gaps own) p → option_map (cut_gaps own) (wider c o b.instances) ≡ option_map (cut_gaps own) (wider c p d.instances)
  gap_alike own i c None None s h = refl
  gap_alike own i c None (Some qs) s h = cc
  gap_alike own i c (Some ps) None s h = cc
  gap_alike own i c (Some ps) (Some qs) s h = let e : cut_gaps own ps ≡ cut_gaps own qs = cc in λ j. Some (Gap (cut-alike own c b.instances d.instances s (λ m l. alike.instances m (i m l)) j) ∷ e j)

  turn_alike : (own : List ℕ) (u v : Option Tree) (o p : Option (List Part)) → u ≡ v → option_map (cut_gaps own) o ≡ option_map (cut_gaps own) p → option_map (cut_gaps own) (with_turn u o) ≡ option_map (cut_gaps own) (with_turn v p)
  turn_alike own u v o p e h = ap (λ t. option_map (cut_gaps own) (with_turn t o)) e ∙ same v o p h
    where
      same : (v : Option Tree) (o p : Option (List Part)) → option_map (cut_gaps own) o ≡ option_map (cut_gaps own) p → option_map (cut_gaps own) (with_turn v o) ≡ option_map (cut_gaps own) (with_turn v p)
      same None o p h = refl
      same (Some z) None None h = refl
      same (Some z) None (Some qs) h = cc
      same (Some z) (Some ps) None h = cc
      same (Some z) (Some ps) (Some qs) h = let e : cut_gaps own ps ≡ cut_gaps own qs = cc in ap (λ l. Some (Turn z ∷ l)) e

  mutual
    pub permit-alike : (x : Tree) → AreIn (touch k.spread x) all → IsNormal k x → permit k b x ≡ permit k d x
    permit-alike Nil i h = refl
    permit-alike (Event e) i h = ap (λ t. unless t (Event e)) (event_alike e i)
    permit-alike (Join m xs) i h = ap (option_map (join_all m)) (all_alike xs i h.0)
    permit-alike (Choice xs) i h = ap choice_of (some_parts xs i h.0)
    permit-alike (Tied x q) i h = ap (option_map (λ y. tie_of y q)) (permit-alike x i h.0)
    permit-alike (Loop x lo hi r) i h =
        rows_alike x lo hi (permit_row k b r) (permit_row k d r) (row_alike (touch k.spread x) (in_left (touch k.spread x) (touch_row k.spread r) all i) r (in_right (touch k.spread x) (touch_row k.spread r) all i) h.1 h.2.sets)
    permit-alike (Walk n s t c) i h = ap (walk_cut k n s t) (cut-alike (k.spread n) c b.instances d.instances h.set (λ m e. alike.instances m (i m e)))

    all_alike : (xs : Trees) → AreIn (touch_all k.spread xs) all → AreNormal k xs → permit_all k b xs ≡ permit_all k d xs
    all_alike none i h = refl
    all_alike (more x xs) i h = λ j. and_then (permit-alike x (in_left (touch k.spread x) (touch_all k.spread xs) all i) h.0 j) (all_alike xs (in_right (touch k.spread x) (touch_all k.spread xs) all i) h.1 j)

    some_parts : (xs : Trees) → AreIn (touch_all k.spread xs) all → AreNormal k xs → permit_some k b xs ≡ permit_some k d xs
    some_parts none i h = refl
    some_parts (more x xs) i h = λ j. or_skip (permit-alike x (in_left (touch k.spread x) (touch_all k.spread xs) all i) h.0 j) (some_parts xs (in_right (touch k.spread x) (touch_all k.spread xs) all i) h.1 j)

    row_alike : (own : List ℕ) → AreIn own all → (r : Row) → AreIn (touch_row k.spread r) all → IsNormalRow k r → EachGap IsSet (parts r) → option_map (cut_gaps own) (permit_row k b r) ≡ option_map (cut_gaps own) (permit_row k d r)
    row_alike own o ends i h s = refl
    row_alike own o (gap c r) i h s = gap_alike own o c (permit_row k b r) (permit_row k d r) s.0 (row_alike own o r i h s.1)
    row_alike own o (turn x r) i h s =
        turn_alike own (permit k b x) (permit k d x) (permit_row k b r) (permit_row k d r) (permit-alike x (in_left (touch k.spread x) (touch_row k.spread r) all i) h.0) (row_alike own o r (in_right (touch k.spread x) (touch_row k.spread r) all i) h.1 s)
