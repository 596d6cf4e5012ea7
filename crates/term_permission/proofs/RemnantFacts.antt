-- What is left of a whole, by what is left of its parts.
use Rattle.std.specs.Option.{option_map}
use Rattle.std.specs.Prelude.{ℕ, ◌+◌, ◌≤◌, Bool, true, false, List, [], ◌∷◌, ◌++◌, ◌≡◌, ◌⊎◌, Option, Some, None, refl, not, length, take, drop, slice_get}
use Rattle.std.proofs.Common.{ap, sym, ◌∙◌, subst, inl, inr, add-one, append-nil, arith}
use Rattle.msc_base.specs.Patterns.{Mode, seq, par}
use Rattle.list_facts.proofs.Reading.{drop_suc}
use Rattle.chart_term.specs.Equality.{same_tree}
use Rattle.chart_term.specs.NormalForms.{NetPermits, and_then, begun, choice_form, choice_of, bound_form, distinct, flat, has_gap, is_nil, kept_pairs, numbers, open_choice, open_choices, open_part, or_skip, put_turn, some_kept, tie_of, unless_same, without}
use Rattle.chart_term.specs.Properties.{Each, EachTurn, MayHave}
use Rattle.chart_term.specs.Terms.{Block, Tree, Nil, Event, Join, Choice, Tied, Loop, Walk, Trees, none, more, items, trees, Part, Gap, Turn}
use Rattle.term_permission.specs.Lefts.{and_app, opened_left}
use Rattle.term_permission.specs.Remnants.{is_full, RemnantSays, SaysParts, SaysSome, both, either, stays, AreNil, SomeFull, Tallies, TalliesSome}
use Rattle.term_permission.specs.RowRests.{RowRest, turn_before, kept_before, keep_part, keep_parts}
use Rattle.term_permission.specs.declared.remnant.Remnant.{Remnant}
use Rattle.term_permission.specs.declared.remnant.Remnant.TheVariants as remnant
use Rattle.term_permission.specs.declared.remnant.RowTally.{RowTally}
use Rattle.term_laws.specs.Normality.{AreDifferent, AreTwoOrMore, IsNormal, IsNotNil, IsPartOf}
use Rattle.term_laws.specs.Permission.{permit, permit_all, permit_some, permits_of}
use Rattle.term_laws.proofs.Normalising.{permit_normal}
use Rattle.chart_term.specs.Rows.{parts_of}
use Rattle.chart_term.specs.Tables.{Tables}
use Rattle.chart_term.specs.declared.term.RowPart.{RowPart}
use Rattle.chart_term.proofs.Turns.{begun-append}
use Rattle.term_permission.specs.Ready.{IsReady}
use Rattle.term_permission.proofs.EndingFacts.{take_all}
use Rattle.term_permission.proofs.Joins.{flat-append}
use Rattle.term_permission.proofs.Permits.{some-more, some-skip}
use Rattle.term_permission.proofs.PermitRows.{keep-start, keep-more, keep-none, keep-kept, keep-lost, keep-whole}

-- Nil, and what isn't Nil
pub full_not_nil : (x : Tree) → is_full (Some x) ≡ true → IsNotNil x
full_not_nil x h = go (is_nil (Some x)) h
  where
    go : (b : Bool) → not b ≡ true → b ≡ false
    go true e = cc
    go false e = refl

pub empty_nil : (x : Tree) → is_full (Some x) ≡ false → x ≡ Nil
empty_nil Nil h = refl
empty_nil (Event e) h = cc
empty_nil (Join m xs) h = cc
empty_nil (Choice xs) h = cc
empty_nil (Tied x q) h = cc
empty_nil (Loop x lo hi r) h = cc
empty_nil (Walk n s t c) h = cc

nil_or_full : (x : Tree) → (x ≡ Nil) ⊎ IsNotNil x
nil_or_full Nil = inl refl
nil_or_full (Event e) = inr refl
nil_or_full (Join m xs) = inr refl
nil_or_full (Choice xs) = inr refl
nil_or_full (Tied x q) = inr refl
nil_or_full (Loop x lo hi r) = inr refl
nil_or_full (Walk n s t c) = inr refl

pub part_full : (m : Mode) (x : Tree) → IsPartOf m x → IsNotNil x
part_full m Nil h = absurd h
part_full m (Event e) h = refl
part_full m (Join p xs) h = refl
part_full m (Choice xs) h = refl
part_full m (Tied x q) h = refl
part_full m (Loop x lo hi r) h = refl
part_full m (Walk n s t c) h = refl

-- a list begins with a term that isn't Nil
abbrev pub BeginsFull : List Tree → Type 0
BeginsFull xs = (y : Tree) × (ys : List Tree) × (xs ≡ y ∷ ys) × IsNotNil y

parts_full : (m : Mode) (xs : Trees) → Each (IsPartOf m) (items xs) → AreTwoOrMore xs → BeginsFull (items xs)
parts_full m none o t = absurd t
parts_full m (more x xs) o t = (x, items xs, refl, part_full m x o.0)

opened_full : (k : NetPermits) (m : Mode) (x : Tree) → IsNormal k x → IsNotNil x → BeginsFull (open_part m x)
opened_full k m Nil h n = cc
opened_full k m (Event e) h n = (Event e, [], refl, refl)
opened_full k seq (Join seq xs) h n = parts_full seq xs h.1 h.2
opened_full k seq (Join par xs) h n = (Join par xs, [], refl, refl)
opened_full k par (Join seq xs) h n = (Join seq xs, [], refl, refl)
opened_full k par (Join par xs) h n = parts_full par xs h.1 h.2
opened_full k m (Choice xs) h n = (Choice xs, [], refl, refl)
opened_full k m (Tied x q) h n = (Tied x q, [], refl, refl)
opened_full k m (Loop x lo hi r) h n = (Loop x lo hi r, [], refl, refl)
opened_full k m (Walk p s t c) h n = (Walk p s t c, [], refl, refl)

-- what is left of a part
pub says_opened : (k : NetPermits) (m : Mode) (r : Remnant) (o : Option Tree) → MayHave (IsNormal k) o → RemnantSays r o → SaysParts r (option_map (open_part m) o)
says_opened k m remnant.Fails o n h = ap (option_map (open_part m)) h
says_opened k m remnant.Empty None n h = let q = h.0 in cc
says_opened k m remnant.Empty (Some x) n h = ap (λ y. Some (open_part m y)) (empty_nil x h.1)
says_opened k m remnant.More None n h = cc
says_opened k m remnant.More (Some x) n h = let (y, ys, e, f) = opened_full k m x n (full_not_nil x h) in (y, ys, ap Some e, f)

none_behind : (o : Option (List Tree)) → and_app o None ≡ None
none_behind None = refl
none_behind (Some xs) = refl

empty_before : (o : Option (List Tree)) → o ≡ and_app (Some []) o
empty_before None = refl
empty_before (Some xs) = refl

-- of two lists of parts
pub says_both : (r q : Remnant) (o p : Option (List Tree)) → SaysParts r o → SaysParts q p → SaysParts (both r q) (and_app o p)
says_both remnant.Fails q o p h g = ap (λ u. and_app u p) h
says_both remnant.Empty q o p h g = subst (SaysParts q) (empty_before p ∙ ap (λ u. and_app u p) (sym h)) g
says_both remnant.More remnant.Fails o p h g = ap (and_app o) g ∙ none_behind o
says_both remnant.More remnant.Empty o p (y, ys, e, f) g = (y, ys ++ [], λ i. and_app (e i) (g i), f)
says_both remnant.More remnant.More o p (y, ys, e, f) (z, zs, g, n) = (y, ys ++ z ∷ zs, λ i. and_app (e i) (g i), f)

-- of parts that stay as they are
pub says_stay : (m : Mode) (ps : List Part) → has_gap ps ≡ false → EachTurn (IsPartOf m) ps → SaysParts (stays ps) (Some (begun ps))
says_stay m [] h o = refl
says_stay m (Gap c ∷ ps) h o = cc
says_stay m (Turn x ∷ ps) h o = (x, begun ps, refl, part_full m x o.0)

pub says_turns : (k : NetPermits) (ps : List Part) → has_gap ps ≡ false → EachTurn (IsNormal k) ps → EachTurn IsNotNil ps → SaysParts (stays ps) (Some (flat seq (begun ps)))
says_turns k [] h n o = refl
says_turns k (Gap c ∷ ps) h n o = cc
says_turns k (Turn x ∷ ps) h n o = let (y, ys, e, f) = opened_full k seq x n.0 o.0 in (y, ys ++ flat seq (begun ps), ap (λ l. Some (l ++ flat seq (begun ps))) e, f)

-- of one part more in front
module _ (k : NetPermits) (b : Block) (m : Mode) where
  front_left : (o : Option Tree) (p : Option (List Tree)) → option_map (flat m) (and_then o p) ≡ and_app (option_map (open_part m) o) (option_map (flat m) p)
  front_left None p = refl
  front_left (Some y) None = refl
  front_left (Some y) (Some ys) = refl

  pub left_first : (x : Tree) (xs : List Tree) → opened_left k b m (x ∷ xs) ≡ and_app (option_map (open_part m) (permit k b x)) (opened_left k b m xs)
  left_first x xs = front_left (permit k b x) (permit_all k b (trees xs))

-- of a tie
never_has : (q : List (ℕ × ℕ)) → kept_pairs [] q ≡ []
never_has [] = refl
never_has (p ∷ q) = never_has q

tie_full : (y : Tree) (q : List (ℕ × ℕ)) → IsNotNil y → is_full (Some (bound_form y q)) ≡ true
tie_full y [] f = ap not f
tie_full y (p ∷ q) f = refl

pub says_tied : (q : List (ℕ × ℕ)) (r : Remnant) (o : Option Tree) → RemnantSays r o → RemnantSays r (option_map (λ y. tie_of y q) o)
says_tied q remnant.Fails o h = ap (option_map (λ y. tie_of y q)) h
says_tied q remnant.Empty None h = let s = h.0 in cc
says_tied q remnant.Empty (Some x) h = (refl, ap (λ y. is_full (Some (tie_of y q))) (empty_nil x h.1) ∙ ap (λ l. is_full (Some (bound_form Nil l))) (never_has q))
says_tied q remnant.More None h = cc
says_tied q remnant.More (Some x) h = tie_full x (kept_pairs (numbers x) q) (full_not_nil x h)

-- of the parts of a choice
nil_more : (xs ys : List Tree) → AreNil xs → AreNil ys → AreNil (xs ++ ys)
nil_more [] ys h g = g
nil_more (x ∷ xs) ys h g = (h.0, nil_more xs ys h.1 g)

full_before : (xs ys : List Tree) → SomeFull xs → SomeFull (xs ++ ys)
full_before [] ys h = absurd h
full_before (x ∷ xs) ys (inl f) = inl f
full_before (x ∷ xs) ys (inr r) = inr (full_before xs ys r)

full_behind : (xs ys : List Tree) → SomeFull ys → SomeFull (xs ++ ys)
full_behind [] ys h = h
full_behind (x ∷ xs) ys h = inr (full_behind xs ys h)

-- one alone
says_one : (q : Remnant) (o : Option Tree) → RemnantSays q o → SaysSome q (or_skip o [])
says_one remnant.Fails o h = ap (λ p. or_skip p []) h
says_one remnant.Empty None h = let s = h.0 in cc
says_one remnant.Empty (Some x) h = ([], ap (λ y. y ∷ []) (empty_nil x h.1), tt)
says_one remnant.More None h = cc
says_one remnant.More (Some x) h = inl (full_not_nil x h)

pub says_either : (r q : Remnant) (ks ls : List Tree) → SaysSome r ks → SaysSome q ls → SaysSome (either r q) (ks ++ ls)
says_either remnant.Fails q ks ls h g = subst (SaysSome q) (ap (λ l. l ++ ls) (sym h)) g
says_either remnant.Empty remnant.Fails ks ls (xs, e, a) g = (xs ++ [], λ i. e i ++ g i, nil_more xs [] a tt)
says_either remnant.Empty remnant.Empty ks ls (xs, e, a) (ys, f, b) = (xs ++ Nil ∷ ys, λ i. e i ++ f i, nil_more xs (Nil ∷ ys) a (refl, b))
says_either remnant.Empty remnant.More ks ls h g = full_behind ks ls g
says_either remnant.More q ks ls h g = full_before ks ls h

pub says_next : (r q : Remnant) (ks : List Tree) (o : Option Tree) → SaysSome r ks → RemnantSays q o → SaysSome (either r q) (ks ++ or_skip o [])
says_next r q ks o h g = says_either r q ks (or_skip o []) h (says_one q o g)

-- of the whole choice
nil_without : (x : Tree) (ys : List Tree) → x ≡ Nil → AreNil ys → without x ys ≡ []
nil_without x [] e h = refl
nil_without x (y ∷ ys) e h = (λ i. unless_same (same_tree (e i) (h.0 i)) y (without x ys)) ∙ nil_without x ys e h.1

nil_distinct : (xs : List Tree) → AreNil xs → AreNil (distinct xs)
nil_distinct [] h = tt
nil_distinct (x ∷ xs) h = (h.0, subst AreNil (sym (nil_without x (distinct xs) h.0 (nil_distinct xs h.1))) tt)

nil_open : (xs : List Tree) → AreNil xs → open_choices xs ≡ xs
nil_open [] h = refl
nil_open (x ∷ xs) h = (λ i. open_choice (h.0 i) ++ nil_open xs h.1 i) ∙ ap (λ y. y ∷ xs) (sym h.0)

choice_nil : (xs : List Tree) → AreNil xs → choice_of (Nil ∷ xs) ≡ Some Nil
choice_nil xs h = ap (λ l. choice_form (distinct (Nil ∷ l))) (nil_open xs h) ∙ ap (λ l. choice_form (Nil ∷ l)) (nil_without Nil (distinct xs) refl (nil_distinct xs h))

full_without : (x : Tree) (ys : List Tree) → x ≡ Nil → SomeFull ys → SomeFull (without x ys)
full_without x [] e h = absurd h
full_without x (y ∷ ys) e (inl f) = subst (λ (l : List Tree). SomeFull l) (λ i. unless_same (other y f i) y (without x ys)) (inl f)
  where
    other : (z : Tree) → IsNotNil z → false ≡ same_tree x z
    other Nil g = cc
    other (Event a) g = sym (ap (λ u. same_tree u (Event a)) e)
    other (Join m xs) g = sym (ap (λ u. same_tree u (Join m xs)) e)
    other (Choice xs) g = sym (ap (λ u. same_tree u (Choice xs)) e)
    other (Tied z q) g = sym (ap (λ u. same_tree u (Tied z q)) e)
    other (Loop z lo hi r) g = sym (ap (λ u. same_tree u (Loop z lo hi r)) e)
    other (Walk n s t c) g = sym (ap (λ u. same_tree u (Walk n s t c)) e)
full_without x (y ∷ ys) e (inr r) = go (same_tree x y) (full_without x ys e r)
  where
    go : (b : Bool) → SomeFull (without x ys) → SomeFull (unless_same b y (without x ys))
    go true h = h
    go false h = inr h

full_distinct : (xs : List Tree) → SomeFull xs → SomeFull (distinct xs)
full_distinct [] h = absurd h
full_distinct (x ∷ xs) (inl f) = inl f
full_distinct (x ∷ xs) (inr r) = elim (nil_or_full x) [ inl e ↦ inr (full_without x (distinct xs) e (full_distinct xs r)) | inr f ↦ inl f ]

choice_parts_full : (xs : Trees) → AreTwoOrMore xs → AreDifferent (items xs) → SomeFull (items xs)
choice_parts_full none t d = absurd t
choice_parts_full (more x none) t d = absurd t
choice_parts_full (more x (more y xs)) t d = elim (nil_or_full x) [
  | inl e ↦ elim (nil_or_full y) [ inl f ↦ let same : same_tree x y ≡ true = λ i. same_tree (e i) (f i) in let other : same_tree x y ≡ false = d.0.0 in cc | inr f ↦ inr (inl f) ]
  | inr f ↦ inl f
]

open_full : (k : NetPermits) (x : Tree) → IsNormal k x → IsNotNil x → SomeFull (open_choice x)
open_full k Nil h n = cc
open_full k (Event e) h n = inl refl
open_full k (Join m xs) h n = inl refl
open_full k (Choice xs) h n = choice_parts_full xs h.2 h.3
open_full k (Tied x q) h n = inl refl
open_full k (Loop x lo hi r) h n = inl refl
open_full k (Walk p s t c) h n = inl refl

full_open : (k : NetPermits) (xs : List Tree) → Each (IsNormal k) xs → SomeFull xs → SomeFull (open_choices xs)
full_open k [] n h = absurd h
full_open k (x ∷ xs) n (inl f) = full_before (open_choice x) (open_choices xs) (open_full k x n.0 f)
full_open k (x ∷ xs) n (inr r) = full_behind (open_choice x) (open_choices xs) (full_open k xs n.1 r)

form_full : (xs : List Tree) → SomeFull xs → is_full (choice_form xs) ≡ true
form_full [] h = absurd h
form_full (x ∷ []) (inl f) = ap not f
form_full (x ∷ []) (inr r) = absurd r
form_full (x ∷ y ∷ ys) h = refl

pub says_choice : (k : NetPermits) (r : Remnant) (ks : List Tree) → Each (IsNormal k) ks → SaysSome r ks → RemnantSays r (choice_of ks)
says_choice k remnant.Fails ks n h = ap choice_of h
says_choice k remnant.Empty ks n (xs, e, a) = let q = ap choice_of e ∙ choice_nil xs a in (ap some_kept q, ap is_full q)
says_choice k remnant.More ks n h = form_full (distinct (open_choices ks)) (full_distinct (open_choices ks) (full_open k ks n h))

-- of a row
put_gaps : (x : Tree) (ps : List Part) → has_gap (put_turn x ps) ≡ has_gap ps
put_gaps Nil ps = refl
put_gaps (Event e) ps = refl
put_gaps (Join m xs) ps = refl
put_gaps (Choice xs) ps = refl
put_gaps (Tied x q) ps = refl
put_gaps (Loop x lo hi r) ps = refl
put_gaps (Walk n s t c) ps = refl

put_flat : (x : Tree) (ps : List Part) → flat seq (begun (put_turn x ps)) ≡ open_part seq x ++ flat seq (begun ps)
put_flat Nil ps = refl
put_flat (Event e) ps = refl
put_flat (Join m xs) ps = refl
put_flat (Choice xs) ps = refl
put_flat (Tied x q) ps = refl
put_flat (Loop x lo hi r) ps = refl
put_flat (Walk n s t c) ps = refl

-- one more turn in front
pub tally_turn : (k : NetPermits) (t : RowTally) (r : RowRest) (left : Remnant) (x : Tree) → IsNormal k x → RemnantSays left (Some x) → Tallies t r → Tallies (record t { turns = both left t.turns }) (turn_before x r)
tally_turn k t r left x n h g = record {
  gap = g.gap ∙ sym (put_gaps x r.parts);
  free = g.free;
  turns = subst (λ l. SaysParts (both left t.turns) (Some l)) (sym (put_flat x r.parts)) (says_both left t.turns (Some (open_part seq x)) (Some (flat seq (begun r.parts))) (says_opened k seq left (Some x) n h) g.turns);
}

-- parts that stay as they are, in front
pub tally_whole : (k : NetPermits) (t : RowTally) (r : RowRest) (ps : List Part) → has_gap ps ≡ false → EachTurn (IsNormal k) ps → EachTurn IsNotNil ps → Tallies t r → Tallies (record t { turns = both (stays ps) t.turns }) (record { parts = ps ++ r.parts; free = r.free })
tally_whole k t r ps e n o g = record {
  gap = g.gap ∙ sym (no_gap ps e);
  free = g.free;
  turns = subst (λ l. SaysParts (both (stays ps) t.turns) (Some l)) (sym (ap (flat seq) (begun-append ps r.parts) ∙ flat-append seq (begun ps) (begun r.parts))) (says_both (stays ps) t.turns (Some (flat seq (begun ps))) (Some (flat seq (begun r.parts))) (says_turns k ps e n o) g.turns);
}
  where
    no_gap : (ps : List Part) → has_gap ps ≡ false → has_gap (ps ++ r.parts) ≡ has_gap r.parts
    no_gap [] h = refl
    no_gap (Gap c ∷ ps) h = cc
    no_gap (Turn x ∷ ps) h = no_gap ps h

-- a begun turn that doesn't fail
pub tally_some : (k : NetPermits) (t : RowTally) (r : RowRest) (left : Remnant) (o : Option Tree) → MayHave (IsNormal k) o → (left ≡ remnant.Fails → ⊥) → RemnantSays left o → Tallies t r → TalliesSome (Some (record t { turns = both left t.turns })) (kept_before o r)
tally_some k t r remnant.Fails o n f h g = absurd (f refl)
tally_some k t r remnant.Empty None n f h g = let s = h.0 in cc
tally_some k t r remnant.More None n f h g = cc
tally_some k t r remnant.Empty (Some x) n f h g = (turn_before x r, refl, tally_turn k t r remnant.Empty x n h g)
tally_some k t r remnant.More (Some x) n f h g = (turn_before x r, refl, tally_turn k t r remnant.More x n h g)

-- the parts of a row, one after another from its end
module _ (p : List ℕ → Option Tree) (q : Tree → Option Tree) (hi : Option ℕ) (d : List ℕ) where
  abbrev pub AreKept : Option RowTally → List Part → RowTally → Type 0
  AreKept after ps t = (r : RowRest) → Tallies t r → TalliesSome after (keep_parts p q hi d ps r)

  pub row_fork : (ps qs : List Part) (t u : RowTally) (after : Option RowTally) → AreKept (Some u) qs t → AreKept after ps u → AreKept after (ps ++ qs) t
  row_fork ps qs t u after f g r h = let (s, e, k) = f r h in subst (TalliesSome after) (sym (keep-kept p q hi d ps qs r s e)) (g s k)

  pub row_fails : (ps qs : List Part) (t : RowTally) → AreKept None qs t → AreKept None (ps ++ qs) t
  row_fails ps qs t f r h = keep-lost p q hi d ps qs r (f r h)

  pub row_begun : (ps : List Part) (n : ℕ) (t : RowTally) → length ps ≤ n → AreKept (Some t) (drop n ps) t
  row_begun ps n t l r h = (r, keep-start p q hi d ps n r l, h)

  pub row_next : (ps : List Part) (i j : ℕ) (item : Part) (t u : RowTally) (after : Option RowTally) → slice_get ps i ≡ Some item → i + 1 ≡ j → AreKept (Some u) (drop j ps) t → ((s : RowRest) → Tallies u s → TalliesSome after (keep_part p q hi d item s)) → AreKept after (drop i ps) t
  row_next ps i j item t u after g a f m r h = let (s, e, k) = f r h in subst (TalliesSome after) (sym (keep-more p q hi d ps i j item r s e a g)) (m s k)

  pub row_lost : (ps : List Part) (i j : ℕ) (item : Part) (t u : RowTally) → slice_get ps i ≡ Some item → i + 1 ≡ j → AreKept (Some u) (drop j ps) t → ((s : RowRest) → Tallies u s → TalliesSome None (keep_part p q hi d item s)) → AreKept None ps t
  row_lost ps i j item t u g a f m r h = let (s, e, k) = f r h in keep-none p q hi d ps i j item r s e a g (m s k)

  pub row_ended : (ps : List Part) (i : ℕ) (t u : RowTally) → AreKept (Some u) (drop i ps) t → i ≡ 0 → AreKept (Some u) ps t
  row_ended ps i t u f e r h = subst (λ (n : ℕ). TalliesSome (Some u) (keep_parts p q hi d (drop n ps) r)) e (f r h)

  pub row_whole : (k : NetPermits) (ps : List Part) (t : RowTally) → has_gap ps ≡ false → EachTurn (IsNormal k) ps → EachTurn IsNotNil ps → EachTurn (λ x. q x ≡ Some x) ps → AreKept (Some (record t { turns = both (stays ps) t.turns })) ps t
  row_whole k ps t g n o e r h = (record { parts = ps ++ r.parts; free = r.free }, keep-whole p q hi d ps r g o e, tally_whole k t r ps g n o h)

-- the parts of a join, one after another from its end
module _ (k : NetPermits) (b : Block) (m : Mode) where
  pub items_next : (ps : List Part) (i j : ℕ) (x : Tree) (r q : Remnant) → slice_get ps i ≡ Some (Turn x) → i + 1 ≡ j → MayHave (IsNormal k) (permit k b x) → RemnantSays r (permit k b x) → SaysParts q (opened_left k b m (begun (drop j ps))) → SaysParts (both r q) (opened_left k b m (begun (drop i ps)))
  items_next ps i j x r q g e n h f =
      let split : drop i ps ≡ Turn x ∷ drop j ps = drop_suc ps i (Turn x) g ∙ ap (λ n. Turn x ∷ drop n ps) (sym (add-one i) ∙ e) in
      subst (λ l. SaysParts (both r q) (opened_left k b m (begun l))) (sym split)
      (subst (SaysParts (both r q)) (sym (left_first k b m x (begun (drop j ps)))) (says_both r q (option_map (open_part m) (permit k b x)) (opened_left k b m (begun (drop j ps))) (says_opened k m r (permit k b x) n h) f))

  pub parts_stay : (ps : List Part) → has_gap ps ≡ false → EachTurn (IsPartOf m) ps → opened_left k b m (begun ps) ≡ Some (begun ps) → SaysParts (stays ps) (opened_left k b m (begun ps))
  parts_stay ps g o e = subst (SaysParts (stays ps)) (sym e) (says_stay m ps g o)

-- the parts of a choice, one after another
module _ (w : Tables) (b : Block) where
  some_next : (xs : List Tree) (i : ℕ) (x : Tree) (o : Option Tree) → slice_get xs i ≡ Some x → permit (permits_of w) b x ≡ o → permit_some (permits_of w) b (trees (take (i + 1) xs)) ≡ permit_some (permits_of w) b (trees (take i xs)) ++ or_skip o []
  some_next xs i x None g e = some-skip (permits_of w) b xs i x (permit_some (permits_of w) b (trees (take i xs))) refl g e ∙ sym (append-nil (permit_some (permits_of w) b (trees (take i xs))))
  some_next xs i x (Some y) g e = some-more (permits_of w) b xs i x y (permit_some (permits_of w) b (trees (take i xs))) refl g e

  pub choice_next : (xs : List Tree) (i : ℕ) (x : Tree) (r q : Remnant) → slice_get xs i ≡ Some x → RemnantSays q (permit (permits_of w) b x) → SaysSome r (permit_some (permits_of w) b (trees (take i xs))) → SaysSome (either r q) (permit_some (permits_of w) b (trees (take (i + 1) xs)))
  choice_next xs i x r q g h f = subst (SaysSome (either r q)) (sym (some_next xs i x (permit (permits_of w) b x) g refl)) (says_next r q (permit_some (permits_of w) b (trees (take i xs))) (permit (permits_of w) b x) f h)

  each_normal : (xs : List Tree) → Each (IsReady w) xs → Each (IsNormal (permits_of w)) (permit_some (permits_of w) b (trees xs))
  each_normal [] h = tt
  each_normal (x ∷ xs) h = front (permit (permits_of w) b x) (permit_normal (permits_of w) b x h.0.normal) (each_normal xs h.1)
    where
      front : (o : Option Tree) → MayHave (IsNormal (permits_of w)) o → Each (IsNormal (permits_of w)) (permit_some (permits_of w) b (trees xs)) → Each (IsNormal (permits_of w)) (or_skip o (permit_some (permits_of w) b (trees xs)))
      front None n r = r
      front (Some y) n r = (n, r)

  pub choice_ended : (xs : List Tree) (n : ℕ) (r : Remnant) → length xs ≤ n → Each (IsReady w) xs → SaysSome r (permit_some (permits_of w) b (trees (take n xs))) → RemnantSays r (permit (permits_of w) b (Choice (trees xs)))
  choice_ended xs n r l h f = says_choice (permits_of w) r (permit_some (permits_of w) b (trees xs)) (each_normal xs h) (subst (λ l. SaysSome r (permit_some (permits_of w) b (trees l))) (take_all xs n l) f)

-- how long a list is
pub parts-length : (xs : List RowPart) → length (parts_of xs) ≤ length xs
parts-length [] = omega arith
parts-length (x ∷ xs) = omega (arith, parts-length xs)
