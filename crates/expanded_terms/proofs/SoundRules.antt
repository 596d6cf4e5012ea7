-- The rules of sound parts.
use Rattle.std.specs.Prelude.{ℕ, ◌+◌, ◌≤◌, ◌<◌, ◌==◌, ◌&&◌, ◌||◌, Bool, true, false, not, List, [], ◌∷◌, ◌++◌, Option, Some}
use Rattle.std.proofs.Common.{◌≡◌, ◌⊎◌, refl, sym, subst, ap, inl, inr, arith}
use Rattle.std.proofs.lemmas.Bool.Decides.{Decides-eqb}
use Rattle.msc_base.specs.Orders.{Among, first, later}
use Rattle.msc_base.specs.Patterns.{Mode, seq, par, Crosses}
use Rattle.chart_term.specs.NormalForms.{join_all, choice_of, tie_of, is_nil, numbers}
use Rattle.chart_term.specs.Properties.{Each}
use Rattle.chart_term.specs.Tables.{Tables}
use Rattle.chart_term.specs.TermPatterns.{numbered, InPairs, pairs}
use Rattle.chart_term.specs.Terms.{TermEvent, has, Tree, Nil, Event, Tied, Loop, ends, gap}
use Rattle.sound_terms.specs.DrawnOrders.{NetHolds}
use Rattle.sound_terms.specs.FormLaws.{TiesByForm}
use Rattle.sound_terms.specs.Intervals.{IsInside}
use Rattle.sound_terms.specs.NumberLaws.{list_numbers, IsPartList, part_none, part_keep, part_drop, NumbersAreKept}
use Rattle.sound_terms.specs.TermRanks.{Holds, inside_event, HoldsOne, inside_this, inside_that}
use Rattle.sound_terms.proofs.Ordering.{among_left, among_right}
use Rattle.term_laws.specs.FullSoundness.{AreSoundNets, IsSoundNode, MustHave, ConstructorsKeepSoundness}
use Rattle.term_laws.specs.OneResidual.{AreOnce}
use Rattle.term_laws.specs.Soundness.{IsOutside, Lacks, NetLacks}
use Rattle.term_laws.proofs.FullSound.{tidy_tables, tidy_of}
use Rattle.expanded_terms.specs.ExpandedTerms.{one_of, leave_turn, turns_if, turns_of}
use Rattle.expanded_terms.specs.SoundParts.{IsSoundPart, AreSoundParts, numbers_of, AreApart}
use Rattle.expanded_terms.proofs.Bare.{bare_join, bare_choice, bare_tie, one_there}
use Rattle.expanded_terms.proofs.FreshLoops.{may_turn, loop_begins}
use Rattle.expanded_terms.proofs.KeptParts.{choice_has, join_has, lacks_by_parts, outside_by_parts, tie_has}
use Rattle.expanded_terms.proofs.LoopTurns.{bare_turns}
use Rattle.expanded_terms.proofs.NodeOrders.{ranked_orders}
use Rattle.expanded_terms.proofs.RankedTrees.{join_ranked, join_held, choice_ranked, choice_held, tie_ranked, tie_held, turns_ranked, turns_held}

-- ---- numbers

has_app : (a b : List ℕ) (n : ℕ) → has (a ++ b) n ≡ true → (has a n ≡ true) ⊎ (has b n ≡ true)
has_app [] b n h = inr h
has_app (i ∷ a) b n h = by (i == n) h (λ k. has_app a b n k)
  where
    by : (t : Bool) → (t || has (a ++ b) n) ≡ true → (has (a ++ b) n ≡ true → (has a n ≡ true) ⊎ (has b n ≡ true)) → ((t || has a n) ≡ true) ⊎ (has b n ≡ true)
    by true h f = inl refl
    by false h f = f h

lacks_app : (a b : List ℕ) (n : ℕ) → has a n ≡ false → has b n ≡ false → has (a ++ b) n ≡ false
lacks_app [] b n h k = k
lacks_app (i ∷ a) b n h k = by (i == n) h (λ j. lacks_app a b n j k)
  where
    by : (t : Bool) → (t || has a n) ≡ false → (has a n ≡ false → has (a ++ b) n ≡ false) → (t || has (a ++ b) n) ≡ false
    by true h f = absurd cc
    by false h f = f h

has_or : (b : Bool) → (b ≡ true → ⊥) → b ≡ false
has_or true f = absurd (f refl)
has_or false f = refl

once_app : (a b : List ℕ) → AreOnce a → AreOnce b → ((j : ℕ) → has a j ≡ true → has b j ≡ true → ⊥) → AreOnce (a ++ b)
once_app [] b h k f = k
once_app (n ∷ a) b (h, i) k f = (
  lacks_app a b n h (has_or (has b n) (λ e. f n (or_first (n == n) (has a n) ((Decides-eqb n n).1 refl)) e)),
  once_app a b i k (λ j c d. f j (or_second (n == j) (has a j) c) d),
)
  where
    or_first : (s t : Bool) → s ≡ true → (s || t) ≡ true
    or_first true t e = refl
    or_first false t e = absurd cc

    or_second : (s t : Bool) → t ≡ true → (s || t) ≡ true
    or_second true t e = refl
    or_second false t e = e

-- some of the numbers, in their order
part_has : {a b : List ℕ} (n : ℕ) → IsPartList a b → has a n ≡ true → has b n ≡ true
part_has n part_none h = h
part_has n (part_keep {n = m} {a = a} {b = b} k) h = by (m == n) h (part_has n k)
  where
    by : (t : Bool) → (t || has a n) ≡ true → (has a n ≡ true → has b n ≡ true) → (t || has b n) ≡ true
    by true p f = refl
    by false p f = f p
part_has n (part_drop {n = m} {b = b} k) h = by (m == n) (part_has n k h)
  where
    by : (t : Bool) → has b n ≡ true → (t || has b n) ≡ true
    by true p = refl
    by false p = p

app_none : (a : List ℕ) → a ++ [] ≡ a
app_none [] = refl
app_none (n ∷ a) = ap (λ l. n ∷ l) (app_none a)

two_numbers : (x y : Tree) → list_numbers (x ∷ y ∷ []) ≡ numbers x ++ numbers y
two_numbers x y = ap (λ l. numbers x ++ l) (app_none (numbers y))

-- ---- turns

turns_there : (lower : ℕ) (upper : Option ℕ) (x : Tree) → leave_turn lower upper ≡ true → is_nil (Some x) ≡ false → turns_of lower upper x ≡ Loop x lower upper (gap [] ends)
turns_there lower upper x e f = rw (e, f) refl

no_turns : (lower : ℕ) (upper : Option ℕ) (x : Tree) → leave_turn lower upper ≡ false → turns_of lower upper x ≡ Nil
no_turns lower upper x e = rw e refl

nil_turns : (lower : ℕ) (upper : Option ℕ) (x : Tree) → leave_turn lower upper ≡ true → is_nil (Some x) ≡ true → turns_of lower upper x ≡ Nil
nil_turns lower upper x e f = rw (e, f) refl

-- ---- pairs

-- a number of pairs stands first or second in one
these : (a b m n : ℕ) (c : Bool) → m ≡ a → n ≡ b → (((m == a) && (n == b)) || c) ≡ true
these a b m n c e f = both (m == a) (n == b) ((Decides-eqb m a).1 e) ((Decides-eqb n b).1 f)
  where
    both : (s t : Bool) → s ≡ true → t ≡ true → ((s && t) || c) ≡ true
    both true true e f = refl
    both true false e f = absurd cc
    both false t e f = absurd cc

first_held : (NE : ℕ → TermEvent → Type 0) (e : TermEvent) (x : Tree) (xs : List Tree) → HoldsOne NE e (x ∷ xs) → Holds NE e x ⊎ HoldsOne NE e xs
first_held NE e x xs (inside_this h) = inl h
first_held NE e x xs (inside_that h) = inr h

two_held : (NE : ℕ → TermEvent → Type 0) (e : TermEvent) (x y : Tree) → HoldsOne NE e (x ∷ y ∷ []) → Holds NE e x ⊎ Holds NE e y
two_held NE e x y (inside_this h) = inl h
two_held NE e x y (inside_that (inside_this h)) = inr h
two_held NE e x y (inside_that (inside_that h)) = elim h [ ]

among_number : (es : List TermEvent) (e : TermEvent) → Among e es → Among e.number (numbers_of es)
among_number (e ∷ es) _ first = first
among_number (d ∷ es) e (later h) = later (among_number es e h)
among_number [] e h = elim h [ ]

module _ (keep : ConstructorsKeepSoundness) (by_form : TiesByForm) (kept : NumbersAreKept) (labels : ℕ) (w : Tables) (nets : AreSoundNets labels w) where
  abbrev Part : (ℕ → ℕ) → ℕ → ℕ → List TermEvent → List ℕ → Tree → Type 0
  Part r lo hi es ls x = IsSoundPart labels w r lo hi es ls x

  pub sound_nothing : (r : ℕ → ℕ) (n : ℕ) → Part r n n [] [] Nil
  sound_nothing r n = record {
    node = keep.join labels w seq [] nets tt;
    bare = tt;
    ranked = tt;
    held = λ e h. elim h [ ];
    lacks = λ j f. tt;
    outside = λ j f. tt;
    once = tt;
    inside = λ j h. absurd cc;
    order = omega arith;
  }

  pub sound_until : (r : ℕ → ℕ) (lo hi hi2 : ℕ) (es : List TermEvent) (ls : List ℕ) (x : Tree) → hi ≡ hi2 → Part r lo hi es ls x → Part r lo hi2 es ls x
  sound_until r lo hi hi2 es ls x e p = subst (λ i. Part r lo i es ls x) e p

  pub sound_event : (r : ℕ → ℕ) (n : ℕ) (e : TermEvent) → e.number ≡ n → e.label < labels → Part r n (n + 1) (e ∷ []) [] (Event e)
  sound_event r n e is l = record {
    node = keep.event labels w e l;
    bare = tt;
    ranked = tt;
    held = λ d h. held d h;
    lacks = λ j f. lacks j f;
    outside = λ j f. tt;
    once = (refl, tt);
    inside = λ j h. inside j h;
    order = omega arith;
  }
    where
      held : (d : TermEvent) → Holds (NetHolds w) d (Event e) → Among d (e ∷ [])
      held _ inside_event = first

      lacks : (j : ℕ) → ((d : TermEvent) → Among d (e ∷ []) → d.number ≡ j → ⊥) → e.number ≡ j → ⊥
      lacks j f q = f e first q

      inside : (j : ℕ) → ((e.number == j) || false) ≡ true → IsInside n (n + 1) j
      inside j h = at (by (e.number == j) refl h)
        where
          by : (b : Bool) → (e.number == j) ≡ b → (b || false) ≡ true → e.number ≡ j
          by true q h = (Decides-eqb e.number j).0 q
          by false q h = absurd cc

          at : e.number ≡ j → IsInside n (n + 1) j
          at q = (omega (arith, is, q), omega (arith, is, q))

  -- ---- two parts

  module _ (r : ℕ → ℕ) (lo mid hi : ℕ) (es fs : List TermEvent) (ls ks : List ℕ) (x y : Tree) (p : Part r lo mid es ls x) (q : Part r mid hi fs ks y) where
    both_once : AreOnce (list_numbers (x ∷ y ∷ []))
    both_once = subst (λ (l : List ℕ). AreOnce l) (sym (two_numbers x y)) (once_app (numbers x) (numbers y) p.once q.once (λ j a b. apart j (p.inside j a) (q.inside j b)))
      where
        apart : (j : ℕ) → IsInside lo mid j → IsInside mid hi j → ⊥
        apart j (a, b) (c, d) = omega (arith, b, c)

    both_inside : (j : ℕ) → has (list_numbers (x ∷ y ∷ [])) j ≡ true → IsInside lo hi j
    both_inside j h = elim (has_app (numbers x) (numbers y) j (subst (λ (l : List ℕ). has l j ≡ true) (two_numbers x y) h)) [
      | inl i ↦ wide_down (p.inside j i)
      | inr i ↦ wide_up (q.inside j i)
    ]
      where
        wide_up : IsInside mid hi j → IsInside lo hi j
        wide_up (a, b) = (omega (arith, a, p.order), b)

        wide_down : IsInside lo mid j → IsInside lo hi j
        wide_down (a, b) = (a, omega (arith, b, q.order))

    both_held : (e : TermEvent) → HoldsOne (NetHolds w) e (x ∷ y ∷ []) → Among e (es ++ fs)
    both_held e h = elim (two_held (NetHolds w) e x y h) [ inl i ↦ among_left es fs e (p.held e i) | inr i ↦ among_right es fs e (q.held e i) ]

    both_lack : (j : ℕ) → ((e : TermEvent) → Among e (es ++ fs) → e.number ≡ j → ⊥) → Each (Lacks (NetLacks w) j) (x ∷ y ∷ [])
    both_lack j f = (p.lacks j (λ e i. f e (among_left es fs e i)), (q.lacks j (λ e i. f e (among_right es fs e i)), tt))

    both_outside : (j : ℕ) → (Among j (ls ++ ks) → ⊥) → Each (IsOutside (NetLacks w) j) (x ∷ y ∷ [])
    both_outside j f = (p.outside j (λ i. f (among_left ls ks j i)), (q.outside j (λ i. f (among_right ls ks j i)), tt))

    both_order : lo ≤ hi
    both_order = let a = p.order in let b = q.order in omega (arith, a, b)

    pub sound_front : (m : Mode) → AreApart r m es fs → Part r lo hi (es ++ fs) (ls ++ ks) (join_all m (x ∷ y ∷ []))
    sound_front m apart = record {
      node = keep.join labels w m (x ∷ y ∷ []) nets (p.node, (q.node, tt));
      bare = bare_join m (x ∷ y ∷ []) (p.bare, (q.bare, tt));
      ranked = join_ranked (NetHolds w) r m x y p.ranked q.ranked (λ e f i j c. comes m apart e f (p.held e i) (q.held f j) c);
      held = λ e h. both_held e (join_held (NetHolds w) e m (x ∷ y ∷ []) h);
      lacks = λ j f. join_has (Lacks (NetLacks w) j) (lacks_by_parts (NetLacks w) j) m (x ∷ y ∷ []) (both_lack j f);
      outside = λ j f. join_has (IsOutside (NetLacks w) j) (outside_by_parts (NetLacks w) j) m (x ∷ y ∷ []) (both_outside j f);
      once = subst (λ (l : List ℕ). AreOnce l) (sym (kept.join m (x ∷ y ∷ []))) both_once;
      inside = λ j h. both_inside j (subst (λ (l : List ℕ). has l j ≡ true) (kept.join m (x ∷ y ∷ [])) h);
      order = both_order;
    }
      where
        comes : (m : Mode) → AreApart r m es fs → (e f : TermEvent) → Among e es → Among f fs → Crosses numbered m e f → r e.number < r f.number
        comes seq a e f i j c = a e f i j c
        comes par a e f i j c = absurd c

    pub sound_two : AreSoundParts labels w r lo hi (es ++ fs) (ls ++ ks) (x ∷ y ∷ [])
    sound_two = record {
      nodes = (p.node, (q.node, tt));
      bare = (p.bare, (q.bare, tt));
      ranked = (p.ranked, (q.ranked, tt));
      held = both_held;
      lacks = both_lack;
      outside = both_outside;
      once = both_once;
      inside = both_inside;
      order = both_order;
    }

  -- ---- alternatives

  pub sound_none : (r : ℕ → ℕ) (n : ℕ) → AreSoundParts labels w r n n [] [] []
  sound_none r n = record {
    nodes = tt;
    bare = tt;
    ranked = tt;
    held = λ e h. elim h [ ];
    lacks = λ j f. tt;
    outside = λ j f. tt;
    once = tt;
    inside = λ j h. absurd cc;
    order = omega arith;
  }

  pub sound_some : (r : ℕ → ℕ) (lo mid hi : ℕ) (es fs : List TermEvent) (ls ks : List ℕ) (x : Tree) (xs : List Tree) → Part r lo mid es ls x → AreSoundParts labels w r mid hi fs ks xs
      → AreSoundParts labels w r lo hi (es ++ fs) (ls ++ ks) (x ∷ xs)
  sound_some r lo mid hi es fs ls ks x xs p q = record {
    nodes = (p.node, q.nodes);
    bare = (p.bare, q.bare);
    ranked = (p.ranked, q.ranked);
    held = λ e h. elim (first_held (NetHolds w) e x xs h) [ inl i ↦ among_left es fs e (p.held e i) | inr i ↦ among_right es fs e (q.held e i) ];
    lacks = λ j f. (p.lacks j (λ e i. f e (among_left es fs e i)), q.lacks j (λ e i. f e (among_right es fs e i)));
    outside = λ j f. (p.outside j (λ i. f (among_left ls ks j i)), q.outside j (λ i. f (among_right ls ks j i)));
    once = once_app (numbers x) (list_numbers xs) p.once q.once (λ j a b. apart j (p.inside j a) (q.inside j b));
    inside = λ j h. elim (has_app (numbers x) (list_numbers xs) j h) [ inl i ↦ wide_down j (p.inside j i) | inr i ↦ wide_up j (q.inside j i) ];
    order = let a = p.order in let b = q.order in omega (arith, a, b);
  }
    where
      apart : (j : ℕ) → IsInside lo mid j → IsInside mid hi j → ⊥
      apart j (a, b) (c, d) = omega (arith, b, c)

      wide_up : (j : ℕ) → IsInside mid hi j → IsInside lo hi j
      wide_up j (a, b) = let o = p.order in (omega (arith, a, o), b)

      wide_down : (j : ℕ) → IsInside lo mid j → IsInside lo hi j
      wide_down j (a, b) = let o = q.order in (a, omega (arith, b, o))

  pub sound_chosen : (r : ℕ → ℕ) (lo hi : ℕ) (es : List TermEvent) (ls : List ℕ) (xs : List Tree) → (xs ≡ [] → ⊥) → AreSoundParts labels w r lo hi es ls xs → Part r lo hi es ls (one_of xs)
  sound_chosen r lo hi es ls [] n h = absurd (n refl)
  sound_chosen r lo hi es ls (x ∷ xs) n h = record {
    node = subst (λ (o : Option Tree). MustHave (IsSoundNode labels w) o) there (keep.choice labels w x xs nets h.nodes);
    bare = bare_choice (x ∷ xs) (one_of (x ∷ xs)) h.bare there;
    ranked = choice_ranked (NetHolds w) r (x ∷ xs) (one_of (x ∷ xs)) h.ranked there;
    held = λ e i. h.held e (choice_held (NetHolds w) e (x ∷ xs) (one_of (x ∷ xs)) there i);
    lacks = λ j f. choice_has (Lacks (NetLacks w) j) (lacks_by_parts (NetLacks w) j) (x ∷ xs) (one_of (x ∷ xs)) (h.lacks j f) there;
    outside = λ j f. choice_has (IsOutside (NetLacks w) j) (outside_by_parts (NetLacks w) j) (x ∷ xs) (one_of (x ∷ xs)) (h.outside j f) there;
    once = kept.once (numbers (one_of (x ∷ xs))) (list_numbers (x ∷ xs)) fewer h.once;
    inside = λ j i. h.inside j (part_has j fewer i);
    order = h.order;
  }
    where
      there : choice_of (x ∷ xs) ≡ Some (one_of (x ∷ xs))
      there = one_there x xs h.bare.0

      fewer : IsPartList (numbers (one_of (x ∷ xs))) (list_numbers (x ∷ xs))
      fewer = kept.choice (x ∷ xs) (one_of (x ∷ xs)) there

  -- ---- a tie, whose pairs rise in rank and name no number in a loop

  pub sound_tied : (r : ℕ → ℕ) (lo hi : ℕ) (es : List TermEvent) (ls : List ℕ) (x : Tree) (q : List (ℕ × ℕ)) → ((m n : ℕ) → pairs q m n ≡ true → r m < r n) → ((j : ℕ) → InPairs j q → Among j ls → ⊥)
      → Part r lo hi es ls x → Part r lo hi es ls (tie_of x q)
  sound_tied r lo hi es ls x q up out p = record {
    node = keep.tied labels w x q nets p.node (p.node.sound.outside, free)
        (by_form.once w x q (tidy_tables labels w nets) (tidy_of labels w x nets p.node.sound) p.node.sound.once p.once free) irreflexive
        (ranked_orders labels w r (Tied x q) nets (p.ranked, λ e f i j k. up e.number f.number k));
    bare = bare_tie x q p.bare;
    ranked = tie_ranked (NetHolds w) r x q p.ranked up;
    held = λ e h. p.held e (tie_held (NetHolds w) e x q h);
    lacks = λ j f. tie_has (Lacks (NetLacks w) j) (lacks_by_parts (NetLacks w) j) x q (p.lacks j f);
    outside = λ j f. tie_has (IsOutside (NetLacks w) j) (outside_by_parts (NetLacks w) j) x q (p.outside j f);
    once = subst (λ (l : List ℕ). AreOnce l) (sym (kept.tied x q)) p.once;
    inside = λ j h. p.inside j (subst (λ (l : List ℕ). has l j ≡ true) (kept.tied x q) h);
    order = p.order;
  }
    where
      free : (j : ℕ) → InPairs j q → IsOutside (NetLacks w) j x
      free j i = p.outside j (out j i)

      irreflexive : (j : ℕ) → pairs q j j ≡ false
      irreflexive j = by (pairs q j j) (up j j)
        where
          by : (b : Bool) → (b ≡ true → r j < r j) → b ≡ false
          by true f = let less = f refl in absurd (omega (arith, less))
          by false f = refl

  -- ---- turns of a part, which rises in ranks of its own; outside its events have one rank

  module _ (r o : ℕ → ℕ) (c lo hi : ℕ) (es : List TermEvent) (ls : List ℕ) (lower : ℕ) (upper : Option ℕ) (x : Tree) (one : (e : TermEvent) → Among e es → r e.number ≡ c) (p : Part o lo hi es ls x) where
    pub sound_turns : Part r lo hi es (numbers_of es) (turns_of lower upper x)
    sound_turns = record {
      node = by (leave_turn lower upper) (is_nil (Some x)) refl refl;
      bare = bare_turns lower upper x p.bare;
      ranked = turns_ranked (NetHolds w) r o c lower upper x (λ e h. one e (p.held e h)) p.ranked;
      held = λ e h. p.held e (turns_held (NetHolds w) e lower upper x h);
      lacks = λ j f. lacks j (p.lacks j f);
      outside = λ j f. outside j (p.lacks j (λ e i q. f (subst (λ (n : ℕ). Among n (numbers_of es)) q (among_number es e i))));
      once = kept.once (numbers (turns_of lower upper x)) (numbers x) fewer p.once;
      inside = λ j h. p.inside j (part_has j fewer h);
      order = p.order;
    }
      where
        by : (b d : Bool) → leave_turn lower upper ≡ b → is_nil (Some x) ≡ d → IsSoundNode labels w (turns_of lower upper x)
        by true false e f = subst (λ (t : Tree). IsSoundNode labels w t) (sym (turns_there lower upper x e f))
            (subst (λ (t : Option Tree). MustHave (IsSoundNode labels w) t) (loop_begins labels w nets x lower upper p.node e f) (keep.loop labels w x lower upper nets p.node (may_turn lower upper e).1))
        by true true e f = subst (λ (t : Tree). IsSoundNode labels w t) (sym (nil_turns lower upper x e f)) (keep.join labels w seq [] nets tt)
        by false d e f = subst (λ (t : Tree). IsSoundNode labels w t) (sym (no_turns lower upper x e)) (keep.join labels w seq [] nets tt)

        lacks : (j : ℕ) → Lacks (NetLacks w) j x → Lacks (NetLacks w) j (turns_of lower upper x)
        lacks j h = each (leave_turn lower upper && not (is_nil (Some x)))
          where
            each : (b : Bool) → Lacks (NetLacks w) j (turns_if b lower upper x)
            each true = (h, tt)
            each false = tt

        outside : (j : ℕ) → Lacks (NetLacks w) j x → IsOutside (NetLacks w) j (turns_of lower upper x)
        outside j h = each (leave_turn lower upper && not (is_nil (Some x)))
          where
            each : (b : Bool) → IsOutside (NetLacks w) j (turns_if b lower upper x)
            each true = (h, tt)
            each false = tt

        fewer : IsPartList (numbers (turns_of lower upper x)) (numbers x)
        fewer = each (leave_turn lower upper && not (is_nil (Some x)))
          where
            all : (a : List ℕ) → IsPartList a a
            all [] = part_none
            all (n ∷ a) = part_keep (all a)

            none_of : (a : List ℕ) → IsPartList [] a
            none_of [] = part_none
            none_of (n ∷ a) = part_drop (none_of a)

            each : (b : Bool) → IsPartList (numbers (turns_if b lower upper x)) (numbers x)
            each true = subst (λ (l : List ℕ). IsPartList l (numbers x)) (sym (app_none (numbers x))) (all (numbers x))
            each false = none_of (numbers x)
