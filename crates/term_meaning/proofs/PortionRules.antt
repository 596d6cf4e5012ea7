-- The rules of portions: one for each construct of a chart.
use Rattle.std.specs.Prelude.{ℕ, suc, ◌≤◌, ◌==◌, Bool, false, List, [], ◌∷◌, ◌++◌, Option, ◌≡◌, ◌⊎◌}
use Rattle.std.proofs.Common.{ap, sym, ◌∙◌, refl, arith, inl, inr}
use Rattle.hmsc_graph.specs.Graphs.{Spot, Start, At, Goal}
use Rattle.msc_base.specs.declared.label.Label.{Label}
use Rattle.msc_base.specs.Orders.{Once}
use Rattle.msc_base.specs.Patterns.{Mode}
use Rattle.msc_unfolding.specs.Unfoldings.{Tag, Happening, Tie, Unfolding, joins, past_all}
use Rattle.chart_term.specs.NormalForms.{join_all, choice_of, tie_of}
use Rattle.chart_term.specs.Properties.{Every}
use Rattle.chart_term.specs.Tables.{Tables, NetEntry, terms_over}
use Rattle.chart_term.specs.TermMeanings.{NetTerms, HasPattern, has_nil, has_event, holds_tie, holds_loop, holds_walk, HasParts, no_part, one_part, HasChoice, this_one, that_one, HasRow, gaps_end, gaps_shut, gaps_more, HasWalk, walk_stop, walk_last, walk_step, PatternsOf, UpTo}
use Rattle.chart_term.specs.TermPatterns.{Shape, Occurs, pairs, InPairs, Both, ◌≈◌, same, back, on, in_join, in_bind, assoc, left, right, bind_none, bind_as}
use Rattle.chart_term.specs.Terms.{TermEvent, Tree, Nil, Event, Tied, Loop, Walk, Gap, gap, ends}
use Rattle.term_laws.specs.ConstructorLaws.{HaveSame, NormalFormsKeepPatterns}
use Rattle.term_laws.specs.FullSoundness.{fresh_loop, fresh_walk}
use Rattle.term_laws.specs.LaterTables.{LaterTablesAgree}
use Rattle.term_laws.specs.Soundness.{AreTidyTables, IsTidyOver, NetLacks, IsKnown}
use Rattle.term_meaning.specs.Growing.{KeepsPlaces}
use Rattle.term_meaning.specs.Meanings.{Mean}
use Rattle.term_meaning.specs.Naming.{IsNamed, IsSeen}
use Rattle.sound_terms.specs.Intervals.{IsInside, IsBeyond}
use Rattle.term_meaning.specs.Portions.{Shown, tags_in, shown_at, past_shown, IsPortion}
use Rattle.term_meaning.specs.UnfoldingSets.{Nothing, OnlyEmpty, OnlyEvent, AreJoined, AreTied, Either, AreSomeOften, AreOnWalk}
use Rattle.term_meaning.proofs.MeaningRules.{mean_same, mean_sets, mean_nil, mean_event, mean_no_part, mean_part, mean_no_choice, mean_choice, mean_turns, mean_trail, mean_pass, mean_as, mean_later}
use Rattle.term_meaning.proofs.Named.{seen_meet}
use Rattle.term_meaning.proofs.SeenRules.{mean_seen_tie, mean_named, mean_seen_later}
use Rattle.term_meaning.proofs.ShownTags.{app_nil, tags_app, tags_at, tags_else, tags_past, other_number, no_joins}

-- same patterns have the same numbers
pub occurs_same : {x y : Shape} (n : ℕ) → x ≈ y → Both (Occurs n x) (Occurs n y)
occurs_same n same = record { to = λ h. h; from = λ h. h }
occurs_same n (back p) = let r = occurs_same n p in record { to = r.from; from = r.to }
occurs_same n (on p q) = let r = occurs_same n p in let s = occurs_same n q in record { to = λ h. s.to (r.to h); from = λ h. r.from (s.from h) }
occurs_same n (in_join p q) = both (occurs_same n p) (occurs_same n q)
  where
    both : {A B C D : Type 0} → Both A B → Both C D → Both (A ⊎ C) (B ⊎ D)
    both f g = record { to = λ h. elim h [ inl a ↦ inl (f.to a) | inr c ↦ inr (g.to c) ]; from = λ h. elim h [ inl b ↦ inl (f.from b) | inr d ↦ inr (g.from d) ] }
occurs_same n (in_bind p) = let r = occurs_same n p in record { to = r.to; from = r.from }
occurs_same n assoc = record { to = λ h. elim h [ inl (inl a) ↦ inl a | inl (inr b) ↦ inr (inl b) | inr c ↦ inr (inr c) ]; from = λ h. elim h [ inl a ↦ inl (inl a) | inr (inl b) ↦ inl (inr b) | inr (inr c) ↦ inr c ] }
occurs_same n left = record { to = λ h. elim h [ inl a ↦ absurd a | inr b ↦ b ]; from = λ h. inr h }
occurs_same n right = record { to = λ h. elim h [ inl a ↦ a | inr b ↦ absurd b ]; from = λ h. inl h }
occurs_same n bind_none = record { to = λ h. h; from = λ h. h }
occurs_same n (bind_as a) = record { to = λ h. h; from = λ h. h }

module _ (labels : List Label) (names : List (List ℕ)) where
  abbrev Portion : ℕ → ℕ → Shown → (Shape → Type 0) → (Unfolding → Type 0) → Type 0
  Portion lo hi sh P U = IsPortion labels names lo hi sh P U

  -- tags that are the same for the numbers of the patterns
  pub mean_retagged : (P : Shape → Type 0) (U : Unfolding → Type 0) (tags other : ℕ → List Tag) → ((s : Shape) → P s → (n : ℕ) → Occurs n s → tags n ≡ other n)
      → Mean (IsSeen labels names tags) P U → Mean (IsSeen labels names other) P U
  mean_retagged P U tags other e m = mean_as (IsSeen labels names tags) (IsSeen labels names other) P U (λ s p f h o k. record { named = k.named; tags_are = k.tags_are ∙ e s p f.number o }) m

  -- other sets of patterns that are the same
  pub portion_same : (lo hi : ℕ) (sh : Shown) (P Q : Shape → Type 0) (U : Unfolding → Type 0) → HaveSame P Q → Portion lo hi sh Q U → Portion lo hi sh P U
  portion_same lo hi sh P Q U h x = record {
    mean = mean_same (IsSeen labels names (tags_in sh)) P Q U h x.mean;
    within = λ s p n o. let (t, q, e) = h.to s p in x.within t q n ((occurs_same n e).to o);
    bare = x.bare;
    order = x.order;
  }

  pub portion_sets : (lo hi : ℕ) (sh : Shown) (P : Shape → Type 0) (U V : Unfolding → Type 0) → ((u : Unfolding) → Both (U u) (V u)) → Portion lo hi sh P U → Portion lo hi sh P V
  portion_sets lo hi sh P U V h x = record { mean = mean_sets (IsSeen labels names (tags_in sh)) P U V h x.mean; within = x.within; bare = x.bare; order = x.order }

  -- a wider interval
  pub portion_wide : (a b lo hi : ℕ) (sh : Shown) (P : Shape → Type 0) (U : Unfolding → Type 0) → lo ≤ a → b ≤ hi → Portion a b sh P U → Portion lo hi sh P U
  portion_wide a b lo hi sh P U l k x = record {
    mean = x.mean;
    within = λ s p n o. inside n (x.within s p n o);
    bare = λ n o. x.bare n (outside n o);
    order = omega (arith, l, k, x.order);
  }
    where
      inside : (n : ℕ) → IsInside a b n → IsInside lo hi n
      inside n (i, j) = (omega (arith, l, i), omega (arith, k, j))

      outside : (n : ℕ) → IsBeyond lo hi n → IsBeyond a b n
      outside n (inl i) = inl (omega (arith, l, i))
      outside n (inr i) = inr (omega (arith, k, i))

  module _ (w : NetTerms) (o : Bool) where
    pub portion_nil : (n : ℕ) → Portion n n [] (HasPattern w o Nil) OnlyEmpty
    portion_nil n = record { mean = mean_nil (IsSeen labels names (tags_in [])) w o; within = within; bare = λ m h. refl; order = omega arith }
      where
        within : (s : Shape) → HasPattern w o Nil s → (m : ℕ) → Occurs m s → IsInside n n m
        within _ has_nil m h = absurd h

    pub portion_no_part : (m : Mode) (n : ℕ) → Portion n n [] (HasParts w o m []) OnlyEmpty
    portion_no_part m n = record { mean = mean_no_part (IsSeen labels names (tags_in [])) w o m; within = within; bare = λ k h. refl; order = omega arith }
      where
        within : (s : Shape) → HasParts w o m [] s → (k : ℕ) → Occurs k s → IsInside n n k
        within _ no_part k h = absurd h

    pub portion_no_choice : (n : ℕ) → Portion n n [] (HasChoice w o []) Nothing
    portion_no_choice n = record { mean = mean_no_choice (IsSeen labels names (tags_in [])) w o; within = within; bare = λ k h. refl; order = omega arith }
      where
        within : (s : Shape) → HasChoice w o [] s → (k : ℕ) → Occurs k s → IsInside n n k
        within s h k i = elim h [ ]

    pub portion_event : (e : TermEvent) (h : Happening) → IsNamed labels names e h → Portion e.number (suc e.number) (shown_at e.number h.tags) (HasPattern w o (Event e)) (OnlyEvent h)
    portion_event e h k = record {
      mean = mean_event (IsSeen labels names (tags_in (shown_at e.number h.tags))) w o e h (record { named = k; tags_are = sym (tags_at e.number h.tags) });
      within = within;
      bare = λ n i. tags_else n e.number h.tags (apart n i);
      order = omega arith;
    }
      where
        within : (s : Shape) → HasPattern w o (Event e) s → (n : ℕ) → Occurs n s → IsInside e.number (suc e.number) n
        within _ has_event n i = (omega (arith, i), omega (arith, i))

        apart : (n : ℕ) → IsBeyond e.number (suc e.number) n → (n == e.number) ≡ false
        apart n (inl i) = other_number n e.number (inl i)
        apart n (inr i) = other_number n e.number (inr (omega (arith, i)))

    -- two portions over intervals that are apart, in either order
    module _ (a b c d lo hi : ℕ) (sh ti : Shown) (apart : (b ≤ c) ⊎ (d ≤ a)) (la : lo ≤ a) (lc : lo ≤ c) (hb : b ≤ hi) (hd : d ≤ hi) where
      beyond_second : (n : ℕ) → IsInside a b n → IsBeyond c d n
      beyond_second n (i, j) = elim apart [ inl k ↦ inl (omega (arith, j, k)) | inr k ↦ inr (omega (arith, i, k)) ]

      beyond_first : (n : ℕ) → IsInside c d n → IsBeyond a b n
      beyond_first n (i, j) = elim apart [ inl k ↦ inr (omega (arith, i, k)) | inr k ↦ inl (omega (arith, j, k)) ]

      beyond_one : (n : ℕ) → IsBeyond lo hi n → IsBeyond a b n
      beyond_one n (inl i) = inl (omega (arith, i, la))
      beyond_one n (inr i) = inr (omega (arith, i, hb))

      beyond_two : (n : ℕ) → IsBeyond lo hi n → IsBeyond c d n
      beyond_two n (inl i) = inl (omega (arith, i, lc))
      beyond_two n (inr i) = inr (omega (arith, i, hd))

      inside_one : (n : ℕ) → IsInside a b n → IsInside lo hi n
      inside_one n (i, j) = (omega (arith, i, la), omega (arith, j, hb))

      inside_two : (n : ℕ) → IsInside c d n → IsInside lo hi n
      inside_two n (i, j) = (omega (arith, i, lc), omega (arith, j, hd))

      first_tags : (P : Shape → Type 0) (U Q : Unfolding → Type 0) → Portion a b sh P U → ((n : ℕ) → IsBeyond c d n → tags_in ti n ≡ []) → Mean (IsSeen labels names (tags_in (sh ++ ti))) P U
      first_tags P U Q x bare = mean_retagged P U (tags_in sh) (tags_in (sh ++ ti)) (λ s p n i. sym (tags_app sh ti n ∙ (ap (λ k. tags_in sh n ++ k) (bare n (beyond_second n (x.within s p n i))) ∙ app_nil (tags_in sh n)))) x.mean

      second_tags : (P : Shape → Type 0) (U Q : Unfolding → Type 0) → Portion c d ti P U → ((n : ℕ) → IsBeyond a b n → tags_in sh n ≡ []) → Mean (IsSeen labels names (tags_in (sh ++ ti))) P U
      second_tags P U Q x bare = mean_retagged P U (tags_in ti) (tags_in (sh ++ ti)) (λ s p n i. sym (tags_app sh ti n ∙ ap (λ k. k ++ tags_in ti n) (bare n (beyond_first n (x.within s p n i))))) x.mean

      bare_both : ((n : ℕ) → IsBeyond a b n → tags_in sh n ≡ []) → ((n : ℕ) → IsBeyond c d n → tags_in ti n ≡ []) → (n : ℕ) → IsBeyond lo hi n → tags_in (sh ++ ti) n ≡ []
      bare_both f g n h = tags_app sh ti n ∙ (ap (λ k. k ++ tags_in ti n) (f n (beyond_one n h)) ∙ g n (beyond_two n h))

      pub portion_part : Once names → (m : Mode) (x : Tree) (xs : List Tree) (A B : Unfolding → Type 0) → Portion a b sh (HasPattern w o x) A → Portion c d ti (HasParts w o m xs) B → Portion lo hi (sh ++ ti) (HasParts w o m (x ∷ xs)) (AreJoined m A B)
      portion_part once m x xs A B p q = record {
        mean = mean_part (IsSeen labels names (tags_in (sh ++ ti))) w o (seen_meet labels names once (tags_in (sh ++ ti))) m x xs A B (first_tags (HasPattern w o x) A B p q.bare) (second_tags (HasParts w o m xs) B A q p.bare);
        within = within;
        bare = bare_both p.bare q.bare;
        order = omega (arith, la, hb, p.order);
      }
        where
          within : (s : Shape) → HasParts w o m (x ∷ xs) s → (n : ℕ) → Occurs n s → IsInside lo hi n
          within _ (one_part {s = s} {t = t} h k) n (inl i) = inside_one n (p.within s h n i)
          within _ (one_part {s = s} {t = t} h k) n (inr i) = inside_two n (q.within t k n i)

      pub portion_choice : (x : Tree) (xs : List Tree) (A B : Unfolding → Type 0) → Portion a b sh (HasPattern w o x) A → Portion c d ti (HasChoice w o xs) B → Portion lo hi (sh ++ ti) (HasChoice w o (x ∷ xs)) (Either A B)
      portion_choice x xs A B p q = record {
        mean = mean_choice (IsSeen labels names (tags_in (sh ++ ti))) w o x xs A B (first_tags (HasPattern w o x) A B p q.bare) (second_tags (HasChoice w o xs) B A q p.bare);
        within = within;
        bare = bare_both p.bare q.bare;
        order = omega (arith, la, hb, p.order);
      }
        where
          within : (s : Shape) → HasChoice w o (x ∷ xs) s → (n : ℕ) → Occurs n s → IsInside lo hi n
          within s (this_one h) n i = inside_one n (p.within s h n i)
          within s (that_one h) n i = inside_two n (q.within s h n i)

    -- a tie, with pairs of numbers that say what its pairs of tags say
    pub portion_tie : (lo hi : ℕ) (sh : Shown) (x : Tree) (q : List (ℕ × ℕ)) (t : Tie) (A : Unfolding → Type 0)
        → ((m n : ℕ) → IsInside lo hi m → IsInside lo hi n → pairs q m n ≡ joins t.pairs (tags_in sh m) (tags_in sh n))
        → Portion lo hi sh (HasPattern w o x) A → Portion lo hi (past_shown t.past sh) (HasPattern w o (Tied x q)) (AreTied A t)
    portion_tie lo hi sh x q t A says p = record {
      mean = mean_seen_tie labels names w o x q t A (tags_in sh) (tags_in (past_shown t.past sh)) (IsInside lo hi) p.within says (λ n i. sym (tags_past t.past sh n)) p.mean;
      within = within;
      bare = λ n i. tags_past t.past sh n ∙ ap (past_all t.past) (p.bare n i);
      order = p.order;
    }
      where
        within : (s : Shape) → HasPattern w o (Tied x q) s → (n : ℕ) → Occurs n s → IsInside lo hi n
        within _ (holds_tie {s = s} h) n i = p.within s h n i

    -- turns: in each its events, and their tags, are the same
    pub portion_turns : Once names → (lo hi : ℕ) (sh : Shown) (x : Tree) (least : ℕ) (most : Option ℕ) (A : Unfolding → Type 0) → Portion lo hi sh (HasPattern w o x) A
        → Portion lo hi sh (HasPattern w o (Loop x least most (gap [] ends))) (AreSomeOften A least most)
    portion_turns once lo hi sh x least most A p = record {
      mean = mean_turns (IsSeen labels names (tags_in sh)) w o (seen_meet labels names once (tags_in sh)) x least most A p.mean;
      within = within;
      bare = p.bare;
      order = p.order;
    }
      where
        over : (n : ℕ) (s : Shape) → HasRow w o x [] n s → (m : ℕ) → Occurs m s → IsInside lo hi m
        over _ _ gaps_end m i = absurd i

        inner : (n : ℕ) (s : Shape) → HasRow w o x (Gap [] ∷ []) n s → (m : ℕ) → Occurs m s → IsInside lo hi m
        inner n s (gaps_shut h) m i = over n s h m i
        inner _ _ (gaps_more {n = n} {s = s} {u = t} h v k) m (inl i) = p.within s h m i
        inner _ _ (gaps_more {n = n} {s = s} {u = t} h v k) m (inr i) = inner n t k m i

        within : (s : Shape) → HasPattern w o (Loop x least most (gap [] ends)) s → (m : ℕ) → Occurs m s → IsInside lo hi m
        within s (holds_loop n h l k) m i = inner n s h m i

    -- a walk through a net of which nothing is shown: the numbers of its nodes lie in one interval
    pub portion_trail : Once names → (lo hi n : ℕ) → lo ≤ hi → (A : ℕ → Unfolding → Type 0) → ((m : ℕ) → Portion lo hi [] (HasPattern w o (w.node n m)) (A m)) → (f : Spot) (t : Goal)
        → Portion lo hi [] (HasPattern w o (Walk n f t [])) (AreOnWalk (w.net n) o A f t)
    portion_trail once lo hi n l A p f t = record {
      mean = mean_trail (IsSeen labels names (tags_in [])) w o (seen_meet labels names once (tags_in [])) n A (λ m. (p m).mean) f t;
      within = within;
      bare = λ m i. refl;
      order = l;
    }
      where
        inner : (f : Spot) (t : Goal) (s : Shape) → HasWalk w o n f t [] s → (m : ℕ) → Occurs m s → IsInside lo hi m
        inner f t _ (walk_stop h) m i = absurd i
        inner f t _ (walk_last k j h) m i = absurd i
        inner f t _ (walk_step k {s = s} {u = v} j h av r) m (inl i) = (p k).within s h m i
        inner f t _ (walk_step k {s = s} {u = v} j h av r) m (inr i) = inner (At k) t v r m i

        within : (s : Shape) → HasPattern w o (Walk n f t []) s → (m : ℕ) → Occurs m s → IsInside lo hi m
        within s (holds_walk h) m i = inner f t s h m i

  -- a tie without pairs leaves the patterns, and changes what is shown
  pub portion_pass : (lo hi : ℕ) (sh : Shown) (P : Shape → Type 0) (t : Tie) (A : Unfolding → Type 0) → t.pairs ≡ [] → Portion lo hi sh P A → Portion lo hi (past_shown t.past sh) P (AreTied A t)
  portion_pass lo hi sh P t A e p = record {
    mean = mean_pass (IsSeen labels names (tags_in sh)) (IsSeen labels names (tags_in (past_shown t.past sh))) P t A
        (λ f h k. record {
          named = record { label = k.named.label; there = λ i j. let r = k.named.there i j in record { name = r.name; is = r.is; among = r.among }; back = k.named.back };
          tags_are = ap (past_all t.past) k.tags_are ∙ sym (tags_past t.past sh f.number);
        })
        (λ g h. ap (λ q. joins q g.tags h.tags) e ∙ no_joins g.tags h.tags) p.mean;
    within = p.within;
    bare = λ n i. tags_past t.past sh n ∙ ap (past_all t.past) (p.bare n i);
    order = p.order;
  }

  -- the outermost level: tags don't count
  pub portion_means : (lo hi : ℕ) (sh : Shown) (P : Shape → Type 0) (U : Unfolding → Type 0) → Portion lo hi sh P U → Mean (IsNamed labels names) P U
  portion_means lo hi sh P U x = mean_named labels names P U (tags_in sh) x.mean

  -- the normalising constructors
  module _ (keep : NormalFormsKeepPatterns) (o : Bool) (w : Tables) (lo hi : ℕ) (sh : Shown) (A : Unfolding → Type 0) where
    pub portion_join_all : (m : Mode) (xs : List Tree) → Portion lo hi sh (HasParts (terms_over w) o m xs) A → Portion lo hi sh (HasPattern (terms_over w) o (join_all m xs)) A
    portion_join_all m xs x = portion_same lo hi sh (HasPattern (terms_over w) o (join_all m xs)) (HasParts (terms_over w) o m xs) A (keep.join o w m xs) x

    pub portion_choice_of : (xs : List Tree) → Portion lo hi sh (HasChoice (terms_over w) o xs) A → Portion lo hi sh (PatternsOf (terms_over w) o (choice_of xs)) A
    portion_choice_of xs x = portion_same lo hi sh (PatternsOf (terms_over w) o (choice_of xs)) (HasChoice (terms_over w) o xs) A (keep.choice o w xs) x

    pub portion_bound_of : (x : Tree) (q : List (ℕ × ℕ)) → AreTidyTables w → ((j : ℕ) → InPairs j q → Every (λ e. Unit {0}) (NetLacks w j) x)
        → Portion lo hi sh (HasPattern (terms_over w) o (Tied x q)) A → Portion lo hi sh (HasPattern (terms_over w) o (tie_of x q)) A
    portion_bound_of x q h l p = portion_same lo hi sh (HasPattern (terms_over w) o (tie_of x q)) (HasPattern (terms_over w) o (Tied x q)) A (keep.tied o w x q h l) p

    pub portion_fresh_loop : (x : Tree) (least : ℕ) (most : Option ℕ) → AreTidyTables w → IsTidyOver w x → UpTo most least
        → Portion lo hi sh (HasPattern (terms_over w) o (Loop x least most (gap [] ends))) A → Portion lo hi sh (PatternsOf (terms_over w) o (fresh_loop w x least most)) A
    portion_fresh_loop x least most h t l p = portion_same lo hi sh (PatternsOf (terms_over w) o (fresh_loop w x least most)) (HasPattern (terms_over w) o (Loop x least most (gap [] ends))) A (keep.turns o w x least most (Gap [] ∷ []) h t (tt, tt) l) p

    pub portion_fresh_walk : (n : ℕ) (t : Goal) → AreTidyTables w → IsKnown w n
        → Portion lo hi sh (HasPattern (terms_over w) o (Walk n Start t [])) A → Portion lo hi sh (PatternsOf (terms_over w) o (fresh_walk w n t)) A
    portion_fresh_walk n t h l p = portion_same lo hi sh (PatternsOf (terms_over w) o (fresh_walk w n t)) (HasPattern (terms_over w) o (Walk n Start t [])) A (keep.trail o w n Start t [] h l) p

-- tables with one more net
pub portion_later : LaterTablesAgree → (labels : List Label) (names : List (List ℕ)) (lo hi : ℕ) (sh : Shown) (o : Bool) (w : Tables) (e : NetEntry) (x : Tree) (A : Unfolding → Type 0) → AreTidyTables w → IsTidyOver w x
    → IsPortion labels names lo hi sh (HasPattern (terms_over w) o x) A → IsPortion labels names lo hi sh (HasPattern (terms_over (e ∷ w)) o x) A
portion_later agree labels names lo hi sh o w e x A h t p = record {
  mean = mean_later agree (IsSeen labels names (tags_in sh)) o w e x A h t p.mean;
  within = λ s k n i. p.within s ((agree.patterns o w e x s h t).from k) n i;
  bare = p.bare;
  order = p.order;
}

-- labels and names that grow
pub portion_named_later : (labels many : List Label) (names others : List (List ℕ)) → KeepsPlaces labels many → KeepsPlaces names others → (lo hi : ℕ) (sh : Shown) (P : Shape → Type 0) (U : Unfolding → Type 0)
    → IsPortion labels names lo hi sh P U → IsPortion many others lo hi sh P U
portion_named_later labels many names others l n lo hi sh P U p = record { mean = mean_seen_later labels many names others (tags_in sh) l n P U p.mean; within = p.within; bare = p.bare; order = p.order }
