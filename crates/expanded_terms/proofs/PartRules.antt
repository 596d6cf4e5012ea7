-- The rules of parts: two of them joined or one chosen, alternatives, turns, a part whose tags change, and a part below a tie.
use Rattle.std.specs.Prelude.{ℕ, ◌≤◌, ◌<◌, ◌≢◌, false, Bool, List, [], ◌∷◌, ◌++◌, Option, Some}
use Rattle.std.proofs.Common.{◌≡◌, refl, sym, ◌∙◌, subst, ap, inl, inr, arith}
use Rattle.msc_base.specs.declared.label.Label.{Label}
use Rattle.msc_base.specs.Orders.{Once}
use Rattle.msc_base.specs.Patterns.{Mode, join, empty}
use Rattle.msc_unfolding.specs.Unfoldings.{Tag, Tie, Unfolding}
use Rattle.msc_meaning.specs.Ties.{passing}
use Rattle.chart_term.specs.NormalForms.{join_all, tie_of}
use Rattle.chart_term.specs.Properties.{Each}
use Rattle.chart_term.specs.Tables.{Tables, terms_over}
use Rattle.chart_term.specs.TermMeanings.{NetTerms, HasPattern, has_nil, HasParts, no_part, one_part, HasChoice, PatternsOf, UpTo}
use Rattle.chart_term.specs.TermPatterns.{Shape, Occurs, Both, back, right, ◌≈◌}
use Rattle.chart_term.specs.Terms.{Tree, Nil, Loop, ends, gap}
use Rattle.term_laws.specs.ConstructorLaws.{HaveSame, NormalFormsKeepPatterns}
use Rattle.term_laws.specs.Soundness.{AreTidyTables, Lacks, NetLacks}
use Rattle.sound_terms.specs.Intervals.{IsInside, IsBeyond}
use Rattle.term_tables.specs.NetValues.{NetsValue}
use Rattle.term_meaning.specs.Naming.{IsSeen}
use Rattle.term_meaning.specs.Portions.{Shown, tags_in, past_shown, IsPortion}
use Rattle.term_meaning.specs.UnfoldingSets.{Nothing, OnlyEmpty, AreJoined, AreTied, Either, AreSomeOften}
use Rattle.term_meaning.proofs.MeaningRules.{mean_nil}
use Rattle.term_meaning.proofs.PortionRules.{portion_nil, portion_same, portion_sets, portion_part, portion_choice, portion_no_choice, portion_tie, portion_pass, portion_turns, portion_join_all, portion_choice_of, portion_bound_of}
use Rattle.expanded_terms.specs.ExpandedTerms.{one_of, turns_of}
use Rattle.expanded_terms.specs.Parts.{IsInNoNet, IsPartFor, IsShown, AreAlternatives}
use Rattle.expanded_terms.specs.TagNumbers.{tied_numbers}
use Rattle.expanded_terms.proofs.Bare.{bare_choice, bare_join, bare_tie, one_there}
use Rattle.expanded_terms.proofs.KeptParts.{IsByParts, choice_has, join_has, lacks_by_parts, tie_has}
use Rattle.expanded_terms.proofs.NetNumbers.{each_alone, every_by_parts, every_turns, nets_alone, pairs_shown, shown_below, shown_either, shown_inside}
use Rattle.expanded_terms.proofs.LoopTurns.{bare_turns, crossed_nil, turns_same}
use Rattle.expanded_terms.proofs.TagTies.{numbers_tie}

one_alone : (w : NetTerms) (o : Bool) (m : Mode) (x : Tree) → HaveSame (HasParts w o m (x ∷ [])) (HasPattern w o x)
one_alone w o m x = record { to = λ s h. to s h; from = λ s h. (join m s empty, one_part h no_part, back right) }
  where
    to : (s : Shape) → HasParts w o m (x ∷ []) s → (t : Shape) × HasPattern w o x t × (s ≈ t)
    to _ (one_part {s = s} h no_part) = (s, h, right)

shown_nil : (sh : Shown) → sh ++ [] ≡ sh
shown_nil [] = refl
shown_nil (s ∷ sh) = ap (λ l. s ∷ l) (shown_nil sh)

module _ (labels : List Label) (names : List (List ℕ)) where
  abbrev Portion : ℕ → ℕ → Shown → (Shape → Type 0) → (Unfolding → Type 0) → Type 0
  Portion lo hi sh P U = IsPortion labels names lo hi sh P U

  -- nothing happens, in any interval, whatever tags are shown of it
  portion_void : (o : Bool) (w : NetTerms) (lo hi : ℕ) (sh : Shown) → lo ≤ hi → ((n : ℕ) → IsBeyond lo hi n → tags_in sh n ≡ []) → Portion lo hi sh (HasPattern w o Nil) OnlyEmpty
  portion_void o w lo hi sh l b = record { mean = mean_nil (IsSeen labels names (tags_in sh)) w o; within = within; bare = b; order = l }
    where
      within : (s : Shape) → HasPattern w o Nil s → (n : ℕ) → Occurs n s → IsInside lo hi n
      within _ has_nil n h = absurd h

  module _ (keep : NormalFormsKeepPatterns) (o : Bool) (w : Tables) where
    -- a part in front of others, which have the higher numbers
    portion_front : Once names → (m : Mode) (a b c : ℕ) (sh ti : Shown) (x y : Tree) (A B : Unfolding → Type 0)
        → Portion a b sh (HasPattern (terms_over w) o x) A → Portion b c ti (HasPattern (terms_over w) o y) B
        → Portion a c (sh ++ ti) (HasPattern (terms_over w) o (join_all m (x ∷ y ∷ []))) (AreJoined m A B)
    portion_front once m a b c sh ti x y A B p q =
        portion_join_all labels names keep o w a c (sh ++ ti) (AreJoined m A B) m (x ∷ y ∷ [])
        (portion_part labels names (terms_over w) o a b b c a c sh ti (inl (omega arith)) (omega arith) p.order q.order (omega arith) once m x (y ∷ []) A B p
        (portion_same labels names b c ti (HasParts (terms_over w) o m (y ∷ [])) (HasPattern (terms_over w) o y) B (one_alone (terms_over w) o m y) q))

    -- one alternative more in front of others
    portion_before : (a b c : ℕ) (sh ti : Shown) (x : Tree) (xs : List Tree) (A B : Unfolding → Type 0)
        → Portion a b sh (HasPattern (terms_over w) o x) A → Portion b c ti (HasChoice (terms_over w) o xs) B
        → Portion a c (sh ++ ti) (HasChoice (terms_over w) o (x ∷ xs)) (Either A B)
    portion_before a b c sh ti x xs A B p q = portion_choice labels names (terms_over w) o a b b c a c sh ti (inl (omega arith)) (omega arith) p.order q.order (omega arith) x xs A B p q

    portion_lone : (a b : ℕ) (sh : Shown) (x : Tree) (A : Unfolding → Type 0) → Portion a b sh (HasPattern (terms_over w) o x) A → Portion a b sh (HasChoice (terms_over w) o (x ∷ [])) A
    portion_lone a b sh x A p =
        portion_sets labels names a b sh (HasChoice (terms_over w) o (x ∷ [])) (Either A Nothing) A (λ u. record { to = λ h. elim h [ inl k ↦ k | inr k ↦ absurd k ]; from = λ h. inl h })
        (subst (λ ti. Portion a b ti (HasChoice (terms_over w) o (x ∷ [])) (Either A Nothing)) (shown_nil sh) (portion_before a b b sh [] x [] A Nothing p (portion_no_choice labels names (terms_over w) o b)))

    -- a part below a tie of the numbers that its pairs of tags come to
    portion_below : AreTidyTables w → (lo hi : ℕ) (sh : Shown) (x : Tree) (t : Tie) (A : Unfolding → Type 0) → ((j : ℕ) → IsShown sh j → IsInNoNet w j x)
        → Portion lo hi sh (HasPattern (terms_over w) o x) A → Portion lo hi (past_shown t.past sh) (HasPattern (terms_over w) o (tie_of x (tied_numbers sh t.pairs))) (AreTied A t)
    portion_below tidy lo hi sh x t A free p =
        portion_bound_of labels names keep o w lo hi (past_shown t.past sh) (AreTied A t) x (tied_numbers sh t.pairs) tidy (λ j i. free j (pairs_shown sh t.pairs j i))
        (portion_tie labels names (terms_over w) o lo hi sh x (tied_numbers sh t.pairs) t A (λ m n i j. numbers_tie t.pairs sh m n) p)

-- ---- the rules

module _ (keep : NormalFormsKeepPatterns) (v : NetsValue) (m : List (List ℕ)) (once : Once m) (tidy : AreTidyTables v.tables) where
  abbrev Part : ℕ → ℕ → Shown → Tree → (Unfolding → Type 0) → Type 0
  Part lo hi sh x U = IsPartFor v m lo hi sh x U

  abbrev NL : ℕ → ℕ → Type 0
  NL = NetLacks v.tables

  abbrev NoNet : ℕ → Tree → Type 0
  NoNet j x = IsInNoNet v.tables j x

  nets_by_parts : (j : ℕ) → IsByParts (NoNet j)
  nets_by_parts j = every_by_parts (λ e. Unit {0}) (NL j)

  below_mid : (lo mid hi j : ℕ) → mid ≤ hi → IsBeyond lo hi j → IsBeyond lo mid j
  below_mid lo mid hi j o (inl h) = inl h
  below_mid lo mid hi j o (inr h) = inr (omega (arith, o, h))

  above_mid : (lo mid hi j : ℕ) → lo ≤ mid → IsBeyond lo hi j → IsBeyond mid hi j
  above_mid lo mid hi j o (inl h) = inl (omega (arith, o, h))
  above_mid lo mid hi j o (inr h) = inr h

  -- what is beyond both parts
  two_beyond : (lo mid hi : ℕ) (sh : Shown) (x y : Tree) (A : Unfolding → Type 0) (j : ℕ) → lo ≤ mid → Part lo mid sh x A → (IsBeyond mid hi j → Lacks NL j y) → mid ≤ hi → IsBeyond lo hi j → Each (Lacks NL j) (x ∷ y ∷ [])
  two_beyond lo mid hi sh x y A j a p f b h = (p.beyond j (below_mid lo mid hi j b h), (f (above_mid lo mid hi j a h), tt))

  -- what is shown of one is beyond the other
  two_hidden : (lo mid hi : ℕ) (sh ti : Shown) (x y : Tree) (A B : Unfolding → Type 0) → Part lo mid sh x A → Part mid hi ti y B → (j : ℕ) → IsShown (sh ++ ti) j → Each (NoNet j) (x ∷ y ∷ [])
  two_hidden lo mid hi sh ti x y A B p q j i = elim (shown_either sh ti j i) [
    | inl k ↦ (p.hidden j k, (nets_alone (λ e. e.number ≢ j) (NL j) y (q.beyond j (inl (shown_inside lo mid sh (p.portion false).bare j k).1)), tt))
    | inr k ↦ (nets_alone (λ e. e.number ≢ j) (NL j) x (p.beyond j (inr (shown_inside mid hi ti (q.portion false).bare j k).0)), (q.hidden j k, tt))
  ]

  pub part_nothing : (n : ℕ) → Part n n [] Nil OnlyEmpty
  part_nothing n = record { bare = tt; beyond = λ j b. tt; hidden = λ j s. tt; portion = λ o. portion_nil v.labels m (terms_over v.tables) o n }

  -- the same unfoldings
  pub part_sets : (lo hi : ℕ) (sh : Shown) (x : Tree) (A C : Unfolding → Type 0) → ((u : Unfolding) → Both (A u) (C u)) → Part lo hi sh x A → Part lo hi sh x C
  part_sets lo hi sh x A C sets p = record { bare = p.bare; beyond = p.beyond; hidden = p.hidden; portion = λ o. portion_sets v.labels m lo hi sh (HasPattern (terms_over v.tables) o x) A C sets (p.portion o) }

  -- the end of the interval written otherwise
  pub part_until : (lo hi hi2 : ℕ) (sh : Shown) (x : Tree) (A : Unfolding → Type 0) → hi ≡ hi2 → Part lo hi sh x A → Part lo hi2 sh x A
  part_until lo hi hi2 sh x A e p = subst (λ i. Part lo i sh x A) e p

  -- a part in front of the rest, which has the higher numbers
  pub part_front : (k : Mode) (lo mid hi : ℕ) (sh ti : Shown) (x y : Tree) (A B C : Unfolding → Type 0) → ((u : Unfolding) → Both (AreJoined k A B u) (C u))
      → Part lo mid sh x A → Part mid hi ti y B → Part lo hi (sh ++ ti) (join_all k (x ∷ y ∷ [])) C
  part_front k lo mid hi sh ti x y A B C sets p q = record {
    bare = bare_join k (x ∷ y ∷ []) (p.bare, (q.bare, tt));
    beyond = λ j b. join_has (Lacks NL j) (lacks_by_parts NL j) k (x ∷ y ∷ []) (two_beyond lo mid hi sh x y A j (p.portion false).order p (q.beyond j) (q.portion false).order b);
    hidden = λ j i. join_has (NoNet j) (nets_by_parts j) k (x ∷ y ∷ []) (two_hidden lo mid hi sh ti x y A B p q j i);
    portion = λ o.
        portion_sets v.labels m lo hi (sh ++ ti) (HasPattern (terms_over v.tables) o (join_all k (x ∷ y ∷ []))) (AreJoined k A B) C sets
        (portion_front v.labels m keep o v.tables once k lo mid hi sh ti x y A B (p.portion o) (q.portion o));
  }

  -- alternatives
  pub none_alternative : (n : ℕ) (C : Unfolding → Type 0) → ((u : Unfolding) → C u → ⊥) → AreAlternatives v m n n [] [] C
  none_alternative n C none_of = record {
    bare = tt;
    beyond = λ j b. tt;
    hidden = λ j i. tt;
    portion = λ o. portion_sets v.labels m n n [] (HasChoice (terms_over v.tables) o []) Nothing C (λ u. record { to = λ h. absurd h; from = λ h. none_of u h }) (portion_no_choice v.labels m (terms_over v.tables) o n);
  }

  -- one more, in front of the others
  pub more_alternatives : (lo mid hi : ℕ) (sh ti : Shown) (x : Tree) (xs : List Tree) (A B C : Unfolding → Type 0) → ((u : Unfolding) → Both (Either A B u) (C u))
      → Part lo mid sh x A → AreAlternatives v m mid hi ti xs B → AreAlternatives v m lo hi (sh ++ ti) (x ∷ xs) C
  more_alternatives lo mid hi sh ti x xs A B C sets p q = record {
    bare = (p.bare, q.bare);
    beyond = λ j b. (p.beyond j (below_mid lo mid hi j (q.portion false).order b), q.beyond j (above_mid lo mid hi j (p.portion false).order b));
    hidden = λ j i. elim (shown_either sh ti j i) [
      | inl k ↦ (p.hidden j k, each_alone (λ e. e.number ≢ j) (NL j) xs (q.beyond j (inl (shown_inside lo mid sh (p.portion false).bare j k).1)))
      | inr k ↦ (nets_alone (λ e. e.number ≢ j) (NL j) x (p.beyond j (inr (shown_inside mid hi ti (q.portion false).bare j k).0)), q.hidden j k)
    ];
    portion = λ o.
        portion_sets v.labels m lo hi (sh ++ ti) (HasChoice (terms_over v.tables) o (x ∷ xs)) (Either A B) C sets
        (portion_before v.labels m keep o v.tables lo mid hi sh ti x xs A B (p.portion o) (q.portion o));
  }

  pub until_alternatives : (lo hi hi2 : ℕ) (sh : Shown) (xs : List Tree) (A : Unfolding → Type 0) → hi ≡ hi2 → AreAlternatives v m lo hi sh xs A → AreAlternatives v m lo hi2 sh xs A
  until_alternatives lo hi hi2 sh xs A e p = subst (λ i. AreAlternatives v m lo i sh xs A) e p

  pub part_chosen : (lo hi : ℕ) (sh : Shown) (xs : List Tree) (A : Unfolding → Type 0) → (xs ≡ [] → ⊥) → AreAlternatives v m lo hi sh xs A → Part lo hi sh (one_of xs) A
  part_chosen lo hi sh [] A n h = absurd (n refl)
  part_chosen lo hi sh (x ∷ xs) A n h = record {
    bare = bare_choice (x ∷ xs) (one_of (x ∷ xs)) h.bare (one_there x xs h.bare.0);
    beyond = λ j b. choice_has (Lacks NL j) (lacks_by_parts NL j) (x ∷ xs) (one_of (x ∷ xs)) (h.beyond j b) (one_there x xs h.bare.0);
    hidden = λ j i. choice_has (NoNet j) (nets_by_parts j) (x ∷ xs) (one_of (x ∷ xs)) (h.hidden j i) (one_there x xs h.bare.0);
    portion = λ o.
        subst (λ (r : Option Tree). IsPortion v.labels m lo hi sh (PatternsOf (terms_over v.tables) o r) A) (one_there x xs h.bare.0)
        (portion_choice_of v.labels m keep o v.tables lo hi sh A (x ∷ xs) (h.portion o));
  }

  -- a part in place of the rest
  pub part_instead : (lo mid hi : ℕ) (sh ti : Shown) (x y : Tree) (A B C : Unfolding → Type 0) → ((u : Unfolding) → Both (Either A B u) (C u))
      → Part lo mid sh x A → Part mid hi ti y B → Part lo hi (sh ++ ti) (one_of (x ∷ y ∷ [])) C
  part_instead lo mid hi sh ti x y A B C sets p q = part_chosen lo hi (sh ++ ti) (x ∷ y ∷ []) C (λ e. absurd cc) (record {
    bare = (p.bare, (q.bare, tt));
    beyond = λ j b. two_beyond lo mid hi sh x y A j (p.portion false).order p (q.beyond j) (q.portion false).order b;
    hidden = λ j i. two_hidden lo mid hi sh ti x y A B p q j i;
    portion = λ o.
        portion_sets v.labels m lo hi (sh ++ ti) (HasChoice (terms_over v.tables) o (x ∷ y ∷ [])) (Either A B) C sets
        (portion_before v.labels m keep o v.tables lo mid hi sh ti x (y ∷ []) A B (p.portion o) (portion_lone v.labels m keep o v.tables mid hi ti y B (q.portion o)));
  })

  -- a part, or nothing
  pub part_option : (lo hi : ℕ) (sh : Shown) (x : Tree) (A C : Unfolding → Type 0) → ((u : Unfolding) → Both (Either A OnlyEmpty u) (C u)) → Part lo hi sh x A → Part lo hi sh (one_of (x ∷ Nil ∷ [])) C
  part_option lo hi sh x A C sets p = subst (λ ti. Part lo hi ti (one_of (x ∷ Nil ∷ [])) C) (shown_nil sh) (part_instead lo hi hi sh [] x Nil A OnlyEmpty C sets p (part_nothing hi))

  -- only tags change
  pub part_passed : (lo hi : ℕ) (sh : Shown) (x : Tree) (f : Tag → List Tag) (A : Unfolding → Type 0) → Part lo hi sh x A → Part lo hi (past_shown f sh) x (AreTied A (passing f))
  part_passed lo hi sh x f A p = record {
    bare = p.bare;
    beyond = p.beyond;
    hidden = λ j i. p.hidden j (shown_below f sh j i);
    portion = λ o. portion_pass v.labels m lo hi sh (HasPattern (terms_over v.tables) o x) (passing f) A refl (p.portion o);
  }

  -- below a tie: the pairs of tags as pairs of numbers
  pub part_below : (lo hi : ℕ) (sh : Shown) (x : Tree) (t : Tie) (A : Unfolding → Type 0) → Part lo hi sh x A → Part lo hi (past_shown t.past sh) (tie_of x (tied_numbers sh t.pairs)) (AreTied A t)
  part_below lo hi sh x t A p = record {
    bare = bare_tie x (tied_numbers sh t.pairs) p.bare;
    beyond = λ j b. tie_has (Lacks NL j) (lacks_by_parts NL j) x (tied_numbers sh t.pairs) (p.beyond j b);
    hidden = λ j i. tie_has (NoNet j) (nets_by_parts j) x (tied_numbers sh t.pairs) (p.hidden j (shown_below t.past sh j i));
    portion = λ o. portion_below v.labels m keep o v.tables tidy lo hi sh x t A p.hidden (p.portion o);
  }

  -- so many turns
  pub part_turns : (lo hi : ℕ) (sh : Shown) (x : Tree) (lower : ℕ) (upper : Option ℕ) (A : Unfolding → Type 0) → UpTo upper lower → Part lo hi sh x A → Part lo hi sh (turns_of lower upper x) (AreSomeOften A lower upper)
  part_turns lo hi sh x lower upper A l p = record {
    bare = bare_turns lower upper x p.bare;
    beyond = λ j b. every_turns (λ e. e.number ≢ j) (NL j) lower upper x (p.beyond j b);
    hidden = λ j i. every_turns (λ e. Unit {0}) (NL j) lower upper x (p.hidden j i);
    portion = λ o.
        portion_same v.labels m lo hi sh (HasPattern (terms_over v.tables) o (turns_of lower upper x)) (HasPattern (terms_over v.tables) o (Loop x lower upper (gap [] ends))) (AreSomeOften A lower upper)
        (turns_same (terms_over v.tables) o lower upper x l)
        (portion_turns v.labels m (terms_over v.tables) o once lo hi sh x lower upper A (p.portion o));
  }

  -- none, where the bounds leave none
  pub part_crossed : (lo hi : ℕ) (sh : Shown) (x : Tree) (lower : ℕ) (upper : Option ℕ) (most : ℕ) (A : Unfolding → Type 0) → upper ≡ Some most → most < lower → Part lo hi sh x A
      → Part lo hi sh (turns_of lower upper x) OnlyEmpty
  part_crossed lo hi sh x lower upper most A e l p = subst (λ (y : Tree). Part lo hi sh y OnlyEmpty) (sym (ap (λ (k : Option ℕ). turns_of lower k x) e ∙ crossed_nil lower most x l)) (record {
    bare = tt;
    beyond = λ j b. tt;
    hidden = λ j i. tt;
    portion = λ o. let q = p.portion o in portion_void v.labels m o (terms_over v.tables) lo hi sh q.order q.bare;
  })
