-- Events in a row below a tie mean their one unfolding, and are sound in full where the pairs rise.
use Rattle.std.specs.Prelude.{ℕ, suc, ◌==◌, ◌&&◌, ◌||◌, Bool, false, List, [], ◌∷◌, ◌≡◌, map}
use Rattle.std.proofs.Common.{ap, sym, ◌∙◌, refl, subst}
use Rattle.msc_base.specs.declared.label.Label.{Label}
use Rattle.msc_base.specs.Orders.{Once}
use Rattle.msc_base.specs.Patterns.{Mode, seq, one, join, bind}
use Rattle.msc_unfolding.specs.Unfoldings.{Tag, Own, Tie, Unfolding, is_pair, joins, level_tie}
use Rattle.term_tables.specs.NetValues.{NetsValue}
use Rattle.chart_term.specs.NormalForms.{join_all, join_of, flat, tie_of}
use Rattle.chart_term.specs.Properties.{Each, Every, EveryOf}
use Rattle.chart_term.specs.Tables.{Tables, terms_over}
use Rattle.chart_term.specs.TermMeanings.{NetTerms, HasPattern, HasParts}
use Rattle.chart_term.specs.TermPatterns.{pairs, Both}
use Rattle.chart_term.specs.Terms.{TermEvent, Tree, Event, Tied, trees}
use Rattle.term_laws.specs.ConstructorLaws.{NormalFormsKeepPatterns}
use Rattle.term_laws.specs.FullSoundness.{AreSoundNets, ConstructorsKeepSoundness, FullSoundnessIsKept}
use Rattle.sound_terms.specs.RisingRows.{AreNumberedFrom, RisingRowsAreSound}
use Rattle.std.proofs.lemmas.Option.{slice_get_within}
use Rattle.chart_term.specs.Terms.{Nil}
use Rattle.std.specs.Prelude.{length}
use Rattle.list_facts.proofs.Bools.{or_false}
use Rattle.term_laws.specs.Soundness.{AreTidyTables, NetLacks}
use Rattle.sound_terms.proofs.RisingRows.{flat_events}
use Rattle.term_meaning.specs.Meanings.{Mean, MeansUnfoldings}
use Rattle.term_meaning.specs.Naming.{IsNamed, IsSeen}
use Rattle.term_meaning.specs.TiedRows.{happening_of, in_a_row, own_pairs, IsEventOf, AreEventsOf, TiedRowsMean}
use Rattle.term_meaning.specs.UnfoldingSets.{OnlyEvent, AreJoined, joined, AreTied, tied}
use Rattle.term_meaning.proofs.MeaningRules.{mean_sets, mean_event, mean_no_part, mean_part, mean_join_all, mean_bound_of}
use Rattle.term_meaning.proofs.Named.{seen_meet}
use Rattle.term_meaning.proofs.SeenRules.{named_alone, mean_seen_tie, mean_named}

-- sets of one
joined_only : (m : Mode) (a b u : Unfolding) → Both (AreJoined m (λ x. x ≡ a) (λ x. x ≡ b) u) (u ≡ join m a b)
joined_only m a b u = record { to = λ h. to u h; from = λ e. subst (AreJoined m (λ x. x ≡ a) (λ x. x ≡ b)) (sym e) (joined refl refl) }
  where
    to : (u : Unfolding) → AreJoined m (λ x. x ≡ a) (λ x. x ≡ b) u → u ≡ join m a b
    to _ (joined {a = x} {b = y} p q) = ap (λ z. join m z y) p ∙ ap (λ z. join m a z) q

tied_only : (t : Tie) (a u : Unfolding) → Both (AreTied (λ x. x ≡ a) t u) (u ≡ bind a t)
tied_only t a u = record { to = λ h. to u h; from = λ e. subst (AreTied (λ x. x ≡ a) t) (sym e) (tied refl) }
  where
    to : (u : Unfolding) → AreTied (λ x. x ≡ a) t u → u ≡ bind a t
    to _ (tied p) = ap (λ z. bind z t) p

-- the tags of an event are its own number
abbrev pub own : ℕ → List Tag
own n = Own n ∷ []

own_joins : (q : List (ℕ × ℕ)) (m n : ℕ) → pairs q m n ≡ joins (own_pairs q) (own m) (own n)
own_joins q m n = is q ∙ sym (or_false (is_pair (own_pairs q) (Own m) (Own n) || false) ∙ or_false (is_pair (own_pairs q) (Own m) (Own n)))
  where
    is : (q : List (ℕ × ℕ)) → pairs q m n ≡ is_pair (own_pairs q) (Own m) (Own n)
    is [] = refl
    is (p ∷ q) = ap (λ b. ((m == p.0) && (n == p.1)) || b) (is q)

module _ (E : TermEvent → Type 0) (N : ℕ → Type 0) where
  every_trees : (xs : List Tree) → Each (Every E N) xs → EveryOf E N (trees xs)
  every_trees [] h = tt
  every_trees (x ∷ xs) (h, k) = (h, every_trees xs k)

  every_join : (m : Mode) (xs : List Tree) → Each (Every E N) xs → Every E N (join_of m xs)
  every_join m [] h = tt
  every_join m (x ∷ []) h = h.0
  every_join m (x ∷ y ∷ xs) h = every_trees (x ∷ y ∷ xs) h

  every_events : (es : List TermEvent) → ((e : TermEvent) → E e) → Each (Every E N) (map Event es)
  every_events [] h = tt
  every_events (e ∷ es) h = (h e, every_events es h)

no_nets : (w : Tables) (j : ℕ) (es : List TermEvent) → Every (λ e. Unit {0}) (NetLacks w j) (join_all seq (map Event es))
no_nets w j es = every_join (λ e. Unit {0}) (NetLacks w j) seq (flat seq (map Event es)) (subst (λ (xs : List Tree). Each (Every (λ e. Unit {0}) (NetLacks w j)) xs) (sym (flat_events es)) (every_events (λ e. Unit {0}) (NetLacks w j) es (λ e. tt)))

module _ (table : List Label) (names : List (List ℕ)) (once : Once names) (w : NetTerms) (o : Bool) where
  seen_event : (n : ℕ) (l : Label) (e : TermEvent) → IsEventOf table names n l e → IsSeen table names own e (happening_of n l)
  seen_event n l e h = record { named = named_alone table names e (happening_of n l) h.label h.at h.alone refl; tags_are = ap own (sym h.number) }

  pub woven_mean : (n : ℕ) (ls : List Label) (es : List TermEvent) → AreEventsOf table names n ls es → Mean (IsSeen table names own) (HasParts w o seq (map Event es)) (λ u. u ≡ in_a_row n ls)
  woven_mean n [] [] h = mean_no_part (IsSeen table names own) w o seq
  woven_mean n [] (e ∷ es) h = absurd h
  woven_mean n (l ∷ ls) [] h = absurd h
  woven_mean n (l ∷ ls) (e ∷ es) (h, k) =
      mean_sets (IsSeen table names own) (HasParts w o seq (map Event (e ∷ es))) (AreJoined seq (OnlyEvent (happening_of n l)) (λ u. u ≡ in_a_row (suc n) ls)) (λ u. u ≡ in_a_row n (l ∷ ls))
      (joined_only seq (one (happening_of n l)) (in_a_row (suc n) ls))
      (mean_part (IsSeen table names own) w o (seen_meet table names once own) seq (Event e) (map Event es) (OnlyEvent (happening_of n l)) (λ u. u ≡ in_a_row (suc n) ls)
      (mean_event (IsSeen table names own) w o e (happening_of n l) (seen_event n l e h)) (woven_mean (suc n) ls es k))

-- events in a row, tied by these pairs, mean the one unfolding with these pairs
pub tied_means : NormalFormsKeepPatterns → (v : NetsValue) (names : List (List ℕ)) (ls : List Label) (es : List TermEvent) (q : List (ℕ × ℕ)) (o : Bool) → Once names → AreTidyTables v.tables → AreEventsOf v.labels names 0 ls es
    → MeansUnfoldings v names o (tie_of (join_all seq (map Event es)) q) (λ u. u ≡ bind (in_a_row 0 ls) (level_tie (own_pairs q)))
tied_means keep v names ls es q o once tidy h =
    mean_bound_of keep (IsNamed v.labels names) o v.tables row_term q (λ u. u ≡ bind (in_a_row 0 ls) tie) tidy (λ j i. no_nets v.tables j es)
    (mean_sets (IsNamed v.labels names) (HasPattern (terms_over v.tables) o (Tied row_term q)) (AreTied (λ u. u ≡ in_a_row 0 ls) tie) (λ u. u ≡ bind (in_a_row 0 ls) tie) (tied_only tie (in_a_row 0 ls))
    (mean_named v.labels names (HasPattern (terms_over v.tables) o (Tied row_term q)) (AreTied (λ u. u ≡ in_a_row 0 ls) tie) (λ n. [])
    (mean_seen_tie v.labels names (terms_over v.tables) o row_term q tie (λ u. u ≡ in_a_row 0 ls) own (λ n. []) (λ n. Unit {0}) (λ s p n i. tt) (λ m n i j. own_joins q m n) (λ n i. refl)
    (mean_join_all keep (IsSeen v.labels names own) o v.tables seq (map Event es) (λ u. u ≡ in_a_row 0 ls) (woven_mean v.labels names once (terms_over v.tables) o 0 ls es h)))))
  where
    row_term : Tree
    row_term = join_all seq (map Event es)

    tie : Tie
    tie = level_tie (own_pairs q)

-- sound nets are tidy: the empty join is sound over them
pub tidy_nets : ConstructorsKeepSoundness → FullSoundnessIsKept → (labels : ℕ) (w : Tables) → AreSoundNets labels w → AreTidyTables w
tidy_nets keep suffices labels w h = (suffices.suffices labels w Nil (record { nets = h; term = (keep.join labels w seq [] h tt).sound })).tables.tidy

are_numbered : (table : List Label) (names : List (List ℕ)) (n : ℕ) (ls : List Label) (es : List TermEvent) → AreEventsOf table names n ls es → AreNumberedFrom (length table) n es
are_numbered table names n [] [] h = tt
are_numbered table names n [] (e ∷ es) h = absurd h
are_numbered table names n (l ∷ ls) [] h = absurd h
are_numbered table names n (l ∷ ls) (e ∷ es) (h, k) = (h.number, slice_get_within table e.label l h.label, are_numbered table names (suc n) ls es k)

pub tied_rows_mean : NormalFormsKeepPatterns → ConstructorsKeepSoundness → FullSoundnessIsKept → RisingRowsAreSound → TiedRowsMean
tied_rows_mean same keep suffices rising = record {
  means = λ v names labels es q o h. tied_means same v names labels es q o h.names_once (tidy_nets keep suffices (length v.labels) v.tables h.nets) h.events;
  sound = λ v names labels es q h up. record { nets = h.nets; term = (rising.sound (length v.labels) 0 v.tables es q h.nets (are_numbered v.labels names 0 labels es h.events) up).sound };
}
