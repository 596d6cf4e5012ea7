-- What holds of a chart's expansion holds of its parts: its numbers stand one behind another, its events have names and places, its ties are
-- of events of what they tie, its walks are through sound graphs, and its events can be ranked.
use Rattle.std.specs.Prelude.{◌+◌, ◌<◌, ℕ, List, ◌++◌, Option, length, map}
use Rattle.std.proofs.Common.{subst, sym}
use Rattle.std.proofs.lemmas.List.{map-append}
use Rattle.msc_base.specs.declared.label.Label.{Label}
use Rattle.msc_base.specs.declared.label.Pair.{Pair}
use Rattle.msc_base.specs.Orders.{Among}
use Rattle.chart_term.specs.Terms.{TermEvent}
use Rattle.term_laws.specs.Placing.{IsPlaced}
use Rattle.expansion_tree.specs.Expansions.{Aside, Exception, Expansion, Expansions, InRow, OneOf, Tied, Turns, no_parts, part_and, all_events_in, events_in, map_all_events, map_events}
use Rattle.expansion_tree.specs.Walks.{EachWalk}
use Rattle.expansion_tree.specs.declared.tree.ExpandedEvent.{ExpandedEvent}
use Rattle.expansion_order.specs.Ranks.{AreRanked, AreRankedInRow, CanBeRanked}
use Rattle.expanded_charts.specs.Expanding.{NumberedEvent}
use Rattle.expansion_terms.specs.MadeTerms.{IsWholeGraph}
use Rattle.expansion_terms.specs.Stored.{AreStored}
use Rattle.expanded_terms.specs.ExpansionNumbers.{CountFrom}
use Rattle.expanded_terms.specs.NamedEvents.{IsNameable}
use Rattle.expanded_terms.specs.PlacedTerms.{places}
use Rattle.expanded_terms.specs.RankedTerms.{EachTie, IsOutsideLoops, IsOwn, all_looped_in, expanded_number, looped_in, numbers_in}
use Rattle.expanded_terms.proofs.RankedChartTerms.{numbered_event}
use Rattle.made_terms.specs.DrawnWalks.{IsDrawnGraph}
use Rattle.made_terms.specs.MadeTerms.{CanBeMade, IsSoundGraph}
use Rattle.made_terms.proofs.WalkNumbers.{all_nums, count_left, count_right, nums}
use Rattle.node_ranks.specs.NodeRanks.{EachPart}
use Rattle.node_ranks.proofs.ListParts.{among_left, among_right}

module _ (names : List (List ℕ)) (labels : List Label) where
  abbrev pub f : NumberedEvent → ExpandedEvent
  f = numbered_event names labels

  abbrev pub at_term : ExpandedEvent → TermEvent
  at_term e = record { number = e.number; at = e.at; also = e.also; label = e.label }

  -- these numbers, and these events by numbers and as they are
  pub record AreEvents (ns : List ℕ) (ds : List ExpandedEvent) (es : List NumberedEvent) : Type 0 where
    pub start : ℕ
    pub counted : CountFrom start ns
    pub labelled : (e : ExpandedEvent) → Among e ds → e.label < length labels
    pub stored : AreStored ds
    pub placed : (e : ExpandedEvent) → Among e ds → IsPlaced (places names labels) (at_term e)
    pub named : (e : NumberedEvent) → Among e es → IsNameable names labels e.happening

  left_events : (a b : List ℕ) (c d : List ExpandedEvent) (e g : List NumberedEvent) → AreEvents (a ++ b) (c ++ d) (e ++ g) → AreEvents a c e
  left_events a b c d e g h = record {
    start = h.start;
    counted = count_left h.start a b h.counted;
    labelled = λ x i. h.labelled x (among_left c d x i);
    stored = λ x i. h.stored x (among_left c d x i);
    placed = λ x i. h.placed x (among_left c d x i);
    named = λ x i. h.named x (among_left e g x i);
  }

  right_events : (a b : List ℕ) (c d : List ExpandedEvent) (e g : List NumberedEvent) → AreEvents (a ++ b) (c ++ d) (e ++ g) → AreEvents b d g
  right_events a b c d e g h = record {
    start = h.start + length a;
    counted = count_right h.start a b h.counted;
    labelled = λ x i. h.labelled x (among_right c d x i);
    stored = λ x i. h.stored x (among_right c d x i);
    placed = λ x i. h.placed x (among_right c d x i);
    named = λ x i. h.named x (among_right e g x i);
  }

  -- ---- a part

  pub record IsGoodPart (x : Expansion NumberedEvent) : Type 0 where
    pub events : AreEvents (nums (map_events f x)) (events_in (map_events f x)) (events_in x)
    pub tied : EachTie IsOwn (map_events f x)
    pub sound : EachWalk (λ m g xs. IsSoundGraph g xs) (map_events f x)
    pub drawn : EachWalk (λ m g xs. IsDrawnGraph g xs) (map_events f x)
    pub whole : EachWalk (λ m g xs. IsWholeGraph g xs) (map_events f x)

  abbrev pub AreGoodParts : Expansions NumberedEvent → Type 0
  AreGoodParts xs = IsGoodPart (InRow xs)

  pub good_made : (x : Expansion NumberedEvent) (h : IsGoodPart x) → CanBeMade (length labels) h.events.start (map_events f x)
  good_made x h = record { counted = h.events.counted; labelled = h.events.labelled; tied = h.tied; graphs = h.sound }

  pub of_aside : (xs : Expansions NumberedEvent) → IsGoodPart (Aside xs) → AreGoodParts xs
  of_aside xs h = record { events = h.events; tied = h.tied; sound = h.sound; drawn = h.drawn; whole = h.whole }

  pub of_one : (xs : Expansions NumberedEvent) → IsGoodPart (OneOf xs) → AreGoodParts xs
  of_one xs h = record { events = h.events; tied = h.tied; sound = h.sound; drawn = h.drawn; whole = h.whole }

  pub of_exception : (x : Expansion NumberedEvent) → IsGoodPart (Exception x) → IsGoodPart x
  of_exception x h = record { events = h.events; tied = h.tied; sound = h.sound; drawn = h.drawn; whole = h.whole }

  pub of_turns : (n lower : ℕ) (upper : Option ℕ) (x : Expansion NumberedEvent) → IsGoodPart (Turns n lower upper x) → IsGoodPart x
  of_turns n lower upper x h = record { events = h.events; tied = h.tied; sound = h.sound; drawn = h.drawn; whole = h.whole }

  pub of_tied : (x : Expansion NumberedEvent) (ps : List Pair) → IsGoodPart (Tied x ps) → IsGoodPart x
  of_tied x ps h = record { events = h.events; tied = h.tied.1; sound = h.sound; drawn = h.drawn; whole = h.whole }

  pub good_first : (x : Expansion NumberedEvent) (xs : Expansions NumberedEvent) → AreGoodParts (part_and x xs) → IsGoodPart x
  good_first x xs h = record {
    events = left_events (nums (map_events f x)) (all_nums (map_all_events f xs)) (events_in (map_events f x)) (all_events_in (map_all_events f xs)) (events_in x) (all_events_in xs) h.events;
    tied = h.tied.0;
    sound = h.sound.0;
    drawn = h.drawn.0;
    whole = h.whole.0;
  }

  pub good_rest : (x : Expansion NumberedEvent) (xs : Expansions NumberedEvent) → AreGoodParts (part_and x xs) → AreGoodParts xs
  good_rest x xs h = record {
    events = right_events (nums (map_events f x)) (all_nums (map_all_events f xs)) (events_in (map_events f x)) (all_events_in (map_all_events f xs)) (events_in x) (all_events_in xs) h.events;
    tied = h.tied.1;
    sound = h.sound.1;
    drawn = h.drawn.1;
    whole = h.whole.1;
  }

  -- ---- parts side by side, or one of which is taken: each by its own ranks

  abbrev pub EachRanked : Expansions NumberedEvent → Type 0
  EachRanked xs = EachPart CanBeRanked (map_all_events f xs)

  pub each_ranked : (rank : ℕ → ℕ) (xs : Expansions NumberedEvent) → AreRanked rank (map_all_events f xs) → EachRanked xs
  each_ranked rank no_parts h = tt
  each_ranked rank (part_and x xs) h = (record { rank = rank; ranked = h.0 }, each_ranked rank xs h.1)

  -- ---- a row, with pairs of its level

  -- where the number is that of one of its events, that stands outside loops
  abbrev pub IsOutside : Expansions NumberedEvent → ℕ → Type 0
  IsOutside xs j = Among j (numbers_in (InRow (map_all_events f xs))) → IsOutsideLoops (InRow (map_all_events f xs)) j

  pub record IsRow (ps : List Pair) (xs : Expansions NumberedEvent) : Type 0 where
    pub good : AreGoodParts xs
    pub rank : ℕ → ℕ
    pub ranked : AreRankedInRow rank (map_all_events f xs)
    pub rises : (p : Pair) → Among p ps → rank p.first < rank p.second
    pub outside : (p : Pair) → Among p ps → IsOutside xs p.first × IsOutside xs p.second

  -- the numbers of a part of a row are among those of the row
  number_left : (c d : List ExpandedEvent) (j : ℕ) → Among j (map expanded_number c) → Among j (map expanded_number (c ++ d))
  number_left c d j i = subst (λ (l : List ℕ). Among j l) (sym (map-append expanded_number c d)) (among_left (map expanded_number c) (map expanded_number d) j i)

  number_right : (c d : List ExpandedEvent) (j : ℕ) → Among j (map expanded_number d) → Among j (map expanded_number (c ++ d))
  number_right c d j i = subst (λ (l : List ℕ). Among j l) (sym (map-append expanded_number c d)) (among_right (map expanded_number c) (map expanded_number d) j i)

  outside_rest : (x : Expansion NumberedEvent) (xs : Expansions NumberedEvent) (j : ℕ) → IsOutside (part_and x xs) j → IsOutside xs j
  outside_rest x xs j h i k = h (number_right (events_in (map_events f x)) (all_events_in (map_all_events f xs)) j i) (among_right (looped_in (map_events f x)) (all_looped_in (map_all_events f xs)) j k)

  pub row_rest : (ps : List Pair) (x : Expansion NumberedEvent) (xs : Expansions NumberedEvent) → IsRow ps (part_and x xs) → IsRow ps xs
  row_rest ps x xs h = record {
    good = good_rest x xs h.good;
    rank = h.rank;
    ranked = h.ranked.2;
    rises = h.rises;
    outside = λ p i. (outside_rest x xs p.first (h.outside p i).0, outside_rest x xs p.second (h.outside p i).1);
  }

  pub first_ranked : (ps : List Pair) (x : Expansion NumberedEvent) (xs : Expansions NumberedEvent) → IsRow ps (part_and x xs) → CanBeRanked (map_events f x)
  first_ranked ps x xs h = record { rank = h.rank; ranked = h.ranked.0 }

  -- the row of a level
  pub level_row : (ps : List Pair) (xs : Expansions NumberedEvent) → IsGoodPart (Tied (InRow xs) ps) → CanBeRanked (map_events f (Tied (InRow xs) ps)) → IsRow ps xs
  level_row ps xs h r = record {
    good = of_tied (InRow xs) ps h;
    rank = r.rank;
    ranked = r.ranked.1;
    rises = r.ranked.0;
    outside = λ p i. let own = h.tied.0 p i in ((λ k. own.0.outside), (λ k. own.1.outside));
  }

  -- and that of what is left of one beside refining charts
  outside_left : (xs zs : Expansions NumberedEvent) (j : ℕ) → IsOwn (Aside (part_and (InRow (map_all_events f xs)) (map_all_events f zs))) j → IsOutside xs j
  outside_left xs zs j own i k = own.outside (among_left (all_looped_in (map_all_events f xs)) (all_looped_in (map_all_events f zs)) j k)

  pub left_row : (ps : List Pair) (xs zs : Expansions NumberedEvent) → IsGoodPart (Tied (Aside (part_and (InRow xs) zs)) ps) → CanBeRanked (map_events f (Tied (Aside (part_and (InRow xs) zs)) ps)) → IsRow ps xs
  left_row ps xs zs h r = record {
    good = good_first (InRow xs) zs (of_aside (part_and (InRow xs) zs) (of_tied (Aside (part_and (InRow xs) zs)) ps h));
    rank = r.rank;
    ranked = r.ranked.1.0;
    rises = r.ranked.0;
    outside = λ p i. let own = h.tied.0 p i in (outside_left xs zs p.first own.0, outside_left xs zs p.second own.1);
  }
