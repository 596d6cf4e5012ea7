-- The term of an expansion whose events are mapped; the ties and numbers of the expansion of a chart.
use Rattle.std.specs.Prelude.{ℕ, ◌<◌, Bool, List, [], ◌∷◌, ◌++◌, length, map}
use Rattle.std.proofs.Common.{◌≡◌, refl, sym, ◌∙◌, subst, ap}
use Rattle.std.proofs.lemmas.List.{map-append}
use Rattle.msc_base.specs.declared.label.Label.{Label}
use Rattle.msc_base.specs.Orders.{Among}
use Rattle.msc_base.specs.Patterns.{par}
use Rattle.chart_term.specs.NormalForms.{join_all, tie_of}
use Rattle.chart_term.specs.Terms.{Tree}
use Rattle.chart_term.specs.Views.{pairs_of}
use Rattle.sound_terms.proofs.Mapped.{map_among}
use Rattle.term_tables.specs.NetValues.{NetsValue}
use Rattle.msc_meaning.specs.Bodies.{WovenItems}
use Rattle.msc_meaning.specs.FarEnds.{no_gates}
use Rattle.msc_meaning.specs.InnerEvents.{GateEnd}
use Rattle.msc_meaning.specs.Tables.{Table}
use Rattle.expansion_tree.specs.Expansions.{Event, InRow, Aside, OneOf, Exception, Turns, Tied, Walk, no_parts, part_and, is_exception, map_events, map_all_events, events_in, all_events_in}
use Rattle.expansion_tree.specs.Expansions as tree
use Rattle.expansion_tree.specs.declared.tree.ExpandedEvent.{ExpandedEvent}
use Rattle.expanded_charts.specs.Expanding.{NumberedEvent, expansion}
use Rattle.expansion_terms.specs.Constructors.{one_of, placed, turns_of}
use Rattle.expansion_terms.specs.ExpansionTerms.{expansion_term, row_term, aside_term, part_terms, event_term, numbered_term}
use Rattle.expanded_terms.specs.ExpansionNumbers.{CountFrom, all_numbers_by, number_of, numbers_by, numbers_of_events}
use Rattle.expanded_terms.specs.NamedEvents.{IsNameable, event_named}
use Rattle.expanded_terms.specs.RankedTerms.{expanded_number, numbers_in, EachTie, EachTies, IsOutsideLoops, IsOwn}
use Rattle.expanded_terms.proofs.ExpansionNumbers.{expansions_are_numbered}
use Rattle.expanded_terms.proofs.NamedEvents.{named_number, named_label}
use Rattle.expanded_terms.proofs.TiesWithin.{IsWithin}

-- ---- other events

module _ (f : NumberedEvent → ExpandedEvent) (walk : ℕ → Tree) where
  abbrev of_event : NumberedEvent → Tree
  of_event e = event_term (f e)

  same_kind : (x : tree.Expansion NumberedEvent) → is_exception (map_events f x) ≡ is_exception x
  same_kind (Event e) = refl
  same_kind (InRow xs) = refl
  same_kind (Aside xs) = refl
  same_kind (OneOf xs) = refl
  same_kind (Exception x) = refl
  same_kind (Turns n lower upper x) = refl
  same_kind (Tied x ps) = refl
  same_kind (Walk n g xs) = refl

  mutual
    pub mapped_term : (x : tree.Expansion NumberedEvent) → numbered_term walk (map_events f x) ≡ expansion_term of_event walk x
    mapped_term (Event e) = refl
    mapped_term (InRow xs) = mapped_row xs
    mapped_term (Aside xs) = mapped_aside xs
    mapped_term (OneOf xs) = ap one_of (mapped_parts xs)
    mapped_term (Exception x) = mapped_term x
    mapped_term (Turns n lower upper x) = ap (turns_of lower upper) (mapped_term x)
    mapped_term (Tied x ps) = ap (λ (y : Tree). tie_of y (pairs_of ps)) (mapped_term x)
    mapped_term (Walk n g xs) = refl

    mapped_row : (xs : tree.Expansions NumberedEvent) → row_term event_term walk (map_all_events f xs) ≡ row_term of_event walk xs
    mapped_row no_parts = refl
    mapped_row (part_and x xs) =
        ap (λ (b : Bool). placed b (numbered_term walk (map_events f x)) (row_term event_term walk (map_all_events f xs))) (same_kind x)
        ∙ ap (λ (y : Tree). placed (is_exception x) y (row_term event_term walk (map_all_events f xs))) (mapped_term x)
        ∙ ap (λ (z : Tree). placed (is_exception x) (expansion_term of_event walk x) z) (mapped_row xs)

    mapped_aside : (xs : tree.Expansions NumberedEvent) → aside_term event_term walk (map_all_events f xs) ≡ aside_term of_event walk xs
    mapped_aside no_parts = refl
    mapped_aside (part_and x xs) =
        ap (λ (y : Tree). join_all par (y ∷ aside_term event_term walk (map_all_events f xs) ∷ [])) (mapped_term x)
        ∙ ap (λ (z : Tree). join_all par (expansion_term of_event walk x ∷ z ∷ [])) (mapped_aside xs)

    pub mapped_parts : (xs : tree.Expansions NumberedEvent) → part_terms event_term walk (map_all_events f xs) ≡ part_terms of_event walk xs
    mapped_parts no_parts = refl
    mapped_parts (part_and x xs) =
        ap (λ (y : Tree). y ∷ part_terms event_term walk (map_all_events f xs)) (mapped_term x)
        ∙ ap (λ (l : List Tree). expansion_term of_event walk x ∷ l) (mapped_parts xs)

module _ (f : NumberedEvent → ExpandedEvent) where
  mutual
    pub mapped_events : (x : tree.Expansion NumberedEvent) → events_in (map_events f x) ≡ map f (events_in x)
    mapped_events (Event e) = refl
    mapped_events (InRow xs) = mapped_all_events xs
    mapped_events (Aside xs) = mapped_all_events xs
    mapped_events (OneOf xs) = mapped_all_events xs
    mapped_events (Exception x) = mapped_events x
    mapped_events (Turns n lower upper x) = mapped_events x
    mapped_events (Tied x ps) = mapped_events x
    mapped_events (Walk n g xs) = mapped_all_events xs

    mapped_all_events : (xs : tree.Expansions NumberedEvent) → all_events_in (map_all_events f xs) ≡ map f (all_events_in xs)
    mapped_all_events no_parts = refl
    mapped_all_events (part_and x xs) =
        ap (λ (l : List ExpandedEvent). l ++ all_events_in (map_all_events f xs)) (mapped_events x)
        ∙ ap (λ (l : List ExpandedEvent). map f (events_in x) ++ l) (mapped_all_events xs)
        ∙ sym (map-append f (events_in x) (all_events_in xs))

  module _ (keeps : (e : NumberedEvent) → (f e).number ≡ e.number) where
    kept_numbers : (es : List NumberedEvent) → map expanded_number (map f es) ≡ map number_of es
    kept_numbers [] = refl
    kept_numbers (e ∷ es) = ap (λ (n : ℕ). n ∷ map expanded_number (map f es)) (keeps e) ∙ ap (λ (l : List ℕ). e.number ∷ l) (kept_numbers es)

    pub mapped_numbers : (x : tree.Expansion NumberedEvent) → numbers_in (map_events f x) ≡ numbers_of_events x
    mapped_numbers x = ap (map expanded_number) (mapped_events x) ∙ kept_numbers (events_in x)

    pub mapped_all_numbers : (xs : tree.Expansions NumberedEvent) → map expanded_number (all_events_in (map_all_events f xs)) ≡ map number_of (all_events_in xs)
    mapped_all_numbers xs = ap (map expanded_number) (mapped_all_events xs) ∙ kept_numbers (all_events_in xs)

    -- with those of walks
    mutual
      pub mapped_counted : (x : tree.Expansion NumberedEvent) → numbers_by expanded_number (map_events f x) ≡ numbers_by number_of x
      mapped_counted (Event e) = ap (λ (n : ℕ). n ∷ []) (keeps e)
      mapped_counted (InRow xs) = all_mapped_counted xs
      mapped_counted (Aside xs) = all_mapped_counted xs
      mapped_counted (OneOf xs) = all_mapped_counted xs
      mapped_counted (Exception x) = mapped_counted x
      mapped_counted (Turns n lower upper x) = mapped_counted x
      mapped_counted (Tied x ps) = mapped_counted x
      mapped_counted (Walk n g xs) = ap (λ (l : List ℕ). n ∷ l) (all_mapped_counted xs)

      all_mapped_counted : (xs : tree.Expansions NumberedEvent) → all_numbers_by expanded_number (map_all_events f xs) ≡ all_numbers_by number_of xs
      all_mapped_counted no_parts = refl
      all_mapped_counted (part_and x xs) = ap (λ (l : List ℕ). l ++ all_numbers_by expanded_number (map_all_events f xs)) (mapped_counted x) ∙ ap (λ (l : List ℕ). numbers_by number_of x ++ l) (all_mapped_counted xs)

    mutual
      pub own_ties : (x : tree.Expansion NumberedEvent) → EachTie IsWithin x → EachTie IsOutsideLoops (map_events f x) → EachTie IsOwn (map_events f x)
      own_ties (Event e) h k = tt
      own_ties (InRow xs) h k = all_own_ties xs h k
      own_ties (Aside xs) h k = all_own_ties xs h k
      own_ties (OneOf xs) h k = all_own_ties xs h k
      own_ties (Exception x) h k = own_ties x h k
      own_ties (Turns n lower upper x) h k = own_ties x h k
      own_ties (Walk n g xs) h k = all_own_ties xs h k
      own_ties (Tied x ps) (h, i) (k, l) = ((λ p j. (own p.first (h p j).0 (k p j).0, own p.second (h p j).1 (k p j).1)), own_ties x i l)
        where
          own : (j : ℕ) → IsWithin x j → IsOutsideLoops (map_events f x) j → IsOwn (map_events f x) j
          own j a b = record { among = subst (λ (l : List ℕ). Among j l) (sym (mapped_numbers x)) a; outside = b }

      all_own_ties : (xs : tree.Expansions NumberedEvent) → EachTies IsWithin xs → EachTies IsOutsideLoops (map_all_events f xs) → EachTies IsOwn (map_all_events f xs)
      all_own_ties no_parts h k = tt
      all_own_ties (part_and x xs) (h, i) (k, l) = (own_ties x h k, all_own_ties xs i l)

-- ---- charts

module _ (names : List (List ℕ)) (labels : List Label) where
  -- the event with the numbers of its instances and its label
  abbrev pub numbered_event : NumberedEvent → ExpandedEvent
  numbered_event e = let d = event_named names labels e.number e.happening in record { number = d.number; at = d.at; also = d.also; label = d.label }

  abbrev pub numbered_expansion : Table → (WovenItems → List GateEnd) → ℕ → List ℕ → tree.Expansion ExpandedEvent
  numbered_expansion table ends_of depth name = map_events numbered_event (expansion ends_of table depth name)

module _ (v : NetsValue) (names : List (List ℕ)) (table : Table) (ends_of : WovenItems → List GateEnd) (depth : ℕ) (name : List ℕ) where
  keeps_number : (e : NumberedEvent) → (numbered_event names v.labels e).number ≡ e.number
  keeps_number e = named_number names v.labels e.number e.happening

  pub chart_counted : CountFrom 0 (numbers_by expanded_number (numbered_expansion names v.labels table ends_of depth name))
  chart_counted = subst (λ (l : List ℕ). CountFrom 0 l) (sym (mapped_counted (numbered_event names v.labels) keeps_number (expansion ends_of table depth name))) (expansions_are_numbered.counted ends_of table depth name no_gates 0)

  pub chart_labelled : ((e : NumberedEvent) → Among e (events_in (expansion ends_of table depth name)) → IsNameable names v.labels e.happening)
      → (d : ExpandedEvent) → Among d (events_in (numbered_expansion names v.labels table ends_of depth name)) → d.label < length v.labels
  chart_labelled f d h = at (map_among (numbered_event names v.labels) (events_in (expansion ends_of table depth name)) (subst (λ (es : List ExpandedEvent). Among d es) (mapped_events (numbered_event names v.labels) (expansion ends_of table depth name)) h))
    where
      at : (e : NumberedEvent) × (numbered_event names v.labels e ≡ d) × Among e (events_in (expansion ends_of table depth name)) → d.label < length v.labels
      at (e, q, i) = subst (λ (r : ExpandedEvent). r.label < length v.labels) q (named_label names v.labels e.number e.happening (f e i))
