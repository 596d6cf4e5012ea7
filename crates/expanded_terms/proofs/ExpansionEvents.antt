-- The events of an expansion as events of its term, and their numbers.
use Rattle.std.specs.Prelude.{ℕ, List, [], ◌∷◌, ◌++◌, map}
use Rattle.std.proofs.Common.{◌≡◌, ◌⊎◌, refl, sym, ◌∙◌, ap, inl, inr}
use Rattle.std.proofs.lemmas.List.{map-append}
use Rattle.msc_base.specs.Orders.{Among, first, later}
use Rattle.chart_term.specs.Terms.{TermEvent}
use Rattle.sound_terms.proofs.Mapped.{among_map}
use Rattle.sound_terms.proofs.Ordering.{among_left, among_right}
use Rattle.expansion_tree.specs.Expansions.{Event, InRow, Aside, OneOf, Exception, Turns, Tied, Walk, no_parts, part_and, events_in, all_events_in}
use Rattle.expansion_tree.specs.Numbered.{Expansion, Expansions}
use Rattle.expansion_tree.specs.declared.tree.ExpandedEvent.{ExpandedEvent}
use Rattle.expanded_terms.specs.ExpansionNumbers.{numbers_by, all_numbers_by}
use Rattle.expanded_terms.specs.RankedTerms.{expanded_number, numbers_in}
use Rattle.expanded_terms.specs.SoundParts.{numbers_of}

abbrev pub named : ExpandedEvent → TermEvent
named e = record { number = e.number; at = e.at; also = e.also; label = e.label }

abbrev mutual
  pub term_events : Expansion → List TermEvent
  term_events (Event e) = named e ∷ []
  term_events (InRow xs) = all_term_events xs
  term_events (Aside xs) = all_term_events xs
  term_events (OneOf xs) = all_term_events xs
  term_events (Exception x) = term_events x
  term_events (Turns n lower upper x) = term_events x
  term_events (Tied x ps) = term_events x
  term_events (Walk n g xs) = all_term_events xs

  pub all_term_events : Expansions → List TermEvent
  all_term_events no_parts = []
  all_term_events (part_and x xs) = term_events x ++ all_term_events xs

-- the numbers of events and walks
abbrev pub nums : Expansion → List ℕ
nums x = numbers_by expanded_number x

abbrev pub all_nums : Expansions → List ℕ
all_nums xs = all_numbers_by expanded_number xs

mutual
  pub same_events : (x : Expansion) → map named (events_in x) ≡ term_events x
  same_events (Event e) = refl
  same_events (InRow xs) = same_all_events xs
  same_events (Aside xs) = same_all_events xs
  same_events (OneOf xs) = same_all_events xs
  same_events (Exception x) = same_events x
  same_events (Turns n lower upper x) = same_events x
  same_events (Tied x ps) = same_events x
  same_events (Walk n g xs) = same_all_events xs

  pub same_all_events : (xs : Expansions) → map named (all_events_in xs) ≡ all_term_events xs
  same_all_events no_parts = refl
  same_all_events (part_and x xs) = map-append named (events_in x) (all_events_in xs) ∙ ap (λ (l : List TermEvent). l ++ map named (all_events_in xs)) (same_events x) ∙ ap (λ (l : List TermEvent). term_events x ++ l) (same_all_events xs)

numbers_named : (es : List ExpandedEvent) → numbers_of (map named es) ≡ map expanded_number es
numbers_named [] = refl
numbers_named (e ∷ es) = ap (λ (l : List ℕ). e.number ∷ l) (numbers_named es)

pub same_numbers : (x : Expansion) → numbers_of (term_events x) ≡ numbers_in x
same_numbers x = ap numbers_of (sym (same_events x)) ∙ numbers_named (events_in x)

pub all_same_numbers : (xs : Expansions) → numbers_of (all_term_events xs) ≡ map expanded_number (all_events_in xs)
all_same_numbers xs = ap numbers_of (sym (same_all_events xs)) ∙ numbers_named (all_events_in xs)

pub split_among : {A : Type 0} (a b : List A) (e : A) → Among e (a ++ b) → Among e a ⊎ Among e b
split_among [] b e h = inr h
split_among (d ∷ a) b _ first = inl first
split_among (d ∷ a) b e (later h) = elim (split_among a b e h) [ inl i ↦ inl (later i) | inr i ↦ inr i ]

pub unmap : (es : List ExpandedEvent) (d : TermEvent) → Among d (map named es) → (e : ExpandedEvent) × Among e es × (d ≡ named e)
unmap (e ∷ es) _ first = (e, first, refl)
unmap (e ∷ es) d (later h) = let (f, i, q) = unmap es d h in (f, later i, q)
unmap [] d h = elim h [ ]

pub event_of_number : (es : List TermEvent) (j : ℕ) → Among j (numbers_of es) → (e : TermEvent) × Among e es × (e.number ≡ j)
event_of_number (e ∷ es) _ first = (e, first, refl)
event_of_number (e ∷ es) j (later h) = let (f, i, q) = event_of_number es j h in (f, later i, q)
event_of_number [] j h = elim h [ ]

pub number_among : (es : List TermEvent) (e : TermEvent) → Among e es → Among e.number (numbers_of es)
number_among es e h = among_map (λ (e : TermEvent). e.number) h

-- an event's number is one of the part
mutual
  pub number_in : (x : Expansion) (e : TermEvent) → Among e (term_events x) → Among e.number (nums x)
  number_in (Event d) e h = single d e h
    where
      single : (d : ExpandedEvent) (e : TermEvent) → Among e (named d ∷ []) → Among e.number (d.number ∷ [])
      single d _ first = first
      single d e (later h) = elim h [ ]
  number_in (InRow xs) e h = number_in_all xs e h
  number_in (Aside xs) e h = number_in_all xs e h
  number_in (OneOf xs) e h = number_in_all xs e h
  number_in (Exception x) e h = number_in x e h
  number_in (Turns n lower upper x) e h = number_in x e h
  number_in (Tied x ps) e h = number_in x e h
  number_in (Walk n g xs) e h = later (number_in_all xs e h)

  pub number_in_all : (xs : Expansions) (e : TermEvent) → Among e (all_term_events xs) → Among e.number (all_nums xs)
  number_in_all no_parts e h = elim h [ ]
  number_in_all (part_and x xs) e h = elim (split_among (term_events x) (all_term_events xs) e h) [
    | inl i ↦ among_left (nums x) (all_nums xs) e.number (number_in x e i)
    | inr i ↦ among_right (nums x) (all_nums xs) e.number (number_in_all xs e i)
  ]
