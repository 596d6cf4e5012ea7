-- Soundness of the term of an expansion that can be ranked, construct by construct. Outside a loop all its events have the rank of the
-- whole loop.
use Rattle.std.specs.Prelude.{ℕ, ◌+◌, ◌<◌, ◌==◌, ◌&&◌, ◌||◌, Bool, true, false, List, [], ◌∷◌, ◌++◌, Option, Some, None, length, nat_lt}
use Rattle.std.proofs.Common.{◌≡◌, ◌⊎◌, length-append, refl, sym, ◌∙◌, subst, ap, inl, inr, arith}
use Rattle.std.proofs.lemmas.Bool.Decides.{Decides-eqb, Decides-ltb}
use Rattle.msc_base.specs.declared.label.Pair.{Pair}
use Rattle.msc_base.specs.Orders.{Among, first, later}
use Rattle.msc_base.specs.Patterns.{seq, par}
use Rattle.chart_term.specs.NormalForms.{join_all}
use Rattle.chart_term.specs.Tables.{Tables}
use Rattle.chart_term.specs.TermPatterns.{numbered, some_list, InPairs, pairs}
use Rattle.chart_term.specs.Terms.{TermEvent, has, has_some, Tree, Nil}
use Rattle.chart_term.specs.Views.{pairs_of}
use Rattle.sound_terms.specs.FormLaws.{TiesByForm}
use Rattle.sound_terms.specs.Intervals.{IsInside}
use Rattle.sound_terms.specs.NumberLaws.{NumbersAreKept}
use Rattle.sound_terms.proofs.Mapped.{among_map}
use Rattle.sound_terms.proofs.Ordering.{among_left, among_right}
use Rattle.term_laws.specs.FullSoundness.{AreSoundNets, IsSoundNode, ConstructorsKeepSoundness}
use Rattle.sound_terms.specs.TableLaws.{TablesStaySound}
use Rattle.expansion_tree.specs.Expansions.{Event, InRow, Aside, OneOf, Exception, Turns, Tied, Walk, no_parts, part_and, is_exception, events_in}
use Rattle.expansion_tree.specs.Numbered.{Expansion, Expansions}
use Rattle.expansion_tree.specs.declared.tree.ExpandedEvent.{ExpandedEvent}
use Rattle.expansion_order.specs.Ranks.{DoPrecede, IsRanked, AreRankedInRow, AreRanked, CanBeRanked}
use Rattle.expansion_order.specs.Stops.{second_stop, stops, all_stops, counted, all_counted}
use Rattle.expansion_order.specs.Stops as order
use Rattle.expansion_order.specs.declared.stops.Stop.{Stop}
use Rattle.expansion_terms.specs.Constructors.{one_of, placed}
use Rattle.expansion_tree.specs.Walks.{EachWalk, EachWalkIn}
use Rattle.expansion_terms.specs.MadeTerms.{IsWalkOf}
use Rattle.expansion_terms.specs.ExpansionTerms.{numbered_term, event_term, row_term, aside_term, part_terms}
use Rattle.expanded_terms.specs.ExpansionNumbers.{CountFrom}
use Rattle.expanded_terms.specs.RankedTerms.{looped_in, all_looped_in, IsOwn, EachTie, EachTies, RankedExpansionsAreSound}
use Rattle.expanded_terms.specs.SoundParts.{IsSoundPart, AreSoundParts}
use Rattle.expanded_terms.proofs.CountedNumbers.{count_front, count_rest, count_inside}
use Rattle.expanded_terms.proofs.SoundRules.{sound_nothing, sound_until, sound_event, sound_front, sound_two, sound_none, sound_some, sound_chosen, sound_tied, sound_turns}
use Rattle.expanded_terms.proofs.ExpansionEvents.{named, term_events, all_term_events, nums, all_nums, same_events, same_numbers, all_same_numbers, split_among, unmap, event_of_number, number_among, number_in, number_in_all}
use Rattle.expanded_terms.proofs.HeldTerms.{parts_held, walk_sound}

-- ---- instances

abbrev IsAt : TermEvent → ℕ → Type 0
IsAt e k = (e.at ≡ k) ⊎ (e.also ≡ Some k)

or_split : (s t : Bool) → (s || t) ≡ true → (s ≡ true) ⊎ (t ≡ true)
or_split true t h = inl refl
or_split false t h = inr h

in_instances : (at : ℕ) (also : Option ℕ) (k : ℕ) → has (at ∷ some_list also) k ≡ true → (at ≡ k) ⊎ (also ≡ Some k)
in_instances at None k h = elim (or_split (at == k) false h) [ inl i ↦ inl ((Decides-eqb at k).0 i) | inr i ↦ absurd cc ]
in_instances at (Some j) k h = elim (or_split (at == k) ((j == k) || false) h) [
  | inl i ↦ inl ((Decides-eqb at k).0 i)
  | inr i ↦ elim (or_split (j == k) false i) [ inl q ↦ inr (ap Some ((Decides-eqb j k).0 q)) | inr q ↦ absurd cc ]
]

-- two events that meet are at one instance
meet_at : (e f : TermEvent) → numbered.meets e f ≡ true → (k : ℕ) × IsAt e k × IsAt f k
meet_at e f h = elim (or_split (has (f.at ∷ some_list f.also) e.at || has_some (f.at ∷ some_list f.also) e.also) false h) [
  | inl i ↦ elim (or_split (has (f.at ∷ some_list f.also) e.at) (has_some (f.at ∷ some_list f.also) e.also) i) [
    | inl q ↦ (e.at, inl refl, in_instances f.at f.also e.at q)
    | inr q ↦ second e.also refl q
  ]
  | inr i ↦ absurd cc
]
  where
    second : (o : Option ℕ) → e.also ≡ o → has_some (f.at ∷ some_list f.also) o ≡ true → (k : ℕ) × IsAt e k × IsAt f k
    second None q i = absurd cc
    second (Some k) q i = (k, inr q, in_instances f.at f.also k i)

second_there : (n k : ℕ) (o : Option ℕ) → o ≡ Some k → Among (record { column = k; number = n }) (second_stop n o)
second_there n k o e = subst (λ (o : Option ℕ). Among (record { column = k; number = n }) (second_stop n o)) (sym e) first

record StopsAt (ss : List Stop) (k : ℕ) : Type 0 where
  stop : Stop
  among : Among stop ss
  at : stop.column ≡ k

mutual
  stops_at : (x : Expansion) (e : TermEvent) (k : ℕ) → Among e (term_events x) → IsAt e k → StopsAt (stops x) k
  stops_at (Event d) e k h i = single d e h i
    where
      single : (d : ExpandedEvent) (e : TermEvent) → Among e (named d ∷ []) → IsAt e k → StopsAt (stops (Event d)) k
      single d _ first (inl q) = record { stop = record { column = d.at; number = d.number }; among = first; at = q }
      single d _ first (inr q) = record { stop = record { column = k; number = d.number }; among = later (second_there d.number k d.also q); at = refl }
      single d e (later h) i = elim h [ ]
  stops_at (InRow xs) e k h i = all_stops_at xs e k h i
  stops_at (Aside xs) e k h i = all_stops_at xs e k h i
  stops_at (OneOf xs) e k h i = all_stops_at xs e k h i
  stops_at (Exception x) e k h i = stops_at x e k h i
  stops_at (Turns n lower upper x) e k h i = stops_at x e k h i
  stops_at (Tied x ps) e k h i = stops_at x e k h i
  stops_at (Walk n g xs) e k h i = all_stops_at xs e k h i

  all_stops_at : (xs : Expansions) (e : TermEvent) (k : ℕ) → Among e (all_term_events xs) → IsAt e k → StopsAt (all_stops xs) k
  all_stops_at no_parts e k h i = elim h [ ]
  all_stops_at (part_and x xs) e k h i = elim (split_among (term_events x) (all_term_events xs) e h) [
    | inl j ↦ let s = stops_at x e k j i in record { stop = s.stop; among = among_left (stops x) (all_stops xs) s.stop s.among; at = s.at }
    | inr j ↦ let s = all_stops_at xs e k j i in record { stop = s.stop; among = among_right (stops x) (all_stops xs) s.stop s.among; at = s.at }
  ]

-- ---- ranks of events by ranks in which a loop counts as one event

module _ (q rank : ℕ → ℕ) where
  abbrev mutual
    IsBy : Expansion → Type 0
    IsBy (Event e) = q e.number ≡ rank e.number
    IsBy (InRow xs) = AreBy xs
    IsBy (Aside xs) = AreBy xs
    IsBy (OneOf xs) = AreBy xs
    IsBy (Exception x) = IsBy x
    IsBy (Turns n lower upper x) = (e : TermEvent) → Among e (term_events x) → q e.number ≡ rank n
    IsBy (Tied x ps) = IsBy x
    IsBy (Walk n g xs) = (e : TermEvent) → Among e (all_term_events xs) → q e.number ≡ rank n

    AreBy : Expansions → Type 0
    AreBy no_parts = Unit {0}
    AreBy (part_and x xs) = IsBy x × AreBy xs

-- other ranks that are the same of the events
abbrev AreAlike : (ℕ → ℕ) → (ℕ → ℕ) → List TermEvent → Type 0
AreAlike p q es = (e : TermEvent) → Among e es → p e.number ≡ q e.number

mutual
  by_alike : (p q rank : ℕ → ℕ) (x : Expansion) → AreAlike p q (term_events x) → IsBy q rank x → IsBy p rank x
  by_alike p q rank (Event e) f h = f (named e) first ∙ h
  by_alike p q rank (InRow xs) f h = all_by_alike p q rank xs f h
  by_alike p q rank (Aside xs) f h = all_by_alike p q rank xs f h
  by_alike p q rank (OneOf xs) f h = all_by_alike p q rank xs f h
  by_alike p q rank (Exception x) f h = by_alike p q rank x f h
  by_alike p q rank (Turns n lower upper x) f h = λ e i. f e i ∙ h e i
  by_alike p q rank (Tied x ps) f h = by_alike p q rank x f h
  by_alike p q rank (Walk n g xs) f h = λ e i. f e i ∙ h e i

  all_by_alike : (p q rank : ℕ → ℕ) (xs : Expansions) → AreAlike p q (all_term_events xs) → AreBy q rank xs → AreBy p rank xs
  all_by_alike p q rank no_parts f h = tt
  all_by_alike p q rank (part_and x xs) f (h, i) = (
    by_alike p q rank x (λ e j. f e (among_left (term_events x) (all_term_events xs) e j)) h,
    all_by_alike p q rank xs (λ e j. f e (among_right (term_events x) (all_term_events xs) e j)) i,
  )

count_both_of : (n : ℕ) (x : Expansion) (xs : Expansions) → CountFrom n (nums x ++ all_nums xs) → CountFrom n (nums x) × CountFrom (n + length (nums x)) (all_nums xs)
count_both_of n x xs h = (count_front n (nums x) (all_nums xs) h, count_rest n (nums x) (all_nums xs) h)

-- there are such ranks
abbrev chosen : Bool → ℕ → ℕ → ℕ
chosen true i j = i
chosen false i j = j

abbrev below : (m : ℕ) (p q : ℕ → ℕ) → ℕ → ℕ
below m p q j = chosen (nat_lt j m) (p j) (q j)

below_low : (m : ℕ) (p q : ℕ → ℕ) (j : ℕ) → j < m → below m p q j ≡ p j
below_low m p q j h = rw ((Decides-ltb j m).1 h) refl

below_high : (m : ℕ) (p q : ℕ → ℕ) (j : ℕ) → (j < m → ⊥) → below m p q j ≡ q j
below_high m p q j h = by (nat_lt j m) refl
  where
    by : (b : Bool) → nat_lt j m ≡ b → chosen b (p j) (q j) ≡ q j
    by true e = absurd (h ((Decides-ltb j m).0 e))
    by false e = refl

mutual
  ranks_by : (rank : ℕ → ℕ) (n : ℕ) (x : Expansion) → CountFrom n (nums x) → (q : ℕ → ℕ) × IsBy q rank x
  ranks_by rank n (Event e) h = (rank, refl)
  ranks_by rank n (InRow xs) h = all_ranks_by rank n xs h
  ranks_by rank n (Aside xs) h = all_ranks_by rank n xs h
  ranks_by rank n (OneOf xs) h = all_ranks_by rank n xs h
  ranks_by rank n (Exception x) h = ranks_by rank n x h
  ranks_by rank n (Turns m lower upper x) h = ((λ j. rank m), λ e i. refl)
  ranks_by rank n (Tied x ps) h = ranks_by rank n x h
  ranks_by rank n (Walk m g xs) h = ((λ j. rank m), λ e i. refl)

  all_ranks_by : (rank : ℕ → ℕ) (n : ℕ) (xs : Expansions) → CountFrom n (all_nums xs) → (q : ℕ → ℕ) × AreBy q rank xs
  all_ranks_by rank n no_parts h = (rank, tt)
  all_ranks_by rank n (part_and x xs) h = put (ranks_by rank n x (count_both_of n x xs h).0) (all_ranks_by rank (n + length (nums x)) xs (count_both_of n x xs h).1)
    where
      put : (q : ℕ → ℕ) × IsBy q rank x → (q : ℕ → ℕ) × AreBy q rank xs → (q : ℕ → ℕ) × AreBy q rank (part_and x xs)
      put (p, i) (q, j) = (
        below (n + length (nums x)) p q,
        (
          by_alike (below (n + length (nums x)) p q) p rank x (λ e k. below_low (n + length (nums x)) p q e.number (low e (count_inside n (nums x) e.number (count_both_of n x xs h).0 (number_in x e k)))) i,
          all_by_alike (below (n + length (nums x)) p q) q rank xs
              (λ e k. below_high (n + length (nums x)) p q e.number (high e (count_inside (n + length (nums x)) (all_nums xs) e.number (count_both_of n x xs h).1 (number_in_all xs e k)))) j,
        ),
      )
        where
          low : (e : TermEvent) → IsInside n (n + length (nums x)) e.number → e.number < n + length (nums x)
          low e (a, b) = b

          high : (e : TermEvent) → IsInside (n + length (nums x)) (n + length (nums x) + length (all_nums xs)) e.number → e.number < n + length (nums x) → ⊥
          high e (a, b) c = omega (arith, a, c)

-- an event at an instance has a stop there, of its rank
record Stands (q rank : ℕ → ℕ) (ss : List Stop) (m k : ℕ) : Type 0 where
  stop : Stop
  among : Among stop ss
  at : stop.column ≡ k
  ranked : q m ≡ rank stop.number

module _ (q rank : ℕ → ℕ) where
  mutual
    stands : (x : Expansion) (e : TermEvent) (k : ℕ) → IsBy q rank x → Among e (term_events x) → IsAt e k → Stands q rank (counted x) e.number k
    stands (Event d) e k b h i = single d e b h i
      where
        single : (d : ExpandedEvent) (e : TermEvent) → q d.number ≡ rank d.number → Among e (named d ∷ []) → IsAt e k → Stands q rank (counted (Event d)) e.number k
        single d _ b first (inl r) = record { stop = record { column = d.at; number = d.number }; among = first; at = r; ranked = b }
        single d _ b first (inr r) = record { stop = record { column = k; number = d.number }; among = later (second_there d.number k d.also r); at = refl; ranked = b }
        single d e b (later h) i = elim h [ ]
    stands (InRow xs) e k b h i = all_stand xs e k b h i
    stands (Aside xs) e k b h i = all_stand xs e k b h i
    stands (OneOf xs) e k b h i = all_stand xs e k b h i
    stands (Exception x) e k b h i = stands x e k b h i
    stands (Turns n lower upper x) e k b h i = let s = stops_at x e k h i in record { stop = order.numbered n s.stop; among = among_map (order.numbered n) s.among; at = s.at; ranked = b e h }
    stands (Tied x ps) e k b h i = stands x e k b h i
    stands (Walk n g xs) e k b h i = let s = all_stops_at xs e k h i in record { stop = order.numbered n s.stop; among = among_map (order.numbered n) s.among; at = s.at; ranked = b e h }

    all_stand : (xs : Expansions) (e : TermEvent) (k : ℕ) → AreBy q rank xs → Among e (all_term_events xs) → IsAt e k → Stands q rank (all_counted xs) e.number k
    all_stand no_parts e k b h i = elim h [ ]
    all_stand (part_and x xs) e k (b, c) h i = elim (split_among (term_events x) (all_term_events xs) e h) [
      | inl j ↦ let s = stands x e k b j i in record { stop = s.stop; among = among_left (counted x) (all_counted xs) s.stop s.among; at = s.at; ranked = s.ranked }
      | inr j ↦ let s = all_stand xs e k c j i in record { stop = s.stop; among = among_right (counted x) (all_counted xs) s.stop s.among; at = s.at; ranked = s.ranked }
    ]

  -- parts in a row come one after another in rank
  come_apart : (x : Expansion) (xs : Expansions) → IsBy q rank x → AreBy q rank xs → DoPrecede rank (counted x) (all_counted xs) → (e f : TermEvent) → Among e (term_events x) → Among f (all_term_events xs) → numbered.meets e f ≡ true → q e.number < q f.number
  come_apart x xs b c up e f h i m = by (meet_at e f m)
    where
      by : (k : ℕ) × IsAt e k × IsAt f k → q e.number < q f.number
      by (k, a, d) =
          let s = stands x e k b h a in
          let t = all_stand xs f k c i d in
          let less = up s.stop t.stop s.among t.among (s.at ∙ sym t.at) in
          omega (arith, less, s.ranked, t.ranked)

  mutual
    -- an event outside loops has its own rank
    own_rank : (x : Expansion) (e : TermEvent) → IsBy q rank x → Among e (term_events x) → (Among e.number (looped_in x) → ⊥) → q e.number ≡ rank e.number
    own_rank (Event d) e b h f = single d e b h
      where
        single : (d : ExpandedEvent) (e : TermEvent) → q d.number ≡ rank d.number → Among e (named d ∷ []) → q e.number ≡ rank e.number
        single d _ b first = b
        single d e b (later h) = elim h [ ]
    own_rank (InRow xs) e b h f = own_ranks xs e b h f
    own_rank (Aside xs) e b h f = own_ranks xs e b h f
    own_rank (OneOf xs) e b h f = own_ranks xs e b h f
    own_rank (Exception x) e b h f = own_rank x e b h f
    own_rank (Turns n lower upper x) e b h f = absurd (f (subst (λ (l : List ℕ). Among e.number l) (same_numbers x) (number_among (term_events x) e h)))
    own_rank (Tied x ps) e b h f = own_rank x e b h f
    own_rank (Walk n g xs) e b h f = absurd (f (subst (λ (l : List ℕ). Among e.number l) (all_same_numbers xs) (number_among (all_term_events xs) e h)))

    own_ranks : (xs : Expansions) (e : TermEvent) → AreBy q rank xs → Among e (all_term_events xs) → (Among e.number (all_looped_in xs) → ⊥) → q e.number ≡ rank e.number
    own_ranks no_parts e b h f = elim h [ ]
    own_ranks (part_and x xs) e (b, c) h f = elim (split_among (term_events x) (all_term_events xs) e h) [
      | inl j ↦ own_rank x e b j (λ i. f (among_left (looped_in x) (all_looped_in xs) e.number i))
      | inr j ↦ own_ranks xs e c j (λ i. f (among_right (looped_in x) (all_looped_in xs) e.number i))
    ]

  own_number : (x : Expansion) (j : ℕ) → IsBy q rank x → IsOwn x j → q j ≡ rank j
  own_number x j b h = at (event_of_number (term_events x) j (subst (λ (l : List ℕ). Among j l) (sym (same_numbers x)) h.among))
    where
      at : (e : TermEvent) × Among e (term_events x) × (e.number ≡ j) → q j ≡ rank j
      at (e, i, r) = subst (λ (k : ℕ). q k ≡ rank k) r (own_rank x e b i (λ l. h.outside (subst (λ (k : ℕ). Among k (looped_in x)) r l)))

-- ---- pairs

and_split : (s t : Bool) → (s && t) ≡ true → (s ≡ true) × (t ≡ true)
and_split true true h = (refl, refl)
and_split true false h = absurd cc
and_split false t h = absurd cc

pair_there : (ps : List Pair) (m n : ℕ) → pairs (pairs_of ps) m n ≡ true → (p : Pair) × Among p ps × (m ≡ p.first) × (n ≡ p.second)
pair_there [] m n h = absurd cc
pair_there (p ∷ ps) m n h = elim (or_split ((m == p.first) && (n == p.second)) (pairs (pairs_of ps) m n) h) [
  | inl i ↦ let (a, b) = and_split (m == p.first) (n == p.second) i in (p, first, (Decides-eqb m p.first).0 a, (Decides-eqb n p.second).0 b)
  | inr i ↦ let (r, j, e, f) = pair_there ps m n i in (r, later j, e, f)
]

in_pair_there : (ps : List Pair) (j : ℕ) → InPairs j (pairs_of ps) → (p : Pair) × Among p ps × ((j ≡ p.first) ⊎ (j ≡ p.second))
in_pair_there [] j h = absurd h
in_pair_there (p ∷ ps) j (inl i) = (p, first, i)
in_pair_there (p ∷ ps) j (inr i) = let (r, k, e) = in_pair_there ps j i in (r, later k, e)

module _ (q rank : ℕ → ℕ) (x : Expansion) (ps : List Pair) (b : IsBy q rank x) (own : (p : Pair) → Among p ps → IsOwn x p.first × IsOwn x p.second) where
  pairs_up : ((p : Pair) → Among p ps → rank p.first < rank p.second) → (m n : ℕ) → pairs (pairs_of ps) m n ≡ true → q m < q n
  pairs_up up m n h = by (pair_there ps m n h)
    where
      by : (p : Pair) × Among p ps × (m ≡ p.first) × (n ≡ p.second) → q m < q n
      by (p, i, e, f) =
          let (a, c) = own p i in
          let less = up p i in
          let s = ap q e ∙ own_number q rank x p.first b a in
          let t = ap q f ∙ own_number q rank x p.second b c in
          omega (arith, less, s, t)

  pairs_out : (j : ℕ) → InPairs j (pairs_of ps) → Among j (looped_in x) → ⊥
  pairs_out j h l = by (in_pair_there ps j h)
    where
      by : (p : Pair) × Among p ps × ((j ≡ p.first) ⊎ (j ≡ p.second)) → ⊥
      by (p, i, inl e) = (own p i).0.outside (subst (λ (k : ℕ). Among k (looped_in x)) e l)
      by (p, i, inr e) = (own p i).1.outside (subst (λ (k : ℕ). Among k (looped_in x)) e l)

-- ---- constructs

module _ (keep : ConstructorsKeepSoundness) (by_form : TiesByForm) (kept : NumbersAreKept) (stay : TablesStaySound) (labels : ℕ) (w : Tables) (nets : AreSoundNets labels w) (walk : ℕ → Tree) where
  abbrev Part : (ℕ → ℕ) → ℕ → List ℕ → List TermEvent → List ℕ → Tree → Type 0
  Part r n ns es ls x = IsSoundPart labels w r n (n + length ns) es ls x

  -- a part, and parts as one
  abbrev Whole : (ℕ → ℕ) → ℕ → Expansion → Tree → Type 0
  Whole r n x y = Part r n (nums x) (term_events x) (looped_in x) y

  abbrev All : (ℕ → ℕ) → ℕ → Expansions → Tree → Type 0
  All r n xs y = Part r n (all_nums xs) (all_term_events xs) (all_looped_in xs) y

  abbrev Parts : (ℕ → ℕ) → ℕ → Expansions → List Tree → Type 0
  Parts r n xs ys = AreSoundParts labels w r n (n + length (all_nums xs)) (all_term_events xs) (all_looped_in xs) ys

  abbrev AreLabelled : List TermEvent → Type 0
  AreLabelled es = (e : TermEvent) → Among e es → e.label < labels

  abbrev AreWalks : Expansion → Type 0
  AreWalks x = EachWalk (λ m g xs. IsWalkOf w g (part_terms event_term walk xs) (walk m)) x

  abbrev AreWalksIn : Expansions → Type 0
  AreWalksIn xs = EachWalkIn (λ m g xs. IsWalkOf w g (part_terms event_term walk xs) (walk m)) xs

  both_length : (n : ℕ) (a b : List ℕ) → n + length a + length b ≡ n + length (a ++ b)
  both_length n a b = omega (arith, length-append a b)

  both_until : (r : ℕ → ℕ) (n : ℕ) (x : Expansion) (xs : Expansions) (y : Tree)
      → IsSoundPart labels w r n (n + length (nums x) + length (all_nums xs)) (term_events x ++ all_term_events xs) (looped_in x ++ all_looped_in xs) y → All r n (part_and x xs) y
  both_until r n x xs y p =
      sound_until keep by_form kept labels w nets r n (n + length (nums x) + length (all_nums xs)) (n + length (nums x ++ all_nums xs)) (term_events x ++ all_term_events xs) (looped_in x ++ all_looped_in xs) y (both_length n (nums x) (all_nums xs)) p

  in_front : (r : ℕ → ℕ) (n : ℕ) (x : Expansion) (xs : Expansions) (y z : Tree) (b : Bool) → (b ≡ false → (e f : TermEvent) → Among e (term_events x) → Among f (all_term_events xs) → numbered.meets e f ≡ true → r e.number < r f.number)
      → Whole r n x y → All r (n + length (nums x)) xs z → All r n (part_and x xs) (placed b y z)
  in_front r n x xs y z false up p s =
      both_until r n x xs (placed false y z)
      (sound_front keep by_form kept labels w nets r n (n + length (nums x)) (n + length (nums x) + length (all_nums xs)) (term_events x) (all_term_events xs) (looped_in x) (all_looped_in xs) y z p s seq (up refl))
  in_front r n x xs y z true up p s =
      both_until r n x xs (placed true y z)
      (sound_chosen keep by_form kept labels w nets r n (n + length (nums x) + length (all_nums xs)) (term_events x ++ all_term_events xs) (looped_in x ++ all_looped_in xs) (y ∷ z ∷ []) (λ e. absurd cc)
      (sound_two keep by_form kept labels w nets r n (n + length (nums x)) (n + length (nums x) + length (all_nums xs)) (term_events x) (all_term_events xs) (looped_in x) (all_looped_in xs) y z p s))

  at_side : (r : ℕ → ℕ) (n : ℕ) (x : Expansion) (xs : Expansions) (y z : Tree) → Whole r n x y → All r (n + length (nums x)) xs z → All r n (part_and x xs) (join_all par (y ∷ z ∷ []))
  at_side r n x xs y z p s =
      both_until r n x xs (join_all par (y ∷ z ∷ []))
      (sound_front keep by_form kept labels w nets r n (n + length (nums x)) (n + length (nums x) + length (all_nums xs)) (term_events x) (all_term_events xs) (looped_in x) (all_looped_in xs) y z p s par tt)

  nothing_there : (r : ℕ → ℕ) (n : ℕ) → All r n no_parts Nil
  nothing_there r n = sound_until keep by_form kept labels w nets r n n (n + 0) [] [] Nil (let e : n ≡ n + 0 = omega arith in e) (sound_nothing keep by_form kept labels w nets r n)

  one_there : (r : ℕ → ℕ) (n : ℕ) (xs : Expansions) → Parts r n xs (part_terms event_term walk xs) → All r n xs (one_of (part_terms event_term walk xs))
  one_there r n no_parts h = nothing_there r n
  one_there r n (part_and x xs) h = sound_chosen keep by_form kept labels w nets r n (n + length (nums x ++ all_nums xs)) (term_events x ++ all_term_events xs) (looped_in x ++ all_looped_in xs) (numbered_term walk x ∷ part_terms event_term walk xs) (λ e. absurd cc) h

  turns_there : (r : ℕ → ℕ) (n m lower : ℕ) (upper : Option ℕ) (rank : ℕ → ℕ) (x : Expansion) → IsBy r rank (Turns m lower upper x) → (o : ℕ → ℕ) → Whole o n x (numbered_term walk x) → Whole r n (Turns m lower upper x) (numbered_term walk (Turns m lower upper x))
  turns_there r n m lower upper rank x b o p = subst (λ (l : List ℕ). Part r n (nums x) (term_events x) l (numbered_term walk (Turns m lower upper x))) (same_numbers x)
      (sound_turns keep by_form kept labels w nets r o (rank m) n (n + length (nums x)) (term_events x) (looped_in x) lower upper (numbered_term walk x) b p)

  mutual
    part_sound : (r rank : ℕ → ℕ) (n : ℕ) (x : Expansion) → CountFrom n (nums x) → AreLabelled (term_events x) → EachTie IsOwn x → AreWalks x → IsBy r rank x → IsRanked rank x → Whole r n x (numbered_term walk x)
    part_sound r rank n (Event e) (c, d) l t v b h = sound_event keep by_form kept labels w nets r n (named e) c (l (named e) first)
    part_sound r rank n (InRow xs) c l t v b h = row_sound r rank n xs c l t v b h
    part_sound r rank n (Aside xs) c l t v b h = aside_sound r rank n xs c l t v b h
    part_sound r rank n (OneOf xs) c l t v b h = one_there r n xs (parts_sound r rank n xs c l t v b h)
    part_sound r rank n (Exception x) c l t v b h = part_sound r rank n x c l t v b h
    part_sound r rank n (Turns m lower upper x) c l t v b (own, h) =
        let (o, k) = ranks_by own n x c in turns_there r n m lower upper rank x b o (part_sound o own n x c l t v k h)
    part_sound r rank n (Tied x ps) c l (own, t) v b (up, h) =
        sound_tied keep by_form kept labels w nets r n (n + length (nums x)) (term_events x) (looped_in x) (numbered_term walk x) (pairs_of ps) (pairs_up r rank x ps b own up) (pairs_out r rank x ps b own) (part_sound r rank n x c l t v b h)
    part_sound r rank n (Walk m g xs) c l t v b h =
        subst (λ (ls : List ℕ). Part r n (m ∷ all_nums xs) (all_term_events xs) ls (walk m)) (all_same_numbers xs)
        (walk_sound keep stay labels w nets r (rank m) n (n + length (m ∷ all_nums xs)) (all_term_events xs) g (part_terms event_term walk xs) (walk m) v.0 (parts_held labels w nets walk xs v.1) b (omega arith))

    row_sound : (r rank : ℕ → ℕ) (n : ℕ) (xs : Expansions) → CountFrom n (all_nums xs) → AreLabelled (all_term_events xs) → EachTies IsOwn xs → AreWalksIn xs → AreBy r rank xs → AreRankedInRow rank xs → All r n xs (row_term event_term walk xs)
    row_sound r rank n no_parts c l t v b h = nothing_there r n
    row_sound r rank n (part_and x xs) c l (t, u) v (b, d) (h, up, i) =
        in_front r n x xs (numbered_term walk x) (row_term event_term walk xs) (is_exception x) (λ e. come_apart r rank x xs b d (up e))
        (part_sound r rank n x (count_both_of n x xs c).0 (λ e j. l e (among_left (term_events x) (all_term_events xs) e j)) t v.0 b h)
        (row_sound r rank (n + length (nums x)) xs (count_both_of n x xs c).1 (λ e j. l e (among_right (term_events x) (all_term_events xs) e j)) u v.1 d i)

    aside_sound : (r rank : ℕ → ℕ) (n : ℕ) (xs : Expansions) → CountFrom n (all_nums xs) → AreLabelled (all_term_events xs) → EachTies IsOwn xs → AreWalksIn xs → AreBy r rank xs → AreRanked rank xs → All r n xs (aside_term event_term walk xs)
    aside_sound r rank n no_parts c l t v b h = nothing_there r n
    aside_sound r rank n (part_and x xs) c l (t, u) v (b, d) (h, i) =
        at_side r n x xs (numbered_term walk x) (aside_term event_term walk xs)
        (part_sound r rank n x (count_both_of n x xs c).0 (λ e j. l e (among_left (term_events x) (all_term_events xs) e j)) t v.0 b h)
        (aside_sound r rank (n + length (nums x)) xs (count_both_of n x xs c).1 (λ e j. l e (among_right (term_events x) (all_term_events xs) e j)) u v.1 d i)

    parts_sound : (r rank : ℕ → ℕ) (n : ℕ) (xs : Expansions) → CountFrom n (all_nums xs) → AreLabelled (all_term_events xs) → EachTies IsOwn xs → AreWalksIn xs → AreBy r rank xs → AreRanked rank xs → Parts r n xs (part_terms event_term walk xs)
    parts_sound r rank n no_parts c l t v b h = subst (λ (i : ℕ). AreSoundParts labels w r n i [] [] []) (let e : n ≡ n + 0 = omega arith in e) (sound_none keep by_form kept labels w nets r n)
    parts_sound r rank n (part_and x xs) c l (t, u) v (b, d) (h, i) =
        subst (λ (k : ℕ). AreSoundParts labels w r n k (term_events x ++ all_term_events xs) (looped_in x ++ all_looped_in xs) (numbered_term walk x ∷ part_terms event_term walk xs)) (both_length n (nums x) (all_nums xs))
        (sound_some keep by_form kept labels w nets r n (n + length (nums x)) (n + length (nums x) + length (all_nums xs)) (term_events x) (all_term_events xs) (looped_in x) (all_looped_in xs) (numbered_term walk x) (part_terms event_term walk xs)
        (part_sound r rank n x (count_both_of n x xs c).0 (λ e j. l e (among_left (term_events x) (all_term_events xs) e j)) t v.0 b h)
        (parts_sound r rank (n + length (nums x)) xs (count_both_of n x xs c).1 (λ e j. l e (among_right (term_events x) (all_term_events xs) e j)) u v.1 d i))

  whole_sound : (n : ℕ) (x : Expansion) → CountFrom n (nums x) → AreLabelled (term_events x) → EachTie IsOwn x → AreWalks x → (h : CanBeRanked x) → (q : ℕ → ℕ) × IsBy q h.rank x → IsSoundNode labels w (numbered_term walk x)
  whole_sound n x c l t v h (q, b) = (part_sound q h.rank n x c l t v b h.ranked).node

pub ranked_expansions_are_sound : ConstructorsKeepSoundness → TiesByForm → NumbersAreKept → TablesStaySound → RankedExpansionsAreSound
ranked_expansions_are_sound keep by_form kept stay = record {
  sound = λ labels w n x walk nets c l t h v. whole_sound keep by_form kept stay labels w nets walk n x c (labelled labels x l) t v h (ranks_by h.rank n x c);
}
  where
    labelled : (labels : ℕ) (x : Expansion) → ((e : ExpandedEvent) → Among e (events_in x) → e.label < labels) → (d : TermEvent) → Among d (term_events x) → d.label < labels
    labelled labels x l d h = at (unmap (events_in x) d (subst (λ (es : List TermEvent). Among d es) (sym (same_events x)) h))
      where
        at : (e : ExpandedEvent) × Among e (events_in x) × (d ≡ named e) → d.label < labels
        at (e, i, q) = subst (λ (f : TermEvent). f.label < labels) (sym q) (l e i)
