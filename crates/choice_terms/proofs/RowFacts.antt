-- What holds of a row holds of it tied by its own pairs, where it holds of the pairs of the level: the former are among the latter.
use Rattle.std.specs.List.{flat_map}
use Rattle.std.specs.Prelude.{◌<◌, ℕ, Bool, true, false, List, [], ◌∷◌, ◌++◌, filter, length, map, if◌then◌else◌}
use Rattle.std.proofs.Common.{◌≡◌, subst, sym}
use Rattle.msc_base.specs.declared.label.Label.{Label}
use Rattle.msc_base.specs.declared.label.Pair.{Pair}
use Rattle.msc_base.specs.Orders.{Among, first, later}
use Rattle.msc_unfolding.specs.Unfoldings.{Tag, is_same_tag}
use Rattle.msc_meaning.specs.Bodies.{WovenItems}
use Rattle.msc_meaning.specs.Calls.{calls}
use Rattle.msc_meaning.specs.ChartUnfoldings.{gates_of}
use Rattle.msc_meaning.specs.FarEnds.{Around}
use Rattle.msc_meaning.specs.InnerEvents.{GateEnd}
use Rattle.msc_meaning.specs.Tables.{Table}
use Rattle.msc_meaning.specs.Ties.{ties}
use Rattle.node_ranks.proofs.ListParts.{among_left, among_map, among_right}
use Rattle.expansion_tree.specs.Expansions.{InRow, map_all_events, map_events}
use Rattle.expansion_tree.specs.Numbered as numbered
use Rattle.expansion_tree.specs.declared.tree.ExpandedEvent.{ExpandedEvent}
use Rattle.expansion_order.specs.Ranks.{AreRankedInRow, CanBeRanked}
use Rattle.expanded_charts.specs.Expanding.{ExpandedParts, NumberedEvent, Shown, expand_charts, expand_items, in_row, numbers_with, pairs_between, tied_pairs}
use Rattle.expanded_terms.specs.ExpansionNumbers.{numbers_of_events}
use Rattle.expanded_terms.specs.OperandTerms.{expand_taken}
use Rattle.expanded_terms.specs.RankedTerms.{IsOutsideLoops, numbers_in}
use Rattle.expanded_terms.proofs.RankedChartTerms.{mapped_numbers, numbered_event}
use Rattle.expanded_terms.proofs.TiesWithin.{between_both, charts_held, flat_among, items_held, row_held, tied_held}
use Rattle.made_terms.specs.MadeTerms.{CanBeMade}

-- ---- pairs of some tags among those of more

abbrev pub Within : {A : Type 0} → List A → List A → Type 0
Within {A} xs ys = (x : A) → Among x xs → Among x ys

among_flat : {A B : Type 0} (f : A → List B) (l : List A) (a : A) (b : B) → Among a l → Among b (f a) → Among b (flat_map f l)
among_flat f (a ∷ l) _ b first i = among_left (f a) (flat_map f l) b i
among_flat f (c ∷ l) a b (later h) i = among_right (f c) (flat_map f l) b (among_flat f l a b h i)
among_flat f [] a b h i = elim h [ ]

pair_among : (ms ns : List ℕ) (m n : ℕ) → Among m ms → Among n ns → Among (let p : Pair = record { first = m; second = n } in p) (pairs_between ms ns)
pair_among ms ns m n h i = among_flat (λ (m : ℕ). map (λ (n : ℕ). let p : Pair = record { first = m; second = n } in p) ns) ms m (record { first = m; second = n }) h (among_map (λ (n : ℕ). let p : Pair = record { first = m; second = n } in p) ns n i)

between_within : (ms ns ks ls : List ℕ) → Within ms ks → Within ns ls → Within (pairs_between ms ns) (pairs_between ks ls)
between_within ms ns ks ls f g p h = let (a, b) = between_both ms ns p h in pair_among ks ls p.first p.second (f p.first a) (g p.second b)

wider : (l k : List ℕ) (m j : ℕ) → (Among j l → Among j k) → Among j (m ∷ l) → Among j (m ∷ k)
wider l k m _ g first = first
wider l k m j g (later i) = later (g i)

module _ (a : Tag) where
  abbrev test : ℕ × Tag → Bool
  test q = is_same_tag q.1 a

  mid_within : (mid back : Shown) → Within (numbers_with a mid) (numbers_with a (mid ++ back))
  mid_within [] back j h = elim h [ ]
  mid_within (p ∷ mid) back j h = by (is_same_tag p.1 a) (mid_within mid back j) h
    where
      by : (b : Bool) → (Among j (numbers_with a mid) → Among j (numbers_with a (mid ++ back))) → Among j (map (λ (q : ℕ × Tag). q.0) (if b then p ∷ filter test mid else filter test mid))
          → Among j (map (λ (q : ℕ × Tag). q.0) (if b then p ∷ filter test (mid ++ back) else filter test (mid ++ back)))
      by true f i = wider (numbers_with a mid) (numbers_with a (mid ++ back)) p.0 j f i
      by false f i = f i

  front_within : (front mid back : Shown) → Within (numbers_with a mid) (numbers_with a (front ++ (mid ++ back)))
  front_within [] mid back j h = mid_within mid back j h
  front_within (p ∷ front) mid back j h = by (is_same_tag p.1 a) (front_within front mid back j h)
    where
      by : (b : Bool) → Among j (numbers_with a (front ++ (mid ++ back))) → Among j (map (λ (q : ℕ × Tag). q.0) (if b then p ∷ filter test (front ++ (mid ++ back)) else filter test (front ++ (mid ++ back))))
      by true i = later i
      by false i = i

pub own_within : (front mid back : Shown) (ts : List (Tag × Tag)) → Within (tied_pairs mid ts) (tied_pairs (front ++ (mid ++ back)) ts)
own_within front mid back ts p h =
    let all : Shown = front ++ (mid ++ back) in
    let (t, i, k) = flat_among (λ (t : Tag × Tag). pairs_between (numbers_with t.0 mid) (numbers_with t.1 mid)) ts p h in
    among_flat (λ (t : Tag × Tag). pairs_between (numbers_with t.0 all) (numbers_with t.1 all)) ts t p i
    (between_within (numbers_with t.0 mid) (numbers_with t.1 mid) (numbers_with t.0 all) (numbers_with t.1 all) (front_within t.0 front mid back) (front_within t.1 front mid back) p k)

-- ---- a row

module _ (names : List (List ℕ)) (labels : List Label) (kept : (e : NumberedEvent) → (numbered_event names labels e).number ≡ e.number) (table : Table) (ends_of : WovenItems → List GateEnd) (depth : ℕ) (around : Around) (n : ℕ) (held : WovenItems) (pairs : List Pair) (taken : WovenItems) (front back : Shown) where
  abbrev f : NumberedEvent → ExpandedEvent
  f = numbered_event names labels

  abbrev row : ExpandedParts
  row = expand_items (expand_charts ends_of table depth) ends_of (gates_of held (ends_of held)) around n taken

  abbrev tags : List (Tag × Tag)
  tags = ties held pairs (calls held) (ends_of held)

  abbrev inner : numbered.Expansion
  inner = InRow (map_all_events f row.parts)

  abbrev level_pairs : List Pair
  level_pairs = tied_pairs (front ++ (row.shown ++ back)) tags

  abbrev pub own : numbered.Expansion
  own = map_events f (expand_taken ends_of table depth around n held pairs taken).part

  -- an end of a pair of the level that is one of the row's events is outside its loops and walks
  abbrev pub EndsOutside : Type 0
  EndsOutside = (p : Pair) → Among p level_pairs → (Among p.first (numbers_in inner) → IsOutsideLoops inner p.first) × (Among p.second (numbers_in inner) → IsOutsideLoops inner p.second)

  own_ends : (p : Pair) → Among p (tied_pairs row.shown tags) → Among p.first (numbers_in inner) × Among p.second (numbers_in inner)
  own_ends p h =
      let both = (tied_held tags (in_row row) (row_held row (items_held ends_of (expand_charts ends_of table depth) (charts_held ends_of table depth) (gates_of held (ends_of held)) around n taken))).ties.0 p h in
      let same : numbers_in inner ≡ numbers_of_events (InRow row.parts) = mapped_numbers f kept (InRow row.parts) in
      (subst (λ (ns : List ℕ). Among p.first ns) (sym same) both.0, subst (λ (ns : List ℕ). Among p.second ns) (sym same) both.1)

  pub own_made : (from : ℕ) → CanBeMade (length labels) from inner → EndsOutside → CanBeMade (length labels) from own
  own_made from made outside = record {
    counted = made.counted;
    labelled = made.labelled;
    tied = (
      (λ p h. let both = own_ends p h in let out = outside p (own_within front row.shown back tags p h) in (record { among = both.0; outside = out.0 both.0 }, record { among = both.1; outside = out.1 both.1 })),
      made.tied,
    );
    graphs = made.graphs;
  }

  pub own_ranked : (rank : ℕ → ℕ) → AreRankedInRow rank (map_all_events f row.parts) → ((p : Pair) → Among p level_pairs → rank p.first < rank p.second) → CanBeRanked own
  own_ranked rank ranked rises = record { rank = rank; ranked = ((λ p h. rises p (own_within front row.shown back tags p h)), ranked) }
