-- Ranks stay ranks where instances get other numbers by which no more events share one, and where all numbers grow alike.
use Rattle.std.specs.Prelude.{ℕ, ◌+◌, ◌-◌, ◌<◌, List, ◌++◌, map}
use Rattle.std.proofs.Common.{◌≡◌, ◌∙◌, refl, sym, subst, arith}
use Rattle.msc_base.specs.declared.label.Pair.{Pair}
use Rattle.msc_base.specs.Orders.{Among}
use Rattle.expansion_tree.specs.Expansions.{Expansion, Event, InRow, Aside, OneOf, Exception, Turns, Tied, Walk, Expansions, no_parts, part_and, is_exception, map_events, map_all_events, events_in, all_events_in}
use Rattle.expansion_tree.specs.declared.tree.ExpandedEvent.{ExpandedEvent}
use Rattle.expansion_order.specs.Ranks.{DoPrecede, IsRanked, AreRankedInRow, AreRanked}
use Rattle.expansion_order.specs.Stops.{counted, all_counted}
use Rattle.expanded_charts.specs.Expanding.{NumberedEvent}
use Rattle.node_ranks.specs.NodeRanks.{KeepsNumbers, SharesColumn, columns_of}
use Rattle.node_ranks.proofs.ListParts.{among_left, among_right, map_among}
use Rattle.node_ranks.proofs.Moved.{moved, all_moved, moved_event, moved_pair}
use Rattle.node_ranks.proofs.Stops.{counted_of, all_counted_of, stop_by}

module _ (d : ℕ) (f g : NumberedEvent → ExpandedEvent) (keeps_f : KeepsNumbers f) (keeps_g : KeepsNumbers g) where
  -- two that share an instance by the new numbers share one by the old ones
  abbrev pub SharesLess : List NumberedEvent → Type 0
  SharesLess es = (a b : NumberedEvent) → Among a es → Among b es → SharesColumn g (moved_event d a) (moved_event d b) → SharesColumn f a b

  left : (es ds : List NumberedEvent) → SharesLess (es ++ ds) → SharesLess es
  left es ds h a b i j = h a b (among_left es ds a i) (among_left es ds b j)

  right : (es ds : List NumberedEvent) → SharesLess (es ++ ds) → SharesLess ds
  right es ds h a b i j = h a b (among_right es ds a i) (among_right es ds b j)

  abbrev back : (ℕ → ℕ) → ℕ → ℕ
  back r j = r (j - d)

  precede : (r : ℕ → ℕ) (x : Expansion NumberedEvent) (xs : Expansions NumberedEvent) → SharesLess (events_in x ++ all_events_in xs) → DoPrecede r (counted (map_events f x)) (all_counted (map_all_events f xs))
      → DoPrecede (back r) (counted (map_events g (moved d x))) (all_counted (map_all_events g (all_moved d xs)))
  precede r x xs h p s t i j same =
      let a = counted_of d f g keeps_f keeps_g x s i in
      let b = all_counted_of d f g keeps_f keeps_g xs t j in
      let (c, k, l) = h a.event b.event (among_left (events_in x) (all_events_in xs) a.event a.among) (among_right (events_in x) (all_events_in xs) b.event b.among)
      (s.column, a.at, subst (λ (k : ℕ). Among k (columns_of (g (moved_event d b.event)))) (sym same) b.at) in
      let first : a.number ≡ s.number - d = omega (arith, a.is) in
      let second : b.number ≡ t.number - d = omega (arith, b.is) in
      subst (λ (j : ℕ). r j < back r t.number) first (subst (λ (j : ℕ). r a.number < r j) second (p (stop_by c a.number) (stop_by c b.number) (a.others c k) (b.others c l) refl))

  same_form : (x : Expansion NumberedEvent) → is_exception (map_events f x) ≡ is_exception (map_events g (moved d x))
  same_form (Event e) = refl
  same_form (InRow xs) = refl
  same_form (Aside xs) = refl
  same_form (OneOf xs) = refl
  same_form (Exception x) = refl
  same_form (Turns n lower upper x) = refl
  same_form (Tied x ps) = refl
  same_form (Walk n s xs) = refl

  ties : (r : ℕ → ℕ) (ps : List Pair) → ((p : Pair) → Among p ps → r p.first < r p.second) → (p : Pair) → Among p (map (moved_pair d) ps) → back r p.first < back r p.second
  ties r ps h p i =
      let (q, e, j) = map_among (moved_pair d) ps p i in
      let first : q.first ≡ d + q.first - d = omega arith in
      let second : q.second ≡ d + q.second - d = omega arith in
      subst (λ (p : Pair). back r p.first < back r p.second) e (subst (λ (j : ℕ). r j < r (d + q.second - d)) first (subst (λ (j : ℕ). r q.first < r j) second (h q j)))

  mutual
    pub renamed : (r : ℕ → ℕ) (x : Expansion NumberedEvent) → SharesLess (events_in x) → IsRanked r (map_events f x) → IsRanked (back r) (map_events g (moved d x))
    renamed r (Event e) h w = tt
    renamed r (InRow xs) h w = row_renamed r xs h w
    renamed r (Aside xs) h w = all_renamed r xs h w
    renamed r (OneOf xs) h w = all_renamed r xs h w
    renamed r (Exception x) h w = renamed r x h w
    renamed r (Turns n lower upper x) h (own, w) = (back own, renamed own x h w)
    renamed r (Tied x ps) h (v, w) = (ties r ps v, renamed r x h w)
    renamed r (Walk n s xs) h w = tt

    row_renamed : (r : ℕ → ℕ) (xs : Expansions NumberedEvent) → SharesLess (all_events_in xs) → AreRankedInRow r (map_all_events f xs) → AreRankedInRow (back r) (map_all_events g (all_moved d xs))
    row_renamed r no_parts h w = tt
    row_renamed r (part_and x xs) h (w, v, u) =
        (renamed r x (left (events_in x) (all_events_in xs) h) w, (λ e. precede r x xs h (v (same_form x ∙ e))), row_renamed r xs (right (events_in x) (all_events_in xs) h) u)

    all_renamed : (r : ℕ → ℕ) (xs : Expansions NumberedEvent) → SharesLess (all_events_in xs) → AreRanked r (map_all_events f xs) → AreRanked (back r) (map_all_events g (all_moved d xs))
    all_renamed r no_parts h w = tt
    all_renamed r (part_and x xs) h (w, v) = (renamed r x (left (events_in x) (all_events_in xs) h) w, all_renamed r xs (right (events_in x) (all_events_in xs) h) v)
