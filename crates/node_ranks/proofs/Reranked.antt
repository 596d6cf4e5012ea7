-- Only the order of the ranks counts, and only that of the numbers between the first one and the next.
use Rattle.std.specs.Prelude.{ℕ, ◌<◌, ◌≤◌, List, ◌++◌, map}
use Rattle.std.proofs.Common.{◌∙◌, sym, subst, inl, inr, arith}
use Rattle.msc_base.specs.Orders.{Among}
use Rattle.expansion_tree.specs.Expansions.{Expansion, Event, InRow, Aside, OneOf, Exception, Turns, Tied, Walk, Expansions, no_parts, part_and, map_events, map_all_events}
use Rattle.expansion_tree.specs.declared.tree.ExpandedEvent.{ExpandedEvent}
use Rattle.expansion_order.specs.Ranks.{IsRanked, AreRankedInRow, AreRanked}
use Rattle.expansion_order.specs.Stops.{event_stops, stops, all_stops, numbered, counted, all_counted}
use Rattle.expansion_order.specs.declared.stops.Stop.{Stop}
use Rattle.expanded_charts.specs.Expanding.{NumberedEvent}
use Rattle.node_ranks.specs.NodeRanks.{KeepsNumbers}
use Rattle.node_ranks.proofs.ListParts.{split_among, map_among}
use Rattle.node_ranks.proofs.Placed.{IsIn, IsWithin, AreWithin}
use Rattle.node_ranks.proofs.Stops.{event_column}

module _ (g : NumberedEvent → ExpandedEvent) (keeps : KeepsNumbers g) where
  abbrev AreStopsIn : ℕ → ℕ → List Stop → Type 0
  AreStopsIn low high ss = (s : Stop) → Among s ss → IsIn low high s.number

  event_in : (low high : ℕ) (e : NumberedEvent) → IsIn low high e.number → AreStopsIn low high (event_stops (g e))
  event_in low high e h s i = let (c, k) = event_column (g e) s i in subst (λ (j : ℕ). IsIn low high j) (sym (k ∙ keeps e)) h

  both_in : (low high : ℕ) (ss ts : List Stop) → AreStopsIn low high ss → AreStopsIn low high ts → AreStopsIn low high (ss ++ ts)
  both_in low high ss ts h k s i = elim (split_among ss ts s i) [ inl j ↦ h s j | inr j ↦ k s j ]

  mutual
    stops_in : (low high : ℕ) (x : Expansion NumberedEvent) → IsWithin low high x → AreStopsIn low high (stops (map_events g x))
    stops_in low high (Event e) h = event_in low high e h
    stops_in low high (InRow xs) h = all_stops_in low high xs h
    stops_in low high (Aside xs) h = all_stops_in low high xs h
    stops_in low high (OneOf xs) h = all_stops_in low high xs h
    stops_in low high (Exception x) h = stops_in low high x h
    stops_in low high (Turns n lower upper x) (l, h) = λ s i. let (p, q) = stops_in n high x h s i in (omega (arith, l, p), q)
    stops_in low high (Tied x ps) (t, h) = stops_in low high x h
    stops_in low high (Walk n s xs) (l, h) = all_stops_in low high xs h

    all_stops_in : (low high : ℕ) (xs : Expansions NumberedEvent) → AreWithin low high xs → AreStopsIn low high (all_stops (map_all_events g xs))
    all_stops_in low high no_parts h = λ s i. elim i [ ]
    all_stops_in low high (part_and x xs) (h, k) = both_in low high (stops (map_events g x)) (all_stops (map_all_events g xs)) (stops_in low high x h) (all_stops_in low high xs k)

  -- a loop that has a stop has a number among those of its events
  loop_in : (low high n : ℕ) (ss : List Stop) → low ≤ n → AreStopsIn n high ss → AreStopsIn low high (map (numbered n) ss)
  loop_in low high n ss l h s i =
      let (t, e, j) = map_among (numbered n) ss s i in
      let (p, q) = h t j in
      subst (λ (s : Stop). IsIn low high s.number) e (l, omega (arith, p, q))

  walk_in : (low high n : ℕ) (ss : List Stop) → IsIn low high n → AreStopsIn low high (map (numbered n) ss)
  walk_in low high n ss l s i = let (t, e, j) = map_among (numbered n) ss s i in subst (λ (s : Stop). IsIn low high s.number) e l

  mutual
    pub counted_in : (low high : ℕ) (x : Expansion NumberedEvent) → IsWithin low high x → AreStopsIn low high (counted (map_events g x))
    counted_in low high (Event e) h = event_in low high e h
    counted_in low high (InRow xs) h = all_counted_in low high xs h
    counted_in low high (Aside xs) h = all_counted_in low high xs h
    counted_in low high (OneOf xs) h = all_counted_in low high xs h
    counted_in low high (Exception x) h = counted_in low high x h
    counted_in low high (Turns n lower upper x) (l, h) = loop_in low high n (stops (map_events g x)) l (stops_in n high x h)
    counted_in low high (Tied x ps) (t, h) = counted_in low high x h
    counted_in low high (Walk n s xs) (l, h) = walk_in low high n (all_stops (map_all_events g xs)) l

    pub all_counted_in : (low high : ℕ) (xs : Expansions NumberedEvent) → AreWithin low high xs → AreStopsIn low high (all_counted (map_all_events g xs))
    all_counted_in low high no_parts h = λ s i. elim i [ ]
    all_counted_in low high (part_and x xs) (h, k) = both_in low high (counted (map_events g x)) (all_counted (map_all_events g xs)) (counted_in low high x h) (all_counted_in low high xs k)

  -- between these numbers what rises by the first ranks rises by the second
  abbrev pub RisesSo : ℕ → ℕ → (ℕ → ℕ) → (ℕ → ℕ) → Type 0
  RisesSo low high r q = (i j : ℕ) → IsIn low high i → IsIn low high j → r i < r j → q i < q j

  mutual
    pub reranked : (low high : ℕ) (r q : ℕ → ℕ) (x : Expansion NumberedEvent) → RisesSo low high r q → IsWithin low high x → IsRanked r (map_events g x) → IsRanked q (map_events g x)
    reranked low high r q (Event e) h w v = tt
    reranked low high r q (InRow xs) h w v = row_reranked low high r q xs h w v
    reranked low high r q (Aside xs) h w v = all_reranked low high r q xs h w v
    reranked low high r q (OneOf xs) h w v = all_reranked low high r q xs h w v
    reranked low high r q (Exception x) h w v = reranked low high r q x h w v
    reranked low high r q (Turns n lower upper x) h w v = v
    reranked low high r q (Tied x ps) h (t, w) (u, v) = ((λ p i. let (a, b) = t p i in h p.first p.second a b (u p i)), reranked low high r q x h w v)
    reranked low high r q (Walk n s xs) h w v = tt

    pub row_reranked : (low high : ℕ) (r q : ℕ → ℕ) (xs : Expansions NumberedEvent) → RisesSo low high r q → AreWithin low high xs → AreRankedInRow r (map_all_events g xs) → AreRankedInRow q (map_all_events g xs)
    row_reranked low high r q no_parts h w v = tt
    row_reranked low high r q (part_and x xs) h (w, u) (v, p, k) =
        (reranked low high r q x h w v, (λ e s t i j same. h s.number t.number (counted_in low high x w s i) (all_counted_in low high xs u t j) (p e s t i j same)), row_reranked low high r q xs h u k)

    all_reranked : (low high : ℕ) (r q : ℕ → ℕ) (xs : Expansions NumberedEvent) → RisesSo low high r q → AreWithin low high xs → AreRanked r (map_all_events g xs) → AreRanked q (map_all_events g xs)
    all_reranked low high r q no_parts h w v = tt
    all_reranked low high r q (part_and x xs) h (w, u) (v, k) = (reranked low high r q x h w v, all_reranked low high r q xs h u k)
