-- The numbers of an expansion lie between its first number and the next one: those of its events, its loops and its walks, those that it
-- ties, and those that still show tags.
use Rattle.std.specs.Prelude.{ℕ, zero, suc, ◌<◌, ◌≤◌, filter, List, map}
use Rattle.std.proofs.Common.{subst, inl, inr, arith}
use Rattle.msc_base.specs.declared.label.Pair.{Pair}
use Rattle.msc_base.specs.Orders.{Among}
use Rattle.msc_unfolding.specs.Unfoldings.{Tag, Happening, is_same_tag}
use Rattle.hmsc_graph.specs.declared.shape.Shape.{Shape}
use Rattle.msc_meaning.specs.Bodies.{WovenItems}
use Rattle.msc_meaning.specs.FarEnds.{GateMap}
use Rattle.msc_meaning.specs.InnerEvents.{GateEnd}
use Rattle.msc_meaning.specs.Tables.{Table}
use Rattle.expansion_tree.specs.Expansions.{Expansion, Event, InRow, Aside, OneOf, Exception, Turns, Tied, Walk, Expansions, no_parts, part_and}
use Rattle.expanded_charts.specs.Expanding as tree
use Rattle.expanded_charts.specs.Expanding.{NumberedEvent, Expanded, ExpandedParts, Shown, nothing, in_row, aside, one_of, or_nothing, exception, turns, tied, past, past_shown, numbers_with, pairs_between, tied_pairs, expand_charts}
use Rattle.node_ranks.specs.NamedCharts.{IsNestedTo}
use Rattle.node_ranks.proofs.Families.{Family, PartsFamily, IsKept, entry_kept, walks_kept}
use Rattle.node_ranks.proofs.ListParts.{split_among, map_among, flat_among, filter_among}

abbrev pub IsIn : ℕ → ℕ → ℕ → Type 0
IsIn low high j = (low ≤ j) × (j < high)

abbrev pub AreTiedIn : ℕ → ℕ → List Pair → Type 0
AreTiedIn low high ps = (p : Pair) → Among p ps → IsIn low high p.first × IsIn low high p.second

-- a loop's number is no greater than those inside, of which there may be none
abbrev mutual
  pub IsWithin : ℕ → ℕ → Expansion NumberedEvent → Type 0
  IsWithin low high (Event e) = IsIn low high e.number
  IsWithin low high (InRow xs) = AreWithin low high xs
  IsWithin low high (Aside xs) = AreWithin low high xs
  IsWithin low high (OneOf xs) = AreWithin low high xs
  IsWithin low high (Exception x) = IsWithin low high x
  IsWithin low high (Turns n lower upper x) = (low ≤ n) × IsWithin n high x
  IsWithin low high (Tied x ps) = AreTiedIn low high ps × IsWithin low high x
  IsWithin low high (Walk n g xs) = IsIn low high n × AreWithin low high xs

  pub AreWithin : ℕ → ℕ → Expansions NumberedEvent → Type 0
  AreWithin low high no_parts = Unit {0}
  AreWithin low high (part_and x xs) = IsWithin low high x × AreWithin low high xs

in_wider : (low high a b j : ℕ) → a ≤ low → high ≤ b → IsIn low high j → IsIn a b j
in_wider low high a b j l h (p, q) = (omega (arith, l, p), omega (arith, h, q))

mutual
  pub within_wider : (low high a b : ℕ) (x : Expansion NumberedEvent) → a ≤ low → high ≤ b → IsWithin low high x → IsWithin a b x
  within_wider low high a b (Event e) l h w = in_wider low high a b e.number l h w
  within_wider low high a b (InRow xs) l h w = all_wider low high a b xs l h w
  within_wider low high a b (Aside xs) l h w = all_wider low high a b xs l h w
  within_wider low high a b (OneOf xs) l h w = all_wider low high a b xs l h w
  within_wider low high a b (Exception x) l h w = within_wider low high a b x l h w
  within_wider low high a b (Turns n lower upper x) l h (v, w) = (omega (arith, l, v), within_wider n high n b x (omega arith) h w)
  within_wider low high a b (Tied x ps) l h (v, w) = ((λ p i. (in_wider low high a b p.first l h (v p i).0, in_wider low high a b p.second l h (v p i).1)), within_wider low high a b x l h w)
  within_wider low high a b (Walk n g xs) l h (v, w) = (in_wider low high a b n l h v, all_wider low high a b xs l h w)

  all_wider : (low high a b : ℕ) (xs : Expansions NumberedEvent) → a ≤ low → high ≤ b → AreWithin low high xs → AreWithin a b xs
  all_wider low high a b no_parts l h w = tt
  all_wider low high a b (part_and x xs) l h (w, v) = (within_wider low high a b x l h w, all_wider low high a b xs l h v)

-- ---- what is shown, and what is tied

abbrev AreShownIn : ℕ → ℕ → Shown → Type 0
AreShownIn low high sh = (p : ℕ × Tag) → Among p sh → IsIn low high p.0

with_number : (low high : ℕ) (sh : Shown) (a : Tag) (j : ℕ) → AreShownIn low high sh → Among j (numbers_with a sh) → IsIn low high j
with_number low high sh a j s h =
    let (p, e, i) = map_among (λ (p : ℕ × Tag). p.0) (filter (λ (p : ℕ × Tag). is_same_tag p.1 a) sh) j h in
    subst (λ (j : ℕ). IsIn low high j) e (s p (filter_among (λ (p : ℕ × Tag). is_same_tag p.1 a) sh p i))

between_in : (low high : ℕ) (ms ns : List ℕ) → ((j : ℕ) → Among j ms → IsIn low high j) → ((j : ℕ) → Among j ns → IsIn low high j) → AreTiedIn low high (pairs_between ms ns)
between_in low high ms ns f g p h =
    let (m, i, k) = flat_among (λ (m : ℕ). map (λ (n : ℕ). record { first = m; second = n }) ns) ms p h in
    let (n, e, j) = map_among (λ (n : ℕ). record { first = m; second = n }) ns p k in
    subst (λ (p : Pair). IsIn low high p.first × IsIn low high p.second) e (f m i, g n j)

tied_in : (low high : ℕ) (sh : Shown) (ts : List (Tag × Tag)) → AreShownIn low high sh → AreTiedIn low high (tied_pairs sh ts)
tied_in low high sh ts s p h =
    let (t, i, k) = flat_among (λ (t : Tag × Tag). pairs_between (numbers_with t.0 sh) (numbers_with t.1 sh)) ts p h in
    between_in low high (numbers_with t.0 sh) (numbers_with t.1 sh) (λ j. with_number low high sh t.0 j s) (λ j. with_number low high sh t.1 j s) p k

past_in : (low high : ℕ) (f : Tag → List Tag) (sh : Shown) → AreShownIn low high sh → AreShownIn low high (past_shown f sh)
past_in low high f sh s p h =
    let (r, i, k) = flat_among (λ (p : ℕ × Tag). map (λ (a : Tag). (p.0, a)) (f p.1)) sh p h in
    let (a, e, j) = map_among (λ (a : Tag). (r.0, a)) (f r.1) p k in
    subst (λ (p : ℕ × Tag). IsIn low high p.0) e (s r i)

-- ---- parts

pub record IsPlaced (n : ℕ) (e : Expanded) : Type 0 where
  pub rises : n ≤ e.next
  pub within : IsWithin n e.next e.part
  pub shown : AreShownIn n e.next e.shown

pub record ArePlaced (n : ℕ) (l : ExpandedParts) : Type 0 where
  pub rises : n ≤ l.next
  pub within : AreWithin n l.next l.parts
  pub shown : AreShownIn n l.next l.shown

abbrev pub HasPlaces : Family → Family → Type 0
HasPlaces e e' = (n : ℕ) → IsPlaced n (e n)

abbrev pub HavePlaces : PartsFamily → PartsFamily → Type 0
HavePlaces l l' = (n : ℕ) → ArePlaced n (l n)

put_placed : (n : ℕ) (e : Expanded) (l : ExpandedParts) → IsPlaced n e → ArePlaced e.next l → ArePlaced n (tree.put e l)
put_placed n e l h i = record {
  rises = omega (arith, h.rises, i.rises);
  within = (within_wider n e.next n l.next e.part (omega arith) i.rises h.within, all_wider e.next l.next n l.next l.parts h.rises (omega arith) i.within);
  shown = λ p k. elim (split_among e.shown l.shown p k) [
    | inl j ↦ in_wider n e.next n l.next p.0 (omega arith) i.rises (h.shown p j)
    | inr j ↦ in_wider e.next l.next n l.next p.0 h.rises (omega arith) (i.shown p j)
  ];
}

event_placed : (h : Happening) (n : ℕ) → IsPlaced n (tree.event n h)
event_placed h n = record {
  rises = omega arith;
  within = (omega arith, omega arith);
  shown = λ p k. let (a, e, i) = map_among (λ (a : Tag). (n, a)) h.tags p k in subst (λ (p : ℕ × Tag). IsIn n (suc n) p.0) e (omega arith, omega arith);
}

pub placed_kept : IsKept HasPlaces HavePlaces
placed_kept = record {
  nothing = λ n. record { rises = omega arith; within = tt; shown = λ p h. elim h [ ] };
  then = λ e e' l l' h i n. put_placed n (e n) (l (e n).next) (h n) (i (e n).next);
  in_row = λ l l' h n. record { rises = (h n).rises; within = (h n).within; shown = (h n).shown };
  aside = λ l l' h n. record { rises = (h n).rises; within = (h n).within; shown = (h n).shown };
  one_of = λ l l' h n. record { rises = (h n).rises; within = (h n).within; shown = (h n).shown };
  or_nothing = λ e e' h n. record { rises = (h n).rises; within = ((h n).within, (tt, tt)); shown = (h n).shown };
  exception = λ e e' h n. record { rises = (h n).rises; within = (h n).within; shown = (h n).shown };
  turns = λ lower upper e e' h n. record { rises = (h n).rises; within = (omega arith, (h n).within); shown = (h n).shown };
  tied = λ ts e e' h n. record { rises = (h n).rises; within = (tied_in n (e n).next (e n).shown ts (h n).shown, (h n).within); shown = (h n).shown };
  past = λ f e e' h n. record { rises = (h n).rises; within = (h n).within; shown = past_in n (e n).next f (e n).shown (h n).shown };
  event = event_placed;
}

pub walk_placed : (g : Shape) (l l' : PartsFamily) → HavePlaces l l' → HasPlaces (λ n. tree.walk n g (l (suc n))) (λ n. tree.walk n g (l' (suc n)))
walk_placed g l l' h n = record {
  rises = omega (arith, (h (suc n)).rises);
  within = ((omega arith, omega (arith, (h (suc n)).rises)), all_wider (suc n) (l (suc n)).next n (l (suc n)).next (l (suc n)).parts (omega arith) (omega arith) (h (suc n)).within);
  shown = λ p i. elim i [ ];
}

pub charts_placed : (ends_of : WovenItems → List GateEnd) (table : Table) (depth : ℕ) (name : List ℕ) (gates : GateMap) → IsNestedTo table depth name → HasPlaces (expand_charts ends_of table depth name gates) (expand_charts ends_of table depth name gates)
charts_placed ends_of table zero name gates w = absurd w
charts_placed ends_of table (suc depth) name gates w =
    entry_kept HasPlaces HavePlaces placed_kept ends_of (expand_charts ends_of table depth) (expand_charts ends_of table depth) (IsNestedTo table depth) (charts_placed ends_of table depth)
    (walks_kept HasPlaces HavePlaces placed_kept ends_of (expand_charts ends_of table depth) (expand_charts ends_of table depth) (IsNestedTo table depth) (charts_placed ends_of table depth) walk_placed) table name gates w
