-- No tag stands more often in what is left of a body beside its refining charts, and above these, than in the whole body: an own number is
-- shown by the event itself, or by the one event that stands for it. So the pairs of the whole body have room there too.
use Rattle.std.specs.Prelude.{ℕ, ◌+◌, ◌≤◌, ◌==◌, Bool, true, false, not, ◌||◌, cond, List, [], ◌∷◌, ◌++◌, Option, None, Some, length, if◌then◌else◌, slice_get}
use Rattle.std.specs.List.{count_by, list_any}
use Rattle.std.specs.Str.{bytes_eq}
use Rattle.std.proofs.Common.{◌≡◌, refl, sym, ◌∙◌, ap, arith}
use Rattle.std.proofs.lemmas.Bool.Decides.{Decides-eqb}
use Rattle.std.proofs.lemmas.Nat.{mul-le}
use Rattle.std.proofs.lemmas.Slice.Eq.{bytes_eq-Decides}
use Rattle.msc_unfolding.specs.Unfoldings.{Tag, Own, Via, On, is_same_tag, past_level}
use Rattle.term_meaning.specs.Portions.{Shown, shown_at, past_shown}
use Rattle.general_ordering.specs.OrderCounts.{order_count}
use Rattle.msc_meaning.specs.Bodies.{EventNode, ReferencePart, Body, level, WovenItems, no_items, item_and, Single, Coregion, Inline, Refer, events}
use Rattle.msc_meaning.specs.Calls.{Call, calls}
use Rattle.msc_meaning.specs.Refinements.{Match, is_like, all_like, env_events, events_at, match_list, matches_behind, matches, Refining, refining, refining_by, refinings, is_decomposed, left_of, without_decomposed, stands_for, past_refining}
use Rattle.msc_meaning.specs.Tables.{Table, body_at, Refinement}
use Rattle.expanded_terms.specs.ExpandedSizes.{gates_in, open_gates, events_room, items_room, decomposed_room, HaveRoom}
use Rattle.expanded_terms.specs.ExpandedTerms.{Charts, event_shown, events_shown, items_count, item_count, expression_shown, operands_shown, item_shown, items_shown, refinings_shown, refined_shown}
use Rattle.expanded_terms.specs.FewPairs.{node_numbers}
use Rattle.expanded_terms.specs.JoinProducts.{often, IsFewBody, AreFewRefined}
use Rattle.expanded_terms.specs.TagNumbers.{number_if, numbers_with, pairs_between, tied_numbers}
use Rattle.expanded_terms.proofs.DecomposedOnce.{DecomposeOnce}
use Rattle.expanded_terms.proofs.FewPairs.{tally, tally_cons, tally_none, tally_once, items_tally, if_length, often_both, length_app, between_length, level_open}
use Rattle.expanded_terms.proofs.ShownAnywhere.{tags, event_same, expression_same, operands_same, item_same}
use Rattle.expanded_terms.proofs.TermWeights.{room_both}

-- ---- what is counted of tags

abbrev pub total : (Tag → ℕ) → List Tag → ℕ
total f [] = 0
total f (t ∷ ts) = f t + total f ts

-- whether it is that tag
abbrev pub is_one : Tag → Tag → ℕ
is_one t a = length (number_if (is_same_tag a t) 0 [])

pub often_total : (t : Tag) (sh : Shown) → often t sh ≡ total (is_one t) (tags sh)
often_total t [] = refl
often_total t (p ∷ sh) = omega (arith, if_length (is_same_tag p.1 t) p.0 (numbers_with t sh), often_total t sh)

open_total : (sh : Shown) → open_gates sh ≡ total gates_in (tags sh)
open_total [] = refl
open_total (p ∷ sh) = omega (arith, open_total sh)

open_same : (a b : Shown) → tags a ≡ tags b → open_gates a ≡ open_gates b
open_same a b e = open_total a ∙ (ap (total gates_in) e ∙ sym (open_total b))

total_both : (f : Tag → ℕ) (a b : Shown) → total f (tags (a ++ b)) ≡ total f (tags a) + total f (tags b)
total_both f [] b = omega arith
total_both f (p ∷ a) b = omega (arith, total_both f a b)

total_at : (f : Tag → ℕ) (n : ℕ) (ts : List Tag) → total f (tags (shown_at n ts)) ≡ total f ts
total_at f n [] = refl
total_at f n (t ∷ ts) = omega (arith, total_at f n ts)

-- whatever is counted, the first has no more
abbrev IsPart : Shown → Shown → Type 0
IsPart a b = (f : Tag → ℕ) → total f (tags a) ≤ total f (tags b)

part_both : (a b c d : Shown) → IsPart a b → IsPart c d → IsPart (a ++ c) (b ++ d)
part_both a b c d h i f = omega (arith, total_both f a c, total_both f b d, h f, i f)

part_behind : (a b c : Shown) → IsPart a b → IsPart a (c ++ b)
part_behind a b c h f = omega (arith, total_both f c b, h f)

part_same : (a b : Shown) → tags a ≡ tags b → IsPart a b
part_same a b e f = omega (arith, ap (total f) e)

-- ---- what is left

module _ (charts : Charts) (same : (name : List ℕ) (n m : ℕ) → tags (charts.shown name n) ≡ tags (charts.shown name m)) (rs : List Refinement) where
  left_events : (n m : ℕ) (es : List EventNode) → IsPart (events_shown charts n (left_of rs es)) (events_shown charts m es)
  left_events n m [] = λ f. omega arith
  left_events n m (e ∷ es) = by (is_decomposed rs e) (λ i j. left_events i j es)
    where
      by : (b : Bool) → ((i j : ℕ) → IsPart (events_shown charts i (left_of rs es)) (events_shown charts j es)) → IsPart (events_shown charts n (cond (not b) (e ∷ left_of rs es) (left_of rs es))) (events_shown charts m (e ∷ es))
      by true h = part_behind (events_shown charts n (left_of rs es)) (events_shown charts (m + 1) es) (event_shown charts m e) (h n (m + 1))
      by false h = part_both (event_shown charts n e) (event_shown charts m e) (events_shown charts (n + 1) (left_of rs es)) (events_shown charts (m + 1) es) (part_same (event_shown charts n e) (event_shown charts m e) (event_same charts same n m e)) (h (n + 1) (m + 1))

  left_items : (cs : List Call) (n m : ℕ) (xs : WovenItems) → IsPart (items_shown charts cs n (without_decomposed rs xs)) (items_shown charts cs m xs)
  left_items cs n m no_items = λ f. omega arith
  left_items cs n m (item_and (Single e) xs) = by (is_decomposed rs e) (λ i j. left_items cs i j xs)
    where
      by : (b : Bool) → ((i j : ℕ) → IsPart (items_shown charts cs i (without_decomposed rs xs)) (items_shown charts cs j xs))
          → IsPart (items_shown charts cs n (if b then without_decomposed rs xs else item_and (Single e) (without_decomposed rs xs))) (items_shown charts cs m (item_and (Single e) xs))
      by true h = part_behind (items_shown charts cs n (without_decomposed rs xs)) (items_shown charts cs (m + 1) xs) (event_shown charts m e) (h n (m + 1))
      by false h = part_both (event_shown charts n e) (event_shown charts m e) (items_shown charts cs (n + 1) (without_decomposed rs xs)) (items_shown charts cs (m + 1) xs) (part_same (event_shown charts n e) (event_shown charts m e) (event_same charts same n m e)) (h (n + 1) (m + 1))
  left_items cs n m (item_and (Coregion es) xs) =
      part_both (events_shown charts n (left_of rs es)) (events_shown charts m es) (items_shown charts cs (n + length (left_of rs es)) (without_decomposed rs xs)) (items_shown charts cs (m + length es) xs)
      (left_events n m es) (left_items cs (n + length (left_of rs es)) (m + length es) xs)
  left_items cs n m (item_and (Inline form part operands) xs) =
      let x = Inline form part operands in
      part_both (item_shown charts cs n x) (item_shown charts cs m x) (items_shown charts cs (n + item_count charts x) (without_decomposed rs xs)) (items_shown charts cs (m + item_count charts x) xs)
      (part_same (item_shown charts cs n x) (item_shown charts cs m x) (item_same charts same cs n m x)) (left_items cs (n + item_count charts x) (m + item_count charts x) xs)
  left_items cs n m (item_and (Refer part) xs) =
      let x = Refer part in
      part_both (item_shown charts cs n x) (item_shown charts cs m x) (items_shown charts cs (n + item_count charts x) (without_decomposed rs xs)) (items_shown charts cs (m + item_count charts x) xs)
      (part_same (item_shown charts cs n x) (item_shown charts cs m x) (item_same charts same cs n m x)) (left_items cs (n + item_count charts x) (m + item_count charts x) xs)

  -- its room, with that of the events that are gone
  events_left_room : (product : WovenItems → ReferencePart → ℕ) (es : List EventNode) → events_room charts product es ≤ events_room charts product (left_of rs es) + decomposed_room rs es
  events_left_room product [] = omega arith
  events_left_room product (e ∷ es) = by (is_decomposed rs e) (events_left_room product es)
    where
      by : (b : Bool) → events_room charts product es ≤ events_room charts product (left_of rs es) + decomposed_room rs es
          → events_room charts product (e ∷ es) ≤ events_room charts product (cond (not b) (e ∷ left_of rs es) (left_of rs es)) + ((if b then 3 + order_count e.event else 0) + decomposed_room rs es)
      by true h = omega (arith, h)
      by false h = omega (arith, h)

  left_room : (product : WovenItems → ReferencePart → ℕ) (whole : WovenItems) (n m : ℕ) (xs : WovenItems) → items_room charts product whole n xs ≤ items_room charts product whole m (without_decomposed rs xs) + decomposed_room rs (events xs)
  left_room product whole n m no_items = omega arith
  left_room product whole n m (item_and (Single e) xs) = by (is_decomposed rs e) (λ i j. left_room product whole i j xs)
    where
      by : (b : Bool) → ((i j : ℕ) → items_room charts product whole i xs ≤ items_room charts product whole j (without_decomposed rs xs) + decomposed_room rs (events xs))
          → items_room charts product whole n (item_and (Single e) xs) ≤ items_room charts product whole m (if b then without_decomposed rs xs else item_and (Single e) (without_decomposed rs xs)) + ((if b then 3 + order_count e.event else 0) + decomposed_room rs (events xs))
      by true h = omega (arith, h (n + 1) m)
      by false h = omega (arith, h (n + 1) (m + 1))
  left_room product whole n m (item_and (Coregion es) xs) = omega (arith, events_left_room product es, room_both rs es (events xs), left_room product whole (n + length es) (m + length (left_of rs es)) xs)
  left_room product whole n m (item_and (Inline form part operands) xs) =
      let x = Inline form part operands in
      omega (arith, open_same (operands_shown charts n operands) (operands_shown charts m operands) (operands_same charts same n m operands), left_room product whole (n + item_count charts x) (m + item_count charts x) xs)
  left_room product whole n m (item_and (Refer part) xs) =
      let x = Refer part in
      omega (arith, open_same (expression_shown charts n part.expression) (expression_shown charts m part.expression) (expression_same charts same n m part.expression), left_room product whole (n + item_count charts x) (m + item_count charts x) xs)

-- ---- above refining charts

abbrev AreOwn : List Tag → Type 0
AreOwn [] = Unit {0}
AreOwn (Own k ∷ ts) = AreOwn ts
AreOwn (Via g ∷ ts) = ⊥
AreOwn (On z g ∷ ts) = ⊥

stands_own : (ms : List Match) (d : ℕ) → AreOwn (stands_for ms d)
stands_own [] d = tt
stands_own (m ∷ ms) d = by (m.inner.number == d) (stands_own ms d)
  where
    by : (b : Bool) → AreOwn (stands_for ms d) → AreOwn (if b then Own m.event.number ∷ [] else stands_for ms d)
    by true h = tt
    by false h = h

past_own : (ms : List Match) (a : Tag) → AreOwn (past_refining ms a)
past_own ms (Own d) = stands_own ms d
past_own ms (Via g) = tt
past_own ms (On z g) = tt

-- what isn't counted of own numbers isn't counted there
module _ (f : Tag → ℕ) (none : (k : ℕ) → f (Own k) ≡ 0) where
  own_none : (ts : List Tag) → AreOwn ts → total f ts ≡ 0
  own_none [] h = refl
  own_none (Own k ∷ ts) h = omega (arith, none k, own_none ts h)
  own_none (Via g ∷ ts) h = absurd h
  own_none (On z g ∷ ts) h = absurd h

  past_none : (ms : List Match) (sh : Shown) → total f (tags (past_shown (past_refining ms) sh)) ≡ 0
  past_none ms [] = refl
  past_none ms (p ∷ sh) =
      omega (arith, total_both f (shown_at p.0 (past_refining ms p.1)) (past_shown (past_refining ms) sh), total_at f p.0 (past_refining ms p.1), own_none (past_refining ms p.1) (past_own ms p.1), past_none ms sh)

  refinings_none : (charts : Charts) (n : ℕ) (rs : List Refining) → total f (tags (refinings_shown charts n rs)) ≡ 0
  refinings_none charts n [] = refl
  refinings_none charts n (refining (level cover held pairs) ms ∷ rs) =
      let sh = items_shown charts (calls held) n held in
      omega (arith, total_both f (past_shown (past_refining ms) sh) (refinings_shown charts (n + items_count charts held) rs), past_none ms sh, refinings_none charts (n + items_count charts held) rs)

-- ---- own numbers above a refining chart

abbrev pub only_if : Bool → ℕ → ℕ
only_if true n = n
only_if false n = 0

pub only_both : (b : Bool) (m n : ℕ) → only_if b (m + n) ≡ only_if b m + only_if b n
only_both true m n = omega arith
only_both false m n = omega arith

only_one : (b : Bool) (n : ℕ) → n ≤ 1 → only_if b n ≤ length (number_if b 0 [])
only_one true n l = l
only_one false n l = omega arith

stands_once : (k j n : ℕ) (c e : Bool) (ts : List Tag) → (c ≡ true → e ≡ true) → often (Own k) (shown_at n (if c then Own j ∷ [] else ts)) ≤ only_if (j == k) (length (number_if e 0 [])) + often (Own k) (shown_at n ts)
stands_once k j n true e ts h = by (j == k) (ap (λ b. length (number_if b 0 [])) (h refl))
  where
    by : (b : Bool) → length (number_if e 0 []) ≡ 1 → length (number_if b n []) ≤ only_if b (length (number_if e 0 [])) + often (Own k) (shown_at n ts)
    by true q = omega (arith, q)
    by false q = omega arith
stands_once k j n false e ts h = omega arith

module _ (k : ℕ) (m : Match) (ms : List Match) where
  tag_stands : (n : ℕ) (a : Tag) → often (Own k) (shown_at n (past_refining (m ∷ ms) a)) ≤ only_if (m.event.number == k) (is_one (Own m.inner.number) a) + often (Own k) (shown_at n (past_refining ms a))
  tag_stands n (Own d) =
      stands_once k m.event.number n (m.inner.number == d) (d == m.inner.number) (stands_for ms d) (λ q. (Decides-eqb d m.inner.number).1 (sym ((Decides-eqb m.inner.number d).0 q)))
  tag_stands n (Via g) = omega arith
  tag_stands n (On z g) = omega arith

  first_stands : (sh : Shown) → often (Own k) (past_shown (past_refining (m ∷ ms)) sh) ≤ only_if (m.event.number == k) (often (Own m.inner.number) sh) + often (Own k) (past_shown (past_refining ms) sh)
  first_stands [] = omega arith
  first_stands (p ∷ sh) =
      let here = ap (only_if (m.event.number == k)) (if_length (is_same_tag p.1 (Own m.inner.number)) p.0 (numbers_with (Own m.inner.number) sh)) in
      omega (
        arith,
        often_both (Own k) (shown_at p.0 (past_refining (m ∷ ms) p.1)) (past_shown (past_refining (m ∷ ms)) sh),
        often_both (Own k) (shown_at p.0 (past_refining ms p.1)) (past_shown (past_refining ms) sh),
        here,
        only_both (m.event.number == k) (is_one (Own m.inner.number) p.1) (often (Own m.inner.number) sh),
        tag_stands p.0 p.1,
        first_stands sh,
      )

past_nothing : (k : ℕ) (sh : Shown) → often (Own k) (past_shown (past_refining []) sh) ≡ 0
past_nothing k [] = refl
past_nothing k ((n, Own d) ∷ sh) = past_nothing k sh
past_nothing k ((n, Via g) ∷ sh) = past_nothing k sh
past_nothing k ((n, On z g) ∷ sh) = past_nothing k sh

-- how often the event of that number is matched
abbrev stood : ℕ → List Match → ℕ
stood k [] = 0
stood k (m ∷ ms) = length (number_if (m.event.number == k) 0 []) + stood k ms

stood_both : (k : ℕ) (a b : List Match) → stood k (a ++ b) ≡ stood k a + stood k b
stood_both k [] b = omega arith
stood_both k (m ∷ a) b = omega (arith, stood_both k a b)

stands_most : (k : ℕ) (ms : List Match) (sh : Shown) → ((d : ℕ) → often (Own d) sh ≤ 1) → often (Own k) (past_shown (past_refining ms) sh) ≤ stood k ms
stands_most k [] sh one = omega (arith, past_nothing k sh)
stands_most k (m ∷ ms) sh one = omega (arith, first_stands k m ms sh, only_one (m.event.number == k) (often (Own m.inner.number) sh) (one m.inner.number), stands_most k ms sh one)

list_stood : (k : ℕ) (e : EventNode) (o : Option EventNode) → stood k (match_list e o) ≤ length (number_if (e.number == k) 0 [])
list_stood k e None = omega arith
list_stood k e (Some d) = omega arith

matches_stood : (k : ℕ) (inner before es : List EventNode) → stood k (matches_behind inner before es) ≤ tally k (node_numbers es)
matches_stood k inner before [] = omega (arith, tally_none k)
matches_stood k inner before (e ∷ es) =
    let o = slice_get (all_like e inner) (count_by (is_like e) before) in
    omega (arith, stood_both k (match_list e o) (matches_behind inner (before ++ e ∷ []) es), list_stood k e o, matches_stood k inner (before ++ e ∷ []) es, tally_cons k e.number (node_numbers es))

-- ---- each event is left, or is of one decomposed instance

turned : (a b : List ℕ) → bytes_eq a b ≡ bytes_eq b a
turned a b = by (bytes_eq a b) (bytes_eq b a) refl refl
  where
    by : (x y : Bool) → bytes_eq a b ≡ x → bytes_eq b a ≡ y → x ≡ y
    by true true p q = refl
    by false false p q = refl
    by true false p q = sym ((bytes_eq-Decides b a).1 (sym ((bytes_eq-Decides a b).0 p))) ∙ q
    by false true p q = sym p ∙ (bytes_eq-Decides a b).1 (sym ((bytes_eq-Decides b a).0 q))

module _ (k : ℕ) (r : Refinement) (rs : List Refinement) (once : list_any (λ (q : Refinement). bytes_eq q.instance r.instance) rs ≡ false) where
  not_again : (e : EventNode) → bytes_eq e.at r.instance ≡ true → is_decomposed rs e ≡ false
  not_again e h = ap (λ (i : List ℕ). list_any (λ (q : Refinement). bytes_eq q.instance i) rs) ((bytes_eq-Decides e.at r.instance).0 h) ∙ once

  one_apart : (e : EventNode) (as_ bs cs : List EventNode) (x y z : Bool) → x ≡ y → (x ≡ true → z ≡ false) → tally k (node_numbers as_) + tally k (node_numbers bs) ≤ tally k (node_numbers cs)
      → tally k (node_numbers (cond x (e ∷ as_) as_)) + tally k (node_numbers (cond (not (y || z)) (e ∷ bs) bs)) ≤ tally k (node_numbers (cond (not z) (e ∷ cs) cs))
  one_apart e as_ bs cs true true true q f h = let g = f refl in absurd cc
  one_apart e as_ bs cs true true false q f h = omega (arith, h, tally_cons k e.number (node_numbers as_), tally_cons k e.number (node_numbers cs))
  one_apart e as_ bs cs false false true q f h = h
  one_apart e as_ bs cs false false false q f h = omega (arith, h, tally_cons k e.number (node_numbers bs), tally_cons k e.number (node_numbers cs))
  one_apart e as_ bs cs true false z q f h = absurd cc
  one_apart e as_ bs cs false true z q f h = absurd cc

  apart_tally : (es : List EventNode) → tally k (node_numbers (events_at r.instance es)) + tally k (node_numbers (left_of (r ∷ rs) es)) ≤ tally k (node_numbers (left_of rs es))
  apart_tally [] = omega (arith, tally_none k)
  apart_tally (e ∷ es) =
      one_apart e (events_at r.instance es) (left_of (r ∷ rs) es) (left_of rs es) (bytes_eq e.at r.instance) (bytes_eq r.instance e.at) (is_decomposed rs e) (turned e.at r.instance) (not_again e) (apart_tally es)

-- how many events of decomposed instances have that number
abbrev decomposed_tally : ℕ → List Refinement → List EventNode → ℕ
decomposed_tally k [] es = 0
decomposed_tally k (r ∷ rs) es = tally k (node_numbers (events_at r.instance es)) + decomposed_tally k rs es

all_left : (k : ℕ) (es : List EventNode) → tally k (node_numbers (left_of [] es)) ≡ tally k (node_numbers es)
all_left k [] = refl
all_left k (e ∷ es) = omega (arith, tally_cons k e.number (node_numbers es), tally_cons k e.number (node_numbers (left_of [] es)), all_left k es)

each_tally : (k : ℕ) (rs : List Refinement) (es : List EventNode) → DecomposeOnce rs → decomposed_tally k rs es + tally k (node_numbers (left_of rs es)) ≤ tally k (node_numbers es)
each_tally k [] es o = omega (arith, all_left k es)
each_tally k (r ∷ rs) es (o, os) = omega (arith, apart_tally k r rs o es, each_tally k rs es os)

left_both : (rs : List Refinement) (a b : List EventNode) → left_of rs (a ++ b) ≡ left_of rs a ++ left_of rs b
left_both rs [] b = refl
left_both rs (e ∷ a) b = by (is_decomposed rs e) (left_both rs a b)
  where
    by : (x : Bool) → left_of rs (a ++ b) ≡ left_of rs a ++ left_of rs b → cond (not x) (e ∷ left_of rs (a ++ b)) (left_of rs (a ++ b)) ≡ cond (not x) (e ∷ left_of rs a) (left_of rs a) ++ left_of rs b
    by true h = h
    by false h = ap (λ l. e ∷ l) h

left_are : (rs : List Refinement) (xs : WovenItems) → events (without_decomposed rs xs) ≡ left_of rs (events xs)
left_are rs no_items = refl
left_are rs (item_and (Single e) xs) = by (is_decomposed rs e) (left_are rs xs)
  where
    by : (x : Bool) → events (without_decomposed rs xs) ≡ left_of rs (events xs) → events (if x then without_decomposed rs xs else item_and (Single e) (without_decomposed rs xs)) ≡ cond (not x) (e ∷ left_of rs (events xs)) (left_of rs (events xs))
    by true h = h
    by false h = ap (λ l. e ∷ l) h
left_are rs (item_and (Coregion es) xs) = ap (λ l. left_of rs es ++ l) (left_are rs xs) ∙ sym (left_both rs es (events xs))
left_are rs (item_and (Inline form part operands) xs) = left_are rs xs
left_are rs (item_and (Refer part) xs) = left_are rs xs

-- ---- a body with its refining charts

module _ (charts : Charts) (same : (name : List ℕ) (n m : ℕ) → tags (charts.shown name n) ≡ tags (charts.shown name m)) (Few : List ℕ → Type 0) (table : Table) where
  refinings_tally : (k n : ℕ) (held : WovenItems) (rs : List Refinement) → AreFewRefined Few table rs → often (Own k) (refinings_shown charts n (refinings table held rs)) ≤ decomposed_tally k rs (events held)
  refinings_tally k n held [] few = omega arith
  refinings_tally k n held (r ∷ rs) (few, fews) = by (body_at table r.chart) few (λ m. refinings_tally k m held rs fews)
    where
      by : (o : Option Body) → IsFewBody Few o → ((m : ℕ) → often (Own k) (refinings_shown charts m (refinings table held rs)) ≤ decomposed_tally k rs (events held))
          → often (Own k) (refinings_shown charts n (refining_by r.instance held o ++ refinings table held rs)) ≤ tally k (node_numbers (events_at r.instance (events held))) + decomposed_tally k rs (events held)
      by None f h = omega (arith, h n)
      by (Some (level cover inner pairs)) (own, f) h =
          let sh = items_shown charts (calls inner) n inner in
          let ms = matches r.instance held inner in
          let one : (d : ℕ) → often (Own d) sh ≤ 1 = λ d. omega (arith, items_tally charts (calls inner) d n inner, tally_once d (node_numbers (events inner)) own.numbers) in
          omega (
            arith,
            often_both (Own k) (past_shown (past_refining ms) sh) (refinings_shown charts (n + items_count charts inner) (refinings table held rs)),
            stands_most k ms sh one,
            matches_stood k (env_events (events inner)) [] (events_at r.instance (events held)),
            h (n + items_count charts inner),
          )

  module _ (n : ℕ) (rs : List Refinement) (once : DecomposeOnce rs) (held : WovenItems) (few : AreFewRefined Few table rs) where
    abbrev left : WovenItems
    left = without_decomposed rs held

    -- the tags of the whole body
    abbrev all : Shown
    all = items_shown charts (calls held) n held

    -- where own numbers aren't counted
    refined_part : (f : Tag → ℕ) → ((k : ℕ) → f (Own k) ≡ 0) → total f (tags (refined_shown charts table n rs held)) ≤ total f (tags all)
    refined_part f none =
        omega (arith, total_both f (items_shown charts (calls held) n left) (refinings_shown charts (n + items_count charts left) (refinings table held rs)), left_items charts same rs (calls held) n n held f, refinings_none f none charts (n + items_count charts left) (refinings table held rs))

    refined_own : (k : ℕ) → often (Own k) (refined_shown charts table n rs held) ≤ often (Own k) all
    refined_own k =
        let are = ap (λ (es : List EventNode). tally k (node_numbers es)) (left_are rs held) in
        omega (
          arith,
          often_both (Own k) (items_shown charts (calls held) n left) (refinings_shown charts (n + items_count charts left) (refinings table held rs)),
          items_tally charts (calls held) k n left,
          are,
          refinings_tally k (n + items_count charts left) held rs few,
          each_tally k rs (events held) once,
          items_tally charts (calls held) k n held,
        )

    pub refined_often : (t : Tag) → often t (refined_shown charts table n rs held) ≤ often t all
    refined_often (Own k) = refined_own k
    refined_often (Via g) = omega (arith, often_total (Via g) (refined_shown charts table n rs held), often_total (Via g) all, refined_part (is_one (Via g)) (λ k. refl))
    refined_often (On z g) = omega (arith, often_total (On z g) (refined_shown charts table n rs held), often_total (On z g) all, refined_part (is_one (On z g)) (λ k. refl))

    refined_open : open_gates (refined_shown charts table n rs held) ≤ open_gates all
    refined_open = omega (arith, open_total (refined_shown charts table n rs held), open_total all, refined_part gates_in (λ k. refl))

    fewer_tied : (ts : List (Tag × Tag)) → length (tied_numbers (refined_shown charts table n rs held) ts) ≤ length (tied_numbers all ts)
    fewer_tied [] = omega arith
    fewer_tied (t ∷ ts) =
        let sh = refined_shown charts table n rs held in
        omega (
          arith,
          length_app (pairs_between (numbers_with t.0 sh) (numbers_with t.1 sh)) (tied_numbers sh ts),
          length_app (pairs_between (numbers_with t.0 all) (numbers_with t.1 all)) (tied_numbers all ts),
          between_length (numbers_with t.0 sh) (numbers_with t.1 sh),
          between_length (numbers_with t.0 all) (numbers_with t.1 all),
          mul-le (often t.0 sh) (often t.1 sh) (often t.0 all) (often t.1 all) (refined_often t.0) (refined_often t.1),
          fewer_tied ts,
        )

    pub refined_room : (product : WovenItems → ReferencePart → ℕ) (ts : List (Tag × Tag)) → HaveRoom (length (tied_numbers all ts)) (open_gates (past_shown past_level all)) (items_room charts product held n held)
        → HaveRoom (length (tied_numbers (refined_shown charts table n rs held) ts)) (open_gates (past_shown past_level (refined_shown charts table n rs held))) (items_room charts product held n left + decomposed_room rs (events held))
    refined_room product ts room =
        let sh = refined_shown charts table n rs held in
        record {
          some = λ l. let many = room.some (omega (arith, l, fewer_tied ts)) in omega (arith, many, fewer_tied ts, refined_open, level_open sh, level_open all, left_room charts same rs product held n n held);
          any = omega (arith, room.any, refined_open, level_open sh, level_open all, left_room charts same rs product held n n held);
        }
