-- The numbers of the events of an expansion rise where charts are written in order, so they are ranks.
use Rattle.std.proofs.Common.{◌≡◌, ◌∙◌, ◌<◌, ◌≤◌, ◌==◌, cond, inl, inr, ℕ, zero, suc, Bool, true, false, List, [], ◌∷◌, ◌++◌, Option, Some, None, refl, sym, subst, ap, map, filter, arith, append-nil}
use Rattle.std.proofs.lemmas.Bool.Decides.{Decides-eqb}
use Rattle.msc_base.specs.declared.label.Pair.{Pair}
use Rattle.msc_base.specs.Orders.{Among, first, later}
use Rattle.msc_unfolding.specs.Unfoldings.{Tag, Own, Via, On, is_same_tag, past_level}
use Rattle.hmsc_graph.specs.declared.shape.Shape.{Shape}
use Rattle.graph_shapes.specs.GraphShapes.{shape_of}
use Rattle.msc_tree.specs.Graphs.{Graph, graph}
use Rattle.msc_tree.specs.declared.reference.InlineForm.{InlineForm}
use Rattle.msc_tree.specs.declared.reference.InlineForm.TheVariants as inline
use Rattle.msc_tree.specs.Expressions.{Expression, Empty, Chart, Alt, Par, Seq, Opt, Loop, Expressions, none, more}
use Rattle.msc_meaning.specs.Bodies.{EventNode, InlinePart, Body, level, WovenItems, no_items, item_and, WovenItem, Single, Coregion, Inline, Refer, Bodies, no_bodies, body_and, events, item_events}
use Rattle.msc_meaning.specs.Calls.{calls, event_calls, events_calls, joins_calls}
use Rattle.msc_meaning.specs.ChartUnfoldings.{gates_of, under}
use Rattle.msc_meaning.specs.FarEnds.{GateMap, no_gates, Around, Gates, gate_tags, gates_referred, inside, happening}
use Rattle.msc_meaning.specs.Tables.{Table, ChartEntry, Woven, Basic, HighLevel, Refinement, chart_at}
use Rattle.msc_meaning.specs.Ties.{after_pairs, before_pairs, event_ties, items_joins_ties, joins_ties, labelled, level_pairs, order_pairs, own_ties, past_inline, past_reference, ties}
use Rattle.expansion_order.specs.Ranks.{AreRanked, AreRankedInRow, DoPrecede, IsRanked}
use Rattle.expansion_order.specs.Stops.{all_counted, all_stops, counted, numbered, stops}
use Rattle.expansion_order.specs.declared.stops.Stop.{Stop}
use Rattle.expansion_order.proofs.Drawn.{among_either}
use Rattle.expanded_charts.specs.Expanding.{Expanded, ExpandedParts, Shown, Charts, expand, expand_all, expand_charts, expand_entry, expand_events, expand_graph, expand_item, expand_items, expand_level, expand_lines, expand_operands, expand_woven, aside, event, exception, in_row, inline_by, nothing, numbers_with, one_of, or_nothing, pairs_between, past, past_shown, put, tied, tied_pairs, turns, walk}
use Rattle.expanded_charts.specs.declared.numbering.Numbering.{Numbering}
use Rattle.gate_ends.specs.FoundEnds.{AreAll, items_names, item_names, level_names, operands_names}
use Rattle.msc_meaning.specs.InnerEvents.{GateEnd, charts_in, charts_in_all}
use Rattle.msc_tree.specs.declared.event.Target.{Target}
use Rattle.msc_tree.specs.declared.event.Target.TheVariants.{Nobody, Env, Instance, Gate}
use Rattle.written_order.specs.Rising.{AreRisingBodies, AreRisingItems, IsAtNoGate, IsRisingBody, IsRisingEntry, IsRisingItem, IsRisingTo, IsRisingWoven, RiseTo}
use Rattle.written_order.specs.RisingLaws.{RisingChartsAreRanked}
use Rattle.written_order.proofs.Between.{AllStay, AreFrom, Stays, chart_stays, event_within, from_both, lines_stay, view, views, walk_stays}

all_left : (P : List ℕ → Type 0) (xs ys : List (List ℕ)) → AreAll P (xs ++ ys) → AreAll P xs
all_left P [] ys h = tt
all_left P (x ∷ xs) ys h = (h.0, all_left P xs ys h.1)

all_right : (P : List ℕ → Type 0) (xs ys : List (List ℕ)) → AreAll P (xs ++ ys) → AreAll P ys
all_right P [] ys h = h
all_right P (x ∷ xs) ys h = all_right P xs ys h.1

-- ---- numbers of an interval

precede : (lo mid hi : ℕ) (ss ts : List Stop) → AreFrom lo mid ss → AreFrom mid hi ts → DoPrecede (λ k. k) ss ts
precede lo mid hi ss ts f g s t a b at = let x = (f s a).1 in let y = (g t b).0 in omega (arith, x, y)

-- a loop's stops have its number
all_one : (n hi : ℕ) → n < hi → (ss : List Stop) → AreFrom n hi (map (numbered n) ss)
all_one n hi low [] s h = elim h [ ]
all_one n hi low (t ∷ ss) _ first = (omega arith, low)
all_one n hi low (t ∷ ss) s (later l) = all_one n hi low ss s l

one_number : (n hi : ℕ) (ss : List Stop) → AreFrom n hi ss → AreFrom n hi (map (numbered n) ss)
one_number n hi [] f s h = elim h [ ]
one_number n hi (t ∷ ss) f s h = all_one n hi (let x = f t first in omega (arith, x)) (t ∷ ss) s h

-- ---- parts

module _ (s : Numbering) where
  -- the part's numbers are those of the interval, and they are ranks
  record Rises (n : ℕ) (e : Expanded) : Type 0 where
    order : n ≤ e.next
    within : AreFrom n e.next (stops (view s e.part))
    counted_within : AreFrom n e.next (counted (view s e.part))
    ranked : IsRanked (λ k. k) (view s e.part)

  record AllRise (n : ℕ) (ps : ExpandedParts) : Type 0 where
    order : n ≤ ps.next
    within : AreFrom n ps.next (all_stops (views s ps.parts))
    counted_within : AreFrom n ps.next (all_counted (views s ps.parts))
    row : AreRankedInRow (λ k. k) (views s ps.parts)
    each : AreRanked (λ k. k) (views s ps.parts)

  none_rise : (n : ℕ) → AllRise n (nothing n)
  none_rise n = record { order = omega arith; within = λ t h. elim h [ ]; counted_within = λ t h. elim h [ ]; row = tt; each = tt }

  both_rise : (n : ℕ) (e : Expanded) (ps : ExpandedParts) → Rises n e → AllRise e.next ps → AllRise n (put e ps)
  both_rise n e ps f g = record {
    order = let a = f.order in let b = g.order in omega (arith, a, b);
    within = from_both n e.next ps.next (stops (view s e.part)) (all_stops (views s ps.parts)) f.order g.order f.within g.within;
    counted_within = from_both n e.next ps.next (counted (view s e.part)) (all_counted (views s ps.parts)) f.order g.order f.counted_within g.counted_within;
    row = (f.ranked, (λ x. precede n e.next ps.next (counted (view s e.part)) (all_counted (views s ps.parts)) f.counted_within g.counted_within), g.row);
    each = (f.ranked, g.each);
  }

  row_rises : (n : ℕ) (ps : ExpandedParts) → AllRise n ps → Rises n (in_row ps)
  row_rises n ps f = record { order = f.order; within = f.within; counted_within = f.counted_within; ranked = f.row }

  aside_rises : (n : ℕ) (ps : ExpandedParts) → AllRise n ps → Rises n (aside ps)
  aside_rises n ps f = record { order = f.order; within = f.within; counted_within = f.counted_within; ranked = f.each }

  choice_rises : (n : ℕ) (ps : ExpandedParts) → AllRise n ps → Rises n (one_of ps)
  choice_rises n ps f = record { order = f.order; within = f.within; counted_within = f.counted_within; ranked = f.each }

  option_rises : (n : ℕ) (e : Expanded) → Rises n e → Rises n (or_nothing e)
  option_rises n e f = record {
    order = f.order;
    within = subst (AreFrom n e.next) (sym (append-nil (stops (view s e.part)))) f.within;
    counted_within = subst (AreFrom n e.next) (sym (append-nil (counted (view s e.part)))) f.counted_within;
    ranked = (f.ranked, (tt, tt));
  }

  exception_rises : (n : ℕ) (e : Expanded) → Rises n e → Rises n (exception e)
  exception_rises n e f = record { order = f.order; within = f.within; counted_within = f.counted_within; ranked = f.ranked }

  turns_rise : (n lower : ℕ) (upper : Option ℕ) (e : Expanded) → Rises n e → Rises n (turns n lower upper e)
  turns_rise n lower upper e f = record { order = f.order; within = f.within; counted_within = one_number n e.next (stops (view s e.part)) f.within; ranked = ((λ k. k), f.ranked) }

  -- what the nodes of a walk come to has numbers above its own, however their charts are written
  walk_rises : (n : ℕ) (shape : Shape) (ps : ExpandedParts) → AllStay s (suc n) ps → Rises n (walk n shape ps)
  walk_rises n shape ps f =
      let r = walk_stays s n shape ps f in
      record { order = r.order; within = r.within; counted_within = all_one n ps.next (let a = f.order in omega (arith, a)) (all_stops (views s ps.parts)); ranked = tt }

  past_rises : (f : Tag → List Tag) (n : ℕ) (e : Expanded) → Rises n e → Rises n (past f e)
  past_rises f n e r = record { order = r.order; within = r.within; counted_within = r.counted_within; ranked = r.ranked }

  form_rises : (form : InlineForm) (part : InlinePart) (n : ℕ) (ps : ExpandedParts) → AllRise n ps → Rises n (inline_by form part n ps)
  form_rises inline.Alt part n ps f = choice_rises n ps f
  form_rises inline.Opt part n ps f = option_rises n (one_of ps) (choice_rises n ps f)
  form_rises inline.Par part n ps f = aside_rises n ps f
  form_rises inline.Exc part n ps f = exception_rises n (one_of ps) (choice_rises n ps f)
  form_rises inline.Loop part n ps f = turns_rise n part.lower part.upper (one_of ps) (choice_rises n ps f)

-- ---- what is shown

-- numbers from n on and below hi, of events with numbers of their own from low on and below top, both rising
abbrev ShownTo : ℕ → ℕ → Shown → ℕ → ℕ → Type 0
ShownTo n low [] hi top = (n ≤ hi) × (low ≤ top)
ShownTo n low ((m, Own k) ∷ sh) hi top = ((n ≤ m) × (low ≤ k)) × ShownTo (suc m) (suc k) sh hi top
ShownTo n low ((m, Via g) ∷ sh) hi top = ⊥
ShownTo n low ((m, On z g) ∷ sh) hi top = ⊥

lower : (n p low cut hi top : ℕ) (sh : Shown) → n ≤ p → low ≤ cut → ShownTo p cut sh hi top → ShownTo n low sh hi top
lower n p low cut hi top [] a b h = let x = h.0 in let y = h.1 in (omega (arith, a, x), omega (arith, b, y))
lower n p low cut hi top ((m, Own k) ∷ sh) a b h = let x = h.0.0 in let y = h.0.1 in ((omega (arith, a, x), omega (arith, b, y)), h.1)
lower n p low cut hi top ((m, Via g) ∷ sh) a b h = h
lower n p low cut hi top ((m, On z g) ∷ sh) a b h = h

shown_both : (n low mid cut hi top : ℕ) (sh th : Shown) → ShownTo n low sh mid cut → ShownTo mid cut th hi top → ShownTo n low (sh ++ th) hi top
shown_both n low mid cut hi top [] th f g = lower n mid low cut hi top th f.0 f.1 g
shown_both n low mid cut hi top ((m, Own k) ∷ sh) th f g = (f.0, shown_both (suc m) (suc k) mid cut hi top sh th f.1 g)
shown_both n low mid cut hi top ((m, Via h) ∷ sh) th f g = f
shown_both n low mid cut hi top ((m, On z h) ∷ sh) th f g = f

none_above : (n low hi top : ℕ) (sh : Shown) → ShownTo n low sh hi top → past_shown past_level sh ≡ []
none_above n low hi top [] h = refl
none_above n low hi top ((m, Own k) ∷ sh) h = none_above (suc m) (suc k) hi top sh h.1
none_above n low hi top ((m, Via g) ∷ sh) h = absurd h
none_above n low hi top ((m, On z g) ∷ sh) h = absurd h

abbrev numbers_in : Bool → ℕ → Tag → Shown → List ℕ
numbers_in b m a sh = map (λ (p : ℕ × Tag). p.0) (cond b ((m, a) ∷ sh) sh)

abbrev those_of : ℕ → Shown → Shown
those_of a sh = filter (λ (p : ℕ × Tag). is_same_tag p.1 (Own a)) sh

same_number : (k a : ℕ) → (k == a) ≡ true → k ≡ a
same_number k a h = (Decides-eqb k a).0 h

in_shown : (n low hi top : ℕ) (sh : Shown) → ShownTo n low sh hi top → (a x : ℕ) → Among x (numbers_with (Own a) sh) → (n ≤ x) × (low ≤ a)
in_shown n low hi top [] h a x i = elim i [ ]
in_shown n low hi top ((m, Via g) ∷ sh) h a x i = absurd h
in_shown n low hi top ((m, On z g) ∷ sh) h a x i = absurd h
in_shown n low hi top ((m, Own k) ∷ sh) h a x i = by (k == a) refl x i (in_shown (suc m) (suc k) hi top sh h.1 a)
  where
    by : (b : Bool) → (k == a) ≡ b → (x : ℕ) → Among x (numbers_in b m (Own k) (those_of a sh)) → ((y : ℕ) → Among y (numbers_with (Own a) sh) → (suc m ≤ y) × (suc k ≤ a)) → (n ≤ x) × (low ≤ a)
    by true e _ first f = let same = same_number k a e in let u = h.0.0 in let v = h.0.1 in (u, omega (arith, v, same))
    by true e x (later l) f = let r = f x l in let p = r.0 in let q = r.1 in let u = h.0.0 in let v = h.0.1 in (omega (arith, p, u), omega (arith, q, v))
    by false e x l f = let r = f x l in let p = r.0 in let q = r.1 in let u = h.0.0 in let v = h.0.1 in (omega (arith, p, u), omega (arith, q, v))

rising : (n low hi top : ℕ) (sh : Shown) → ShownTo n low sh hi top → (a b x y : ℕ) → a < b → Among x (numbers_with (Own a) sh) → Among y (numbers_with (Own b) sh) → x < y
rising n low hi top [] h a b x y less i j = elim i [ ]
rising n low hi top ((m, Via g) ∷ sh) h a b x y less i j = absurd h
rising n low hi top ((m, On z g) ∷ sh) h a b x y less i j = absurd h
rising n low hi top ((m, Own k) ∷ sh) h a b x y less i j = by (k == a) (k == b) refl refl x y i j (in_shown (suc m) (suc k) hi top sh h.1) (rising (suc m) (suc k) hi top sh h.1 a b)
  where
    by : (c d : Bool) → (k == a) ≡ c → (k == b) ≡ d → (x y : ℕ) → Among x (numbers_in c m (Own k) (those_of a sh)) → Among y (numbers_in d m (Own k) (those_of b sh))
        → ((o z : ℕ) → Among z (numbers_with (Own o) sh) → (suc m ≤ z) × (suc k ≤ o)) → ((u v : ℕ) → a < b → Among u (numbers_with (Own a) sh) → Among v (numbers_with (Own b) sh) → u < v) → x < y
    by true true e f x y i j g r = let p = same_number k a e in let q = same_number k b f in absurd (omega (arith, p, q, less))
    by true false e f _ y first j g r = let p = (g b y j).0 in omega (arith, p)
    by true false e f x y (later i) j g r = r x y less i j
    by false true e f x _ i first g r = let p = (g a x i).1 in let q = same_number k b f in absurd (omega (arith, p, q, less))
    by false true e f x y i (later j) g r = r x y less i j
    by false false e f x y i j g r = r x y less i j

-- ---- pairs

abbrev of_first : ℕ → ℕ → Pair
of_first m n = record { first = m; second = n }

among_with : (m : ℕ) (ns : List ℕ) (p : Pair) → Among p (map (of_first m) ns) → (p.first ≡ m) × Among p.second ns
among_with m [] p h = elim h [ ]
among_with m (n ∷ ns) _ first = (refl, first)
among_with m (n ∷ ns) p (later h) = let r = among_with m ns p h in (r.0, later r.1)

among_between : (ms ns : List ℕ) (p : Pair) → Among p (pairs_between ms ns) → Among p.first ms × Among p.second ns
among_between [] ns p h = elim h [ ]
among_between (m ∷ ms) ns p h = elim (among_either p (map (of_first m) ns) (pairs_between ms ns) h) [
  | inl l ↦ let r = among_with m ns p l in (subst (λ (x : ℕ). Among x (m ∷ ms)) (sym r.0) first, r.1)
  | inr l ↦ let r = among_between ms ns p l in (later r.0, r.1)
]

ties_rise : (n low hi top : ℕ) (sh : Shown) → ShownTo n low sh hi top → (qs : List Pair) → ((q : Pair) → Among q qs → q.first < q.second) → (p : Pair) → Among p (tied_pairs sh (own_ties qs)) → p.first < p.second
ties_rise n low hi top sh h [] up p i = elim i [ ]
ties_rise n low hi top sh h (q ∷ qs) up p i = elim (among_either p (pairs_between (numbers_with (Own q.first) sh) (numbers_with (Own q.second) sh)) (tied_pairs sh (own_ties qs)) i) [
  | inl l ↦ let r = among_between (numbers_with (Own q.first) sh) (numbers_with (Own q.second) sh) p l in rising n low hi top sh h q.first q.second p.first p.second (up q first) r.0 r.1
  | inr l ↦ ties_rise n low hi top sh h qs (λ x k. up x (later k)) p l
]

-- events that are ordered with none by their names have no other pairs
free_pairs : (named : List ℕ → List ℕ) (low hi : ℕ) (ks : List EventNode) → RiseTo low ks hi → order_pairs named ks ≡ []
free_pairs named low hi [] h = refl
free_pairs named low hi (k ∷ ks) h =
    ap (λ (l : List (List ℕ)). before_pairs named k.number l ++ (after_pairs named k.number k.event.order.later_than ++ order_pairs named ks)) h.0.1.0
    ∙ (ap (λ (l : List (List ℕ)). after_pairs named k.number l ++ order_pairs named ks) h.0.1.1 ∙ free_pairs named (suc k.number) hi ks h.1)

level_pairs_are : (held : WovenItems) (pairs : List Pair) (hi : ℕ) → RiseTo 0 (events held) hi → level_pairs held pairs ≡ pairs
level_pairs_are held pairs hi h = ap (λ l. pairs ++ l) (free_pairs (labelled (events held)) 0 hi (events held) h) ∙ append-nil pairs

split : (low hi : ℕ) (ks ls : List EventNode) → RiseTo low (ks ++ ls) hi → (mid : ℕ) × RiseTo low ks mid × RiseTo mid ls hi
split low hi [] ls h = (low, omega arith, h)
split low hi (k ∷ ks) ls h = let r = split (suc k.number) hi ks ls h.1 in (r.0, (h.0, r.1), r.2)

-- ---- no gate is called

both_nil : {X : Type 0} (xs ys : List X) → xs ≡ [] → ys ≡ [] → xs ++ ys ≡ []
both_nil xs ys e f = ap (λ z. z ++ ys) e ∙ f

no_tags : (t : Target) → IsAtNoGate t → gate_tags t ≡ []
no_tags Nobody h = refl
no_tags (Env None) h = refl
no_tags (Env (Some gate)) h = absurd h
no_tags (Instance name) h = refl
no_tags (Gate name gate) h = absurd h

no_call : (n : EventNode) (t : Target) → IsAtNoGate t → event_calls n t ≡ []
no_call n Nobody h = refl
no_call n (Env gate) h = refl
no_call n (Instance name) h = refl
no_call n (Gate name gate) h = absurd h

no_calls : (low hi : ℕ) (ns : List EventNode) → RiseTo low ns hi → events_calls ns ≡ []
no_calls low hi [] h = refl
no_calls low hi (n ∷ ns) h = both_nil (event_calls n n.event.target) (events_calls ns) (no_call n n.event.target h.0.1.2) (no_calls (suc n.number) hi ns h.1)

no_joined : (ends : List GateEnd) (name : Option (List ℕ)) → joins_ties ends name [] ≡ []
no_joined ends None = refl
no_joined ends (Some own) = refl

none_called : (low hi : ℕ) (xs : WovenItems) → RiseTo low (events xs) hi → AreRisingItems xs → calls xs ≡ []
none_called low hi no_items h up = refl
none_called low hi (item_and (Single n) xs) h up = both_nil (event_calls n n.event.target) (calls xs) (no_call n n.event.target h.0.1.2) (none_called (suc n.number) hi xs h.1 up.1)
none_called low hi (item_and (Coregion ns) xs) h up = let r = split low hi ns (events xs) h in both_nil (events_calls ns) (calls xs) (no_calls low r.0 ns r.1) (none_called r.0 hi xs r.2 up.1)
none_called low hi (item_and (Inline form part bs) xs) h up = none_called low hi xs h up.1
none_called low hi (item_and (Refer part) xs) h up = both_nil (joins_calls part.name part.joins) (calls xs) (ap (joins_calls part.name) up.0) (none_called low hi xs h up.1)

none_joined : (ends : List GateEnd) (xs : WovenItems) → AreRisingItems xs → items_joins_ties ends xs ≡ []
none_joined ends no_items up = refl
none_joined ends (item_and (Single n) xs) up = none_joined ends xs up.1
none_joined ends (item_and (Coregion ns) xs) up = none_joined ends xs up.1
none_joined ends (item_and (Inline form part bs) xs) up = none_joined ends xs up.1
none_joined ends (item_and (Refer part) xs) up = both_nil (joins_ties ends part.name part.joins) (items_joins_ties ends xs) (ap (joins_ties ends part.name) up.0 ∙ no_joined ends part.name) (none_joined ends xs up.1)

ties_are : (hi : ℕ) (xs : WovenItems) (pairs : List Pair) (ends : List GateEnd) → RiseTo 0 (events xs) hi → AreRisingItems xs → ties xs pairs (calls xs) ends ≡ own_ties (level_pairs xs pairs)
ties_are hi xs pairs ends h up =
    ap (λ l. own_ties (level_pairs xs pairs) ++ l) (both_nil (event_ties (calls xs)) (items_joins_ties ends xs) (ap event_ties (none_called 0 hi xs h up)) (none_joined ends xs up)) ∙ append-nil (own_ties (level_pairs xs pairs))

-- ---- charts

module _ (s : Numbering) where
  -- it rises, and shows nothing
  record IsAlone (n : ℕ) (e : Expanded) : Type 0 where
    rise : Rises s n e
    none : e.shown ≡ []

  record AreAlone (n : ℕ) (ps : ExpandedParts) : Type 0 where
    rise : AllRise s n ps
    none : ps.shown ≡ []

  -- it rises, and shows its own events
  record IsShowing (n low mid : ℕ) (e : Expanded) : Type 0 where
    rise : Rises s n e
    shown : ShownTo n low e.shown e.next mid

  record AreShowing (n low hi : ℕ) (ps : ExpandedParts) : Type 0 where
    rise : AllRise s n ps
    shown : ShownTo n low ps.shown ps.next hi

  alone_both : (n : ℕ) (e : Expanded) (ps : ExpandedParts) → IsAlone n e → AreAlone e.next ps → AreAlone n (put e ps)
  alone_both n e ps f g = record { rise = both_rise s n e ps f.rise g.rise; none = ap (λ l. l ++ ps.shown) f.none ∙ g.none }

  showing_both : (n low mid hi : ℕ) (e : Expanded) (ps : ExpandedParts) → IsShowing n low mid e → AreShowing e.next mid hi ps → AreShowing n low hi (put e ps)
  showing_both n low mid hi e ps f g = record { rise = both_rise s n e ps f.rise g.rise; shown = shown_both n low e.next mid ps.next hi e.shown ps.shown f.shown g.shown }

  event_shows : (es : List GateEnd) (a : Around) (n low mid : ℕ) (k : EventNode) → RiseTo low (k ∷ []) mid → IsShowing n low mid (event n (happening es a k))
  event_shows es a n low mid k h =
      let within = event_within s n (happening es a k) in
      record {
        rise = record { order = omega arith; within = within; counted_within = within; ranked = tt };
        shown = subst (λ (l : List Tag). ShownTo n low (map (λ a. (n, a)) (Own k.number ∷ l)) (suc n) mid) (sym (no_tags k.event.target h.0.1.2)) ((omega arith, h.0.0), (omega arith, h.1));
      }

  form_shows : (form : InlineForm) (part : InlinePart) (n : ℕ) (ps : ExpandedParts) → (inline_by form part n ps).shown ≡ ps.shown
  form_shows inline.Alt part n ps = refl
  form_shows inline.Opt part n ps = refl
  form_shows inline.Par part n ps = refl
  form_shows inline.Exc part n ps = refl
  form_shows inline.Loop part n ps = refl

  none_past : (f : Tag → List Tag) (n : ℕ) (e : Expanded) → IsAlone n e → IsAlone n (past f e)
  none_past f n e h = record { rise = past_rises s f n e h.rise; none = ap (past_shown f) h.none }

  raised : (n low mid : ℕ) (e : Expanded) → low ≤ mid → IsAlone n e → IsShowing n low mid e
  raised n low mid e h r = record { rise = r.rise; shown = subst (λ (sh : Shown). ShownTo n low sh e.next mid) (sym r.none) (r.rise.order, h) }

  module _ (ends_of : WovenItems → List GateEnd) (chart : Charts) (P : List ℕ → Type 0) (charts_rise : (name : List ℕ) → P name → (gates : GateMap) (n : ℕ) → IsAlone n (chart name gates n)) where
    events_show : (es : List GateEnd) (a : Around) (n low hi : ℕ) (ks : List EventNode) → RiseTo low ks hi → AreShowing n low hi (expand_events chart ends_of es a n ks)
    events_show es a n low hi [] h = record { rise = none_rise s n; shown = (omega arith, h) }
    events_show es a n low hi (k ∷ ks) h =
        showing_both n low (suc k.number) hi (event n (happening es a k)) (expand_events chart ends_of es a (suc n) ks) (event_shows es a n low (suc k.number) k (h.0, omega arith)) (events_show es a (suc n) (suc k.number) hi ks h.1)

    mutual
      expression_alone : (gates : GateMap) (n : ℕ) (x : Expression) → AreAll P (charts_in x) → IsAlone n (expand chart ends_of gates n x)
      expression_alone gates n Empty h = record { rise = row_rises s n (nothing n) (none_rise s n); none = refl }
      expression_alone gates n (Chart name) h = charts_rise name h.0 gates n
      expression_alone gates n (Alt xs) h = let r = expressions_alone gates n xs h in record { rise = choice_rises s n (expand_all chart ends_of gates n xs) r.rise; none = r.none }
      expression_alone gates n (Par xs) h = let r = expressions_alone gates n xs h in record { rise = aside_rises s n (expand_all chart ends_of gates n xs) r.rise; none = r.none }
      expression_alone gates n (Seq xs) h = let r = expressions_alone gates n xs h in record { rise = row_rises s n (expand_all chart ends_of gates n xs) r.rise; none = r.none }
      expression_alone gates n (Opt x) h = let r = expression_alone gates n x h in record { rise = option_rises s n (expand chart ends_of gates n x) r.rise; none = r.none }
      expression_alone gates n (Loop lo up x) h = let r = expression_alone gates n x h in record { rise = turns_rise s n lo up (expand chart ends_of gates n x) r.rise; none = r.none }

      expressions_alone : (gates : GateMap) (n : ℕ) (xs : Expressions) → AreAll P (charts_in_all xs) → AreAlone n (expand_all chart ends_of gates n xs)
      expressions_alone gates n none h = record { rise = none_rise s n; none = refl }
      expressions_alone gates n (more x xs) h =
          alone_both n (expand chart ends_of gates n x) (expand_all chart ends_of gates (expand chart ends_of gates n x).next xs) (expression_alone gates n x (all_left P (charts_in x) (charts_in_all xs) h))
          (expressions_alone gates (expand chart ends_of gates n x).next xs (all_right P (charts_in x) (charts_in_all xs) h))

    mutual
      level_alone : (a : Around) (n : ℕ) (b : Body) → IsRisingBody b → AreAll P (level_names b) → IsAlone n (expand_level chart ends_of a n b)
      level_alone a n (level cover held pairs) up named =
          let parts = expand_items chart ends_of (gates_of held (ends_of held)) a n held in
          let inside = items_show (gates_of held (ends_of held)) a n 0 up.0.end held up.0.rise up.1 named in
          let sent : (q : Pair) → Among q (level_pairs held pairs) → q.first < q.second = λ q i. up.0.sent q (subst (Among q) (level_pairs_are held pairs up.0.end up.0.rise) i) in
          let row = row_rises s n parts inside.rise in
          subst (λ ts. IsAlone n (past past_level (tied ts (in_row parts)))) (sym (ties_are up.0.end held pairs (ends_of held) up.0.rise up.1)) (record {
            rise = record { order = row.order; within = row.within; counted_within = row.counted_within; ranked = (ties_rise n 0 parts.next up.0.end parts.shown inside.shown (level_pairs held pairs) sent, row.ranked) };
            none = none_above n 0 parts.next up.0.end parts.shown inside.shown;
          })

      items_show : (g : Gates) (a : Around) (n low hi : ℕ) (xs : WovenItems) → RiseTo low (events xs) hi → AreRisingItems xs → AreAll P (items_names xs) → AreShowing n low hi (expand_items chart ends_of g a n xs)
      items_show g a n low hi no_items h up named = record { rise = none_rise s n; shown = (omega arith, h) }
      items_show g a n low hi (item_and x xs) h up named =
          let r = split low hi (item_events x) (events xs) h in
          let e = expand_item chart ends_of g a n x in
          showing_both n low r.0 hi e (expand_items chart ends_of g a e.next xs) (item_shows g a n low r.0 x r.1 up.0 (all_left P (item_names x) (items_names xs) named))
          (items_show g a e.next r.0 hi xs r.2 up.1 (all_right P (item_names x) (items_names xs) named))

      item_shows : (g : Gates) (a : Around) (n low mid : ℕ) (x : WovenItem) → RiseTo low (item_events x) mid → IsRisingItem x → AreAll P (item_names x) → IsShowing n low mid (expand_item chart ends_of g a n x)
      item_shows g a n low mid (Single k) h up named = event_shows g.ends a n low mid k h
      item_shows g a n low mid (Coregion ks) h up named = let r = events_show g.ends a n low mid ks h in record { rise = aside_rises s n (expand_events chart ends_of g.ends a n ks) r.rise; shown = r.shown }
      item_shows g a n low mid (Inline form part operands) h up named =
          let ps = expand_operands chart ends_of (inside g part.name a) n operands in
          let r = operands_alone (inside g part.name a) n operands up named in
          let within : IsAlone n (inline_by form part n ps) = record { rise = form_rises s form part n ps r.rise; none = form_shows form part n ps ∙ r.none } in
          raised n low mid (past (past_inline g.calls part.name) (inline_by form part n ps)) h (none_past (past_inline g.calls part.name) n (inline_by form part n ps) within)
      item_shows g a n low mid (Refer part) h up named =
          let e = expand chart ends_of (gates_referred g part.name part.joins a.gates) n part.expression in
          raised n low mid (past (past_reference g.calls part.name part.joins) e) h (none_past (past_reference g.calls part.name part.joins) n e (expression_alone (gates_referred g part.name part.joins a.gates) n part.expression named))

      operands_alone : (a : Around) (n : ℕ) (bs : Bodies) → AreRisingBodies bs → AreAll P (operands_names bs) → AreAlone n (expand_operands chart ends_of a n bs)
      operands_alone a n no_bodies up named = record { rise = none_rise s n; none = refl }
      operands_alone a n (body_and b bs) up named =
          let e = expand_level chart ends_of a n b in
          alone_both n e (expand_operands chart ends_of a e.next bs) (level_alone a n b up.0 (all_left P (level_names b) (operands_names bs) named)) (operands_alone a e.next bs up.1 (all_right P (level_names b) (operands_names bs) named))

    graph_alone : ((name : List ℕ) (gates : GateMap) (n : ℕ) → Stays s n (chart name gates n)) → (n : ℕ) (drawn : Graph) → IsAlone n (expand_graph chart ends_of n drawn)
    graph_alone stay n (graph starts ls) = record { rise = walk_rises s n (shape_of (graph starts ls)) (expand_lines chart ends_of (suc n) ls) (lines_stay s ends_of chart stay (suc n) ls); none = refl }

-- ---- up by the depth of references

nothing_alone : (s : Numbering) (n : ℕ) → IsAlone s n (in_row (nothing n))
nothing_alone s n = record { rise = row_rises s n (nothing n) (none_rise s n); none = refl }

module _ (s : Numbering) (ends_of : WovenItems → List GateEnd) (table : Table) where
  abbrev IsAloneTo : ℕ → List ℕ → Type 0
  IsAloneTo k name = (gates : GateMap) (n : ℕ) → IsAlone s n (expand_charts ends_of table k name gates n)

  chart_alone : (depth : ℕ) (name : List ℕ) → IsRisingTo table depth name → IsAloneTo depth name
  chart_alone zero name up gates n = nothing_alone s n
  chart_alone (suc k) name up gates n = by (chart_at table name) up (chart_alone k)
    where
      content : (w : Woven) → IsRisingWoven (IsRisingTo table k) w → ((other : List ℕ) → IsRisingTo table k other → IsAloneTo k other) → IsAlone s n (expand_woven (expand_charts ends_of table k) ends_of table gates n [] w)
      content (Basic b) rise below = level_alone s ends_of (expand_charts ends_of table k) (IsRisingTo table k) below (under gates) n b rise.0 rise.1
      content (HighLevel drawn) rise below = graph_alone s ends_of (expand_charts ends_of table k) (IsRisingTo table k) below (chart_stays s ends_of table k) n drawn

      by : (o : Option ChartEntry) → IsRisingEntry (IsRisingTo table k) o → ((other : List ℕ) → IsRisingTo table k other → IsAloneTo k other)
          → IsAlone s n (expand_entry ends_of table (expand_charts ends_of table k) gates n o)
      by None rise below = nothing_alone s n
      by (Some c) rise below =
          subst (λ (rs : List Refinement). IsAlone s n (expand_woven (expand_charts ends_of table k) ends_of table gates n rs c.content)) (sym rise.0) (content c.content rise.1 below)

pub rising_charts_are_ranked : RisingChartsAreRanked
rising_charts_are_ranked = record { ranked = λ ends_of table depth name s up. record { rank = λ k. k; ranked = (chart_alone s ends_of table depth name up no_gates 0).rise.ranked } }
