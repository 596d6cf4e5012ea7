-- Parts of an expansion none of whose ties is of events in loops, by the tags that are still to be seen of them, and of those in loops.
use Rattle.std.specs.Prelude.{ℕ, suc, ◌≤◌, ◌<◌, ◌&&◌, Bool, true, false, filter, if◌then◌else◌, List, [], ◌∷◌, ◌++◌, Option, None, Some, map}
use Rattle.std.proofs.Common.{◌≡◌, ◌∙◌, ◌⊎◌, inl, inr, refl, sym, ap, subst, arith}
use Rattle.std.proofs.lemmas.List.{map-append}
use Rattle.std.proofs.lemmas.Bool.Decides.{Decides-eqb}
use Rattle.std.proofs.lemmas.Slice.Eq.{bytes_eq-Decides}
use Rattle.std.specs.Str.{bytes_eq}
use Rattle.msc_base.specs.declared.label.Pair.{Pair}
use Rattle.msc_base.specs.Orders.{Among, first, later}
use Rattle.msc_unfolding.specs.Unfoldings.{Tag, Own, Via, On, is_same_tag}
use Rattle.msc_tree.specs.declared.event.Target.{Target}
use Rattle.msc_tree.specs.declared.event.Target.TheVariants.{Nobody, Env, Instance, Gate}
use Rattle.msc_meaning.specs.Bodies.{EventNode}
use Rattle.msc_meaning.specs.BodyLevels.{BodyLevel, EachLevel}
use Rattle.msc_meaning.specs.FarEnds.{Around, gate_tags, happening}
use Rattle.msc_meaning.specs.InnerEvents.{GateEnd, InnerEvent, here}
use Rattle.msc_meaning.specs.Ties.{called_tag, via_list}
use Rattle.expansion_tree.specs.Expansions.{Expansion, Expansions, Event, InRow, Aside, OneOf, Exception, Turns, Tied, Walk, no_parts, part_and, all_events_in, events_in}
use Rattle.hmsc_graph.specs.declared.shape.Shape.{Shape}
use Rattle.expanded_charts.specs.Expanding as tree
use Rattle.expanded_charts.specs.Expanding.{NumberedEvent, Expanded, ExpandedParts, Shown, nothing, or_nothing, in_row, aside, exception, turns, tied, past, past_shown, numbers_with, pairs_between, expand_events, expand, expand_all, expand_level, expand_items, expand_item, expand_operands, expand_woven, expand_entry, expand_charts}
use Rattle.gate_ends.specs.FoundEnds.{GateEvents, an_event as one_event, in_loop, listed, looped, is_gate, these_if, event_inner}
use Rattle.sound_terms.proofs.Mapped.{map_among}
use Rattle.sound_terms.proofs.Ordering.{among_left, among_right}
use Rattle.expanded_terms.specs.ExpansionNumbers.{number_of, numbers_of_events}
use Rattle.expanded_terms.specs.RankedTerms.{EachTie, EachTies}
use Rattle.expanded_terms.proofs.TiesWithin.{split_among, flat_among, between_both}

-- ---- tags

and_true : (a b : Bool) → (a && b) ≡ true → (a ≡ true) × (b ≡ true)
and_true true b e = (refl, e)
and_true false b e = absurd cc

same_tag : (a b : Tag) → is_same_tag a b ≡ true → a ≡ b
same_tag (Own m) (Own n) e = ap (λ k. Own k) ((Decides-eqb m n).0 e)
same_tag (Via g) (Via h) e = ap (λ k. Via k) ((bytes_eq-Decides g h).0 e)
same_tag (On z g) (On y h) e = let (a, b) = and_true (bytes_eq z y) (bytes_eq g h) e in ap (λ k. On k g) ((bytes_eq-Decides z y).0 a) ∙ ap (λ k. On y k) ((bytes_eq-Decides g h).0 b)
same_tag (Own m) (Via h) e = absurd cc
same_tag (Own m) (On y h) e = absurd cc
same_tag (Via g) (Own n) e = absurd cc
same_tag (Via g) (On y h) e = absurd cc
same_tag (On z g) (Own n) e = absurd cc
same_tag (On z g) (Via h) e = absurd cc

-- ---- events in loops

abbrev mutual
  -- the numbers of the events in loops and in walks
  pub in_loops : Expansion NumberedEvent → List ℕ
  in_loops (Event e) = []
  in_loops (InRow xs) = all_in_loops xs
  in_loops (Aside xs) = all_in_loops xs
  in_loops (OneOf xs) = all_in_loops xs
  in_loops (Exception x) = in_loops x
  in_loops (Turns n lower upper x) = numbers_of_events x
  in_loops (Tied x ps) = in_loops x
  in_loops (Walk n g xs) = map number_of (all_events_in xs)

  pub all_in_loops : Expansions NumberedEvent → List ℕ
  all_in_loops no_parts = []
  all_in_loops (part_and x xs) = in_loops x ++ all_in_loops xs

abbrev pub IsFreeOf : Expansion NumberedEvent → ℕ → Type 0
IsFreeOf x j = Among j (in_loops x) → ⊥

abbrev pub all_numbers : Expansions NumberedEvent → List ℕ
all_numbers xs = map (λ (e : NumberedEvent). e.number) (all_events_in xs)

abbrev pub IsBetween : ℕ → ℕ → ℕ → Type 0
IsBetween n m j = (n ≤ j) × (j < m)

kept_among : (f : (ℕ × Tag) → Bool) (l : List (ℕ × Tag)) (p : ℕ × Tag) → Among p (filter f l) → Among p l × (f p ≡ true)
kept_among f [] p h = elim h [ ]
kept_among f (q ∷ l) p h = by (f q) refl h (kept_among f l p)
  where
    one : (q p : ℕ × Tag) (k : List (ℕ × Tag)) → f q ≡ true → Among p (q ∷ k) → (Among p k → Among p l × (f p ≡ true)) → Among p (q ∷ l) × (f p ≡ true)
    one q _ k e first g = (first, e)
    one q p k e (later i) g = let (j, d) = g i in (later j, d)

    by : (b : Bool) → f q ≡ b → Among p (if b then q ∷ filter f l else filter f l) → (Among p (filter f l) → Among p l × (f p ≡ true)) → Among p (q ∷ l) × (f p ≡ true)
    by true e i g = one q p (filter f l) e i g
    by false e i g = let (j, d) = g i in (later j, d)

-- a number that has the tag shows it
with_tag : (a : Tag) (sh : Shown) (j : ℕ) → Among j (numbers_with a sh) → Among (j, a) sh
with_tag a sh j h =
    let (p, e, i) = map_among (λ (p : ℕ × Tag). p.0) (filter (λ p. is_same_tag p.1 a) sh) h in
    let (k, s) = kept_among (λ p. is_same_tag p.1 a) sh p i in
    subst (λ (m : ℕ). Among (m, a) sh) e (subst (λ (b : Tag). Among (p.0, b) sh) (same_tag p.1 a s) k)

-- Seen: the tags that may be seen; Looped: those that may be seen of an event in a loop
pub record IsFree (Seen Looped : Tag → Type 0) (n : ℕ) (e : Expanded) : Type 0 where
  pub ties : EachTie IsFreeOf e.part
  pub order : n ≤ e.next
  pub numbers : (j : ℕ) → Among j (numbers_of_events e.part) → IsBetween n e.next j
  pub inner : (j : ℕ) → Among j (in_loops e.part) → IsBetween n e.next j
  pub shown : (p : ℕ × Tag) → Among p e.shown → IsBetween n e.next p.0
  pub seen : (p : ℕ × Tag) → Among p e.shown → Seen p.1
  pub loop : (p : ℕ × Tag) → Among p e.shown → Among p.0 (in_loops e.part) → Looped p.1

pub record AreFree (Seen Looped : Tag → Type 0) (n : ℕ) (l : ExpandedParts) : Type 0 where
  pub ties : EachTies IsFreeOf l.parts
  pub order : n ≤ l.next
  pub numbers : (j : ℕ) → Among j (all_numbers l.parts) → IsBetween n l.next j
  pub inner : (j : ℕ) → Among j (all_in_loops l.parts) → IsBetween n l.next j
  pub shown : (p : ℕ × Tag) → Among p l.shown → IsBetween n l.next p.0
  pub seen : (p : ℕ × Tag) → Among p l.shown → Seen p.1
  pub loop : (p : ℕ × Tag) → Among p l.shown → Among p.0 (all_in_loops l.parts) → Looped p.1

abbrev pub Implies : (Tag → Type 0) → (Tag → Type 0) → Type 0
Implies P Q = (t : Tag) → P t → Q t

module _ (S L : Tag → Type 0) where
  pub none_free : (n : ℕ) → AreFree S L n (nothing n)
  none_free n = record { ties = tt; order = omega arith; numbers = λ j h. elim h [ ]; inner = λ j h. elim h [ ]; shown = λ p h. elim h [ ]; seen = λ p h. elim h [ ]; loop = λ p h. elim h [ ] }

  pub row_free : (n : ℕ) (l : ExpandedParts) → AreFree S L n l → IsFree S L n (in_row l)
  row_free n l h = record { ties = h.ties; order = h.order; numbers = h.numbers; inner = h.inner; shown = h.shown; seen = h.seen; loop = h.loop }

  pub aside_free : (n : ℕ) (l : ExpandedParts) → AreFree S L n l → IsFree S L n (aside l)
  aside_free n l h = record { ties = h.ties; order = h.order; numbers = h.numbers; inner = h.inner; shown = h.shown; seen = h.seen; loop = h.loop }

  pub one_free : (n : ℕ) (l : ExpandedParts) → AreFree S L n l → IsFree S L n (tree.one_of l)
  one_free n l h = record { ties = h.ties; order = h.order; numbers = h.numbers; inner = h.inner; shown = h.shown; seen = h.seen; loop = h.loop }

  pub exception_free : (n : ℕ) (e : Expanded) → IsFree S L n e → IsFree S L n (exception e)
  exception_free n e h = record { ties = h.ties; order = h.order; numbers = h.numbers; inner = h.inner; shown = h.shown; seen = h.seen; loop = h.loop }

  -- all that is seen of a loop is seen of events in a loop
  pub turns_free : (M : Tag → Type 0) → Implies S M → (n lower : ℕ) (upper : Option ℕ) (e : Expanded) → IsFree S L n e → IsFree S M n (turns n lower upper e)
  turns_free M up n lower upper e h = record { ties = h.ties; order = h.order; numbers = h.numbers; inner = h.numbers; shown = h.shown; seen = h.seen; loop = λ p i k. up p.1 (h.seen p i) }

  pub tied_free : (n : ℕ) (ts : List (Tag × Tag)) (e : Expanded) → ((t : Tag × Tag) → Among t ts → (L t.0 → ⊥) × (L t.1 → ⊥)) → IsFree S L n e → IsFree S L n (tied ts e)
  tied_free n ts e out h = record { ties = ((λ p i. pair p (flat_among (λ t. pairs_between (numbers_with t.0 e.shown) (numbers_with t.1 e.shown)) ts p i)), h.ties); order = h.order; numbers = h.numbers; inner = h.inner; shown = h.shown; seen = h.seen; loop = h.loop }
    where
      one : (a : Tag) (j : ℕ) → (L a → ⊥) → Among j (numbers_with a e.shown) → IsFreeOf e.part j
      one a j out i k = out (h.loop (j, a) (with_tag a e.shown j i) k)

      pair : (p : Pair) → (t : Tag × Tag) × Among t ts × Among p (pairs_between (numbers_with t.0 e.shown) (numbers_with t.1 e.shown)) → IsFreeOf e.part p.first × IsFreeOf e.part p.second
      pair p (t, i, k) = let (a, b) = between_both (numbers_with t.0 e.shown) (numbers_with t.1 e.shown) p k in let (u, v) = out t i in (one t.0 p.first u a, one t.1 p.second v b)

  pub put_free : (n : ℕ) (e : Expanded) (l : ExpandedParts) → IsFree S L n e → AreFree S L e.next l → AreFree S L n (tree.put e l)
  put_free n e l h i = record {
    ties = (h.ties, i.ties);
    order = let a = h.order in let b = i.order in omega (arith, a, b);
    numbers = λ j k. elim (split_among (numbers_of_events e.part) (all_numbers l.parts) j (subst (λ (ns : List ℕ). Among j ns) (map-append (λ (e : NumberedEvent). e.number) (events_in e.part) (all_events_in l.parts)) k)) [ inl a ↦ low j (h.numbers j a) | inr a ↦ high j (i.numbers j a) ];
    inner = λ j k. elim (split_among (in_loops e.part) (all_in_loops l.parts) j k) [ inl a ↦ low j (h.inner j a) | inr a ↦ high j (i.inner j a) ];
    shown = λ p k. elim (split_among e.shown l.shown p k) [ inl a ↦ low p.0 (h.shown p a) | inr a ↦ high p.0 (i.shown p a) ];
    seen = λ p k. elim (split_among e.shown l.shown p k) [ inl a ↦ h.seen p a | inr a ↦ i.seen p a ];
    loop = λ p k m. elim (split_among e.shown l.shown p k) [
      | inl a ↦ elim (split_among (in_loops e.part) (all_in_loops l.parts) p.0 m) [ inl b ↦ h.loop p a b | inr b ↦ absurd (apart p.0 (h.shown p a) (i.inner p.0 b)) ]
      | inr a ↦ elim (split_among (in_loops e.part) (all_in_loops l.parts) p.0 m) [ inl b ↦ absurd (apart p.0 (h.inner p.0 b) (i.shown p a)) | inr b ↦ i.loop p a b ]
    ];
  }
    where
      low : (j : ℕ) → IsBetween n e.next j → IsBetween n l.next j
      low j (a, b) = let o = i.order in (a, omega (arith, b, o))

      high : (j : ℕ) → IsBetween e.next l.next j → IsBetween n l.next j
      high j (a, b) = let o = h.order in (omega (arith, a, o), b)

      apart : (j : ℕ) → IsBetween n e.next j → IsBetween e.next l.next j → ⊥
      apart j (a, b) (c, d) = omega (arith, b, c)

  abbrev empty_part : ℕ → ExpandedParts
  empty_part n = record { parts = part_and (InRow no_parts) no_parts; shown = []; next = n }

  pub option_free : (n : ℕ) (e : Expanded) → IsFree S L n e → IsFree S L n (or_nothing e)
  option_free n e h = by (put_free n e (empty_part e.next) h (record { ties = (tt, tt); order = omega arith; numbers = λ j i. elim i [ ]; inner = λ j i. elim i [ ]; shown = λ p i. elim i [ ]; seen = λ p i. elim i [ ]; loop = λ p i. elim i [ ] }))
    where
      by : AreFree S L n (tree.put e (empty_part e.next)) → IsFree S L n (or_nothing e)
      by q = record { ties = q.ties; order = h.order; numbers = q.numbers; inner = q.inner; shown = h.shown; seen = h.seen; loop = λ p i. q.loop p (among_left e.shown [] p i) }

-- of parts of which nothing is shown
pub record AreSealed (n : ℕ) (l : ExpandedParts) : Type 0 where
  pub ties : EachTies IsFreeOf l.parts
  pub order : n ≤ l.next
  pub numbers : (j : ℕ) → Among j (all_numbers l.parts) → IsBetween n l.next j

pub none_sealed : (n : ℕ) → AreSealed n (nothing n)
none_sealed n = record { ties = tt; order = omega arith; numbers = λ j i. elim i [ ] }

pub put_sealed : (S L : Tag → Type 0) (n : ℕ) (e : Expanded) (l : ExpandedParts) → IsFree S L n e → AreSealed e.next l → AreSealed n (tree.put e l)
put_sealed S L n e l h i = record {
  ties = (h.ties, i.ties);
  order = let a = h.order in let b = i.order in omega (arith, a, b);
  numbers = λ j k. elim (split_among (numbers_of_events e.part) (all_numbers l.parts) j (subst (λ (ns : List ℕ). Among j ns) (map-append number_of (events_in e.part) (all_events_in l.parts)) k)) [ inl a ↦ low j (h.numbers j a) | inr a ↦ high j (i.numbers j a) ];
}
  where
    low : (j : ℕ) → IsBetween n e.next j → IsBetween n l.next j
    low j (a, b) = let o = i.order in (a, omega (arith, b, o))

    high : (j : ℕ) → IsBetween e.next l.next j → IsBetween n l.next j
    high j (a, b) = let o = h.order in (omega (arith, a, o), b)

-- nothing is shown of a walk
pub walk_free : (S L : Tag → Type 0) (n : ℕ) (g : Shape) (l : ExpandedParts) → AreSealed (suc n) l → IsFree S L n (tree.walk n g l)
walk_free S L n g l h = record {
  ties = h.ties;
  order = let o = h.order in omega (arith, o);
  numbers = λ j i. wide j (h.numbers j i);
  inner = λ j i. wide j (h.numbers j i);
  shown = λ p i. elim i [ ];
  seen = λ p i. elim i [ ];
  loop = λ p i. elim i [ ];
}
  where
    wide : (j : ℕ) → IsBetween (suc n) l.next j → IsBetween n l.next j
    wide j (a, b) = (omega (arith, a), b)

-- more may be seen
module _ (S L T M : Tag → Type 0) (up : Implies S T) (over : Implies L M) where
  pub wider : (n : ℕ) (e : Expanded) → IsFree S L n e → IsFree T M n e
  wider n e h = record { ties = h.ties; order = h.order; numbers = h.numbers; inner = h.inner; shown = h.shown; seen = λ p i. up p.1 (h.seen p i); loop = λ p i k. over p.1 (h.loop p i k) }

  pub all_wider : (n : ℕ) (l : ExpandedParts) → AreFree S L n l → AreFree T M n l
  all_wider n l h = record { ties = h.ties; order = h.order; numbers = h.numbers; inner = h.inner; shown = h.shown; seen = λ p i. up p.1 (h.seen p i); loop = λ p i k. over p.1 (h.loop p i k) }

-- tags change
module _ (S L T M : Tag → Type 0) (f : Tag → List Tag) (up : (t : Tag) → S t → (a : Tag) → Among a (f t) → T a) (over : (t : Tag) → L t → (a : Tag) → Among a (f t) → M a) where
  pub past_free : (n : ℕ) (e : Expanded) → IsFree S L n e → IsFree T M n (past f e)
  past_free n e h = record {
    ties = h.ties;
    order = h.order;
    numbers = h.numbers;
    inner = h.inner;
    shown = λ p i. at p (flat_among (λ p. map (λ a. (p.0, a)) (f p.1)) e.shown p i) (λ r j a k. h.shown r j);
    seen = λ p i. tag p (flat_among (λ p. map (λ a. (p.0, a)) (f p.1)) e.shown p i) (λ r j a k. up r.1 (h.seen r j) a k);
    loop = λ p i m. looped_tag p m (flat_among (λ p. map (λ a. (p.0, a)) (f p.1)) e.shown p i);
  }
    where
      at : (p : ℕ × Tag) → ((r : ℕ × Tag) × Among r e.shown × Among p (map (λ a. (r.0, a)) (f r.1))) → ((r : ℕ × Tag) → Among r e.shown → (a : Tag) → Among a (f r.1) → IsBetween n e.next r.0) → IsBetween n e.next p.0
      at p (r, j, k) g = let (a, q, l) = map_among (λ (a : Tag). (r.0, a)) (f r.1) k in subst (λ (p : ℕ × Tag). IsBetween n e.next p.0) q (g r j a l)

      tag : (p : ℕ × Tag) → ((r : ℕ × Tag) × Among r e.shown × Among p (map (λ a. (r.0, a)) (f r.1))) → ((r : ℕ × Tag) → Among r e.shown → (a : Tag) → Among a (f r.1) → T a) → T p.1
      tag p (r, j, k) g = let (a, q, l) = map_among (λ (a : Tag). (r.0, a)) (f r.1) k in subst (λ (p : ℕ × Tag). T p.1) q (g r j a l)

      looped_tag : (p : ℕ × Tag) → Among p.0 (in_loops e.part) → ((r : ℕ × Tag) × Among r e.shown × Among p (map (λ a. (r.0, a)) (f r.1))) → M p.1
      looped_tag p m (r, j, k) =
          let (a, q, l) = map_among (λ (a : Tag). (r.0, a)) (f r.1) k in
          let n : Among r.0 (in_loops e.part) = subst (λ (i : ℕ). Among i (in_loops e.part)) (sym (ap (λ (p : ℕ × Tag). p.0) q)) m in
          subst (λ (p : ℕ × Tag). M p.1) q (over r.1 (h.loop r j n) a l)

-- ---- tags of gates with inner events

abbrev pub HasSome : List InnerEvent → Type 0
HasSome es = (e : InnerEvent) × Among e es

-- of a gate that the part has
abbrev pub InGate : (List ℕ → GateEvents) → Tag → Type 0
InGate F (Own n) = ⊥
InGate F (Via g) = HasSome (listed (F g))
InGate F (On z g) = ⊥

-- that it has in a loop
abbrev pub InLoop : (List ℕ → GateEvents) → Tag → Type 0
InLoop F (Own n) = ⊥
InLoop F (Via g) = HasSome (looped (F g))
InLoop F (On z g) = ⊥

-- the same with those of the level itself
abbrev pub OnLevel : (List ℕ → GateEvents) → Tag → Type 0
OnLevel F (Own n) = Unit {0}
OnLevel F (Via g) = HasSome (listed (F g))
OnLevel F (On z g) = Unit {0}

pub some_left : (a b : List InnerEvent) → HasSome a → HasSome (a ++ b)
some_left a b (e, i) = (e, among_left a b e i)

pub some_right : (a b : List InnerEvent) → HasSome b → HasSome (a ++ b)
some_right a b (e, i) = (e, among_right a b e i)

pub split_some : (a b : List InnerEvent) → HasSome (a ++ b) → HasSome a ⊎ HasSome b
split_some a b (e, i) = elim (split_among a b e i) [ inl k ↦ inl (e, k) | inr k ↦ inr (e, k) ]

pub some_both : (a b c d : List InnerEvent) → (HasSome a → HasSome c) → (HasSome b → HasSome d) → HasSome (a ++ b) → HasSome (c ++ d)
some_both a b c d f g h = elim (split_some a b h) [ inl k ↦ some_left c d (f k) | inr k ↦ some_right c d (g k) ]

module _ (F G : List ℕ → GateEvents) where
  pub gate_in : ((g : List ℕ) → HasSome (listed (F g)) → HasSome (listed (G g))) → Implies (InGate F) (InGate G)
  gate_in f (Own n) h = h
  gate_in f (Via g) h = f g h
  gate_in f (On z g) h = h

  pub level_in : ((g : List ℕ) → HasSome (listed (F g)) → HasSome (listed (G g))) → Implies (OnLevel F) (OnLevel G)
  level_in f (Own n) h = h
  level_in f (Via g) h = f g h
  level_in f (On z g) h = h

  pub loop_in : ((g : List ℕ) → HasSome (looped (F g)) → HasSome (looped (G g))) → Implies (InLoop F) (InLoop G)
  loop_in f (Own n) h = h
  loop_in f (Via g) h = f g h
  loop_in f (On z g) h = h

abbrev pub Shut : (List ℕ → GateEvents) → ℕ → Expanded → Type 0
Shut F n e = IsFree (InGate F) (InLoop F) n e

abbrev pub AreShut : (List ℕ → GateEvents) → ℕ → ExpandedParts → Type 0
AreShut F n l = AreFree (InGate F) (InLoop F) n l

abbrev pub Open : (List ℕ → GateEvents) → ℕ → ExpandedParts → Type 0
Open F n l = AreFree (OnLevel F) (InLoop F) n l

pub shut_in : (F G : List ℕ → GateEvents) → ((g : List ℕ) → HasSome (listed (F g)) → HasSome (listed (G g))) → ((g : List ℕ) → HasSome (looped (F g)) → HasSome (looped (G g))) → (n : ℕ) (e : Expanded) → Shut F n e → Shut G n e
shut_in F G f l n e h = wider (InGate F) (InLoop F) (InGate G) (InLoop G) (gate_in F G f) (loop_in F G l) n e h

pub all_in : (F G : List ℕ → GateEvents) → ((g : List ℕ) → HasSome (listed (F g)) → HasSome (listed (G g))) → ((g : List ℕ) → HasSome (looped (F g)) → HasSome (looped (G g))) → (n : ℕ) (l : ExpandedParts) → AreShut F n l → AreShut G n l
all_in F G f l n e h = all_wider (InGate F) (InLoop F) (InGate G) (InLoop G) (gate_in F G f) (loop_in F G l) n e h

pub turned_shut : (F : List ℕ → GateEvents) (n lower : ℕ) (upper : Option ℕ) (e : Expanded) → Shut F n e → Shut (λ g. in_loop (F g)) n (turns n lower upper e)
turned_shut F n lower upper e h =
    wider (InGate F) (InLoop (λ g. in_loop (F g))) (InGate (λ g. in_loop (F g))) (InLoop (λ g. in_loop (F g))) (gate_in F (λ g. in_loop (F g)) (λ g i. i)) (λ t i. i) n (turns n lower upper e)
    (turns_free (InGate F) (InLoop F) (InLoop (λ g. in_loop (F g))) up n lower upper e h)
  where
    up : Implies (InGate F) (InLoop (λ g. in_loop (F g)))
    up (Own n) h = h
    up (Via g) h = h
    up (On z g) h = h

-- ---- events

some_here : (b : Bool) (n : EventNode) → b ≡ true → HasSome (listed (these_if b (one_event (here n))))
some_here true n e = (here n, first)
some_here false n e = absurd cc

abbrev tagged : ℕ → Tag → ℕ × Tag
tagged n a = (n, a)

gate_tag : (m : ℕ) (k : EventNode) (t : Target) → k.event.target ≡ t → (a : Tag) → Among a (Own m ∷ gate_tags t) → OnLevel (event_inner k) a
gate_tag m k Nobody e a i = single a i
  where
    single : (a : Tag) → Among a (Own m ∷ []) → OnLevel (event_inner k) a
    single _ first = tt
    single a (later i) = elim i [ ]
gate_tag m k (Env None) e a i = single a i
  where
    single : (a : Tag) → Among a (Own m ∷ []) → OnLevel (event_inner k) a
    single _ first = tt
    single a (later i) = elim i [ ]
gate_tag m k (Env (Some g)) e a i = two a i
  where
    gate : HasSome (listed (event_inner k g))
    gate = some_here (is_gate k.event.target g) k (subst (λ (t : Target). is_gate t g ≡ true) (sym e) ((bytes_eq-Decides g g).1 refl))

    two : (a : Tag) → Among a (Own m ∷ Via g ∷ []) → OnLevel (event_inner k) a
    two _ first = tt
    two _ (later first) = gate
    two a (later (later i)) = elim i [ ]
gate_tag m k (Instance name) e a i = single a i
  where
    single : (a : Tag) → Among a (Own m ∷ []) → OnLevel (event_inner k) a
    single _ first = tt
    single a (later i) = elim i [ ]
gate_tag m k (Gate name g) e a i = single a i
  where
    single : (a : Tag) → Among a (Own m ∷ []) → OnLevel (event_inner k) a
    single _ first = tt
    single a (later i) = elim i [ ]

pub event_free : (es : List GateEnd) (around : Around) (n : ℕ) (k : EventNode) → IsFree (OnLevel (event_inner k)) (InLoop (event_inner k)) n (tree.event n (happening es around k))
event_free es around n k = record {
  ties = tt;
  order = omega arith;
  numbers = λ j i. only n j i;
  inner = λ j i. elim i [ ];
  shown = λ p i. let (a, e, l) = map_among (tagged n) (Own k.number ∷ gate_tags k.event.target) i in subst (λ (p : ℕ × Tag). IsBetween n (suc n) p.0) e (omega arith, omega arith);
  seen = λ p i. let (a, e, l) = map_among (tagged n) (Own k.number ∷ gate_tags k.event.target) i in subst (λ (p : ℕ × Tag). OnLevel (event_inner k) p.1) e (gate_tag k.number k k.event.target refl a l);
  loop = λ p i l. elim l [ ];
}
  where
    only : (n j : ℕ) → Among j (n ∷ []) → IsBetween n (suc n) j
    only n _ first = (omega arith, omega arith)
    only n j (later i) = elim i [ ]

-- ---- tags

abbrev pub IsOnLevel : Tag → Type 0
IsOnLevel (Own n) = Unit {0}
IsOnLevel (Via g) = ⊥
IsOnLevel (On z g) = Unit {0}

pub one_case : (P : Tag → Type 0) (t a : Tag) → P t → Among a (t ∷ []) → P a
one_case P t _ p first = p
one_case P t a p (later i) = elim i [ ]

pub called_case : (P : Tag → Type 0) (b : Bool) (o : Option (List ℕ)) (g : List ℕ) (others : List Tag) → ((own : List ℕ) → b ≡ true → o ≡ Some own → P (On own g)) → ((a : Tag) → (o ≡ None) ⊎ (b ≡ false) → Among a others → P a)
    → (a : Tag) → Among a (called_tag b o g others) → P a
called_case P true (Some own) g others f k a i = one_case P (On own g) a (f own refl refl) i
called_case P true None g others f k a i = k a (inl refl) i
called_case P false o g others f k a i = k a (inr refl) i

pub via_case : (P : Tag → Type 0) (o : Option (List ℕ)) (a : Tag) → ((to : List ℕ) → o ≡ Some to → P (Via to)) → Among a (via_list o) → P a
via_case P None a f i = elim i [ ]
via_case P (Some to) a f i = one_case P (Via to) a (f to refl) i

module _ (P : BodyLevel → Type 0) where
  pub each_left : (xs ys : List BodyLevel) → EachLevel P (xs ++ ys) → EachLevel P xs
  each_left [] ys h = tt
  each_left (x ∷ xs) ys h = (h.0, each_left xs ys h.1)

  pub each_right : (xs ys : List BodyLevel) → EachLevel P (xs ++ ys) → EachLevel P ys
  each_right [] ys h = h
  each_right (x ∷ xs) ys h = each_right xs ys h.1
