-- The facts of events put together are those of the parts put together.
use Rattle.std.specs.Prelude.{◌≡◌, ◌≤◌, ◌+◌, ℕ, min, max, Bool, true, false, not, nat_lt, ◌&&◌, ◌||◌, List, [], ◌∷◌, ◌++◌, length, Option, None, Some, map}
use Rattle.std.specs.List.{list_all, list_any}
use Rattle.std.specs.Str.{bytes_eq}
use Rattle.std.proofs.Common.{◌∙◌, refl, sym, ap, arith}
use Rattle.std.proofs.lemmas.Bool.Decides.{nat_tests}
use Rattle.std.proofs.lemmas.List.{length-append, length-map, map-append}
use Rattle.std.proofs.lemmas.Slice.Eq.{bytes_eq-Decides}
use Rattle.list_facts.proofs.Bools.{or_assoc, or_false, or_true}
use Rattle.msc_meaning.specs.Bodies.{EventNode}
use Rattle.msc_meaning.specs.InnerEvents.{InnerEvent, in_chart}
use Rattle.gate_ends.specs.FoundEnds.{GateEvents, no_event, an_event, both, either, in_loop, listed, looped, most, seen_in, these_if, unless}
use Rattle.gate_ends.proofs.FoundEnds.{listed_seen}
use Rattle.gate_tables.specs.GateFacts.{Facts, all_inputs, all_outputs, facts_by, facts_of, has_other_text, is_among_events, is_elsewhere, is_input, is_output, most_counted}
use Rattle.gate_tables.specs.Together.{event_facts, facts_if, facts_unless, in_loop_facts, together}
use Rattle.gate_tables.specs.MessageTexts.{is_same_text, text_parts}
use Rattle.gate_tables.proofs.MessageLaws.{same_text, text_itself}
use Rattle.gate_tables.proofs.MapSteps.{itself}

-- ---- parts without events, and with some

left_empty : (a b : List InnerEvent) → a ++ b ≡ [] → a ≡ []
left_empty [] b h = refl
left_empty (e ∷ a) b h = absurd cc

right_empty : (a b : List InnerEvent) → a ++ b ≡ [] → b ≡ []
right_empty [] b h = h
right_empty (e ∷ a) b h = absurd cc

none_looped : (a : GateEvents) → listed a ≡ [] → looped a ≡ []
none_looped no_event h = refl
none_looped (an_event e) h = refl
none_looped (both a b) h =
    ap (λ (l : List InnerEvent). l ++ looped b) (none_looped a (left_empty (listed a) (listed b) h)) ∙ none_looped b (right_empty (listed a) (listed b) h)
none_looped (either a b) h =
    ap (λ (l : List InnerEvent). l ++ looped b) (none_looped a (left_empty (listed a) (listed b) h)) ∙ none_looped b (right_empty (listed a) (listed b) h)
none_looped (in_loop a) h = h

none_most : (a : GateEvents) → listed a ≡ [] → most a ≡ 0
none_most no_event h = refl
none_most (an_event e) h = absurd cc
none_most (both a b) h = omega (arith, none_most a (left_empty (listed a) (listed b) h), none_most b (right_empty (listed a) (listed b) h))
none_most (either a b) h = omega (arith, none_most a (left_empty (listed a) (listed b) h), none_most b (right_empty (listed a) (listed b) h))
none_most (in_loop a) h = none_most a h

some_most : (a : GateEvents) (e : InnerEvent) (es : List InnerEvent) → listed a ≡ e ∷ es → 1 ≤ most a
some_most no_event e es h = absurd cc
some_most (an_event d) e es h = omega arith
some_most (both a b) e es h = by (listed a) refl h (some_most a) (some_most b)
  where
    by : (l : List InnerEvent) → listed a ≡ l → l ++ listed b ≡ e ∷ es → ((d : InnerEvent) (ds : List InnerEvent) → listed a ≡ d ∷ ds → 1 ≤ most a) → ((d : InnerEvent) (ds : List InnerEvent) → listed b ≡ d ∷ ds → 1 ≤ most b) → 1 ≤ most a + most b
    by [] q h f g = omega (arith, g e es h)
    by (d ∷ ds) q h f g = omega (arith, f d ds q)
some_most (either a b) e es h = by (listed a) refl h (some_most a) (some_most b)
  where
    by : (l : List InnerEvent) → listed a ≡ l → l ++ listed b ≡ e ∷ es → ((d : InnerEvent) (ds : List InnerEvent) → listed a ≡ d ∷ ds → 1 ≤ most a) → ((d : InnerEvent) (ds : List InnerEvent) → listed b ≡ d ∷ ds → 1 ≤ most b) → 1 ≤ max (most a) (most b)
    by [] q h f g = omega (arith, g e es h)
    by (d ∷ ds) q h f g = omega (arith, f d ds q)
some_most (in_loop a) e es h = some_most a e es h

-- ---- facts by what is listed

facts_from : List InnerEvent → Bool → Bool → Option Facts
facts_from [] l s = None
facts_from (e ∷ es) l s = Some (record {
  at = e.node.at;
  kind = e.node.event.kind;
  text = text_parts e.node.event;
  inputs = all_inputs (e ∷ es);
  outputs = all_outputs (e ∷ es);
  differ = has_other_text (text_parts e.node.event) (e ∷ es);
  apart = is_elsewhere e.node.at (e ∷ es);
  looped = l;
  several = s;
  count = min (length (e ∷ es)) most_counted;
})

by_listed : (a : GateEvents) (es : List InnerEvent) → facts_by a es ≡ facts_from es (is_among_events (looped a)) (nat_lt 1 (most a))
unfolding facts_from
by_listed a [] = refl
by_listed a (e ∷ es) = refl

all_append : (p : InnerEvent → Bool) (a b : List InnerEvent) → list_all p (a ++ b) ≡ (list_all p a && list_all p b)
all_append p [] b = refl
all_append p (e ∷ a) b = by (p e) (all_append p a b)
  where
    by : (q : Bool) → list_all p (a ++ b) ≡ (list_all p a && list_all p b) → (q && list_all p (a ++ b)) ≡ ((q && list_all p a) && list_all p b)
    by true more = more
    by false more = refl

any_append : (p : InnerEvent → Bool) (a b : List InnerEvent) → list_any p (a ++ b) ≡ (list_any p a || list_any p b)
any_append p [] b = refl
any_append p (e ∷ a) b = ap (λ (q : Bool). p e || q) (any_append p a b) ∙ sym (or_assoc (p e) (list_any p a) (list_any p b))

-- what differs from others differs from the first of its own, or that one differs
module _ {K : Type 0} (same : K → K → Bool) (sound : (a b : K) → same a b ≡ true → a ≡ b) where
  other_by_first : (q : InnerEvent → K) (t : K) (f : InnerEvent) (fs : List InnerEvent) → list_any (λ (e : InnerEvent). not (same (q e) t)) (f ∷ fs) ≡ (list_any (λ (e : InnerEvent). not (same (q e) (q f))) (f ∷ fs) || not (same (q f) t))
  other_by_first q t f fs = by (same (q f) t) refl
    where
      by : (b : Bool) → same (q f) t ≡ b → list_any (λ (e : InnerEvent). not (same (q e) t)) (f ∷ fs) ≡ (list_any (λ (e : InnerEvent). not (same (q e) (q f))) (f ∷ fs) || not b)
      by true e = ap (λ (u : K). list_any (λ (d : InnerEvent). not (same (q d) u)) (f ∷ fs)) (sym (sound (q f) t e)) ∙ sym (or_false (list_any (λ (d : InnerEvent). not (same (q d) (q f))) (f ∷ fs)))
      by false e = ap (λ (b : Bool). not b || list_any (λ (d : InnerEvent). not (same (q d) t)) fs) e ∙ sym (or_true (list_any (λ (d : InnerEvent). not (same (q d) (q f))) (f ∷ fs)))

  other_append : (q : InnerEvent → K) (t : K) (a : List InnerEvent) (f : InnerEvent) (fs : List InnerEvent)
      → list_any (λ (e : InnerEvent). not (same (q e) t)) (a ++ f ∷ fs) ≡ (list_any (λ (e : InnerEvent). not (same (q e) t)) a || list_any (λ (e : InnerEvent). not (same (q e) (q f))) (f ∷ fs) || not (same (q f) t))
  other_append q t a f fs =
      let here = list_any (λ (e : InnerEvent). not (same (q e) t)) a in
      any_append (λ (e : InnerEvent). not (same (q e) t)) a (f ∷ fs) ∙ ap (λ (b : Bool). here || b) (other_by_first q t f fs)
      ∙ sym (or_assoc here (list_any (λ (e : InnerEvent). not (same (q e) (q f))) (f ∷ fs)) (not (same (q f) t)))

nil_right : (a : List InnerEvent) → a ++ [] ≡ a
nil_right [] = refl
nil_right (e ∷ a) = ap (λ (l : List InnerEvent). e ∷ l) (nil_right a)

-- both are counted no further than each
counted_all : (m n most : ℕ) → min (m + n) most ≡ min (min m most + min n most) most
counted_all m n most = omega arith

count_append : (x y : List InnerEvent) → min (length (x ++ y)) most_counted ≡ min (min (length x) most_counted + min (length y) most_counted) most_counted
count_append x y = ap (λ (n : ℕ). min n most_counted) (length-append x y) ∙ counted_all (length x) (length y) most_counted

abbrev fields : InnerEvent → Bool → Bool → Bool → Bool → Bool → Bool → ℕ → Facts
fields e i o d a l s n =
    record { at = e.node.at; kind = e.node.event.kind; text = text_parts e.node.event; inputs = i; outputs = o; differ = d; apart = a; looped = l; several = s; count = n }

with_same : (e : InnerEvent) (l : Bool) {i j o p d f a b s t : Bool} {m n : ℕ} → i ≡ j → o ≡ p → d ≡ f → a ≡ b → s ≡ t → m ≡ n → Some (fields e i o d a l s m) ≡ Some (fields e j p f b l t n)
with_same e l {i} {j} {o} {p} {d} {f} {a} {b} {s} {t} {m} {n} q1 q2 q3 q4 q5 q6 =
    ap (λ (x : Bool). Some (fields e x o d a l s m)) q1 ∙ ap (λ (x : Bool). Some (fields e j x d a l s m)) q2 ∙ ap (λ (x : Bool). Some (fields e j p x a l s m)) q3
    ∙ ap (λ (x : Bool). Some (fields e j p f x l s m)) q4 ∙ ap (λ (x : Bool). Some (fields e j p f b l x m)) q5 ∙ ap (λ (k : ℕ). Some (fields e j p f b l t k)) q6

-- of two lists in a row
of_both : (b l m s t : Bool) (x y : List InnerEvent) → (x ≡ [] → l ≡ false) → (y ≡ [] → m ≡ false) → (u : Bool) → (x ≡ [] → u ≡ t) → (y ≡ [] → u ≡ s)
    → ((e f : InnerEvent) (es fs : List InnerEvent) → x ≡ e ∷ es → y ≡ f ∷ fs → u ≡ (b || s || t)) → facts_from (x ++ y) (l || m) u ≡ together b (facts_from x l s) (facts_from y m t)
unfolding facts_from
of_both b l m s t [] y no_l no_m u none_x none_y some = ap (λ (k : Bool). facts_from y (k || m) u) (no_l refl) ∙ ap (facts_from y m) (none_x refl)
of_both b l m s t (e ∷ es) [] no_l no_m u none_x none_y some =
    ap (λ (x : List InnerEvent). facts_from x (l || m) u) (nil_right (e ∷ es)) ∙ ap (λ (k : Bool). facts_from (e ∷ es) (l || k) u) (no_m refl) ∙ ap (λ (k : Bool). facts_from (e ∷ es) k u) (or_false l)
    ∙ ap (facts_from (e ∷ es) l) (none_y refl)
of_both b l m s t (e ∷ es) (f ∷ fs) no_l no_m u none_x none_y some =
    with_same e (l || m) (all_append (λ (d : InnerEvent). is_input d.node.event.kind) (e ∷ es) (f ∷ fs)) (all_append (λ (d : InnerEvent). is_output d.node.event.kind) (e ∷ es) (f ∷ fs))
    (other_append is_same_text same_text (λ (d : InnerEvent). text_parts d.node.event) (text_parts e.node.event) (e ∷ es) f fs)
    (other_append bytes_eq (λ (x y : List ℕ). (bytes_eq-Decides x y).0) (λ (d : InnerEvent). d.node.at) e.node.at (e ∷ es) f fs) (some e f es fs refl refl)
    (count_append (e ∷ es) (f ∷ fs))

-- ---- several

more_than : (m n : ℕ) → 1 ≤ m → 1 ≤ n → nat_lt 1 (m + n) ≡ true
more_than m n h g = grind (arith, nat_tests)

most_of : (m n : ℕ) → 1 ≤ m → 1 ≤ n → nat_lt 1 (max m n) ≡ (nat_lt 1 m || nat_lt 1 n)
most_of m n h g = grind (arith, nat_tests)

among_append : (a b : List InnerEvent) → is_among_events (a ++ b) ≡ (is_among_events a || is_among_events b)
among_append [] b = refl
among_append (e ∷ a) b = refl

-- ---- the laws

pub facts_both : (a b : GateEvents) → facts_of (both a b) ≡ together true (facts_of a) (facts_of b)
facts_both a b =
    by_listed (both a b) (listed a ++ listed b)
    ∙ ap (λ (l : Bool). facts_from (listed a ++ listed b) l (nat_lt 1 (most a + most b))) (among_append (looped a) (looped b))
    ∙ of_both true (is_among_events (looped a)) (is_among_events (looped b)) (nat_lt 1 (most a)) (nat_lt 1 (most b)) (listed a) (listed b) (λ h. ap is_among_events (none_looped a h)) (λ h. ap is_among_events (none_looped b h)) (nat_lt 1 (most a + most b))
    (λ h. ap (λ (n : ℕ). nat_lt 1 n) (omega (arith, none_most a h))) (λ h. ap (λ (n : ℕ). nat_lt 1 n) (omega (arith, none_most b h))) (λ e f es fs h g. more_than (most a) (most b) (some_most a e es h) (some_most b f fs g))
    ∙ ap (λ (o : Option Facts). together true o (facts_from (listed b) (is_among_events (looped b)) (nat_lt 1 (most b)))) (sym (by_listed a (listed a)))
    ∙ ap (together true (facts_of a)) (sym (by_listed b (listed b)))

pub facts_either : (a b : GateEvents) → facts_of (either a b) ≡ together false (facts_of a) (facts_of b)
facts_either a b =
    by_listed (either a b) (listed a ++ listed b)
    ∙ ap (λ (l : Bool). facts_from (listed a ++ listed b) l (nat_lt 1 (max (most a) (most b)))) (among_append (looped a) (looped b))
    ∙ of_both false (is_among_events (looped a)) (is_among_events (looped b)) (nat_lt 1 (most a)) (nat_lt 1 (most b)) (listed a) (listed b) (λ h. ap is_among_events (none_looped a h)) (λ h. ap is_among_events (none_looped b h)) (nat_lt 1 (max (most a) (most b)))
    (λ h. ap (λ (n : ℕ). nat_lt 1 n) (omega (arith, none_most a h))) (λ h. ap (λ (n : ℕ). nat_lt 1 n) (omega (arith, none_most b h))) (λ e f es fs h g. most_of (most a) (most b) (some_most a e es h) (some_most b f fs g))
    ∙ ap (λ (o : Option Facts). together false o (facts_from (listed b) (is_among_events (looped b)) (nat_lt 1 (most b)))) (sym (by_listed a (listed a)))
    ∙ ap (together false (facts_of a)) (sym (by_listed b (listed b)))

loop_from : (es : List InnerEvent) (l s : Bool) → facts_from es (is_among_events es) s ≡ in_loop_facts (facts_from es l s)
unfolding facts_from
loop_from [] l s = refl
loop_from (e ∷ es) l s = refl

pub facts_loop : (a : GateEvents) → facts_of (in_loop a) ≡ in_loop_facts (facts_of a)
facts_loop a = by_listed (in_loop a) (listed a) ∙ loop_from (listed a) (is_among_events (looped a)) (nat_lt 1 (most a)) ∙ ap in_loop_facts (sym (by_listed a (listed a)))

and_true : (b : Bool) → (b && true) ≡ b
and_true true = refl
and_true false = refl

not_other : (g : List ℕ) → (not (bytes_eq g g) || false) ≡ false
not_other g = ap (λ (b : Bool). not b || false) (itself g)

pub facts_event : (e : InnerEvent) → facts_of (an_event e) ≡ Some (event_facts e.node)
facts_event e = with_same e false (and_true (is_input e.node.event.kind)) (and_true (is_output e.node.event.kind)) (ap (λ (b : Bool). not b || false) (text_itself (text_parts e.node.event))) (not_other e.node.at) refl refl

pub facts_these : (b : Bool) (a : GateEvents) → facts_of (these_if b a) ≡ facts_if b (facts_of a)
facts_these true a = refl
facts_these false a = refl

pub facts_no : (b : Bool) (a : GateEvents) → facts_of (unless b a) ≡ facts_unless b (facts_of a)
facts_no true a = refl
facts_no false a = refl

-- ---- seen from another chart

looped_seen : (name : List ℕ) (a : GateEvents) → looped (seen_in name a) ≡ map (in_chart name) (looped a)
looped_seen name no_event = refl
looped_seen name (an_event e) = refl
looped_seen name (both a b) = ap (λ (l : List InnerEvent). l ++ looped (seen_in name b)) (looped_seen name a) ∙ ap (λ (l : List InnerEvent). map (in_chart name) (looped a) ++ l) (looped_seen name b) ∙ sym (map-append (in_chart name) (looped a) (looped b))
looped_seen name (either a b) = ap (λ (l : List InnerEvent). l ++ looped (seen_in name b)) (looped_seen name a) ∙ ap (λ (l : List InnerEvent). map (in_chart name) (looped a) ++ l) (looped_seen name b) ∙ sym (map-append (in_chart name) (looped a) (looped b))
looped_seen name (in_loop a) = listed_seen name a

most_seen : (name : List ℕ) (a : GateEvents) → most (seen_in name a) ≡ most a
most_seen name no_event = refl
most_seen name (an_event e) = refl
most_seen name (both a b) = ap (λ (n : ℕ). n + most (seen_in name b)) (most_seen name a) ∙ ap (λ (n : ℕ). most a + n) (most_seen name b)
most_seen name (either a b) = ap (λ (n : ℕ). max n (most (seen_in name b))) (most_seen name a) ∙ ap (λ (n : ℕ). max (most a) n) (most_seen name b)
most_seen name (in_loop a) = most_seen name a

among_mapped : (name : List ℕ) (es : List InnerEvent) → is_among_events (map (in_chart name) es) ≡ is_among_events es
among_mapped name [] = refl
among_mapped name (e ∷ es) = refl

all_mapped : (name : List ℕ) (p : EventNode → Bool) (es : List InnerEvent) → list_all (λ (e : InnerEvent). p e.node) (map (in_chart name) es) ≡ list_all (λ (e : InnerEvent). p e.node) es
all_mapped name p [] = refl
all_mapped name p (e ∷ es) = ap (λ (b : Bool). p e.node && b) (all_mapped name p es)

any_mapped : (name : List ℕ) (p : EventNode → Bool) (es : List InnerEvent) → list_any (λ (e : InnerEvent). p e.node) (map (in_chart name) es) ≡ list_any (λ (e : InnerEvent). p e.node) es
any_mapped name p [] = refl
any_mapped name p (e ∷ es) = ap (λ (b : Bool). p e.node || b) (any_mapped name p es)

from_mapped : (name : List ℕ) (es : List InnerEvent) (l s : Bool) → facts_from (map (in_chart name) es) l s ≡ facts_from es l s
unfolding facts_from
from_mapped name [] l s = refl
from_mapped name (e ∷ es) l s =
    with_same e l (all_mapped name (λ (n : EventNode). is_input n.event.kind) (e ∷ es)) (all_mapped name (λ (n : EventNode). is_output n.event.kind) (e ∷ es))
    (any_mapped name (λ (n : EventNode). not (is_same_text (text_parts n.event) (text_parts e.node.event))) (e ∷ es)) (any_mapped name (λ (n : EventNode). not (bytes_eq n.at e.node.at)) (e ∷ es)) refl
    (ap (λ (n : ℕ). min n most_counted) (length-map (e ∷ es) (in_chart name)))

pub facts_seen : (name : List ℕ) (a : GateEvents) → facts_of (seen_in name a) ≡ facts_of a
facts_seen name a =
    by_listed (seen_in name a) (listed (seen_in name a))
    ∙ ap (λ (es : List InnerEvent). facts_from es (is_among_events (looped (seen_in name a))) (nat_lt 1 (most (seen_in name a)))) (listed_seen name a)
    ∙ from_mapped name (listed a) (is_among_events (looped (seen_in name a))) (nat_lt 1 (most (seen_in name a)))
    ∙ ap (λ (l : List InnerEvent). facts_from (listed a) (is_among_events l) (nat_lt 1 (most (seen_in name a)))) (looped_seen name a)
    ∙ ap (λ (b : Bool). facts_from (listed a) b (nat_lt 1 (most (seen_in name a)))) (among_mapped name (looped a))
    ∙ ap (λ (n : ℕ). facts_from (listed a) (is_among_events (looped a)) (nat_lt 1 n)) (most_seen name a)
    ∙ sym (by_listed a (listed a))
