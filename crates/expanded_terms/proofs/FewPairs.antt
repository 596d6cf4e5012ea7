-- Why a level has few pairs.
use Rattle.std.specs.Prelude.{ℕ, zero, suc, ◌+◌, ◌*◌, ◌≤◌, ◌==◌, Bool, true, false, ◌&&◌, List, [], ◌∷◌, ◌++◌, Option, None, Some, length}
use Rattle.std.specs.Str.{bytes_eq}
use Rattle.std.proofs.Common.{◌≡◌, refl, sym, ◌∙◌, subst, ap, arith}
use Rattle.std.proofs.Math.Nat.{suc-mul}
use Rattle.std.proofs.lemmas.Bool.Decides.{Decides-eqb}
use Rattle.std.proofs.lemmas.Slice.Eq.{bytes_eq-Decides}
use Rattle.msc_base.specs.declared.label.Kind.{Kind}
use Rattle.msc_base.specs.declared.label.Kind.TheVariants as kind
use Rattle.msc_base.specs.declared.label.Pair.{Pair}
use Rattle.msc_base.specs.Orders.{Among, first, later, Once}
use Rattle.msc_unfolding.specs.Unfoldings.{Tag, Own, Via, On, is_same_tag, past_level}
use Rattle.term_meaning.specs.Portions.{Shown, shown_at, past_shown}
use Rattle.general_ordering.specs.OrderCounts.{orders_count}
use Rattle.msc_tree.specs.declared.event.Target.{Target}
use Rattle.msc_tree.specs.declared.event.Target.TheVariants as target
use Rattle.msc_tree.specs.declared.reference.Join.{Join}
use Rattle.msc_meaning.specs.Bodies.{EventNode, ReferencePart, WovenItems, no_items, item_and, WovenItem, Single, Coregion, Inline, Refer, item_events, events}
use Rattle.msc_meaning.specs.Calls.{Caller, an_event, a_gate, Call, calls, is_called, passed_to}
use Rattle.msc_meaning.specs.FarEnds.{gate_tags}
use Rattle.msc_meaning.specs.InnerEvents.{GateEnd}
use Rattle.msc_meaning.specs.Ties.{level_pairs, own_ties, in_order, event_ties, items_joins_ties, ties, called_tag, past_inline, via_list, past_reference}
use Rattle.expanded_terms.specs.ExpandedSizes.{gates_in, open_gates, item_room, items_room, HaveRoom}
use Rattle.expanded_terms.specs.ExpandedTerms.{Charts, event_shown, events_shown, expression_shown, operands_shown, item_shown, items_shown, item_count}
use Rattle.gate_ends.specs.LevelGates.{event_tags, tag_by}
use Rattle.expanded_terms.specs.FewPairs.{node_numbers, own_gates, item_product, products, HasFewOwn, FewPairsHaveRoom}
use Rattle.expanded_terms.specs.TagNumbers.{number_if, numbers_with, pairs_with, pairs_between, tied_numbers}

-- ---- numbers of a tag

pub tally : ℕ → List ℕ → ℕ
tally k [] = 0
tally k (l ∷ ls) = length (number_if (l == k) 0 []) + tally k ls

pub tally_cons : (k l : ℕ) (ls : List ℕ) → tally k (l ∷ ls) ≡ length (number_if (l == k) 0 []) + tally k ls
unfolding tally
tally_cons k l ls = refl

pub tally_none : (k : ℕ) → tally k [] ≡ 0
unfolding tally
tally_none k = refl

tally_both : (k : ℕ) (ks ls : List ℕ) → tally k (ks ++ ls) ≡ tally k ks + tally k ls
tally_both k [] ls = omega (arith, tally_none k)
tally_both k (j ∷ ks) ls = omega (arith, tally_cons k j (ks ++ ls), tally_cons k j ks, tally_both k ks ls)

tally_absent : (k : ℕ) (ks : List ℕ) → (Among k ks → ⊥) → tally k ks ≡ 0
tally_absent k [] n = tally_none k
tally_absent k (l ∷ ks) n = by (l == k) refl (tally_absent k ks (λ i. n (later i)))
  where
    by : (b : Bool) → (l == k) ≡ b → tally k ks ≡ 0 → tally k (l ∷ ks) ≡ 0
    by true e rest = absurd (n (subst (λ j. Among k (j ∷ ks)) (sym ((Decides-eqb l k).0 e)) first))
    by false e rest = omega (arith, tally_cons k l ks, ap (λ b. length (number_if b 0 [])) e, rest)

pub tally_once : (k : ℕ) (ks : List ℕ) → Once ks → tally k ks ≤ 1
tally_once k [] o = omega (arith, tally_none k)
tally_once k (l ∷ ks) (n, o) = by (l == k) refl (tally_once k ks o)
  where
    by : (b : Bool) → (l == k) ≡ b → tally k ks ≤ 1 → tally k (l ∷ ks) ≤ 1
    by true e rest = omega (arith, tally_cons k l ks, ap (λ b. length (number_if b 0 [])) e, tally_absent k ks (λ i. n (subst (λ j. Among j ks) (sym ((Decides-eqb l k).0 e)) i)))
    by false e rest = omega (arith, tally_cons k l ks, ap (λ b. length (number_if b 0 [])) e, rest)

pub if_length : (b : Bool) (m : ℕ) (ms : List ℕ) → length (number_if b m ms) ≡ length (number_if b 0 []) + length ms
if_length true m ms = omega arith
if_length false m ms = omega arith

-- how many numbers have the tag
abbrev often : Tag → Shown → ℕ
often t sh = length (numbers_with t sh)

often_more : (t : Tag) (p : ℕ × Tag) (sh : Shown) → often t (p ∷ sh) ≡ length (number_if (is_same_tag p.1 t) 0 []) + often t sh
often_more t p sh = if_length (is_same_tag p.1 t) p.0 (numbers_with t sh)

pub often_both : (t : Tag) (a b : Shown) → often t (a ++ b) ≡ often t a + often t b
often_both t [] b = omega arith
often_both t (p ∷ a) b = omega (arith, often_more t p (a ++ b), often_more t p a, often_both t a b)

-- ---- own numbers

-- none of the tags is an event's own
abbrev HasNoOwn : List Tag → Type 0
HasNoOwn [] = Unit {0}
HasNoOwn (Own k ∷ ts) = ⊥
HasNoOwn (Via g ∷ ts) = HasNoOwn ts
HasNoOwn (On z g ∷ ts) = HasNoOwn ts

no_own : (k n : ℕ) (ts : List Tag) → HasNoOwn ts → often (Own k) (shown_at n ts) ≡ 0
no_own k n [] h = refl
no_own k n (Own j ∷ ts) h = absurd h
no_own k n (Via g ∷ ts) h = no_own k n ts h
no_own k n (On z g ∷ ts) h = no_own k n ts h

past_no_own : (k : ℕ) (f : Tag → List Tag) → ((t : Tag) → HasNoOwn (f t)) → (sh : Shown) → often (Own k) (past_shown f sh) ≡ 0
past_no_own k f h [] = refl
past_no_own k f h (p ∷ sh) = omega (arith, often_both (Own k) (shown_at p.0 (f p.1)) (past_shown f sh), no_own k p.0 (f p.1) (h p.1), past_no_own k f h sh)

called_no_own : (b : Bool) (name : Option (List ℕ)) (g : List ℕ) (others : List Tag) → HasNoOwn others → HasNoOwn (called_tag b name g others)
called_no_own true (Some name) g others h = tt
called_no_own true None g others h = h
called_no_own false name g others h = h

inline_no_own : (cs : List Call) (name : Option (List ℕ)) (t : Tag) → HasNoOwn (past_inline cs name t)
inline_no_own cs name (Own n) = tt
inline_no_own cs name (On y g) = tt
inline_no_own cs name (Via g) = called_no_own (is_called cs name g) name g (Via g ∷ []) tt

via_no_own : (o : Option (List ℕ)) → HasNoOwn (via_list o)
via_no_own None = tt
via_no_own (Some h) = tt

reference_no_own : (cs : List Call) (name : Option (List ℕ)) (js : List Join) (t : Tag) → HasNoOwn (past_reference cs name js t)
reference_no_own cs name js (Own n) = tt
reference_no_own cs name js (On y g) = tt
reference_no_own cs name js (Via g) = called_no_own (is_called cs name g) name g (via_list (passed_to js g)) (via_no_own (passed_to js g))

gate_no_own : (t : Target) → HasNoOwn (gate_tags t)
gate_no_own (target.Env (Some g)) = tt
gate_no_own (target.Env None) = tt
gate_no_own target.Nobody = tt
gate_no_own (target.Instance far) = tt
gate_no_own (target.Gate name gate) = tt

numbers_app : (ns ms : List EventNode) → node_numbers (ns ++ ms) ≡ node_numbers ns ++ node_numbers ms
numbers_app [] ms = refl
numbers_app (n ∷ ns) ms = ap (λ l. n.number ∷ l) (numbers_app ns ms)

event_tally : (charts : Charts) (k n : ℕ) (e : EventNode) → often (Own k) (event_shown charts n e) ≡ tally k (e.number ∷ [])
event_tally charts k n e = omega (arith, often_more (Own k) (n, Own e.number) (shown_at n (gate_tags e.event.target)), no_own k n (gate_tags e.event.target) (gate_no_own e.event.target), tally_cons k e.number [], tally_none k)

events_tally : (charts : Charts) (k n : ℕ) (es : List EventNode) → often (Own k) (events_shown charts n es) ≡ tally k (node_numbers es)
events_tally charts k n [] = omega (arith, tally_none k)
events_tally charts k n (e ∷ es) =
    omega (arith, often_both (Own k) (event_shown charts n e) (events_shown charts (n + 1) es), event_tally charts k n e, tally_cons k e.number [], tally_none k, tally_cons k e.number (node_numbers es), events_tally charts k (n + 1) es)

item_tally : (charts : Charts) (cs : List Call) (k n : ℕ) (x : WovenItem) → often (Own k) (item_shown charts cs n x) ≡ tally k (node_numbers (item_events x))
item_tally charts cs k n (Single e) = event_tally charts k n e
item_tally charts cs k n (Coregion es) = events_tally charts k n es
item_tally charts cs k n (Inline form part operands) = omega (arith, past_no_own k (past_inline cs part.name) (inline_no_own cs part.name) (operands_shown charts n operands), tally_none k)
item_tally charts cs k n (Refer part) = omega (arith, past_no_own k (past_reference cs part.name part.joins) (reference_no_own cs part.name part.joins) (expression_shown charts n part.expression), tally_none k)

pub items_tally : (charts : Charts) (cs : List Call) (k n : ℕ) (xs : WovenItems) → often (Own k) (items_shown charts cs n xs) ≡ tally k (node_numbers (events xs))
items_tally charts cs k n no_items = omega (arith, tally_none k)
items_tally charts cs k n (item_and x xs) =
    let split = ap (tally k) (numbers_app (item_events x) (events xs)) in
    omega (arith, often_both (Own k) (item_shown charts cs n x) (items_shown charts cs (n + item_count charts x) xs), item_tally charts cs k n x, items_tally charts cs k (n + item_count charts x) xs, tally_both k (node_numbers (item_events x)) (node_numbers (events xs)), split)

-- ---- pairs

pub length_app : (q r : List (ℕ × ℕ)) → length (q ++ r) ≡ length q + length r
length_app [] r = omega arith
length_app (p ∷ q) r = omega (arith, length_app q r)

with_length : (m : ℕ) (ns : List ℕ) → length (pairs_with m ns) ≡ length ns
with_length m [] = refl
with_length m (n ∷ ns) = ap suc (with_length m ns)

mul_zero : (b : ℕ) → 0 * b ≡ 0
mul_zero b = omega arith

pub between_length : (ms ns : List ℕ) → length (pairs_between ms ns) ≡ length ms * length ns
between_length [] ns = sym (mul_zero (length ns))
between_length (m ∷ ms) ns = omega (arith, length_app (pairs_with m ns) (pairs_between ms ns), with_length m ns, between_length ms ns, suc-mul (length ms) (length ns))

first_one : (ms ns : List ℕ) → length ms ≤ 1 → length (pairs_between ms ns) ≤ length ns
first_one [] ns l = omega arith
first_one (m ∷ []) ns l = omega (arith, length_app (pairs_with m ns) [], with_length m ns)
first_one (m ∷ k ∷ ms) ns l = absurd (omega arith)

second_one : (ms ns : List ℕ) → length ns ≤ 1 → length (pairs_between ms ns) ≤ length ms
second_one [] ns l = omega arith
second_one (m ∷ ms) ns l = omega (arith, length_app (pairs_with m ns) (pairs_between ms ns), with_length m ns, second_one ms ns l)

pub tied_both : (sh : Shown) (q r : List (Tag × Tag)) → length (tied_numbers sh (q ++ r)) ≡ length (tied_numbers sh q) + length (tied_numbers sh r)
tied_both sh [] r = omega arith
tied_both sh (t ∷ q) r =
    omega (arith, length_app (pairs_between (numbers_with t.0 sh) (numbers_with t.1 sh)) (tied_numbers sh (q ++ r)), length_app (pairs_between (numbers_with t.0 sh) (numbers_with t.1 sh)) (tied_numbers sh q), tied_both sh q r)

module _ (sh : Shown) (one : (k : ℕ) → often (Own k) sh ≤ 1) where
  own_few : (ps : List Pair) → length (tied_numbers sh (own_ties ps)) ≤ length ps
  own_few [] = omega arith
  own_few (p ∷ ps) =
      omega (arith, length_app (pairs_between (numbers_with (Own p.first) sh) (numbers_with (Own p.second) sh)) (tied_numbers sh (own_ties ps)), first_one (numbers_with (Own p.first) sh) (numbers_with (Own p.second) sh) (one p.first), one p.second, own_few ps)

  ordered_few : (k : Kind) (m : ℕ) (t : Tag) → length (tied_numbers sh (in_order k (Own m) t ∷ [])) ≤ often t sh
  ordered_few kind.Input m t = omega (arith, length_app (pairs_between (numbers_with t sh) (numbers_with (Own m) sh)) [], second_one (numbers_with t sh) (numbers_with (Own m) sh) (one m))
  ordered_few kind.Output m t = omega (arith, length_app (pairs_between (numbers_with (Own m) sh) (numbers_with t sh)) [], first_one (numbers_with (Own m) sh) (numbers_with t sh) (one m))
  ordered_few kind.OutputLost m t = omega (arith, length_app (pairs_between (numbers_with (Own m) sh) (numbers_with t sh)) [], first_one (numbers_with (Own m) sh) (numbers_with t sh) (one m))
  ordered_few kind.InputFound m t = omega (arith, length_app (pairs_between (numbers_with (Own m) sh) (numbers_with t sh)) [], first_one (numbers_with (Own m) sh) (numbers_with t sh) (one m))
  ordered_few kind.Action m t = omega (arith, length_app (pairs_between (numbers_with (Own m) sh) (numbers_with t sh)) [], first_one (numbers_with (Own m) sh) (numbers_with t sh) (one m))
  ordered_few kind.TimerStart m t = omega (arith, length_app (pairs_between (numbers_with (Own m) sh) (numbers_with t sh)) [], first_one (numbers_with (Own m) sh) (numbers_with t sh) (one m))
  ordered_few kind.TimerStop m t = omega (arith, length_app (pairs_between (numbers_with (Own m) sh) (numbers_with t sh)) [], first_one (numbers_with (Own m) sh) (numbers_with t sh) (one m))
  ordered_few kind.Timeout m t = omega (arith, length_app (pairs_between (numbers_with (Own m) sh) (numbers_with t sh)) [], first_one (numbers_with (Own m) sh) (numbers_with t sh) (one m))
  ordered_few kind.Create m t = omega (arith, length_app (pairs_between (numbers_with (Own m) sh) (numbers_with t sh)) [], first_one (numbers_with (Own m) sh) (numbers_with t sh) (one m))

-- ---- tags of called gates

abbrev all_often : List Tag → Shown → ℕ
all_often [] sh = 0
all_often (t ∷ ts) sh = often t sh + all_often ts sh

events_few : (sh : Shown) → ((k : ℕ) → often (Own k) sh ≤ 1) → (cs : List Call) → length (tied_numbers sh (event_ties cs)) ≤ all_often (event_tags cs) sh
events_few sh one [] = omega arith
events_few sh one (c ∷ cs) = by c.by (events_few sh one cs)
  where
    by : (b : Caller) → length (tied_numbers sh (event_ties cs)) ≤ all_often (event_tags cs) sh
        → length (tied_numbers sh ((elim b as (λ x. List (Tag × Tag)) [ an_event n ↦ in_order n.event.kind (Own n.number) (On c.name c.gate) ∷ [] | a_gate name gate ↦ [] ]) ++ event_ties cs)) ≤ all_often (tag_by c b ++ event_tags cs) sh
    by (an_event n) rest = omega (arith, tied_both sh (in_order n.event.kind (Own n.number) (On c.name c.gate) ∷ []) (event_ties cs), ordered_few sh one n.event.kind n.number (On c.name c.gate), rest)
    by (a_gate name gate) rest = rest

-- how many tags are called gates
abbrev on_in : Tag → ℕ
on_in (Own n) = 0
on_in (Via g) = 0
on_in (On name g) = 1

abbrev called_gates : Shown → ℕ
called_gates [] = 0
called_gates (p ∷ sh) = on_in p.1 + called_gates sh

abbrev AreOn : List Tag → Type 0
AreOn [] = Unit {0}
AreOn (Own n ∷ ts) = ⊥
AreOn (Via g ∷ ts) = ⊥
AreOn (On name g ∷ ts) = AreOn ts

-- how many of the tags are this one
abbrev matches : Tag → List Tag → ℕ
matches a [] = 0
matches a (t ∷ ts) = length (number_if (is_same_tag a t) 0 []) + matches a ts

all_more : (p : ℕ × Tag) (sh : Shown) (ts : List Tag) → all_often ts (p ∷ sh) ≡ matches p.1 ts + all_often ts sh
all_more p sh [] = omega arith
all_more p sh (t ∷ ts) = omega (arith, often_more t p sh, all_more p sh ts)

own_matches : (n : ℕ) (ts : List Tag) → AreOn ts → matches (Own n) ts ≡ 0
own_matches n [] h = refl
own_matches n (Own m ∷ ts) h = absurd h
own_matches n (Via g ∷ ts) h = absurd h
own_matches n (On name g ∷ ts) h = omega (arith, own_matches n ts h)

via_matches : (f : List ℕ) (ts : List Tag) → AreOn ts → matches (Via f) ts ≡ 0
via_matches f [] h = refl
via_matches f (Own m ∷ ts) h = absurd h
via_matches f (Via g ∷ ts) h = absurd h
via_matches f (On name g ∷ ts) h = omega (arith, via_matches f ts h)

and_true : (a b : Bool) → (a && b) ≡ true → (a ≡ true) × (b ≡ true)
and_true true b e = (refl, e)
and_true false b e = absurd cc

same_on : (y f z g : List ℕ) → is_same_tag (On y f) (On z g) ≡ true → On y f ≡ On z g
same_on y f z g e = let (a, b) = and_true (bytes_eq y z) (bytes_eq f g) e in ap (λ n. On n f) ((bytes_eq-Decides y z).0 a) ∙ ap (λ n. On z n) ((bytes_eq-Decides f g).0 b)

none_match : (y f : List ℕ) (ts : List Tag) → AreOn ts → (Among (On y f) ts → ⊥) → matches (On y f) ts ≡ 0
none_match y f [] h n = refl
none_match y f (Own m ∷ ts) h n = absurd h
none_match y f (Via g ∷ ts) h n = absurd h
none_match y f (On z g ∷ ts) h n = by (is_same_tag (On y f) (On z g)) refl (none_match y f ts h (λ i. n (later i)))
  where
    by : (b : Bool) → is_same_tag (On y f) (On z g) ≡ b → matches (On y f) ts ≡ 0 → matches (On y f) (On z g ∷ ts) ≡ 0
    by true e rest = absurd (n (subst (λ (t : Tag). Among (On y f) (t ∷ ts)) (same_on y f z g e) first))
    by false e rest = omega (arith, ap (λ b. length (number_if b 0 [])) e, rest)

one_match : (y f : List ℕ) (ts : List Tag) → AreOn ts → Once ts → matches (On y f) ts ≤ 1
one_match y f [] h o = omega arith
one_match y f (Own m ∷ ts) h o = absurd h
one_match y f (Via g ∷ ts) h o = absurd h
one_match y f (On z g ∷ ts) h (n, o) = by (is_same_tag (On y f) (On z g)) refl (one_match y f ts h o)
  where
    by : (b : Bool) → is_same_tag (On y f) (On z g) ≡ b → matches (On y f) ts ≤ 1 → matches (On y f) (On z g ∷ ts) ≤ 1
    by true e rest = omega (arith, ap (λ b. length (number_if b 0 [])) e, none_match y f ts h (λ i. n (subst (λ (t : Tag). Among t ts) (same_on y f z g e) i)))
    by false e rest = omega (arith, ap (λ b. length (number_if b 0 [])) e, rest)

few_match : (a : Tag) (ts : List Tag) → AreOn ts → Once ts → matches a ts ≤ on_in a
few_match (Own n) ts h o = omega (arith, own_matches n ts h)
few_match (Via g) ts h o = omega (arith, via_matches g ts h)
few_match (On y f) ts h o = one_match y f ts h o

none_often : (ts : List Tag) → all_often ts [] ≡ 0
none_often [] = refl
none_often (t ∷ ts) = omega (arith, none_often ts)

all_few : (ts : List Tag) → AreOn ts → Once ts → (sh : Shown) → all_often ts sh ≤ called_gates sh
all_few ts h o [] = omega (arith, none_often ts)
all_few ts h o (p ∷ sh) = omega (arith, all_more p sh ts, few_match p.1 ts h o, all_few ts h o sh)

on_app : (a b : List Tag) → AreOn a → AreOn b → AreOn (a ++ b)
on_app [] b h i = i
on_app (Own m ∷ a) b h i = absurd h
on_app (Via g ∷ a) b h i = absurd h
on_app (On z g ∷ a) b h i = on_app a b h i

by_on : (c : Call) (b : Caller) → AreOn (tag_by c b)
by_on c (an_event n) = tt
by_on c (a_gate name gate) = tt

events_on : (cs : List Call) → AreOn (event_tags cs)
events_on [] = tt
events_on (c ∷ cs) = on_app (tag_by c c.by) (event_tags cs) (by_on c c.by) (events_on cs)

-- ---- open gates

-- the gates of a list of tags, open or called
abbrev tag_gates : List Tag → ℕ
tag_gates [] = 0
tag_gates (t ∷ ts) = gates_in t + on_in t + tag_gates ts

all_gates : Shown → ℕ
all_gates sh = open_gates sh + called_gates sh

gates_app : (a b : Shown) → all_gates (a ++ b) ≡ all_gates a + all_gates b
unfolding all_gates
gates_app [] b = omega arith
gates_app (p ∷ a) b = omega (arith, gates_app a b)

gates_at : (n : ℕ) (ts : List Tag) → all_gates (shown_at n ts) ≡ tag_gates ts
unfolding all_gates
gates_at n [] = refl
gates_at n (t ∷ ts) = omega (arith, gates_at n ts)

gates_none : all_gates [] ≡ 0
unfolding all_gates
gates_none = refl

past_gates : (f : Tag → List Tag) → ((t : Tag) → tag_gates (f t) ≤ gates_in t) → (sh : Shown) → all_gates (past_shown f sh) ≤ open_gates sh
past_gates f h [] = omega (arith, gates_none)
past_gates f h (p ∷ sh) = omega (arith, gates_app (shown_at p.0 (f p.1)) (past_shown f sh), gates_at p.0 (f p.1), h p.1, past_gates f h sh)

called_gate : (b : Bool) (name : Option (List ℕ)) (g : List ℕ) (others : List Tag) → tag_gates others ≤ 1 → tag_gates (called_tag b name g others) ≤ 1
called_gate true (Some name) g others h = omega arith
called_gate true None g others h = h
called_gate false name g others h = h

inline_gates : (cs : List Call) (name : Option (List ℕ)) (t : Tag) → tag_gates (past_inline cs name t) ≤ gates_in t
inline_gates cs name (Own n) = omega arith
inline_gates cs name (On y g) = omega arith
inline_gates cs name (Via g) = called_gate (is_called cs name g) name g (Via g ∷ []) (omega arith)

via_gate : (o : Option (List ℕ)) → tag_gates (via_list o) ≤ 1
via_gate None = omega arith
via_gate (Some h) = omega arith

reference_gates : (cs : List Call) (name : Option (List ℕ)) (js : List Join) (t : Tag) → tag_gates (past_reference cs name js t) ≤ gates_in t
reference_gates cs name js (Own n) = omega arith
reference_gates cs name js (On y g) = omega arith
reference_gates cs name js (Via g) = called_gate (is_called cs name g) name g (via_list (passed_to js g)) (via_gate (passed_to js g))

target_gates : (t : Target) → tag_gates (gate_tags t) ≡ length (gate_tags t)
target_gates (target.Env (Some g)) = refl
target_gates (target.Env None) = refl
target_gates target.Nobody = refl
target_gates (target.Instance far) = refl
target_gates (target.Gate name gate) = refl

event_gates : (charts : Charts) (n : ℕ) (e : EventNode) → all_gates (event_shown charts n e) ≡ length (gate_tags e.event.target)
event_gates charts n e = omega (arith, gates_at n (Own e.number ∷ gate_tags e.event.target), target_gates e.event.target)

events_gates : (charts : Charts) (n : ℕ) (es : List EventNode) → all_gates (events_shown charts n es) ≡ own_gates es
events_gates charts n [] = gates_none
events_gates charts n (e ∷ es) = omega (arith, gates_app (event_shown charts n e) (events_shown charts (n + 1) es), event_gates charts n e, events_gates charts (n + 1) es)

own_app : (ns ms : List EventNode) → own_gates (ns ++ ms) ≡ own_gates ns + own_gates ms
own_app [] ms = omega arith
own_app (n ∷ ns) ms = omega (arith, own_app ns ms)

nodes_app : (ns ms : List EventNode) → length (ns ++ ms) ≡ length ns + length ms
nodes_app [] ms = omega arith
nodes_app (n ∷ ns) ms = omega (arith, nodes_app ns ms)

orders_app : (ns ms : List EventNode) → orders_count (ns ++ ms) ≡ orders_count ns + orders_count ms
orders_app [] ms = omega arith
orders_app (n ∷ ns) ms = omega (arith, orders_app ns ms)

-- ---- a level

-- events, and references
abbrev item_slots : WovenItem → ℕ
item_slots (Single n) = 1
item_slots (Coregion ns) = length ns
item_slots (Inline form part operands) = 0
item_slots (Refer part) = 1

abbrev slots : WovenItems → ℕ
slots no_items = 0
slots (item_and x xs) = item_slots x + slots xs

module _ (charts : Charts) (product : WovenItems → ReferencePart → ℕ) (whole : WovenItems) (cs : List Call) where
  -- the room of an item, without that for its events' pairs
  item_left : (n : ℕ) (x : WovenItem) → item_slots x + (length (item_events x) + orders_count (item_events x)) + (all_gates (item_shown charts cs n x) + item_product product whole x) ≤ item_room charts product whole n x + own_gates (item_events x)
  item_left n (Single e) = omega (arith, event_gates charts n e)
  item_left n (Coregion es) = omega (arith, events_gates charts n es)
  item_left n (Inline form part operands) = omega (arith, past_gates (past_inline cs part.name) (inline_gates cs part.name) (operands_shown charts n operands))
  item_left n (Refer part) = omega (arith, past_gates (past_reference cs part.name part.joins) (reference_gates cs part.name part.joins) (expression_shown charts n part.expression))

  items_left : (n : ℕ) (xs : WovenItems) → slots xs + (length (events xs) + orders_count (events xs)) + (all_gates (items_shown charts cs n xs) + products product whole xs) ≤ items_room charts product whole n xs + own_gates (events xs)
  items_left n no_items = omega (arith, gates_none)
  items_left n (item_and x xs) =
      omega (arith, item_left n x, items_left (n + item_count charts x) xs, gates_app (item_shown charts cs n x) (items_shown charts cs (n + item_count charts x) xs), own_app (item_events x) (events xs), nodes_app (item_events x) (events xs), orders_app (item_events x) (events xs))

-- a level without events and references ties nothing
none_events : (xs : WovenItems) → slots xs ≡ 0 → length (events xs) + orders_count (events xs) ≡ 0
none_events no_items e = omega arith
none_events (item_and (Single n) xs) e = absurd (omega (arith, e))
none_events (item_and (Coregion []) xs) e = omega (arith, none_events xs (omega (arith, e)))
none_events (item_and (Coregion (n ∷ ns)) xs) e = absurd (omega (arith, e))
none_events (item_and (Inline form part operands) xs) e = omega (arith, none_events xs (omega (arith, e)))
none_events (item_and (Refer part) xs) e = absurd (omega (arith, e))

none_calls : (xs : WovenItems) → slots xs ≡ 0 → calls xs ≡ []
none_calls no_items e = refl
none_calls (item_and (Single n) xs) e = absurd (omega (arith, e))
none_calls (item_and (Coregion []) xs) e = none_calls xs (omega (arith, e))
none_calls (item_and (Coregion (n ∷ ns)) xs) e = absurd (omega (arith, e))
none_calls (item_and (Inline form part operands) xs) e = none_calls xs (omega (arith, e))
none_calls (item_and (Refer part) xs) e = absurd (omega (arith, e))

none_joined : (ends : List GateEnd) (xs : WovenItems) → slots xs ≡ 0 → items_joins_ties ends xs ≡ []
none_joined ends no_items e = refl
none_joined ends (item_and (Single n) xs) e = absurd (omega (arith, e))
none_joined ends (item_and (Coregion []) xs) e = none_joined ends xs (omega (arith, e))
none_joined ends (item_and (Coregion (n ∷ ns)) xs) e = absurd (omega (arith, e))
none_joined ends (item_and (Inline form part operands) xs) e = none_joined ends xs (omega (arith, e))
none_joined ends (item_and (Refer part) xs) e = absurd (omega (arith, e))

pub level_open : (sh : Shown) → open_gates (past_shown past_level sh) ≡ open_gates sh
level_open [] = refl
level_open ((n, Own k) ∷ sh) = omega (arith, level_open sh)
level_open ((n, Via g) ∷ sh) = omega (arith, level_open sh)
level_open ((n, On z g) ∷ sh) = omega (arith, level_open sh)

gates_are : (sh : Shown) → all_gates sh ≡ open_gates sh + called_gates sh
unfolding all_gates
gates_are sh = refl

module _ (charts : Charts) (product : WovenItems → ReferencePart → ℕ) (ends_of : WovenItems → List GateEnd) (n : ℕ) (held : WovenItems) (ps : List Pair) (few : HasFewOwn held ps)
    (joined : length (tied_numbers (items_shown charts (calls held) n held) (items_joins_ties (ends_of held) held)) ≤ products product held held) where
  abbrev sh : Shown
  sh = items_shown charts (calls held) n held

  one : (k : ℕ) → often (Own k) sh ≤ 1
  one k = omega (arith, items_tally charts (calls held) k n held, tally_once k (node_numbers (events held)) few.numbers)

  split : length (tied_numbers sh (ties held ps (calls held) (ends_of held))) ≡ length (tied_numbers sh (own_ties (level_pairs held ps))) + (length (tied_numbers sh (event_ties (calls held))) + length (tied_numbers sh (items_joins_ties (ends_of held) held)))
  split = omega (arith, tied_both sh (own_ties (level_pairs held ps)) (event_ties (calls held) ++ items_joins_ties (ends_of held) held), tied_both sh (event_ties (calls held)) (items_joins_ties (ends_of held) held))

  called : length (tied_numbers sh (event_ties (calls held))) ≤ called_gates sh
  called = omega (arith, events_few sh one (calls held), all_few (event_tags (calls held)) (events_on (calls held)) few.calls sh)

  nothing : (k : ℕ) → slots held ≡ k → 1 ≤ length (tied_numbers sh (ties held ps (calls held) (ends_of held))) → 1 ≤ k
  nothing zero e l =
      let c = ap (λ (cs : List Call). length (tied_numbers sh (event_ties cs))) (none_calls held e) in
      let j = ap (λ (q : List (Tag × Tag)). length (tied_numbers sh q)) (none_joined (ends_of held) held e) in
      absurd (omega (arith, l, split, own_few sh one (level_pairs held ps), few.pairs, none_events held e, c, j))
  nothing (suc k) e l = omega arith

  has_room : HaveRoom (length (tied_numbers sh (ties held ps (calls held) (ends_of held)))) (open_gates (past_shown past_level sh)) (items_room charts product held n held)
  has_room = record {
    some = λ l. omega (arith, nothing (slots held) refl l, split, own_few sh one (level_pairs held ps), called, joined, few.pairs, items_left charts product held (calls held) n held, gates_are sh, level_open sh);
    any = omega (arith, few.pairs, items_left charts product held (calls held) n held, gates_are sh, level_open sh);
  }

pub few_pairs_have_room : FewPairsHaveRoom
few_pairs_have_room = record { room = λ charts product ends_of n cover held ps few joined. has_room charts product ends_of n held ps few joined }
