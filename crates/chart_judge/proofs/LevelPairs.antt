-- A level has no more message pairs than events that name no gate of their level, and is ordered by no more pairs than its events name.
use Rattle.std.specs.Prelude.{ℕ, zero, suc, ◌≤◌, true, List, [], ◌∷◌, ◌++◌, ◌+◌, None, Some, length}
use Rattle.std.specs.List.{slice_get}
use Rattle.std.proofs.Common.{◌≡◌, ◌∙◌, refl, sym, subst, ap, inl, inr, arith}
use Rattle.msc_base.specs.declared.label.Pair.{Pair}
use Rattle.msc_base.specs.Orders.{Among, first, later}
use Rattle.msc_meaning.specs.Bodies.{EventNode, WovenItems, events}
use Rattle.msc_meaning.specs.Pairing.{ArePairs, DoRise, HasPair, Key, key_list, output_key}
use Rattle.msc_meaning.specs.Ties.{after_pairs, before_pairs, each_after, each_before, labelled, level_pairs, order_pairs}
use Rattle.general_ordering.specs.OrderCounts.{orders_count}
use Rattle.expanded_terms.specs.FewPairs.{own_gates}
use Rattle.msc_base.specs.declared.label.Kind.{Kind}
use Rattle.msc_base.specs.declared.label.Kind.TheVariants as kind
use Rattle.msc_meaning.specs.FarEnds.{gate_tags}
use Rattle.msc_tree.specs.declared.event.Target.{Target}
use Rattle.msc_tree.specs.declared.event.Target.TheVariants.{Nobody, Env, Instance, Gate}

pub place_among : (ns : List EventNode) (i : ℕ) (n : EventNode) → slice_get ns i ≡ Some n → Among n ns
place_among [] i n h = cc
place_among (m ∷ ns) zero n h = let e : m ≡ n = cc in subst (λ k. Among n (k ∷ ns)) (sym e) first
place_among (m ∷ ns) (suc i) n h = later (place_among ns i n h)

-- the numbers without one
record IsWithout (k : ℕ) (ys : List ℕ) : Type 0 where
  rest : List ℕ
  less : length ys ≡ suc (length rest)
  keeps : (j : ℕ) → Among j ys → (j ≡ k → ⊥) → Among j rest

without_one : (k : ℕ) (ys : List ℕ) → Among k ys → IsWithout k ys
without_one k (y ∷ ys) first = record { rest = ys; less = refl; keeps = λ j i n. behind j y ys i n }
  where
    behind : (j y : ℕ) (ys : List ℕ) → Among j (y ∷ ys) → (j ≡ y → ⊥) → Among j ys
    behind j _ ys first n = absurd (n refl)
    behind j y ys (later i) n = i
without_one k (y ∷ ys) (later h) = let w = without_one k ys h in record { rest = y ∷ w.rest; less = ap suc w.less; keeps = λ j i n. kept j y ys w.rest i (λ g. w.keeps j g n) }
  where
    kept : (j y : ℕ) (ys rest : List ℕ) → Among j (y ∷ ys) → (Among j ys → Among j rest) → Among j (y ∷ rest)
    kept j _ ys rest first f = first
    kept j y ys rest (later i) f = later (f i)
without_one k [] h = elim h [ ]

rises_above : (n : ℕ) (ps : List Pair) (q : Pair) → DoRise n ps → Among q ps → n ≤ q.first
rises_above n (p ∷ ps) _ (l, h) first = l
rises_above n (p ∷ ps) q (l, h) (later i) = let above = rises_above (suc p.first) ps q h i in omega (arith, above, l)
rises_above n [] q h i = elim i [ ]

few_rising : (ps : List Pair) (n : ℕ) (ys : List ℕ) → DoRise n ps → ((p : Pair) → Among p ps → Among p.first ys) → length ps ≤ length ys
few_rising [] n ys h f = omega arith
few_rising (p ∷ ps) n ys (l, h) f =
    let w = without_one p.first ys (f p first) in
    let few = few_rising ps (suc p.first) w.rest h (λ q i. w.keeps q.first (f q (later i)) (λ e. let above = rises_above (suc p.first) ps q h i in let clash : ⊥ = omega (arith, above, e) in clash)) in
    omega (arith, few, w.less)

pub has_pair : (ps : List Pair) (p : Pair) → Among p ps → HasPair ps p.first p.second
has_pair (p ∷ ps) _ first = inl (refl, refl)
has_pair (q ∷ ps) p (later h) = inr (has_pair ps p h)
has_pair [] p h = elim h [ ]

-- the numbers of the events that name no gate of their level
number_unless : Target → ℕ → List ℕ
number_unless (Env (Some g)) n = []
number_unless (Env None) n = n ∷ []
number_unless Nobody n = n ∷ []
number_unless (Instance far) n = n ∷ []
number_unless (Gate name gate) n = n ∷ []

gateless : List EventNode → List ℕ
gateless [] = []
gateless (n ∷ ns) = number_unless n.event.target n.number ++ gateless ns

length_both : (a b : List ℕ) → length (a ++ b) ≡ length a + length b
length_both [] b = omega arith
length_both (k ∷ a) b = omega (arith, length_both a b)

one_or_gate : (t : Target) (n : ℕ) → length (number_unless t n) + length (gate_tags t) ≡ 1
unfolding number_unless
one_or_gate (Env (Some g)) n = refl
one_or_gate (Env None) n = refl
one_or_gate Nobody n = refl
one_or_gate (Instance far) n = refl
one_or_gate (Gate name gate) n = refl

length_gateless : (ns : List EventNode) → length (gateless ns) + own_gates ns ≡ length ns
unfolding gateless
length_gateless [] = refl
length_gateless (n ∷ ns) = omega (arith, length_both (number_unless n.event.target n.number) (gateless ns), one_or_gate n.event.target n.number, length_gateless ns)

among_front : (a b : List ℕ) (k : ℕ) → Among k a → Among k (a ++ b)
among_front (j ∷ a) b _ first = first
among_front (j ∷ a) b k (later h) = later (among_front a b k h)
among_front [] b k h = elim h [ ]

among_back : (a b : List ℕ) (k : ℕ) → Among k b → Among k (a ++ b)
among_back [] b k h = h
among_back (j ∷ a) b k h = later (among_back a b k h)

-- an output to an instance names none
no_key : (n : EventNode) (k : Kind) (g : List ℕ) → key_list true n k (Env (Some g)) ≡ []
no_key n kind.Output g = refl
no_key n kind.Input g = refl
no_key n kind.OutputLost g = refl
no_key n kind.InputFound g = refl
no_key n kind.Action g = refl
no_key n kind.TimerStart g = refl
no_key n kind.TimerStop g = refl
no_key n kind.Timeout g = refl
no_key n kind.Create g = refl

its_number : (n : EventNode) (key : Key) (t : Target) → key_list true n n.event.kind t ≡ key ∷ [] → Among n.number (number_unless t n.number)
unfolding number_unless
its_number n key (Env (Some g)) e = let none : [] ≡ key ∷ [] = sym (no_key n n.event.kind g) ∙ e in absurd cc
its_number n key (Env None) e = first
its_number n key Nobody e = first
its_number n key (Instance far) e = first
its_number n key (Gate name gate) e = first

gateless_has : (ns : List EventNode) (n : EventNode) (key : Key) → Among n ns → output_key n ≡ key ∷ [] → Among n.number (gateless ns)
unfolding gateless
gateless_has (n ∷ ns) _ key first e = among_front (number_unless n.event.target n.number) (gateless ns) n.number (its_number n key n.event.target e)
gateless_has (m ∷ ns) n key (later h) e = among_back (number_unless m.event.target m.number) (gateless ns) n.number (gateless_has ns n key h e)
gateless_has [] n key h e = elim h [ ]

pairs_are_few : (held : List EventNode) (pairs : List Pair) → ArePairs held pairs → length pairs + own_gates held ≤ length held
pairs_are_few held ps h = let few = few_rising ps 0 (gateless held) h.rising (λ p i. output p i) in omega (arith, few, length_gateless held)
  where
    output : (p : Pair) → Among p ps → Among p.first (gateless held)
    output p i =
        let paired = h.paired p.first p.second (has_pair ps p i) in
        subst (λ k. Among k (gateless held)) paired.output_number (gateless_has held paired.output paired.key (place_among held paired.output_position paired.output paired.output_at) paired.puts)

-- ---- the general ordering

length_pairs : (ps qs : List Pair) → length (ps ++ qs) ≡ length ps + length qs
length_pairs [] qs = omega arith
length_pairs (p ∷ ps) qs = omega (arith, length_pairs ps qs)

after_length : (x : ℕ) (es : List ℕ) → length (each_after x es) ≡ length es
after_length x [] = refl
after_length x (e ∷ es) = ap suc (after_length x es)

before_length : (x : ℕ) (es : List ℕ) → length (each_before x es) ≡ length es
before_length x [] = refl
before_length x (e ∷ es) = ap suc (before_length x es)

module _ (named : List ℕ → List ℕ) (few : (name : List ℕ) → length (named name) ≤ 1) where
  before_few : (x : ℕ) (names : List (List ℕ)) → length (before_pairs named x names) ≤ length names
  before_few x [] = omega arith
  before_few x (name ∷ names) = omega (arith, length_pairs (each_after x (named name)) (before_pairs named x names), after_length x (named name), few name, before_few x names)

  after_few : (x : ℕ) (names : List (List ℕ)) → length (after_pairs named x names) ≤ length names
  after_few x [] = omega arith
  after_few x (name ∷ names) = omega (arith, length_pairs (each_before x (named name)) (after_pairs named x names), before_length x (named name), few name, after_few x names)

  orders_few : (ns : List EventNode) → length (order_pairs named ns) ≤ orders_count ns
  orders_few [] = omega arith
  orders_few (n ∷ ns) =
      omega (
        arith,
        length_pairs (before_pairs named n.number n.event.order.earlier_than) (after_pairs named n.number n.event.order.later_than ++ order_pairs named ns),
        length_pairs (after_pairs named n.number n.event.order.later_than) (order_pairs named ns),
        before_few n.number n.event.order.earlier_than,
        after_few n.number n.event.order.later_than,
        orders_few ns,
      )

pub level_is_few : (held : WovenItems) (pairs : List Pair) → ArePairs (events held) pairs → ((name : List ℕ) → length (labelled (events held) name) ≤ 1) → length (level_pairs held pairs) + own_gates (events held) ≤ length (events held) + orders_count (events held)
level_is_few held pairs h few =
    omega (arith, length_pairs pairs (order_pairs (labelled (events held)) (events held)), pairs_are_few (events held) pairs h, orders_few (labelled (events held)) few (events held))
