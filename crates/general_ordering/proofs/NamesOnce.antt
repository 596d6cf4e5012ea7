-- On a level whose events have different numbers, none of which breaks the rule on names, at most one event has a name.
use Rattle.std.specs.List.{list_any}
use Rattle.std.proofs.Common.{ℕ, ◌<◌, ◌≤◌, ◌≡◌, ◌⊎◌, inl, inr, Bool, true, false, ◌&&◌, nat_lt, List, [], ◌∷◌, ◌++◌, map, length, Option, Some, None, if◌then◌else◌, refl, sym, ◌∙◌, ap, subst, arith}
use Rattle.std.proofs.lemmas.Bool.{cases_lt, or_left, or_right}
use Rattle.std.proofs.lemmas.Bool.Decides.{nat_tests}
use Rattle.std.proofs.lemmas.Slice.Eq.{bytes_eq-Decides}
use Rattle.msc_base.specs.Lists.{IsAmong}
use Rattle.msc_base.specs.Orders.{Among, first, later, Once}
use Rattle.msc_base.specs.declared.place.Place.{Place}
use Rattle.msc_meaning.specs.Bodies.{EventNode}
use Rattle.msc_meaning.specs.Ties.{is_labelled, labelled}
use Rattle.general_ordering.specs.EventNames.{breaks, is_named_before, places_where, stands_before, Twice}

pub is_one : {A : Type 0} (x : A) (xs ys : List A) → IsAmong xs x → IsAmong (xs ++ ys) x
is_one x [] ys h = absurd h
is_one x (z ∷ xs) ys (inl e) = inl e
is_one x (z ∷ xs) ys (inr h) = inr (is_one x xs ys h)

pub is_other : {A : Type 0} (x : A) (xs ys : List A) → IsAmong ys x → IsAmong (xs ++ ys) x
is_other x [] ys h = h
is_other x (z ∷ xs) ys h = inr (is_other x xs ys h)

passes : {A : Type 0} (test : A → Bool) (xs : List A) (x : A) → Among x xs → test x ≡ true → list_any test xs ≡ true
passes test (y ∷ xs) _ first t = or_left (test y) (list_any test xs) t
passes test (y ∷ xs) x (later h) t = or_right (test y) (list_any test xs) (passes test xs x h t)
passes test [] x h t = elim h [ ]

noted : (test : EventNode → Bool) (ns : List EventNode) (n : EventNode) → Among n ns → test n ≡ true → IsAmong (places_where test ns) n.event.place
noted test (m ∷ ns) _ first t = is_one m.event.place (if test m then m.event.place ∷ [] else []) (places_where test ns) (subst (λ (b : Bool). IsAmong (if b then m.event.place ∷ [] else []) m.event.place) (sym t) (inl refl))
noted test (m ∷ ns) n (later h) t = is_other n.event.place (if test m then m.event.place ∷ [] else []) (places_where test ns) (noted test ns n h t)
noted test [] n h t = elim h [ ]

module _ (name : List ℕ) where
  named : (all : List EventNode) (own : Option (List ℕ)) (k : ℕ) → is_labelled own name ≡ true → is_named_before all own k ≡ stands_before all name k
  named all None k t = absurd cc
  named all (Some label) k t = ap (λ (l : List ℕ). stands_before all l k) ((bytes_eq-Decides label name).0 t)

  -- one of a lower number breaks the rule
  broken : (all : List EventNode) (a b : EventNode) → Among a all → is_labelled a.event.order.event_name name ≡ true → is_labelled b.event.order.event_name name ≡ true → a.number < b.number → breaks Twice all b ≡ true
  broken all a b h s t low =
      let less : nat_lt a.number b.number ≡ true = grind (arith, nat_tests) in
      named all b.event.order.event_name b.number t
      ∙ passes (λ (n : EventNode). is_labelled n.event.order.event_name name && nat_lt n.number b.number) all a h (ap (λ (c : Bool). c && nat_lt a.number b.number) s ∙ less)

  same_number : (all : List EventNode) → ((p : Place) → IsAmong (places_where (breaks Twice all) all) p → ⊥) → (a b : EventNode) → Among a all → Among b all
      → is_labelled a.event.order.event_name name ≡ true → is_labelled b.event.order.event_name name ≡ true → a.number ≡ b.number
  same_number all none a b i j s t = by (cases_lt a.number b.number) (cases_lt b.number a.number)
    where
      by : (a.number < b.number) ⊎ (b.number ≤ a.number) → (b.number < a.number) ⊎ (a.number ≤ b.number) → a.number ≡ b.number
      by (inl low) k = absurd (none b.event.place (noted (breaks Twice all) all b j (broken all a b i s t low)))
      by (inr high) (inl low) = absurd (none a.event.place (noted (breaks Twice all) all a i (broken all b a j t s low)))
      by (inr high) (inr low) = omega arith

  -- no event of that name
  labelled_none : (ns : List EventNode) → ((m : EventNode) → Among m ns → is_labelled m.event.order.event_name name ≡ true → ⊥) → labelled ns name ≡ []
  labelled_none [] f = refl
  labelled_none (n ∷ ns) f = by (is_labelled n.event.order.event_name name) refl (labelled_none ns (λ m i t. f m (later i) t))
    where
      by : (b : Bool) → is_labelled n.event.order.event_name name ≡ b → labelled ns name ≡ [] → (if b then n.number ∷ labelled ns name else labelled ns name) ≡ []
      by true t e = absurd (f n first t)
      by false t e = e

  number_among : (ns : List EventNode) (m : EventNode) → Among m ns → Among m.number (map (λ (n : EventNode). n.number) ns)
  number_among (n ∷ ns) _ first = first
  number_among (n ∷ ns) m (later h) = later (number_among ns m h)
  number_among [] m h = elim h [ ]

  one_at_most : (ns : List EventNode) → Once (map (λ (n : EventNode). n.number) ns) → ((a b : EventNode) → Among a ns → Among b ns → is_labelled a.event.order.event_name name ≡ true → is_labelled b.event.order.event_name name ≡ true → a.number ≡ b.number)
      → length (labelled ns name) ≤ 1
  one_at_most [] o f = omega arith
  one_at_most (n ∷ ns) (o, h) f = by (is_labelled n.event.order.event_name name) refl (one_at_most ns h (λ a b i j. f a b (later i) (later j)))
    where
      by : (b : Bool) → is_labelled n.event.order.event_name name ≡ b → length (labelled ns name) ≤ 1 → length (if b then n.number ∷ labelled ns name else labelled ns name) ≤ 1
      by false t few = few
      by true t few =
          let none : labelled ns name ≡ [] = labelled_none ns (λ m i s. o (subst (λ (k : ℕ). Among k (map (λ (e : EventNode). e.number) ns)) (f m n (later i) first s t) (number_among ns m i))) in
          omega (arith, ap length none)

pub names_once : (all : List EventNode) → Once (map (λ (n : EventNode). n.number) all) → ((p : Place) → IsAmong (places_where (breaks Twice all) all) p → ⊥) → (name : List ℕ) → length (labelled all name) ≤ 1
names_once all o none name = one_at_most name all o (λ a b i j s t. same_number name all none a b i j s t)
