-- Lists in the order of places that have the same choices at each place, in the same order, are one.
use Rattle.std.specs.Prelude.{◌≡◌, ◌&&◌, Bool, true, false, List, [], ◌∷◌, if◌then◌else◌, not, refl}
use Rattle.std.proofs.Common.{◌∙◌, ap, ap₂, arith, inl, inr, subst, sym}
use Rattle.msc_base.specs.declared.place.Place.{Place}
use Rattle.msc_base.specs.Orders.{Among, first, later}
use Rattle.msc_base.specs.Places.{IsBefore, IsNoLater, is_before}
use Rattle.msc_base.proofs.PlaceFacts.{before_cases}
use Rattle.choice_meaning.specs.ChoiceLists.{AreInOrder, MadeChoice}
use Rattle.chart_choices.specs.Listed.{at_place, is_at}

clash : {R : Type 0} → true ≡ false → R
clash e = absurd cc

-- ---- places

no_before : (p : Place) → IsBefore p p → ⊥
no_before p (inl l) = omega (arith, l)
no_before p (inr (e, inl l)) = omega (arith, l)
no_before p (inr (e, inr (f, l))) = omega (arith, l)

never_before : (p : Place) → is_before p p ≡ false
never_before p = elim (before_cases p p) [ inl (t, b) ↦ absurd (no_before p b) | inr (f, n) ↦ f ]

at_itself : (p : Place) → is_at p p ≡ true
at_itself p = ap (λ (b : Bool). not b && not b) (never_before p)

-- two places, neither of which stands before the other, are one
no_later : (p q : Place) → is_before p q ≡ false → IsNoLater q p
no_later p q e = elim (before_cases p q) [ inl (t, b) ↦ clash (sym t ∙ e) | inr (f, n) ↦ n ]

before_there : (p q : Place) → IsBefore p q → is_before p q ≡ false → ⊥
before_there p q b e = elim (no_later p q e) [ inl r ↦ apart p q b r | inr s ↦ no_before p (subst (λ (r : Place). IsBefore p r) s b) ]
  where
    apart : (p q : Place) → IsBefore p q → IsBefore q p → ⊥
    apart p q (inl l) (inl m) = omega (arith, l, m)
    apart p q (inl l) (inr (e, m)) = omega (arith, l, e)
    apart p q (inr (e, l)) (inl m) = omega (arith, e, m)
    apart p q (inr (e, inl l)) (inr (f, inl m)) = omega (arith, l, m)
    apart p q (inr (e, inl l)) (inr (f, inr (g, m))) = omega (arith, l, g)
    apart p q (inr (e, inr (h, l))) (inr (f, inl m)) = omega (arith, h, m)
    apart p q (inr (e, inr (h, l))) (inr (f, inr (g, m))) = omega (arith, l, m)

one_place : (p q : Place) → is_before p q ≡ false → is_before q p ≡ false → p ≡ q
one_place p q e f = elim (no_later p q e) [ inl b ↦ absurd (before_there q p b f) | inr s ↦ sym s ]

parts_of : (a b : Bool) → (not a && not b) ≡ true → (a ≡ false) × (b ≡ false)
parts_of false false e = (refl, refl)
parts_of true b e = clash (sym e)
parts_of false true e = clash (sym e)

is_one : (p q : Place) → is_at p q ≡ true → p ≡ q
is_one p q e = let (a, b) = parts_of (is_before p q) (is_before q p) e in one_place p q a b

-- ---- lists

-- a choice at the place stands in the list
record HasAt (p : Place) (ms : List MadeChoice) : Type 0 where
  choice : MadeChoice
  among : Among choice ms
  at : p ≡ choice.place

has_at : (p : Place) (ms : List MadeChoice) (x : MadeChoice) (xs : List MadeChoice) → at_place p ms ≡ x ∷ xs → HasAt p ms
has_at p [] x xs e = absurd cc
has_at p (m ∷ ms) x xs e = by (is_at p m.place) refl e (has_at p ms x xs)
  where
    by : (b : Bool) → is_at p m.place ≡ b → (if b then m ∷ at_place p ms else at_place p ms) ≡ x ∷ xs → (at_place p ms ≡ x ∷ xs → HasAt p ms) → HasAt p (m ∷ ms)
    by true q e h = record { choice = m; among = first; at = is_one p m.place q }
    by false q e h = let g = h e in record { choice = g.choice; among = later g.among; at = g.at }

-- the first of a list stands there
first_at : (m : MadeChoice) (ms : List MadeChoice) → at_place m.place (m ∷ ms) ≡ m ∷ at_place m.place ms
first_at m ms = ap (λ (b : Bool). if b then m ∷ at_place m.place ms else at_place m.place ms) (at_itself m.place)

-- no choice of a list in order stands before its first
none_before : (m : MadeChoice) (ms : List MadeChoice) → AreInOrder (m ∷ ms) → (n : MadeChoice) → Among n (m ∷ ms) → is_before n.place m.place ≡ false
none_before m ms h _ first = never_before m.place
none_before m ms h n (later i) = h.0 n i

no_earlier : (m : MadeChoice) (ms : List MadeChoice) (n : MadeChoice) (ns : List MadeChoice) → AreInOrder (m ∷ ms) → at_place n.place (m ∷ ms) ≡ at_place n.place (n ∷ ns) → is_before n.place m.place ≡ false
no_earlier m ms n ns h e =
    let g = has_at n.place (m ∷ ms) n (at_place n.place ns) (e ∙ first_at n ns) in
    subst (λ (p : Place). is_before p m.place ≡ false) (sym g.at) (none_before m ms h g.choice g.among)

heads : (m n : MadeChoice) (ms ns : List MadeChoice) → m ∷ ms ≡ n ∷ ns → m ≡ n
heads m n ms ns e = cc

tails : (m n : MadeChoice) (ms ns : List MadeChoice) → m ∷ ms ≡ n ∷ ns → ms ≡ ns
tails m n ms ns e = cc

pub one_order : (a b : List MadeChoice) → AreInOrder a → AreInOrder b → ((p : Place) → at_place p a ≡ at_place p b) → a ≡ b
one_order [] [] h k same = refl
one_order [] (n ∷ ns) h k same = let e : [] ≡ n ∷ at_place n.place ns = same n.place ∙ first_at n ns in absurd cc
one_order (m ∷ ms) [] h k same = let e : [] ≡ m ∷ at_place m.place ms = sym (same m.place) ∙ first_at m ms in absurd cc
one_order (m ∷ ms) (n ∷ ns) h k same = ap₂ (λ (x : MadeChoice) (xs : List MadeChoice). x ∷ xs) one (one_order ms ns h.1 k.1 behind)
  where
    places : m.place ≡ n.place
    places = one_place m.place n.place (no_earlier n ns m ms k (sym (same m.place))) (no_earlier m ms n ns h (same n.place))

    here : m ∷ at_place m.place ms ≡ n ∷ at_place m.place ns
    here = sym (first_at m ms) ∙ (same m.place ∙ subst (λ (p : Place). at_place p (n ∷ ns) ≡ n ∷ at_place p ns) (sym places) (first_at n ns))

    one : m ≡ n
    one = heads m n (at_place m.place ms) (at_place m.place ns) here

    behind : (p : Place) → at_place p ms ≡ at_place p ns
    behind p = by (is_at p m.place) (is_at p n.place) (ap (λ (x : MadeChoice). is_at p x.place) one) (same p)
      where
        by : (a b : Bool) → a ≡ b → (if a then m ∷ at_place p ms else at_place p ms) ≡ (if b then n ∷ at_place p ns else at_place p ns) → at_place p ms ≡ at_place p ns
        by true true e q = tails m n (at_place p ms) (at_place p ns) q
        by false false e q = q
        by true false e q = clash e
        by false true e q = clash (sym e)
