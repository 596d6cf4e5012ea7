-- There is one list of a chart's choices.
use Rattle.std.specs.Cmp.Lexicographic.{slice_cmp}
use Rattle.std.specs.List.{AllByRecursion}
use Rattle.std.specs.List.Sorted.{IsStrictlySortedBy}
use Rattle.std.specs.Ordering.{nat_cmp, ordering_reverse}
use Rattle.std.specs.declared.cmp.Ordering.TheVariants.{Greater, Less}
use Rattle.std.specs.Prelude.{◌≡◌, ◌<◌, ◌≤◌, ℕ, List, [], ◌∷◌, length, refl}
use Rattle.std.proofs.Common.{◌∙◌, ap, ap₂, arith, inl, inr, subst, sym}
use Rattle.std.proofs.lemmas.Cmp.{nat_list_cmp_total}
use Rattle.std.proofs.lemmas.Option.{same_Some}
use Rattle.msc_base.specs.Lists.{IsAmong}
use Rattle.msc_meaning.specs.Tables.{ChartEntry, Table}
use Rattle.choice_meaning.specs.ChoiceLists.{AreMade, AreMakersInOrder, IsChoiceList, MadeChoice, by_one, by_several, no_choice}
use Rattle.choice_meaning.specs.Choices.{Choice, choices_of}
use Rattle.chart_choices.specs.Listed.{ChoiceListsAreOne, at_place}
use Rattle.chart_choices.specs.Making.{AreRising}
use Rattle.chart_choices.proofs.OneOrder.{one_order}

-- ---- rising lists of the same instances

abbrev Precedes : List ℕ → List ℕ → Type 0
Precedes i j = slice_cmp nat_cmp i j ≡ Less

-- of two names each can't come before the other
apart : (i j : List ℕ) → Precedes i j → Precedes j i → ⊥
apart i j h g = let bad : Less ≡ Greater = sym h ∙ (nat_list_cmp_total.antisymm i j ∙ ap ordering_reverse g) in cc

below : (i : List ℕ) (is : List (List ℕ)) → AllByRecursion (λ j. slice_cmp nat_cmp i j ≡ Less) is → (j : List ℕ) → IsAmong is j → Precedes i j
below i [] h j k = absurd k
below i (l ∷ is) h j (inl e) = subst (λ (m : List ℕ). Precedes i m) (sym e) h.0
below i (l ∷ is) h j (inr k) = below i is h.1 j k

-- what is among both lists beside the same first name is among their tails
behind : (l m : List ℕ) (ls ms : List (List ℕ)) → l ≡ m → AllByRecursion (λ j. slice_cmp nat_cmp l j ≡ Less) ls → ((i : List ℕ) → IsAmong (l ∷ ls) i → IsAmong (m ∷ ms) i) → (i : List ℕ) → IsAmong ls i → IsAmong ms i
behind l m ls ms e above f i k = go (f i (inr k))
  where
    go : IsAmong (m ∷ ms) i → IsAmong ms i
    go (inr j) = j
    go (inl q) = let less : Precedes l l = subst (λ (j : List ℕ). Precedes l j) (q ∙ sym e) (below l ls above i k) in absurd (apart l l less less)

rising_one : (ls ms : List (List ℕ)) → AreRising ls → AreRising ms → ((i : List ℕ) → IsAmong ls i → IsAmong ms i) → ((i : List ℕ) → IsAmong ms i → IsAmong ls i) → ls ≡ ms
unfolding IsStrictlySortedBy
rising_one [] [] s t f g = refl
rising_one [] (m ∷ ms) s t f g = absurd (g m (inl refl))
rising_one (l ∷ ls) [] s t f g = absurd (f l (inl refl))
rising_one (l ∷ ls) (m ∷ ms) s t f g =
    let e = first_one (f l (inl refl)) (g m (inl refl)) in
    ap₂ (λ (x : List ℕ) (xs : List (List ℕ)). x ∷ xs) e (rising_one ls ms s.1 t.1 (behind l m ls ms e s.0 f) (behind m l ms ls (sym e) t.0 g))
  where
    first_one : IsAmong (m ∷ ms) l → IsAmong (l ∷ ls) m → l ≡ m
    first_one (inl e) j = e
    first_one (inr i) (inl e) = sym e
    first_one (inr i) (inr j) = absurd (apart l m (below l ls s.0 m j) (below m ms t.0 l i))

-- ---- what is made of choices

module _ (table : Table) where
  makers_one : (c : Choice) (is js : List (List ℕ)) → AreMakersInOrder table c is → AreMakersInOrder table c js → is ≡ js
  makers_one c is js h k = rising_one is js h.rising k.rising (λ i m. (k.exact i).1 ((h.exact i).0 m)) (λ i m. (h.exact i).1 ((k.exact i).0 m))

  not_both : (is js : List (List ℕ)) → is ≡ js → 1 < length is → length js ≤ 1 → ⊥
  not_both is js e l m = let n : 1 < length js = subst (λ (k : List (List ℕ)). 1 < length k) e l in omega (arith, n, m)

  made_one : (cs : List Choice) (ms ns : List MadeChoice) → AreMade table cs ms → AreMade table cs ns → ms ≡ ns
  made_one [] _ _ no_choice no_choice = refl
  made_one (c ∷ cs) _ _ (by_several {names = is} {ms = ms} h l k) (by_several {names = js} {ms = ns} i m n) =
      ap₂ (λ (names : List (List ℕ)) (rest : List MadeChoice). record { place = c.place; instances = names } ∷ rest) (makers_one c is js h i) (made_one cs ms ns k n)
  made_one (c ∷ cs) _ _ (by_one {names = is} {ms = ms} h l k) (by_one {names = js} {ms = ns} i m n) = made_one cs ms ns k n
  made_one (c ∷ cs) _ _ (by_several {names = is} {ms = ms} h l k) (by_one {names = js} {ms = ns} i m n) = absurd (not_both is js (makers_one c is js h i) l m)
  made_one (c ∷ cs) _ _ (by_one {names = is} {ms = ms} h l k) (by_several {names = js} {ms = ns} i m n) = absurd (not_both js is (makers_one c js is i h) m l)

  same_made : (name : List ℕ) (a b : List MadeChoice) (h : IsChoiceList table name a) (k : IsChoiceList table name b) → h.made ≡ k.made
  same_made name a b h k =
      let one : h.chart ≡ k.chart = same_Some h.chart k.chart (sym h.is ∙ k.is) in
      made_one (choices_of k.chart) h.made k.made (subst (λ (c : ChartEntry). AreMade table (choices_of c) h.made) one h.are) k.are

pub choice_lists_are_one : ChoiceListsAreOne
choice_lists_are_one table name a b h k =
    one_order a b h.list.ordered k.list.ordered (λ p. h.kept p ∙ (ap (at_place p) (same_made table name a b h.list k.list) ∙ sym (k.kept p)))
