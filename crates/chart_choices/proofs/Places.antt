-- Choices that are sorted by their places are in the order of these.
use Rattle.std.specs.List.Sorted.{IsSortedByKey, IsStableByKey, ties}
use Rattle.std.specs.Ordering.{is_lt, nat_cmp, ordering_reverse, ordering_then}
use Rattle.std.specs.Cmp.{IsTotalOrder, nat_cmp_is, nat_cmp_total, on_total, then_total}
use Rattle.std.specs.declared.cmp.Ordering.{Ordering}
use Rattle.std.specs.declared.cmp.Ordering.TheVariants.{Equal, Greater, Less}
use Rattle.std.specs.Prelude.{◌≡◌, ◌&&◌, ◌<◌, ◌≤◌, ℕ, suc, Bool, true, false, List, [], ◌∷◌, filter, if◌then◌else◌, length, map, not}
use Rattle.std.proofs.Common.{◌∙◌, ap, ap₂, arith, get_or, inl, inr, refl, sym}
use Rattle.std.proofs.lemmas.List.Sorted.{ranks_by, sorted_far}
use Rattle.msc_base.specs.declared.place.Place.{Place}
use Rattle.msc_base.specs.Orders.{Among, first, later}
use Rattle.msc_base.specs.Places.{IsBefore, IsNoLater, is_before}
use Rattle.msc_base.proofs.PlaceFacts.{before_cases}
use Rattle.choice_meaning.specs.ChoiceLists.{AreInOrder, MadeChoice}
use Rattle.chart_choices.specs.declared.choice.Choice.{Choice}
use Rattle.chart_choices.specs.Listed.{as_made, at_place, is_at, made_choices}

abbrev Key : Type 0
Key = ℕ × ℕ × ℕ

abbrev pub place_key : Choice → Key
place_key c = (c.place.byte, c.place.line, c.place.column)

abbrev pub key_cmp : Key → Key → Ordering
key_cmp x y = ordering_then (ordering_then (nat_cmp x.0 y.0) (nat_cmp x.1 y.1)) (nat_cmp x.2 y.2)

key_total : IsTotalOrder key_cmp
key_total = then_total (then_total (on_total (λ (t : Key). t.0) nat_cmp_total) (on_total (λ (t : Key). t.1) nat_cmp_total)) (on_total (λ (t : Key). t.2) nat_cmp_total)

abbrev is_less : Choice → Choice → Bool
is_less c d = is_lt (key_cmp (place_key c) (place_key d))

-- ---- the test of keys is that of places

first_less : (a b c : Ordering) → a ≡ Less → is_lt (ordering_then (ordering_then a b) c) ≡ true
first_less a b c e = ap (λ (o : Ordering). is_lt (ordering_then (ordering_then o b) c)) e

second_less : (a b c : Ordering) → a ≡ Equal → b ≡ Less → is_lt (ordering_then (ordering_then a b) c) ≡ true
second_less a b c e f = ap (λ (o : Ordering). is_lt (ordering_then (ordering_then o b) c)) e ∙ ap (λ (o : Ordering). is_lt (ordering_then o c)) f

third_less : (a b c : Ordering) → a ≡ Equal → b ≡ Equal → c ≡ Less → is_lt (ordering_then (ordering_then a b) c) ≡ true
third_less a b c e f g = ap (λ (o : Ordering). is_lt (ordering_then (ordering_then o b) c)) e ∙ (ap (λ (o : Ordering). is_lt (ordering_then o c)) f ∙ ap is_lt g)

less_there : (c d : Choice) → IsBefore c.place d.place → is_less c d ≡ true
less_there c d (inl l) = first_less (nat_cmp c.place.byte d.place.byte) (nat_cmp c.place.line d.place.line) (nat_cmp c.place.column d.place.column) (sym (nat_cmp_is c.place.byte d.place.byte Less l))
less_there c d (inr (e, inl l)) = second_less (nat_cmp c.place.byte d.place.byte) (nat_cmp c.place.line d.place.line) (nat_cmp c.place.column d.place.column)
    (sym (nat_cmp_is c.place.byte d.place.byte Equal e)) (sym (nat_cmp_is c.place.line d.place.line Less l))
less_there c d (inr (e, inr (f, l))) = third_less (nat_cmp c.place.byte d.place.byte) (nat_cmp c.place.line d.place.line) (nat_cmp c.place.column d.place.column)
    (sym (nat_cmp_is c.place.byte d.place.byte Equal e)) (sym (nat_cmp_is c.place.line d.place.line Equal f)) (sym (nat_cmp_is c.place.column d.place.column Less l))

clash : {R : Type 0} → true ≡ false → R
clash e = absurd cc

-- what is less isn't greater
other_way : (o : Ordering) → is_lt o ≡ true → is_lt (ordering_reverse o) ≡ false
other_way Less e = refl
other_way Equal e = clash (sym e)
other_way Greater e = clash (sym e)

its_own : (o : Ordering) → o ≡ ordering_reverse o → is_lt o ≡ false
its_own Less e = absurd cc
its_own Equal e = refl
its_own Greater e = refl

not_less : (c d : Choice) → IsNoLater d.place c.place → is_less c d ≡ false
not_less c d (inl b) = ap is_lt (key_total.antisymm (place_key c) (place_key d)) ∙ other_way (key_cmp (place_key d) (place_key c)) (less_there d c b)
not_less c d (inr e) =
    ap (λ (p : Place). is_lt (key_cmp (place_key c) (p.byte, p.line, p.column))) e
    ∙ its_own (key_cmp (place_key c) (place_key c)) (key_total.antisymm (place_key c) (place_key c))

pub same_test : (c d : Choice) → is_less c d ≡ is_before c.place d.place
same_test c d = elim (before_cases c.place d.place) [ inl (t, b) ↦ less_there c d b ∙ sym t | inr (f, n) ↦ not_less c d n ∙ sym f ]

not_before : (c d : Choice) → is_less c d ≡ false → is_before c.place d.place ≡ false
not_before c d e = sym (same_test c d) ∙ e

-- ---- lists

each_behind : (c : Choice) (cs : List Choice) → ((j : ℕ) (z : Choice) → j < length cs → is_less (get_or cs j z) c ≡ false) → (n : MadeChoice) → Among n (made_choices cs) → is_before n.place c.place ≡ false
each_behind c (d ∷ cs) h _ first = not_before d c (h 0 d (omega arith))
each_behind c (d ∷ cs) h n (later i) = each_behind c cs (λ j z l. h (suc j) z (omega (arith, l))) n i
each_behind c [] h n i = elim i [ ]

in_order : (cs : List Choice) → ((i j : ℕ) (z : Choice) → i ≤ j → j < length cs → is_less (get_or cs j z) (get_or cs i z) ≡ false) → AreInOrder (made_choices cs)
in_order [] h = tt
in_order (c ∷ cs) h = (each_behind c cs (λ j z l. h 0 (suc j) z (omega arith) (omega (arith, l))), in_order cs (λ i j z l m. h (suc i) (suc j) z (omega (arith, l)) (omega (arith, m))))

pub ordered_by : (cs : List Choice) → IsSortedByKey place_key key_cmp cs → AreInOrder (made_choices cs)
ordered_by cs h = in_order cs (sorted_far is_less (ranks_by key_total place_key) cs h)

-- ---- those at one place

abbrev placed_at : Place → Choice
placed_at p = record { place = p; instances = [] }

mapped_filter : {A B : Type 0} (g : A → B) (t : A → Bool) (u : B → Bool) → ((x : A) → t x ≡ u (g x)) → (xs : List A) → map g (filter t xs) ≡ filter u (map g xs)
mapped_filter g t u same [] = refl
mapped_filter {A} {B} g t u same (x ∷ xs) = by (t x) (u (g x)) (same x) (mapped_filter g t u same xs)
  where
    by : (a b : Bool) → a ≡ b → map g (filter t xs) ≡ filter u (map g xs) → map g (if a then x ∷ filter t xs else filter t xs) ≡ (if b then g x ∷ filter u (map g xs) else filter u (map g xs))
    by true true e h = ap (λ (l : List B). g x ∷ l) h
    by false false e h = h
    by true false e h = clash e
    by false true e h = clash (sym e)

tied_same : (p : Place) (c : Choice) → ties is_less (placed_at p) c ≡ is_at p c.place
tied_same p c = ap₂ (λ (a b : Bool). not a && not b) (same_test (placed_at p) c) (same_test c (placed_at p))

pub kept_by : (xs ys : List Choice) → IsStableByKey place_key key_cmp xs ys → (p : Place) → at_place p (made_choices ys) ≡ at_place p (made_choices xs)
kept_by xs ys h p =
    let test : Choice → Bool = ties is_less (placed_at p) in
    let of : MadeChoice → Bool = λ (m : MadeChoice). is_at p m.place in
    sym (mapped_filter as_made test of (tied_same p) ys) ∙ (ap made_choices (h (placed_at p)) ∙ mapped_filter as_made test of (tied_same p) xs)
