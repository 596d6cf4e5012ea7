-- Facts on lists of numbers that rise.
use Rattle.std.proofs.Common.{◌≡◌, ℕ, suc, zero, ◌<◌, ◌≤◌, ◌⊎◌, inl, inr, List, [], ◌∷◌, length, get_or, refl, ap, subst, sym, ◌∙◌, arith, Contains, ◌↔◌, IsTrue, Result, Ok, Err, MatchResult, is_ok}
use Rattle.std.specs.List.{insert}
use Rattle.std.proofs.lemmas.Bool.{lt-ltb, le-ltb, eq-eqb, ne_eqb, cases_order, cases_lt}
use Rattle.std.proofs.lemmas.Grind.{get_or_default_zero}
use Rattle.bit_sets.specs.Blocks.{AreAbove, IsRising, insert_rising}

pub insert_front : (x : ℕ) (xs : List ℕ) → AreAbove x xs → insert_rising xs x ≡ x ∷ xs
insert_front x [] a = refl
insert_front x (y ∷ ys) a = rw (lt-ltb x y a.0)

pub insert_before : (x y : ℕ) (ys : List ℕ) → x < y → insert_rising (y ∷ ys) x ≡ x ∷ y ∷ ys
insert_before x y ys h = rw (lt-ltb x y h)

pub insert_same : (x y : ℕ) (ys : List ℕ) → x ≡ y → insert_rising (y ∷ ys) x ≡ y ∷ ys
insert_same x y ys e = rw (le-ltb x y (omega arith), eq-eqb x y e)

pub insert_later : (x y : ℕ) (ys : List ℕ) → y < x → insert_rising (y ∷ ys) x ≡ y ∷ insert_rising ys x
insert_later x y ys h = rw (le-ltb x y (omega arith), ne_eqb x y (omega arith))

pub above_weaker : (m n : ℕ) (xs : List ℕ) → m ≤ n → AreAbove n xs → AreAbove m xs
above_weaker m n [] h a = tt
above_weaker m n (x ∷ xs) h a = (omega (arith, a.0), above_weaker m n xs h a.1)

pub AreAbove-insert : (n x : ℕ) (xs : List ℕ) → n < x → AreAbove n xs → AreAbove n (insert_rising xs x)
AreAbove-insert n x [] h a = (h, tt)
AreAbove-insert n x (y ∷ ys) h a =
    elim (cases_order x y) [
      | inl e ↦ subst (AreAbove n) (sym (insert_same x y ys e)) a
      | inr (inl less) ↦ let all : AreAbove n (x ∷ y ∷ ys) = (h, a) in subst (AreAbove n) (sym (insert_before x y ys less)) all
      | inr (inr more) ↦ let all : AreAbove n (y ∷ insert_rising ys x) = (a.0, AreAbove-insert n x ys h a.1) in subst (AreAbove n) (sym (insert_later x y ys more)) all
    ]

-- a list that rises still rises with one more number
pub IsRising-insert : (x : ℕ) (xs : List ℕ) → IsRising xs → IsRising (insert_rising xs x)
IsRising-insert x [] r = (tt, tt)
IsRising-insert x (y ∷ ys) r =
    elim (cases_order x y) [
      | inl e ↦ subst IsRising (sym (insert_same x y ys e)) r
      | inr (inl less) ↦ let all : IsRising (x ∷ y ∷ ys) = ((less, above_weaker x y ys (omega arith) r.0), r) in subst IsRising (sym (insert_before x y ys less)) all
      | inr (inr more) ↦ let all : IsRising (y ∷ insert_rising ys x) = (AreAbove-insert y x ys more r.0, IsRising-insert x ys r.1) in subst IsRising (sym (insert_later x y ys more)) all
    ]

pub contains_first : (x y : ℕ) (ys : List ℕ) → x ≡ y → Contains (y ∷ ys) x
contains_first x y ys e = (0, omega arith, sym e)

pub contains_later : (x y : ℕ) (ys : List ℕ) → Contains ys x → Contains (y ∷ ys) x
contains_later x y ys h = (suc h.0, omega (arith, h.1), h.2)

contains_at : (x y : ℕ) (ys : List ℕ) (k : ℕ) → k < length (y ∷ ys) → get_or (y ∷ ys) k x ≡ x → (x ≡ y) ⊎ Contains ys x
contains_at x y ys zero h e = inl (sym e)
contains_at x y ys (suc k) h e = inr (k, omega (arith, h), e)

pub contains_cases : (x y : ℕ) (ys : List ℕ) → Contains (y ∷ ys) x → (x ≡ y) ⊎ Contains ys x
contains_cases x y ys h = contains_at x y ys h.0 h.1 h.2

pub contains_none : (x : ℕ) → Contains [] x → ⊥
contains_none x h = omega (arith, h.1)

-- the number is there now
pub Contains-insert : (x : ℕ) (xs : List ℕ) → Contains (insert_rising xs x) x
Contains-insert x [] = contains_first x x [] refl
Contains-insert x (y ∷ ys) =
    elim (cases_order x y) [
      | inl e ↦ subst (λ (l : List ℕ). Contains l x) (sym (insert_same x y ys e)) (contains_first x y ys e)
      | inr (inl less) ↦ subst (λ (l : List ℕ). Contains l x) (sym (insert_before x y ys less)) (contains_first x x (y ∷ ys) refl)
      | inr (inr more) ↦ subst (λ (l : List ℕ). Contains l x) (sym (insert_later x y ys more)) (contains_later x y (insert_rising ys x) (Contains-insert x ys))
    ]

-- the numbers that were there are there still
pub Contains-insert_kept : (x n : ℕ) (xs : List ℕ) → Contains xs n → Contains (insert_rising xs x) n
Contains-insert_kept x n [] h = absurd (contains_none n h)
Contains-insert_kept x n (y ∷ ys) h =
    elim (cases_order x y) [
      | inl e ↦ subst (λ (l : List ℕ). Contains l n) (sym (insert_same x y ys e)) h
      | inr (inl less) ↦ subst (λ (l : List ℕ). Contains l n) (sym (insert_before x y ys less)) (contains_later n x (y ∷ ys) h)
      | inr (inr more) ↦ subst (λ (l : List ℕ). Contains l n) (sym (insert_later x y ys more)) (later (λ there. Contains-insert_kept x n ys there) (contains_cases n y ys h))
    ]
  where
    later : (Contains ys n → Contains (insert_rising ys x) n) → (n ≡ y) ⊎ Contains ys n → Contains (y ∷ insert_rising ys x) n
    later kept (inl e) = contains_first n y (insert_rising ys x) e
    later kept (inr there) = contains_later n y (insert_rising ys x) (kept there)

-- what is there now was there, or is the number
pub Contains-insert_cases : (x n : ℕ) (xs : List ℕ) → Contains (insert_rising xs x) n → Contains xs n ⊎ (n ≡ x)
Contains-insert_cases x n [] h = elim (contains_cases n x [] h) [ inl e ↦ inr e | inr none ↦ absurd (contains_none n none) ]
Contains-insert_cases x n (y ∷ ys) h =
    elim (cases_order x y) [
      | inl e ↦ inl (subst (λ (l : List ℕ). Contains l n) (insert_same x y ys e) h)
      | inr (inl less) ↦ elim (contains_cases n x (y ∷ ys) (subst (λ (l : List ℕ). Contains l n) (insert_before x y ys less) h)) [ inl e ↦ inr e | inr there ↦ inl there ]
      | inr (inr more) ↦ later (λ there. Contains-insert_cases x n ys there) (contains_cases n y (insert_rising ys x) (subst (λ (l : List ℕ). Contains l n) (insert_later x y ys more) h))
    ]
  where
    later : (Contains (insert_rising ys x) n → Contains ys n ⊎ (n ≡ x)) → (n ≡ y) ⊎ Contains (insert_rising ys x) n → Contains (y ∷ ys) n ⊎ (n ≡ x)
    later was (inl e) = inl (contains_first n y ys e)
    later was (inr there) = elim (was there) [ inl before ↦ inl (contains_later n y ys before) | inr e ↦ inr e ]

above_contains : (n x : ℕ) (xs : List ℕ) → AreAbove n xs → Contains xs x → n < x
above_contains n x [] a h = absurd (contains_none x h)
above_contains n x (y ∷ ys) a h = elim (contains_cases x y ys h) [ inl e ↦ omega (arith, a.0) | inr there ↦ above_contains n x ys a.1 there ]

-- two lists that rise and have the same numbers are the same list
pub same_from_members : (xs ys : List ℕ) → IsRising xs → IsRising ys → ((n : ℕ) → Contains xs n → Contains ys n) → ((n : ℕ) → Contains ys n → Contains xs n) → xs ≡ ys
same_from_members [] [] r s f g = refl
same_from_members [] (y ∷ ys) r s f g = absurd (contains_none y (g y (contains_first y y ys refl)))
same_from_members (x ∷ xs) [] r s f g = absurd (contains_none x (f x (contains_first x x xs refl)))
same_from_members (x ∷ xs) (y ∷ ys) r s f g = rw same_first (ap (λ l. y ∷ l) (same_from_members xs ys r.1 s.1 forth back))
  where
    y_least : x ≡ y ⊎ (y < x)
    y_least = elim (contains_cases x y ys (f x (contains_first x x xs refl))) [ inl e ↦ inl e | inr there ↦ inr (above_contains y x ys s.0 there) ]

    x_least : y ≡ x ⊎ (x < y)
    x_least = elim (contains_cases y x xs (g y (contains_first y y ys refl))) [ inl e ↦ inl e | inr there ↦ inr (above_contains x y xs r.0 there) ]

    same_first : x ≡ y
    same_first = elim y_least [ inl e ↦ e | inr less ↦ elim x_least [ inl e ↦ sym e | inr more ↦ absurd (omega arith) ] ]

    forth : (n : ℕ) → Contains xs n → Contains ys n
    forth n h = elim (contains_cases n y ys (f n (contains_later n x xs h))) [ inl e ↦ absurd (omega (arith, same_first, above_contains x n xs r.0 h)) | inr there ↦ there ]

    back : (n : ℕ) → Contains ys n → Contains xs n
    back n h = elim (contains_cases n x xs (g n (contains_later n y ys h))) [ inl e ↦ absurd (omega (arith, same_first, above_contains y n ys s.0 h)) | inr there ↦ there ]

above_at : (n : ℕ) (xs : List ℕ) (k : ℕ) → AreAbove n xs → k < length xs → n < get_or xs k 0
above_at n [] k a h = absurd (omega arith)
above_at n (x ∷ xs) zero a h = a.0
above_at n (x ∷ xs) (suc k) a h = above_at n xs k a.1 (omega (arith, h))

pub rising_at : (xs : List ℕ) → IsRising xs → (i j : ℕ) → i ≤ j → j < length xs → get_or xs i 0 ≤ get_or xs j 0
rising_at [] r i j le h = absurd (omega arith)
rising_at (x ∷ xs) r zero zero le h = omega arith
rising_at (x ∷ xs) r zero (suc j) le h = omega (arith, above_at x xs j r.0 (omega (arith, h)))
rising_at (x ∷ xs) r (suc i) zero le h = absurd (omega arith)
rising_at (x ∷ xs) r (suc i) (suc j) le h = rising_at xs r.1 i j (omega arith) (omega (arith, h))

-- a number that is there
insert_found : (xs : List ℕ) (x i : ℕ) → IsRising xs → i < length xs → get_or xs i 0 ≡ x → insert_rising xs x ≡ xs
insert_found [] x i r h e = absurd (omega arith)
insert_found (y ∷ ys) x zero r h e = insert_same x y ys (sym e)
insert_found (y ∷ ys) x (suc i) r h e =
    let below : y < x = omega (arith, above_at y ys i r.0 (omega (arith, h)), e) in
    insert_later x y ys below ∙ ap (λ l. y ∷ l) (insert_found ys x i r.1 (omega (arith, h)) e)

-- a number between what is below it and what is above it
insert_between : (xs : List ℕ) (x i : ℕ) → i ≤ length xs → ((k : ℕ) → k < i → get_or xs k 0 < x) → ((k : ℕ) → i ≤ k → k < length xs → x < get_or xs k 0) → insert_rising xs x ≡ insert xs i x
insert_between [] x zero h below above = refl
insert_between [] x (suc i) h below above = absurd (omega arith)
insert_between (y ∷ ys) x zero h below above = insert_before x y ys (above 0 (omega arith) (omega arith))
insert_between (y ∷ ys) x (suc i) h below above =
    insert_later x y ys (below 0 (omega arith)) ∙ ap (λ l. y ∷ l) (insert_between ys x i (omega (arith, h)) (λ k lt. below (suc k) (omega arith)) (λ k le lt. above (suc k) (omega arith) (omega (arith, lt))))

-- what a search finds of a number in a list that rises
abbrev pub Searched : List ℕ → ℕ → Result ℕ ℕ → Type 0
Searched xs x r = MatchResult r (λ i. (i < length xs) × (get_or xs i 0 ≡ x)) (λ i. (i ≤ length xs) × ((k : ℕ) → k < i → get_or xs k 0 < x) × ((k : ℕ) → i ≤ k → k < length xs → x < get_or xs k 0))

pub searched_contains : (xs : List ℕ) (x : ℕ) (r : Result ℕ ℕ) → Searched xs x r → IsTrue (is_ok r) ↔ Contains xs x
searched_contains xs x (Ok i) s = (λ _. (i, s.0, get_or_default_zero xs i x s.0 ∙ s.1), λ _. refl)
searched_contains xs x (Err i) s = (λ h. cc, λ h. absurd (none h))
  where
    none : Contains xs x → ⊥
    none h =
        let is : get_or xs h.0 0 ≡ x = sym (get_or_default_zero xs h.0 x h.1) ∙ h.2 in
        elim (cases_lt h.0 i) [ inl lt ↦ omega (arith, s.1 h.0 lt) | inr le ↦ omega (arith, s.2 h.0 le h.1) ]

pub searched_there : (xs : List ℕ) (x : ℕ) (r : Result ℕ ℕ) → ((i : ℕ) → r ≡ Err i → ⊥) → IsRising xs → Searched xs x r → insert_rising xs x ≡ xs
searched_there xs x (Ok j) e rise s = insert_found xs x j rise s.0 s.1
searched_there xs x (Err j) e rise s = absurd (e j refl)

pub searched_place : (xs : List ℕ) (x i : ℕ) (r : Result ℕ ℕ) → r ≡ Err i → Searched xs x r → insert_rising xs x ≡ insert xs i x
searched_place xs x i (Ok j) e s = cc
searched_place xs x i (Err j) e s = let same : j ≡ i = cc in insert_between xs x j s.0 s.1 s.2 ∙ ap (λ k. insert xs k x) same
