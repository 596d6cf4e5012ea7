-- The first item of a list that meets a test.
use Rattle.std.proofs.Common.{◌≡◌, ℕ, zero, suc, ◌+◌, ◌-◌, ◌<◌, ◌≤◌, Bool, true, false, cond, ◌||◌, ◌++◌, List, [], ◌∷◌, Option, Some, None, length, drop, get_or, refl, sym, ◌∙◌, ap, ap₂, arith, length-drop, drop-cons}
use Rattle.std.specs.List.{list_any, position_from}
use Rattle.persistent_sequence.proofs.Parts.{shorter_behind, shorter_before, length_parts, drop_first, drop_second}

none_at : (c : Bool) (k : ℕ) (a : Bool) (r : Option ℕ) → (c || a) ≡ false → (a ≡ false → r ≡ None) → cond c (Some k) r ≡ None
none_at true k a r h f = cc
none_at false k a r h f = f h

-- where no item meets the test, none is found
none_passes : {T : Type 0} → (p : T → Bool) (b : ℕ) (xs : List T) → list_any p xs ≡ false → position_from p b xs ≡ None
none_passes p b [] h = refl
none_passes p b (x ∷ xs) h = none_at (p x) b (list_any p xs) (position_from p (b + 1) xs) h (none_passes p (b + 1) xs)

rest : (c a : Bool) → (c || a) ≡ false → a ≡ false
rest true a h = cc
rest false a h = h

none_dropped : {T : Type 0} → (p : T → Bool) (i : ℕ) (xs : List T) → list_any p xs ≡ false → list_any p (drop i xs) ≡ false
none_dropped p zero xs h = h
none_dropped p (suc i) [] h = h
none_dropped p (suc i) (x ∷ xs) h = none_dropped p i xs (rest (p x) (list_any p xs) h)

pub found_none : {T : Type 0} → (p : T → Bool) (b i : ℕ) (xs : List T) → list_any p xs ≡ false → None ≡ position_from p (b + i) (drop i xs)
found_none p b i xs h = sym (none_passes p (b + i) (drop i xs) (none_dropped p i xs h))

pub found_leaf : {T : Type 0} → (p : T → Bool) (b i : ℕ) (xs ys : List T) (r : Option ℕ) → xs ≡ ys → r ≡ position_from p (b + i) (drop i ys) → r ≡ position_from p (b + i) (drop i xs)
found_leaf p b i xs ys r e h = h ∙ ap (λ l. position_from p (b + i) (drop i l)) (sym e)

same_at : (c : Bool) (a r s o : Option ℕ) → cond c a r ≡ o → (r ≡ o → s ≡ o) → cond c a s ≡ o
same_at true a r s o h f = h
same_at false a r s o h f = f h

later_at : (c : Bool) (k : ℕ) (r s o : Option ℕ) → cond c (Some k) r ≡ None → (r ≡ None → s ≡ o) → cond c (Some k) s ≡ o
later_at true k r s o h f = cc
later_at false k r s o h f = f h

position-append_first : {T : Type 0} → (p : T → Bool) (b k : ℕ) (xs ys : List T) → position_from p b xs ≡ Some k → position_from p b (xs ++ ys) ≡ Some k
position-append_first p b k [] ys h = cc
position-append_first p b k (x ∷ xs) ys h =
    same_at (p x) (Some b) (position_from p (b + 1) xs) (position_from p (b + 1) (xs ++ ys)) (Some k) h (position-append_first p (b + 1) k xs ys)

position-append_later : {T : Type 0} → (p : T → Bool) (b : ℕ) (xs ys : List T) → position_from p b xs ≡ None → position_from p b (xs ++ ys) ≡ position_from p (b + length xs) ys
position-append_later p b [] ys h = ap (λ n. position_from p n ys) (omega arith)
position-append_later p b (x ∷ xs) ys h =
    let n : b + 1 + length xs ≡ b + length (x ∷ xs) = omega arith in
    later_at (p x) b (position_from p (b + 1) xs) (position_from p (b + 1) (xs ++ ys)) (position_from p (b + length (x ∷ xs)) ys) h
    (λ e. position-append_later p (b + 1) xs ys e ∙ ap (λ m. position_from p m ys) n)

pub found_first : {T : Type 0} → (p : T → Bool) (b i k : ℕ) (xs ys zs : List T) → xs ≡ ys ++ zs → i < length ys → Some k ≡ position_from p (b + i) (drop i ys) → Some k ≡ position_from p (b + i) (drop i xs)
found_first p b i k xs ys zs e h f =
    sym (ap (λ l. position_from p (b + i) l) (drop_first xs ys zs i e (omega arith)) ∙ position-append_first p (b + i) k (drop i ys) zs (sym f))

pub found_later : {T : Type 0} → (p : T → Bool) (b i n : ℕ) (xs ys zs : List T) (r : Option ℕ) → xs ≡ ys ++ zs → n ≡ length ys → i < n → None ≡ position_from p (b + i) (drop i ys) → r ≡ position_from p (b + n + 0) (drop 0 zs) → r ≡ position_from p (b + i) (drop i xs)
found_later p b i n xs ys zs r e q h f s =
    let m : b + i + length (drop i ys) ≡ b + n + 0 = omega (arith, length-drop i ys) in
    s ∙ sym (ap (λ l. position_from p (b + i) l) (drop_first xs ys zs i e (omega arith)) ∙ position-append_later p (b + i) (drop i ys) zs (sym f) ∙ ap (λ a. position_from p a zs) m)

pub found_second : {T : Type 0} → (p : T → Bool) (b i n : ℕ) (xs ys zs : List T) (r : Option ℕ) → xs ≡ ys ++ zs → n ≡ length ys → n ≤ i → r ≡ position_from p (b + n + (i - n)) (drop (i - n) zs) → r ≡ position_from p (b + i) (drop i xs)
found_second p b i n xs ys zs r e q h s =
    let m : b + i ≡ b + n + (i - n) = omega arith in
    let o : i - length ys ≡ i - n = omega arith in
    s ∙ sym (ap (λ l. position_from p (b + i) l) (drop_second xs ys zs i e (omega arith)) ∙ ap₂ (λ a c. position_from p a (drop c zs)) m o)

-- one step over a list
step : {T : Type 0} → (p : T → Bool) (b i : ℕ) (xs : List T) (x : T) → i < length xs → x ≡ get_or xs i x → position_from p (b + i) (drop i xs) ≡ cond (p x) (Some (b + i)) (position_from p (b + i + 1) (drop (suc i) xs))
step p b i xs x h e = ap (λ l. position_from p (b + i) l) (drop-cons xs i x h ∙ ap (λ y. y ∷ drop (suc i) xs) (sym e))

pub found_here : {T : Type 0} → (p : T → Bool) (b i : ℕ) (xs : List T) (x : T) → i < length xs → x ≡ get_or xs i x → p x ≡ true → position_from p (b + i) (drop i xs) ≡ Some (b + i)
found_here p b i xs x h e t = step p b i xs x h e ∙ ap (λ c. cond c (Some (b + i)) (position_from p (b + i + 1) (drop (suc i) xs))) t

pub found_on : {T : Type 0} → (p : T → Bool) (b i : ℕ) (xs : List T) (x : T) → i < length xs → x ≡ get_or xs i x → p x ≡ false → position_from p (b + i) (drop i xs) ≡ position_from p (b + (i + 1)) (drop (i + 1) xs)
found_on p b i xs x h e t =
    let m : b + i + 1 ≡ b + (i + 1) = omega arith in
    let n : suc i ≡ i + 1 = omega arith in
    step p b i xs x h e ∙ ap (λ c. cond c (Some (b + i)) (position_from p (b + i + 1) (drop (suc i) xs))) t
    ∙ ap₂ (λ a c. position_from p a (drop c xs)) m n

pub ruleset finding = (shorter_behind, shorter_before, length_parts, found_none, found_leaf, found_first, found_later, found_second, found_here, found_on)
