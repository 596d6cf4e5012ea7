-- Walks over a list that take one item more.
use Rattle.std.proofs.Common.{◌≡◌, ◌<◌, ◌+◌, ℕ, zero, suc, List, [], ◌∷◌, ◌++◌, drop, map, length, get_or, inl, inr, All, Some, slice_get, take, refl, sym, ap, ◌∙◌, arith}
use Rattle.std.proofs.lemmas.List.{append_assoc}
use Rattle.msc_base.specs.Lists.{IsAmong}
use Rattle.list_facts.proofs.Reading.{drop_read}

-- one element more of each item
pub map_step : {X A : Type 0} (f : X → A) (xs : List X) (k : ℕ) (x : X) (held longer : List A) → k < length xs → x ≡ get_or xs k x → longer ≡ held ++ f x ∷ []
    → longer ++ map f (drop (k + 1) xs) ≡ held ++ map f (drop k xs)
map_step f xs k x held longer low is e =
    ap (λ l. l ++ map f (drop (k + 1) xs)) e ∙ append_assoc held (f x ∷ []) (map f (drop (k + 1) xs)) ∙ ap (λ ys. held ++ map f ys) (sym (drop_read xs k x low is))

-- the item at a place, each seen by f
pub map_at : {X A : Type 0} (f : X → A) (xs : List X) (k : ℕ) (x : X) → slice_get xs k ≡ Some x → slice_get (map f xs) k ≡ Some (f x)
map_at f [] k x at = cc
map_at f (y ∷ xs) zero x at = let same : y ≡ x = cc in ap (λ z. Some (f z)) same
map_at f (y ∷ xs) (suc k) x at = map_at f xs k x at

-- all numbers of a list are low where each that it has is
pub all_low : (order : List ℕ) (n : ℕ) → ((x : ℕ) → IsAmong order x → x < n) → All (λ x. x < n) order
all_low order n low = λ k d lt. low (get_or order k d) (has_at order k d lt)
  where
    has_at : (xs : List ℕ) (k d : ℕ) → k < length xs → IsAmong xs (get_or xs k d)
    has_at [] k d lt = absurd (omega arith)
    has_at (x ∷ xs) zero d lt = inl refl
    has_at (x ∷ xs) (suc k) d lt = inr (has_at xs k d (omega arith))

-- the first ones, and the others, each seen by f
pub map_take : {X A : Type 0} (f : X → A) (n : ℕ) (xs : List X) → map f (take n xs) ≡ take n (map f xs)
map_take f zero [] = refl
map_take f (suc n) [] = refl
map_take f zero (x ∷ xs) = refl
map_take f (suc n) (x ∷ xs) = ap (λ l. f x ∷ l) (map_take f n xs)

pub map_drop : {X A : Type 0} (f : X → A) (n : ℕ) (xs : List X) → map f (drop n xs) ≡ drop n (map f xs)
map_drop f zero [] = refl
map_drop f (suc n) [] = refl
map_drop f zero (x ∷ xs) = refl
map_drop f (suc n) (x ∷ xs) = map_drop f n xs
