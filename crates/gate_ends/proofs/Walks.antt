-- Lists gone through item by item.
use Rattle.std.specs.List.{find, flat_map, list_any}
use Rattle.std.specs.Prelude.{◌≡◌, ◌<◌, ◌+◌, ℕ, zero, suc, Bool, true, false, List, [], ◌∷◌, ◌++◌, Option, None, Some, drop, length, map, is_some, option_map, ◌||◌, if◌then◌else◌}
use Rattle.std.proofs.Common.{◌∙◌, refl, sym, ap, arith, append_assoc, get_or}

module _ {X : Type 0} where
  pub dropped : (xs : List X) (i j : ℕ) (x : X) → i < length xs → j ≡ i + 1 → x ≡ get_or xs i x → drop i xs ≡ x ∷ drop j xs
  dropped [] i j x l n h = absurd (omega arith)
  dropped (y ∷ xs) zero zero x l n h = absurd (omega arith)
  dropped (y ∷ xs) zero (suc j) x l n h = let z : j ≡ zero = omega (arith, n) in ap (λ w. w ∷ xs) (sym h) ∙ ap (λ k. x ∷ drop k xs) (sym z)
  dropped (y ∷ xs) (suc i) zero x l n h = absurd (omega arith)
  dropped (y ∷ xs) (suc i) (suc j) x l n h = dropped xs i j x (omega arith) (omega (arith, n)) h

-- one more is listed, and one less is left
pub listed_more : {X A B : Type 0} (view : X → A) (f : A → List B) (xs : List X) (i : ℕ) (x : X) (mid new all : List B) → i < length xs → x ≡ get_or xs i x → new ≡ mid ++ f (view x)
    → mid ++ flat_map f (map view (drop i xs)) ≡ all → new ++ flat_map f (map view (drop (i + 1) xs)) ≡ all
listed_more {B = B} view f xs i x mid new all l is more h =
    ap (λ (bs : List B). bs ++ flat_map f (map view (drop (i + 1) xs))) more
    ∙ append_assoc mid (f (view x)) (flat_map f (map view (drop (i + 1) xs)))
    ∙ ap (λ ys. mid ++ flat_map f (map view ys)) (sym (dropped xs i (i + 1) x l refl is))
    ∙ h

-- ---- found or not

pub some_mapped : {A B : Type 0} (f : A → B) (o : Option A) → is_some (option_map f o) ≡ is_some o
some_mapped f None = refl
some_mapped f (Some x) = refl

pub found_any : {A : Type 0} (p : A → Bool) (xs : List A) → is_some (find p xs) ≡ list_any p xs
found_any p [] = refl
found_any p (x ∷ xs) = by (p x) (found_any p xs)
  where
    by : (b : Bool) → is_some (find p xs) ≡ list_any p xs → is_some (if b then Some x else find p xs) ≡ (b || list_any p xs)
    by true more = refl
    by false more = more

pub mapped_if : {A B : Type 0} (f : A → B) (b : Bool) (v w : Option A) → option_map f (if b then v else w) ≡ (if b then option_map f v else option_map f w)
mapped_if f true v w = refl
mapped_if f false v w = refl
