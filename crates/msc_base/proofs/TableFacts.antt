use Rattle.std.proofs.Common.{ℕ, Bool, true, false, cond, List, [], ◌∷◌, ◌++◌, ◌≡◌, ap, refl, map, Some, None, ap₂, not, nat_lt, ◌+◌}
use Rattle.std.proofs.lemmas.List.{length-map}
use Rattle.std.specs.List.{position, list_any, prefix_len}
use Rattle.std.specs.Str.{bytes_eq}
use Rattle.msc_base.specs.NameTables.{with_name}

module _ {V : Type 0} (f : V → List ℕ) (p : List ℕ → Bool) where
  prefix-map : (q : List ℕ → Bool) (xs : List V) → prefix_len q (map f xs) ≡ prefix_len (λ x. q (f x)) xs
  prefix-map q [] = refl
  prefix-map q (x ∷ xs) = ap (λ n. cond (q (f x)) (1 + n) 0) (prefix-map q xs)

  pub position-map : (xs : List V) → position p (map f xs) ≡ position (λ x. p (f x)) xs
  position-map xs = ap₂ (λ n m. cond (nat_lt n m) (Some n) None) (prefix-map (λ y. not (p y)) xs) (length-map xs f)

  pub list_any-map : (xs : List V) → list_any p (map f xs) ≡ list_any (λ x. p (f x)) xs
  list_any-map [] = refl
  list_any-map (x ∷ xs) = rw (list_any-map xs) refl

  pub map-snoc : (xs : List V) (y : V) → map f (xs ++ y ∷ []) ≡ map f xs ++ f y ∷ []
  map-snoc [] y = refl
  map-snoc (x ∷ xs) y = ap (λ l. f x ∷ l) (map-snoc xs y)

-- the table after an insertion
pub with_inserted : {V : Type 0} (f : V → List ℕ) (keys : List V) (k : V) (b : Bool) → list_any (bytes_eq (f k)) (map f keys) ≡ b
    → map f (cond b keys (keys ++ k ∷ [])) ≡ with_name (map f keys) (f k)
with_inserted f keys k true e = rw e refl
with_inserted f keys k false e = rw e (map-snoc f (bytes_eq (f k)) keys k)
