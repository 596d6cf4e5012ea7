-- What stands in lists of positions: in two in a row, and in what a function makes of a list.
use Rattle.std.proofs.Common.{◌≡◌, ◌⊎◌, inl, inr, List, [], ◌∷◌, ◌++◌, map, refl}
use Rattle.msc_base.specs.Orders.{Among, first, later}

module _ {A : Type 0} where
  -- two lists in a row
  pub stands_left : (xs ys : List A) (x : A) → Among x xs → Among x (xs ++ ys)
  stands_left [] ys x h = elim h [ ]
  stands_left (y ∷ xs) ys _ first = first
  stands_left (y ∷ xs) ys x (later h) = later (stands_left xs ys x h)

  pub stands_right : (xs ys : List A) (x : A) → Among x ys → Among x (xs ++ ys)
  stands_right [] ys x h = h
  stands_right (y ∷ xs) ys x h = later (stands_right xs ys x h)

  pub stands_either : (xs ys : List A) (x : A) → Among x (xs ++ ys) → Among x xs ⊎ Among x ys
  stands_either [] ys x h = inr h
  stands_either (y ∷ xs) ys _ first = inl first
  stands_either (y ∷ xs) ys x (later h) = elim (stands_either xs ys x h) [ inl l ↦ inl (later l) | inr r ↦ inr r ]

-- what a function makes of each item
pub stands_map : {A B : Type 0} (f : A → B) {x : A} {xs : List A} → Among x xs → Among (f x) (map f xs)
stands_map f first = first
stands_map f (later h) = later (stands_map f h)

pub map_stands : {A B : Type 0} (f : A → B) (xs : List A) {y : B} → Among y (map f xs) → (x : A) × (f x ≡ y) × Among x xs
map_stands f [] h = elim h [ ]
map_stands f (x ∷ xs) first = (x, refl, first)
map_stands f (x ∷ xs) (later h) = let (w, e, i) = map_stands f xs h in (w, e, later i)
