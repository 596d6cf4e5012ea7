-- Levels of two lists, one behind the other.
use Rattle.std.specs.List.{flat_map}
use Rattle.std.specs.Prelude.{◌⊎◌, List, [], ◌∷◌, ◌++◌, Option, None, Some}
use Rattle.std.proofs.Common.{inl, inr}
use Rattle.msc_base.specs.Lists.{IsAmong}
use Rattle.msc_base.specs.Places.{IsLeast}
use Rattle.msc_base.specs.declared.place.Place.{Place}
use Rattle.msc_meaning.specs.BodyLevels.{BodyLevel, EachLevel, SomeLevel}

module _ (P : BodyLevel → Type 0) where
  pub some_left : (xs ys : List BodyLevel) → SomeLevel P xs → SomeLevel P (xs ++ ys)
  some_left [] ys h = absurd h
  some_left (x ∷ xs) ys (inl h) = inl h
  some_left (x ∷ xs) ys (inr h) = inr (some_left xs ys h)

  pub some_right : (xs ys : List BodyLevel) → SomeLevel P ys → SomeLevel P (xs ++ ys)
  some_right [] ys h = h
  some_right (x ∷ xs) ys h = inr (some_right xs ys h)

  pub some_either : (xs ys : List BodyLevel) → SomeLevel P (xs ++ ys) → SomeLevel P xs ⊎ SomeLevel P ys
  some_either [] ys h = inr h
  some_either (x ∷ xs) ys (inl h) = inl (inl h)
  some_either (x ∷ xs) ys (inr h) = elim (some_either xs ys h) [ inl l ↦ inl (inr l) | inr r ↦ inr r ]

  pub each_left : (xs ys : List BodyLevel) → EachLevel P (xs ++ ys) → EachLevel P xs
  each_left [] ys h = tt
  each_left (x ∷ xs) ys h = (h.0, each_left xs ys h.1)

  pub each_right : (xs ys : List BodyLevel) → EachLevel P (xs ++ ys) → EachLevel P ys
  each_right [] ys h = h
  each_right (x ∷ xs) ys h = each_right xs ys h.1

  pub each_both : (xs ys : List BodyLevel) → EachLevel P xs → EachLevel P ys → EachLevel P (xs ++ ys)
  each_both [] ys h g = g
  each_both (x ∷ xs) ys h g = (h.0, each_both xs ys h.1 g)

-- what is listed of each level
module _ {A : Type 0} (f : BodyLevel → List A) where
  among_left : (x : A) (xs ys : List A) → IsAmong xs x → IsAmong (xs ++ ys) x
  among_left x [] ys h = absurd h
  among_left x (z ∷ xs) ys (inl e) = inl e
  among_left x (z ∷ xs) ys (inr h) = inr (among_left x xs ys h)

  among_right : (x : A) (xs ys : List A) → IsAmong ys x → IsAmong (xs ++ ys) x
  among_right x [] ys h = h
  among_right x (z ∷ xs) ys h = inr (among_right x xs ys h)

  among_either : (x : A) (xs ys : List A) → IsAmong (xs ++ ys) x → IsAmong xs x ⊎ IsAmong ys x
  among_either x [] ys h = inr h
  among_either x (z ∷ xs) ys (inl e) = inl (inl e)
  among_either x (z ∷ xs) ys (inr h) = elim (among_either x xs ys h) [ inl l ↦ inl (inr l) | inr r ↦ inr r ]

  pub listed_some : (ls : List BodyLevel) (x : A) → IsAmong (flat_map f ls) x → SomeLevel (λ l. IsAmong (f l) x) ls
  listed_some [] x h = absurd h
  listed_some (l ∷ ls) x h = elim (among_either x (f l) (flat_map f ls) h) [ inl i ↦ inl i | inr j ↦ inr (listed_some ls x j) ]

  pub some_listed : (ls : List BodyLevel) (x : A) → SomeLevel (λ l. IsAmong (f l) x) ls → IsAmong (flat_map f ls) x
  some_listed [] x h = absurd h
  some_listed (l ∷ ls) x (inl i) = among_left x (f l) (flat_map f ls) i
  some_listed (l ∷ ls) x (inr j) = among_right x (f l) (flat_map f ls) (some_listed ls x j)

-- the earliest of the places that are listed of each level
pub listed_least : (f : BodyLevel → List Place) (ls : List BodyLevel) (o : Option Place) → IsLeast (IsAmong (flat_map f ls)) o → IsLeast (λ place. SomeLevel (λ l. IsAmong (f l) place) ls) o
listed_least f ls None h = λ q s. h q (some_listed f ls q s)
listed_least f ls (Some p) h = (listed_some f ls p h.0, λ q s. h.1 q (some_listed f ls q s))
