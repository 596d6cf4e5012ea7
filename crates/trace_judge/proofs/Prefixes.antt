-- Prefixes of lists.
use Rattle.std.specs.Prelude.{◌≡◌, List, [], ◌∷◌, ◌++◌, map, refl}
use Rattle.std.proofs.Common.{ap, sym}
use Rattle.std.proofs.lemmas.List.{append_cancel_left}
use Rattle.list_facts.proofs.Joining.{same_tail, same_head}

module _ {A : Type 0} where
  -- of a list with one more at its end: the whole, or a prefix of the list
  pub data IsCutAt (xs : List A) (x : A) (prefix back : List A) : Type 0 where
    whole : prefix ≡ xs ++ x ∷ [] → back ≡ [] → IsCutAt xs x prefix back
    within : (rest : List A) → xs ≡ prefix ++ rest → back ≡ rest ++ x ∷ [] → IsCutAt xs x prefix back

  pub both_are : (x y : A) (xs ys : List A) → x ≡ y → xs ≡ ys → x ∷ xs ≡ y ∷ ys
  both_are x y xs ys p q = λ i. p i ∷ q i

  pub cut_at : (xs : List A) (x : A) (prefix back : List A) → xs ++ x ∷ [] ≡ prefix ++ back → IsCutAt xs x prefix back
  cut_at xs x [] back e = within xs refl (sym e)
  cut_at [] x (f ∷ []) [] e = whole (sym e) refl
  cut_at [] x (f ∷ []) (b ∷ bs) e = cc
  cut_at [] x (f ∷ (g ∷ fs)) back e = cc
  cut_at (y ∷ xs) x (f ∷ fs) back e = later (cut_at xs x fs back (same_tail y f (xs ++ x ∷ []) (fs ++ back) e))
    where
      p : y ≡ f
      p = same_head y f (xs ++ x ∷ []) (fs ++ back) e

      later : IsCutAt xs x fs back → IsCutAt (y ∷ xs) x (f ∷ fs) back
      later (whole q r) = whole (both_are f y fs (xs ++ x ∷ []) (sym p) q) r
      later (within rest q r) = within rest (both_are y f xs (fs ++ rest) p q) r

  -- of two prefixes of a list the first is a prefix of the second, or the second one of the first, and shorter
  pub data AreOrdered (f g : List A) : Type 0 where
    first : (rest : List A) → g ≡ f ++ rest → AreOrdered f g
    second : (x : A) (rest : List A) → f ≡ g ++ x ∷ rest → AreOrdered f g

  pub ordered : (f g b c : List A) → f ++ b ≡ g ++ c → AreOrdered f g
  ordered [] g b c e = first g refl
  ordered (x ∷ f) [] b c e = second x f refl
  ordered (x ∷ f) (y ∷ g) b c e = more (ordered f g b c (same_tail x y (f ++ b) (g ++ c) e))
    where
      p : x ≡ y
      p = same_head x y (f ++ b) (g ++ c) e

      more : AreOrdered f g → AreOrdered (x ∷ f) (y ∷ g)
      more (first rest q) = first rest (both_are y x g (f ++ rest) (sym p) q)
      more (second z rest q) = second z rest (both_are x y f (g ++ z ∷ rest) p q)

  pub first_of_rest : (f : List A) (x y : A) (b c : List A) → f ++ x ∷ b ≡ f ++ y ∷ c → x ≡ y
  first_of_rest f x y b c e = same_head x y b c (append_cancel_left f (x ∷ b) (y ∷ c) e)

  pub nothing_behind : (xs ys : List A) → xs ≡ xs ++ ys → ys ≡ []
  nothing_behind [] ys e = sym e
  nothing_behind (x ∷ xs) ys e = nothing_behind xs ys (same_tail x x xs (xs ++ ys) e)

-- the images of a list with one more at its end, and of two lists
pub map_more : {A B : Type 0} (f : A → B) (xs ys : List A) → map f (xs ++ ys) ≡ map f xs ++ map f ys
map_more f [] ys = refl
map_more {B = B} f (x ∷ xs) ys = ap (λ (l : List B). f x ∷ l) (map_more f xs ys)
