-- The numbers of names in a table of them, after one was added.
use Rattle.std.proofs.Common.{◌≡◌, ℕ, suc, Bool, true, false, Some, None, List, [], ◌∷◌, ◌++◌, length, refl, sym, ap, ◌∙◌, arith}
use Rattle.std.specs.List.{position, list_any}
use Rattle.std.specs.Str.{bytes_eq}
use Rattle.label_table.proofs.Equality.{bytes_self}
use Rattle.label_table.proofs.Numbering.{some_none}
use Rattle.label_table.proofs.Positions.{later, later_some, later_none, position-first, position-later}
use Rattle.msc_base.specs.NameTables.{with_name}

module _ {X : Type 0} (p : X → Bool) where
  -- what is found stays where more follows
  position-append : (xs ys : List X) (n : ℕ) → position p xs ≡ Some n → position p (xs ++ ys) ≡ Some n
  position-append [] ys n h = absurd cc
  position-append (x ∷ xs) ys n h = by (position-append xs ys) (p x) refl
    where
      by : ((m : ℕ) → position p xs ≡ Some m → position p (xs ++ ys) ≡ Some m) → (b : Bool) → p x ≡ b → position p (x ∷ xs ++ ys) ≡ Some n
      by more true e = position-first p x (xs ++ ys) e ∙ sym (position-first p x xs e) ∙ h
      by more false e =
          let (m, found, is) = later_some (position p xs) n (sym (position-later p x xs e) ∙ h) in
          position-later p x (xs ++ ys) e ∙ ap later (more m found) ∙ ap Some (sym is)

  -- what isn't found is found where it comes last
  position-last : (xs : List X) (y : X) → position p xs ≡ None → p y ≡ true → position p (xs ++ y ∷ []) ≡ Some (length xs)
  position-last [] y h e = position-first p y [] e
  position-last (x ∷ xs) y h e = by (λ none. position-last xs y none e) (p x) refl
    where
      by : (position p xs ≡ None → position p (xs ++ y ∷ []) ≡ Some (length xs)) → (b : Bool) → p x ≡ b → position p (x ∷ xs ++ y ∷ []) ≡ Some (suc (length xs))
      by more true q = absurd (some_none 0 (sym (position-first p x xs q) ∙ h))
      by more false q = position-later p x (xs ++ y ∷ []) q ∙ ap later (more (later_none (position p xs) (sym (position-later p x xs q) ∙ h))) ∙ ap Some (omega arith)

  none-any : (xs : List X) → position p xs ≡ None → list_any p xs ≡ false
  none-any [] h = refl
  none-any (x ∷ xs) h = by (none-any xs) (p x) refl
    where
      by : (position p xs ≡ None → list_any p xs ≡ false) → (b : Bool) → p x ≡ b → list_any p (x ∷ xs) ≡ false
      by more true q = absurd (some_none 0 (sym (position-first p x xs q) ∙ h))
      by more false q = rw q (more (later_none (position p xs) (sym (position-later p x xs q) ∙ h)))

-- a new name is the last
pub numbered_new : (names : List (List ℕ)) (name : List ℕ) → position (bytes_eq name) names ≡ None → position (bytes_eq name) (with_name names name) ≡ Some (length names)
numbered_new names name h = rw (none-any (bytes_eq name) names h) (position-last (bytes_eq name) names name h (bytes_self name))

-- the others keep their numbers
pub keeps_with : (names : List (List ℕ)) (name other : List ℕ) (n : ℕ) → position (bytes_eq other) names ≡ Some n → position (bytes_eq other) (with_name names name) ≡ Some n
keeps_with names name other n = by (list_any (bytes_eq name) names) refl
  where
    by : (b : Bool) → list_any (bytes_eq name) names ≡ b → position (bytes_eq other) names ≡ Some n → position (bytes_eq other) (with_name names name) ≡ Some n
    by true e = rw e (λ h. h)
    by false e = rw e (λ h. position-append (bytes_eq other) names (name ∷ []) n h)
