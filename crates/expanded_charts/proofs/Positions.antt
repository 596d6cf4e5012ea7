-- The places of items that pass a test, where more follow.
use Rattle.std.proofs.Common.{◌≡◌, ℕ, suc, Bool, true, false, Some, None, List, [], ◌∷◌, ◌++◌, length, refl, sym, ap, ◌∙◌, arith}
use Rattle.std.specs.List.{position, list_any}
use Rattle.label_table.proofs.Numbering.{some_none}
use Rattle.label_table.proofs.Positions.{later, later_some, later_none, position-first, position-later}

module _ {X : Type 0} (p : X → Bool) where
  -- what is found stays where more follows
  pub position_left : (xs ys : List X) (n : ℕ) → position p xs ≡ Some n → position p (xs ++ ys) ≡ Some n
  position_left [] ys n h = absurd cc
  position_left (x ∷ xs) ys n h = by (position_left xs ys) (p x) refl
    where
      by : ((m : ℕ) → position p xs ≡ Some m → position p (xs ++ ys) ≡ Some m) → (b : Bool) → p x ≡ b → position p (x ∷ xs ++ ys) ≡ Some n
      by more true e = position-first p x (xs ++ ys) e ∙ sym (position-first p x xs e) ∙ h
      by more false e =
          let (m, found, is) = later_some (position p xs) n (sym (position-later p x xs e) ∙ h) in
          position-later p x (xs ++ ys) e ∙ ap later (more m found) ∙ ap Some (sym is)

  -- what isn't found is found where it comes last
  pub position_last : (xs : List X) (y : X) → position p xs ≡ None → p y ≡ true → position p (xs ++ y ∷ []) ≡ Some (length xs)
  position_last [] y h e = position-first p y [] e
  position_last (x ∷ xs) y h e = by (λ none. position_last xs y none e) (p x) refl
    where
      by : (position p xs ≡ None → position p (xs ++ y ∷ []) ≡ Some (length xs)) → (b : Bool) → p x ≡ b → position p (x ∷ xs ++ y ∷ []) ≡ Some (suc (length xs))
      by more true q = absurd (some_none 0 (sym (position-first p x xs q) ∙ h))
      by more false q = position-later p x (xs ++ y ∷ []) q ∙ ap later (more (later_none (position p xs) (sym (position-later p x xs q) ∙ h))) ∙ ap Some (omega arith)

  pub found_any : (xs : List X) (n : ℕ) → position p xs ≡ Some n → list_any p xs ≡ true
  found_any [] n h = absurd cc
  found_any (x ∷ xs) n h = by (found_any xs) (p x) refl
    where
      by : ((m : ℕ) → position p xs ≡ Some m → list_any p xs ≡ true) → (b : Bool) → p x ≡ b → list_any p (x ∷ xs) ≡ true
      by more true e = rw e refl
      by more false e = let (m, found, is) = later_some (position p xs) n (sym (position-later p x xs e) ∙ h) in rw e (more m found)

  pub none_any : (xs : List X) → position p xs ≡ None → list_any p xs ≡ false
  none_any [] h = refl
  none_any (x ∷ xs) h = by (none_any xs) (p x) refl
    where
      by : (position p xs ≡ None → list_any p xs ≡ false) → (b : Bool) → p x ≡ b → list_any p (x ∷ xs) ≡ false
      by more true q = absurd (some_none 0 (sym (position-first p x xs q) ∙ h))
      by more false q = rw q (more (later_none (position p xs) (sym (position-later p x xs q) ∙ h)))
