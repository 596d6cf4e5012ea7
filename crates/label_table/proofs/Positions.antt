-- The place of the first item that passes a test.
use Rattle.std.specs.Prelude.{not, nat_lt}
use Rattle.std.proofs.Common.{◌≡◌, ℕ, suc, ◌+◌, Bool, true, false, cond, Option, Some, None, List, ◌∷◌, length, refl, sym, ap, ◌∙◌, arith}
use Rattle.std.specs.List.{position, prefix_len}
use Rattle.std.proofs.lemmas.Bool.Decides.{Decides-ltb}
use Rattle.list_facts.proofs.Bools.{tests_agree}

less_later : (n m : ℕ) → nat_lt (1 + n) (suc m) ≡ nat_lt n m
less_later n m =
    tests_agree (nat_lt (1 + n) (suc m)) (nat_lt n m) (λ e. let h = (Decides-ltb (1 + n) (suc m)).0 e in (Decides-ltb n m).1 (omega (arith, h))) (λ e. let h = (Decides-ltb n m).0 e in (Decides-ltb (1 + n) (suc m)).1 (omega (arith, h)))

-- the place of an item, from the place in what follows the first
abbrev pub later : Option ℕ → Option ℕ
later None = None
later (Some n) = Some (1 + n)

pub later_some : (r : Option ℕ) (n : ℕ) → later r ≡ Some n → (m : ℕ) × (r ≡ Some m) × (n ≡ 1 + m)
later_some None n h = absurd cc
later_some (Some m) n h = let e : 1 + m ≡ n = cc in (m, refl, sym e)

pub later_none : (r : Option ℕ) → later r ≡ None → r ≡ None
later_none None h = refl
later_none (Some m) h = absurd cc

module _ {X : Type 0} (p : X → Bool) where
  -- how many items stand before the first that passes
  before : List X → ℕ
  before xs = prefix_len (λ y. not (p y)) xs

  found_at : ℕ → ℕ → Option ℕ
  found_at m n = cond (nat_lt n m) (Some n) None

  pub position-first : (x : X) (xs : List X) → p x ≡ true → position p (x ∷ xs) ≡ Some 0
  unfolding before found_at
  position-first x xs h =
      let n : before (x ∷ xs) ≡ 0 = rw h refl in
      ap (found_at (suc (length xs))) n ∙ ap (λ b. cond b (Some 0) None) ((Decides-ltb 0 (suc (length xs))).1 (omega arith))

  within : (b : Bool) (n : ℕ) → cond b (Some (1 + n)) None ≡ later (cond b (Some n) None)
  within true n = refl
  within false n = refl

  pub position-later : (x : X) (xs : List X) → p x ≡ false → position p (x ∷ xs) ≡ later (position p xs)
  unfolding before found_at
  position-later x xs h =
      let n : before (x ∷ xs) ≡ 1 + before xs = rw h refl in
      ap (found_at (suc (length xs))) n
      ∙ ap (λ b. cond b (Some (1 + before xs)) None) (less_later (before xs) (length xs))
      ∙ within (nat_lt (before xs) (length xs)) (before xs)
