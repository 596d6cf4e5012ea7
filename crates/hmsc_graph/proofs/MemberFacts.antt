-- Members of lists of numbers.
use Rattle.std.proofs.Common.{ℕ, zero, suc, ◌<◌, ◌≡◌, ◌⊎◌, inl, inr, List, [], ◌∷◌, ◌++◌, length, get_or, take, refl, arith, subst, sym}
use Rattle.msc_base.specs.Lists.{IsIn}
use Rattle.list_facts.proofs.Members.{among_right, among_snoc, among_left}

pub in_one : (m x : ℕ) → IsIn m (x ∷ []) → m ≡ x
in_one m x (inl e) = e
in_one m x (inr r) = absurd r

pub pushed_in : (m x : ℕ) (xs : List ℕ) → m ≡ x → IsIn m (xs ++ x ∷ [])
pushed_in m x xs e = among_right xs (x ∷ []) m (inl e)

-- the number at an index
pub in_at : (xs : List ℕ) (i : ℕ) → i < length xs → IsIn (get_or xs i 0) xs
in_at [] i h = absurd (omega arith)
in_at (x ∷ xs) zero h = inl refl
in_at (x ∷ xs) (suc i) h = inr (in_at xs i (omega (arith, h)))

-- one more of the first numbers
pub in_taken : (m : ℕ) (xs : List ℕ) (i : ℕ) → i < length xs → IsIn m (take (suc i) xs) → IsIn m (take i xs) ⊎ (m ≡ get_or xs i 0)
in_taken m [] i h k = absurd (omega arith)
in_taken m (x ∷ xs) zero h (inl e) = inr e
in_taken m (x ∷ xs) zero h (inr r) = absurd r
in_taken m (x ∷ xs) (suc i) h (inl e) = inl (inl e)
in_taken m (x ∷ xs) (suc i) h (inr r) = elim (in_taken m xs i (omega (arith, h)) r) [ inl l ↦ inl (inr l) | inr e ↦ inr e ]

pub taken_kept : (m : ℕ) (xs : List ℕ) (i : ℕ) → IsIn m (take i xs) → IsIn m (take (suc i) xs)
taken_kept m [] zero k = absurd k
taken_kept m [] (suc i) k = absurd k
taken_kept m (x ∷ xs) zero k = absurd k
taken_kept m (x ∷ xs) (suc i) (inl e) = inl e
taken_kept m (x ∷ xs) (suc i) (inr r) = inr (taken_kept m xs i r)

pub taken_at : (xs : List ℕ) (i : ℕ) → i < length xs → IsIn (get_or xs i 0) (take (suc i) xs)
taken_at [] i h = absurd (omega arith)
taken_at (x ∷ xs) zero h = inl refl
taken_at (x ∷ xs) (suc i) h = inr (taken_at xs i (omega (arith, h)))

-- the numbers of a list that was pushed to
module _ (ns more : List ℕ) (x : ℕ) (is : more ≡ ns ++ x ∷ []) where
  pub more_cases : (m : ℕ) → IsIn m more → IsIn m ns ⊎ (m ≡ x)
  more_cases m i = among_snoc ns x m (subst (λ l. IsIn m l) is i)

  pub more_keeps : (m : ℕ) → IsIn m ns → IsIn m more
  more_keeps m i = subst (λ l. IsIn m l) (sym is) (among_left ns (x ∷ []) m i)

  pub more_has : (m : ℕ) → m ≡ x → IsIn m more
  more_has m e = subst (λ l. IsIn m l) (sym is) (pushed_in m x ns e)
