-- Numbers and lists of numbers.
use Rattle.std.specs.Prelude.{ℕ, ◌==◌, ◌||◌, ◌≢◌, ◌⊎◌, Bool, true, false, List, [], ◌∷◌, ◌++◌, ◌≡◌, refl}
use Rattle.std.proofs.Common.{arith, inl, inr}
use Rattle.std.proofs.lemmas.Bool.Decides.{nat_tests}
use Rattle.chart_term.specs.Terms.{has}

pub number_not : (m n : ℕ) → (m == n) ≡ false → m ≢ n
number_not m n h = λ e. grind (arith, nat_tests)

-- a number that two lists in one lack
pub lacks_both : (a b : List ℕ) (n : ℕ) → has (a ++ b) n ≡ false → (has a n ≡ false) × (has b n ≡ false)
lacks_both [] b n h = (refl, h)
lacks_both (i ∷ a) b n h = go (i == n) h (lacks_both a b n)
  where
    go : (t : Bool) → (t || has (a ++ b) n) ≡ false → (has (a ++ b) n ≡ false → (has a n ≡ false) × (has b n ≡ false)) → ((t || has a n) ≡ false) × (has b n ≡ false)
    go true h f = cc
    go false h f = f h

-- a number that one of two lists has
pub has_either : (a b : List ℕ) (n : ℕ) → has (a ++ b) n ≡ true → (has a n ≡ true) ⊎ (has b n ≡ true)
has_either [] b n h = inr h
has_either (i ∷ a) b n h = go (i == n) h (has_either a b n)
  where
    go : (t : Bool) → (t || has (a ++ b) n) ≡ true → (has (a ++ b) n ≡ true → (has a n ≡ true) ⊎ (has b n ≡ true)) → ((t || has a n) ≡ true) ⊎ (has b n ≡ true)
    go true h f = inl refl
    go false h f = f h
