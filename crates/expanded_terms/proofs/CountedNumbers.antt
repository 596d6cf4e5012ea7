-- Numbers one after another.
use Rattle.std.specs.Prelude.{ℕ, suc, ◌+◌, List, [], ◌∷◌, ◌++◌, length}
use Rattle.std.proofs.Common.{◌≡◌, subst, arith}
use Rattle.msc_base.specs.Orders.{Among, first, later}
use Rattle.sound_terms.specs.Intervals.{IsInside}
use Rattle.expanded_terms.specs.ExpansionNumbers.{CountFrom}

pub count_both : (n : ℕ) (a b : List ℕ) → CountFrom n a → CountFrom (n + length a) b → CountFrom n (a ++ b)
count_both n [] b h k = subst (λ i. CountFrom i b) (let e : n + 0 ≡ n = omega arith in e) k
count_both n (m ∷ a) b (e, h) k = (e, count_both (suc n) a b h (subst (λ i. CountFrom i b) (let f : n + suc (length a) ≡ suc n + length a = omega arith in f) k))

pub count_front : (n : ℕ) (a b : List ℕ) → CountFrom n (a ++ b) → CountFrom n a
count_front n [] b h = tt
count_front n (m ∷ a) b (e, h) = (e, count_front (suc n) a b h)

pub count_rest : (n : ℕ) (a b : List ℕ) → CountFrom n (a ++ b) → CountFrom (n + length a) b
count_rest n [] b h = subst (λ i. CountFrom i b) (let e : n ≡ n + 0 = omega arith in e) h
count_rest n (m ∷ a) b (e, h) = subst (λ i. CountFrom i b) (let f : suc n + length a ≡ n + suc (length a) = omega arith in f) (count_rest (suc n) a b h)

pub count_inside : (n : ℕ) (a : List ℕ) (j : ℕ) → CountFrom n a → Among j a → IsInside n (n + length a) j
count_inside n (m ∷ a) _ (e, h) first = (omega (arith, e), omega (arith, e))
count_inside n (m ∷ a) j (e, h) (later i) = let (c, d) = count_inside (suc n) a j h i in (omega (arith, c), omega (arith, d))
count_inside n [] j h i = elim i [ ]
