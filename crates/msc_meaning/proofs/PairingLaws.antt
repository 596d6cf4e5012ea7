-- A level has one list of pairs.
use Rattle.std.specs.Prelude.{◌≡◌, ◌≤◌, ℕ, suc, List, [], ◌∷◌, refl}
use Rattle.std.proofs.Common.{inl, inr, ap₂, sym, arith}
use Rattle.msc_base.specs.declared.label.Pair.{Pair}
use Rattle.msc_meaning.specs.Bodies.{EventNode}
use Rattle.msc_meaning.specs.Pairing.{HasPair, DoRise, ArePairs}

-- each pair of rising ones stands behind n
behind : (n p q : ℕ) (xs : List Pair) → DoRise n xs → HasPair xs p q → n ≤ p
behind n p q [] rise h = absurd h
behind n p q (x ∷ xs) rise (inl e) = omega (arith, rise.0, e.0)
behind n p q (x ∷ xs) rise (inr h) = let less : suc x.first ≤ p = behind (suc x.first) p q xs rise.1 h in omega (arith, rise.0, less)

-- what is among rising pairs and isn't the first stands behind it
rest_of : (x : Pair) (xs : List Pair) (p q : ℕ) → HasPair (x ∷ xs) p q → suc x.first ≤ p → HasPair xs p q
rest_of x xs p q (inl e) less = absurd (omega (arith, e.0, less))
rest_of x xs p q (inr h) less = h

first_of : (x : Pair) (xs : List Pair) (n p q : ℕ) → DoRise n (x ∷ xs) → HasPair (x ∷ xs) p q → p ≤ x.first → (x.first ≡ p) × (x.second ≡ q)
first_of x xs n p q rise (inl e) low = e
first_of x xs n p q rise (inr h) low = let less : suc x.first ≤ p = behind (suc x.first) p q xs rise.1 h in absurd (omega (arith, less, low))

-- rising lists of the same pairs are one
pub one_rising : (n m : ℕ) (xs ys : List Pair) → DoRise n xs → DoRise m ys → ((p q : ℕ) → HasPair xs p q → HasPair ys p q) → ((p q : ℕ) → HasPair ys p q → HasPair xs p q) → xs ≡ ys
one_rising n m [] [] a b to from = refl
one_rising n m [] (y ∷ ys) a b to from = absurd (from y.first y.second (inl (refl, refl)))
one_rising n m (x ∷ xs) [] a b to from = absurd (to x.first x.second (inl (refl, refl)))
one_rising n m (x ∷ xs) (y ∷ ys) a b to from =
    let there : HasPair (y ∷ ys) x.first x.second = to x.first x.second (inl (refl, refl)) in
    let back : HasPair (x ∷ xs) y.first y.second = from y.first y.second (inl (refl, refl)) in
    let low : y.first ≤ x.first = behind y.first x.first x.second (y ∷ ys) (omega arith, b.1) there in
    let high : x.first ≤ y.first = behind x.first y.first y.second (x ∷ xs) (omega arith, a.1) back in
    let same = first_of y ys m x.first x.second b there high in
    let head : x ≡ y = λ i. record { first = sym same.0 i; second = sym same.1 i } in
    let level : x.first ≡ y.first = sym same.0 in
    ap₂ (λ (z : Pair) (zs : List Pair). z ∷ zs) head
    (one_rising (suc x.first) (suc y.first) xs ys a.1 b.1
    (λ p q h. let less : suc x.first ≤ p = behind (suc x.first) p q xs a.1 h in rest_of y ys p q (to p q (inr h)) (omega (arith, less, level)))
    (λ p q h. let less : suc y.first ≤ p = behind (suc y.first) p q ys b.1 h in rest_of x xs p q (from p q (inr h)) (omega (arith, less, level))))

pub one_list : (held : List EventNode) (pairs others : List Pair) → ArePairs held pairs → ArePairs held others → pairs ≡ others
one_list held pairs others a b = one_rising 0 0 pairs others a.rising b.rising (λ p q h. b.every p q (a.paired p q h)) (λ p q h. a.every p q (b.paired p q h))
