-- The union of sets, as blocks make it.
use Rattle.std.specs.Prelude.{ℕ, Bool, true, false, List, [], ◌∷◌, ◌≡◌, ◌==◌, refl, ltb, nat_lt}
use Rattle.std.proofs.Common.{ap, ◌∙◌, arith}
use Rattle.std.proofs.lemmas.Bool.Decides.{nat_tests}
use Rattle.bit_sets.specs.Blocks.{insert_rising, insert_each}
use Rattle.chart_term.specs.Terms.{add_member, ◌∪◌}
use Rattle.term_laws.specs.Normality.{IsSet, IsAbove}

pub insert-add : (n : ℕ) (c : List ℕ) → insert_rising c n ≡ add_member n c
insert-add n [] = refl
insert-add n (m ∷ c) = go (nat_lt n m) (n == m) refl refl (insert-add n c)
  where
    go : (s t : Bool) → nat_lt n m ≡ s → (n == m) ≡ t → insert_rising c n ≡ add_member n c → insert_rising (m ∷ c) n ≡ add_member n (m ∷ c)
    go true true e f r = grind (arith, nat_tests)
    go true false e f r = rw (e, f)
    go false true e f r = rw (e, f)
    go false false e f r = rw (e, f) (ap (λ l. m ∷ l) r)

pub each-union : (c d : List ℕ) → insert_each c d ≡ c ∪ d
each-union c [] = refl
each-union c (n ∷ d) = insert-add n (insert_each c d) ∙ ap (add_member n) (each-union c d)

first_added : (n : ℕ) (c : List ℕ) → IsAbove n c → add_member n c ≡ n ∷ c
first_added n [] h = refl
first_added n (m ∷ c) h = let e : (n == m) ≡ false = grind (arith, nat_tests) in let l : ltb n m ≡ true = grind (arith, nat_tests) in rw (e, l)

pub none-union : (c : List ℕ) → IsSet c → [] ∪ c ≡ c
none-union [] h = refl
none-union (n ∷ c) h = ap (add_member n) (none-union c h.1) ∙ first_added n c h.0

pub both-union : (c d : List ℕ) → IsSet c → insert_each (insert_each [] c) d ≡ c ∪ d
both-union c d h = each-union (insert_each [] c) d ∙ ap (λ l. l ∪ d) (each-union [] c ∙ none-union c h)
