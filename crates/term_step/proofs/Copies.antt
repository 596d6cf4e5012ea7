-- Copies of the items of a list, one after another.
use Rattle.std.specs.Prelude.{ℕ, zero, suc, ◌+◌, ◌≤◌, List, [], ◌∷◌, ◌++◌, ◌≡◌, Some, take, drop, slice_get}
use Rattle.std.proofs.Common.{ap, sym, ◌∙◌, add-one, append_assoc, arith}
use Rattle.chart_term.specs.Terms.{Tree}

copies_next : (xs : List Tree) (i j : ℕ) (x : Tree) → i ≤ j → slice_get xs j ≡ Some x → drop i (take (suc j) xs) ≡ drop i (take j xs) ++ x ∷ []
copies_next [] i j x l h = cc
copies_next (y ∷ ys) zero zero x l h = let e : y ≡ x = cc in rw e
copies_next (y ∷ ys) zero (suc j) x l h = ap (λ l. y ∷ l) (copies_next ys zero j x (omega arith) h)
copies_next (y ∷ ys) (suc i) zero x l h = absurd (omega arith)
copies_next (y ∷ ys) (suc i) (suc j) x l h = copies_next ys i j x (omega arith) h

pub copies-more : (xs old ks new : List Tree) (i j : ℕ) (x y : Tree) → i ≤ j → slice_get xs j ≡ Some x → ks ≡ old ++ drop i (take j xs) → y ≡ x → new ≡ ks ++ y ∷ [] → new ≡ old ++ drop i (take (j + 1) xs)
copies-more xs old ks new i j x y l h e f g = rw add-one (g ∙ ((λ k. e k ++ f k ∷ []) ∙ (append_assoc old (drop i (take j xs)) (x ∷ []) ∙ ap (λ l. old ++ l) (sym (copies_next xs i j x l h)))))
