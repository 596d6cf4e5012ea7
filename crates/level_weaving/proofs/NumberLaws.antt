-- Numbers put together from the first, and from the last.
use Rattle.std.proofs.Common.{◌≡◌, ℕ, ◌+◌, zero, suc, List, [], ◌∷◌, ◌++◌, refl, ap, ap₂, ◌∙◌, arith}
use Rattle.column_order.specs.Laws.{numbers_from}
use Rattle.level_weaving.specs.LevelNumbers.{numbers_to}

from_last : (k n : ℕ) → numbers_from k (suc n) ≡ numbers_from k n ++ (k + n) ∷ []
from_last k zero = let e : k ≡ k + 0 = omega arith in ap (λ (m : ℕ). m ∷ []) e
from_last k (suc n) =
    let e : suc k + n ≡ k + suc n = omega arith in
    ap (λ (ms : List ℕ). k ∷ ms) (from_last (suc k) n ∙ ap (λ (m : ℕ). numbers_from (suc k) n ++ m ∷ []) e)

pub text_numbers : (n : ℕ) → numbers_from 0 n ≡ numbers_to n
text_numbers zero = refl
text_numbers (suc n) =
    let e : 0 + n ≡ n = omega arith in
    from_last 0 n ∙ ap₂ (λ (ms : List ℕ) (m : ℕ). ms ++ m ∷ []) (text_numbers n) e
