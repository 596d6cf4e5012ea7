-- Codes of event numbers.
use Rattle.std.proofs.Common.{◌≡◌, ℕ, ◌+◌, ◌*◌, ◌/◌, ◌%◌, ◌^◌, List, [], ◌∷◌, ◌++◌, refl, ap, sym, ◌∙◌, arith}
use Rattle.std.proofs.Math.Nat.{mod-mod, mod-add-mod, add-mod-mod}
use Rattle.term_facts.specs.NodeFacts.{number_code, number_spread, numbers_code}

number_spreads : (n s t r : ℕ) → s ≡ ((n + 1) * 11400714819323198485) % 2 ^ 64 → t ≡ ((s / 2 ^ 32) * s) % 2 ^ 64 → r ≡ ((t / 2 ^ 32) * s) % 2 ^ 64 → r ≡ number_spread n
unfolding number_spread
number_spreads n s t r e f g = g ∙ ap (λ u. ((u / 2 ^ 32) * s) % 2 ^ 64) f ∙ ap (λ u. ((((u / 2 ^ 32) * u) % 2 ^ 64 / 2 ^ 32) * u) % 2 ^ 64) e

pub number_coded : (n s t r : ℕ) → s ≡ ((n + 1) * 11400714819323198485) % 2 ^ 64 → t ≡ ((s / 2 ^ 32) * s) % 2 ^ 64 → r ≡ ((t / 2 ^ 32) * s) % 2 ^ 64 → (1 * 2 ^ (32 + n % 32) % 2 ^ 64 + r / 2 ^ 37) % 2 ^ 64 ≡ number_code n
unfolding number_code
number_coded n s t r e f g =
    mod-add-mod (1 * 2 ^ (32 + n % 32)) (2 ^ 64) (r / 2 ^ 37)
    ∙ ap (λ u. (u + r / 2 ^ 37) % 2 ^ 64) (once (2 ^ (32 + n % 32)))
    ∙ ap (λ u. (2 ^ (32 + n % 32) + u / 2 ^ 37) % 2 ^ 64) (number_spreads n s t r e f g)
  where
    once : (m : ℕ) → 1 * m ≡ m
    once m = omega arith

-- codes are below 2 ^ 64
number_stays : (n : ℕ) → number_code n ≡ number_code n % 2 ^ 64
unfolding number_code
number_stays n = sym (mod-mod (2 ^ (32 + n % 32) + number_spread n / 2 ^ 37) (2 ^ 64))

numbers_stay : (ns : List ℕ) → numbers_code ns ≡ numbers_code ns % 2 ^ 64
numbers_stay [] = refl
numbers_stay (n ∷ ns) = sym (mod-mod (number_code n + numbers_code ns) (2 ^ 64))

pub one_coded : (n : ℕ) → number_code n ≡ numbers_code (n ∷ [])
one_coded n = number_stays n ∙ ap (λ c. c % 2 ^ 64) (omega arith)

-- the code of numbers of two kinds
pub numbers_code-append : (ms ns : List ℕ) → numbers_code (ms ++ ns) ≡ (numbers_code ms + numbers_code ns) % 2 ^ 64
numbers_code-append [] ns = numbers_stay ns ∙ ap (λ c. c % 2 ^ 64) (omega arith)
numbers_code-append (m ∷ ms) ns =
    ap (λ c. (number_code m + c) % 2 ^ 64) (numbers_code-append ms ns)
    ∙ add-mod-mod (number_code m) (numbers_code ms + numbers_code ns) (2 ^ 64)
    ∙ ap (λ c. c % 2 ^ 64) (omega arith)
    ∙ sym (mod-add-mod (number_code m + numbers_code ms) (2 ^ 64) (numbers_code ns))

-- in either order
pub numbers_code-turned : (ms ns : List ℕ) → numbers_code (ms ++ ns) ≡ numbers_code (ns ++ ms)
numbers_code-turned ms ns = numbers_code-append ms ns ∙ ap (λ c. c % 2 ^ 64) (omega arith) ∙ sym (numbers_code-append ns ms)

pub ruleset coding = (number_coded, one_coded)
