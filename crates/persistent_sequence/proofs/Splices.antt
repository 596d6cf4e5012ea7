-- Lists that are cut or changed in one of two parts.
use Rattle.std.proofs.Common.{◌≡◌, ℕ, ◌+◌, ◌-◌, ◌≤◌, ◌++◌, List, length, take, drop, sym, ◌∙◌, ap, ap₂, arith, append_assoc}
use Rattle.persistent_sequence.proofs.Parts.{shorter_behind, shorter_before, length_parts, take_first, take_second, drop_first, drop_second}

-- a change in the first part
pub changed_first : {T : Type 0} → (xs ys zs new ws : List T) (i k : ℕ) → xs ≡ ys ++ zs → i + k ≤ length ys → ws ≡ take i ys ++ new ++ drop (i + k) ys → ws ++ zs ≡ take i xs ++ new ++ drop (i + k) xs
changed_first xs ys zs new ws i k e h w =
    ap (λ l. l ++ zs) w ∙ append_assoc (take i ys ++ new) (drop (i + k) ys) zs
    ∙ ap₂ (λ a b. (a ++ new) ++ b) (sym (take_first xs ys zs i e (omega arith))) (sym (drop_first xs ys zs (i + k) e h))

-- a change in the second part
pub changed_second : {T : Type 0} → (xs ys zs new ws : List T) (i k n : ℕ) → xs ≡ ys ++ zs → n ≡ length ys → n ≤ i → ws ≡ take (i - n) zs ++ new ++ drop (i - n + k) zs → ys ++ ws ≡ take i xs ++ new ++ drop (i + k) xs
changed_second xs ys zs new ws i k n e q h w =
    let m : i + k - length ys ≡ i - n + k = omega arith in
    let o : i - length ys ≡ i - n = omega arith in
    ap (λ l. ys ++ l) w ∙ sym (append_assoc ys (take (i - n) zs ++ new) (drop (i - n + k) zs))
    ∙ ap (λ l. l ++ drop (i - n + k) zs) (sym (append_assoc ys (take (i - n) zs) new))
    ∙ ap₂ (λ a b. (a ++ new) ++ b)
    (ap (λ a. ys ++ take a zs) (sym o) ∙ sym (take_second xs ys zs i e (omega arith)))
    (ap (λ a. drop a zs) (sym m) ∙ sym (drop_second xs ys zs (i + k) e (omega arith)))

pub ruleset splices = (shorter_behind, shorter_before, length_parts, take_first, take_second, drop_first, drop_second, changed_first, changed_second)
