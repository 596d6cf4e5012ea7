-- Stretches of a list, by the parts in which they lie.
use Rattle.std.proofs.Common.{◌≡◌, ℕ, ◌+◌, ◌-◌, ◌<◌, ◌≤◌, ◌++◌, List, length, take, drop, sym, ◌∙◌, ap, arith, length-drop, append_assoc}
use Rattle.std.proofs.Math.Seq.{take-add, take-length}
use Rattle.persistent_sequence.specs.Walks.{IsAhead}
use Rattle.persistent_sequence.proofs.Parts.{shorter_behind, shorter_before, length_parts, take_first, take_second, drop_first, drop_second}

pub ahead_leaf : {T : Type 0} → (xs ys zs : List T) (i : ℕ) → xs ≡ ys → i < length ys → zs ≡ drop i ys → IsAhead xs i zs
ahead_leaf xs ys zs i e h s = record {
  filled = omega (arith, ap length s, length-drop i ys);
  within = omega (arith, ap length s, ap length e, length-drop i ys);
  next =
      take-add i (length zs) xs
      ∙ ap (λ l. take i xs ++ l) (ap (λ l. take (length zs) (drop i l)) e ∙ ap (λ l. take (length zs) l) (sym s) ∙ take-length zs);
}

pub ahead_first : {T : Type 0} → (xs ys zs r : List T) (i : ℕ) → xs ≡ ys ++ zs → i < length ys → IsAhead ys i r → IsAhead xs i r
ahead_first xs ys zs r i e h a = record {
  filled = a.filled;
  within = omega (arith, a.within, length_parts xs ys zs e);
  next =
      take_first xs ys zs (i + length r) e a.within ∙ a.next
      ∙ ap (λ l. l ++ r) (sym (take_first xs ys zs i e (omega arith)));
}

pub ahead_second : {T : Type 0} → (xs ys zs r : List T) (i : ℕ) → xs ≡ ys ++ zs → length ys ≤ i → IsAhead zs (i - length ys) r → IsAhead xs i r
ahead_second xs ys zs r i e h a =
    let n : i + length r - length ys ≡ i - length ys + length r = omega arith in
    record {
      filled = a.filled;
      within = omega (arith, a.within, length_parts xs ys zs e);
      next =
          take_second xs ys zs (i + length r) e (omega arith)
          ∙ ap (λ l. ys ++ l) (ap (λ m. take m zs) n ∙ a.next)
          ∙ sym (append_assoc ys (take (i - length ys) zs) r)
          ∙ ap (λ l. l ++ r) (sym (take_second xs ys zs i e h));
    }

pub ruleset stretches = (shorter_behind, shorter_before, length_parts, ahead_leaf, ahead_first, ahead_second)
