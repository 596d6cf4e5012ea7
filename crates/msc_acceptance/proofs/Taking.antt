-- Charts taken one after another from a list: the next of them, and the end.
use Rattle.std.proofs.Common.{◌≡◌, ◌<◌, ◌+◌, ◌++◌, ◌∷◌, ◌∙◌, [], List, ℕ, append_assoc, arith, ap, get_or, length, length-append, refl, subst}
use Rattle.msc_tree.specs.declared.chart.RawChart.{RawChart}

-- the next, before what is left behind it
pub taken : (ys rest zs list : List RawChart) (x : RawChart) → rest ≡ x ∷ zs → ys ++ rest ≡ list → ys ++ x ∷ zs ≡ list
taken ys rest zs list x step e = subst (λ (l : List RawChart). ys ++ l ≡ list) step e

-- the next is within the list
pub next_low : (ys zs list : List RawChart) (x : RawChart) → ys ++ x ∷ zs ≡ list → length ys < length list
next_low ys zs list x e = subst (λ (l : List RawChart). length ys < length l) e (omega (arith, length-append ys (x ∷ zs)))

-- the next stands behind those that were taken
pub next_is : (ys zs list : List RawChart) (x : RawChart) → ys ++ x ∷ zs ≡ list → x ≡ get_or list (length ys) x
next_is ys zs list x e = subst (λ (l : List RawChart). x ≡ get_or l (length ys) x) e (there ys)
  where
    there : (ws : List RawChart) → x ≡ get_or (ws ++ x ∷ zs) (length ws) x
    there [] = refl
    there (y ∷ ws) = there ws

-- where none is left, all were taken
pub all_taken : (ys zs list : List RawChart) → ys ++ zs ≡ list → length zs ≡ 0 → length ys < length list → ⊥
all_taken ys zs list e none lt = omega (arith, lt, none, ap length e, length-append ys zs)

-- one more is taken
pub taken_more : (ys rest zs list : List RawChart) (x : RawChart) → rest ≡ x ∷ zs → ys ++ rest ≡ list → (ys ++ x ∷ []) ++ zs ≡ list
taken_more ys rest zs list x step e = append_assoc ys (x ∷ []) zs ∙ taken ys rest zs list x step e

pub left_less : (rest zs : List RawChart) (n m : ℕ) (x : RawChart) → rest ≡ x ∷ zs → n ≡ length rest → m + 1 ≡ n → m ≡ length zs
left_less rest zs n m x step e less = omega (arith, e, less, ap length step)
