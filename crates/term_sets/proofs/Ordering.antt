-- Terms put in their order rise, are the same terms, and weigh as much.
use Rattle.std.specs.Prelude.{◌+◌, ◌≡◌, ◌⊎◌, List, [], ◌∷◌, refl}
use Rattle.std.proofs.Common.{ap, ◌∙◌, arith, inl, inr}
use Rattle.std.specs.Ordering.{ordering_reverse}
use Rattle.std.specs.declared.cmp.Ordering.{Ordering}
use Rattle.std.specs.declared.cmp.Ordering.TheVariants.{Less, Equal, Greater}
use Rattle.msc_base.specs.Lists.{AreDifferent, IsAmong}
use Rattle.chart_term.specs.Order.{tree_cmp}
use Rattle.chart_term.specs.OrderLaws.{tree_total, tree_equal}
use Rattle.chart_term.specs.TermPatterns.{Both}
use Rattle.chart_term.specs.Terms.{Tree, weight}
use Rattle.term_laws.specs.Listing.{set_weight}
use Rattle.term_successors.specs.Successors.{AreRising}
use Rattle.term_successors.proofs.TermSets.{each_at, each_from}
use Rattle.term_sets.specs.Subsets.{put_by, put_in, in_order}

-- one more term has its place

put_to : (x : Tree) (ys : List Tree) (y : Tree) → IsAmong (put_in x ys) y → (y ≡ x) ⊎ IsAmong ys y
put_to x [] y h = h
put_to x (z ∷ zs) y h = go (tree_cmp x z) (put_to x zs y) h
  where
    later : (y ≡ x) ⊎ IsAmong zs y → (y ≡ x) ⊎ IsAmong (z ∷ zs) y
    later (inl q) = inl q
    later (inr j) = inr (inr j)

    go : (o : Ordering) → (IsAmong (put_in x zs) y → (y ≡ x) ⊎ IsAmong zs y) → IsAmong (put_by o x z zs (put_in x zs)) y → (y ≡ x) ⊎ IsAmong (z ∷ zs) y
    go Less f i = i
    go Equal f i = inr i
    go Greater f (inl q) = inr (inl q)
    go Greater f (inr j) = later (f j)

put_from : (x : Tree) (ys : List Tree) (y : Tree) → (y ≡ x) ⊎ IsAmong ys y → IsAmong (put_in x ys) y
put_from x [] y h = h
put_from x (z ∷ zs) y h = go (tree_cmp x z) refl (put_from x zs y) h
  where
    go : (o : Ordering) → tree_cmp x z ≡ o → ((y ≡ x) ⊎ IsAmong zs y → IsAmong (put_in x zs) y) → (y ≡ x) ⊎ IsAmong (z ∷ zs) y → IsAmong (put_by o x z zs (put_in x zs)) y
    go Less e f i = i
    go Equal e f (inl q) = inl (q ∙ tree_equal x z e)
    go Equal e f (inr j) = j
    go Greater e f (inl q) = inr (f (inl q))
    go Greater e f (inr (inl q)) = inl q
    go Greater e f (inr (inr j)) = inr (f (inr j))

put_rises : (x : Tree) (ys : List Tree) → AreRising ys → AreRising (put_in x ys)
put_rises x [] h = (tt, tt)
put_rises x (z ∷ zs) h = go (tree_cmp x z) refl (put_rises x zs h.1)
  where
    after : tree_cmp x z ≡ Less → (y : Tree) → IsAmong zs y → tree_cmp x y ≡ Less
    after e y i = tree_total.trans x z y e (each_at (λ (u : Tree). tree_cmp z u ≡ Less) zs y h.0 i)

    turned : tree_cmp x z ≡ Greater → tree_cmp z x ≡ Less
    turned e = tree_total.antisymm z x ∙ ap ordering_reverse e

    before : tree_cmp x z ≡ Greater → (y : Tree) → IsAmong (put_in x zs) y → tree_cmp z y ≡ Less
    before e y i = elim (put_to x zs y i) [
      | inl q ↦ ap (tree_cmp z) q ∙ turned e
      | inr j ↦ each_at (λ (u : Tree). tree_cmp z u ≡ Less) zs y h.0 j
    ]

    go : (o : Ordering) → tree_cmp x z ≡ o → AreRising (put_in x zs) → AreRising (put_by o x z zs (put_in x zs))
    go Less e r = ((e, each_from (λ (u : Tree). tree_cmp x u ≡ Less) zs (after e)), h)
    go Equal e r = h
    go Greater e r = (each_from (λ (u : Tree). tree_cmp z u ≡ Less) (put_in x zs) (before e), r)

put_weighs : (x : Tree) (ys : List Tree) → (IsAmong ys x → ⊥) → set_weight (put_in x ys) ≡ weight x + set_weight ys
put_weighs x [] f = refl
put_weighs x (z ∷ zs) f = go (tree_cmp x z) refl (put_weighs x zs (λ i. f (inr i)))
  where
    go : (o : Ordering) → tree_cmp x z ≡ o → set_weight (put_in x zs) ≡ weight x + set_weight zs → set_weight (put_by o x z zs (put_in x zs)) ≡ weight x + (weight z + set_weight zs)
    go Less e r = refl
    go Equal e r = absurd (f (inl (tree_equal x z e)))
    go Greater e r = omega (arith, r)

-- so has each of some terms

-- terms in their order rise
pub in_order_rises : (xs : List Tree) → AreRising (in_order xs)
in_order_rises [] = tt
in_order_rises (x ∷ xs) = put_rises x (in_order xs) (in_order_rises xs)

in_order_to : (xs : List Tree) (y : Tree) → IsAmong (in_order xs) y → IsAmong xs y
in_order_to [] y h = h
in_order_to (x ∷ xs) y h = elim (put_to x (in_order xs) y h) [ inl q ↦ inl q | inr j ↦ inr (in_order_to xs y j) ]

in_order_from : (xs : List Tree) (y : Tree) → IsAmong xs y → IsAmong (in_order xs) y
in_order_from [] y h = h
in_order_from (x ∷ xs) y (inl q) = put_from x (in_order xs) y (inl q)
in_order_from (x ∷ xs) y (inr j) = put_from x (in_order xs) y (inr (in_order_from xs y j))

-- terms in their order are the same terms
pub in_order_has : (xs : List Tree) (y : Tree) → Both (IsAmong (in_order xs) y) (IsAmong xs y)
in_order_has xs y = record { to = in_order_to xs y; from = in_order_from xs y }

-- different terms in their order weigh as much
pub in_order_weighs : (xs : List Tree) → AreDifferent xs → set_weight (in_order xs) ≡ set_weight xs
in_order_weighs [] d = refl
in_order_weighs (x ∷ xs) d = let e = put_weighs x (in_order xs) (λ i. d.0 (in_order_to xs x i)) in let r = in_order_weighs xs d.1 in omega (arith, e, r)
