-- Lists of labels in their order: there is one of the same labels.
use Rattle.std.specs.Prelude.{◌≡◌, List, [], ◌∷◌, refl}
use Rattle.std.proofs.Common.{ap, ap₂, sym, ◌∙◌, subst, inl, inr}
use Rattle.std.specs.List.{AllByRecursion}
use Rattle.std.specs.List.Sorted.{IsStrictlySortedBy}
use Rattle.std.specs.Ordering.{ordering_reverse}
use Rattle.std.specs.declared.cmp.Ordering.TheVariants.{Less, Greater}
use Rattle.msc_base.specs.declared.label.Label.{Label}
use Rattle.msc_base.specs.Lists.{IsAmong}
use Rattle.next_labels.specs.NextLabels.{LabelListsAreOne}
use Rattle.next_labels.specs.Order.{label_cmp, label_total}

-- of two labels each can't come before the other
apart : (a b : Label) → label_cmp a b ≡ Less → label_cmp b a ≡ Less → ⊥
apart a b h g = let bad : Less ≡ Greater = sym h ∙ (label_total.antisymm a b ∙ ap ordering_reverse g) in cc

below : (a : Label) (ls : List Label) → AllByRecursion (λ b. label_cmp a b ≡ Less) ls → (b : Label) → IsAmong ls b → label_cmp a b ≡ Less
below a [] h b i = absurd i
below a (l ∷ ls) h b (inl e) = subst (λ (c : Label). label_cmp a c ≡ Less) (sym e) h.0
below a (l ∷ ls) h b (inr i) = below a ls h.1 b i

-- what is among both lists beside the same first label is among their tails
behind : (l m : Label) (ls ms : List Label) → l ≡ m → AllByRecursion (λ b. label_cmp l b ≡ Less) ls → ((a : Label) → IsAmong (l ∷ ls) a → IsAmong (m ∷ ms) a) → (a : Label) → IsAmong ls a → IsAmong ms a
behind l m ls ms e above f a i = go (f a (inr i))
  where
    go : IsAmong (m ∷ ms) a → IsAmong ms a
    go (inr j) = j
    go (inl q) =
        let less : label_cmp l l ≡ Less = subst (λ (c : Label). label_cmp l c ≡ Less) (q ∙ sym e) (below l ls above a i) in
        absurd (apart l l less less)

one_list : (ls ms : List Label) → IsStrictlySortedBy label_cmp ls → IsStrictlySortedBy label_cmp ms → ((a : Label) → IsAmong ls a → IsAmong ms a) → ((a : Label) → IsAmong ms a → IsAmong ls a) → ls ≡ ms
unfolding IsStrictlySortedBy
one_list [] [] s t f g = refl
one_list [] (m ∷ ms) s t f g = absurd (g m (inl refl))
one_list (l ∷ ls) [] s t f g = absurd (f l (inl refl))
one_list (l ∷ ls) (m ∷ ms) s t f g =
    let e = first (f l (inl refl)) (g m (inl refl)) in
    ap₂ (λ (x : Label) (xs : List Label). x ∷ xs) e (one_list ls ms s.1 t.1 (behind l m ls ms e s.0 f) (behind m l ms ls (sym e) t.0 g))
  where
    first : IsAmong (m ∷ ms) l → IsAmong (l ∷ ls) m → l ≡ m
    first (inl e) j = e
    first (inr i) (inl e) = sym e
    first (inr i) (inr j) = absurd (apart l m (below l ls s.0 m j) (below m ms t.0 l i))

pub label_lists_are_one : LabelListsAreOne
label_lists_are_one labels others s t same = one_list labels others s t (λ a. (same a).to) (λ a. (same a).from)
