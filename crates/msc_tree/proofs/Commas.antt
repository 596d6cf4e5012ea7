-- A walk over the items of a list in parentheses that takes one item more.
use Rattle.std.proofs.Common.{◌≡◌, ◌<◌, ◌+◌, ℕ, suc, List, [], ◌∷◌, ◌++◌, drop, length, get_or, codes, refl, sym, ap, ◌∙◌, arith}
use Rattle.std.proofs.Math.Seq.{drop-cons}
use Rattle.msc_tree.specs.Labels.{with_commas}

-- where the item is read by its index
drop_read : {X : Type 0} (xs : List X) (k : ℕ) (x : X) → k < length xs → x ≡ get_or xs k x → drop k xs ≡ x ∷ drop (k + 1) xs
drop_read xs k x low is =
    let n : suc k ≡ k + 1 = omega arith in
    drop-cons xs k x low ∙ ap (λ y. y ∷ drop (suc k) xs) (sym is) ∙ ap (λ (m : ℕ). x ∷ drop m xs) n

assoc : {A : Type 0} (xs ys zs : List A) → xs ++ (ys ++ zs) ≡ (xs ++ ys) ++ zs
assoc [] ys zs = refl
assoc (x ∷ xs) ys zs = ap (λ l. x ∷ l) (assoc xs ys zs)

-- one item more behind a comma
pub comma_step : (items : List (List ℕ)) (k : ℕ) (item held longer : List ℕ) → k < length items → item ≡ get_or items k item → longer ≡ held ++ (codes "," ++ item)
    → longer ++ with_commas (drop (k + 1) items) ≡ held ++ with_commas (drop k items)
comma_step items k item held longer low is e =
    ap (λ t. t ++ with_commas (drop (k + 1) items)) e ∙ sym (assoc held (codes "," ++ item) (with_commas (drop (k + 1) items)))
    ∙ ap (λ t. held ++ t) (sym (assoc (codes ",") item (with_commas (drop (k + 1) items))))
    ∙ ap (λ is. held ++ with_commas is) (sym (drop_read items k item low is))
