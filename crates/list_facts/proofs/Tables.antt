-- Tables of names, with one name more.
use Rattle.std.proofs.Common.{◌≡◌, ◌⊎◌, ◌↔◌, inl, inr, Bool, true, false, cond, ℕ, List, [], ◌∷◌, ◌++◌, refl, sym, subst, ◌∙◌}
use Rattle.std.proofs.lemmas.Bool.{true≢false}
use Rattle.std.specs.List.{list_any}
use Rattle.std.specs.Str.{bytes_eq}
use Rattle.msc_base.specs.Lists.{AreDifferent, IsAmong}
use Rattle.msc_base.specs.NameTables.{with_name}
use Rattle.msc_base.proofs.NameFacts.{any_from_one, one_from_any}
use Rattle.list_facts.proofs.Members.{among_snoc, different_snoc, snoc_among}

-- its names are the table's and the new one
pub among_with_name : (names : List (List ℕ)) (m n : List ℕ) → IsAmong (with_name names m) n ↔ ((n ≡ m) ⊎ IsAmong names n)
among_with_name names m n = by (list_any (bytes_eq m) names) refl
  where
    by : (b : Bool) → list_any (bytes_eq m) names ≡ b → IsAmong (cond b names (names ++ m ∷ [])) n ↔ ((n ≡ m) ⊎ IsAmong names n)
    by true e = (λ h. inr h, λ s. elim s [ inl is ↦ subst (IsAmong names) (sym is) (one_from_any names m e) | inr h ↦ h ])
    by false e = (
      λ h. elim (among_snoc names m n h) [ inl there ↦ inr there | inr is ↦ inl is ],
      λ s. snoc_among names m n (elim s [ inl is ↦ inr is | inr there ↦ inl there ]),
    )

-- its names differ
pub different_with_name : (names : List (List ℕ)) (n : List ℕ) → AreDifferent names → AreDifferent (with_name names n)
different_with_name names n d = by (list_any (bytes_eq n) names) refl
  where
    by : (b : Bool) → list_any (bytes_eq n) names ≡ b → AreDifferent (cond b names (names ++ n ∷ []))
    by true e = d
    by false e = different_snoc names n d (λ h. true≢false (sym (any_from_one names n h) ∙ e))
