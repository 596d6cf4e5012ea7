-- Charts of whose declarations none names a refining chart, or one does.
use Rattle.std.proofs.Common.{◌≡◌, ◌≤◌, ◌∙◌, inl, inr, ℕ, zero, suc, arith, drop, length, Bool, true, false, cond, List, [], ◌∷◌, ◌++◌, Option, Some, None, refl, sym, subst, ap, ap₂}
use Rattle.std.specs.Option.{is_some, option_or}
use Rattle.std.specs.Str.{bytes_eq}
use Rattle.std.proofs.lemmas.Slice.Eq.{bytes_eq-Decides}
use Rattle.list_facts.proofs.Joining.{left_nil, right_nil}
use Rattle.list_facts.proofs.Tables.{among_with_name}
use Rattle.msc_base.specs.Lists.{IsAmong}
use Rattle.msc_base.specs.NameTables.{with_name}
use Rattle.msc_meaning.specs.Tables.{declared, refined_as, refinement, refinements, refinements_of}
use Rattle.msc_tree.specs.declared.chart.Decl.{Decl}

abbrev pub Unrefined : List Decl → Type 0
Unrefined [] = Unit {0}
Unrefined (d ∷ ds) = (d.refined ≡ None) × Unrefined ds

passed_none : (b : Bool) (r later : Option (List ℕ)) → r ≡ None → later ≡ None → option_or (cond b r None) later ≡ None
passed_none true r later e f = ap (λ (o : Option (List ℕ)). option_or o later) e ∙ f
passed_none false r later e f = f

refined_none : (ds : List Decl) (name : List ℕ) → Unrefined ds → refined_as ds name ≡ None
refined_none [] name h = refl
refined_none (d ∷ ds) name h = passed_none (bytes_eq d.name name) d.refined (refined_as ds name) h.0 (refined_none ds name h.1)

refinements_none : (ds : List Decl) (names : List (List ℕ)) → Unrefined ds → refinements_of ds names ≡ []
refinements_none ds [] h = refl
refinements_none ds (name ∷ names) h = ap₂ (λ a b. a ++ b) (ap (refinement name) (refined_none ds name h)) (refinements_none ds names h)

pub none_refined : (ds : List Decl) → Unrefined ds → refinements ds ≡ []
none_refined ds h = refinements_none ds (declared [] ds) h

-- ---- one that does

kept_declared : (ds : List Decl) (names : List (List ℕ)) (n : List ℕ) → IsAmong names n → IsAmong (declared names ds) n
kept_declared [] names n h = h
kept_declared (d ∷ ds) names n h = kept_declared ds (with_name names d.name) n ((among_with_name names d.name n).1 (inr h))

is_declared : (ds : List Decl) (names : List (List ℕ)) (d : Decl) → IsAmong ds d → IsAmong (declared names ds) d.name
is_declared [] names d h = absurd h
is_declared (e ∷ ds) names d h = elim h [
  | inl is ↦ kept_declared ds (with_name names e.name) d.name ((among_with_name names e.name d.name).1 (inl (ap (λ (x : Decl). x.name) is)))
  | inr i ↦ is_declared ds (with_name names e.name) d i
]

or_none : (a b : Option (List ℕ)) → option_or a b ≡ None → (a ≡ None) × (b ≡ None)
or_none None b h = (refl, h)
or_none (Some x) b h = absurd cc

none_as : (ds : List Decl) (d : Decl) → IsAmong ds d → refined_as ds d.name ≡ None → d.refined ≡ None
none_as [] d h e = absurd h
none_as (x ∷ ds) d h e =
    let (here, there) = or_none (cond (bytes_eq x.name d.name) x.refined None) (refined_as ds d.name) e in
    elim h [
      | inl is ↦ ap (λ (b : Bool). cond b d.refined None) (sym ((bytes_eq-Decides d.name d.name).1 refl)) ∙ subst (λ (y : Decl). cond (bytes_eq y.name d.name) y.refined None ≡ None) (sym is) here
      | inr i ↦ none_as ds d i there
    ]

refinement_none : (name : List ℕ) (o : Option (List ℕ)) → refinement name o ≡ [] → o ≡ None
refinement_none name None h = refl
refinement_none name (Some chart) h = absurd cc

each_none : (ds : List Decl) (names : List (List ℕ)) → refinements_of ds names ≡ [] → (n : List ℕ) → IsAmong names n → refined_as ds n ≡ None
each_none ds [] h n i = absurd i
each_none ds (m ∷ names) h n i = elim i [
  | inl is ↦ subst (λ (x : List ℕ). refined_as ds x ≡ None) (sym is) (refinement_none m (refined_as ds m) (left_nil (refinement m (refined_as ds m)) (refinements_of ds names) h))
  | inr j ↦ each_none ds names (right_nil (refinement m (refined_as ds m)) (refinements_of ds names) h) n j
]

pub none_named : (ds : List Decl) (d : Decl) → refinements ds ≡ [] → IsAmong ds d → d.refined ≡ None
none_named ds d h i = none_as ds d i (each_none ds (declared [] ds) h d.name (is_declared ds [] d i))

pub end_unrefined : (ds : List Decl) (i : ℕ) → length ds ≤ i → Unrefined (drop i ds)
end_unrefined [] zero low = tt
end_unrefined [] (suc i) low = tt
end_unrefined (d ∷ ds) zero low = absurd (omega (arith, low))
end_unrefined (d ∷ ds) (suc i) low = end_unrefined ds i (omega (arith, low))

pub some_none : (o : Option (List ℕ)) → is_some o ≡ true → o ≡ None → ⊥
some_none None h e = absurd cc
some_none (Some x) h e = absurd cc
