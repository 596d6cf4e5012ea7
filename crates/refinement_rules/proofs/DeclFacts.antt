-- Declarations: which say that an instance is decomposed, and by which chart.
use Rattle.std.proofs.Common.{◌≡◌, ◌↔◌, ◌⊎◌, inl, inr, ℕ, Bool, true, false, cond, ◌||◌, List, [], ◌∷◌, ◌++◌, Option, Some, None, refl, sym, ap, ap₂, subst, ◌∙◌}
use Rattle.std.proofs.lemmas.Bool.{true≢false, or_left, or_right, or_cases}
use Rattle.std.proofs.lemmas.Slice.Eq.{bytes_eq-Decides}
use Rattle.std.specs.Option.{is_some, option_or}
use Rattle.std.specs.Str.{bytes_eq}
use Rattle.list_facts.proofs.Tables.{among_with_name}
use Rattle.msc_base.specs.Lists.{IsAmong}
use Rattle.msc_base.specs.NameTables.{with_name}
use Rattle.msc_meaning.specs.Tables.{Refinement, declared, refined_as, refinement, refinements, refinements_of}
use Rattle.msc_tree.specs.declared.chart.Decl.{Decl}
use Rattle.refinement_rules.specs.Judging.{Decomposes, OfRefining, some_refined}
use Rattle.refinement_rules.specs.Walks.{OneHolds}

some_none : {A : Type 0} (x : A) → Some x ≡ None → ⊥
some_none x e = cc

-- ---- an instance that is refined

-- by its declaration or a later one
or_found : (mine behind : Option (List ℕ)) (chart : List ℕ) → option_or mine behind ≡ Some chart → (mine ≡ Some chart) ⊎ (behind ≡ Some chart)
or_found None behind chart h = inr h
or_found (Some c) behind chart h = inl h

or_first : (mine behind : Option (List ℕ)) (chart : List ℕ) → mine ≡ Some chart → option_or mine behind ≡ Some chart
or_first mine behind chart e = ap (λ (o : Option (List ℕ)). option_or o behind) e

or_later : (mine behind : Option (List ℕ)) (chart : List ℕ) → behind ≡ Some chart → (c : List ℕ) × (option_or mine behind ≡ Some c)
or_later None behind chart e = (chart, e)
or_later (Some c) behind chart e = (c, refl)

refined_if : (b : Bool) (o : Option (List ℕ)) (chart : List ℕ) → cond b o None ≡ Some chart → (b ≡ true) × (o ≡ Some chart)
refined_if true o chart h = (refl, h)
refined_if false o chart h = absurd (some_none chart (sym h))

refining_some : (o : Option (List ℕ)) (chart : List ℕ) → o ≡ Some chart → OfRefining (λ c. Unit {0}) o
refining_some None chart e = absurd (some_none chart (sym e))
refining_some (Some c) chart e = tt

refined_found : (decls : List Decl) (name chart : List ℕ) → refined_as decls name ≡ Some chart → OneHolds Decomposes decls name
refined_found [] name chart h = absurd (some_none chart (sym h))
refined_found (d ∷ ds) name chart h = elim (or_found (cond (bytes_eq d.name name) d.refined None) (refined_as ds name) chart h) [
  | inl mine ↦ let p = refined_if (bytes_eq d.name name) d.refined chart mine in inl (refining_some d.refined chart p.1, (bytes_eq-Decides d.name name).0 p.0)
  | inr behind ↦ inr (refined_found ds name chart behind)
]

refining_of : (o : Option (List ℕ)) → OfRefining (λ c. Unit {0}) o → (chart : List ℕ) × (o ≡ Some chart)
refining_of None h = absurd h
refining_of (Some chart) h = (chart, refl)

refined_there : (decls : List Decl) (name : List ℕ) → OneHolds Decomposes decls name → (chart : List ℕ) × (refined_as decls name ≡ Some chart)
refined_there [] name h = absurd h
refined_there (d ∷ ds) name (inl h) =
    let r = refining_of d.refined h.0 in
    let same : bytes_eq d.name name ≡ true = (bytes_eq-Decides d.name name).1 h.1 in
    (r.0, or_first (cond (bytes_eq d.name name) d.refined None) (refined_as ds name) r.0 (ap (λ b. cond b d.refined None) same ∙ r.1))
refined_there (d ∷ ds) name (inr h) = let r = refined_there ds name h in or_later (cond (bytes_eq d.name name) d.refined None) (refined_as ds name) r.0 r.1

-- none is
pub unrefined_of : (decls : List Decl) (name : List ℕ) → (OneHolds Decomposes decls name → ⊥) → refined_as decls name ≡ None
unrefined_of decls name none = by (refined_as decls name) refl
  where
    by : (o : Option (List ℕ)) → refined_as decls name ≡ o → refined_as decls name ≡ None
    by None e = e
    by (Some chart) e = absurd (none (refined_found decls name chart e))

pub of_unrefined : (decls : List Decl) (name : List ℕ) → refined_as decls name ≡ None → OneHolds Decomposes decls name → ⊥
of_unrefined decls name none h = let r = refined_there decls name h in some_none r.0 (sym r.1 ∙ none)

-- ---- whether some instance is

pub none_decomposed : (decls : List Decl) (name : List ℕ) → some_refined decls ≡ false → OneHolds Decomposes decls name → ⊥
none_decomposed [] name none h = h
none_decomposed (d ∷ ds) name none (inl h) = let r = refining_of d.refined h.0 in true≢false (sym (or_left (is_some d.refined) (some_refined ds) (ap is_some r.1)) ∙ none)
none_decomposed (d ∷ ds) name none (inr h) = none_decomposed ds name (behind (is_some d.refined) (some_refined ds) none) h
  where
    behind : (a b : Bool) → (a || b) ≡ false → b ≡ false
    behind true b e = absurd (true≢false e)
    behind false b e = e

left_nil : {A : Type 0} (xs ys : List A) → xs ++ ys ≡ [] → (xs ≡ []) × (ys ≡ [])
left_nil [] ys e = (refl, e)
left_nil (x ∷ xs) ys e = absurd (cc)

no_refinements : (decls : List Decl) (names : List (List ℕ)) → some_refined decls ≡ false → refinements_of decls names ≡ []
no_refinements decls [] none = refl
no_refinements decls (n ∷ ns) none = ap₂ (λ a b. a ++ b) (ap (refinement n) (unrefined_of decls n (none_decomposed decls n none))) (no_refinements decls ns none)

pub refinements_some : (decls : List Decl) → (refinements decls ≡ [] → ⊥) → some_refined decls ≡ true
refinements_some decls some = by (some_refined decls) refl
  where
    by : (b : Bool) → some_refined decls ≡ b → some_refined decls ≡ true
    by true e = e
    by false e = absurd (some (no_refinements decls (declared [] decls) e))

declared_kept : (names : List (List ℕ)) (decls : List Decl) (n : List ℕ) → IsAmong names n → IsAmong (declared names decls) n
declared_kept names [] n m = m
declared_kept names (d ∷ ds) n m = declared_kept (with_name names d.name) ds n ((among_with_name names d.name n).1 (inr m))

declared_has : (names : List (List ℕ)) (decls : List Decl) (name : List ℕ) → OneHolds Decomposes decls name → IsAmong (declared names decls) name
declared_has names [] name h = absurd h
declared_has names (d ∷ ds) name (inl h) = declared_kept (with_name names d.name) ds name ((among_with_name names d.name name).1 (inl (sym h.1)))
declared_has names (d ∷ ds) name (inr h) = declared_has (with_name names d.name) ds name h

refinement_there : (name : List ℕ) (o : Option (List ℕ)) (chart : List ℕ) → o ≡ Some chart → refinement name o ≡ [] → ⊥
refinement_there name None chart e h = some_none chart (sym e)
refinement_there name (Some c) chart e h = cc

refinements_there : (decls : List Decl) (names : List (List ℕ)) (name chart : List ℕ) → IsAmong names name → refined_as decls name ≡ Some chart → refinements_of decls names ≡ [] → ⊥
refinements_there decls [] name chart m e h = m
refinements_there decls (n ∷ ns) name chart (inl is) e h =
    refinement_there n (refined_as decls n) chart (subst (λ (x : List ℕ). refined_as decls x ≡ Some chart) is e) (left_nil (refinement n (refined_as decls n)) (refinements_of decls ns) h).0
refinements_there decls (n ∷ ns) name chart (inr m) e h = refinements_there decls ns name chart m e (left_nil (refinement n (refined_as decls n)) (refinements_of decls ns) h).1

some_one : (decls : List Decl) → some_refined decls ≡ true → (name : List ℕ) × OneHolds Decomposes decls name
some_one [] h = absurd (true≢false (sym h))
some_one (d ∷ ds) h = elim (or_cases (is_some d.refined) (some_refined ds) h) [
  | inl here ↦ (d.name, inl (by d.refined here, refl))
  | inr there ↦ let r = some_one ds there in (r.0, inr r.1)
]
  where
    by : (o : Option (List ℕ)) → is_some o ≡ true → OfRefining (λ c. Unit {0}) o
    by None e = absurd (true≢false (sym e))
    by (Some c) e = tt

pub some_refinements : (decls : List Decl) → some_refined decls ≡ true → refinements decls ≡ [] → ⊥
some_refinements decls h none =
    let one = some_one decls h in
    let r = refined_there decls one.0 one.1 in
    refinements_there decls (declared [] decls) one.0 r.0 (declared_has [] decls one.0 one.1) r.1 none
