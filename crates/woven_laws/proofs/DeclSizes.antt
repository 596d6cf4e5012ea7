-- What the charts that refine instances count by the declarations, and each instance once.
use Rattle.std.proofs.Common.{◌≡◌, ◌≤◌, ◌+◌, inl, inr, ℕ, Bool, true, false, cond, List, [], ◌∷◌, ◌++◌, Option, Some, None, refl, subst, arith}
use Rattle.std.specs.Option.{option_or}
use Rattle.std.specs.Str.{bytes_eq}
use Rattle.std.proofs.lemmas.Slice.Eq.{bytes_eq-Decides}
use Rattle.list_facts.proofs.Tables.{different_with_name}
use Rattle.msc_base.specs.Lists.{AreDifferent, IsAmong}
use Rattle.msc_base.specs.NameTables.{with_name}
use Rattle.msc_meaning.specs.Tables.{Refinement, declared, refined_as, refinement, refinements, refinements_of}
use Rattle.msc_tree.specs.declared.chart.Decl.{Decl}
use Rattle.woven_laws.specs.BuiltCharts.{refinements_size}

declared_differ : (ds : List Decl) (names : List (List ℕ)) → AreDifferent names → AreDifferent (declared names ds)
declared_differ [] names apart = apart
declared_differ (d ∷ ds) names apart = declared_differ ds (with_name names d.name) (different_with_name names d.name apart)

module _ (refining : List ℕ → ℕ) where
  abbrev pub option_size : Option (List ℕ) → ℕ
  option_size None = 0
  option_size (Some chart) = refining chart

  abbrev pub decls_size : List Decl → ℕ
  decls_size [] = 0
  decls_size (d ∷ ds) = option_size d.refined + decls_size ds

  pub decls_on : (xs ys : List Decl) → decls_size (xs ++ ys) ≡ decls_size xs + decls_size ys
  decls_on [] ys = omega arith
  decls_on (x ∷ xs) ys = omega (arith, decls_on xs ys)

  size_on : (xs ys : List Refinement) → refinements_size refining (xs ++ ys) ≡ refinements_size refining xs + refinements_size refining ys
  size_on [] ys = omega arith
  size_on (x ∷ xs) ys = omega (arith, size_on xs ys)

  of_one : (n : List ℕ) (o : Option (List ℕ)) → refinements_size refining (refinement n o) ≡ option_size o
  of_one n None = refl
  of_one n (Some chart) = omega arith

  abbrev names_size : List Decl → List (List ℕ) → ℕ
  names_size ds names = refinements_size refining (refinements_of ds names)

  first_and : (ds : List Decl) (n : List ℕ) (names : List (List ℕ)) → names_size ds (n ∷ names) ≡ option_size (refined_as ds n) + names_size ds names
  first_and ds n names = let on = size_on (refinement n (refined_as ds n)) (refinements_of ds names) in let one = of_one n (refined_as ds n) in omega (arith, on, one)

  none_size : (names : List (List ℕ)) → names_size [] names ≡ 0
  none_size [] = refl
  none_size (n ∷ names) = omega (arith, first_and [] n names, none_size names)

  passed_size : (b : Bool) (o later : Option (List ℕ)) → b ≡ false → option_size (option_or (cond b o None) later) ≡ option_size later
  passed_size true o later e = absurd cc
  passed_size false o later e = refl

  taken_size : (b : Bool) (o later : Option (List ℕ)) → option_size (option_or (cond b o None) later) ≤ option_size o + option_size later
  taken_size true None later = omega arith
  taken_size true (Some chart) later = omega arith
  taken_size false o later = omega arith

  -- names among which the declaration's isn't
  others_size : (d : Decl) (ds : List Decl) (names : List (List ℕ)) → (IsAmong names d.name → ⊥) → names_size (d ∷ ds) names ≡ names_size ds names
  others_size d ds [] none = refl
  others_size d ds (n ∷ names) none =
      let other : bytes_eq d.name n ≡ false = by (bytes_eq d.name n) refl in
      omega (arith, first_and (d ∷ ds) n names, first_and ds n names, passed_size (bytes_eq d.name n) d.refined (refined_as ds n) other, others_size d ds names (λ h. none (inr h)))
    where
      by : (b : Bool) → bytes_eq d.name n ≡ b → b ≡ false
      by true e = absurd (none (inl ((bytes_eq-Decides d.name n).0 e)))
      by false e = refl

  one_more : (d : Decl) (ds : List Decl) (names : List (List ℕ)) → AreDifferent names → names_size (d ∷ ds) names ≤ option_size d.refined + names_size ds names
  one_more d ds [] apart = omega arith
  one_more d ds (n ∷ names) apart = by (bytes_eq d.name n) refl (one_more d ds names apart.1)
    where
      by : (b : Bool) → bytes_eq d.name n ≡ b → names_size (d ∷ ds) names ≤ option_size d.refined + names_size ds names → names_size (d ∷ ds) (n ∷ names) ≤ option_size d.refined + names_size ds (n ∷ names)
      by true e rest =
          let same : d.name ≡ n = (bytes_eq-Decides d.name n).0 e in
          omega (arith, first_and (d ∷ ds) n names, first_and ds n names, taken_size (bytes_eq d.name n) d.refined (refined_as ds n), others_size d ds names (λ h. apart.0 (subst (IsAmong names) same h)))
      by false e rest = omega (arith, first_and (d ∷ ds) n names, first_and ds n names, passed_size (bytes_eq d.name n) d.refined (refined_as ds n) e, rest)

  names_within : (ds : List Decl) (names : List (List ℕ)) → AreDifferent names → names_size ds names ≤ decls_size ds
  names_within [] names apart = omega (arith, none_size names)
  names_within (d ∷ ds) names apart = omega (arith, one_more d ds names apart, names_within ds names apart)

  pub refinements_within : (ds : List Decl) → refinements_size refining (refinements ds) ≤ decls_size ds
  refinements_within ds = names_within ds (declared [] ds) (declared_differ ds [] tt)
