-- Each decomposed instance has one refining chart.
use Rattle.std.specs.Prelude.{Bool, true, false, ◌||◌, ℕ, List, [], ◌∷◌, ◌++◌, Option, None, Some}
use Rattle.std.specs.List.{list_any}
use Rattle.std.specs.Str.{bytes_eq}
use Rattle.std.proofs.Common.{◌≡◌, refl, sym, inl, inr}
use Rattle.std.proofs.lemmas.Slice.Eq.{bytes_eq-Decides}
use Rattle.msc_base.specs.Lists.{AreDifferent, IsAmong}
use Rattle.msc_base.specs.NameTables.{with_name}
use Rattle.msc_tree.specs.declared.chart.Decl.{Decl}
use Rattle.msc_meaning.specs.Tables.{declared, refined_as, Refinement, refinement, refinements, refinements_of}
use Rattle.list_facts.proofs.Tables.{different_with_name}

-- no instance stands twice
abbrev pub DecomposeOnce : List Refinement → Type 0
DecomposeOnce [] = Unit {0}
DecomposeOnce (r ∷ rs) = (list_any (λ (q : Refinement). bytes_eq q.instance r.instance) rs ≡ false) × DecomposeOnce rs

different_declared : (names : List (List ℕ)) (ds : List Decl) → AreDifferent names → AreDifferent (declared names ds)
different_declared names [] d = d
different_declared names (x ∷ ds) d = different_declared (with_name names x.name) ds (different_with_name names x.name d)

module _ (decls : List Decl) where
  other_name : (w n : List ℕ) (rest : Bool) → (n ≡ w → ⊥) → rest ≡ false → (bytes_eq w n || rest) ≡ false
  other_name w n rest differ e = by (bytes_eq w n) refl
    where
      by : (b : Bool) → bytes_eq w n ≡ b → (b || rest) ≡ false
      by true q = absurd (differ (sym ((bytes_eq-Decides w n).0 q)))
      by false q = e

  none_of : (names : List (List ℕ)) (n : List ℕ) → (IsAmong names n → ⊥) → list_any (λ (q : Refinement). bytes_eq q.instance n) (refinements_of decls names) ≡ false
  none_of [] n apart = refl
  none_of (w ∷ names) n apart = by (refined_as decls w) (none_of names n (λ i. apart (inr i)))
    where
      by : (o : Option (List ℕ)) → list_any (λ (q : Refinement). bytes_eq q.instance n) (refinements_of decls names) ≡ false → list_any (λ (q : Refinement). bytes_eq q.instance n) (refinement w o ++ refinements_of decls names) ≡ false
      by None e = e
      by (Some chart) e = other_name w n (list_any (λ (q : Refinement). bytes_eq q.instance n) (refinements_of decls names)) (λ q. apart (inl q)) e

  once_of : (names : List (List ℕ)) → AreDifferent names → DecomposeOnce (refinements_of decls names)
  once_of [] d = tt
  once_of (w ∷ names) (apart, d) = by (refined_as decls w) (once_of names d)
    where
      by : (o : Option (List ℕ)) → DecomposeOnce (refinements_of decls names) → DecomposeOnce (refinement w o ++ refinements_of decls names)
      by None o = o
      by (Some chart) o = (none_of names w apart, o)

pub decompose_once : (decls : List Decl) → DecomposeOnce (refinements decls)
decompose_once decls = once_of decls (declared [] decls) (different_declared [] decls tt)
