-- Steps of the loop that makes the term of a row: exceptions one behind another are kept as a run.
use Rattle.std.specs.List.{slice_get}
use Rattle.std.specs.Prelude.{ℕ, zero, suc, ◌+◌, ◌<◌, ◌≤◌, Bool, true, false, List, [], ◌∷◌, ◌++◌, Some, drop, length}
use Rattle.std.proofs.Common.{◌≡◌, refl, sym, ◌∙◌, subst, ap, arith}
use Rattle.std.proofs.lemmas.List.{length_push}
use Rattle.msc_base.specs.Patterns.{seq}
use Rattle.chart_term.specs.NormalForms.{NetPermits}
use Rattle.chart_term.specs.Properties.{Each}
use Rattle.chart_term.specs.Terms.{Tree, Nil}
use Rattle.term_laws.specs.Normality.{IsNormal}
use Rattle.term_laws.proofs.Normalising.{join_normal}
use Rattle.term_laws.proofs.Opening.{each_app}
use Rattle.expansion_tree.specs.declared.tree.Expansion as rust_tree
use Rattle.expansion_tree.specs.Expansions.{is_exception}
use Rattle.expansion_tree.specs.Views.{expansion_view, expansions_view}
use Rattle.expansion_terms.specs.declared.runs.Run.{Run}
use Rattle.expansion_terms.specs.Constructors.{one_of, placed}
use Rattle.expansion_terms.specs.ExceptionRuns.{IsPlaced, run_term, turned}
use Rattle.expansion_terms.specs.MadeTerms.{in_row}
use Rattle.expansion_terms.specs.PartTerms.{AreNormal}
use Rattle.expansion_terms.proofs.Dropped.{drop_all, drop_less, none_left}
use Rattle.expansion_terms.proofs.Kept.{normal_kept}
use Rattle.expansion_terms.proofs.OneChoice.{choice_within}

-- ---- a run, from the last to the first

turned_push : (xs : List Tree) (x : Tree) → turned (xs ++ x ∷ []) ≡ x ∷ turned xs
turned_push [] x = refl
turned_push (y ∷ xs) x = ap (λ l. l ++ y ∷ []) (turned_push xs x)

turned_each : (P : Tree → Type 0) (xs : List Tree) → Each P xs → Each P (turned xs)
turned_each P [] h = tt
turned_each P (x ∷ xs) h = each_app P (turned xs) (x ∷ []) (turned_each P xs h.1) (h.0, tt)

some_parts : (xs : List Tree) (y : Tree) → 0 < length (xs ++ y ∷ [])
some_parts xs y = omega (arith, length_push xs y)

module _ (k : NetPermits) where
  run_each : (xs : List Tree) (y : Tree) → Each (IsNormal k) xs → IsNormal k y → Each (IsNormal k) (turned xs ++ y ∷ [])
  run_each xs y h i = each_app (IsNormal k) (turned xs) (y ∷ []) (turned_each (IsNormal k) xs h) (i, tt)

  run_normal : (xs : List Tree) (y : Tree) → Each (IsNormal k) xs → IsNormal k y → IsNormal k (run_term xs y)
  run_normal [] y h i = i
  run_normal (x ∷ xs) y h i = (normal_kept k).some (turned (x ∷ xs) ++ y ∷ []) (run_each (x ∷ xs) y h i)

  -- one exception more is put in front by one choice more
  run_more : (xs : List Tree) (x y : Tree) → Each (IsNormal k) xs → IsNormal k y → run_term (xs ++ x ∷ []) y ≡ one_of (x ∷ run_term xs y ∷ [])
  run_more [] x y h i = refl
  run_more (z ∷ xs) x y h i = ap (λ l. one_of (l ++ y ∷ [])) (turned_push (z ∷ xs) x) ∙ sym (choice_within k x (turned (z ∷ xs) ++ y ∷ []) (run_each (z ∷ xs) y h i) (some_parts (turned (z ∷ xs)) y))

  placed_term : (b : Bool) (front : Tree) (run made : Run) → IsPlaced b front run made → Each (IsNormal k) run.fronts → IsNormal k run.rest → run_term made.fronts made.rest ≡ placed b front (run_term run.fronts run.rest)
  placed_term true front run made e h i = ap (λ l. run_term l made.rest) e.fronts ∙ (ap (run_term (run.fronts ++ front ∷ [])) e.rest ∙ run_more run.fronts front run.rest h i)
  placed_term false front run made e h i = ap (λ l. run_term l made.rest) e.fronts ∙ e.rest

  placed_fronts : (b : Bool) (front : Tree) (run made : Run) → IsPlaced b front run made → IsNormal k front → Each (IsNormal k) run.fronts → Each (IsNormal k) made.fronts
  placed_fronts true front run made e f h = subst (λ (l : List Tree). Each (IsNormal k) l) (sym e.fronts) (each_app (IsNormal k) run.fronts (front ∷ []) h (f, tt))
  placed_fronts false front run made e f h = subst (λ (l : List Tree). Each (IsNormal k) l) (sym e.fronts) tt

  placed_rest : (b : Bool) (front : Tree) (run made : Run) → IsPlaced b front run made → IsNormal k front → Each (IsNormal k) run.fronts → IsNormal k run.rest → IsNormal k made.rest
  placed_rest true front run made e f h i = subst (λ (x : Tree). IsNormal k x) (sym e.rest) i
  placed_rest false front run made e f h i = subst (λ (x : Tree). IsNormal k x) (sym e.rest) (join_normal k seq (front ∷ run_term run.fronts run.rest ∷ []) (f, (run_normal run.fronts run.rest h i, tt)))

-- ---- rows

-- the run stands for the parts from the one of that number on; the terms are in normal form
pub record IsRunOf (parts : List rust_tree.Expansion) (terms : List Tree) (i : ℕ) (run : Run) : Type 0 where
  pub permits : NetPermits
  pub each : Each (IsNormal permits) terms
  pub term : run_term run.fronts run.rest ≡ in_row (expansions_view (drop i parts)) (drop i terms)
  pub fronts : Each (IsNormal permits) run.fronts
  pub rest : IsNormal permits run.rest

each_at : (P : Tree → Type 0) (xs : List Tree) (i : ℕ) (x : Tree) → slice_get xs i ≡ Some x → Each P xs → P x
each_at P [] i x e h = absurd cc
each_at P (y ∷ xs) zero x e h = let same : y ≡ x = cc in subst P same h.0
each_at P (y ∷ xs) (suc i) x e h = each_at P xs i x e h.1

pub row_none : (parts : List rust_tree.Expansion) (terms : List Tree) (run : Run) → AreNormal terms → run.fronts ≡ [] → run.rest ≡ Nil → IsRunOf parts terms (length parts) run
row_none parts terms run n e f = record {
  permits = n.permits;
  each = n.each;
  term = ap (λ (l : List Tree). run_term l run.rest) e ∙ (f ∙ ap (λ (xs : List rust_tree.Expansion). in_row (expansions_view xs) (drop (length parts) terms)) (sym (drop_all parts)));
  fronts = subst (λ (l : List Tree). Each (IsNormal n.permits) l) (sym e) tt;
  rest = subst (λ (x : Tree). IsNormal n.permits x) (sym f) tt;
}

pub row_step : (parts : List rust_tree.Expansion) (terms : List Tree) (i j : ℕ) (run made : Run) (part : rust_tree.Expansion) (front : Tree) (b : Bool) → slice_get parts i ≡ Some part → slice_get terms i ≡ Some front → j ≡ i + 1
    → b ≡ is_exception (expansion_view part) → IsRunOf parts terms j run → IsPlaced b front run made → IsRunOf parts terms i made
row_step parts terms i j run made part front b at term_at next is h e = record {
  permits = h.permits;
  each = h.each;
  term = placed_term h.permits b front run made e h.fronts h.rest
      ∙ (ap (λ c. placed c front (run_term run.fronts run.rest)) is
      ∙ (ap (λ y. placed (is_exception (expansion_view part)) front y) h.term
      ∙ sym (ap (λ (xs : List rust_tree.Expansion). in_row (expansions_view xs) (drop i terms)) (drop_less parts i j part at next) ∙ ap (λ (ys : List Tree). in_row (expansions_view (part ∷ drop j parts)) ys) (drop_less terms i j front term_at next))));
  fronts = placed_fronts h.permits b front run made e normal h.fronts;
  rest = placed_rest h.permits b front run made e normal h.fronts h.rest;
}
  where
    normal : IsNormal h.permits front
    normal = each_at (IsNormal h.permits) terms i front term_at h.each

pub row_whole : (parts : List rust_tree.Expansion) (terms : List Tree) (i : ℕ) (run : Run) (term : Tree) → i ≤ 0 → IsRunOf parts terms i run → term ≡ run_term run.fronts run.rest → term ≡ in_row (expansions_view parts) terms
row_whole parts terms i run term l h e = e ∙ (h.term ∙ ap (λ (n : ℕ). in_row (expansions_view (drop n parts)) (drop n terms)) (none_left i l))
