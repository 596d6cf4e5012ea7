-- Two edges in a list, inside their bounds; and the last of the charts of a document.
use Rattle.std.proofs.Common.{◌≡◌, ◌<◌, ℕ, List, [], ◌∷◌, ◌++◌, All, IfSome, Option, Some, None, arith, map, subst}
use Rattle.std.specs.Prelude.{option_to_list}
use Rattle.std.proofs.lemmas.List.Elements.{All-cons}
use Rattle.column_order.specs.declared.edge.Edge.{Edge}
use Rattle.column_order.specs.Counts.{Inside}
use Rattle.chart_text.specs.WellFormed.{AreAllWellFormed, IsWellFormed}
use Rattle.msc_tree.specs.declared.chart.RawChart.{RawChart}
use Rattle.msc_tree.specs.Views.{chart_view}

pub two_inside : (n : ℕ) (a b : Edge) → (a.from < n) × (a.to < n) → (b.from < n) × (b.to < n) → All (Inside n) (a ∷ b ∷ [])
two_inside n a b x y = All-cons (Inside n) a (b ∷ []) x (All-cons (Inside n) b [] y (λ k d lt. absurd (omega arith)))

pub two_below : (n : ℕ) (a b : Edge) → a.from < n → b.from < n → All (λ (e : Edge). e.from < n) (a ∷ b ∷ [])
two_below n a b x y = All-cons (λ (e : Edge). e.from < n) a (b ∷ []) x (All-cons (λ (e : Edge). e.from < n) b [] y (λ k d lt. absurd (omega arith)))

-- the last of well-formed charts is well formed
pub last_formed : (charts rest : List RawChart) (taken : Option RawChart) → charts ≡ rest ++ option_to_list taken → AreAllWellFormed (map chart_view charts) → IfSome taken (λ c. IsWellFormed (chart_view c))
last_formed charts rest None is h = tt
last_formed charts rest (Some c) is h = by rest (subst (λ (l : List RawChart). AreAllWellFormed (map chart_view l)) is h)
  where
    by : (xs : List RawChart) → AreAllWellFormed (map chart_view (xs ++ c ∷ [])) → IsWellFormed (chart_view c)
    by [] g = g.0
    by (x ∷ xs) g = by xs g.1
