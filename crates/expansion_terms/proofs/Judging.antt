-- What is no walk is judged as it is made.
use Rattle.std.specs.Prelude.{ℕ}
use Rattle.std.proofs.Common.{◌≡◌, ◌∙◌, refl, sym, subst}
use Rattle.hmsc_graph.specs.declared.shape.Shape.{Shape}
use Rattle.chart_term.specs.Tables.{Tables}
use Rattle.expansion_tree.specs.Numbered as numbered
use Rattle.expansion_tree.specs.Views.{expansion_step, expansion_view}
use Rattle.expansion_tree.specs.declared.tree.Expansion as rust_tree
use Rattle.expansion_tree.specs.declared.tree.Expansion.{fold-roll-Expansion, out-Expansion, roll-Expansion, roll-out-Expansion}
use Rattle.expansion_tree.specs.declared.tree.Expansion.TheVariants as tree
use Rattle.expansion_tree.specs.declared.tree.Expansion.TheOpen.{Expansion-F}
use Rattle.expansion_terms.specs.MadeTerms.{judged, made}

module _ (t : Tables) where
  abbrev IsJudgedAsMade : numbered.Expansion → Type 0
  IsJudgedAsMade x = judged t x ≡ made t x

  abbrev view_of : (o : Expansion-F rust_tree.Expansion) → numbered.Expansion
  view_of o = expansion_view (roll-Expansion o)

  by_layer : (o : Expansion-F rust_tree.Expansion) → ((n : ℕ) (g : Shape) (parts : _) → roll-Expansion o ≡ tree.Walk n g parts → ⊥) → IsJudgedAsMade (view_of o)
  by_layer (Expansion-F.Event e) h = subst IsJudgedAsMade (sym (fold-roll-Expansion numbered.Expansion expansion_step (Expansion-F.Event e))) refl
  by_layer (Expansion-F.InRow parts) h = subst IsJudgedAsMade (sym (fold-roll-Expansion numbered.Expansion expansion_step (Expansion-F.InRow parts))) refl
  by_layer (Expansion-F.Aside parts) h = subst IsJudgedAsMade (sym (fold-roll-Expansion numbered.Expansion expansion_step (Expansion-F.Aside parts))) refl
  by_layer (Expansion-F.OneOf parts) h = subst IsJudgedAsMade (sym (fold-roll-Expansion numbered.Expansion expansion_step (Expansion-F.OneOf parts))) refl
  by_layer (Expansion-F.Exception part) h = subst IsJudgedAsMade (sym (fold-roll-Expansion numbered.Expansion expansion_step (Expansion-F.Exception part))) refl
  by_layer (Expansion-F.Turns n lower upper part) h = subst IsJudgedAsMade (sym (fold-roll-Expansion numbered.Expansion expansion_step (Expansion-F.Turns n lower upper part))) refl
  by_layer (Expansion-F.Tied part pairs) h = subst IsJudgedAsMade (sym (fold-roll-Expansion numbered.Expansion expansion_step (Expansion-F.Tied part pairs))) refl
  by_layer (Expansion-F.Walk n g parts) h = absurd (h n g parts (tree.rolls-Walk n g parts))

  pub judged_as_made : (e : rust_tree.Expansion) → ((n : ℕ) (g : Shape) (parts : _) → e ≡ tree.Walk n g parts → ⊥) → IsJudgedAsMade (expansion_view e)
  judged_as_made e h = subst (λ (f : rust_tree.Expansion). IsJudgedAsMade (expansion_view f)) (roll-out-Expansion e) (by_layer (out-Expansion e) (λ n g parts q. h n g parts (sym (roll-out-Expansion e) ∙ q)))
