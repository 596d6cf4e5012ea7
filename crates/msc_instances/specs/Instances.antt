-- The instances of a basic chart, in the order in which they are first declared, and what breaks the rules on them.
use Rattle.std.specs.Prelude.{◌≡◌, ◌⊎◌, ℕ, List, [], ◌∷◌}
use Rattle.chart_text.specs.Texts.{Scope, Whole, Within}
use Rattle.msc_base.specs.declared.place.Place.{Place}
use Rattle.msc_base.specs.Lists.{IsAmong}
use Rattle.msc_base.specs.NameTables.{with_name}
use Rattle.msc_tree.specs.Charts.{Chart}
use Rattle.msc_instances.specs.Notes.{Note, Declared, Decomposed, Named, chart_notes}

-- the names, with those that the notes declare behind them, each once
abbrev pub with_declared : List (List ℕ) → List Note → List (List ℕ)
with_declared names [] = names
with_declared names (Declared name ∷ notes) = with_declared (with_name names name) notes
with_declared names (Decomposed name place ∷ notes) = with_declared names notes
with_declared names (Named name place scope ∷ notes) = with_declared names notes

-- the instances of a chart, in the order of declaration
abbrev pub instances : Chart → List (List ℕ)
instances chart = with_declared [] (chart_notes chart)

-- at that place an instance is decomposed a second time; the first ones are those that were before
abbrev pub DecomposesAgain : List (List ℕ) → List Note → Place → Type 0
DecomposesAgain before [] p = ⊥
DecomposesAgain before (Declared name ∷ notes) p = DecomposesAgain before notes p
DecomposesAgain before (Decomposed name place ∷ notes) p = ((place ≡ p) × IsAmong before name) ⊎ DecomposesAgain (with_name before name) notes p
DecomposesAgain before (Named name place scope ∷ notes) p = DecomposesAgain before notes p

-- the name may stand there: it is an instance, and in the scope
abbrev pub MayName : List (List ℕ) → Scope → List ℕ → Type 0
MayName names Whole name = IsAmong names name
MayName names (Within cover) name = IsAmong names name × IsAmong cover name

-- at that place a name stands that may not
abbrev pub NamesOther : List (List ℕ) → List Note → Place → Type 0
NamesOther names [] p = ⊥
NamesOther names (Declared name ∷ notes) p = NamesOther names notes p
NamesOther names (Decomposed name place ∷ notes) p = NamesOther names notes p
NamesOther names (Named name place scope ∷ notes) p = ((place ≡ p) × (MayName names scope name → ⊥)) ⊎ NamesOther names notes p
