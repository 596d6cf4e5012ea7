-- Parts of a chart's expansion that are operands of its choices: their terms can be made and judged, and tell at which instances the
-- operands may begin.
use Rattle.std.specs.Prelude.{◌≡◌, ℕ, List, [], ◌∷◌, length}
use Rattle.msc_base.specs.declared.label.Label.{Label}
use Rattle.chart_term.specs.Tables.{Tables}
use Rattle.chart_term.specs.TermPatterns.{Both}
use Rattle.term_laws.specs.FullSoundness.{AreSoundNets}
use Rattle.term_laws.specs.Placing.{AreNetsPlaced}
use Rattle.term_tables.specs.NetValues.{NetsValue}
use Rattle.msc_meaning.specs.Tables.{Table}
use Rattle.expansion_tree.specs.Expansions.{events_in}
use Rattle.expansion_tree.specs.Numbered.{Expansion}
use Rattle.expansion_terms.specs.MadeTerms.{HasWholeGraphs, made}
use Rattle.expansion_terms.specs.Stored.{AreStored}
use Rattle.expanded_terms.specs.PlacedTerms.{places}
use Rattle.trace_judge.specs.Sets.{GoesOnWith, IsSoundFor}
use Rattle.choice_meaning.specs.Choices.{Choice, Operand}
use Rattle.choice_meaning.specs.FirstInstances.{BeginsAt}
use Rattle.choice_parts.specs.ChoiceParts.{ChoiceParts}

abbrev pub tables_with : List Label → Tables → NetsValue
tables_with labels t = record { labels = labels; tables = t }

-- names: those of the instances, labels: those of the events, by the numbers that both have in an expansion
module _ (names : List (List ℕ)) (labels : List Label) where
  -- the nets are sound, and their events stand where their labels say
  pub record AreFitTables (t : Tables) : Type 0 where
    pub sound : AreSoundNets (length labels) t
    pub placed : AreNetsPlaced (places names labels) t

  -- something is left of the term that is made of the part over these tables, after an event with a label of that instance
  pub record GoesOnAt (t : Tables) (y : Expansion) (i : List ℕ) : Type 0 where
    pub label : Label
    pub left : GoesOnWith (tables_with labels (made t y).tables) label ((made t y).term ∷ [])
    pub at : label.at ≡ i

  -- over fit tables the term of the part can be made, and is sound with its nets
  pub record IsJudgedPart (y : Expansion) : Type 0 where
    pub stored : AreStored (events_in y)
    pub whole : HasWholeGraphs y
    pub nets : (t : Tables) → AreFitTables t → AreFitTables (made t y).tables
    pub term : (t : Tables) → AreFitTables t → IsSoundFor (tables_with labels (made t y).tables) (made t y).term

  -- and it tells where the operand may begin
  pub record IsOperandPart (table : Table) (o : Operand) (y : Expansion) : Type 0 where
    pub judged : IsJudgedPart y
    pub begins : (t : Tables) → AreFitTables t → (i : List ℕ) → Both (BeginsAt table o i) (GoesOnAt t y i)

  -- operand by operand
  pub data AreOperandParts (table : Table) : List Operand → List Expansion → Type 0 where
    no_operand : AreOperandParts table [] []
    operand_and : {o : Operand} {y : Expansion} {os : List Operand} {ys : List Expansion} → IsOperandPart table o y → AreOperandParts table os ys → AreOperandParts table (o ∷ os) (y ∷ ys)

  -- choice by choice
  pub data AreChoiceParts (table : Table) : List Choice → List ChoiceParts → Type 0 where
    no_choice : AreChoiceParts table [] []
    choice_and : {c : Choice} {p : ChoiceParts} {cs : List Choice} {ps : List ChoiceParts} → c.place ≡ p.place → AreOperandParts table c.operands p.operands → AreChoiceParts table cs ps
        → AreChoiceParts table (c ∷ cs) (p ∷ ps)
