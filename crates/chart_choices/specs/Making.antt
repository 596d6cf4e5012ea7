-- Serves private contracts alone.
-- How the choices of parts of an expansion are found one after another: what each adds to the tables, to the instances and to the list.
use Rattle.std.specs.Prelude.{◌≡◌, ◌<◌, ◌≤◌, ◌⊎◌, ℕ, Bool, false, List, [], ◌∷◌, ◌++◌, Some, length}
use Rattle.std.specs.Cmp.Lexicographic.{slice_cmp}
use Rattle.std.specs.List.Sorted.{IsStrictlySortedBy}
use Rattle.std.specs.Ordering.{nat_cmp}
use Rattle.msc_base.specs.declared.label.Label.{Label}
use Rattle.msc_base.specs.declared.place.Place.{Place}
use Rattle.msc_base.specs.Lists.{IsAmong}
use Rattle.chart_term.specs.Tables.{Tables}
use Rattle.chart_term.specs.TermPatterns.{Both}
use Rattle.term_permission.specs.Ready.{AreReadyTables}
use Rattle.msc_tree.specs.declared.chart.Decl.{Decl}
use Rattle.msc_meaning.specs.Bodies.{Body, WovenItem, Single, Coregion, Inline, Refer}
use Rattle.msc_meaning.specs.Refinements.{is_decomposed}
use Rattle.msc_meaning.specs.Tables.{Basic, ChartEntry, Refinement, Table, chart_at}
use Rattle.expansion_tree.specs.Numbered.{Expansion}
use Rattle.choice_parts.specs.ChoiceParts.{ChoiceParts}
use Rattle.choice_terms.specs.JudgedParts.{AreFitTables, GoesOnAt, IsJudgedPart}
use Rattle.chart_choices.specs.declared.choice.Choice.{Choice}
use Rattle.chart_choices.specs.declared.tables.TermTables.{TermTables}

-- whether the item is an event of a decomposed instance
abbrev pub is_left : List Refinement → WovenItem → Bool
is_left rs (Single n) = is_decomposed rs n
is_left rs (Coregion ns) = false
is_left rs (Inline form part operands) = false
is_left rs (Refer part) = false

-- the chart of that name has that body, with these declarations
pub record IsBasicChart (table : Table) (name : List ℕ) (ds : List Decl) (held : Body) : Type 0 where
  pub chart : ChartEntry
  pub is : chart_at table name ≡ Some chart
  pub decls : chart.decls ≡ ds
  pub content : chart.content ≡ Basic held

-- ---- tables

-- terms of judged parts can be made over them
pub record AreReady (s : TermTables) : Type 0 where
  pub fit : AreFitTables s.names s.nets.labels s.nets.tables
  pub ready : AreReadyTables s.nets.tables

-- nets may have been appended
pub record IsKept (old new : TermTables) : Type 0 where
  pub names : new.names ≡ old.names
  pub labels : new.nets.labels ≡ old.nets.labels
  pub ready : AreReady new

-- ---- instances, in the order of their names

abbrev pub AreRising : List (List ℕ) → Type 0
AreRising is = IsStrictlySortedBy (slice_cmp nat_cmp) is

pub record IsAdded (i : List ℕ) (old new : List (List ℕ)) : Type 0 where
  pub rising : AreRising new
  pub exact : (j : List ℕ) → Both (IsAmong new j) (IsAmong old j ⊎ (j ≡ i))

-- one of the labels is that of an event at the instance
pub record HasLabelAt (labels : List Label) (i : List ℕ) : Type 0 where
  pub label : Label
  pub among : IsAmong labels label
  pub at : label.at ≡ i

pub record HaveAdded (labels : List Label) (old new : List (List ℕ)) : Type 0 where
  pub rising : AreRising new
  pub exact : (i : List ℕ) → Both (IsAmong new i) (IsAmong old i ⊎ HasLabelAt labels i)

-- ---- what was found, by the names of the instances and the labels

module _ (names : List (List ℕ)) (labels : List Label) where
  abbrev pub EachJudged : List Expansion → Type 0
  EachJudged [] = Unit {0}
  EachJudged (y ∷ ys) = IsJudgedPart names labels y × EachJudged ys

  abbrev pub AreJudged : List ChoiceParts → Type 0
  AreJudged [] = Unit {0}
  AreJudged (p ∷ ps) = EachJudged p.operands × AreJudged ps

  -- the instances with labels of which the term of the part goes on, over some fit tables
  pub record PartAdds (y : Expansion) (old new : List (List ℕ)) : Type 0 where
    pub tables : Tables
    pub fit : AreFitTables names labels tables
    pub exact : (i : List ℕ) → Both (IsAmong new i) (IsAmong old i ⊎ GoesOnAt names labels tables y i)

  -- those of one part after another
  pub data PartsAdd : List Expansion → List (List ℕ) → List (List ℕ) → Type 0 where
    no_part : {is : List (List ℕ)} → PartsAdd [] is is
    part_then : {y : Expansion} {ys : List Expansion} {a b c : List (List ℕ)} → PartAdds y a b → PartsAdd ys b c → PartsAdd (y ∷ ys) a c

  -- the instances are those of these parts
  pub record AreInstancesOf (ys : List Expansion) (is : List (List ℕ)) : Type 0 where
    pub rising : AreRising is
    pub parts : PartsAdd ys [] is

  -- of these choices those that several instances make
  pub data AreFound : List ChoiceParts → List Choice → Type 0 where
    none_found : AreFound [] []
    several_found : {p : ChoiceParts} {ps : List ChoiceParts} {is : List (List ℕ)} {cs : List Choice} → AreInstancesOf p.operands is → 1 < length is → AreFound ps cs → AreFound (p ∷ ps) (record { place = p.place; instances = is } ∷ cs)
    one_found : {p : ChoiceParts} {ps : List ChoiceParts} {is : List (List ℕ)} {cs : List Choice} → AreInstancesOf p.operands is → length is ≤ 1 → AreFound ps cs → AreFound (p ∷ ps) cs

  -- they were appended
  pub record AddsFound (ps : List ChoiceParts) (old new : List Choice) : Type 0 where
    pub more : List Choice
    pub are : AreFound ps more
    pub is : new ≡ old ++ more

-- ---- steps of the walk

-- of parts of a choice
pub record AddsMakers (old new : TermTables) (ys : List Expansion) (a b : List (List ℕ)) : Type 0 where
  pub kept : IsKept old new
  pub rising : AreRising b
  pub parts : PartsAdd old.names old.nets.labels ys a b

-- of one choice
pub record IsPushed (place : Place) (is : List (List ℕ)) (old new : List Choice) : Type 0 where
  pub several : 1 < length is → new ≡ old ++ record { place = place; instances = is } ∷ []
  pub one : length is ≤ 1 → new ≡ old

-- of choices
pub record IsWalked (old new : TermTables) (ps : List ChoiceParts) (a b : List Choice) : Type 0 where
  pub kept : IsKept old new
  pub found : AddsFound old.names old.nets.labels ps a b
