-- Serves private contracts alone.
-- The earliest places of all rules, and what is known of the charts by which they are told.
use Rattle.std.specs.Prelude.{◌↔◌, ◌⊎◌, ℕ, List, Option}
use Rattle.chart_links.specs.Sets.{MeetsExpanded}
use Rattle.gate_ends.specs.LevelGates.{HasNames}
use Rattle.msc_base.specs.Lists.{IsAmong}
use Rattle.msc_base.specs.Places.{IsLeast}
use Rattle.msc_base.specs.declared.place.Place.{Place}
use Rattle.msc_meaning.specs.Bodies.{Body}
use Rattle.msc_meaning.specs.Tables.{ChartEntry}
use Rattle.msc_meaning.specs.Views.{entry_view, table_view}
use Rattle.msc_meaning.specs.declared.body.ChartEntry as code
use Rattle.msc_tree.specs.declared.chart.Decl.{Decl}
use Rattle.refinement_rules.specs.Judging.{BodyBreaks, EntryBreaks, EntryInside}
use Rattle.refinement_rules.specs.Walks.{OneHolds, SoFarOr}
use Rattle.refinement_rules.specs.declared.faults.RefinementPlaces.{RefinementPlaces}
use Rattle.refinement_rules.specs.declared.faults.RefinementRule.{RefinementRule}
use Rattle.refinement_rules.specs.declared.faults.RefinementRule.TheVariants as rule
use Rattle.refinement_rules.specs.declared.judging.Known.{Known}

-- the earliest place of the rule
abbrev pub told : RefinementRule → RefinementPlaces → Option Place
told rule.DecompositionMismatch places = places.mismatch
told rule.SharedPart places = places.shared
told rule.Inside places = places.inside
told rule.LocalEvent places = places.local

-- of each rule the new place is the earliest of the old one and those at which it is broken
abbrev pub AreEarliest : (RefinementRule → Place → Type 0) → RefinementPlaces → RefinementPlaces → Type 0
AreEarliest Breaks old new = (r : RefinementRule) → IsLeast (SoFarOr (told r old) (Breaks r)) (told r new)

-- ---- what is known

-- the names are those of the charts, and those of charts that have more inside are told
pub record IsKnown (k : Known) : Type 0 where
  pub names : HasNames k.table.charts.now k.table.names.now
  pub inside : (name : List ℕ) → IsAmong k.inside.now name ↔ OneHolds (λ (c : code.ChartEntry). EntryInside (table_view k.table.charts.now) k.tables.now.names k.tables.now.reach.items (entry_view c)) k.table.charts.now name

-- where a basic chart breaks the rules, and where a chart does
abbrev pub BodyBreaksBy : Known → List Decl → Body → RefinementRule → Place → Type 0
BodyBreaksBy k decls body r = BodyBreaks (table_view k.table.charts.now) k.tables.now.names k.tables.now.known k.tables.now.reach.items k.tables.now.expanded.items r decls body

abbrev pub EntryBreaksBy : Known → ChartEntry → RefinementRule → Place → Type 0
EntryBreaksBy k c r = EntryBreaks (table_view k.table.charts.now) k.tables.now.names k.tables.now.known k.tables.now.reach.items k.tables.now.expanded.items r c

-- the instance is among those that an item covers beside another, or the chart has one of the numbers
abbrev pub SharedIn : List (List ℕ) → List (List ℕ) → List (List ℕ) → List ℕ → List ℕ → List ℕ → Type 0
SharedIn names expanded shared taken instance chart = IsAmong shared instance ⊎ MeetsExpanded names expanded chart taken
