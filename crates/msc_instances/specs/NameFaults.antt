-- Where the names of a chart break a rule.
use Rattle.std.specs.Prelude.{◌⊎◌, List, []}
use Rattle.msc_base.specs.declared.place.Place.{Place}
use Rattle.msc_tree.specs.Charts.{Chart}
use Rattle.msc_instances.specs.Instances.{DecomposesAgain, NamesOther, instances}
use Rattle.msc_instances.specs.Notes.{Note, chart_notes}
use Rattle.msc_instances.specs.Parts.{NamedPart, SomeNamesAgain, chart_levels}

-- at that place an instance is decomposed a second time, or an inline expression or reference has the name of another
abbrev pub NamesTwice : List Note → List (List NamedPart) → Place → Type 0
NamesTwice notes levels p = DecomposesAgain [] notes p ⊎ SomeNamesAgain levels p

-- in a chart
abbrev pub ChartNamesTwice : Chart → Place → Type 0
ChartNamesTwice chart p = NamesTwice (chart_notes chart) (chart_levels chart) p

-- in a chart a name stands there that may not
abbrev pub ChartNamesOther : Chart → Place → Type 0
ChartNamesOther chart p = NamesOther (instances chart) (chart_notes chart) p
