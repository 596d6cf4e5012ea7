-- The decomposed instances of a chart, as the code holds them.
use Rattle.std.specs.Borrow.{Bor}
use Rattle.std.specs.HashMap.{HashMap, get}
use Rattle.std.specs.List.{list_any}
use Rattle.std.specs.Option.{option_copied}
use Rattle.std.specs.Prelude.{◌≡◌, ℕ, List, map}
use Rattle.std.specs.Str.{bytes_eq}
use Rattle.msc_tree.specs.declared.chart.Decl.{Decl}
use Rattle.msc_meaning.specs.Tables as table
use Rattle.msc_meaning.specs.Tables.{refined_as}
use Rattle.level_surroundings.specs.HeldGates.{is_gate}
use Rattle.level_surroundings.specs.declared.decomposed.Refinement.{Refinement}

abbrev pub refinement_view : Refinement → table.Refinement
refinement_view r = record { instance = r.instance.now; chart = r.chart.now }

abbrev pub refinements_view : List Refinement → List table.Refinement
refinements_view rs = map refinement_view rs

-- the names are those of the decomposed instances
abbrev pub HasInstances : List (List ℕ) → List table.Refinement → Type 0
HasInstances names rs = (name : List ℕ) → list_any (bytes_eq name) names ≡ list_any (λ (r : table.Refinement). bytes_eq r.instance name) rs

-- the map has by the name of an instance the chart that refines it
abbrev pub HasCharts : {S : Type 0} → HashMap (Bor (List ℕ)) (Bor (List ℕ)) S → List Decl → Type 0
HasCharts charts decls = (name : Bor (List ℕ)) → option_copied (get is_gate charts name) ≡ refined_as decls name.now
