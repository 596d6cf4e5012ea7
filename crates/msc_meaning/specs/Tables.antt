-- The table of a document's charts.
use Rattle.std.specs.Prelude.{ℕ, List, [], ◌∷◌, Option, Some, None, if◌then◌else◌}
use Rattle.std.specs.List.{find, flat_map}
use Rattle.std.specs.Option.{option_or}
use Rattle.std.specs.Str.{bytes_eq}
use Rattle.msc_base.specs.NameTables.{with_name}
use Rattle.msc_tree.specs.declared.chart.Decl.{Decl}
use Rattle.msc_tree.specs.Graphs.{Graph}
use Rattle.msc_meaning.specs.Bodies.{Body}

-- what a chart is: its woven body, or its graph
pub data Woven : Type 0 where
  Basic : Body → Woven
  HighLevel : Graph → Woven

-- a chart, with the declarations of its instances in the order of the text
pub record ChartEntry : Type 0 where
  pub name : List ℕ
  pub decls : List Decl
  pub content : Woven

abbrev pub Table : Type 0
Table = List ChartEntry

-- the chart of that name
abbrev pub chart_at : Table → List ℕ → Option ChartEntry
chart_at table name = find (λ c. bytes_eq c.name name) table

abbrev pub body_in : Option ChartEntry → Option Body
body_in None = None
body_in (Some c) = body_of c.content
  where
    body_of : Woven → Option Body
    body_of (Basic body) = Some body
    body_of (HighLevel held) = None

-- the body of the basic chart of that name
abbrev pub body_at : Table → List ℕ → Option Body
body_at table name = body_in (chart_at table name)

-- ---- decompositions

-- a decomposed instance, and the name of the chart that refines it
pub record Refinement : Type 0 where
  pub instance : List ℕ
  pub chart : List ℕ

-- the chart that refines the instance, where one does
abbrev pub refined_as : List Decl → List ℕ → Option (List ℕ)
refined_as [] name = None
refined_as (d ∷ ds) name = option_or (if bytes_eq d.name name then d.refined else None) (refined_as ds name)

-- the instances, each once, in the order of their first declarations
abbrev pub declared : List (List ℕ) → List Decl → List (List ℕ)
declared names [] = names
declared names (d ∷ ds) = declared (with_name names d.name) ds

abbrev pub refinement : List ℕ → Option (List ℕ) → List Refinement
refinement name None = []
refinement name (Some chart) = record { instance = name; chart = chart } ∷ []

abbrev pub refinements_of : List Decl → List (List ℕ) → List Refinement
refinements_of decls names = flat_map (λ name. refinement name (refined_as decls name)) names

-- the decomposed instances, in the order in which they are declared
abbrev pub refinements : List Decl → List Refinement
refinements decls = refinements_of decls (declared [] decls)
