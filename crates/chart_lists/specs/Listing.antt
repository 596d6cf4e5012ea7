-- How the charts of an accepted document are listed: their names, whether they are high-level charts, and their instances.
use Rattle.std.specs.Prelude.{ℕ, zero, suc, Bool, true, false, List, [], ◌∷◌, fold, map, Option, None, Some}
use Rattle.msc_base.specs.NameTables.{with_name}
use Rattle.msc_base.specs.declared.limits.TheConstants.Limits.{EXPANDED_NESTING}
use Rattle.msc_tree.specs.declared.chart.Decl.{Decl}
use Rattle.msc_meaning.specs.Bodies.{Body, level}
use Rattle.msc_meaning.specs.Tables.{ChartEntry, Table, Woven, Basic, HighLevel, chart_at, refined_as}
use Rattle.woven_laws.specs.GraphNames.{graph_names}

-- a listed instance, with the chart that refines it. Its kind isn't told, nor where it stands
abbrev pub as_listed : List ℕ → Option (List ℕ) → Decl
as_listed instance_name refined = record { name = instance_name; kind = []; refined = refined; place = record { byte = 0; line = 1; column = 1 } }

abbrev pub is_graph_content : Woven → Bool
is_graph_content (Basic held) = false
is_graph_content (HighLevel drawn) = true

abbrev pub is_graph_of : ChartEntry → Bool
is_graph_of c = is_graph_content c.content

abbrev pub cover_of : Body → List (List ℕ)
cover_of (level cover held pairs) = cover

-- the instances of a basic chart in the order of their first declaration
abbrev pub content_instances : Woven → List (List ℕ)
content_instances (Basic body) = cover_of body
content_instances (HighLevel drawn) = []

-- of: the listed instances of the chart of that name
module _ (of : List ℕ → List (List ℕ)) where
  -- those of charts one after another, each once, behind these
  abbrev pub instances_behind : List (List ℕ) → List (List ℕ) → List (List ℕ)
  instances_behind seen [] = seen
  instances_behind seen (name ∷ names) = instances_behind (fold with_name seen (of name)) names

  -- of a basic chart its own, of a high-level chart those of the charts that its nodes name
  abbrev pub content_listed : Woven → List (List ℕ)
  content_listed (Basic body) = cover_of body
  content_listed (HighLevel drawn) = instances_behind [] (graph_names drawn)

  abbrev pub entry_listed : Option ChartEntry → List (List ℕ)
  entry_listed None = []
  entry_listed (Some c) = content_listed c.content

-- of the chart of that name in the table; charts stand in each other less than so deep
abbrev pub listed_to : Table → ℕ → List ℕ → List (List ℕ)
listed_to table zero name = []
listed_to table (suc depth) name = entry_listed (listed_to table depth) (chart_at table name)

abbrev pub listed_instances : Table → ChartEntry → List (List ℕ)
listed_instances table c = content_listed (listed_to table EXPANDED_NESTING) c.content

-- the chart that refines a listed instance, by the declarations: those of a high-level chart have no use
abbrev pub listed_refined : List Decl → Woven → List ℕ → Option (List ℕ)
listed_refined decls (Basic body) name = refined_as decls name
listed_refined decls (HighLevel drawn) name = None

-- each with the chart that refines it
abbrev pub listed_of : Table → ChartEntry → List Decl
listed_of table c = map (λ (n : List ℕ). as_listed n (listed_refined c.decls c.content n)) (listed_instances table c)
