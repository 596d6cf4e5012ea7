-- Serves private contracts alone.
-- Items as edges: each leads from the numbers of its columns to its own. A creation stands in the column of the child too, and first.
use Rattle.std.specs.Prelude.{ℕ, List, [], ◌∷◌, ◌++◌, Option, Some, None, position, if◌then◌else◌}
use Rattle.std.specs.List.{flat_map, list_any}
use Rattle.std.specs.Str.{bytes_eq}
use Rattle.column_order.specs.declared.edge.Edge.{Edge}
use Rattle.msc_base.specs.NameTables.{with_name}
use Rattle.msc_base.specs.declared.label.Kind.{Kind}
use Rattle.msc_base.specs.declared.label.Kind.TheVariants.{Create}
use Rattle.msc_meaning.specs.LevelItems.{Entry}
use Rattle.msc_tree.specs.Statements.{Form, Single}
use Rattle.msc_tree.specs.declared.event.Target.{Target}
use Rattle.msc_tree.specs.declared.event.Target.TheVariants.{Instance}

-- what stands in none of the columns has none
abbrev pub edge_of : Option ℕ → ℕ → List Edge
edge_of None item = []
edge_of (Some column) item = record { from = column; to = item } ∷ []

abbrev pub name_edge : List (List ℕ) → List ℕ → ℕ → List Edge
name_edge names at item = edge_of (position (bytes_eq at) names) item

-- one to each instance that isn't among those seen
abbrev pub lead_edges : List (List ℕ) → List (List ℕ) → List (List ℕ) → ℕ → List Edge
lead_edges names seen [] item = []
lead_edges names seen (at ∷ leads) item = (if list_any (bytes_eq at) seen then [] else name_edge names at item) ++ lead_edges names (with_name seen at) leads item

abbrev pub child_edges : List (List ℕ) → Kind → Target → ℕ → List Edge
child_edges names Create (Instance child) item = name_edge names child item
child_edges names _ _ item = []

abbrev pub created_edges : List (List ℕ) → Form → ℕ → List Edge
created_edges names (Single e) item = child_edges names e.kind e.target item
created_edges names _ item = []

-- those of the creations
abbrev pub creation_edges : List (List ℕ) → List Entry → List Edge
creation_edges names es = flat_map (λ e. created_edges names e.piece.form e.item) es

-- those of the parts by themselves
abbrev pub own_edges : List (List ℕ) → List Entry → List Edge
own_edges names es = flat_map (λ e. lead_edges names [] e.piece.leads e.item) es

-- creations first
abbrev pub item_edges : List (List ℕ) → List Entry → List Edge
item_edges names es = creation_edges names es ++ own_edges names es
