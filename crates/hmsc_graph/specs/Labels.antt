-- Serves private contracts alone.
-- The labels of lines, as they are gathered from the first line on, and the faults that are met.
use Rattle.std.specs.Prelude.{ℕ, List, Option, Some, None, Bool, map, if◌then◌else◌}
use Rattle.std.specs.List.{list_any, position, filter_map}
use Rattle.std.specs.Str.{bytes_eq}
use Rattle.msc_base.specs.NameTables.{with_name}
use Rattle.msc_base.specs.declared.label.LabelRef.{LabelRef}
use Rattle.msc_base.specs.declared.place.Place.{Place}
use Rattle.msc_base.specs.Places.{earliest, is_before}
use Rattle.hmsc_graph.specs.declared.shape.ShapeLine.{ShapeLine}
use Rattle.hmsc_graph.specs.declared.labels.Labels.{Labels}
use Rattle.hmsc_graph.specs.declared.net.NetFault.{NetFault}
use Rattle.hmsc_graph.specs.declared.net.NetFault.TheVariants.{UnknownLabel, TwiceLabel}
use Rattle.hmsc_graph.specs.declared.shape.Shape.{Shape}
use Rattle.hmsc_graph.specs.Graphs.{Net}
use Rattle.hmsc_graph.specs.Nets.{graph_of}

-- whether the names have it
abbrev pub has_name : List (List ℕ) → List ℕ → Bool
has_name names name = list_any (bytes_eq name) names

-- the labels with that of one more line
abbrev pub with_line : Labels → ShapeLine → Labels
with_line labels line = record {
  table = with_name labels.table line.label;
  twice = if has_name labels.table line.label then earliest labels.twice line.place else labels.twice;
}

-- the earliest unknown label with one more label
abbrev pub with_label : List (List ℕ) → Option Place → LabelRef → Option Place
with_label names found label = if has_name names label.name then found else earliest found label.place

-- the number of a label
abbrev pub number_in : List (List ℕ) → LabelRef → Option ℕ
number_in names label = position (bytes_eq label.name) names

-- of two places the earlier, with its fault
abbrev pub fault_of : Option Place → Option Place → Option NetFault
fault_of None None = None
fault_of None (Some twice) = Some (TwiceLabel twice)
fault_of (Some unknown) None = Some (UnknownLabel unknown)
fault_of (Some unknown) (Some twice) = if is_before twice unknown then Some (TwiceLabel twice) else Some (UnknownLabel unknown)

-- the graph of the shape, without the edges to labels that the names lack
abbrev pub graph_in : List (List ℕ) → Shape → Net
graph_in names shape = graph_of (filter_map (number_in names) shape.starts) (map (λ line. filter_map (number_in names) line.next) shape.lines) (map (λ line. line.ends) shape.lines)
