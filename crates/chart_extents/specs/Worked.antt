-- Worked charts: one of one action comes to 5, and one that refers twice to another to 5 and twice what that comes to. So a chart at the end
-- of a row of such charts is large, though its text is short. A graph of two lines that names another chart in a frame comes to 13 and what
-- that comes to.
use Rattle.std.specs.Prelude.{◌+◌, ℕ, max, List, [], ◌∷◌, None, codes}
use Rattle.chart_extents.specs.Extents.{HasExtent, IsExtentOf, Sized, sized_of}
use Rattle.chart_extents.specs.declared.extent.Extent.{Extent}
use Rattle.msc_meaning.specs.WorkedParts.{action, somewhere}
use Rattle.msc_tree.specs.Charts.{Chart, Basic, HighLevel}
use Rattle.msc_tree.specs.Expressions as expression
use Rattle.msc_tree.specs.Graphs as graph
use Rattle.msc_tree.specs.Statements.{Form, Refer, Single, Covered, item_and, no_items, placed}
use Rattle.msc_tree.specs.declared.chart.Cover.TheVariants.{Listed}

-- `msc NAME; inst i; i: FORM; endmsc;`
abbrev of_form : List ℕ → Form → Chart
of_form name form = record {
  name = name;
  place = somewhere;
  decls = record { name = codes "i"; kind = []; refined = None; place = somewhere } ∷ [];
  messages = [];
  timers = [];
  content = Basic (Covered (Listed (codes "i" ∷ [])) (item_and (placed somewhere form) no_items) ∷ []);
}

-- the form is `action 'x'`
abbrev pub of_action : List ℕ → Sized
of_action name = sized_of (of_form name (Single (action (codes "'x'")))) 0

-- the form is `reference NAMED seq NAMED`
abbrev pub twice : List ℕ → List ℕ → Sized
twice name named = sized_of (of_form name (Refer (record { name = None; expression = expression.Seq (expression.more (expression.Chart named) (expression.more (expression.Chart named) expression.none)); joins = []; shared = None }))) 0

abbrev pub ActionsAreSmall : Type 0
ActionsAreSmall = (charts : List Sized) (name : List ℕ) → IsExtentOf charts (of_action name) (record { size = 5; nesting = 3 })

abbrev pub UsesAddUp : Type 0
UsesAddUp = (charts : List Sized) (name named : List ℕ) (e : Extent) → HasExtent charts named e → IsExtentOf charts (twice name named) (record { size = 5 + e.size + e.size; nesting = max (max 4 (4 + e.nesting)) (4 + e.nesting) })

-- ---- graphs

-- `LABEL: NODE` and `LAST: end;`, and where a graph starts
abbrev lines_of : graph.Node → graph.Graph
lines_of node = graph.graph (record { name = codes "L"; place = somewhere } ∷ [])
    (graph.lines (graph.line (codes "L") somewhere node (record { name = codes "E"; place = somewhere } ∷ []) ∷ graph.line (codes "E") somewhere graph.Ends [] ∷ []))

-- `msc NAME; expr L; L: expr L; L: (NAMED) seq (E); E: end; endexpr seq (E); E: end; endmsc;`
abbrev pub in_frame : List ℕ → List ℕ → Sized
in_frame name named =
    sized_of (record { name = name; place = somewhere; decls = []; messages = []; timers = []; content = HighLevel (lines_of (graph.Frames (graph.graphs (lines_of (graph.Refer (expression.Chart named)) ∷ [])))) }) 0

abbrev pub FramesAddUp : Type 0
FramesAddUp = (charts : List Sized) (name named : List ℕ) (e : Extent) → HasExtent charts named e → IsExtentOf charts (in_frame name named) (record { size = 13 + e.size; nesting = max 6 (6 + e.nesting) })
