-- Worked charts: a reference in a column leaves an instance uncovered, one behind `all` covers each, a chart names itself, and so do a
-- node of a graph and one of its frames.
use Rattle.std.specs.Prelude.{◌≡◌, ◌⊎◌, ◌+◌, ℕ, List, [], ◌∷◌, None, codes}
use Rattle.chart_links.specs.Links.{Refers}
use Rattle.chart_links.specs.References.{IsExpanded, LeavesUncovered, MissesChart, Recurs}
use Rattle.chart_links.specs.Summaries.{Summary, summary_of}
use Rattle.chart_text.specs.Texts.{Whole}
use Rattle.msc_base.specs.declared.label.LabelRef.{LabelRef}
use Rattle.msc_base.specs.declared.place.Place.{Place}
use Rattle.msc_tree.specs.Charts.{Chart, Basic, HighLevel}
use Rattle.msc_tree.specs.Expressions as expression
use Rattle.msc_tree.specs.Graphs as graph
use Rattle.msc_tree.specs.Statements.{Form, Refer, Statement, Covered, item_and, no_items, placed}
use Rattle.msc_tree.specs.declared.chart.Cover.TheVariants.{All, Listed}
use Rattle.msc_tree.specs.declared.chart.Decl.{Decl}

abbrev pub at_byte : ℕ → Place
at_byte n = record { byte = n; line = 1; column = n + 1 }

abbrev instance : List ℕ → Decl
instance name = record { name = name; kind = []; refined = None; place = at_byte 0 }

abbrev chart : List ℕ → List Statement → Chart
chart name held = record { name = name; place = at_byte 0; decls = instance (codes "i") ∷ instance (codes "j") ∷ []; messages = []; timers = []; content = Basic held }

abbrev refers : expression.Expression → Form
refers expr = Refer (record { name = None; expression = expr; joins = []; shared = None })

-- a chart of i and j that names none
abbrev pub plain_chart : Summary
plain_chart = summary_of (chart (codes "A") [])

-- `msc Z; inst i,j; i: reference A; endmsc;`, the reference at byte 76
abbrev pub column_caller : Summary
column_caller = summary_of (chart (codes "Z") (Covered (Listed (codes "i" ∷ [])) (item_and (placed (at_byte 76) (refers (expression.Chart (codes "A")))) no_items) ∷ []))

-- `msc Z; inst i,j; all: reference A alt empty; endmsc;`
abbrev pub whole_caller : Summary
whole_caller = summary_of (chart (codes "Z") (Covered All (item_and (placed (at_byte 76) (refers (expression.Alt (expression.more (expression.Chart (codes "A")) (expression.more expression.Empty expression.none))))) no_items) ∷ []))

-- j is an expanded instance of A, and an instance of Z that the reference doesn't cover
abbrev pub LeavesOneOut : Type 0
LeavesOneOut = LeavesUncovered (plain_chart ∷ column_caller ∷ []) (at_byte 76)

-- no rule is broken
abbrev pub CoversAll : Type 0
CoversAll = (q : Place) → (LeavesUncovered (plain_chart ∷ whole_caller ∷ []) q → ⊥) × (MissesChart (plain_chart ∷ whole_caller ∷ []) q → ⊥) × (Recurs (plain_chart ∷ whole_caller ∷ []) q → ⊥)

-- a chart that names itself breaks the rule where it does, and has the instances of its own alone
abbrev pub self_caller : Summary
self_caller = summary_of (chart (codes "A") (Covered All (item_and (placed (at_byte 76) (refers (expression.Chart (codes "A")))) no_items) ∷ []))

abbrev pub NamesItself : Type 0
NamesItself = Recurs (self_caller ∷ []) (at_byte 76) × ((i : List ℕ) → IsExpanded (self_caller ∷ []) (codes "A") i → (i ≡ codes "i") ⊎ (i ≡ codes "j"))

-- ---- graphs

abbrev to : List ℕ → ℕ → LabelRef
to label byte = record { name = label; place = at_byte byte }

abbrev high_level : List ℕ → graph.Graph → Chart
high_level name drawn = record { name = name; place = at_byte 0; decls = []; messages = []; timers = []; content = HighLevel drawn }

-- `expr N; N: (G) seq (E); E: end;` of the chart below
abbrev frame : graph.Graph
frame = graph.graph (to (codes "N") 45 ∷ [])
    (graph.lines (graph.line (codes "N") (at_byte 48) (graph.Refer (expression.Chart (codes "G"))) (to (codes "E") 60 ∷ []) ∷ graph.line (codes "E") (at_byte 64) graph.Ends [] ∷ []))

-- `msc G; expr L; L: (A seq B) seq (M); M: expr N; N: (G) seq (E); E: end; endexpr seq (E); E: end; endmsc;`
abbrev pub graph_caller : Summary
graph_caller = summary_of (high_level (codes "G") (graph.graph (to (codes "L") 12 ∷ [])
    (graph.lines (
    graph.line (codes "L") (at_byte 15) (graph.Refer (expression.Seq (expression.more (expression.Chart (codes "A")) (expression.more (expression.Chart (codes "B")) expression.none)))) (to (codes "M") 33 ∷ [])
    ∷ graph.line (codes "M") (at_byte 37) (graph.Frames (graph.graphs (frame ∷ []))) (to (codes "E") 85 ∷ []) ∷ graph.line (codes "E") (at_byte 89) graph.Ends [] ∷ []
    ))))

-- its node names two charts, and its frame the chart in which it stands, each at its line; there are no such charts as A and B
abbrev pub NodesName : Type 0
NodesName =
    (graph_caller.links ≡ Refers (codes "A") (at_byte 15) Whole 3 ∷ Refers (codes "B") (at_byte 15) Whole 3 ∷ Refers (codes "G") (at_byte 48) Whole 6 ∷ [])
    × MissesChart (graph_caller ∷ []) (at_byte 15) × Recurs (graph_caller ∷ []) (at_byte 48)
