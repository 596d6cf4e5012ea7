-- The tree that a node stands for, and the parts that a stretch of a list holds.
use Rattle.std.specs.Prelude.{◌<◌, ◌++◌, List, length}
use Rattle.msc_base.specs.Patterns.{seq, par}
use Rattle.hmsc_graph.specs.Spots.{spot_of, goal_of}
use Rattle.chart_term.specs.declared.term.Form.{Form}
use Rattle.chart_term.specs.declared.term.Form.TheVariants as form
use Rattle.chart_term.specs.declared.term.StretchForm.{StretchForm}
use Rattle.chart_term.specs.declared.term.StretchForm.TheVariants as stretch
use Rattle.chart_term.specs.NormalForms.{begun}
use Rattle.chart_term.specs.PartLists.{AreTurns}
use Rattle.chart_term.specs.Rows.{parts_of}
use Rattle.chart_term.specs.Terms.{Tree, Nil, Event, Join, Choice, Tied, Loop, Walk, trees, row_of, Part}
use Rattle.chart_term.specs.Views.{stored_event, pairs_of}

abbrev pub tree_of : Form → Tree
tree_of form.Nil = Nil
tree_of (form.Event e) = Event (stored_event e)
tree_of (form.Seq ps) = Join seq (trees (begun ps))
tree_of (form.Par ps) = Join par (trees (begun ps))
tree_of (form.Choice ps) = Choice (trees (begun ps))
tree_of (form.Tied x q) = Tied x (pairs_of q)
tree_of (form.Loop l) = Loop l.value.body l.value.lower l.value.upper (row_of l.value.row)
tree_of (form.Walk w) = Walk w.value.net (spot_of w.value.from) (goal_of w.value.to) w.value.block.instances

-- a sequence, parts side by side and a choice have turns alone, and a choice has one at least
abbrev pub IsFull : Form → Type 0
IsFull form.Nil = Unit {0}
IsFull (form.Event e) = Unit {0}
IsFull (form.Seq ps) = AreTurns ps
IsFull (form.Par ps) = AreTurns ps
IsFull (form.Choice ps) = AreTurns ps × (0 < length ps)
IsFull (form.Tied x q) = Unit {0}
IsFull (form.Loop l) = Unit {0}
IsFull (form.Walk w) = Unit {0}

-- the parts of a stretch
abbrev pub held_parts : StretchForm → List Part
held_parts (stretch.Leaf ps) = parts_of ps.items
held_parts (stretch.Fork ps qs) = ps ++ qs

-- neither side of a fork is empty
abbrev pub AreFilled : StretchForm → Type 0
AreFilled (stretch.Leaf ps) = Unit {0}
AreFilled (stretch.Fork ps qs) = (0 < length ps) × (0 < length qs)
