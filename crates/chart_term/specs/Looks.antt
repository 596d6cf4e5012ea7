-- What a look at a term shows, and what a look at a list of parts.
use Rattle.std.specs.Prelude.{◌≡◌, ◌<◌, ◌++◌, List, length}
use Rattle.msc_base.specs.Patterns.{seq, par}
use Rattle.hmsc_graph.specs.Spots.{spot_of, goal_of}
use Rattle.chart_term.specs.declared.look.Look.{Look}
use Rattle.chart_term.specs.declared.look.Look.TheVariants as show
use Rattle.chart_term.specs.declared.look.PartLook.{PartLook}
use Rattle.chart_term.specs.declared.look.PartLook.TheVariants as part
use Rattle.chart_term.specs.NormalForms.{begun}
use Rattle.chart_term.specs.PartLists.{AreTurns}
use Rattle.chart_term.specs.Rows.{parts_of}
use Rattle.chart_term.specs.Terms.{Tree, Nil, Event, Join, Choice, Tied, Loop, Walk, trees, row_of, Part}
use Rattle.chart_term.specs.Views.{pairs_of}

-- the term of these parts; those of a sequence, of parts side by side and of a choice are all turns
abbrev pub Shows : Tree → Look → Type 0
Shows x show.Nil = x ≡ Nil
Shows x (show.Event n i j a) = x ≡ Event (record { number = n; at = i; also = j; label = a })
Shows x (show.Seq ps) = (x ≡ Join seq (trees (begun ps.now))) × AreTurns ps.now
Shows x (show.Par ps) = (x ≡ Join par (trees (begun ps.now))) × AreTurns ps.now
Shows x (show.Choice ps) = (x ≡ Choice (trees (begun ps.now))) × AreTurns ps.now × (0 < length ps.now)
Shows x (show.Tied y q) = x ≡ Tied y.now (pairs_of q.now)
Shows x (show.Loop y lo hi r) = x ≡ Loop y.now lo hi (row_of r.now)
Shows x (show.Walk n s t b) = x ≡ Walk n (spot_of s) (goal_of t) b.now.instances

-- the parts of a leaf, or the two sides of a fork, neither of which is empty
abbrev pub ShowsParts : List Part → PartLook → Type 0
ShowsParts ps (part.Leaf held) = ps ≡ parts_of held.now
ShowsParts ps (part.Fork first second) = (ps ≡ first.now ++ second.now) × (0 < length first.now) × (0 < length second.now)
