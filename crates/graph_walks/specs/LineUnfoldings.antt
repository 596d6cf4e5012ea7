-- What the node of each line of a graph does.
use Rattle.std.specs.Prelude.{ℕ, zero, suc}
use Rattle.msc_unfolding.specs.Unfoldings.{Unfolding}
use Rattle.msc_tree.specs.Graphs.{Lines, no_lines, line_and, line}
use Rattle.msc_meaning.specs.ChartUnfoldings.{OfNode}
use Rattle.msc_meaning.specs.Tables.{Table}
use Rattle.term_meaning.specs.UnfoldingSets.{OnlyEmpty}

-- the unfoldings of the node of the line of this number; beyond the last line nothing happens
abbrev pub OfLine : Table → Lines → ℕ → Unfolding → Type 0
OfLine table no_lines m = OnlyEmpty
OfLine table (line_and (line label place node next) xs) zero = OfNode table node
OfLine table (line_and x xs) (suc m) = OfLine table xs m
