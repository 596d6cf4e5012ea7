-- Whether each number in a term is one of the tables.
use Rattle.std.specs.Prelude.{ℕ, Bool, true, ◌&&◌, nat_lt, length}
use Rattle.hmsc_graph.specs.Graphs.{Spot, Start, At, Goal, To, End, Any}
use Rattle.term_tables.specs.NetValues.{NetsValue}
use Rattle.chart_term.specs.Tables.{net_count, nodes_of, Tables}
use Rattle.chart_term.specs.Terms.{Tree, Nil, Event, Join, Choice, Tied, Loop, Walk, Trees, none, more, Row, ends, gap, turn, Part, Gap, Turn}

-- the walk begins at the start, or at one of so many nodes
abbrev pub spot_fits : ℕ → Spot → Bool
spot_fits size Start = true
spot_fits size (At m) = nat_lt m size

-- the walk leads to one of so many nodes, to an end or anywhere
abbrev pub goal_fits : ℕ → Goal → Bool
goal_fits size (To m) = nat_lt m size
goal_fits size End = true
goal_fits size Any = true

-- the net is in the tables, and the walk is at its nodes
abbrev pub walk_fits : Tables → ℕ → Spot → Goal → Bool
walk_fits w n s t = nat_lt n (net_count w) && (spot_fits (length (nodes_of w n)) s && goal_fits (length (nodes_of w n)) t)

-- each label number and net number of the term, of its loop operands and begun turns is in the tables,
-- and each node number of a walk is below the size of its net
abbrev mutual
  pub fits : NetsValue → Tree → Bool
  fits v Nil = true
  fits v (Event e) = nat_lt e.label (length v.labels)
  fits v (Join m xs) = fits_all v xs
  fits v (Choice xs) = fits_all v xs
  fits v (Tied x q) = fits v x
  fits v (Loop x lo hi r) = fits v x && fits_row v r
  fits v (Walk n s t c) = walk_fits v.tables n s t

  pub fits_all : NetsValue → Trees → Bool
  fits_all v none = true
  fits_all v (more x xs) = fits v x && fits_all v xs

  pub fits_row : NetsValue → Row → Bool
  fits_row v ends = true
  fits_row v (gap c r) = fits_row v r
  fits_row v (turn x r) = fits v x && fits_row v r

-- a part of a row
abbrev pub fits_part : NetsValue → Part → Bool
fits_part v (Gap c) = true
fits_part v (Turn x) = fits v x
