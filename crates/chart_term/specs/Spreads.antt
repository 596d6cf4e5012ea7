-- The instances of the events of a term and of its nets, and of the nets that these name.
use Rattle.std.specs.Prelude.{ℕ, List, [], ◌∷◌, ◌++◌, ◌==◌}
use Rattle.std.specs.List.{flat_map}
use Rattle.chart_term.specs.Tables.{choose, net_count, Tables}
use Rattle.chart_term.specs.TermPatterns.{instances_of}
use Rattle.chart_term.specs.Terms.{Tree, Nil, Event, Join, Choice, Tied, Loop, Walk, Trees, none, more, Row, ends, gap, turn, Part, Gap, Turn}

-- the instances of the events of a term, of its loop operands, begun turns and nets, where those of each net are given
abbrev mutual
  pub touch : (ℕ → List ℕ) → Tree → List ℕ
  touch k Nil = []
  touch k (Event e) = (instances_of e).instances
  touch k (Join m xs) = touch_all k xs
  touch k (Choice xs) = touch_all k xs
  touch k (Tied x q) = touch k x
  touch k (Loop x lo hi r) = touch k x ++ touch_row k r
  touch k (Walk n s t c) = k n

  pub touch_all : (ℕ → List ℕ) → Trees → List ℕ
  touch_all k none = []
  touch_all k (more x xs) = touch k x ++ touch_all k xs

  pub touch_row : (ℕ → List ℕ) → Row → List ℕ
  touch_row k ends = []
  touch_row k (gap c r) = touch_row k r
  touch_row k (turn x r) = touch k x ++ touch_row k r

-- those of a part of a row
abbrev pub touch_part : (ℕ → List ℕ) → Part → List ℕ
touch_part k (Gap c) = []
touch_part k (Turn x) = touch k x

-- those of several terms
abbrev pub touch_list : (ℕ → List ℕ) → List Tree → List ℕ
touch_list k xs = flat_map (touch k) xs

-- the instances of a net: a node term names only older nets
abbrev pub spread_of : Tables → ℕ → List ℕ
spread_of [] n = []
spread_of (e ∷ es) n = choose (n == net_count es) (touch_list (spread_of es) e.nodes) (spread_of es n)
