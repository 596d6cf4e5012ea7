-- Serves private contracts alone.
-- Which constructor a term has.
use Rattle.std.specs.Prelude.{ℕ, ◌≡◌, Bool, true, false, List, Option, length}
use Rattle.msc_base.specs.Patterns.{Mode, seq, par}
use Rattle.hmsc_graph.specs.Graphs.{Spot, Goal}
use Rattle.chart_term.specs.Terms.{Tree, Nil, Event, Join, Choice, Tied, Loop, Walk, Trees, Row, items}

abbrev pub IsNoEvent : Tree → Type 0
IsNoEvent Nil = Unit {0}
IsNoEvent (Event e) = ⊥
IsNoEvent (Join m xs) = Unit {0}
IsNoEvent (Choice xs) = Unit {0}
IsNoEvent (Tied x q) = Unit {0}
IsNoEvent (Loop x lo hi r) = Unit {0}
IsNoEvent (Walk n f t c) = Unit {0}

abbrev pub IsNoJoin : Tree → Type 0
IsNoJoin Nil = Unit {0}
IsNoJoin (Event e) = Unit {0}
IsNoJoin (Join m xs) = ⊥
IsNoJoin (Choice xs) = Unit {0}
IsNoJoin (Tied x q) = Unit {0}
IsNoJoin (Loop x lo hi r) = Unit {0}
IsNoJoin (Walk n f t c) = Unit {0}

abbrev pub IsNoChoice : Tree → Type 0
IsNoChoice Nil = Unit {0}
IsNoChoice (Event e) = Unit {0}
IsNoChoice (Join m xs) = Unit {0}
IsNoChoice (Choice xs) = ⊥
IsNoChoice (Tied x q) = Unit {0}
IsNoChoice (Loop x lo hi r) = Unit {0}
IsNoChoice (Walk n f t c) = Unit {0}

abbrev pub IsNoTie : Tree → Type 0
IsNoTie Nil = Unit {0}
IsNoTie (Event e) = Unit {0}
IsNoTie (Join m xs) = Unit {0}
IsNoTie (Choice xs) = Unit {0}
IsNoTie (Tied x q) = ⊥
IsNoTie (Loop x lo hi r) = Unit {0}
IsNoTie (Walk n f t c) = Unit {0}

abbrev pub IsNoLoop : Tree → Type 0
IsNoLoop Nil = Unit {0}
IsNoLoop (Event e) = Unit {0}
IsNoLoop (Join m xs) = Unit {0}
IsNoLoop (Choice xs) = Unit {0}
IsNoLoop (Tied x q) = Unit {0}
IsNoLoop (Loop x lo hi r) = ⊥
IsNoLoop (Walk n f t c) = Unit {0}

abbrev pub IsNoWalk : Tree → Type 0
IsNoWalk Nil = Unit {0}
IsNoWalk (Event e) = Unit {0}
IsNoWalk (Join m xs) = Unit {0}
IsNoWalk (Choice xs) = Unit {0}
IsNoWalk (Tied x q) = Unit {0}
IsNoWalk (Loop x lo hi r) = Unit {0}
IsNoWalk (Walk n f t c) = ⊥

-- a join of so many parts
pub record IsJoin (m : Mode) (n : ℕ) (x : Tree) : Type 0 where
  pub parts : Trees
  pub is : x ≡ Join m parts
  pub many : length (items parts) ≡ n

-- a choice of so many
pub record IsChoice (n : ℕ) (x : Tree) : Type 0 where
  pub parts : Trees
  pub is : x ≡ Choice parts
  pub many : length (items parts) ≡ n

pub record IsTie (x : Tree) : Type 0 where
  pub inner : Tree
  pub pairs : List (ℕ × ℕ)
  pub is : x ≡ Tied inner pairs

-- a loop of these counts
pub record IsLoop (lo : ℕ) (hi : Option ℕ) (x : Tree) : Type 0 where
  pub body : Tree
  pub row : Row
  pub is : x ≡ Loop body lo hi row

-- a walk through the net
pub record IsWalk (n : ℕ) (x : Tree) : Type 0 where
  pub from : Spot
  pub to : Goal
  pub past : List ℕ
  pub is : x ≡ Walk n from to past

abbrev pub mode_of : Bool → Mode
mode_of true = par
mode_of false = seq
