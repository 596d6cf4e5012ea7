-- The law of one residual: terms in which a list of events leaves at most one term.
use Rattle.std.specs.Prelude.{ℕ, ◌+◌, ◌*◌, ◌≤◌, false, List, [], ◌∷◌, ◌++◌, ◌≡◌, length}
use Rattle.chart_term.specs.Properties.{Every}
use Rattle.chart_term.specs.Tables.{Tables}
use Rattle.chart_term.specs.Terms.{has, Tree, Nil, Event, Join, Choice, Tied, Loop, Walk, Trees, none, more, Row, ends, gap, turn, weight}
use Rattle.term_laws.specs.Listing.{residual_set, set_weight}
use Rattle.term_laws.specs.Permission.{permits_of}
use Rattle.term_laws.specs.Residuals.{IsResidual}

-- the labels of the events of a term, of its loop operands and its begun turns
abbrev mutual
  pub labels_of : Tree → List ℕ
  labels_of Nil = []
  labels_of (Event e) = e.label ∷ []
  labels_of (Join m xs) = labels_of_all xs
  labels_of (Choice xs) = labels_of_all xs
  labels_of (Tied x q) = labels_of x
  labels_of (Loop x lo hi r) = labels_of x ++ labels_of_row r
  labels_of (Walk n f t c) = []

  pub labels_of_all : Trees → List ℕ
  labels_of_all none = []
  labels_of_all (more x xs) = labels_of x ++ labels_of_all xs

  pub labels_of_row : Row → List ℕ
  labels_of_row ends = []
  labels_of_row (gap c r) = labels_of_row r
  labels_of_row (turn x r) = labels_of x ++ labels_of_row r

-- no number stands twice in the list
abbrev pub AreOnce : List ℕ → Type 0
AreOnce [] = Unit {0}
AreOnce (n ∷ ns) = (has ns n ≡ false) × AreOnce ns

-- the term holds no graph
abbrev pub HasNoGraph : Tree → Type 0
HasNoGraph x = Every (λ e. Unit {0}) (λ n. ⊥) x

-- the term holds no choice and no loop
abbrev mutual
  pub IsStraight : Tree → Type 0
  IsStraight Nil = Unit {0}
  IsStraight (Event e) = Unit {0}
  IsStraight (Join m xs) = AreStraight xs
  IsStraight (Choice xs) = ⊥
  IsStraight (Tied x q) = IsStraight x
  IsStraight (Loop x lo hi r) = ⊥
  IsStraight (Walk n f t c) = Unit {0}

  pub AreStraight : Trees → Type 0
  AreStraight none = Unit {0}
  AreStraight (more x xs) = IsStraight x × AreStraight xs

-- no turn has begun: the row is one gap, and nothing is blocked
abbrev pub IsUnbegun : Row → Type 0
IsUnbegun ends = ⊥
IsUnbegun (gap [] ends) = Unit {0}
IsUnbegun (gap [] (gap c r)) = ⊥
IsUnbegun (gap [] (turn x r)) = ⊥
IsUnbegun (gap (n ∷ c) r) = ⊥
IsUnbegun (turn x r) = ⊥

-- no loop of the term holds a choice or a loop, and none has begun
abbrev mutual
  pub HasStraightLoops : Tree → Type 0
  HasStraightLoops Nil = Unit {0}
  HasStraightLoops (Event e) = Unit {0}
  HasStraightLoops (Join m xs) = HaveStraightLoops xs
  HasStraightLoops (Choice xs) = HaveStraightLoops xs
  HasStraightLoops (Tied x q) = HasStraightLoops x
  HasStraightLoops (Loop x lo hi r) = IsStraight x × IsUnbegun r
  HasStraightLoops (Walk n f t c) = Unit {0}

  pub HaveStraightLoops : Trees → Type 0
  HaveStraightLoops none = Unit {0}
  HaveStraightLoops (more x xs) = HasStraightLoops x × HaveStraightLoops xs

-- the term of a chart whose labels all differ, which has no graph, and no loop of which holds a choice or a loop
pub record IsUnambiguous (x : Tree) : Type 0 where
  pub labels : AreOnce (labels_of x)
  pub no_graph : HasNoGraph x
  pub loops : HasStraightLoops x

-- after every list of events at most one term is left of such a term, and after k events it weighs at most 2·(k+1) times what
-- the term weighs; so the set of residual terms has at most one member, of no more than that weight
pub record OneResidual : Type 0 where
  pub same : (w : Tables) (x y z : Tree) (labels : List ℕ) → IsUnambiguous x → IsResidual (permits_of w) x labels y → IsResidual (permits_of w) x labels z → y ≡ z
  pub weighs : (w : Tables) (x y : Tree) (labels : List ℕ) → IsUnambiguous x → IsResidual (permits_of w) x labels y → weight y ≤ 2 * (length labels + 1) * weight x
  pub at_most_one : (w : Tables) (n : ℕ) (x : Tree) (labels : List ℕ) → IsUnambiguous x → length (residual_set n (permits_of w) (x ∷ []) labels) ≤ 1
  pub set_weighs : (w : Tables) (n : ℕ) (x : Tree) (labels : List ℕ) → IsUnambiguous x → set_weight (residual_set n (permits_of w) (x ∷ []) labels) ≤ 2 * (length labels + 1) * weight x
