-- Serves private contracts alone.
-- What is drawn of an expansion: which events are to come before which, and at an instance before and behind bars.
use Rattle.std.specs.Prelude.{ℕ, ◌≡◌, ◌<◌, ◌≤◌, ◌+◌, ◌⊎◌, Bool, true, false, List, [], ◌++◌, Option, Some}
use Rattle.column_order.specs.Counts.{EdgeLeads}
use Rattle.column_order.specs.declared.edge.Edge.{Edge}
use Rattle.msc_base.specs.Orders.{Among}
use Rattle.expansion_tree.specs.Expansions.{is_exception, no_parts, part_and}
use Rattle.expansion_tree.specs.Numbered.{Expansions}
use Rattle.expansion_order.specs.Precedence.{StopsOrder}
use Rattle.expansion_order.specs.Stops.{counted}
use Rattle.expansion_order.specs.declared.stops.Stop.{Stop}
use Rattle.expansion_order.specs.declared.web.Web.{Web}

-- u is drawn before v: as a pair, or before a bar behind which v is
pub record PassesBar (w : Web) (u v : ℕ) : Type 0 where
  pub bar : ℕ
  pub before : EdgeLeads w.before u bar
  pub behind : EdgeLeads w.behind bar v

abbrev pub IsDrawn : Web → ℕ → ℕ → Type 0
IsDrawn w u v = EdgeLeads w.pairs u v ⊎ PassesBar w u v

-- there are as many bars
pub record IsTidy (w : Web) : Type 0 where
  pub before : (u b : ℕ) → EdgeLeads w.before u b → b < w.bars
  pub behind : (b v : ℕ) → EdgeLeads w.behind b v → b < w.bars

-- ranks of events and of bars that rise along what is drawn
pub record Rises (rank bar : ℕ → ℕ) (w : Web) : Type 0 where
  pub pairs : (u v : ℕ) → EdgeLeads w.pairs u v → rank u < rank v
  pub before : (u b : ℕ) → EdgeLeads w.before u b → rank u < bar b
  pub behind : (b v : ℕ) → EdgeLeads w.behind b v → bar b < rank v

-- more is drawn, and nothing more before the bars that were there
pub record Grows (old new : Web) : Type 0 where
  pub bars : old.bars ≤ new.bars
  pub pairs : (u v : ℕ) → EdgeLeads old.pairs u v → EdgeLeads new.pairs u v
  pub before : (u b : ℕ) → EdgeLeads old.before u b → EdgeLeads new.before u b
  pub behind : (b v : ℕ) → EdgeLeads old.behind b v → EdgeLeads new.behind b v
  pub same : (u b : ℕ) → EdgeLeads new.before u b → b < old.bars → EdgeLeads old.before u b

-- between the two webs events were drawn: u before v where Asks says so, and no others
pub record AreDrawn (Asks : ℕ → ℕ → Type 0) (old new : Web) : Type 0 where
  pub tidy : IsTidy new
  pub grown : Grows old new
  pub rises : (rank bar : ℕ → ℕ) → Rises rank bar new → (u v : ℕ) → Asks u v → rank u < rank v
  pub asked : (u v : ℕ) → IsDrawn new u v → IsDrawn old u v ⊎ Asks u v

-- nothing is asked
abbrev pub Nothing : ℕ → ℕ → Type 0
Nothing u v = ⊥

-- some of the pairs is u before v
abbrev pub OneOf : (ℕ → ℕ → Type 0) → (ℕ → ℕ → Type 0) → ℕ → ℕ → Type 0
OneOf Asks Others u v = Asks u v ⊎ Others u v

-- ---- stops, and the last bar of each instance

-- one of the stops is at that instance and has that number
pub record HasStop (stops : List Stop) (column number : ℕ) : Type 0 where
  pub stop : Stop
  pub among : Among stop stops
  pub at : stop.column ≡ column
  pub is : stop.number ≡ number

-- of the instance that bar is the last: it was and isn't below the first, or it is new
pub record IsBarAt (old new : Web) (was last : ℕ → Option ℕ) (first column bar : ℕ) : Type 0 where
  pub pairs : new.pairs ≡ old.pairs
  pub before : new.before ≡ old.before
  pub behind : new.behind ≡ old.behind
  pub here : last column ≡ Some bar
  pub others : (k : ℕ) → (k ≡ column → ⊥) → last k ≡ was k
  pub which : ((was column ≡ Some bar) × (first ≤ bar) × (new.bars ≡ old.bars)) ⊎ ((bar ≡ old.bars) × (new.bars ≡ old.bars + 1) × ((b : ℕ) → was column ≡ Some b → b < first))

-- of an instance that has a last bar, that is drawn before each of the stops there
pub record AreEntered (old new : Web) (last : ℕ → Option ℕ) (stops : List Stop) : Type 0 where
  pub bars : new.bars ≡ old.bars
  pub pairs : new.pairs ≡ old.pairs
  pub before : new.before ≡ old.before
  pub kept : (b v : ℕ) → EdgeLeads old.behind b v → EdgeLeads new.behind b v
  pub drawn : (k b v : ℕ) → HasStop stops k v → last k ≡ Some b → EdgeLeads new.behind b v
  pub only : (b v : ℕ) → EdgeLeads new.behind b v → EdgeLeads old.behind b v ⊎ ((k : ℕ) × HasStop stops k v × (last k ≡ Some b))

-- the stops are drawn before a new bar at their instance, which is its last then
pub record AreLeft (old new : Web) (was last : ℕ → Option ℕ) (stops : List Stop) : Type 0 where
  pub pairs : new.pairs ≡ old.pairs
  pub behind : new.behind ≡ old.behind
  pub bars : old.bars ≤ new.bars
  pub kept : (u b : ℕ) → EdgeLeads old.before u b → EdgeLeads new.before u b
  -- of each stop
  pub drawn : (k u : ℕ) → HasStop stops k u → (b : ℕ) × (last k ≡ Some b) × (old.bars ≤ b) × EdgeLeads new.before u b
  -- nothing else is drawn
  pub only : (u b : ℕ) → EdgeLeads new.before u b → EdgeLeads old.before u b ⊎ ((k : ℕ) × HasStop stops k u × (last k ≡ Some b) × (old.bars ≤ b))
  -- a last bar is that of before, or new, and then no other instance's, and some stop is there
  pub come : (k b : ℕ) → last k ≡ Some b → (was k ≡ Some b) ⊎ ((old.bars ≤ b) × (b < new.bars) × (n : ℕ) × HasStop stops k n)
  pub apart : (k l b : ℕ) → last k ≡ Some b → last l ≡ Some b → old.bars ≤ b → k ≡ l
  pub stayed : (k b : ℕ) → was k ≡ Some b → (last k ≡ Some b) ⊎ ((n : ℕ) × HasStop stops k n)

-- the last bars stand behind these stops at their instances, and behind no others
pub record IsFront (w : Web) (last : ℕ → Option ℕ) (ss : List Stop) : Type 0 where
  pub low : (k b : ℕ) → last k ≡ Some b → b < w.bars
  pub rises : (rank bar : ℕ → ℕ) → Rises rank bar w → (s : Stop) → Among s ss → (b : ℕ) × (last s.column ≡ Some b) × (rank s.number < bar b)
  pub only : (k b u : ℕ) → last k ≡ Some b → EdgeLeads w.before u b → HasStop ss k u

-- the stops that come before a later part
abbrev pub with_part : Bool → List Stop → List Stop → List Stop
with_part true front ss = front
with_part false front ss = front ++ ss

-- the part of these stops, which is an exception or isn't, stands behind the front, and belongs to it then
pub record IsPut (old new : Web) (was last : ℕ → Option ℕ) (stays : Bool) (stops : List Stop) : Type 0 where
  pub low : (k b : ℕ) → last k ≡ Some b → b < new.bars
  pub drawn : (front : List Stop) → IsFront old was front → AreDrawn (StopsOrder front stops) old new
  pub front : (front : List Stop) → IsFront old was front → IsFront new last (with_part stays front stops)

abbrev pub line_part : Bool → List Stop → List Stop
line_part true ss = []
line_part false ss = ss

-- the stops of the parts of a row that aren't exceptions
abbrev pub line : Expansions → List Stop
line no_parts = []
line (part_and x xs) = line_part (is_exception x) (counted x) ++ line xs

-- ---- edges between the numbers of events and those of bars, which stand behind them

-- the events that are drawn have lower numbers
pub record AreBelow (m : ℕ) (w : Web) : Type 0 where
  pub first : (u v : ℕ) → EdgeLeads w.pairs u v → u < m
  pub second : (u v : ℕ) → EdgeLeads w.pairs u v → v < m
  pub before : (u b : ℕ) → EdgeLeads w.before u b → u < m
  pub behind : (b v : ℕ) → EdgeLeads w.behind b v → v < m

-- of one of the edges the ends are so much lower
pub record IsMoved (edges : List Edge) (from_by to_by y x : ℕ) : Type 0 where
  pub first : ℕ
  pub second : ℕ
  pub leads : EdgeLeads edges first second
  pub from_is : first + from_by ≡ y
  pub to_is : second + to_by ≡ x

pub record AreAdded (edges : List Edge) (from_by to_by : ℕ) (old new : List Edge) : Type 0 where
  pub kept : (y x : ℕ) → EdgeLeads old y x → EdgeLeads new y x
  pub moved : (u v : ℕ) → EdgeLeads edges u v → EdgeLeads new (u + from_by) (v + to_by)
  pub only : (y x : ℕ) → EdgeLeads new y x → EdgeLeads old y x ⊎ IsMoved edges from_by to_by y x

-- what is drawn as edges
pub record AreEdges (w : Web) (m : ℕ) (edges : List Edge) : Type 0 where
  pub pairs : (u v : ℕ) → EdgeLeads w.pairs u v → EdgeLeads edges u v
  pub before : (u b : ℕ) → EdgeLeads w.before u b → EdgeLeads edges u (b + m)
  pub behind : (b v : ℕ) → EdgeLeads w.behind b v → EdgeLeads edges (b + m) v
  pub only : (y x : ℕ) → EdgeLeads edges y x → EdgeLeads w.pairs y x ⊎ (IsMoved w.before 0 m y x ⊎ IsMoved w.behind m 0 y x)
