-- The terms and tables of which permission and taking are computed.
use Rattle.std.specs.Prelude.{ℕ, ◌<◌, ◌≡◌, List, [], ◌∷◌, length, Option}
use Rattle.hmsc_graph.specs.Graphs.{Spot, Start, At, Goal, To, End, Any}
use Rattle.hmsc_graph.specs.Nets.{size_of}
use Rattle.chart_term.specs.Properties.{Each}
use Rattle.chart_term.specs.Tables.{Tables, nodes_of, net_count}
use Rattle.chart_term.specs.Terms.{Tree, Trees, Row, Part, Gap, Turn}
use Rattle.term_laws.specs.FullSoundness.{EveryPart, EveryPartOf, EveryRowPart}
use Rattle.term_laws.specs.Normality.{IsSet, IsNormalLoop, IsNormalOver}
use Rattle.term_laws.specs.Permission.{permits_of}

-- the walk begins at the start or at a node
abbrev pub IsSpotWithin : ℕ → Spot → Type 0
IsSpotWithin size Start = Unit {0}
IsSpotWithin size (At m) = m < size

-- the walk leads to a node, to an end or anywhere
abbrev pub IsGoalWithin : ℕ → Goal → Type 0
IsGoalWithin size (To m) = m < size
IsGoalWithin size End = Unit {0}
IsGoalWithin size Any = Unit {0}

-- the net is in the tables, and the walk is at its nodes
abbrev pub IsWalkWithin : Tables → ℕ → Spot → Goal → Type 0
IsWalkWithin w n f t = (n < net_count w) × IsSpotWithin (length (nodes_of w n)) f × IsGoalWithin (length (nodes_of w n)) t

-- each net that the term names is in the tables, and so is each node
abbrev pub IsWithin : Tables → Tree → Type 0
IsWithin w x = EveryPart (λ e. Unit {0}) (λ y q. Unit {0}) (λ y. Unit {0}) (IsWalkWithin w) x

abbrev pub AreWithin : Tables → Trees → Type 0
AreWithin w xs = EveryPartOf (λ e. Unit {0}) (λ y q. Unit {0}) (λ y. Unit {0}) (IsWalkWithin w) xs

abbrev pub IsRowWithin : Tables → Row → Type 0
IsRowWithin w r = EveryRowPart (λ e. Unit {0}) (λ y q. Unit {0}) (λ y. Unit {0}) (IsWalkWithin w) r

-- the term fits the tables and is in normal form for them
pub record IsReady (w : Tables) (x : Tree) : Type 0 where
  pub within : IsWithin w x
  pub normal : IsNormalOver w x

-- each net has a term for each node of its graph, which fits the older nets and is in normal form for them
abbrev pub AreReadyTables : Tables → Type 0
AreReadyTables [] = Unit {0}
AreReadyTables (e ∷ es) = AreReadyTables es × Each (IsReady es) e.nodes × (size_of e.net ≡ length e.nodes)

-- a gap has a set, a begun turn is ready
abbrev pub IsReadyPart : Tables → Part → Type 0
IsReadyPart w (Gap c) = IsSet c
IsReadyPart w (Turn x) = IsReady w x

-- each part is
abbrev pub AreReadyParts : Tables → List Part → Type 0
AreReadyParts w [] = Unit {0}
AreReadyParts w (t ∷ ts) = IsReadyPart w t × AreReadyParts w ts

-- the loop of this operand and row is in normal form, and its parts are ready
pub record IsReadyLoop (w : Tables) (x : Tree) (hi : Option ℕ) (ps : List Part) : Type 0 where
  pub body : IsReady w x
  pub parts : AreReadyParts w ps
  pub normal : IsNormalLoop (permits_of w) x hi ps
