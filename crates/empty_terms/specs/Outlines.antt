-- A term with its parts and the terms of its nets by numbers, so that code goes through them without recursion.
use Rattle.std.specs.Prelude.{ℕ, suc, ◌+◌, ◌-◌, ◌<◌, ◌≤◌, List, [], ◌∷◌, ◌≡◌, ◌⊎◌, Some, length, slice_get}
use Rattle.chart_term.specs.Properties.{IsBelow}
use Rattle.chart_term.specs.Tables.{Tables, net_count, net_of, node_of}
use Rattle.hmsc_graph.specs.Nets.{size_of}
use Rattle.chart_term.specs.Terms.{Tree, Nil, Event, Join, Choice, Tied, Loop, Walk, items}
use Rattle.certificates.specs.CertificateLaws.{IsUnbegun}
use Rattle.empty_terms.specs.ChartTerms.{IsChartTerm}
use Rattle.empty_terms.specs.declared.outline.Outline.{Outline}

-- the parts of a term, in their order: those of a join or a choice, what is below a tie, the operand of a loop
abbrev pub parts_in : Tree → List Tree
parts_in Nil = []
parts_in (Event e) = []
parts_in (Join m xs) = items xs
parts_in (Choice xs) = items xs
parts_in (Tied x q) = x ∷ []
parts_in (Loop x lo hi r) = x ∷ []
parts_in (Walk n f t c) = []

-- the term has this number
abbrev pub IsAt : List Tree → ℕ → Tree → Type 0
IsAt ts k x = slice_get ts k ≡ Some x

-- these terms have the numbers from this one on
abbrev pub AreFrom : List Tree → ℕ → List Tree → Type 0
AreFrom ts f xs = (j : ℕ) (x : Tree) → slice_get xs j ≡ Some x → IsAt ts (f + j) x

-- for each of the first terms it is known from which number on its parts stand: behind the term itself
abbrev pub ArePartsKnown : List Tree → List ℕ → Type 0
ArePartsKnown ts fs = (k f : ℕ) (x : Tree) → slice_get fs k ≡ Some f → IsAt ts k x → (k < f) × AreFrom ts f (parts_in x)

-- nothing of the terms has begun
abbrev pub AreAllUnbegun : List Tree → Type 0
AreAllUnbegun ts = (k : ℕ) (x : Tree) → IsAt ts k x → IsUnbegun x

-- from this number on, the terms name only nets below n
abbrev pub AreBelowFrom : ℕ → ℕ → List Tree → Type 0
AreBelowFrom n r ts = (k : ℕ) (x : Tree) → r ≤ k → IsAt ts k x → IsBelow n x

-- the terms of the net's nodes stand in a row from this number on, and from there on no term names the net or a newer one
pub record IsNetAt (w : Tables) (ts : List Tree) (n r : ℕ) : Type 0 where
  pub within : r ≤ length ts
  pub nodes : (m : ℕ) → m < size_of (net_of w n) → IsAt ts (r + m) (node_of w n m)
  pub below : AreBelowFrom n r ts

-- the newest nets stand at these numbers, the newest first
abbrev pub AreNetsAt : Tables → List Tree → List ℕ → Type 0
AreNetsAt w ts rs = (i r : ℕ) → slice_get rs i ≡ Some r → IsNetAt w ts (net_count w - suc i) r

-- the outline of a term and of the newest nets: the term has the number 0, and its parts and the nodes of the nets stand behind it
pub record IsOutlined (w : Tables) (x : Tree) (o : Outline) : Type 0 where
  pub root : IsAt o.terms 0 x
  pub known : ArePartsKnown o.terms o.firsts.items
  pub whole : length o.firsts.items ≡ length o.terms
  pub nets : AreNetsAt w o.terms o.roots.items
  pub unbegun : AreAllUnbegun o.terms
  pub below : AreBelowFrom (net_count w) 0 o.terms

-- the outline of a term and of all its nets
pub record IsOutline (w : Tables) (x : Tree) (o : Outline) : Type 0 where
  pub term : IsChartTerm w x
  pub outlined : IsOutlined w x o
  pub each : length o.roots.items ≡ net_count w

-- terms were added that are parts of those from this number on
pub record Grows (r : ℕ) (old new : List Tree) : Type 0 where
  pub longer : length old ≤ length new
  pub kept : (k : ℕ) (x : Tree) → IsAt old k x → IsAt new k x
  pub unbegun : AreAllUnbegun old → AreAllUnbegun new
  pub below : (n s : ℕ) → s ≤ r → AreBelowFrom n s old → AreBelowFrom n s new

-- the terms of the net's nodes were added
pub record HasNodes (w : Tables) (n : ℕ) (old new : List Tree) : Type 0 where
  pub longer : length old ≤ length new
  pub kept : (k : ℕ) (x : Tree) → IsAt old k x → IsAt new k x
  pub nodes : (m : ℕ) → m < size_of (net_of w n) → IsAt new (length old + m) (node_of w n m)
  pub only : (k : ℕ) (x : Tree) → IsAt new k x → IsAt old k x ⊎ ((length old ≤ k) × ((m : ℕ) × (x ≡ node_of w n m)))
