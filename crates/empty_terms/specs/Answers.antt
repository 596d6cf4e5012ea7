-- Which terms of an outline can be without events.
use Rattle.std.specs.Prelude.{ℕ, ◌+◌, ◌<◌, ◌≤◌, ◌↔◌, ◌≡◌, Bool, false, List, Some, IsTrue, length, slice_get}
use Rattle.std.proofs.Common.{get_or}
use Rattle.hmsc_graph.specs.Nets.{size_of}
use Rattle.msc_base.specs.Lists.{IsIn}
use Rattle.chart_term.specs.Tables.{Tables, net_of, node_of, terms_over}
use Rattle.chart_term.specs.TermMeanings.{NetTerms}
use Rattle.chart_term.specs.Terms.{Tree}
use Rattle.certificates.specs.Certificates.{HasEmpty}
use Rattle.empty_terms.specs.Outlines.{IsAt}
use Rattle.empty_terms.specs.Passing.{HasEmptyWalk}

-- of the terms from this number on it is told whether they can be without events
abbrev pub AreToldFrom : NetTerms → List Tree → List Bool → ℕ → Type 0
AreToldFrom w ts bs k = (i : ℕ) (x : Tree) → k ≤ i → IsAt ts i x → IsTrue (get_or bs i false) ↔ HasEmpty w x

-- of the oldest nets it is told whether a walk through them can be without events
abbrev pub AreWalksTold : NetTerms → List Bool → Type 0
AreWalksTold w bs = (n : ℕ) → n < length bs → IsTrue (get_or bs n false) ↔ HasEmptyWalk w n

-- of the nodes of the net, whose terms stand from this number on, it is told
abbrev pub AreNodesTold : Tables → ℕ → ℕ → List Bool → Type 0
AreNodesTold w n r bs = (m : ℕ) → m < size_of (net_of w n) → IsTrue (get_or bs (r + m) false) ↔ HasEmpty (terms_over w) (node_of w n m)

-- the numbers below the size at which the answers from this number on are yes
abbrev pub AreYes : List Bool → ℕ → ℕ → List ℕ → Type 0
AreYes bs r size ms = (m : ℕ) → IsIn m ms ↔ ((m < size) × IsTrue (get_or bs (r + m) false))

-- so many answers from this number on are yes
abbrev pub AreAllYes : List Bool → ℕ → ℕ → Type 0
AreAllYes bs r count = (j : ℕ) → j < count → IsTrue (get_or bs (r + j) false)

-- one of them is
abbrev pub IsOneYes : List Bool → ℕ → ℕ → Type 0
IsOneYes bs r count = (j : ℕ) × (j < count) × IsTrue (get_or bs (r + j) false)

-- of these terms, whose answers stand from this number on, it is told
abbrev pub ArePartsTold : NetTerms → List Bool → ℕ → List Tree → Type 0
ArePartsTold w bs r xs = (j : ℕ) (x : Tree) → slice_get xs j ≡ Some x → IsTrue (get_or bs (r + j) false) ↔ HasEmpty w x
