-- The patterns of a term that a region draws have linear orders.
use Rattle.std.specs.Prelude.{ℕ, ◌≡◌, true}
use Rattle.msc_base.specs.Patterns.{Position, event_at}
use Rattle.chart_term.specs.Tables.{Tables, terms_over, node_of}
use Rattle.chart_term.specs.TermMeanings.{HasPattern}
use Rattle.chart_term.specs.TermPatterns.{Shape, numbered}
use Rattle.chart_term.specs.Terms.{TermEvent, Tree}
use Rattle.term_laws.specs.FullSoundness.{AreSoundNets, HasOrders}
use Rattle.sound_terms.specs.Regions.{Region, Placed, Draws}

-- the event is at a position of a pattern of a node's term
pub record NetHolds (w : Tables) (n : ℕ) (e : TermEvent) : Type 0 where
  pub node : ℕ
  pub pattern : Shape
  pub has : HasPattern (terms_over w) true (node_of w n node) pattern
  pub position : Position pattern
  pub is : event_at numbered pattern position ≡ e

-- v gives the vertex of each event number, f the place of each vertex: where the order places the region that draws the term, each pattern
-- of the term has a linear order
pub record DrawnAreOrdered : Type 0 where
  pub ordered : (labels : ℕ) (w : Tables) (v f : ℕ → ℕ) (x : Tree) (g : Region) → AreSoundNets labels w → Draws (NetHolds w) v f x g → Placed f g → HasOrders w x
