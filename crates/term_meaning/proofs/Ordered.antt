-- Patterns that stand for unfoldings with linear orders have linear orders.
use Rattle.std.specs.Prelude.{List, map}
use Rattle.std.proofs.Common.{refl}
use Rattle.msc_base.specs.Orders.{IsLinear}
use Rattle.msc_base.specs.Patterns.{Position, Before}
use Rattle.msc_unfolding.specs.Unfoldings.{Happening, Unfolding, plain}
use Rattle.chart_term.specs.TermPatterns.{Shape, numbered}
use Rattle.chart_term.specs.TermRuns.{labels}
use Rattle.chart_term.specs.Terms.{TermEvent}
use Rattle.term_laws.specs.Sound.{HasOrder}
use Rattle.term_meaning.specs.Meanings.{Mean}
use Rattle.term_meaning.specs.Standings.{Stands}
use Rattle.term_meaning.proofs.Standing.{stands_here}

pub stood_order : (Same : TermEvent → Happening → Type 0) (s : Shape) (u : Unfolding) → Stands numbered plain Same s u → (l : List (Position u)) → IsLinear (Before plain u) l → HasOrder s
stood_order Same s u h l k = record { run = labels s (map h.from l); is = record { order = map h.from l; linear = stands_here numbered plain Same s u h l k; are = refl } }

-- where each of the unfoldings has a linear order each pattern has one
pub mean_ordered : (Same : TermEvent → Happening → Type 0) (P : Shape → Type 0) (U : Unfolding → Type 0) → Mean Same P U → ((u : Unfolding) → U u → (l : List (Position u)) × IsLinear (Before plain u) l) → (s : Shape) → P s → HasOrder s
mean_ordered Same P U m orders s p = let i = m.each s p in let (l, h) = orders i.of i.is in stood_order Same s i.of i.stands l h
