-- The rules by which a pattern of a term stands for an unfolding.
use Rattle.std.specs.Prelude.{ℕ, false, List, map, ◌≡◌}
use Rattle.msc_base.specs.Orders.{IsLinear}
use Rattle.msc_base.specs.Patterns.{Mode, empty, one, join, bind, Position, event_at, Before}
use Rattle.msc_unfolding.specs.Unfoldings.{Happening, Tie, Unfolding, plain}
use Rattle.chart_term.specs.TermPatterns.{Shape, numbered, Both, ◌≈◌}
use Rattle.chart_term.specs.Terms.{TermEvent}
use Rattle.term_meaning.specs.Standings.{Stands}

-- below a tie events of the two agree by In, above it by Out
pub record StandingRules (In Out : TermEvent → Happening → Type 0) : Type 0 where
  pub empties : Stands numbered plain In empty empty
  pub events : (e : TermEvent) (h : Happening) → In e h → Stands numbered plain In (one e) (one h)
  -- where events that agree meet alike
  pub joins : ((a b : TermEvent) (c d : Happening) → In a c → In b d → numbered.meets a b ≡ plain.meets c d)
      → (m : Mode) (x y : Shape) (s v : Unfolding) → Stands numbered plain In x s → Stands numbered plain In y v → Stands numbered plain In (join m x y) (join m s v)
  -- where both ties say the same of events that agree
  pub ties : (q : List (ℕ × ℕ)) (t : Tie) → ((e : TermEvent) (h : Happening) → In e h → Out (numbered.carries q e) (plain.carries t h))
      → ((a b : TermEvent) (c d : Happening) → In a c → In b d → numbered.adds q a b ≡ plain.adds t c d)
      → (x : Shape) (s : Unfolding) → Stands numbered plain In x s → Stands numbered plain Out (bind x q) (bind s t)
  -- a tie without pairs
  pub passes : (t : Tie) → ((e : TermEvent) (h : Happening) → In e h → Out e (plain.carries t h)) → ((c d : Happening) → plain.adds t c d ≡ false)
      → (x : Shape) (s : Unfolding) → Stands numbered plain In x s → Stands numbered plain Out x (bind s t)
  -- what more is known of the events of the pattern
  pub knows : (x : Shape) (s : Unfolding) → ((i : Position x) (h : Happening) → In (event_at numbered x i) h → Out (event_at numbered x i) h)
      → Stands numbered plain In x s → Stands numbered plain Out x s
  pub same : (x y : Shape) (s : Unfolding) → x ≈ y → Both (Stands numbered plain In x s) (Stands numbered plain In y s)
  -- linear orders go over, and back
  pub there : (x : Shape) (s : Unfolding) (h : Stands numbered plain In x s) (l : List (Position x)) → IsLinear (Before numbered x) l → IsLinear (Before plain s) (map h.to l)
  pub here : (x : Shape) (s : Unfolding) (h : Stands numbered plain In x s) (l : List (Position s)) → IsLinear (Before plain s) l → IsLinear (Before numbered x) (map h.from l)
