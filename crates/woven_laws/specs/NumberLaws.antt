-- The law of the numbers of the events of woven bodies.
use Rattle.std.specs.Prelude.{ℕ, List, map}
use Rattle.msc_base.specs.Orders.{Once}
use Rattle.msc_tree.specs.Statements.{Statements}
use Rattle.msc_meaning.specs.Bodies.{EventNode, Body}
use Rattle.msc_meaning.specs.Levels.{IsWovenLevel}
use Rattle.msc_meaning.specs.Pieces.{statements_pieces}
use Rattle.chart_forms.specs.BodyEvents.{events_within}

-- the numbers of the events of the body that a chart's statements are woven to, at any depth, differ
abbrev pub WovenNumbersDiffer : Type 0
WovenNumbersDiffer = (names : List (List ℕ)) (first : ℕ) (held : Statements) (b : Body) → IsWovenLevel names (statements_pieces names first held) b → Once (map (λ (n : EventNode). n.number) (events_within b))
