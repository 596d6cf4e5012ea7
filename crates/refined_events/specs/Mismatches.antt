-- A decomposed instance whose refining chart doesn't have its events (Z.120, clause 7.4).
use Rattle.std.specs.Prelude.{◌≡◌, ℕ, List}
use Rattle.std.specs.List.{count_by}
use Rattle.msc_meaning.specs.Bodies.{EventNode}
use Rattle.msc_meaning.specs.Refinements.{env_events, events_at, is_like}

-- of some direction and text the instance has another number of events of its level than the refining chart has events of its own with the
-- environment as their other end
pub record Mismatches (instance : List ℕ) (held inner : List EventNode) : Type 0 where
  pub like : EventNode
  pub differs : count_by (is_like like) (events_at instance held) ≡ count_by (is_like like) (env_events inner) → ⊥
