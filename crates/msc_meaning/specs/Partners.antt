-- Outputs and inputs that have no partner, on one of the levels of a body.
use Rattle.std.specs.Prelude.{◌≡◌, ◌⊎◌, ℕ, [], ◌∷◌, List, Some, slice_get}
use Rattle.msc_base.specs.declared.place.Place.{Place}
use Rattle.msc_meaning.specs.Bodies.{EventNode, Body}
use Rattle.msc_meaning.specs.BodyLevels.{BodyLevel, SomeLevel, body_levels, level_events}
use Rattle.msc_meaning.specs.Pairing.{Key, output_key, input_key, IsPaired}

-- of the events of a level, an output to an instance or an input from one that is paired with none, and where it stands
pub record IsUnmatched (held : List EventNode) (place : Place) : Type 0 where
  pub position : ℕ
  pub node : EventNode
  pub key : Key
  pub node_at : slice_get held position ≡ Some node
  pub message : (output_key node ≡ key ∷ []) ⊎ (input_key node ≡ key ∷ [])
  pub alone : (q : ℕ) → IsPaired held node.number q ⊎ IsPaired held q node.number → ⊥
  pub there : node.event.place ≡ place

-- one stands there on one of the levels
abbrev pub LevelsLackPartner : List BodyLevel → Place → Type 0
LevelsLackPartner levels place = SomeLevel (λ l. IsUnmatched (level_events l.body) place) levels

-- on one of the levels of the body
abbrev pub LacksPartner : Body → Place → Type 0
LacksPartner b = LevelsLackPartner (body_levels b)
