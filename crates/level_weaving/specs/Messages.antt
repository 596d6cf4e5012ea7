-- Serves private contracts alone.
-- Outputs and inputs by their positions among the events of a level: of each message with its pairing name, the k-th input takes in
-- what the k-th output puts out.
use Rattle.std.specs.Prelude.{◌≡◌, ◌⊎◌, ℕ, Bool, false, ◌&&◌, List, [], ◌∷◌, ◌++◌, take, count_by, Option, Some, None, slice_get}
use Rattle.msc_tree.specs.declared.event.Direction.{Direction}
use Rattle.msc_tree.specs.declared.event.Direction.TheVariants.{Out, In}
use Rattle.msc_tree.specs.Directions.{far_name, is_direction, way_by}
use Rattle.msc_base.specs.declared.label.Kind.{Kind}
use Rattle.msc_base.specs.declared.label.Kind.TheVariants.{Input}
use Rattle.msc_base.specs.declared.place.Place.{Place}
use Rattle.msc_tree.specs.Labels.{list_text}
use Rattle.msc_meaning.specs.Bodies.{EventNode}
use Rattle.msc_meaning.specs.Pairing.{Key}
use Rattle.msc_meaning.specs.Pairing as plain

abbrev pub way : EventNode → Option Direction
way e = way_by e.event.kind e.event.target

abbrev pub goes : Direction → Option Direction → Bool
goes direction None = false
goes direction (Some other) = is_direction direction other

-- the tokens of the text, without blanks between them: a list in parentheses behind the name of a message is part of its text
abbrev pub text_of : EventNode → List ℕ
text_of e = e.event.text ++ list_text e.event.parameters

-- ---- pairs

abbrev pub key_by : Kind → List ℕ → List ℕ → List ℕ → Option (List ℕ) → Key
key_by Input at far text pairing = record { sender = far; receiver = at; text = text; pairing = pairing }
key_by _ at far text pairing = record { sender = at; receiver = far; text = text; pairing = pairing }

abbrev pub key_of : EventNode → Key
key_of e = key_by e.event.kind e.at (far_name e.event.target) (text_of e) e.event.pairing

abbrev pub is_key : Key → Key → Bool
is_key k l = plain.is_key k (l ∷ [])

-- how many of the events put out, or take in, what has this key
abbrev pub ends_of : Direction → Key → List EventNode → ℕ
ends_of direction k events = count_by (λ e. goes direction (way e) && is_key k (key_of e)) events

-- the events at positions p and q are an output and an input of one key, and for some k each is the k-th of its direction
pub record IsPaired (events : List EventNode) (p q : ℕ) : Type 0 where
  pub output : EventNode
  pub input : EventNode
  pub output_at : slice_get events p ≡ Some output
  pub input_at : slice_get events q ≡ Some input
  pub puts : way output ≡ Some Out
  pub takes : way input ≡ Some In
  pub same : key_of output ≡ key_of input
  pub ranked : ends_of Out (key_of output) (take p events) ≡ ends_of In (key_of input) (take q events)

-- an output to an instance or an input from one that is paired with none, and where it stands
pub record IsUnmatched (events : List EventNode) (place : Place) : Type 0 where
  pub number : ℕ
  pub event : EventNode
  pub direction : Direction
  pub event_at : slice_get events number ≡ Some event
  pub message : way event ≡ Some direction
  pub alone : (q : ℕ) → IsPaired events number q ⊎ IsPaired events q number → ⊥
  pub there : event.event.place ≡ place
