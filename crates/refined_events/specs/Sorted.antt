-- Serves private contracts alone.
-- Events by their direction and text, and how many of these stand before.
use Rattle.std.specs.List.{count_by}
use Rattle.std.specs.Option.{unwrap_or}
use Rattle.std.specs.Prelude.{◌≡◌, ◌⊎◌, ◌&&◌, ◌+◌, ◌∷◌, ℕ, Bool, List, [], Option, None, Some, filter, if◌then◌else◌, nat_eq, option_map, slice_get}
use Rattle.indexmap.specs.IndexMap.{get_by}
use Rattle.msc_meaning.specs.Bodies.{EventNode}
use Rattle.msc_meaning.specs.EventLabels.{text_of}
use Rattle.msc_meaning.specs.Views.{node_view}
use Rattle.refined_events.specs.Keys.{Key, is_of, is_same_key, key_view, way}
use Rattle.refined_events.specs.declared.counts.Counts.{Counts}
use Rattle.refined_events.specs.declared.placed.PlaceKey.{PlaceKey}
use Rattle.refined_events.specs.declared.placed.PlacedEvents.{PlacedEvents}

-- the number of events of the key
abbrev pub count_of : Counts → Key → ℕ
count_of c k = unwrap_or (get_by (λ key. is_same_key k (key_view key)) c.held) 0

abbrev pub is_place : Key → ℕ → PlaceKey → Bool
is_place k n p = is_same_key k (key_view p.key) && nat_eq n p.before

-- the event of the key before which so many of it stand
abbrev pub placed_at : PlacedEvents → Key → ℕ → Option EventNode
placed_at p k n = option_map (λ b. node_view b.now) (get_by (is_place k n) p.held)

-- the counts are those of the events
abbrev pub AreCounts : List EventNode → Counts → Type 0
AreCounts es c = (k : Key) → count_of c k ≡ count_by (is_of k) es

-- the events are these
pub record AreSorted (ds : List EventNode) (p : PlacedEvents) : Type 0 where
  pub counts : AreCounts ds p.counts
  pub placed : (k : Key) (n : ℕ) → placed_at p k n ≡ slice_get (filter (is_of k) ds) n

-- one more event is placed, which has that key
pub record IsPlaced (old : PlacedEvents) (key : Key) (d : EventNode) (new : PlacedEvents) : Type 0 where
  pub counts : (k : Key) → count_of new.counts k ≡ (if is_same_key k key then 1 else 0) + count_of old.counts k
  pub placed : (k : Key) (n : ℕ) → placed_at new k n ≡ (if is_same_key k key && nat_eq n (count_of old.counts key) then Some d else placed_at old k n)

-- a message event of that kind, and with that text, of whose direction and text there are other numbers
abbrev pub HasOtherBy : Counts → Counts → Option Bool → List ℕ → Type 0
HasOtherBy a b None text = ⊥
HasOtherBy a b (Some output) text = count_of a (record { output = output; text = text }) ≡ count_of b (record { output = output; text = text }) → ⊥

abbrev pub HasOther : Counts → Counts → EventNode → Type 0
HasOther a b e = HasOtherBy a b (way e.event.kind) (text_of e)

-- one of the events is
abbrev pub HaveOther : Counts → Counts → List EventNode → Type 0
HaveOther a b [] = ⊥
HaveOther a b (e ∷ es) = HasOther a b e ⊎ HaveOther a b es
