-- What a pattern with places is for a log, of which the labels are known by number: a run of it.
use Rattle.std.specs.Prelude.{ℕ, suc, ◌<◌, ◌≡◌, List, Some, length, slice_get}
use Rattle.msc_base.specs.Patterns.{Position, Before}
use Rattle.certificates.specs.Certificates.{PlacedShape, placed, place_at, label_at}

-- its events stand at the places of the log, each at one, with the labels that the log has there, and each pair goes forward
pub record IsRunOf (run : List ℕ) (pattern : PlacedShape) : Type 0 where
  pub labelled : (i : Position pattern) → (k : ℕ) × (place_at pattern i ≡ suc k) × (slice_get run k ≡ Some (label_at pattern i))
  pub once : (i j : Position pattern) → place_at pattern i ≡ place_at pattern j → i ≡ j
  pub every : (k : ℕ) → k < length run → (i : Position pattern) × (place_at pattern i ≡ suc k)
  pub forward : (i j : Position pattern) → Before placed pattern i j → place_at pattern i < place_at pattern j
