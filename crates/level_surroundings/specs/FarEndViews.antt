-- The far ends that decomposition gives to events, as the code holds them.
use Rattle.std.specs.BTreeMap.{BTreeMap, get}
use Rattle.std.specs.Ordering.{nat_cmp}
use Rattle.std.specs.Prelude.{◌≡◌, ℕ, List, Option, Some, option_map}
use Rattle.msc_base.specs.declared.label.Far.{Far}
use Rattle.msc_base.specs.declared.label.Far.TheVariants as far
use Rattle.msc_meaning.specs.FarEnds.{no_far}
use Rattle.msc_meaning.specs.Refinements.{Match, far_by}
use Rattle.level_surroundings.specs.declared.far_ends.FarAt.{FarAt}
use Rattle.level_surroundings.specs.declared.far_ends.FarAt.TheVariants as far_at
use Rattle.level_surroundings.specs.declared.far_ends.FarEnds.{FarEnds}
use Rattle.level_surroundings.specs.declared.far_ends.FarEnds.TheVariants.{Written, Changed}

abbrev pub far_view : FarAt → Far
far_view far_at.Nobody = far.Nobody
far_view far_at.Env = far.Env
far_view (far_at.Instance name) = far.Instance name.now

-- the map's far end of the event
abbrev pub far_in : BTreeMap ℕ FarAt → ℕ → Option Far
far_in map n = option_map far_view (get nat_cmp map n)

abbrev pub far_ends_view : FarEnds → ℕ → Option Far
far_ends_view Written = no_far
far_ends_view (Changed map) = far_in map

-- the map has these far ends
abbrev pub HasFar : BTreeMap ℕ FarAt → (ℕ → Option Far) → Type 0
HasFar map f = (n : ℕ) → far_in map n ≡ f n

-- the map has by the number of an event the instance of the event that stands for it
abbrev pub HasStanding : BTreeMap ℕ FarAt → List Match → Type 0
HasStanding map ms = HasFar map (λ n. far_by ms (Some n))
