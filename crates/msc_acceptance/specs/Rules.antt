-- The places at which the charts of a document break each rule.
use Rattle.std.specs.Prelude.{◌≡◌, ℕ, Bool, true, not, ◌&&◌, ◌⊎◌, nat_lt, List, [], ◌∷◌, fold, length, option_map, Some, slice_get}
use Rattle.std.specs.List.{list_any}
use Rattle.std.specs.Str.{bytes_eq}
use Rattle.msc_base.specs.NameTables.{with_name}
use Rattle.msc_base.specs.declared.limits.TheConstants.Limits.{CHARTS, INSTANCES}
use Rattle.msc_base.specs.declared.place.Place.{Place}
use Rattle.msc_tree.specs.Charts.{Chart}
use Rattle.msc_instances.specs.Instances.{instances}

-- at that place it holds of one of the charts
abbrev pub InOne : (Chart → Place → Type 0) → List Chart → Place → Type 0
InOne Holds [] place = ⊥
InOne Holds (c ∷ charts) place = Holds c place ⊎ InOne Holds charts place

-- ---- limits

-- the first chart above the limit stands there
abbrev pub IsFurther : List Chart → Place → Type 0
IsFurther charts place = option_map (λ (c : Chart). c.place) (slice_get charts CHARTS) ≡ Some place

-- whether a number that was within the limit has passed it
abbrev pub passes : ℕ → ℕ → ℕ → Bool
passes limit before now = not (nat_lt limit before) && nat_lt limit now

-- the chart whose instances bring the number of different names above the limit stands there, behind charts with these names
abbrev pub HasFurther : List (List ℕ) → List Chart → Place → Type 0
HasFurther seen [] place = ⊥
HasFurther seen (c ∷ charts) place =
    ((c.place ≡ place) × (passes INSTANCES (length seen) (length (fold with_name seen (instances c))) ≡ true)) ⊎ HasFurther (fold with_name seen (instances c)) charts place

-- ---- names

-- a chart that has the name of an earlier one stands there, behind charts of these names
abbrev pub IsNamedAgain : List (List ℕ) → List Chart → Place → Type 0
IsNamedAgain seen [] place = ⊥
IsNamedAgain seen (c ∷ charts) place = ((c.place ≡ place) × (list_any (bytes_eq c.name) seen ≡ true)) ⊎ IsNamedAgain (with_name seen c.name) charts place
