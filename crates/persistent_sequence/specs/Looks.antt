-- What a look at a sequence shows.
use Rattle.std.specs.Prelude.{◌≡◌, ◌<◌, ◌++◌, List, length}
use Rattle.persistent_sequence.specs.declared.nodes.Look.{Look}
use Rattle.persistent_sequence.specs.declared.nodes.Look.TheVariants as show

-- the items of a leaf, or the parts of a fork, neither of which is empty
abbrev pub Shows : {T : Type 0} → List T → Look T (List T) → Type 0
Shows xs (show.Leaf items) = xs ≡ items.now
Shows xs (show.Fork first second) = (xs ≡ first.now ++ second.now) × (0 < length first.now) × (0 < length second.now)
