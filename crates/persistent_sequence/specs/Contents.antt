-- The items that a node holds.
use Rattle.std.specs.Prelude.{◌<◌, List, length, ◌++◌}
use Rattle.persistent_sequence.specs.declared.nodes.Form.{Form}
use Rattle.persistent_sequence.specs.declared.nodes.Form.TheVariants as form

-- the items of a node
abbrev pub items_of : {T F : Type 0} → Form T F → List T
items_of (form.Leaf xs) = xs.items
items_of (form.Fork x y) = x ++ y

-- each part of a fork has an item
abbrev pub IsFull : {T F : Type 0} → Form T F → Type 0
IsFull (form.Leaf xs) = Unit {0}
IsFull (form.Fork x y) = (0 < length x) × (0 < length y)
