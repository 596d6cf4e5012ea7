-- What lists of few names, and of few items, stand for.
use Rattle.std.specs.Box.{box_value}
use Rattle.std.specs.Prelude.{List, ℕ, [], ◌∷◌, Option, Some, None}
use Rattle.msc_tree.specs.declared.few_names.Held.{Held}
use Rattle.msc_tree.specs.declared.few_names.Held.TheVariants as name
use Rattle.msc_tree.specs.declared.parameters.Listed.{Listed}
use Rattle.msc_tree.specs.declared.parameters.Listed.TheVariants as item

abbrev pub names_of : Held → List (List ℕ)
names_of (name.One one) = one ∷ []
names_of (name.Few names) = names
names_of (name.Many many) = box_value many

abbrev pub items_of : Listed → Option (List (List ℕ))
items_of item.Nothing = None
items_of (item.One one) = Some (one ∷ [])
items_of (item.Several items) = Some items
