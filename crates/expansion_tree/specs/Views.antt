-- The plain trees that the types of this crate stand for.
use Rattle.std.specs.Prelude.{List, map}
use Rattle.std.specs.Box.{box_value}
use Rattle.expansion_tree.specs.declared.tree.Expansion.{Expansion, fold-Expansion}
use Rattle.expansion_tree.specs.declared.tree.Expansion.TheOpen.{Expansion-F}
use Rattle.expansion_tree.specs.Expansions as plain
use Rattle.expansion_tree.specs.Numbered as numbered

abbrev pub expansion_step : Expansion-F numbered.Expansion → numbered.Expansion
expansion_step (Expansion-F.Event event) = plain.Event event
expansion_step (Expansion-F.InRow parts) = plain.InRow (plain.expansions parts.items)
expansion_step (Expansion-F.Aside parts) = plain.Aside (plain.expansions parts.items)
expansion_step (Expansion-F.OneOf parts) = plain.OneOf (plain.expansions parts.items)
expansion_step (Expansion-F.Exception part) = plain.Exception (box_value part)
expansion_step (Expansion-F.Turns number lower upper part) = plain.Turns number lower upper (box_value part)
expansion_step (Expansion-F.Tied part pairs) = plain.Tied (box_value part) pairs
expansion_step (Expansion-F.Walk number shape parts) = plain.Walk number shape (plain.expansions parts.items)

abbrev pub expansion_view : Expansion → numbered.Expansion
expansion_view = fold-Expansion numbered.Expansion expansion_step

abbrev pub expansions_view : List Expansion → numbered.Expansions
expansions_view xs = plain.expansions (map expansion_view xs)
