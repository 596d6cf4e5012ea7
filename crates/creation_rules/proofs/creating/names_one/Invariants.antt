use Rattle.std.proofs.Common.{◌≡◌, ◌||◌, drop}
use Rattle.std.specs.List.{list_any}
use Rattle.std.specs.Str.{bytes_eq}
use Rattle.creation_rules.proofs.creating.names_one.Given as goal

abbrev pub invariant-loop-name : goal.invariant-loop-name
invariant-loop-name l = (l.one || list_any (bytes_eq l.child) (drop l.name-index l.names)) ≡ list_any (bytes_eq l.child) l.names
