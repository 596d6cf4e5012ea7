use Rattle.std.proofs.Common.{◌≡◌, ◌||◌, drop}
use Rattle.std.specs.List.{list_any}
use Rattle.std.specs.Str.{bytes_eq}
use Rattle.std.specs.Prelude.{not}
use Rattle.refinement_rules.proofs.sharing.has_other.Given as goal

abbrev pub invariant-loop-name : goal.invariant-loop-name
invariant-loop-name l = (l.one || list_any (λ m. not (bytes_eq l.first m)) (drop l.name-index l.names)) ≡ list_any (λ m. not (bytes_eq l.first m)) l.names
