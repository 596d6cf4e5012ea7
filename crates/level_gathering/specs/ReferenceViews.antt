-- The plain references that lent ones stand for.
use Rattle.std.specs.Borrow.{Bor}
use Rattle.std.specs.Prelude.{List, map}
use Rattle.msc_tree.specs.Statements.{Reference}
use Rattle.msc_tree.specs.Views.{reference_view}
use Rattle.msc_tree.specs.declared.statement.RawReference.{RawReference}

abbrev pub references_view : List (Bor RawReference) → List Reference
references_view rs = map (λ (r : Bor RawReference). reference_view r.now) rs

-- of several levels
abbrev pub lists_view : List (List (Bor RawReference)) → List (List Reference)
lists_view ls = map references_view ls

-- of several charts
abbrev pub charts_view : List (List (List (Bor RawReference))) → List (List (List Reference))
charts_view cs = map lists_view cs
