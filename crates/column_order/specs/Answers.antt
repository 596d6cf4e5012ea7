use Rattle.std.specs.Prelude.{ℕ, Vec, ⊤}
use Rattle.std.specs.Global.{Global}
use Rattle.column_order.specs.declared.sorting.Sorted.{Sorted}
use Rattle.column_order.specs.declared.sorting.Sorted.TheVariants.{Whole, Stuck}

abbrev pub IfWhole : Sorted → (Vec ℕ Global → Type 0) → Type 0
IfWhole (Whole order) P = P order
IfWhole (Stuck x) P = ⊤

abbrev pub IfStuck : Sorted → (ℕ → Type 0) → Type 0
IfStuck (Whole order) P = ⊤
IfStuck (Stuck x) P = P x
