-- The woven list of a level. Its items are numbered in the order of their places; a column is the list of
-- the items of one instance.
use Rattle.std.specs.Prelude.{◌≡◌, ℕ, ◌<◌, List, [], ◌∷◌, ◌⊎◌, filter}
use Rattle.msc_base.specs.Lists.{AreDifferent, IsAmong}
use Rattle.column_order.specs.Orders.{IsEarliestFirst, IsStuckAt}
use Rattle.column_order.specs.Counts.{has}

-- in the column, y stands before x
abbrev pub ColumnOrders : List ℕ → ℕ → ℕ → Type 0
ColumnOrders [] y x = ⊥
ColumnOrders (c ∷ cs) y x = ((c ≡ y) × IsAmong cs x) ⊎ ColumnOrders cs y x

-- in one of the columns, y stands before x
abbrev pub ColumnsOrder : List (List ℕ) → ℕ → ℕ → Type 0
ColumnsOrder [] y x = ⊥
ColumnsOrder (column ∷ columns) y x = ColumnOrders column y x ⊎ ColumnsOrder columns y x

-- the items of the list that stand in the column
abbrev pub restricted : List ℕ → List ℕ → List ℕ
restricted column xs = filter (has column) xs

-- each item once, each column in its order, and at each position the earliest item whose predecessors in all its columns stand before
pub record IsWoven (n : ℕ) (columns : List (List ℕ)) (woven : List ℕ) : Type 0 where
  pub inside : (x : ℕ) → IsAmong woven x → x < n
  pub every : (x : ℕ) → x < n → IsAmong woven x
  pub once : AreDifferent woven
  pub columns_are : (column : List ℕ) → IsAmong columns column → restricted column woven ≡ column
  pub earliest : IsEarliestFirst n (ColumnsOrder columns) woven

-- no remaining item is due, and x is the earliest that remains
abbrev pub IsCrossedAt : ℕ → List (List ℕ) → ℕ → Type 0
IsCrossedAt n columns x = IsStuckAt n (ColumnsOrder columns) x
