-- The laws of woven lists.
use Rattle.std.specs.Prelude.{◌≡◌, ℕ, ◌<◌, zero, suc, List, [], ◌∷◌}
use Rattle.msc_base.specs.Lists.{IsAmong}
use Rattle.column_order.specs.Weaving.{ColumnOrders, IsWoven, IsCrossedAt}

-- at most one list is woven
abbrev pub WovenIsOne : Type 0
WovenIsOne = (n : ℕ) (columns : List (List ℕ)) (a b : List ℕ) → IsWoven n columns a → IsWoven n columns b → a ≡ b

-- a list is woven, or the columns cross
abbrev pub NeverWovenAndCrossed : Type 0
NeverWovenAndCrossed = (n : ℕ) (columns : List (List ℕ)) (a : List ℕ) (x : ℕ) → IsWoven n columns a → IsCrossedAt n columns x → ⊥

-- they cross at one item
abbrev pub CrossedIsOne : Type 0
CrossedIsOne = (n : ℕ) (columns : List (List ℕ)) (x y : ℕ) → IsCrossedAt n columns x → IsCrossedAt n columns y → x ≡ y

-- so many numbers from k on
abbrev pub numbers_from : ℕ → ℕ → List ℕ
numbers_from k zero = []
numbers_from k (suc m) = k ∷ numbers_from (suc k) m

-- each column has items of the text, in its order
abbrev pub AreInOrder : ℕ → List (List ℕ) → Type 0
AreInOrder n columns = (column : List ℕ) → IsAmong columns column → ((x : ℕ) → IsAmong column x → x < n) × ((y x : ℕ) → ColumnOrders column y x → y < x)

-- where each column is in the order of the text, that order is the woven list
abbrev pub TextIsWoven : Type 0
TextIsWoven = (n : ℕ) (columns : List (List ℕ)) → AreInOrder n columns → IsWoven n columns (numbers_from 0 n)
