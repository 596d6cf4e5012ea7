-- The edges between neighbours of columns, and columns that are given entry by entry.
use Rattle.std.specs.Prelude.{Option, None, Some, ℕ, zero, suc, List, [], ◌∷◌, Vec, map}
use Rattle.std.specs.List.{flat_map}
use Rattle.std.specs.Global.{Global}
use Rattle.column_order.specs.declared.edge.Edge.{Edge}
use Rattle.column_order.specs.Counts.{targets}

abbrev pub from_to : ℕ → List ℕ → List Edge
from_to c [] = []
from_to c (d ∷ ds) = record { from = c; to = d } ∷ from_to d ds

abbrev pub neighbours : List ℕ → List Edge
neighbours [] = []
neighbours (c ∷ cs) = from_to c cs

abbrev pub all_neighbours : List (List ℕ) → List Edge
all_neighbours columns = flat_map neighbours columns

abbrev pub items_of : List (Vec ℕ Global) → List (List ℕ)
items_of vs = map (λ v. v.items) vs

-- the edges to the items that are left, behind an earlier one
abbrev pub onward : Option ℕ → List ℕ → List Edge
onward None cs = neighbours cs
onward (Some c) cs = from_to c cs

-- so many columns from k on, by entries that lead from columns to items
abbrev pub columns_from : ℕ → ℕ → List Edge → List (List ℕ)
columns_from k zero entries = []
columns_from k (suc n) entries = targets entries k ∷ columns_from (suc k) n entries
