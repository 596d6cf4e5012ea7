-- The k-th output of a class is paired with its k-th input. An end is an edge from its class to its event.
use Rattle.std.specs.Prelude.{◌≡◌, ◌≤◌, ⊤, ℕ, ◌+◌, List, [], ◌∷◌, ◌++◌, Option, Some, None, slice_get, take, nat_eq, if◌then◌else◌, suc}
use Rattle.column_order.specs.declared.edge.Edge.{Edge}
use Rattle.column_order.specs.Counts.{targets}

-- how many of the ends are of the class
abbrev pub count : ℕ → List Edge → ℕ
count c [] = 0
count c (e ∷ es) = (if nat_eq e.from c then 1 else 0) + count c es

-- event p is an end of class c, and k ends of the class stand before it
pub record IsKth (ends : List Edge) (c k p : ℕ) : Type 0 where
  pub i : ℕ
  pub at : slice_get ends i ≡ Some (record { from = c; to = p })
  pub before : count c (take i ends) ≡ k

-- p and q are the k-th output and the k-th input of a class
pub record IsPair (outs ins : List Edge) (p q : ℕ) : Type 0 where
  pub class : ℕ
  pub k : ℕ
  pub output : IsKth outs class k p
  pub input : IsKth ins class k q

-- the pair of an output, where it has an input
abbrev pub pair_with : ℕ → Option ℕ → List Edge
pair_with p None = []
pair_with p (Some q) = record { from = p; to = q } ∷ []

-- the pairs of these outputs, before which others stand in front; they stand in the order of their outputs
abbrev pub pairs_behind : List Edge → List Edge → List Edge → List Edge
pairs_behind prefix [] ins = []
pairs_behind prefix (e ∷ es) ins = pair_with e.to (slice_get (targets ins e.from) (count e.from prefix)) ++ pairs_behind (prefix ++ e ∷ []) es ins

-- the numbers of the events rise along the ends, from n on
abbrev pub RiseTo : ℕ → List Edge → Type 0
RiseTo n [] = ⊤
RiseTo n (e ∷ es) = (n ≤ e.to) × RiseTo (suc e.to) es

-- the numbers of the outputs rise along the pairs, from n on
abbrev pub RiseFrom : ℕ → List Edge → Type 0
RiseFrom n [] = ⊤
RiseFrom n (e ∷ es) = (n ≤ e.from) × RiseFrom (suc e.from) es
