-- Terms as plain trees (process algebra of Annex B of Z.120 in outline), and their weight.
use Rattle.std.specs.List.{list_any}
use Rattle.std.specs.Prelude.{ℕ, ◌+◌, Bool, false, List, [], ◌∷◌, Option, Some, None, ◌||◌, ◌==◌, length, true, ltb}
use Rattle.msc_base.specs.Patterns.{Mode}
use Rattle.hmsc_graph.specs.Graphs.{Spot, Goal}

-- an event: its number, its one or two instances, and its label
pub record TermEvent : Type 0 where
  pub number : ℕ
  pub at : ℕ
  pub also : Option ℕ
  pub label : ℕ

-- a set of instances and a set of event numbers
pub record Block : Type 0 where
  pub instances : List ℕ
  pub numbers : List ℕ

-- the number is in the set
abbrev pub has : List ℕ → ℕ → Bool
has ms n = list_any (λ m. m == n) ms

-- the number, if there is one, is in the set
abbrev pub has_some : List ℕ → Option ℕ → Bool
has_some ms None = false
has_some ms (Some n) = has ms n

-- where a member goes in a list that rises
abbrev pub add_at : Bool → Bool → ℕ → ℕ → List ℕ → List ℕ → List ℕ
add_at true b n m ms r = m ∷ ms
add_at false true n m ms r = n ∷ m ∷ ms
add_at false false n m ms r = m ∷ r

-- a set with one more member: a list that rises and repeats nothing stays so
abbrev pub add_member : ℕ → List ℕ → List ℕ
add_member n [] = n ∷ []
add_member n (m ∷ ms) = add_at (n == m) (ltb n m) n m ms (add_member n ms)

infixl 22 ◌∪◌
-- the union of two sets
abbrev pub ◌∪◌ : List ℕ → List ℕ → List ℕ
c ∪ [] = c
c ∪ (n ∷ d) = add_member n (c ∪ d)

-- the event has an instance or its number in the block
abbrev pub hits : Block → TermEvent → Bool
hits b e = (has b.instances e.at || has_some b.instances e.also) || has b.numbers e.number

-- a term: a process of events, weak sequences and parallel parts (Join), delayed choices, ties by pairs of numbers,
-- loops with a row of gaps and begun turns, and walks through a net
mutual
  pub data Tree : Type 0 where
    Nil : Tree
    Event : TermEvent → Tree
    Join : Mode → Trees → Tree
    Choice : Trees → Tree
    Tied : Tree → List (ℕ × ℕ) → Tree
    Loop : Tree → ℕ → Option ℕ → Row → Tree
    Walk : ℕ → Spot → Goal → List ℕ → Tree

  pub data Trees : Type 0 where
    none : Trees
    more : Tree → Trees → Trees

  pub data Row : Type 0 where
    ends : Row
    gap : List ℕ → Row → Row
    turn : Tree → Row → Row

-- the terms of a list of terms
abbrev pub items : Trees → List Tree
items none = []
items (more x xs) = x ∷ items xs

-- a list of terms
abbrev pub trees : List Tree → Trees
trees [] = none
trees (x ∷ xs) = more x (trees xs)

-- what a row holds: a gap with its block, or a begun turn
pub data Part : Type 0 where
  Gap : List ℕ → Part
  Turn : Tree → Part

-- the parts of a row
abbrev pub parts : Row → List Part
parts ends = []
parts (gap c r) = Gap c ∷ parts r
parts (turn x r) = Turn x ∷ parts r

-- a row of these parts
abbrev pub row_of : List Part → Row
row_of [] = ends
row_of (Gap c ∷ ps) = gap c (row_of ps)
row_of (Turn x ∷ ps) = turn x (row_of ps)

-- the weight of a term: how many parts it has
abbrev mutual
  pub weight : Tree → ℕ
  weight Nil = 1
  weight (Event e) = 1
  weight (Join m xs) = 1 + weights xs
  weight (Choice xs) = 1 + weights xs
  weight (Tied x q) = 1 + weight x + length q
  weight (Loop x lo hi r) = 1 + weight x + row_weight r
  weight (Walk n s t c) = 1

  pub weights : Trees → ℕ
  weights none = 0
  weights (more x xs) = weight x + weights xs

  pub row_weight : Row → ℕ
  row_weight ends = 0
  row_weight (gap c r) = 1 + row_weight r
  row_weight (turn x r) = weight x + row_weight r
