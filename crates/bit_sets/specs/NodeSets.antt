-- Sets of node numbers.
use Rattle.std.specs.Prelude.{ℕ, ◌<◌, List}
use Rattle.bit_sets.specs.Blocks.{has_bit, numbers_that}
use Rattle.msc_base.specs.Lists.{IsIn}

-- the size of the graph that the set is for, and its numbers, which rise
pub record NodeSetValue : Type 0 where
  pub size : ℕ
  pub nodes : List ℕ

-- the numbers below the size whose bits the words have
abbrev pub numbers_in : ℕ → List ℕ → List ℕ
numbers_in size words = numbers_that (has_bit words) size 0

-- no number is in the set
abbrev pub HasNoNodes : NodeSetValue → Type 0
HasNoNodes set = (n : ℕ) → IsIn n set.nodes → ⊥

-- each number below the size is in the set
abbrev pub HasAllNodes : NodeSetValue → Type 0
HasAllNodes set = (n : ℕ) → n < set.size → IsIn n set.nodes
