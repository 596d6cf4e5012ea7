-- Sets of terms under numbers, and the moves between them that are remembered.
use Rattle.std.specs.Prelude.{ℕ, zero, suc, ◌+◌, ◌≡◌, ◌≤◌, ◌<◌, ◌⊎◌, Bool, List, [], ◌∷◌, ◌++◌, length, Option, Some, None}
use Rattle.msc_base.specs.declared.label.Label.{Label}
use Rattle.msc_base.specs.Lists.{IsAmong}
use Rattle.term_tables.specs.NetValues.{NetsValue, label_number}
use Rattle.msc_base.specs.declared.limits.TheConstants.Limits.{BUDGET_MOST}
use Rattle.term_sets.specs.declared.bounds.Bounds.{Bounds}
use Rattle.term_sets.specs.declared.memory.Move.{Move}
use Rattle.term_sets.specs.declared.pool.TheConstants.Pool.{LIGHT, HELD_MOST, ROWS_MOST}
use Rattle.term_sets.specs.declared.pool.Held.{Held}
use Rattle.term_sets.specs.declared.pool.Held.TheVariants.{Remembered, Loose}
use Rattle.chart_term.specs.Properties.{Each}
use Rattle.chart_term.specs.Terms.{Tree}
use Rattle.term_laws.specs.Listing.{set_weight}
use Rattle.trace_judge.specs.Sets.{SetValue, IsSoundFor, AreSuccessors}
use Rattle.term_successors.specs.Successors.{AreRising}

-- sets of terms by their numbers, and the moves between them that are remembered, within bounds
pub record MemoryValue : Type 0 where
  pub bounds : Bounds
  pub sets : List (List Tree)
  pub moves : List Move

-- the set of that number; beyond the list the empty set
abbrev pub set_at : List (List Tree) → ℕ → List Tree
set_at [] s = []
set_at (k ∷ ks) zero = k
set_at (k ∷ ks) (suc s) = set_at ks s

-- the weights of all sets together
abbrev pub held_weight : List (List Tree) → ℕ
held_weight [] = 0
held_weight (k ∷ ks) = set_weight k + held_weight ks

-- the list is the same, or has the item more
abbrev pub Gains : {A : Type 0} → List A → A → List A → Type 0
Gains old item new = (new ≡ old) ⊎ (new ≡ old ++ item ∷ [])

-- a memory within its bounds: the weight of each set and of all, and how many sets and moves there are
pub record IsBounded (bounds : Bounds) (held : ℕ) (sets : List (List Tree)) (moves : List Move) : Type 0 where
  pub light : (s : ℕ) → set_weight (set_at sets s) ≤ bounds.light
  pub held_is : held ≡ held_weight sets
  pub most_held : held ≤ bounds.held
  pub few_sets : length sets ≤ bounds.rows
  pub few_moves : length moves ≤ bounds.rows

-- a move from the set at the label number to the other set is remembered
pub record HasMove (moves : List Move) (from label to : ℕ) : Type 0 where
  pub move : Move
  pub among : IsAmong moves move
  pub from_is : move.from ≡ from
  pub label_is : move.label ≡ label
  pub to_is : move.to ≡ to

-- the terms are sound for the tables and rise, and they are within the budget
pub record IsSetFor (v : NetsValue) (budget : ℕ) (terms : List Tree) : Type 0 where
  pub sound : Each (IsSoundFor v) terms
  pub rising : AreRising terms
  pub within : set_weight terms ≤ budget

-- what an event with a label of the move's number leaves of the terms of the one set are exactly the terms of the other
pub record IsMove (v : NetsValue) (sets : List (List Tree)) (m : Move) : Type 0 where
  pub from : m.from < length sets
  pub to : m.to < length sets
  pub next : (a : Label) → label_number v.labels a ≡ Some m.label → AreSuccessors v a (set_at sets m.from) (set_at sets m.to)

-- the memory serves the tables: each set does, and each move is a step of the definition
pub record IsMemoryFor (v : NetsValue) (budget : ℕ) (m : MemoryValue) : Type 0 where
  pub sets : (s : ℕ) → IsSetFor v budget (set_at m.sets s)
  pub moves : (p : Move) → IsAmong m.moves p → IsMove v m.sets p

-- the terms of what is held
abbrev pub held_terms : MemoryValue → Held → List Tree
held_terms m (Remembered s) = set_at m.sets s
held_terms m (Loose terms) = terms

-- what is held by its number is remembered
abbrev pub IsThere : MemoryValue → Held → Type 0
IsThere m (Remembered s) = s < length m.sets
IsThere m (Loose terms) = Unit {0}

-- the bounds of what a pool remembers
abbrev pub pool_bounds : Bounds
pool_bounds = record { light = LIGHT; held = HELD_MOST; rows = ROWS_MOST }

-- what holds of each pool
pub record IsPool (m : MemoryValue) (held : Held) : Type 0 where
  pub there : IsThere m held
  pub bounds : m.bounds ≡ pool_bounds

-- a pool: what is remembered, what is held, the budget, and whether it was passed
pub record PoolValue : Type 0 where
  pub memory : MemoryValue
  pub held : Held
  pub budget : ℕ
  pub too_large : Bool

-- the set that is held
abbrev pub held_set : PoolValue → SetValue
held_set p = record { terms = held_terms p.memory p.held; budget = p.budget; too_large = p.too_large }

-- the pool serves the tables
pub record IsPoolFor (v : NetsValue) (p : PoolValue) : Type 0 where
  pub memory : IsMemoryFor v p.budget p.memory
  pub held : IsSetFor v p.budget (held_terms p.memory p.held)
  pub most : p.budget ≤ BUDGET_MOST

-- a move from the set that is held is remembered for the label number, if there is one
pub record Remembers (p : PoolValue) (label : Option ℕ) (to : ℕ) : Type 0 where
  pub from : ℕ
  pub held : p.held ≡ Remembered from
  pub number : ℕ
  pub is : label ≡ Some number
  pub move : HasMove p.memory.moves from number to

-- the terms are what an event with the label of that number, if there is one, leaves of the others
abbrev pub AreNext : NetsValue → Option ℕ → List Tree → List Tree → Type 0
AreNext v label terms next = (n : ℕ) → label ≡ Some n → (a : Label) → label_number v.labels a ≡ Some n → AreSuccessors v a terms next

-- the set is added, or it was there
pub record Keeps (old : PoolValue) (set : List Tree) (new : PoolValue) : Type 0 where
  pub there : IsThere old.memory old.held
  pub bounds : new.memory.bounds ≡ old.memory.bounds
  pub sets : Gains old.memory.sets set new.memory.sets
  pub moves : new.memory.moves ≡ old.memory.moves
  pub held : new.held ≡ old.held
  pub budget : new.budget ≡ old.budget
  pub too_large : new.too_large ≡ old.too_large

-- the moves gain at most the one from what is held, at the label number, to the set of that number; from a loose set, and without a
-- label number, none
abbrev pub GainsFrom : Held → Option ℕ → ℕ → List Move → List Move → Type 0
GainsFrom (Loose terms) label to old new = new ≡ old
GainsFrom (Remembered from) None to old new = new ≡ old
GainsFrom (Remembered from) (Some label) to old new = Gains old (record { from = from; label = label; to = to }) new

-- such a move is remembered, and all else is the same
pub record Notes (old : PoolValue) (label : Option ℕ) (to : ℕ) (new : PoolValue) : Type 0 where
  pub there : IsThere old.memory old.held
  pub bounds : new.memory.bounds ≡ old.memory.bounds
  pub sets : new.memory.sets ≡ old.memory.sets
  pub moves : GainsFrom old.held label to old.memory.moves new.memory.moves
  pub held : new.held ≡ old.held
  pub budget : new.budget ≡ old.budget
  pub too_large : new.too_large ≡ old.too_large
