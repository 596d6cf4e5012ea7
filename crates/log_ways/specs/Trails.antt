-- Serves private contracts alone.
-- The sets that a log leads through, each by its number.
use Rattle.std.specs.Prelude.{ℕ, suc, ◌≡◌, ◌≤◌, ◌<◌, List, [], ◌∷◌, ◌++◌, length, Some, slice_get}
use Rattle.chart_term.specs.Terms.{Tree}
use Rattle.log_ways.specs.declared.history.History.{History}
use Rattle.term_sets.specs.Memories.{MemoryValue, set_at, IsMemoryFor, AreNext}
use Rattle.term_tables.specs.NetValues.{NetsValue}
use Rattle.trace_judge.specs.Sets.{PassBudget}
use Rattle.trace_judge.specs.Steps.{ForLabels}

-- the numbers of sets, from that of x alone on, with one more for each event
pub record IsTrail (v : NetsValue) (sets : List (List Tree)) (x : Tree) (numbers trail : List ℕ) : Type 0 where
  pub long : length trail ≡ suc (length numbers)
  pub there : (i s : ℕ) → slice_get trail i ≡ Some s → s < length sets
  pub start : (s : ℕ) → slice_get trail 0 ≡ Some s → set_at sets s ≡ x ∷ []
  pub next : (i n s t : ℕ) → slice_get numbers i ≡ Some n → slice_get trail i ≡ Some s → slice_get trail (suc i) ≡ Some t → AreNext v (Some n) (set_at sets s) (set_at sets t)

-- a memory of sets for these tables, each within the budget
pub record IsHistoryMemory (v : NetsValue) (budget : ℕ) (m : MemoryValue) : Type 0 where
  pub memory : IsMemoryFor v budget m
  pub light : m.bounds.light ≡ budget

pub record IsHistory (v : NetsValue) (budget : ℕ) (x : Tree) (numbers : List ℕ) (h : History) : Type 0 where
  pub memory : IsHistoryMemory v budget h.memory
  pub trail : IsTrail v h.memory.sets x numbers h.sets.items

-- sets keep their numbers
pub record Grows (old new : List (List Tree)) : Type 0 where
  pub long : length old ≤ length new
  pub same : (s : ℕ) → s < length old → set_at new s ≡ set_at old s

-- the set of that number is what an event leaves of the other
pub record LeadsTo (v : NetsValue) (number : ℕ) (terms : List Tree) (sets : List (List Tree)) (to : ℕ) : Type 0 where
  pub there : to < length sets
  pub next : AreNext v (Some number) terms (set_at sets to)

-- what it leaves weighs more than the budget
abbrev pub IsTooHeavy : NetsValue → ℕ → List Tree → ℕ → Type 0
IsTooHeavy v number terms budget = ForLabels v (Some number) (λ label. PassBudget v label terms budget)

-- after some of the events the set weighs more than the budget: those before are a trail, and of its last set the next event leaves too much
pub record IsCutOff (v : NetsValue) (budget : ℕ) (x : Tree) (numbers : List ℕ) : Type 0 where
  pub sets : List (List Tree)
  pub front : List ℕ
  pub number : ℕ
  pub back : List ℕ
  pub are : numbers ≡ front ++ number ∷ back
  pub trail : List ℕ
  pub is_trail : IsTrail v sets x front trail
  pub last : ℕ
  pub last_is : slice_get trail (length front) ≡ Some last
  pub heavy : IsTooHeavy v number (set_at sets last) budget
