-- The instances that make a choice: those at which its operands may begin.
use Rattle.std.specs.Prelude.{◌≡◌, ◌↔◌, ℕ, List}
use Rattle.msc_base.specs.Lists.{IsAmong}
use Rattle.msc_base.specs.Orders.{Among}
use Rattle.msc_base.specs.Patterns.{Position, Before, bind, event_at}
use Rattle.msc_unfolding.specs.Unfoldings.{Unfolding, level_tie, plain}
use Rattle.msc_meaning.specs.Calls.{calls}
use Rattle.msc_meaning.specs.ChartUnfoldings.{OfItems, gates_of, under}
use Rattle.msc_meaning.specs.FarEnds.{no_gates}
use Rattle.msc_meaning.specs.InnerEvents.{GateEnd, AreEnds}
use Rattle.msc_meaning.specs.Tables.{Table}
use Rattle.msc_meaning.specs.Ties.{ties}
use Rattle.choice_meaning.specs.Choices.{Choice, Operand}

-- an unfolding of the operand by itself: no caller is known of its gates, and what ties its level binds the events that are taken
pub data OfOperand (table : Table) (o : Operand) : Unfolding → Type 0 where
  of_operand : {ends : List GateEnd} {u : Unfolding}
      → AreEnds table o.held (calls o.held) ends → OfItems table (gates_of o.held ends) (under no_gates) o.taken u
      → OfOperand table o (bind u (level_tie (ties o.held o.pairs (calls o.held) ends)))

-- nothing is to stand before the position
abbrev pub IsFirst : (u : Unfolding) → Position u → Type 0
IsFirst u p = (q : Position u) → Before plain u q p → ⊥

-- an unfolding of it may begin with an event at that instance; a creation is at its creator
pub record BeginsAt (table : Table) (o : Operand) (i : List ℕ) : Type 0 where
  pub of : Unfolding
  pub is : OfOperand table o of
  pub position : Position of
  pub first : IsFirst of position
  pub at : (event_at plain of position).label.at ≡ i

-- so may one of the operands
pub record IsMadeAt (table : Table) (c : Choice) (i : List ℕ) : Type 0 where
  pub operand : Operand
  pub among : Among operand c.operands
  pub begins : BeginsAt table operand i

-- the names are exactly those of the instances at which it is made
abbrev pub AreMakers : Table → Choice → List (List ℕ) → Type 0
AreMakers table c names = (i : List ℕ) → IsAmong names i ↔ IsMadeAt table c i
