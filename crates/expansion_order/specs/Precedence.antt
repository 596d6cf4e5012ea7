-- Serves private contracts alone.
-- Which event of an expansion comes before which. A loop counts as one event, and so does a walk.
use Rattle.std.specs.Prelude.{ℕ, ◌≡◌, ◌<◌, ◌⊎◌, false, List}
use Rattle.msc_base.specs.declared.label.Pair.{Pair}
use Rattle.msc_base.specs.Orders.{Among}
use Rattle.expansion_tree.specs.Expansions.{Event, InRow, Aside, OneOf, Exception, Turns, Tied, Walk, no_parts, part_and, is_exception}
use Rattle.expansion_tree.specs.Numbered.{Expansion, Expansions}
use Rattle.expansion_order.specs.Stops.{counted, all_counted}
use Rattle.expansion_order.specs.declared.stops.Stop.{Stop}

-- u is the number of an event of the first list, and v that of an event of the second at the same instance
pub record StopsOrder (ss ts : List Stop) (u v : ℕ) : Type 0 where
  pub earlier : Stop
  pub later : Stop
  pub among_first : Among earlier ss
  pub among_second : Among later ts
  pub at_one : earlier.column ≡ later.column
  pub first : earlier.number ≡ u
  pub second : later.number ≡ v

-- the numbers are one of the pairs
pub record HasPair (ps : List Pair) (u v : ℕ) : Type 0 where
  pub pair : Pair
  pub among : Among pair ps
  pub first : pair.first ≡ u
  pub second : pair.second ≡ v

abbrev mutual
  pub Precedes : Expansion → ℕ → ℕ → Type 0
  Precedes (Event e) u v = ⊥
  Precedes (InRow xs) u v = PrecedesInRow xs u v
  Precedes (Aside xs) u v = PrecedesInOne xs u v
  Precedes (OneOf xs) u v = PrecedesInOne xs u v
  Precedes (Exception x) u v = Precedes x u v
  Precedes (Turns n lower upper x) u v = ⊥
  Precedes (Tied x ps) u v = HasPair ps u v ⊎ Precedes x u v
  Precedes (Walk n g xs) u v = ⊥

  pub PrecedesInRow : Expansions → ℕ → ℕ → Type 0
  PrecedesInRow no_parts u v = ⊥
  PrecedesInRow (part_and x xs) u v = ((is_exception x ≡ false) × StopsOrder (counted x) (all_counted xs) u v) ⊎ (Precedes x u v ⊎ PrecedesInRow xs u v)

  pub PrecedesInOne : Expansions → ℕ → ℕ → Type 0
  PrecedesInOne no_parts u v = ⊥
  PrecedesInOne (part_and x xs) u v = Precedes x u v ⊎ PrecedesInOne xs u v

-- from u one comes to v in one or more steps, each from an event to one behind it
pub data ComesBefore (x : Expansion) : ℕ → ℕ → Type 0 where
  next : (u v : ℕ) → Precedes x u v → ComesBefore x u v
  further : (u v w : ℕ) → Precedes x u v → ComesBefore x v w → ComesBefore x u w

-- from an event one comes back to itself
pub record HasRound (x : Expansion) : Type 0 where
  pub number : ℕ
  pub round : ComesBefore x number number

-- ranks that rise from each event to those behind it
pub record HasRank (x : Expansion) : Type 0 where
  pub rank : ℕ → ℕ
  pub rises : (u v : ℕ) → Precedes x u v → rank u < rank v

-- the turn of each loop outside walks, at any depth, has such ranks
abbrev mutual
  pub HaveLoopsRank : Expansion → Type 0
  HaveLoopsRank (Event e) = Unit {0}
  HaveLoopsRank (InRow xs) = HaveAllLoopsRank xs
  HaveLoopsRank (Aside xs) = HaveAllLoopsRank xs
  HaveLoopsRank (OneOf xs) = HaveAllLoopsRank xs
  HaveLoopsRank (Exception x) = HaveLoopsRank x
  HaveLoopsRank (Turns n lower upper x) = HasRank x × HaveLoopsRank x
  HaveLoopsRank (Tied x ps) = HaveLoopsRank x
  HaveLoopsRank (Walk n g xs) = Unit {0}

  pub HaveAllLoopsRank : Expansions → Type 0
  HaveAllLoopsRank no_parts = Unit {0}
  HaveAllLoopsRank (part_and x xs) = HaveLoopsRank x × HaveAllLoopsRank xs

-- in the turn of some loop outside walks one comes back so
abbrev mutual
  pub HasLoopRound : Expansion → Type 0
  HasLoopRound (Event e) = ⊥
  HasLoopRound (InRow xs) = HasSomeLoopRound xs
  HasLoopRound (Aside xs) = HasSomeLoopRound xs
  HasLoopRound (OneOf xs) = HasSomeLoopRound xs
  HasLoopRound (Exception x) = HasLoopRound x
  HasLoopRound (Turns n lower upper x) = HasRound x ⊎ HasLoopRound x
  HasLoopRound (Tied x ps) = HasLoopRound x
  HasLoopRound (Walk n g xs) = ⊥

  pub HasSomeLoopRound : Expansions → Type 0
  HasSomeLoopRound no_parts = ⊥
  HasSomeLoopRound (part_and x xs) = HasLoopRound x ⊎ HasSomeLoopRound xs
