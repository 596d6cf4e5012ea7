-- What is said of each walk of an expansion: of its number, its graph, and what its nodes come to.
use Rattle.std.specs.Prelude.{ℕ}
use Rattle.hmsc_graph.specs.declared.shape.Shape.{Shape}
use Rattle.expansion_tree.specs.Expansions.{Expansion, Event, InRow, Aside, OneOf, Exception, Turns, Tied, Walk, Expansions, no_parts, part_and}

abbrev mutual
  pub EachWalk : {E : Type 0} → (ℕ → Shape → Expansions E → Type 0) → Expansion E → Type 0
  EachWalk P (Event e) = Unit {0}
  EachWalk P (InRow xs) = EachWalkIn P xs
  EachWalk P (Aside xs) = EachWalkIn P xs
  EachWalk P (OneOf xs) = EachWalkIn P xs
  EachWalk P (Exception x) = EachWalk P x
  EachWalk P (Turns n lower upper x) = EachWalk P x
  EachWalk P (Tied x ps) = EachWalk P x
  EachWalk P (Walk n g xs) = P n g xs × EachWalkIn P xs

  pub EachWalkIn : {E : Type 0} → (ℕ → Shape → Expansions E → Type 0) → Expansions E → Type 0
  EachWalkIn P no_parts = Unit {0}
  EachWalkIn P (part_and x xs) = EachWalk P x × EachWalkIn P xs
