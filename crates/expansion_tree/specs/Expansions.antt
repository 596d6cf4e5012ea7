-- Expansions as plain trees, of events of any kind.
use Rattle.std.specs.Prelude.{ℕ, Bool, true, false, List, [], ◌∷◌, ◌++◌, Option}
use Rattle.msc_base.specs.declared.label.Pair.{Pair}
use Rattle.hmsc_graph.specs.declared.shape.Shape.{Shape}

mutual
  pub data Expansion (E : Type 0) : Type 0 where
    Event : E → Expansion E
    -- in weak sequence: of two events that share an instance the earlier part's comes first
    InRow : Expansions E → Expansion E
    -- side by side
    Aside : Expansions E → Expansion E
    OneOf : Expansions E → Expansion E
    -- this in place of what stands behind it in its row, or what stands behind it
    Exception : Expansion E → Expansion E
    -- this, as often as the two bounds say; the second may be missing; by the number the whole loop counts as one event
    Turns : ℕ → ℕ → Option ℕ → Expansion E → Expansion E
    -- this, the first event of each pair before the second
    Tied : Expansion E → List Pair → Expansion E
    -- a walk to an end of that graph, whose nodes come to these, one for each line; by the number the whole walk counts as one event
    Walk : ℕ → Shape → Expansions E → Expansion E

  pub data Expansions (E : Type 0) : Type 0 where
    no_parts : Expansions E
    part_and : Expansion E → Expansions E → Expansions E

-- the expansions of a list
abbrev pub expansions : {E : Type 0} → List (Expansion E) → Expansions E
expansions [] = no_parts
expansions (x ∷ xs) = part_and x (expansions xs)

abbrev pub is_exception : {E : Type 0} → Expansion E → Bool
is_exception (Exception x) = true
is_exception x = false

-- with other events in place of these
abbrev mutual
  pub map_events : {E F : Type 0} → (E → F) → Expansion E → Expansion F
  map_events f (Event e) = Event (f e)
  map_events f (InRow xs) = InRow (map_all_events f xs)
  map_events f (Aside xs) = Aside (map_all_events f xs)
  map_events f (OneOf xs) = OneOf (map_all_events f xs)
  map_events f (Exception x) = Exception (map_events f x)
  map_events f (Turns n lower upper x) = Turns n lower upper (map_events f x)
  map_events f (Tied x ps) = Tied (map_events f x) ps
  map_events f (Walk n g xs) = Walk n g (map_all_events f xs)

  pub map_all_events : {E F : Type 0} → (E → F) → Expansions E → Expansions F
  map_all_events f no_parts = no_parts
  map_all_events f (part_and x xs) = part_and (map_events f x) (map_all_events f xs)

-- the events, in the order of the text
abbrev mutual
  pub events_in : {E : Type 0} → Expansion E → List E
  events_in (Event e) = e ∷ []
  events_in (InRow xs) = all_events_in xs
  events_in (Aside xs) = all_events_in xs
  events_in (OneOf xs) = all_events_in xs
  events_in (Exception x) = events_in x
  events_in (Turns n lower upper x) = events_in x
  events_in (Tied x ps) = events_in x
  events_in (Walk n g xs) = all_events_in xs

  pub all_events_in : {E : Type 0} → Expansions E → List E
  all_events_in no_parts = []
  all_events_in (part_and x xs) = events_in x ++ all_events_in xs
