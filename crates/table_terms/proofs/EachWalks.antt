-- What is said of each walk of an expansion, carried over.
use Rattle.std.specs.Prelude.{ℕ}
use Rattle.hmsc_graph.specs.declared.shape.Shape.{Shape}
use Rattle.expansion_tree.specs.Expansions.{Expansion, Event, InRow, Aside, OneOf, Exception, Turns, Tied, Walk, Expansions, no_parts, part_and, map_events, map_all_events}
use Rattle.expansion_tree.specs.Walks.{EachWalk, EachWalkIn}

-- two things that are said come to a third
module _ {E : Type 0} (P Q R : ℕ → Shape → Expansions E → Type 0) (to : (n : ℕ) (g : Shape) (xs : Expansions E) → P n g xs → Q n g xs → R n g xs) where
  mutual
    pub both_walks : (x : Expansion E) → EachWalk P x → EachWalk Q x → EachWalk R x
    both_walks (Event e) h g = tt
    both_walks (InRow xs) h g = both_walks_in xs h g
    both_walks (Aside xs) h g = both_walks_in xs h g
    both_walks (OneOf xs) h g = both_walks_in xs h g
    both_walks (Exception x) h g = both_walks x h g
    both_walks (Turns n lower upper x) h g = both_walks x h g
    both_walks (Tied x ps) h g = both_walks x h g
    both_walks (Walk n s xs) h g = (to n s xs h.0 g.0, both_walks_in xs h.1 g.1)

    pub both_walks_in : (xs : Expansions E) → EachWalkIn P xs → EachWalkIn Q xs → EachWalkIn R xs
    both_walks_in no_parts h g = tt
    both_walks_in (part_and x xs) h g = (both_walks x h.0 g.0, both_walks_in xs h.1 g.1)

pub each_walk : {E : Type 0} (P R : ℕ → Shape → Expansions E → Type 0) → ((n : ℕ) (g : Shape) (xs : Expansions E) → P n g xs → R n g xs) → (x : Expansion E) → EachWalk P x → EachWalk R x
each_walk P R to x h = both_walks P P R (λ n g xs p q. to n g xs p) x h h

pub each_walk_in : {E : Type 0} (P R : ℕ → Shape → Expansions E → Type 0) → ((n : ℕ) (g : Shape) (xs : Expansions E) → P n g xs → R n g xs) → (xs : Expansions E) → EachWalkIn P xs → EachWalkIn R xs
each_walk_in P R to xs h = both_walks_in P P R (λ n g ys p q. to n g ys p) xs h h

-- what is said of walks whose events are mapped
module _ {E F : Type 0} (f : E → F) (P : ℕ → Shape → Expansions F → Type 0) where
  mutual
    pub walks_mapped : (x : Expansion E) → EachWalk P (map_events f x) → EachWalk (λ n g xs. P n g (map_all_events f xs)) x
    walks_mapped (Event e) h = tt
    walks_mapped (InRow xs) h = all_walks_mapped xs h
    walks_mapped (Aside xs) h = all_walks_mapped xs h
    walks_mapped (OneOf xs) h = all_walks_mapped xs h
    walks_mapped (Exception x) h = walks_mapped x h
    walks_mapped (Turns n lower upper x) h = walks_mapped x h
    walks_mapped (Tied x ps) h = walks_mapped x h
    walks_mapped (Walk n g xs) h = (h.0, all_walks_mapped xs h.1)

    pub all_walks_mapped : (xs : Expansions E) → EachWalkIn P (map_all_events f xs) → EachWalkIn (λ n g ys. P n g (map_all_events f ys)) xs
    all_walks_mapped no_parts h = tt
    all_walks_mapped (part_and x xs) h = (walks_mapped x h.0, all_walks_mapped xs h.1)
