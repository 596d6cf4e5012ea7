-- Serves private contracts alone.
-- From which part of a term an event can be taken, and what is left of the whole then.
use Rattle.std.specs.Option.{option_map}
use Rattle.std.specs.Prelude.{ℕ, zero, suc, Bool, true, false, List, [], ◌∷◌, Option, Some, None, slice_get}
use Rattle.msc_base.specs.Patterns.{Mode, seq}
use Rattle.hmsc_graph.specs.Graphs.{Spot, At, Goal, To}
use Rattle.chart_term.specs.NormalForms.{NetPermits, only, join_all, and_then, tie_of, loop_of, walk_of}
use Rattle.chart_term.specs.TermPatterns.{instances_of, earlier}
use Rattle.chart_term.specs.Terms.{TermEvent, Tree, Nil, Event, Join, Choice, Tied, Loop, Walk, items, Part, Gap, Turn, parts, ◌∪◌}
use Rattle.term_laws.specs.Listing.{stay, may_begin, may_lead}
use Rattle.chart_term.specs.Spreads.{touch}
use Rattle.term_laws.specs.Permission.{permit}
use Rattle.term_laws.specs.Taking.{fewer, down}

-- what is left of the parts of a join where the part of this index leaves y
abbrev pub parts_left : NetPermits → Mode → TermEvent → List Tree → ℕ → Tree → Option (List Tree)
parts_left k m e [] i y = None
parts_left k m e (x ∷ xs) zero y = Some (y ∷ xs)
parts_left k m e (x ∷ xs) (suc i) y = and_then (stay k m e x) (parts_left k m e xs i y)

-- what is left of a row, and whether a turn began
pub record RowLeft : Type 0 where
  pub begins : Bool
  pub row_parts : List Part

-- behind a part that lets the event pass
abbrev pub turn_first : Option Tree → Option RowLeft → Option RowLeft
turn_first None o = None
turn_first (Some z) None = None
turn_first (Some z) (Some r) = Some (record { begins = r.begins; row_parts = Turn z ∷ r.row_parts })

abbrev pub gap_first : List ℕ → Option RowLeft → Option RowLeft
gap_first c None = None
gap_first c (Some r) = Some (record { begins = r.begins; row_parts = Gap c ∷ r.row_parts })

-- what is left of a row where the part of this index leaves y
abbrev pub row_left : NetPermits → TermEvent → List Part → ℕ → Tree → Option RowLeft
row_left k e [] i y = None
row_left k e (Turn z ∷ ps) zero y = Some (record { begins = false; row_parts = Turn y ∷ ps })
row_left k e (Gap c ∷ ps) zero y = Some (record { begins = true; row_parts = Gap (c ∪ (instances_of e).instances) ∷ Turn y ∷ Gap c ∷ ps })
row_left k e (Turn z ∷ ps) (suc i) y = turn_first (permit k (only (instances_of e).instances) z) (row_left k e ps i y)
row_left k e (Gap c ∷ ps) (suc i) y = gap_first (c ∪ (instances_of e).instances) (row_left k e ps i y)

-- it is there where the test says yes
abbrev pub where_so : Bool → Option Tree → Option Tree
where_so true o = o
where_so false o = None

-- what is left of a loop of which this row is left
abbrev pub loop_left : NetPermits → Tree → ℕ → Option ℕ → Option RowLeft → Option Tree
loop_left k x lo hi None = None
loop_left k x lo hi (Some r) = where_so (may_begin r.begins hi) (loop_of (λ c. permit k (only c) x) (touch k.spread x) x (down r.begins lo) (fewer r.begins hi) r.row_parts)

-- the walk up to a node, what is left of the node's term, and the walk on
abbrev pub three : Option Tree → Tree → Option Tree → Option Tree
three None y v = None
three (Some u) y None = None
three (Some u) y (Some v) = Some (join_all seq (u ∷ y ∷ v ∷ []))

-- what is left of a walk where the term of this node leaves y
abbrev pub walk_left : NetPermits → TermEvent → ℕ → Spot → Goal → List ℕ → ℕ → Tree → Option Tree
walk_left k e n f t c m y =
    where_so (may_lead k n f (To m) (c ∪ (instances_of e).instances)) (where_so (may_lead k n (At m) t c) (three (walk_of k n f (To m) (c ∪ (instances_of e).instances)) y (walk_of k n (At m) t c)))

-- what is left of a term where its child of this index leaves y
abbrev pub put : NetPermits → TermEvent → Tree → ℕ → Tree → Option Tree
put k e Nil i y = None
put k e (Event f) i y = None
put k e (Join m xs) i y = option_map (join_all m) (parts_left k m e (items xs) i y)
put k e (Choice xs) i y = Some y
put k e (Tied x q) i y = option_map (λ z. tie_of z q) (permit k (earlier q e) y)
put k e (Loop x lo hi r) i y = loop_left k x lo hi (row_left k e (parts r) i y)
put k e (Walk n f t c) i y = walk_left k e n f t c i y

-- a turn that may begin in a gap which leaves this of the operand
abbrev pub new_turn : Option ℕ → Option Tree → Option Tree
new_turn None o = o
new_turn (Some zero) o = None
new_turn (Some (suc n)) o = o

-- the begun turn, or the turn that may begin
abbrev pub row_child : NetPermits → Tree → Option ℕ → Option Part → Option Tree
row_child k x hi None = None
row_child k x hi (Some (Turn y)) = Some y
row_child k x hi (Some (Gap c)) = new_turn hi (permit k (only c) x)

-- the first child alone
abbrev pub first_alone : Tree → ℕ → Option Tree
first_alone x zero = Some x
first_alone x (suc i) = None

-- from what an event can be taken in index of the whole term: a part, a begun turn, what is permitted of a loop operand in a gap
-- or of a node term on a walk
abbrev pub child : NetPermits → Tree → ℕ → Option Tree
child k Nil i = None
child k (Event f) i = None
child k (Join m xs) i = slice_get (items xs) i
child k (Choice xs) i = slice_get (items xs) i
child k (Tied x q) i = first_alone x i
child k (Loop x lo hi r) i = row_child k x hi (slice_get (parts r) i)
child k (Walk n f t c) i = k.kept n i c
