-- The residual terms as lists: the functions of which the relations speak, and the weight of a set of residual terms.
use Rattle.std.specs.Prelude.{ℕ, zero, suc, ◌+◌, Bool, true, false, List, [], ◌∷◌, ◌++◌, ◌≡◌, ◌==◌, Option, Some, None, ◌⊎◌, ◌≤◌}
use Rattle.std.specs.List.{flat_map}
use Rattle.msc_base.specs.Lists.{IsAmong}
use Rattle.msc_base.specs.Patterns.{Mode, seq, par}
use Rattle.hmsc_graph.specs.Graphs.{Spot, At, Goal, To, End, Any, reach}
use Rattle.chart_term.specs.NormalForms.{NetPermits, only, join_all, tie_of, loop_of, walk_of, allowed, distinct}
use Rattle.chart_term.specs.Tables.{Tables}
use Rattle.chart_term.specs.TermPatterns.{instances_of, earlier, Both}
use Rattle.chart_term.specs.Terms.{TermEvent, ◌∪◌, Tree, Nil, Event, Join, Choice, Tied, Loop, Walk, Trees, none, more, Row, ends, gap, turn, items, Part, Gap, Turn, parts, weight}
use Rattle.chart_term.specs.Spreads.{touch}
use Rattle.term_laws.specs.Permission.{permit, permits_of}
use Rattle.term_laws.specs.Taking.{fewer, down, IsAfter}
use Rattle.term_laws.specs.Soundness.{AreTidyTables}
use Rattle.chart_term.specs.Properties.{Each}
use Rattle.term_laws.specs.Normality.{AreDifferent}
use Rattle.term_laws.specs.Residuals.{IsResidual}

-- an event that was taken, and what it left
pub record Taken : Type 0 where
  pub event : TermEvent
  pub term : Tree

-- an event that was taken from a part of a join, and the parts that it left
pub record TakenParts : Type 0 where
  pub event : TermEvent
  pub parts_left : List Tree

-- an event that was taken from a row: whether it began a turn, and the row that it left
pub record TakenRow : Type 0 where
  pub begins : Bool
  pub event : TermEvent
  pub row_left : List Part

-- what an earlier part of a join leaves
abbrev pub stay : NetPermits → Mode → TermEvent → Tree → Option Tree
stay k seq e x = permit k (only (instances_of e).instances) x
stay k par e x = Some x

-- what is left below a tie, where permission doesn't fail
abbrev pub tied : Option Tree → TermEvent → List (ℕ × ℕ) → List Taken → List Taken
tied None e q ps = ps
tied (Some z) e q ps = record { event = e; term = tie_of z q } ∷ ps

-- what is left below a tie
abbrev pub all_tied : NetPermits → List (ℕ × ℕ) → List Taken → List Taken
all_tied k q [] = []
all_tied k q (p ∷ ps) = tied (permit k (earlier q p.event) p.term) p.event q (all_tied k q ps)

-- what is left of a join
abbrev pub joined : Mode → List TakenParts → List Taken
joined m [] = []
joined m (p ∷ ps) = record { event = p.event; term = join_all m p.parts_left } ∷ joined m ps

-- from the first part of a join
abbrev pub first_taken : List Tree → List Taken → List TakenParts
first_taken xs [] = []
first_taken xs (p ∷ ps) = record { event = p.event; parts_left = p.term ∷ xs } ∷ first_taken xs ps

-- behind a part that lets the event pass
abbrev pub behind_one : Option Tree → TakenParts → List TakenParts → List TakenParts
behind_one None p ps = ps
behind_one (Some x) p ps = record { event = p.event; parts_left = x ∷ p.parts_left } ∷ ps

-- from a later part of a join
abbrev pub behind_part : NetPermits → Mode → Tree → List TakenParts → List TakenParts
behind_part k m x [] = []
behind_part k m x (p ∷ ps) = behind_one (stay k m p.event x) p (behind_part k m x ps)

-- from a begun turn
abbrev pub turn_taken : List Part → List Taken → List TakenRow
turn_taken ps [] = []
turn_taken ps (p ∷ qs) = record { begins = false; event = p.event; row_left = Turn p.term ∷ ps } ∷ turn_taken ps qs

-- from a turn that begins in a gap
abbrev pub gap_taken : List ℕ → List Part → List Taken → List TakenRow
gap_taken c ps [] = []
gap_taken c ps (p ∷ qs) = record { begins = true; event = p.event; row_left = Gap (c ∪ (instances_of p.event).instances) ∷ Turn p.term ∷ Gap c ∷ ps } ∷ gap_taken c ps qs

-- from the turns that may begin in a gap
abbrev pub gap_begun : (Tree → List Taken) → Option Tree → List ℕ → List Part → List TakenRow
gap_begun f None c ps = []
gap_begun f (Some y) c ps = gap_taken c ps (f y)

-- behind a gap
abbrev pub behind_gap : List ℕ → List TakenRow → List TakenRow
behind_gap c [] = []
behind_gap c (t ∷ ts) = record { begins = t.begins; event = t.event; row_left = Gap (c ∪ (instances_of t.event).instances) ∷ t.row_left } ∷ behind_gap c ts

-- behind a turn that lets the event pass
abbrev pub behind_turned : Option Tree → TakenRow → List TakenRow → List TakenRow
behind_turned None t ts = ts
behind_turned (Some y) t ts = record { begins = t.begins; event = t.event; row_left = Turn y ∷ t.row_left } ∷ ts

-- behind a begun turn
abbrev pub behind_turn : NetPermits → Tree → List TakenRow → List TakenRow
behind_turn k y [] = []
behind_turn k y (t ∷ ts) = behind_turned (permit k (only (instances_of t.event).instances) y) t (behind_turn k y ts)

-- a further turn may begin
abbrev pub may_begin : Bool → Option ℕ → Bool
may_begin true (Some zero) = false
may_begin true (Some (suc n)) = true
may_begin true None = true
may_begin false hi = true

-- the loop that is left, if it doesn't fail
abbrev pub turned : Bool → Option Tree → TermEvent → List Taken → List Taken
turned true (Some z) e ps = record { event = e; term = z } ∷ ps
turned true None e ps = ps
turned false r e ps = ps

-- what is left of a loop
abbrev pub all_turned : NetPermits → Tree → ℕ → Option ℕ → List TakenRow → List Taken
all_turned k x lo hi [] = []
all_turned k x lo hi (t ∷ ts) =
    turned (may_begin t.begins hi) (loop_of (λ c. permit k (only c) x) (touch k.spread x) x (down t.begins lo) (fewer t.begins hi) t.row_left) t.event (all_turned k x lo hi ts)

-- whether a walk leads there; any node is always reached
abbrev pub may_lead : NetPermits → ℕ → Spot → Goal → List ℕ → Bool
may_lead k n f Any c = true
may_lead k n f End c = reach (k.net n) (allowed k n c) f End
may_lead k n f (To m) c = reach (k.net n) (allowed k n c) f (To m)

-- the walk that is left, if walks lead there
abbrev pub walked : Bool → Bool → Option Tree → Option Tree → Taken → List Taken → List Taken
walked true true (Some u) (Some v) p ps = record { event = p.event; term = join_all seq (u ∷ p.term ∷ v ∷ []) } ∷ ps
walked true true (Some u) None p ps = ps
walked true true None v p ps = ps
walked true false u v p ps = ps
walked false b u v p ps = ps

-- what is left of a walk whose event comes from this node
abbrev pub all_walked : NetPermits → ℕ → Spot → Goal → List ℕ → ℕ → List Taken → List Taken
all_walked k n f t c m [] = []
all_walked k n f t c m (p ∷ ps) =
    walked (may_lead k n f (To m) (c ∪ (instances_of p.event).instances)) (may_lead k n (At m) t c) (walk_of k n f (To m) (c ∪ (instances_of p.event).instances)) (walk_of k n (At m) t c) p (all_walked k n f t c m ps)

-- what is left of a walk through this node
abbrev pub node_walked : NetPermits → (Tree → List Taken) → ℕ → Spot → Goal → List ℕ → ℕ → Option Tree → List Taken
node_walked k g n f t c m None = []
node_walked k g n f t c m (Some x) = all_walked k n f t c m (g x)

-- what is left of a walk through one of these nodes
abbrev pub nodes_walked : NetPermits → (Tree → List Taken) → ℕ → Spot → Goal → List ℕ → List ℕ → List Taken
nodes_walked k g n f t c ms = flat_map (λ m. node_walked k g n f t c m (k.kept n m c)) ms

-- what is left after any event; g gives it of permitted operands and node terms
abbrev mutual
  pub listed : NetPermits → (Tree → List Taken) → Tree → List Taken
  listed k g Nil = []
  listed k g (Event e) = record { event = e; term = Nil } ∷ []
  listed k g (Join m xs) = joined m (listed_parts k g m xs)
  listed k g (Choice xs) = listed_all k g xs
  listed k g (Tied x q) = all_tied k q (listed k g x)
  listed k g (Loop x lo hi r) = all_turned k x lo hi (listed_row k g x r)
  listed k g (Walk n f t c) = nodes_walked k g n f t c (k.nodes n)

  pub listed_parts : NetPermits → (Tree → List Taken) → Mode → Trees → List TakenParts
  listed_parts k g m none = []
  listed_parts k g m (more x xs) = first_taken (items xs) (listed k g x) ++ behind_part k m x (listed_parts k g m xs)

  pub listed_all : NetPermits → (Tree → List Taken) → Trees → List Taken
  listed_all k g none = []
  listed_all k g (more x xs) = listed k g x ++ listed_all k g xs

  pub listed_row : NetPermits → (Tree → List Taken) → Tree → Row → List TakenRow
  listed_row k g x ends = []
  listed_row k g x (gap c r) = gap_begun g (permit k (only c) x) c (parts r) ++ behind_gap c (listed_row k g x r)
  listed_row k g x (turn y r) = turn_taken (parts r) (listed k g y) ++ behind_turn k y (listed_row k g x r)

-- what is left after any event, to this depth of loops and nets
abbrev pub after_list : ℕ → NetPermits → Tree → List Taken
after_list zero k x = []
after_list (suc n) k x = listed k (after_list n k) x

-- those of this label
abbrev pub labelled_one : Bool → Tree → List Tree → List Tree
labelled_one true x xs = x ∷ xs
labelled_one false x xs = xs

-- those whose event has the label
abbrev pub labelled : ℕ → List Taken → List Tree
labelled a [] = []
labelled a (p ∷ ps) = labelled_one (p.event.label == a) p.term (labelled a ps)

-- what is left of all terms of a set
abbrev pub all_after : ℕ → NetPermits → ℕ → List Tree → List Tree
all_after n k a xs = flat_map (λ x. labelled a (after_list n k x)) xs

-- the set of residual terms after one more label: without repeats
abbrev pub next_set : ℕ → NetPermits → ℕ → List Tree → List Tree
next_set n k a xs = distinct (all_after n k a xs)

-- the set of residual terms after these labels
abbrev pub residual_set : ℕ → NetPermits → List Tree → List ℕ → List Tree
residual_set n k xs [] = xs
residual_set n k xs (a ∷ l) = residual_set n k (next_set n k a xs) l

-- the weight of a set is the sum of the weights of its terms
abbrev pub set_weight : List Tree → ℕ
set_weight [] = 0
set_weight (x ∷ xs) = weight x + set_weight xs

-- to this depth and any greater one the list has all that is left after an event
pub record IsDeepEnough (w : Tables) (x : Tree) (depth : ℕ) : Type 0 where
  pub whole : (m : ℕ) → depth ≤ m → (e : TermEvent) (y : Tree) → IsAfter (permits_of w) x e y → IsAmong (after_list m (permits_of w) x) (record { event = e; term = y })

-- there is such a depth
pub record HasDepth (w : Tables) (x : Tree) : Type 0 where
  pub depth : ℕ
  pub enough : IsDeepEnough w x depth

-- the list has only what is left after an event, and to some depth all of it
pub record ListIsExact : Type 0 where
  pub sound : (w : Tables) (n : ℕ) (x : Tree) (t : Taken) → IsAmong (after_list n (permits_of w) x) t → IsAfter (permits_of w) x t.event t.term
  pub deep : (w : Tables) (x : Tree) → AreTidyTables w → HasDepth w x

-- the depth is enough for all terms of the sets on the way
abbrev pub AreDeepAlong : Tables → ℕ → List Tree → List ℕ → Type 0
AreDeepAlong w n xs [] = Unit {0}
AreDeepAlong w n xs (a ∷ l) = Each (λ x. IsDeepEnough w x n) xs × AreDeepAlong w n (next_set n (permits_of w) a xs) l

-- the set of residual terms after the labels: without repeats, its members are exactly the terms that are left
pub record IsResidualSet (w : Tables) (x : Tree) (labels : List ℕ) (set : List Tree) : Type 0 where
  pub different : AreDifferent set
  pub exact : (y : Tree) → Both (IsAmong set y) (IsResidual (permits_of w) x labels y)

-- at such a depth the computed set is the set of residual terms
pub record ResidualSetIsExact : Type 0 where
  pub set : (w : Tables) (n : ℕ) (x : Tree) (labels : List ℕ) → AreDeepAlong w n (x ∷ []) labels → IsResidualSet w x labels (residual_set n (permits_of w) (x ∷ []) labels)
