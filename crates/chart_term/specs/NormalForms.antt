-- The normalising constructors of terms.
use Rattle.std.specs.List.{flat_map, list_all}
use Rattle.std.specs.Prelude.{ℕ, zero, suc, Bool, true, false, List, [], ◌∷◌, ◌++◌, Option, Some, None, ◌||◌, ◌&&◌, filter, ◌==◌}
use Rattle.msc_base.specs.Patterns.{Mode, seq, par}
use Rattle.hmsc_graph.specs.Graphs.{Spot, At, Goal, To, End, Any, Net, reach}
use Rattle.chart_term.specs.Terms.{Block, has, Tree, Nil, Event, Join, Choice, Tied, Loop, Walk, items, trees, Part, Gap, Turn, row_of, Trees, more, Row, gap, turn, none, ends}
use Rattle.chart_term.specs.Equality.{same_tree}

-- what the normal forms need to know of the tables
pub record NetPermits : Type 0 where
  pub net : ℕ → Net
  pub nodes : ℕ → List ℕ
  pub kept : ℕ → ℕ → List ℕ → Option Tree
  pub spread : ℕ → List ℕ

-- a block of instances alone
abbrev pub only : List ℕ → Block
only c = record { instances = c; numbers = [] }

-- the parts of one part of a join
abbrev pub open_part : Mode → Tree → List Tree
open_part m Nil = []
open_part m (Event e) = Event e ∷ []
open_part seq (Join seq xs) = items xs
open_part seq (Join par xs) = Join par xs ∷ []
open_part par (Join seq xs) = Join seq xs ∷ []
open_part par (Join par xs) = items xs
open_part m (Choice xs) = Choice xs ∷ []
open_part m (Tied x q) = Tied x q ∷ []
open_part m (Loop x lo hi r) = Loop x lo hi r ∷ []
open_part m (Walk n s t c) = Walk n s t c ∷ []

-- the parts of all parts of a join: joins of its kind are opened, Nil is dropped
abbrev pub flat : Mode → List Tree → List Tree
flat m xs = flat_map (open_part m) xs

-- no part is Nil, one part is itself
abbrev pub join_of : Mode → List Tree → Tree
join_of m [] = Nil
join_of m (x ∷ []) = x
join_of m (x ∷ y ∷ ys) = Join m (trees (x ∷ y ∷ ys))

-- a join in normal form: parts of its kind are opened, Nil parts dropped
abbrev pub join_all : Mode → List Tree → Tree
join_all m xs = join_of m (flat m xs)

-- a list of results, where none fails
abbrev pub and_then : {A : Type 0} → Option A → Option (List A) → Option (List A)
and_then None o = None
and_then (Some x) None = None
and_then (Some x) (Some xs) = Some (x ∷ xs)

-- a result that fails is left out
abbrev pub or_skip : Option Tree → List Tree → List Tree
or_skip None xs = xs
or_skip (Some x) xs = x ∷ xs

-- it fails where the test says yes
abbrev pub unless : Bool → Tree → Option Tree
unless true x = None
unless false x = Some x

-- the parts of one part of a choice
abbrev pub open_choice : Tree → List Tree
open_choice (Choice xs) = items xs
open_choice x = x ∷ []

-- the parts of all parts of a choice
abbrev pub open_choices : List Tree → List Tree
open_choices xs = flat_map open_choice xs

-- the term is left out where the test says yes
abbrev pub unless_same : Bool → Tree → List Tree → List Tree
unless_same true y ys = ys
unless_same false y ys = y ∷ ys

-- the terms that aren't equal to this one
abbrev pub without : Tree → List Tree → List Tree
without x [] = []
without x (y ∷ ys) = unless_same (same_tree x y) y (without x ys)

-- each term once
abbrev pub distinct : List Tree → List Tree
distinct [] = []
distinct (x ∷ xs) = x ∷ without x (distinct xs)

-- none of no part, one part is itself
abbrev pub choice_form : List Tree → Option Tree
choice_form [] = None
choice_form (x ∷ []) = Some x
choice_form (x ∷ y ∷ ys) = Some (Choice (trees (x ∷ y ∷ ys)))

-- a choice (delayed choice): parts that are choices are opened, a part equal to an earlier one is dropped; none where none is left
abbrev pub choice_of : List Tree → Option Tree
choice_of xs = choice_form (distinct (open_choices xs))

-- the numbers of the events of a term, of its loop operands and begun turns, but not of nets
abbrev mutual
  pub numbers : Tree → List ℕ
  numbers Nil = []
  numbers (Event e) = e.number ∷ []
  numbers (Join m xs) = numbers_all xs
  numbers (Choice xs) = numbers_all xs
  numbers (Tied x q) = numbers x
  numbers (Loop x lo hi r) = numbers x ++ numbers_row r
  numbers (Walk n s t c) = []

  pub numbers_all : Trees → List ℕ
  numbers_all none = []
  numbers_all (more x xs) = numbers x ++ numbers_all xs

  pub numbers_row : Row → List ℕ
  numbers_row ends = []
  numbers_row (gap c r) = numbers_row r
  numbers_row (turn x r) = numbers x ++ numbers_row r

-- the pair is left out where the test says yes
abbrev pub unless_pair : Bool → ℕ × ℕ → List (ℕ × ℕ) → List (ℕ × ℕ)
unless_pair true p q = q
unless_pair false p q = p ∷ q

-- the pairs that aren't equal to this one
abbrev pub without_pair : ℕ × ℕ → List (ℕ × ℕ) → List (ℕ × ℕ)
without_pair p [] = []
without_pair p (r ∷ q) = unless_pair ((p.0 == r.0) && (p.1 == r.1)) r (without_pair p q)

-- the pair, and no later one that equals it
abbrev pub with_pair : Bool → ℕ × ℕ → List (ℕ × ℕ) → List (ℕ × ℕ)
with_pair true p q = p ∷ without_pair p q
with_pair false p q = q

-- each pair once whose ends are both among the numbers
abbrev pub kept_pairs : List ℕ → List (ℕ × ℕ) → List (ℕ × ℕ)
kept_pairs ns [] = []
kept_pairs ns (p ∷ q) = with_pair (has ns p.0 && has ns p.1) p (kept_pairs ns q)

-- without pairs it is the term itself
abbrev pub bound_form : Tree → List (ℕ × ℕ) → Tree
bound_form x [] = x
bound_form x (p ∷ q) = Tied x (p ∷ q)

-- a bound term: a pair equal to an earlier one is dropped, and so are pairs with an end that doesn't occur in the term
abbrev pub tie_of : Tree → List (ℕ × ℕ) → Tree
tie_of x q = bound_form x (kept_pairs (numbers x) q)

-- the members of a set that are in another
abbrev pub cut : List ℕ → List ℕ → List ℕ
cut all c = filter (has all) c

-- each block is cut to these instances
abbrev pub cut_gaps : List ℕ → List Part → List Part
cut_gaps all [] = []
cut_gaps all (Gap c ∷ ps) = Gap (cut all c) ∷ cut_gaps all ps
cut_gaps all (Turn x ∷ ps) = Turn x ∷ cut_gaps all ps

-- a begun turn that is over is left out
abbrev pub put_turn : Tree → List Part → List Part
put_turn Nil ps = ps
put_turn (Event e) ps = Turn (Event e) ∷ ps
put_turn (Join m xs) ps = Turn (Join m xs) ∷ ps
put_turn (Choice xs) ps = Turn (Choice xs) ∷ ps
put_turn (Tied x q) ps = Turn (Tied x q) ∷ ps
put_turn (Loop x lo hi r) ps = Turn (Loop x lo hi r) ∷ ps
put_turn (Walk n s t c) ps = Turn (Walk n s t c) ∷ ps

-- each begun turn that is over is dropped
abbrev pub drop_nil : List Part → List Part
drop_nil [] = []
drop_nil (Gap c ∷ ps) = Gap c ∷ drop_nil ps
drop_nil (Turn x ∷ ps) = put_turn x (drop_nil ps)

-- the begun turns alone
abbrev pub only_turns : List Part → List Part
only_turns [] = []
only_turns (Gap c ∷ ps) = only_turns ps
only_turns (Turn x ∷ ps) = Turn x ∷ only_turns ps

-- where no further turn may begin, all gaps are dropped
abbrev pub at_zero : Option ℕ → List Part → List Part
at_zero None ps = ps
at_zero (Some zero) ps = only_turns ps
at_zero (Some (suc n)) ps = ps

-- a gap that leaves nothing of the operand is dropped
abbrev pub live_gap : Option Tree → List ℕ → List Part → List Part
live_gap None c ps = ps
live_gap (Some x) c ps = Gap c ∷ ps

-- each gap that leaves nothing of the operand is dropped
abbrev pub live : (List ℕ → Option Tree) → List Part → List Part
live p [] = []
live p (Gap c ∷ ps) = live_gap (p c) c (live p ps)
live p (Turn x ∷ ps) = Turn x ∷ live p ps

-- only the empty pattern is left
abbrev pub is_nil : Option Tree → Bool
is_nil None = false
is_nil (Some Nil) = true
is_nil (Some (Event e)) = false
is_nil (Some (Join m xs)) = false
is_nil (Some (Choice xs)) = false
is_nil (Some (Tied x q)) = false
is_nil (Some (Loop x lo hi r)) = false
is_nil (Some (Walk n s t c)) = false

-- some gap leaves only the empty pattern
abbrev pub has_free : (List ℕ → Option Tree) → List Part → Bool
has_free p [] = false
has_free p (Gap c ∷ ps) = is_nil (p c) || has_free p ps
has_free p (Turn x ∷ ps) = has_free p ps

-- a gap that leaves only the empty pattern is dropped
abbrev pub free_gap : Bool → List ℕ → List Part → List Part
free_gap true c ps = ps
free_gap false c ps = Gap c ∷ ps

-- each gap that leaves only the empty pattern is dropped
abbrev pub drop_free : (List ℕ → Option Tree) → List Part → List Part
drop_free p [] = []
drop_free p (Gap c ∷ ps) = free_gap (is_nil (p c)) c (drop_free p ps)
drop_free p (Turn x ∷ ps) = Turn x ∷ drop_free p ps

-- then no turn is owed any more
abbrev pub lower_of : Bool → ℕ → ℕ
lower_of true lo = 0
lower_of false lo = lo

-- of two neighbouring gaps the earlier is dropped
abbrev pub thin_gap : List ℕ → List Part → List Part
thin_gap c [] = Gap c ∷ []
thin_gap c (Gap d ∷ ps) = Gap d ∷ ps
thin_gap c (Turn x ∷ ps) = Gap c ∷ Turn x ∷ ps

-- no gaps are neighbours
abbrev pub thin : List Part → List Part
thin [] = []
thin (Gap c ∷ ps) = thin_gap c (thin ps)
thin (Turn x ∷ ps) = Turn x ∷ thin ps

-- a gap is left
abbrev pub has_gap : List Part → Bool
has_gap [] = false
has_gap (Gap c ∷ ps) = true
has_gap (Turn x ∷ ps) = has_gap ps

-- the begun turns
abbrev pub begun : List Part → List Tree
begun [] = []
begun (Gap c ∷ ps) = begun ps
begun (Turn x ∷ ps) = x ∷ begun ps

-- without a gap it is its begun turns in a row, and none where a turn is owed
abbrev pub no_gap : ℕ → List Part → Option Tree
no_gap zero ps = Some (join_all seq (begun ps))
no_gap (suc n) ps = None

-- a loop where a gap is left
abbrev pub turns_form : Bool → Tree → ℕ → Option ℕ → List Part → Option Tree
turns_form true x lo hi ps = Some (Loop x lo hi (row_of ps))
turns_form false x lo hi ps = no_gap lo ps

-- a row whose gaps are cut, live and no more than hi asks for
abbrev pub tidy : (List ℕ → Option Tree) → List ℕ → Option ℕ → List Part → List Part
tidy p all hi ps = live p (at_zero hi (drop_nil (cut_gaps all ps)))

-- what the row comes to
abbrev pub turns_end : Tree → ℕ → Option ℕ → List Part → Option Tree
turns_end x lo hi ps = turns_form (has_gap ps) x lo hi ps

-- p is what permission leaves of the operand, all is the instances that it touches
abbrev pub loop_of : (List ℕ → Option Tree) → List ℕ → Tree → ℕ → Option ℕ → List Part → Option Tree
loop_of p all x lo hi ps = let qs = tidy p all hi ps in turns_end x (lower_of (has_free p qs) lo) hi (thin (drop_free p qs))

-- a loop in normal form, where its row is there
abbrev pub turns_in : (List ℕ → Option Tree) → List ℕ → Tree → ℕ → Option ℕ → Option (List Part) → Option Tree
turns_in p all x lo hi None = None
turns_in p all x lo hi (Some ps) = loop_of p all x lo hi ps

-- it doesn't fail
abbrev pub some_kept : Option Tree → Bool
some_kept None = false
some_kept (Some x) = true

-- the nodes that can be passed
abbrev pub allowed : NetPermits → ℕ → List ℕ → List ℕ
allowed k n c = filter (λ m. some_kept (k.kept n m c)) (k.nodes n)

-- whether each node that a walk can pass leaves only the empty pattern
abbrev pub are_nil : NetPermits → ℕ → Spot → Goal → List ℕ → List ℕ → Bool
are_nil k n s t c ks = list_all (λ m. is_nil (k.kept n m c)) (filter (λ m. reach (k.net n) ks s (To m) && reach (k.net n) ks (At m) t) ks)

-- none where no walk leads there, Nil where every walk is empty
abbrev pub walk_form : Bool → Bool → Tree → Option Tree
walk_form false b x = None
walk_form true true x = Some Nil
walk_form true false x = Some x

-- a walk to a node or to an end in normal form
abbrev pub walk_by : NetPermits → ℕ → Spot → Goal → List ℕ → List ℕ → Option Tree
walk_by k n s t c ks = walk_form (reach (k.net n) ks s t) (are_nil k n s t c ks) (Walk n s t c)

-- a walk with a block that is cut; a walk to any node stays as it is
abbrev pub walk_cut : NetPermits → ℕ → Spot → Goal → List ℕ → Option Tree
walk_cut k n s Any c = Some (Walk n s Any c)
walk_cut k n s (To m) c = walk_by k n s (To m) c (allowed k n c)
walk_cut k n s End c = walk_by k n s End c (allowed k n c)

-- a walk in normal form: its block is cut to the instances of the net
abbrev pub walk_of : NetPermits → ℕ → Spot → Goal → List ℕ → Option Tree
walk_of k n s t c = walk_cut k n s t (cut (k.spread n) c)
