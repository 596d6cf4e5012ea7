-- The normal form of a row, part by part from its end.
use Rattle.std.specs.Prelude.{ℕ, zero, suc, Bool, true, false, List, [], ◌∷◌, Option, Some, None}
use Rattle.chart_term.specs.NormalForms.{cut, put_turn, is_nil, thin_gap, lower_of, turns_end}
use Rattle.chart_term.specs.Terms.{Tree, Part, Gap, Turn, ◌∪◌}

-- the end of a row in normal form, and whether a gap that leaves only the empty pattern was dropped from it
pub record RowRest : Type 0 where
  pub parts : List Part
  pub free : Bool

-- the end of a row without parts
abbrev pub no_rest : RowRest
no_rest = record { parts = []; free = false }

-- with a begun turn in front
abbrev pub turn_before : Tree → RowRest → RowRest
turn_before x r = record { parts = put_turn x r.parts; free = r.free }

-- with a gap in front that leaves something of the operand; the test says whether it is only the empty pattern
abbrev pub gap_before : Bool → List ℕ → RowRest → RowRest
gap_before true c r = record { parts = r.parts; free = true }
gap_before false c r = record { parts = thin_gap c r.parts; free = r.free }

-- with a gap in front, and what permission leaves of the operand there
abbrev pub tried_before : Option Tree → List ℕ → RowRest → RowRest
tried_before None c r = r
tried_before (Some x) c r = gap_before (is_nil (Some x)) c r

-- with a gap in front, where further turns may begin
abbrev pub open_before : Option ℕ → Option Tree → List ℕ → RowRest → RowRest
open_before None o c r = tried_before o c r
open_before (Some zero) o c r = r
open_before (Some (suc n)) o c r = tried_before o c r

-- the row, from its end on; p is what permission leaves of the operand
abbrev pub rest_of : (List ℕ → Option Tree) → List ℕ → Option ℕ → List Part → RowRest
rest_of p all hi [] = no_rest
rest_of p all hi (Gap c ∷ ps) = open_before hi (p (cut all c)) (cut all c) (rest_of p all hi ps)
rest_of p all hi (Turn x ∷ ps) = turn_before x (rest_of p all hi ps)

-- what the row comes to
abbrev pub rest_end : Tree → ℕ → Option ℕ → RowRest → Option Tree
rest_end x lo hi r = turns_end x (lower_of r.free lo) hi r.parts

-- with what permission leaves of a begun turn in front
abbrev pub kept_before : Option Tree → RowRest → Option RowRest
kept_before None r = None
kept_before (Some x) r = Some (turn_before x r)

-- p is what permission leaves of the operand by these instances, q what it leaves of a begun turn; d is the instances that are
-- added to the gaps
module _ (p : List ℕ → Option Tree) (q : Tree → Option Tree) (hi : Option ℕ) (d : List ℕ) where
  -- with what permission leaves of a part in front
  abbrev pub keep_part : Part → RowRest → Option RowRest
  keep_part (Gap c) r = Some (open_before hi (p (c ∪ d)) (c ∪ d) r)
  keep_part (Turn x) r = kept_before (q x) r

  -- the same, where the rest is there
  abbrev pub keep_first : Part → Option RowRest → Option RowRest
  keep_first t None = None
  keep_first t (Some r) = keep_part t r

  -- with what permission leaves of all these parts in front
  abbrev pub keep_parts : List Part → RowRest → Option RowRest
  keep_parts [] r = Some r
  keep_parts (t ∷ ts) r = keep_first t (keep_parts ts r)
