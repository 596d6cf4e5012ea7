-- What permission leaves of a term and of the parts of a join, where it is told apart whether anything changed.
use Rattle.std.specs.Option.{option_map}
use Rattle.std.specs.Prelude.{List, ◌++◌, ◌≡◌, Option, Some, None}
use Rattle.msc_base.specs.Patterns.{Mode, seq, par}
use Rattle.chart_term.specs.NormalForms.{NetPermits, begun, flat, open_part}
use Rattle.chart_term.specs.PartLists.{AreTurns}
use Rattle.chart_term.specs.Terms.{Block, Tree, trees, Part}
use Rattle.term_permission.specs.declared.left.Joint.{Joint}
use Rattle.term_permission.specs.declared.left.Joint.TheVariants as joint
use Rattle.term_permission.specs.declared.left.Left.{Left}
use Rattle.term_permission.specs.declared.left.Left.TheVariants as left
use Rattle.term_permission.specs.declared.left.PartsLeft.{PartsLeft}
use Rattle.term_permission.specs.declared.left.PartsLeft.TheVariants as some
use Rattle.term_laws.specs.Permission.{permit_all}

-- how parts are joined
abbrev pub mode_of : Joint → Mode
mode_of joint.Row = seq
mode_of joint.Aside = par

-- what is left of this term
abbrev pub left_of : Left → Tree → Option Tree
left_of left.Fails x = None
left_of left.Unchanged x = Some x
left_of (left.Changed y) x = Some y

-- the terms of both lists, where none fails
abbrev pub and_app : Option (List Tree) → Option (List Tree) → Option (List Tree)
and_app None o = None
and_app (Some xs) None = None
and_app (Some xs) (Some ys) = Some (xs ++ ys)

-- what permission leaves of the parts of a join, opened
abbrev pub opened_left : NetPermits → Block → Mode → List Tree → Option (List Tree)
opened_left k b m xs = option_map (flat m) (permit_all k b (trees xs))

-- these terms are left of the parts
abbrev pub ArePartsLeft : Option (List Tree) → List Part → PartsLeft → Type 0
ArePartsLeft o ps some.Fails = o ≡ None
ArePartsLeft o ps some.Unchanged = o ≡ Some (begun ps)
ArePartsLeft o ps (some.Changed qs) = (o ≡ Some (begun qs)) × AreTurns qs

-- the turns of these terms
abbrev pub IsKept : Option (List Tree) → Option (List Part) → Type 0
IsKept o None = o ≡ None
IsKept o (Some ps) = (o ≡ Some (begun ps)) × AreTurns ps

-- the parts that the term comes to in a join, where there is one
abbrev pub IsOpened : Mode → Option Tree → Option (List Part) → Type 0
IsOpened m o None = o ≡ None
IsOpened m o (Some ps) = (y : Tree) × (o ≡ Some y) × (begun ps ≡ open_part m y) × AreTurns ps

-- where there is a term it is this one
abbrev pub IsSame : Option Tree → Tree → Type 0
IsSame o x = (y : Tree) → o ≡ Some y → y ≡ x
