-- What a part of a chart's term is made of: one of several terms, a term before others or in their place, turns of a term.
use Rattle.std.specs.Option.{unwrap_or}
use Rattle.std.specs.Prelude.{ℕ, Bool, true, false, not, ◌&&◌, List, [], ◌∷◌, Option, None, Some, nat_le, nat_lt}
use Rattle.msc_base.specs.Patterns.{seq}
use Rattle.chart_term.specs.NormalForms.{join_all, choice_of, is_nil}
use Rattle.chart_term.specs.Terms.{Tree, Nil, Loop, ends, gap}

-- one of these terms; there is one at least
abbrev pub one_of : List Tree → Tree
one_of xs = unwrap_or (choice_of xs) Nil

-- one after another; an exception instead of what stands behind it
abbrev pub placed : Bool → Tree → Tree → Tree
placed true x y = one_of (x ∷ y ∷ [])
placed false x y = join_all seq (x ∷ y ∷ [])

-- the bounds of a loop leave a turn
abbrev pub leave_turn : ℕ → Option ℕ → Bool
leave_turn lower None = true
leave_turn lower (Some upper) = nat_lt 0 upper && nat_le lower upper

abbrev pub turns_if : Bool → ℕ → Option ℕ → Tree → Tree
turns_if true lower upper x = Loop x lower upper (gap [] ends)
turns_if false lower upper x = Nil

-- so many turns of a term, none of which has begun; nothing where the bounds leave no turn, or a turn would be nothing
abbrev pub turns_of : ℕ → Option ℕ → Tree → Tree
turns_of lower upper x = turns_if (leave_turn lower upper && not (is_nil (Some x))) lower upper x
