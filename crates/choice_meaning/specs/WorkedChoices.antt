-- Worked charts, each with its text in front, and the choices in them that several instances make.
use Rattle.std.specs.Prelude.{ℕ, suc, List, [], ◌∷◌, Some, None, codes}
use Rattle.msc_base.specs.declared.place.Place.{Place}
use Rattle.msc_tree.specs.declared.reference.InlineForm.TheVariants.{Alt, Exc}
use Rattle.msc_meaning.specs.Bodies.{InlinePart, Single, Inline, Body, level, items, bodies}
use Rattle.msc_meaning.specs.Tables.{Table}
use Rattle.msc_meaning.specs.WorkedCharts.{a, alternatives, i, j}
use Rattle.msc_meaning.specs.WorkedParts.{action, basic, decl, node, out, pair, part, taken_in}
use Rattle.choice_meaning.specs.ChoiceLists.{IsChoiceList}

-- behind so many bytes of the first line
abbrev pub behind : ℕ → Place
behind bytes = record { byte = bytes; line = 1; column = suc bytes }

abbrev pub placed : Place → InlinePart
placed place = record (part 1 (Some 1) None (i ∷ j ∷ [])) { place = place }

-- ---- an alternative that both instances make
-- msc Z; inst i,j; all: alt begin; i: action 'a'; alt; j: action 'b'; alt end; endmsc;

abbrev pub an_action : ℕ → List ℕ → List ℕ → Body
an_action number at text = level (i ∷ j ∷ []) (items (Single (node number at (action text)) ∷ [])) []

abbrev pub of_two_body : Body
of_two_body = level (i ∷ j ∷ []) (items (Inline Alt (placed (behind 22)) (bodies (an_action 0 i (codes "'a'") ∷ an_action 1 j (codes "'b'") ∷ [])) ∷ [])) []

abbrev pub of_two : Table
of_two = basic (codes "Z") (decl i ∷ decl j ∷ []) of_two_body ∷ []

abbrev pub BothMakeIt : Type 0
BothMakeIt = IsChoiceList of_two (codes "Z") (record { place = behind 22; instances = i ∷ j ∷ [] } ∷ [])

-- ---- one that a single instance makes
-- msc C; inst i; i: alt begin; i: out a to env; i: out b to env; alt; i: out a to env; i: out c to env; alt end; endmsc;

abbrev pub OneMakesIt : Type 0
OneMakesIt = IsChoiceList alternatives (codes "C") []

-- ---- an exception: behind it the output comes first, and the input waits for it; what stands before it is no part of the choice
-- msc F; inst i,j; i: action 'c'; all: exc begin; j: action 'x'; exc end; i: out a to j; j: in a from i; endmsc;

abbrev pub exception_body : Body
exception_body = level (i ∷ j ∷ []) (items (
    Single (node 0 i (action (codes "'c'")))
    ∷ Inline Exc (placed (behind 37)) (bodies (an_action 1 j (codes "'x'") ∷ []))
    ∷ Single (node 2 i (out a j))
    ∷ Single (node 3 j (taken_in a i))
    ∷ [])) (pair 2 3 ∷ [])

abbrev pub exception : Table
exception = basic (codes "F") (decl i ∷ decl j ∷ []) exception_body ∷ []

abbrev pub ExceptionIsMade : Type 0
ExceptionIsMade = IsChoiceList exception (codes "F") (record { place = behind 37; instances = i ∷ j ∷ [] } ∷ [])
