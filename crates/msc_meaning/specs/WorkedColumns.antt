-- A chart whose columns share an alternative, and whose woven order isn't that of the text.
use Rattle.std.specs.Prelude.{ℕ, List, [], ◌∷◌, Some, None, codes}
use Rattle.msc_base.specs.declared.place.Place.{Place}
use Rattle.msc_tree.specs.declared.chart.Cover.TheVariants.{All}
use Rattle.msc_tree.specs.declared.event.Target.TheVariants.{Env}
use Rattle.msc_tree.specs.declared.reference.InlineForm.TheVariants.{Alt}
use Rattle.msc_tree.specs.Charts as drawn
use Rattle.msc_tree.specs.Statements.{InlineHead, InColumn, operands, placed, Statement, Column, Operand}
use Rattle.msc_tree.specs.Statements as tree
use Rattle.msc_meaning.specs.Bodies.{Body, level, Single, Inline, items, bodies}
use Rattle.msc_meaning.specs.Meanings.{Finished}
use Rattle.msc_meaning.specs.ShownUnfoldings.{AreShown}
use Rattle.msc_meaning.specs.Tables.{Table}
use Rattle.msc_meaning.specs.WorkedCharts.{a, i, j, x}
use Rattle.msc_meaning.specs.WorkedParts.{node, out, taken_in, out_to, action, pair, decl, basic, sent, received, sent_out, done}
use Rattle.msc_meaning.specs.WovenTables.{IsEntryOf}

abbrev pub place_at : ℕ → Place
place_at n = record { byte = n; line = 1; column = n }

-- instance i; alt begin X shared all; out a to j; alt; action 'x'; alt end; endinstance;
-- instance j; out b to env; alt begin X shared all; in a from i; alt; alt end; endinstance;
abbrev pub head : InlineHead
head = record { form = Alt; lower = 1; upper = Some 1; name = Some (codes "X"); shared = Some All }

abbrev pub in_column : List tree.Item → Operand
in_column held = InColumn (tree.items held)

abbrev pub text : List Statement
text = Column (decl i) (tree.items (placed (place_at 1) (tree.Inline head (operands (
    in_column (placed (place_at 2) (tree.Single (out a j)) ∷ []) ∷ in_column (placed (place_at 3) (tree.Single (action x)) ∷ []) ∷ []))) ∷ []))
    ∷ Column (decl j) (tree.items (placed (place_at 4) (tree.Single (out_to (codes "b") (Env None)))
    ∷ placed (place_at 5) (tree.Inline head (operands (in_column (placed (place_at 6) (tree.Single (taken_in a i)) ∷ []) ∷ in_column [] ∷ [])))
    ∷ []))
    ∷ []

-- the events are numbered in the order of the text; the output of j, which its column has first, comes first
abbrev pub exchange : Body
exchange = level (i ∷ j ∷ []) (items (Single (node 0 i (out a j)) ∷ Single (node 3 j (taken_in a i)) ∷ [])) (pair 0 3 ∷ [])

abbrev pub alone : Body
alone = level (i ∷ j ∷ []) (items (Single (node 1 i (action x)) ∷ [])) []

abbrev pub shared_body : Body
shared_body = level (i ∷ j ∷ []) (items (
    Single (node 2 j (out_to (codes "b") (Env None)))
    ∷ Inline Alt (record { lower = 1; upper = Some 1; name = Some (codes "X"); cover = i ∷ j ∷ []; place = place_at 1 }) (bodies (exchange ∷ alone ∷ []))
    ∷ [])) []

abbrev pub chart : drawn.Chart
chart = record { name = codes "W"; place = place_at 0; decls = []; messages = []; timers = []; content = drawn.Basic text }

abbrev pub table : Table
table = basic (codes "W") (decl i ∷ decl j ∷ []) shared_body ∷ []

-- the alternative waits for what the column of j has before it; its first operand has what both columns have in it
abbrev pub ColumnsAreWoven : Type 0
ColumnsAreWoven = IsEntryOf (i ∷ j ∷ []) chart (basic (codes "W") (decl i ∷ decl j ∷ []) shared_body)

abbrev pub ColumnsUnfold : Type 0
ColumnsUnfold = AreShown (Finished table (codes "W")) (
    record { labels = sent_out j (codes "b") ∷ sent i a j ∷ received j a i ∷ []; before = (0, 2) ∷ (1, 2) ∷ [] }
    ∷ record { labels = sent_out j (codes "b") ∷ done i x ∷ []; before = [] }
    ∷ [])
