use Rattle.std.proofs.Common.{◌≡◌, ◌++◌, ◌+◌, List, drop, take, ap, ◌∙◌}
use Rattle.chart_term.specs.NormalForms.{begun, has_gap, open_part}
use Rattle.chart_term.specs.PartLists.{AreTurns}
use Rattle.chart_term.specs.Rows.{parts_of}
use Rattle.chart_term.specs.Terms.{Part}
use Rattle.term_permission.specs.Lefts.{mode_of}
use Rattle.term_permission.proofs.Joins.{ok-as, others-begun, others-turns, turns-take}
use Rattle.term_permission.proofs.left.put_in.Goals as goal

pub replaced-requires-clause-before : goal.replaced-requires-clause-before
replaced-requires-clause-before c = ap has_gap c.in_ok-before-in_default.ensures ∙ turns-take c.args.parts.now c.args.index c.requires.turns

pub returns-in-Nil-Leaf-clause-turns : goal.returns-in-Nil-Leaf-clause-turns
returns-in-Nil-Leaf-clause-turns c =
    ok-as (λ (ps : List Part). ps ≡ parts_of (take c.args.index c.in-Nil-Leaf.items.now ++ drop (c.args.index + 1) c.in-Nil-Leaf.items.now)) (λ (ps : List Part). AreTurns ps) c.without.result (λ ps h. others-turns c.args.parts.now ps c.in-Nil-Leaf.items.now c.args.index c.in-Nil-Leaf.ensures' h c.requires.turns) c.without.ensures

pub returns-in-Nil-Leaf-clause-whole : goal.returns-in-Nil-Leaf-clause-whole
returns-in-Nil-Leaf-clause-whole c =
    ok-as (λ (ps : List Part). ps ≡ parts_of (take c.args.index c.in-Nil-Leaf.items.now ++ drop (c.args.index + 1) c.in-Nil-Leaf.items.now)) (λ (ps : List Part). begun ps ≡ begun (take c.args.index c.args.parts.now) ++ (open_part (mode_of c.args.joint) c.args.left.now ++ begun (drop (c.args.index + 1) c.args.parts.now))) c.without.result (λ ps h. others-begun c.args.parts.now ps c.in-Nil-Leaf.items.now c.args.index c.in-Nil-Leaf.ensures' h (mode_of c.args.joint) c.args.left.now c.in-Nil-Leaf.ensures) c.without.ensures
