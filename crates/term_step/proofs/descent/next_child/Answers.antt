use Rattle.std.proofs.Common.{ap, subst, Option}
use Rattle.bit_sets.specs.Blocks.{BlockValue}
use Rattle.chart_term.specs.Terms.{Tree, Join, Loop, Walk, row_of, trees}
use Rattle.hmsc_graph.specs.Spots.{spot_of, goal_of}
use Rattle.term_step.specs.Searches.{IsNext}
use Rattle.term_step.specs.declared.descent.Step.{Step}
use Rattle.term_permission.proofs.Joins.{ok-as}
use Rattle.term_step.proofs.Passes.{next-par, next-choice, next-tied, next-as}
use Rattle.term_step.specs.Skips.{ArePlaced}
use Rattle.chart_term.specs.NormalForms.{begun}
use Rattle.term_permission.specs.Ready.{IsReady}
use Rattle.term_permission.proofs.PermitLoops.{ready-loop}
use Rattle.term_permission.proofs.PermitWalks.{ready-walk}
use Rattle.msc_base.specs.Patterns.{seq}
use Rattle.term_step.proofs.descent.next_child.Goals as goal

pub next_in_row-requires-clause-row : goal.next_in_row-requires-clause-row
next_in_row-requires-clause-row c = subst (λ (x : Tree). IsReady c.args.nets.now.tables x) c.in-Seq.ensures.0 c.requires.term

pub next_in_row-requires-clause-placed : goal.next_in_row-requires-clause-placed
next_in_row-requires-clause-placed c = λ one. subst (λ (x : Tree). ArePlaced c.args.nets.now.tables c.args.label x c.args.met.now) c.in-Seq.ensures.0 (c.requires.placed one)

pub returns-in_ok-next-in-Seq : goal.returns-in_ok-next-in-Seq
returns-in_ok-next-in-Seq c = next-as c.args.nets.now.tables c.args.label c.args.term.now (Join seq (trees (begun c.in-Seq.parts.now))) c.args.from c.in_ok-next-in-Seq.next c.in-Seq.ensures.0 c.in_ok-next-in-Seq.ensures

pub returns-in_ok-next-in-Par : goal.returns-in_ok-next-in-Par
returns-in_ok-next-in-Par c =
    next-par c.args.nets.now.tables c.args.label c.args.term.now c.in-Par.parts.now c.args.from c.in-Par.ensures.1 c.in_ok-next-in-Par.next c.empty.result.instances c.in-Par.ensures.0 (ap (λ (b : BlockValue). b.instances) c.empty.ensures) c.in_ok-next-in-Par.ensures

pub returns-in_ok-next-in-Choice : goal.returns-in_ok-next-in-Choice
returns-in_ok-next-in-Choice c =
    next-choice c.args.nets.now.tables c.args.label c.args.term.now c.in-Choice.parts.now c.args.from c.in-Choice.ensures.1 c.in_ok-next-in-Choice.next c.empty-in-Choice.result.instances c.in-Choice.ensures.0 (ap (λ (b : BlockValue). b.instances) c.empty-in-Choice.ensures) c.in_ok-next-in-Choice.ensures

pub returns-in_ok-next-in-Tied : goal.returns-in_ok-next-in-Tied
returns-in_ok-next-in-Tied c =
    next-tied c.args.nets.now.tables c.args.label c.args.term.now c.args.from c.in-Tied.inner.now _ c.in_ok-next-in-Tied.next c.in-Tied.ensures c.in_ok-next-in-Tied.ensures

pub next_turn-requires-clause-row : goal.next_turn-requires-clause-row
next_turn-requires-clause-row c = ready-loop c.args.nets.now.tables c.args.term.now c.in-Loop.body.now c.in-Loop.lower c.in-Loop.upper c.in-Loop.row.now c.in-Loop.ensures c.requires.term

pub next_turn-requires-clause-placed : goal.next_turn-requires-clause-placed
next_turn-requires-clause-placed c = λ one. subst (λ (x : Tree). ArePlaced c.args.nets.now.tables c.args.label x c.args.met.now) c.in-Loop.ensures (c.requires.placed one)

pub returns-in-Loop : goal.returns-in-Loop
returns-in-Loop c =
    ok-as (λ (s : Option Step). IsNext c.args.nets.now.tables c.args.label (Loop c.in-Loop.body.now c.in-Loop.lower c.in-Loop.upper (row_of c.in-Loop.row.now)) c.args.from s) (λ (s : Option Step). IsNext c.args.nets.now.tables c.args.label c.args.term.now c.args.from s) c.next_turn.result
    (λ s h. next-as c.args.nets.now.tables c.args.label c.args.term.now (Loop c.in-Loop.body.now c.in-Loop.lower c.in-Loop.upper (row_of c.in-Loop.row.now)) c.args.from s c.in-Loop.ensures h) c.next_turn.ensures

pub next_node-requires-clause-from : goal.next_node-requires-clause-from
next_node-requires-clause-from c = (ready-walk c.args.nets.now.tables c.args.term.now c.in-Walk.net c.in-Walk.begin c.in-Walk.to c.in-Walk.own.now.instances c.requires.tables c.in-Walk.ensures c.requires.term).from

pub next_node-requires-clause-placed : goal.next_node-requires-clause-placed
next_node-requires-clause-placed c = λ one. subst (λ (x : Tree). ArePlaced c.args.nets.now.tables c.args.label x c.args.met.now) c.in-Walk.ensures (c.requires.placed one)

pub returns-in-Walk : goal.returns-in-Walk
returns-in-Walk c =
    ok-as (λ (s : Option Step). IsNext c.args.nets.now.tables c.args.label (Walk c.in-Walk.net (spot_of c.in-Walk.begin) (goal_of c.in-Walk.to) c.in-Walk.own.now.instances) c.args.from s) (λ (s : Option Step). IsNext c.args.nets.now.tables c.args.label c.args.term.now c.args.from s) c.next_node.result
    (λ s h. next-as c.args.nets.now.tables c.args.label c.args.term.now (Walk c.in-Walk.net (spot_of c.in-Walk.begin) (goal_of c.in-Walk.to) c.in-Walk.own.now.instances) c.args.from s c.in-Walk.ensures h) c.next_node.ensures
