use Rattle.std.proofs.Common.{sym, subst, ap, ◌∙◌, List}
use Rattle.chart_term.specs.NormalForms.{begun, has_gap}
use Rattle.chart_term.specs.Properties.{EachTurn}
use Rattle.chart_term.specs.Terms.{Part}
use Rattle.msc_base.specs.Patterns.{seq}
use Rattle.term_permission.specs.Lefts.{opened_left}
use Rattle.term_permission.specs.Ready.{IsReady}
use Rattle.term_laws.specs.Normality.{IsPartOf}
use Rattle.term_laws.specs.Permission.{permits_of}
use Rattle.term_laws.specs.Values.{block_of}
use Rattle.term_step.proofs.Ascending.{row-none, row-whole}
use Rattle.term_permission.proofs.Joins.{each-take, turns-take}
use Rattle.term_step.proofs.KeptNumbers.{join_keeps}
use Rattle.term_step.proofs.ascent.rows.put_in_row.Goals as goal

pub permit_parts-requires-clause-turns : goal.permit_parts-requires-clause-turns
permit_parts-requires-clause-turns c = ap has_gap c.in_ok-before.ensures ∙ turns-take c.args.parts.now c.args.index c.requires.turns

pub permit_parts-requires-clause-ready : goal.permit_parts-requires-clause-ready
permit_parts-requires-clause-ready c = subst (λ (ps : List Part). EachTurn (IsReady c.args.nets.now.tables) ps) (sym c.in_ok-before.ensures) (each-take (IsReady c.args.nets.now.tables) c.args.parts.now c.args.index c.requires.ready)

pub permit_parts-requires-clause-open : goal.permit_parts-requires-clause-open
permit_parts-requires-clause-open c = subst (λ (ps : List Part). EachTurn (IsPartOf seq) ps) (sym c.in_ok-before.ensures) (each-take (IsPartOf seq) c.args.parts.now c.args.index c.requires.open)

pub kept-requires : goal.kept-requires
kept-requires c = ap has_gap c.in_ok-before.ensures ∙ turns-take c.args.parts.now c.args.index c.requires.turns

pub replaced-requires-clause-before : goal.replaced-requires-clause-before
replaced-requires-clause-before c =
    let kept = rw c.in-Some.is at (c.in_ok-before-2.ensures (opened_left (permits_of c.args.nets.now.tables) (block_of c.args.taken.now.at) seq (begun c.in_ok-before.before)) c.in_ok-permitted.ensures) in
    kept.1

pub returns-in_default-clause-whole : goal.returns-in_default-clause-whole
returns-in_default-clause-whole c =
    let kept = rw c.in_default.is at (c.in_ok-before-2.ensures (opened_left (permits_of c.args.nets.now.tables) (block_of c.args.taken.now.at) seq (begun c.in_ok-before.before)) c.in_ok-permitted.ensures) in
    row-none c.args.nets.now.tables c.args.taken.now c.requires.taken c.args.parts.now c.in_ok-before.before c.args.index c.args.left.now c.requires.turns c.requires.ready c.requires.index c.in_ok-before.ensures kept

pub returns-clause-whole : goal.returns-clause-whole
returns-clause-whole c =
    let kept = rw c.in-Some.is at (c.in_ok-before-2.ensures (opened_left (permits_of c.args.nets.now.tables) (block_of c.args.taken.now.at) seq (begun c.in_ok-before.before)) c.in_ok-permitted.ensures) in
    row-whole c.args.nets.now.tables c.args.taken.now c.requires.taken c.args.parts.now c.in_ok-before.before c.in-Some.before c.in_ok-whole.whole c.args.index c.args.left.now c.in_ok-whole-2.whole c.requires.turns c.requires.ready c.requires.open c.requires.index c.in_ok-before.ensures kept.0 c.in_ok-whole.ensures.whole c.in_ok-whole-2.ensures

pub returns-clause-kept : goal.returns-clause-kept
returns-clause-kept c =
    let kept = rw c.in-Some.is at (c.in_ok-before-2.ensures (opened_left (permits_of c.args.nets.now.tables) (block_of c.args.taken.now.at) seq (begun c.in_ok-before.before)) c.in_ok-permitted.ensures) in
    let front = c.widened.ensures.kept (opened_left (permits_of c.args.nets.now.tables) (block_of c.args.taken.now.at) seq (begun c.in_ok-before.before)) c.in_ok-permitted.ensures in
    join_keeps seq c.widened.result c.args.parts.now c.in_ok-before.before c.in-Some.before c.in_ok-whole.whole c.args.index c.args.left.now c.in_ok-whole-2.whole c.requires.turns c.requires.index c.in_ok-before.ensures (front (begun c.in-Some.before) kept.0) c.in_ok-whole.ensures.whole c.in_ok-whole-2.ensures
    (λ x at n i j. c.requires.kept x at n i (c.widened.ensures.wider n j))
