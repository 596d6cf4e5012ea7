use Rattle.std.proofs.Common.{◌≡◌, ◌∙◌, arith, ap, subst, sym, IfOk, IfSome}
use Rattle.chart_term.specs.Views.{event_of}
use Rattle.term_laws.specs.Permission.{permits_of}
use Rattle.chart_term.specs.Terms.{Tree}
use Rattle.msc_base.specs.Patterns.{seq, par}
use Rattle.term_step.specs.Children.{put}
use Rattle.term_step.proofs.Descending.{count-seq, count-par, count-loop}
use Rattle.term_permission.proofs.Permits.{turns-are-open, turns-are-ready}
use Rattle.term_permission.proofs.PermitLoops.{ready-loop}
use Rattle.term_permission.proofs.PermitWalks.{ready-walk}
use Rattle.chart_term.specs.NormalForms.{begun}
use Rattle.chart_term.specs.Views.{pairs_of}
use Rattle.term_step.specs.Kept.{AreKept}
use Rattle.term_step.proofs.KeptNumbers.{each_kept, join_child, none_beside, tie_child}
use Rattle.term_permission.proofs.Retying.{tied_pairs}
use Rattle.term_step.proofs.ascent.put.Goals as goal

pub put_in_row-requires-clause-turns : goal.put_in_row-requires-clause-turns
put_in_row-requires-clause-turns c = c.in-Seq.ensures.1

pub put_in_row-requires-clause-ready : goal.put_in_row-requires-clause-ready
put_in_row-requires-clause-ready c = turns-are-ready c.args.nets.now.tables seq c.args.parent.now c.in-Seq.parts.now c.in-Seq.ensures.0 c.requires.parent

pub put_in_row-requires-clause-open : goal.put_in_row-requires-clause-open
put_in_row-requires-clause-open c = turns-are-open c.args.nets.now.tables seq c.args.parent.now c.in-Seq.parts.now c.in-Seq.ensures.0 c.requires.parent

pub put_in_row-requires-clause-index : goal.put_in_row-requires-clause-index
put_in_row-requires-clause-index c = omega (arith, count-seq c.args.nets.now.tables c.args.parent.now c.in-Seq.parts.now c.in-Seq.ensures.0 c.in-Seq.ensures.1, c.requires.index)

pub put_in_par-requires-clause-turns : goal.put_in_par-requires-clause-turns
put_in_par-requires-clause-turns c = c.in-Par.ensures.1

pub put_in_par-requires-clause-open : goal.put_in_par-requires-clause-open
put_in_par-requires-clause-open c = turns-are-open c.args.nets.now.tables par c.args.parent.now c.in-Par.parts.now c.in-Par.ensures.0 c.requires.parent

pub put_in_par-requires-clause-index : goal.put_in_par-requires-clause-index
put_in_par-requires-clause-index c = omega (arith, count-par c.args.nets.now.tables c.args.parent.now c.in-Par.parts.now c.in-Par.ensures.0 c.in-Par.ensures.1, c.requires.index)

pub put_in_loop-requires-clause-row : goal.put_in_loop-requires-clause-row
put_in_loop-requires-clause-row c = ready-loop c.args.nets.now.tables c.args.parent.now c.in-Loop.body.now c.in-Loop.lower c.in-Loop.upper c.in-Loop.row.now c.in-Loop.ensures c.requires.parent

pub put_in_loop-requires-clause-index : goal.put_in_loop-requires-clause-index
put_in_loop-requires-clause-index c = omega (arith, count-loop c.args.nets.now.tables c.args.parent.now c.in-Loop.body.now c.in-Loop.lower c.in-Loop.upper c.in-Loop.row.now c.in-Loop.ensures, c.requires.index)

pub put_on_walk-requires-clause-from : goal.put_on_walk-requires-clause-from
put_on_walk-requires-clause-from c = (ready-walk c.args.nets.now.tables c.args.parent.now c.in-Walk.net c.in-Walk.from c.in-Walk.to c.in-Walk.own.now.instances c.requires.tables c.in-Walk.ensures c.requires.parent).from

pub put_on_walk-requires-clause-to : goal.put_on_walk-requires-clause-to
put_on_walk-requires-clause-to c = (ready-walk c.args.nets.now.tables c.args.parent.now c.in-Walk.net c.in-Walk.from c.in-Walk.to c.in-Walk.own.now.instances c.requires.tables c.in-Walk.ensures c.requires.parent).to

pub put_in_row-requires-clause-kept : goal.put_in_row-requires-clause-kept
put_in_row-requires-clause-kept c y e = c.requires.kept y (join_child (permits_of c.args.nets.now.tables) seq c.args.parent.now (begun c.in-Seq.parts.now) c.args.index c.in-Seq.ensures.0 ∙ e)

pub put_below_tie-requires-clause-once : goal.put_below_tie-requires-clause-once
put_below_tie-requires-clause-once c = (tied_pairs c.args.nets.now.tables c.args.parent.now c.in-Tied.inner.now (pairs_of c.in-Tied.pairs.now) c.in-Tied.ensures c.requires.parent).1

pub put_below_tie-requires-clause-shown : goal.put_below_tie-requires-clause-shown
put_below_tie-requires-clause-shown c = (tied_pairs c.args.nets.now.tables c.args.parent.now c.in-Tied.inner.now (pairs_of c.in-Tied.pairs.now) c.in-Tied.ensures c.requires.parent).0

pub put_below_tie-requires-clause-kept : goal.put_below_tie-requires-clause-kept
put_below_tie-requires-clause-kept c =
    c.requires.kept c.in-Tied.inner.now (tie_child c.args.nets.now.tables (permits_of c.args.nets.now.tables) c.args.parent.now c.in-Tied.inner.now (pairs_of c.in-Tied.pairs.now) c.args.index c.in-Tied.ensures c.requires.index)

pub returns-in_ok-put_in_par-in-Par-clause-whole : goal.returns-in_ok-put_in_par-in-Par-clause-whole
returns-in_ok-put_in_par-in-Par-clause-whole c = c.in_ok-put_in_par-in-Par.ensures.whole ∙ ap (λ y. put (permits_of c.args.nets.now.tables) (event_of c.args.taken.now.event) y c.args.index c.args.left) (sym c.in-Par.ensures.0)

pub returns-in_ok-put_in_par-in-Par-clause-kept : goal.returns-in_ok-put_in_par-in-Par-clause-kept
returns-in_ok-put_in_par-in-Par-clause-kept c =
    subst (λ (y : Tree). AreKept c.args.gone.now y c.in_ok-put_in_par-in-Par.field-0) (sym c.in-Par.ensures.0)
    (c.in_ok-put_in_par-in-Par.ensures.kept c.args.gone.now (λ y e. c.requires.kept y (join_child (permits_of c.args.nets.now.tables) par c.args.parent.now (begun c.in-Par.parts.now) c.args.index c.in-Par.ensures.0 ∙ e)))

pub returns-in-Seq-clause-whole : goal.returns-in-Seq-clause-whole
returns-in-Seq-clause-whole c = subst (λ (y : Tree). IfOk c.put_in_row.result (λ whole. whole ≡ put (permits_of c.args.nets.now.tables) (event_of c.args.taken.now.event) y c.args.index c.args.left)) (sym c.in-Seq.ensures.0) c.put_in_row.ensures.whole

pub returns-in-Seq-clause-kept : goal.returns-in-Seq-clause-kept
returns-in-Seq-clause-kept c = subst (λ (y : Tree). IfOk c.put_in_row.result (λ whole. IfSome whole (AreKept c.put_in_row.new.gone y))) (sym c.in-Seq.ensures.0) c.put_in_row.ensures.kept

pub returns-in-Choice-clause-kept : goal.returns-in-Choice-clause-kept
returns-in-Choice-clause-kept c = none_beside c.args.parent.now c.args.left c.facts.result.now c.args.gone.now c.range.result c.wider.result c.facts.ensures c.range.ensures c.wider.ensures

pub returns-in_ok-whole-in-Loop-clause-kept : goal.returns-in_ok-whole-in-Loop-clause-kept
returns-in_ok-whole-in-Loop-clause-kept c =
    each_kept c.wider-in-Loop.result c.args.parent.now c.in_ok-whole-in-Loop.whole (λ z. none_beside c.args.parent.now z c.facts-in-Loop.result.now c.args.gone.now c.range-in-Loop.result c.wider-in-Loop.result c.facts-in-Loop.ensures c.range-in-Loop.ensures c.wider-in-Loop.ensures)
