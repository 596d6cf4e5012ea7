use Rattle.pattern_marks.specs.Marks.{signs_of}
use Rattle.pattern_marks.proofs.Testing.{if_ok, not_placed, not_rising, tied_run}
use Rattle.pattern_marks.proofs.runs.are_run.Goals as goal

pub returns-then-not-branch : goal.returns-then-not-branch
returns-then-not-branch c = λ p e.
    not_placed c.checks_are_exact.ensures c.args.labels.now p (signs_of c.args.outline.now.terms c.args.marks.now) c.in_ok-are_placed.field-0 e (c.in_ok-are_placed.ensures c.args.outline.now.terms) c.if-not-branch.true

pub returns-then-not-branch-2 : goal.returns-then-not-branch-2
returns-then-not-branch-2 c = λ p e.
    not_rising c.checks_are_exact.ensures c.args.labels.now p (signs_of c.args.outline.now.terms c.args.marks.now) c.in_ok-do_rise.field-0 e (c.in_ok-do_rise.ensures c.args.outline.now.terms) c.if-not-branch-2.true

pub returns : goal.returns
returns c = if_ok c.are_tied.result _ _ (λ are h p e.
    tied_run c.checks_are_exact.ensures c.args.labels.now p (signs_of c.args.outline.now.terms c.args.marks.now) are e
    ((c.in_ok-are_placed.ensures c.args.outline.now.terms).0 c.if-not-branch.false) ((c.in_ok-do_rise.ensures c.args.outline.now.terms).0 c.if-not-branch-2.false) h) c.are_tied.ensures
