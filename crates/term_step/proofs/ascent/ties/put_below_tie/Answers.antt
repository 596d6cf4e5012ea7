use Rattle.std.specs.Option.{option_map}
use Rattle.std.proofs.Common.{◌∙◌, ap, sym, Some}
use Rattle.chart_term.specs.NormalForms.{numbers, tie_of}
use Rattle.chart_term.specs.Terms.{Tree}
use Rattle.chart_term.specs.Views.{pairs_of}
use Rattle.term_permission.specs.Lefts.{left_of}
use Rattle.term_permission.specs.declared.left.Left.{Left}
use Rattle.term_step.proofs.Ascending.{tie-permits}
use Rattle.term_step.proofs.KeptNumbers.{none_beside}
use Rattle.term_permission.proofs.Retying.{shown_by_kept}
use Rattle.term_step.proofs.ascent.ties.put_below_tie.Goals as goal

pub retied-requires-clause-shown : goal.retied-requires-clause-shown
retied-requires-clause-shown c = shown_by_kept c.args.gone.now (numbers c.args.inner.now) (numbers c.args.left) c.args.pairs.now c.requires.shown c.requires.kept

pub retied-requires-in-Changed-clause-shown : goal.retied-requires-in-Changed-clause-shown
retied-requires-in-Changed-clause-shown c =
    shown_by_kept c.wider.result (numbers c.args.inner.now) (numbers c.in-Changed.kept) c.args.pairs.now c.requires.shown
    (none_beside c.args.inner.now c.in-Changed.kept c.facts.result.now c.args.gone.now c.range.result c.wider.result c.facts.ensures c.range.ensures c.wider.ensures)

pub returns-in-Fails-clause-whole : goal.returns-in-Fails-clause-whole
returns-in-Fails-clause-whole c =
    ap (option_map (λ (z : Tree). tie_of z (pairs_of c.args.pairs.now)))
    (sym (sym c.in_ok-permit_term.ensures ∙ ap (λ (l : Left). left_of l c.args.left) c.in-Fails.is)
    ∙ tie-permits c.args.nets.now.tables c.args.taken.now c.requires.taken (pairs_of c.args.pairs.now) c.in_ok-block.block c.args.left c.in_ok-block.ensures.instances c.in_ok-block.ensures.events c.requires.left)

pub returns-in_ok-whole-in-Unchanged-clause-whole : goal.returns-in_ok-whole-in-Unchanged-clause-whole
returns-in_ok-whole-in-Unchanged-clause-whole c =
    ap Some c.in_ok-whole-in-Unchanged.ensures
    ∙ ap (option_map (λ (z : Tree). tie_of z (pairs_of c.args.pairs.now)))
    (sym (sym c.in_ok-permit_term.ensures ∙ ap (λ (l : Left). left_of l c.args.left) c.in-Unchanged.is)
    ∙ tie-permits c.args.nets.now.tables c.args.taken.now c.requires.taken (pairs_of c.args.pairs.now) c.in_ok-block.block c.args.left c.in_ok-block.ensures.instances c.in_ok-block.ensures.events c.requires.left)

pub returns-in_ok-whole-in-Changed-clause-whole : goal.returns-in_ok-whole-in-Changed-clause-whole
returns-in_ok-whole-in-Changed-clause-whole c =
    ap Some c.in_ok-whole-in-Changed.ensures
    ∙ ap (option_map (λ (z : Tree). tie_of z (pairs_of c.args.pairs.now)))
    (sym (sym c.in_ok-permit_term.ensures ∙ ap (λ (l : Left). left_of l c.args.left) c.in-Changed.is)
    ∙ tie-permits c.args.nets.now.tables c.args.taken.now c.requires.taken (pairs_of c.args.pairs.now) c.in_ok-block.block c.args.left c.in_ok-block.ensures.instances c.in_ok-block.ensures.events c.requires.left)

pub returns-in_ok-whole-in-Changed-clause-kept : goal.returns-in_ok-whole-in-Changed-clause-kept
returns-in_ok-whole-in-Changed-clause-kept c =
    none_beside c.args.inner.now c.in_ok-whole-in-Changed.whole c.facts.result.now c.args.gone.now c.range.result c.wider.result c.facts.ensures c.range.ensures c.wider.ensures
