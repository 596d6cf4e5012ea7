use Rattle.std.proofs.Common.{◌∙◌, arith}
use Rattle.next_labels.proofs.Marked.{all_terms, each_sound, next_term, no_terms}
use Rattle.next_labels.proofs.marking.marks_of_terms.Goals as goal

pub mark_term-requires-clause-sound : goal.mark_term-requires-clause-sound
mark_term-requires-clause-sound c = each_sound c.args.nets.now c.args.terms.now.items c.loop-index.index c.term_at.result.now c.term_at.ensures c.requires

pub loop-index-init : goal.loop-index-init
loop-index-init c = no_terms c.args.nets.now c.args.terms.now.items c.in_ok-marks.marks (c.in_ok-marks.ensures.size ∙ c.labels.ensures) c.in_ok-marks.ensures.empty

pub loop-index-preserved : goal.loop-index-preserved
loop-index-preserved c = next_term c.args.nets.now c.args.terms.now.items c.loop-index.index c.term_at.result.now c.loop-index.marks c.mark_term.new.marks c.term_at.ensures c.loop-index.invariant c.in_ok-mark_term.ensures

pub returns : goal.returns
returns c = all_terms c.args.nets.now c.args.terms.now.items c.loop-index.index c.loop-index.marks (omega (arith, c.len-index-end.ensures, c.loop-index-test.false)) c.loop-index.invariant
