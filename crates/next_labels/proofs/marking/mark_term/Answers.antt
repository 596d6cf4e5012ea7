use Rattle.std.proofs.Common.{◌∙◌, ◌∷◌, [], List, sym, subst, arith}
use Rattle.chart_term.specs.Properties.{Each}
use Rattle.chart_term.specs.Terms.{Tree}
use Rattle.term_permission.proofs.SoundReady.{ready_by_soundness}
use Rattle.trace_judge.specs.Sets.{IsSoundFor}
use Rattle.next_labels.specs.Marks.{MarksMore}
use Rattle.next_labels.proofs.Marked.{Only, all_asked, asked_more, next_asked}
use Rattle.next_labels.proofs.marking.mark_term.Goals as goal

pub first_labels-requires-clause-tables : goal.first_labels-requires-clause-tables
first_labels-requires-clause-tables c = ready_by_soundness.tables _ c.args.nets.now.tables c.args.term.now c.requires.sound.full

pub first_labels-requires-clause-term : goal.first_labels-requires-clause-term
first_labels-requires-clause-term c = ready_by_soundness.term _ c.args.nets.now.tables c.args.term.now c.requires.sound.full

pub mark_label-requires-clause-sound : goal.mark_label-requires-clause-sound
mark_label-requires-clause-sound c = subst (λ (ts : List Tree). Each (IsSoundFor c.args.nets.now) ts) (sym c.in_ok-set.ensures) (c.requires.sound, tt)

pub mark_label-requires-clause-size : goal.mark_label-requires-clause-size
mark_label-requires-clause-size c = c.loop-index.invariant.marks.size ∙ c.requires.size

pub loop-index-preserved : goal.loop-index-preserved
loop-index-preserved c = record {
  marks = next_asked c.args.nets.now (c.args.term.now ∷ []) c.in_ok-labels.labels.items c.loop-index.index c.number_at-number.result c.args.marks.now c.loop-index.marks c.mark_label.new.marks c.number_at-number.ensures c.loop-index.invariant.marks
      (subst (λ (ts : List Tree). MarksMore c.args.nets.now ts (Only c.number_at-number.result) c.loop-index.marks c.mark_label.new.marks) c.in_ok-set.ensures c.in_ok-mark_label.ensures);
  size = c.add.ensures.size ∙ c.loop-index.invariant.size;
  asked = asked_more c.in_ok-labels.labels.items c.loop-index.index c.number_at-number.result c.loop-index.asked c.add.new.self c.number_at-number.ensures c.loop-index.invariant.asked c.add.ensures.nodes;
}

pub returns : goal.returns
returns c = all_asked c.args.nets.now c.args.term.now c.in_ok-labels.labels.items c.loop-index.index c.args.marks.now c.loop-index.marks c.in_ok-labels.ensures (omega (arith, c.loop-index-test.false)) c.loop-index.invariant.marks
