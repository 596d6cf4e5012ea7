use Rattle.std.proofs.Common.{◌≡◌, ◌<◌, ◌+◌, ◌-◌, Bool, List, length, slice_set, ap, sym, subst, arith, refl}
use Rattle.chart_term.specs.Tables.{terms_over}
use Rattle.empty_terms.specs.Answers.{ArePartsTold}
use Rattle.empty_terms.specs.Outlines.{parts_in}
use Rattle.empty_terms.proofs.Emptying.{parts_told, parts_within, told_more, told_later, length_set}
use Rattle.empty_terms.proofs.emptiness.tell.Goals as goal

pub is_empty-answer-requires-clause-parts : goal.is_empty-answer-requires-clause-parts
is_empty-answer-requires-clause-parts c = λ j l.
    let h = parts_within c.args.outline.now.terms c.args.outline.now.firsts.items (c.loop-number.number - 1) c.first.result c.term.result.now c.term.ensures c.first.ensures c.requires.known j l in
    omega (arith, h, ap length c.as_slice.ensures.value, c.loop-number.invariant.count, c.requires.answers)

pub loop-number-preserved : goal.loop-number-preserved
loop-number-preserved c =
    let ts = c.args.outline.now.terms in
    let fs = c.args.outline.now.firsts.items in
    let bs = c.loop-number.answers.items in
    let k = c.loop-number.number - 1 in
    let x = c.term.result.now in
    let next : c.loop-number.number ≡ k + 1 = omega (arith, c.loop-number-test.true) in
    let below : k < length bs = omega (arith, c.loop-number.invariant.within, c.loop-number.invariant.count, c.requires.answers, c.requires.to, c.loop-number-test.true) in
    record {
      within = omega (arith, c.loop-number.invariant.within);
      count = omega (arith, c.loop-number.invariant.count, length_set bs k c.is_empty-answer.result);
      told = λ w known told.
          let before = c.loop-number.invariant.told w known told in
          let parts = parts_told (terms_over w) ts fs bs k c.loop-number.number c.first.result x next c.term.ensures c.first.ensures c.requires.known before in
          let here = c.is_empty-answer.ensures w known (subst (λ (l : List Bool). ArePartsTold (terms_over w) l c.first.result (parts_in x)) (sym c.as_slice.ensures.value) parts) in
          told_more (terms_over w) ts bs (slice_set bs k c.is_empty-answer.result) k c.loop-number.number x c.is_empty-answer.result next below c.term.ensures refl here before;
    }

pub returns-clause-told : goal.returns-clause-told
returns-clause-told c = λ w known told.
    told_later (terms_over w) c.args.outline.now.terms c.loop-number.answers.items c.loop-number.number c.args.from (omega (arith, c.loop-number-test.false)) (c.loop-number.invariant.told w known told)
