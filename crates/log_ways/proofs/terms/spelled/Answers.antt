use Rattle.std.proofs.Common.{◌≡◌, ap, arith, length, nat_eq, refl, ◌%◌, ◌/◌, ◌∙◌}
use Rattle.chart_term.proofs.Turns.{begun-length, turns-map}
use Rattle.chart_term.specs.NormalForms.{begun, has_gap}
use Rattle.log_ways.proofs.Spelling.{bits_end, bits_step}
use Rattle.log_ways.proofs.terms.spelled.Goals as goal

pub par_of-requires : goal.par_of-requires
par_of-requires c = ap has_gap c.in_ok-turns.ensures ∙ turns-map c.loop-index.parts

pub loop-index-preserved : goal.loop-index-preserved
loop-index-preserved c =
    bits_step (begun c.args.events.now) c.loop-index.index c.term_at.result.now c.args.word c.loop-index.rest (c.loop-index.rest / 2) (nat_eq (c.loop-index.rest % 2) 1) c.loop-index.parts c.push_picked.new.parts c.term_at.ensures refl refl c.in_ok-push_picked.ensures
    c.loop-index.invariant

pub returns : goal.returns
returns c =
    let long : c.loop-index.index ≡ length (begun c.args.events.now) = omega (arith, begun-length c.args.events.now c.requires, c.len-index-end.ensures, c.loop-index-test.false, c.loop-index.auto.index-end) in
    bits_end (begun c.args.events.now) c.loop-index.index c.args.word c.loop-index.rest c.loop-index.parts c.in_ok-turns.turns c.in_ok-term.term long c.loop-index.invariant c.in_ok-turns.ensures c.in_ok-term.ensures
