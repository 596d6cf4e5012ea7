use Rattle.std.proofs.Common.{ap}
use Rattle.chart_term.specs.Rows.{part_of}
use Rattle.chart_term.proofs.Turns.{gap_there, no_gap_next}
use Rattle.chart_term.proofs.term.parts.have_gap.Goals as goal

pub returns-in-Gap : goal.returns-in-Gap
returns-in-Gap c = gap_there c.args.parts.now c.loop-part.part-index c.part-item.result c.in-Gap.field-0.instances c.loop-part-test.true c.part-item.is (ap part_of c.in-Gap.is)

pub loop-part-preserved : goal.loop-part-preserved
loop-part-preserved c = no_gap_next c.args.parts.now c.loop-part.part-index c.part-item.result c.in-Turn.field-0 c.loop-part-test.true c.part-item.is c.in-Turn.is c.loop-part.invariant
