use Rattle.msc_base.specs.declared.limits.TheConstants.Limits.{NODE_LINES}
use Rattle.graph_rules.proofs.GraphFacts.{line_here, no_line}
use Rattle.graph_rules.proofs.lines.above_limit.Goals as goal

pub returns-then-limit-lines : goal.returns-then-limit-lines
returns-then-limit-lines c = line_here c.args.lines.now NODE_LINES c.index-lines-limit.result c.place_of.result c.if-limit-lines.true c.index-lines-limit.is c.place_of.ensures

pub returns-else-limit-lines : goal.returns-else-limit-lines
returns-else-limit-lines c = no_line c.args.lines.now NODE_LINES c.if-limit-lines.false
