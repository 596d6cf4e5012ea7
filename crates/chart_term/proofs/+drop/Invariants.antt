use Rattle.std.proofs.Common.{◌<◌, ◌≤◌}
use Rattle.chart_term.specs.Sizes.{nodes, parts_nodes}
use Rattle.chart_term.proofs.+drop.Given as goal

abbrev pub invariant-term::Term::drop-loop-inside : goal.invariant-term::Term::drop-loop-inside
invariant-term::Term::drop-loop-inside l = nodes l.self ≤ nodes l.fn.self

abbrev pub decreases-term::Term::drop-loop-inside : goal.decreases-term::Term::drop-loop-inside
decreases-term::Term::drop-loop-inside l = nodes l.self

abbrev pub invariant-term::Term::drop-loop-stretch : goal.invariant-term::Term::drop-loop-stretch
invariant-term::Term::drop-loop-stretch l = record {
  within : parts_nodes l.parts ≤ parts_nodes l.initial.parts;
  below : parts_nodes l.parts < nodes l.fn.self;
}
