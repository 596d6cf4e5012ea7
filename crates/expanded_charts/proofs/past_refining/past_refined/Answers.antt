use Rattle.std.proofs.Common.{ap, refl}
use Rattle.std.specs.BTreeMap.{get}
use Rattle.std.specs.Ordering.{nat_cmp}
use Rattle.refined_events.specs.MatchViews.{matches_view}
use Rattle.expanded_charts.specs.ShownGates.{gates_view}
use Rattle.expanded_charts.proofs.LeftParts.{refining_made}
use Rattle.expanded_charts.proofs.past_refining.past_refined.Goals as goal

pub returns : goal.returns
returns c =
    refining_made (matches_view c.args.matches.now) (get nat_cmp c.in_ok-numbers.numbers) c.in_ok-numbers.ensures c.args.made (record { part = c.args.made.part; own = c.in_ok-own.own; gates = c.new.result; next = c.args.made.next }) refl
    c.in_ok-own.ensures (ap gates_view c.new.ensures.items) refl
