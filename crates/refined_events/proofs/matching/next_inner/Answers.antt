use Rattle.std.proofs.Common.{Option, subst}
use Rattle.msc_meaning.specs.Views.{node_view}
use Rattle.refined_events.specs.Keys.{IsKeyOf}
use Rattle.refined_events.specs.declared.keys.EventKey.{EventKey}
use Rattle.refined_events.proofs.MatchLaws.{next_none}
use Rattle.refined_events.proofs.matching.next_inner.Goals as goal

pub returns-in-None-clause-found : goal.returns-in-None-clause-found
returns-in-None-clause-found c = λ es ds counts sorted. next_none es ds (node_view c.args.node.now) (subst (λ (o : Option EventKey). IsKeyOf (node_view c.args.node.now) o) c.in-None.is c.in_ok-of.ensures)
