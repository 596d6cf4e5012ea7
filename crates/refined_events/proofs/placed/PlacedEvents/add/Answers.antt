use Rattle.std.proofs.Common.{Option, subst}
use Rattle.msc_meaning.specs.Views.{node_view}
use Rattle.refined_events.specs.Keys.{IsKeyOf}
use Rattle.refined_events.specs.declared.keys.EventKey.{EventKey}
use Rattle.refined_events.proofs.CountLaws.{sorted_key}
use Rattle.refined_events.proofs.placed.PlacedEvents.add.Goals as goal

pub returns-in_ok-add_key-in-Some : goal.returns-in_ok-add_key-in-Some
returns-in_ok-add_key-in-Some c = λ ds sorted. sorted_key ds (node_view c.args.node.now) c.in-Some.key c.args.self.now c.add_key.new.self (subst (λ (o : Option EventKey). IsKeyOf (node_view c.args.node.now) o) c.in-Some.is c.in_ok-of.ensures) c.in_ok-add_key-in-Some.ensures sorted
