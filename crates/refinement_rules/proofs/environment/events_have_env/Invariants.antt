use Rattle.std.proofs.Common.{◌≡◌, ◌||◌, drop}
use Rattle.std.specs.Prelude.{map}
use Rattle.msc_meaning.specs.Views.{node_view}
use Rattle.refinement_rules.specs.Judging.{some_env}
use Rattle.refinement_rules.proofs.environment.events_have_env.Given as goal

abbrev pub invariant-loop-node : goal.invariant-loop-node
invariant-loop-node l = (l.one || some_env (map node_view (drop l.node-index l.nodes))) ≡ some_env (map node_view l.nodes)
