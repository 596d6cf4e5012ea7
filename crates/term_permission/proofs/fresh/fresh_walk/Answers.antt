use Rattle.std.proofs.Common.{◌∙◌, ap, length}
use Rattle.chart_term.specs.NormalForms.{walk_cut}
use Rattle.hmsc_graph.specs.Graphs.{Start}
use Rattle.hmsc_graph.specs.Nets.{size_of}
use Rattle.hmsc_graph.specs.Spots.{goal_of}
use Rattle.chart_term.specs.Tables.{net_of, nodes_of}
use Rattle.term_permission.proofs.NodeTerms.{sizes-are}
use Rattle.term_permission.proofs.Within.{trail-ready, shown-goal}
use Rattle.bit_sets.specs.Blocks.{BlockValue}
use Rattle.term_laws.specs.Permission.{permits_of}
use Rattle.term_permission.proofs.FreshFacts.{trail-none}
use Rattle.term_permission.proofs.fresh.fresh_walk.Goals as goal

pub returns-clause-none : goal.returns-clause-none
returns-clause-none c =
    trail-none c.args.nets.now.tables c.requires.tables c.args.net c.requires.net (goal_of c.args.goal) c.in_ok-left.left
    (c.in_ok-left.ensures ∙ ap (λ (b : BlockValue). walk_cut (permits_of c.args.nets.now.tables) c.args.net Start (goal_of c.args.goal) b.instances) c.empty.ensures)

pub returns-clause-ready : goal.returns-clause-ready
returns-clause-ready c =
    let w = c.args.nets.now.tables in
    trail-ready w c.args.net (goal_of c.args.goal) c.in_ok-left.left c.requires.net
    (shown-goal (size_of (net_of w c.args.net)) (length (nodes_of w c.args.net)) c.args.goal (sizes-are w c.requires.tables c.args.net c.requires.net) c.requires.goal)
    (c.in_ok-left.ensures ∙ ap (λ (b : BlockValue). walk_cut (permits_of w) c.args.net Start (goal_of c.args.goal) b.instances) c.empty.ensures)
