use Rattle.std.proofs.Common.{◌≡◌, subst}
use Rattle.hmsc_graph.specs.Graphs.{End}
use Rattle.msc_tree.specs.Views.{graph_view}
use Rattle.term_laws.specs.FullSoundness.{fresh_walk}
use Rattle.term_permission.specs.Fresh.{IsUnreached}
use Rattle.graph_walks.proofs.Added.{closed_none, closed_some, ready_added}
use Rattle.graph_walks.proofs.nets.closed_graph.Goals as goal

pub fresh_walk-requires-clause-tables : goal.fresh_walk-requires-clause-tables
fresh_walk-requires-clause-tables c =
    ready_added (graph_view c.args.graph.now) c.args.nodes c.args.nets.now c.add_graph.new.nets c.requires.tables c.requires.ready c.requires.nodes c.in_ok-net.ensures.added

pub returns-clause-closed : goal.returns-clause-closed
returns-clause-closed c =
    closed_some c.graph_terms_mean.ensures (graph_view c.args.graph.now) c.args.nodes c.args.nets.now c.add_graph.new.nets c.in_ok-term.term c.in_ok-net.ensures.added
    (subst (λ n. c.in_ok-term.term ≡ fresh_walk c.add_graph.new.nets.tables n End) c.in_ok-net.ensures.number c.in_ok-term.ensures.walk)

pub returns-clause-none : goal.returns-clause-none
returns-clause-none c =
    closed_none (graph_view c.args.graph.now) c.args.nodes c.args.nets.now c.add_graph.new.nets c.in_ok-term.term c.in_ok-net.ensures.added
    (subst (λ n. c.in_ok-term.term ≡ fresh_walk c.add_graph.new.nets.tables n End) c.in_ok-net.ensures.number c.in_ok-term.ensures.walk)
    (λ e. subst (λ n. IsUnreached c.add_graph.new.nets.tables n End) c.in_ok-net.ensures.number (c.in_ok-term.ensures.none.0 e))
