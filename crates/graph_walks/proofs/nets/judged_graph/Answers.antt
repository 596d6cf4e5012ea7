use Rattle.std.proofs.Common.{◌≡◌, Some, subst}
use Rattle.hmsc_graph.specs.Graphs.{Any}
use Rattle.msc_tree.specs.Views.{graph_view}
use Rattle.term_laws.specs.FullSoundness.{fresh_walk}
use Rattle.graph_walks.proofs.Added.{judged_made, ready_added}
use Rattle.graph_walks.proofs.nets.judged_graph.Goals as goal

pub open_walk-requires-clause-tables : goal.open_walk-requires-clause-tables
open_walk-requires-clause-tables c =
    ready_added (graph_view c.args.graph.now) c.args.nodes c.args.nets.now c.add_graph.new.nets c.requires.tables c.requires.ready c.requires.nodes c.in_ok-net.ensures.added

pub returns-clause-judged : goal.returns-clause-judged
returns-clause-judged c =
    judged_made c.graph_terms_mean.ensures (graph_view c.args.graph.now) c.args.nodes c.args.nets.now c.add_graph.new.nets c.in_ok-term.term c.in_ok-net.ensures.added
    (subst (λ n. fresh_walk c.add_graph.new.nets.tables n Any ≡ Some c.in_ok-term.term) c.in_ok-net.ensures.number c.in_ok-term.ensures)
