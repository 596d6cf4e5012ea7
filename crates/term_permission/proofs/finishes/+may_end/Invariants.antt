use Rattle.std.proofs.Common.{◌≡◌, ◌+◌, ◌*◌, ◌≤◌, ◌↔◌, take}
use Rattle.chart_term.specs.NormalForms.{begun}
use Rattle.chart_term.specs.Rows.{part_of}
use Rattle.chart_term.specs.Tables.{net_of, terms_over}
use Rattle.hmsc_graph.specs.Nets.{size_of}
use Rattle.term_permission.specs.Endings.{AreEnding}
use Rattle.term_permission.specs.Ready.{IsReady}
use Rattle.term_permission.proofs.EndingFacts.{EndBut, NoneBut}
use Rattle.term_laws.specs.Taking.{EndLoop, MayEnd}
use Rattle.term_laws.proofs.Measures.{rank_in, rank_all, rank_row, rank_part}
use Rattle.term_laws.proofs.TermSentences.{net_rank}
use Rattle.term_permission.proofs.finishes.+may_end.Given as goal

abbrev pub decreases-may_end : goal.decreases-may_end
decreases-may_end l = 5 * rank_in l.nets.now.tables l.term.now + 1

abbrev pub decreases-ending_of : goal.decreases-ending_of
decreases-ending_of l = 5 * rank_in l.nets.now.tables l.term.now

abbrev pub decreases-all_may_end : goal.decreases-all_may_end
decreases-all_may_end l = 5 * rank_all l.nets.now.tables (begun l.parts.now) + 2

abbrev pub decreases-one_may_end : goal.decreases-one_may_end
decreases-one_may_end l = 5 * rank_all l.nets.now.tables (begun l.parts.now) + 2

abbrev pub decreases-loop_may_end : goal.decreases-loop_may_end
decreases-loop_may_end l = 5 * (rank_in l.nets.now.tables l.body.now + rank_row l.nets.now.tables l.row.now) + 4

abbrev pub decreases-turns_may_end : goal.decreases-turns_may_end
decreases-turns_may_end l = 5 * rank_row l.nets.now.tables l.row.now + 3

abbrev pub decreases-walk_may_end : goal.decreases-walk_may_end
decreases-walk_may_end l = 5 * net_rank l.nets.now.tables l.net + 3

abbrev pub decreases-ending_nodes : goal.decreases-ending_nodes
decreases-ending_nodes l = 5 * net_rank l.nets.now.tables l.net + 2

abbrev pub invariant-may_end-loop-ends : goal.invariant-may_end-loop-ends
invariant-may_end-loop-ends l = record {
  same : MayEnd (terms_over l.nets.tables) l.part ↔ MayEnd (terms_over l.nets.tables) l.term;
  ready : IsReady l.nets.tables l.part;
  within : rank_in l.nets.tables l.part ≤ rank_in l.nets.tables l.term;
}

abbrev pub decreases-may_end-loop-ends : goal.decreases-may_end-loop-ends
decreases-may_end-loop-ends l = rank_in l.nets.tables l.part

abbrev pub invariant-all_may_end-loop-index : goal.invariant-all_may_end-loop-index
invariant-all_may_end-loop-index l = EndBut (terms_over l.nets.tables) (begun l.parts) l.heavy l.index

abbrev pub invariant-one_may_end-loop-index : goal.invariant-one_may_end-loop-index
invariant-one_may_end-loop-index l = NoneBut (terms_over l.nets.tables) (begun l.parts) l.heavy l.index

abbrev pub invariant-turns_may_end-loop-index : goal.invariant-turns_may_end-loop-index
invariant-turns_may_end-loop-index l = EndLoop (terms_over l.nets.tables) (take l.index l.row)

abbrev pub invariant-ending_nodes-loop-node : goal.invariant-ending_nodes-loop-node
invariant-ending_nodes-loop-node l = record {
  size : l.nodes.size ≡ size_of (net_of l.nets.tables l.net);
  ending : AreEnding l.nets.tables l.net l.node l.nodes.nodes;
}

abbrev pub decreases-part_may_end : goal.decreases-part_may_end
decreases-part_may_end l = 5 * rank_part l.nets.now.tables (part_of l.part.now) + 2
