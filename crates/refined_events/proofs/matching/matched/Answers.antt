use Rattle.std.proofs.Common.{◌+◌, ◌++◌, ◌∙◌, List, ap, drop, option_map, subst, sym, take}
use Rattle.std.specs.Option.{option_copied}
use Rattle.msc_meaning.specs.Bodies.{EventNode}
use Rattle.msc_meaning.specs.Refinements.{matches_behind}
use Rattle.msc_meaning.specs.Views.{node_view}
use Rattle.refined_events.specs.MatchViews.{matches_view, nodes_view}
use Rattle.refined_events.specs.Sorted.{AreCounts}
use Rattle.refined_events.proofs.MatchLaws.{behind_more}
use Rattle.refined_events.proofs.Walks.{nodes_left, nodes_more}
use Rattle.refined_events.proofs.matching.matched.Goals as goal

pub loop-node-preserved : goal.loop-node-preserved
loop-node-preserved c =
    let before = nodes_view (take c.loop-node.node-index c.args.nodes.now) in
    let behind = nodes_view (drop (c.loop-node.node-index + 1) c.args.nodes.now) in
    let node = node_view c.node-item.result.now in
    let taken = nodes_more c.args.nodes.now c.loop-node.node-index c.node-item.result c.loop-node-test.true c.node-item.is in
    record {
      counts = subst (λ (es : List EventNode). AreCounts es c.next_inner.new.before) (sym taken) (c.in_ok-found.ensures.counted before c.loop-node.invariant.counts);
      list = λ ds s.
          ap (λ (es : List EventNode). matches_view c.push_match.new.list.items ++ matches_behind ds es behind) taken
          ∙ behind_more ds before node behind (matches_view c.loop-node.list.items) (matches_view c.push_match.new.list.items) (option_map node_view (option_copied c.in_ok-found.found)) (c.in_ok-found.ensures.found before ds c.loop-node.invariant.counts s) c.in_ok-push_match.ensures
          ∙ ap (λ (es : List EventNode). matches_view c.loop-node.list.items ++ matches_behind ds before es) (sym (nodes_left c.args.nodes.now c.loop-node.node-index c.node-item.result c.loop-node-test.true c.node-item.is))
          ∙ c.loop-node.invariant.list ds s;
    }
