use Rattle.std.proofs.Common.{inl, inr}
use Rattle.hmsc_graph.proofs.SearchFacts.{search_begun}
use Rattle.hmsc_graph.proofs.search.Traversal.of.Goals as goal

pub returns-clause-search : goal.returns-clause-search
returns-clause-search c = search_begun c.in_ok-reached.reached c.enter.new.reached c.args.firsts.now c.new-waiting.result.items c.enter.new.waiting.items c.in_ok-reached.ensures.empty c.new-waiting.ensures.items c.in_ok-enter.ensures

pub returns-clause-waiting : goal.returns-clause-waiting
returns-clause-waiting c = λ m i. elim (c.in_ok-enter.ensures.fresh m i) [ inl o ↦ absurd (c.in_ok-reached.ensures.empty m o) | inr n ↦ n ]
