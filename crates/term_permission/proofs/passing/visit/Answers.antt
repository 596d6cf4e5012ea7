use Rattle.std.proofs.Common.{◌∙◌}
use Rattle.std.proofs.lemmas.Result.{on_ok_weaker}
use Rattle.term_permission.proofs.PassingFacts.{visited_out, visited_empty, visited_more}
use Rattle.term_permission.proofs.passing.visit.Goals as goal

pub returns-in-Fails : goal.returns-in-Fails
returns-in-Fails c = visited_out c.args.graph.now c.args.node c.args.left c.args.search.now c.args.nodes.now c.in-Fails.is

pub returns-in-Empty : goal.returns-in-Empty
returns-in-Empty c =
    on_ok_weaker c.pass.result (λ h. visited_empty c.args.graph.now c.args.node c.args.left c.args.search.now c.args.nodes.now c.pass.new.search c.pass.new.nodes c.pass.ensures.size c.pass.ensures.passed h c.in-Empty.is c.pass.ensures.full) c.pass.ensures.entered

pub returns-in_ok-push-in-More : goal.returns-in_ok-push-in-More
returns-in_ok-push-in-More c =
    on_ok_weaker c.pass-in-More.result (λ h. visited_more c.args.graph.now c.args.node c.args.left c.args.search.now c.args.nodes.now c.pass-in-More.new.search c.pass-in-More.new.nodes c.pass-in-More.ensures.size c.pass-in-More.ensures.passed h c.in-More.is (c.pass-in-More.ensures.full ∙ c.in_ok-push-in-More.ensures.ok)) c.pass-in-More.ensures.entered
