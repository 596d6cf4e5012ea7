use Rattle.std.proofs.Common.{◌↔◌, Bool, IsTrue, subst}
use Rattle.chart_term.specs.Tables.{terms_over}
use Rattle.hmsc_graph.specs.Graphs.{Net, Start, End, WalkThrough}
use Rattle.empty_terms.specs.Answers.{AreNodesTold}
use Rattle.empty_terms.specs.Passing.{HasEmptyWalk}
use Rattle.empty_terms.proofs.Emptying.{if_ok, walk_told}
use Rattle.empty_terms.proofs.emptiness.has_empty_walk.Goals as goal

pub returns : goal.returns
returns c =
    let w = c.args.nets.now.tables in
    let ms = c.in_ok-nodes.nodes.nodes in
    if_ok (λ (b : Bool). IsTrue b ↔ WalkThrough c.net.result.now ms Start End) (λ (b : Bool). AreNodesTold w c.args.net c.args.root c.args.answers.now → IsTrue b ↔ HasEmptyWalk (terms_over w) c.args.net) c.has_walk.result
    (λ b h told. walk_told w c.args.net c.args.root c.args.answers.now ms b c.in_ok-nodes.ensures.net c.in_ok-nodes.ensures.nodes told (subst (λ (g : Net). IsTrue b ↔ WalkThrough g ms Start End) c.net.ensures.net h))
    c.has_walk.ensures
