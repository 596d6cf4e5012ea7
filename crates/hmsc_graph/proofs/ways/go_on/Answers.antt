use Rattle.std.proofs.Common.{◌<◌, ◌∙◌, Some, ℕ, List, refl, sym, subst, arith}
use Rattle.std.proofs.lemmas.Bool.{true≢false}
use Rattle.std.proofs.lemmas.Result.{on_ok_weaker}
use Rattle.hmsc_graph.specs.Graphs.{At}
use Rattle.hmsc_graph.specs.Nets.{size_of}
use Rattle.hmsc_graph.proofs.SearchFacts.{behind_below}
use Rattle.hmsc_graph.proofs.WayFacts.{met_work, node_in, searched_on, searched_past}
use Rattle.msc_base.specs.Lists.{IsIn}
use Rattle.hmsc_graph.proofs.ways.go_on.Goals as goal

pub behind-requires : goal.behind-requires
behind-requires c = c.requires.below c.at.result.now.node (node_in c.args.steps.now c.args.index c.at.result.now c.at.ensures)

pub meet-requires : goal.meet-requires
meet-requires c = λ m i.
    let below : m < size_of c.args.net.now = behind_below c.args.net.now (At c.at.result.now.node) m c.behind.ensures.net (subst (λ (l : List ℕ). IsIn m l) c.behind.ensures.nodes i) in
    omega (arith, below, c.requires.made)

pub returns-then-has-clause-on : goal.returns-then-has-clause-on
returns-then-has-clause-on c =
    on_ok_weaker c.meet.result (λ h from b. searched_on c.behind.result.now (Some c.args.index) c.args.met.now c.args.steps.now c.meet.new.met c.meet.new.steps h
    c.args.net.now c.args.allowed.now.nodes from c.args.index c.at.result.now refl c.at.ensures (c.has.ensures.has.0 c.if-has.true) (sym c.behind.ensures.nodes) b) c.meet.ensures

pub returns-then-has-clause-work : goal.returns-then-has-clause-work
returns-then-has-clause-work c =
    on_ok_weaker c.meet.result (λ h. met_work c.behind.result.now (Some c.args.index) c.args.met.now c.args.steps.now c.meet.new.met c.meet.new.steps h) c.meet.ensures

pub returns-clause-on : goal.returns-clause-on
returns-clause-on c = λ from b.
    searched_past c.args.net.now c.args.allowed.now.nodes from c.args.met.now c.args.steps.now c.args.index c.at.result.now c.at.ensures
    (λ i. true≢false (sym (c.has.ensures.has.1 i) ∙ c.if-has.false)) b
