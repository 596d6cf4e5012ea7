use Rattle.std.proofs.Common.{◌↔◌, ℕ, Bool, IsTrue, List, length, ap, sym, subst, arith}
use Rattle.chart_term.specs.Tables.{terms_over}
use Rattle.empty_terms.specs.Answers.{AreNodesTold, AreWalksTold}
use Rattle.empty_terms.specs.Passing.{HasEmptyWalk}
use Rattle.empty_terms.proofs.Emptying.{net_at, nodes_told, nodes_within, walks_more}
use Rattle.empty_terms.proofs.emptiness.tell_net.Goals as goal

pub has_empty_walk-requires-clause-nodes : goal.has_empty_walk-requires-clause-nodes
has_empty_walk-requires-clause-nodes c =
    let w = c.args.nets.now.tables in
    let at = net_at w c.requires.outline.0 c.args.outline.now c.args.net c.root-root.result c.requires.outline.1 c.requires.net c.root-root.ensures in
    let within = nodes_within w c.args.outline.now.terms c.args.net c.root-root.result at in
    omega (arith, within, ap length c.as_slice-2.ensures.value, c.tell.ensures.count, c.requires.answers)

pub returns-clause-told : goal.returns-clause-told
returns-clause-told c = λ known told.
    let w = c.args.nets.now.tables in
    let ts = c.args.outline.now.terms in
    let at = net_at w c.requires.outline.0 c.args.outline.now c.args.net c.root-root.result c.requires.outline.1 c.requires.net c.root-root.ensures in
    let now = c.tell.ensures.told w (subst (λ (l : List Bool). AreWalksTold (terms_over w) l) (sym c.as_slice.ensures.value) known) told in
    let nodes = subst (λ (l : List Bool). AreNodesTold w c.args.net c.root-root.result l) (sym c.as_slice-2.ensures.value) (nodes_told w ts c.args.net c.root-root.result c.tell.new.answers.items at now) in
    let here = subst (λ (n : ℕ). IsTrue c.in_ok-has.has ↔ HasEmptyWalk (terms_over w) n) (sym c.requires.walks) (c.in_ok-has.ensures nodes) in
    (now, walks_more (terms_over w) c.args.walks.now.items c.push.new.self.items c.in_ok-has.has c.in_ok-push.ensures.items here known)
