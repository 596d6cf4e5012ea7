use Rattle.std.proofs.Common.{◌≡◌, ◌∙◌, ◌-◌, ℕ, true, false, Some, ap, sym, subst, arith}
use Rattle.hmsc_graph.specs.Graphs.{End, arrives}
use Rattle.chart_term.specs.Tables.{net_of, terms_over}
use Rattle.certificates.specs.Lines.{NodeLine}
use Rattle.hmsc_graph.specs.Graphs.{Net}
use Rattle.certificate_checking.specs.Tasks.{IsStepBy}
use Rattle.certificate_checking.specs.declared.step.Step.{Step}
use Rattle.certificate_checking.specs.declared.step.Task.TheVariants as task
use Rattle.hmsc_graph.specs.declared.spot.Spot.TheVariants as spot
use Rattle.certificate_checking.proofs.Stepping.{both}
use Rattle.certificate_checking.proofs.Stops.{inner_at, last_at, no_end}
use Rattle.certificate_checking.proofs.step.step_to.Goals as goal

pub returns-then-stops-gt1 : goal.returns-then-stops-gt1
returns-then-stops-gt1 c = λ ts i at.
    let w = c.args.nets.now.tables in
    subst (λ (s : Step). IsStepBy (terms_over w) ts (task.Stops c.args.stops.net c.args.stops.from c.args.stops.count) (NodeLine c.args.node) (Some s)) (sym c.both.ensures)
    (subst (λ (n : ℕ). IsStepBy (terms_over w) ts (task.Stops c.args.stops.net c.args.stops.from c.args.stops.count) (NodeLine c.args.node) (Some (both (task.Term c.args.part) (task.Stops c.args.stops.net (spot.Node n) (c.args.stops.count - 1))))) (sym c.number_in-node.ensures)
    (inner_at w ts c.args.stops.net c.args.stops.count c.args.stops.from c.args.node c.args.part (omega (arith, c.if-stops-gt1.true)) i at))

ends : (g h : Net) (m n : ℕ) (b c : _) → g ≡ h → m ≡ n → b ≡ arrives g End m → c ≡ b → arrives h End n ≡ c
ends g h m n b c e q r s = sym (ap (λ (z : Net). arrives z End n) e) ∙ (sym (ap (arrives g End) q) ∙ (sym r ∙ sym s))

pub returns-then-is_end : goal.returns-then-is_end
returns-then-is_end c = λ ts i at.
    let w = c.args.nets.now.tables in
    subst (λ (s : Step). IsStepBy (terms_over w) ts (task.Stops c.args.stops.net c.args.stops.from c.args.stops.count) (NodeLine c.args.node) (Some s)) (sym c.to.ensures)
    (last_at w ts c.args.stops.net c.args.stops.count c.args.stops.from c.args.node c.args.part (omega (arith, c.if-stops-gt1.false, c.requires.some)) i
    (ends c.net-net.result.now (net_of w c.args.stops.net) c.number_in-node.result c.args.node c.is_end.result true c.net-net.ensures.net c.number_in-node.ensures c.is_end.ensures (sym c.if-is_end.true)) at)

pub returns : goal.returns
returns c = λ ts i at.
    let w = c.args.nets.now.tables in
    no_end w ts c.args.stops.net c.args.stops.count c.args.stops.from c.args.node (omega (arith, c.if-stops-gt1.false, c.requires.some))
    (ends c.net-net.result.now (net_of w c.args.stops.net) c.number_in-node.result c.args.node c.is_end.result false c.net-net.ensures.net c.number_in-node.ensures c.is_end.ensures (sym c.if-is_end.false))
