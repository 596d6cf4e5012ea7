use Rattle.std.proofs.Common.{◌∙◌, ap, sym, List, [], ◌∷◌, ◌++◌}
use Rattle.bit_sets.specs.Blocks.{BlockValue}
use Rattle.chart_term.specs.Terms.{Tree}
use Rattle.hmsc_graph.specs.Spots.{spot_of, goal_of}
use Rattle.term_step.proofs.WalkLeft.{walk-none-first, walk-none-last, walk-whole}
use Rattle.term_step.proofs.ascent.walks.put_on_walk.Goals as goal

pub returns-in_default : goal.returns-in_default
returns-in_default c =
    walk-none-first c.args.nets.now.tables c.requires.tables c.args.way.net c.requires.net c.args.taken.now c.requires.taken (spot_of c.args.way.from) (goal_of c.args.way.to) c.args.way.own.now.instances c.requires.own c.args.node c.args.left (sym c.in_default.is ∙ c.in_ok-before.ensures)

pub returns-in_default-2 : goal.returns-in_default-2
returns-in_default-2 c =
    walk-none-last c.args.nets.now.tables c.requires.tables c.args.way.net c.requires.net c.args.taken.now c.requires.taken (spot_of c.args.way.from) (goal_of c.args.way.to) c.args.way.own.now.instances c.requires.own c.args.node c.args.left c.empty-none.result.instances (ap (λ (b : BlockValue). b.instances) c.empty-none.ensures) (sym c.in_default-2.is ∙ c.in_ok-behind.ensures)

pub returns : goal.returns
returns c =
    walk-whole c.args.nets.now.tables c.requires.tables c.args.way.net c.requires.net c.args.taken.now c.requires.taken (spot_of c.args.way.from) (goal_of c.args.way.to) c.args.way.own.now.instances c.requires.own c.args.node c.args.left c.empty-none.result.instances c.in-Some.before c.in-Some-2.behind c.in_ok-seq.field-0 c.push.new.self c.push-2.new.self c.push-3.new.self
    (ap (λ (b : BlockValue). b.instances) c.empty-none.ensures) (sym c.in-Some.is ∙ c.in_ok-before.ensures) (sym c.in-Some-2.is ∙ c.in_ok-behind.ensures) (c.in_ok-push.ensures.ok ∙ ap (λ (l : List Tree). l ++ c.in-Some.before ∷ []) c.new-parts.ensures) c.in_ok-push-2.ensures.ok c.in_ok-push-3.ensures.ok c.in_ok-seq.ensures
