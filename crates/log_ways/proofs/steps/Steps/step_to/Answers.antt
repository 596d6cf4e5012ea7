use Rattle.std.proofs.Common.{List, subst}
use Rattle.chart_term.specs.Terms.{Tree}
use Rattle.log_ways.proofs.Stepped.{known_more, made_known, noted_placed, placed_made}
use Rattle.log_ways.proofs.steps.Steps.step_to.Goals as goal
use Rattle.log_ways.specs.Stepping.{IsMade}
use Rattle.term_sets.specs.Memories.{set_at}

pub returns-then-is_at-clause-place : goal.returns-then-is_at-clause-place
returns-then-is_at-clause-place c =
    noted_placed c.args.nets.now.tables c.args.memory.now.sets c.args.self.now.known.items c.in_ok-place.place c.args.from c.args.label c.args.goal.now.term c.requires.known (c.is_at.ensures c.if-is_at.true)

pub returns-clause-known : goal.returns-clause-known
returns-clause-known c =
    let w = c.args.nets.now.tables in
    let is_made = subst (λ (t : List Tree). IsMade w c.args.from c.args.label t c.args.goal.now.term c.in_ok-made.made) c.set.ensures c.in_ok-made.ensures in
    known_more w c.args.memory.now.sets c.args.self.now.known.items c.add.new.self.known.items c.in_ok-made.made c.requires.known (made_known w c.args.memory.now.sets c.args.from c.args.label c.args.goal.now.term c.in_ok-made.made is_made) c.in_ok-added.ensures.gains

pub returns-clause-place : goal.returns-clause-place
returns-clause-place c =
    let w = c.args.nets.now.tables in
    let is_made = subst (λ (t : List Tree). IsMade w c.args.from c.args.label t c.args.goal.now.term c.in_ok-made.made) c.set.ensures c.in_ok-made.ensures in
    placed_made w c.args.from c.args.label (set_at c.args.memory.now.sets c.args.from) c.args.goal.now.term c.in_ok-made.made c.add.new.self.known.items c.in_ok-added.added is_made c.in_ok-added.ensures.place
