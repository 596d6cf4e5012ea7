use Rattle.std.proofs.Common.{◌≡◌, false, rules, ap}
use Rattle.std.proofs.lemmas.Result.{on_ok_weaker}
use Rattle.bit_sets.specs.Blocks.{BlockValue}
use Rattle.chart_term.specs.Facts.{holds_walk, row_walk}
use Rattle.chart_term.specs.Terms.{row_of}
use Rattle.term_tables.specs.NetTables.{spread_at}
use Rattle.term_tables.proofs.TouchFacts.{union-fork, union-held, union-own, union-plain}
use Rattle.term_tables.proofs.touched.+touched.Goals as goal

pub add_row-loop-part-preserved : goal.add_row-loop-part-preserved
add_row-loop-part-preserved t c = union-held (spread_at c.args.stored.now) c.in-Leaf.parts.now c.loop-part.part-index c.part-item.result c.args.block.now.instances c.loop-part.block.instances c.add_part.new.block.instances c.loop-part-test.true c.part-item.is c.loop-part.invariant c.in_ok-add_part-in-Leaf.ensures

pub add_row-returns-then-not-holds_walk : goal.add_row-returns-then-not-holds_walk
add_row-returns-then-not-holds_walk t c =
    let none : row_walk (row_of c.args.row.now) ≡ false = search rules in
    on_ok_weaker c.add_instances.result (λ e. union-plain (spread_at c.args.stored.now) c.args.block.now.instances c.instances.result.now.instances c.add_instances.new.self.instances c.args.row.now none c.instances.ensures (ap (λ (b : BlockValue). b.instances) e)) c.add_instances.ensures.ok

pub add_term-returns-then-not-holds_walk : goal.add_term-returns-then-not-holds_walk
add_term-returns-then-not-holds_walk t c =
    let none : holds_walk c.args.term.now ≡ false = search rules in
    on_ok_weaker c.add_instances.result (λ e. union-own (spread_at c.args.stored.now) c.args.block.now.instances c.instances.result.now.instances c.add_instances.new.self.instances c.args.term.now none c.instances.ensures (ap (λ (b : BlockValue). b.instances) e)) c.add_instances.ensures.ok

pub add_row-returns-in_ok-add_row-in-Fork : goal.add_row-returns-in_ok-add_row-in-Fork
add_row-returns-in_ok-add_row-in-Fork t c =
    on_ok_weaker c.add_row-in-Fork.result (λ g. union-fork (spread_at c.args.stored.now) c.args.row.now c.in-Fork.first.now c.in-Fork.second.now c.args.block.now.instances c.add_row.new.block.instances c.add_row-in-Fork.new.block.instances c.in-Fork.ensures.0 c.in_ok-add_row-in-Fork.ensures g) c.add_row-in-Fork.ensures
