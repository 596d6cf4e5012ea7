use Rattle.term_tables.specs.NetTables.{spread_at}
use Rattle.term_tables.proofs.TouchFacts.{union-all}
use Rattle.term_tables.proofs.touched.add_all.Goals as goal

pub loop-index-preserved : goal.loop-index-preserved
loop-index-preserved c = union-all (spread_at c.args.stored.now) c.args.terms.now c.loop-index.index c.at.result.now c.args.block.now.instances c.loop-index.block.instances c.add_term.new.block.instances c.at.ensures c.loop-index.invariant c.in_ok-add_term.ensures
