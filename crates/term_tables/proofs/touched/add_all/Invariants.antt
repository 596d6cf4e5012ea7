use Rattle.std.proofs.Common.{take}
use Rattle.chart_term.specs.Spreads.{touch_all}
use Rattle.chart_term.specs.Terms.{trees}
use Rattle.term_tables.specs.NetTables.{spread_at}
use Rattle.term_tables.specs.Unions.{IsUnion}
use Rattle.term_tables.proofs.touched.add_all.Given as goal

abbrev pub invariant-loop-index : goal.invariant-loop-index
invariant-loop-index l = IsUnion l.initial.block.instances (touch_all (spread_at l.stored) (trees (take l.index l.terms))) l.block.instances
