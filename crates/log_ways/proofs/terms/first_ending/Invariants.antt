use Rattle.std.proofs.Common.{take}
use Rattle.chart_term.specs.Tables.{terms_over}
use Rattle.chart_term.specs.Terms.{Tree}
use Rattle.log_ways.proofs.terms.first_ending.Given as goal
use Rattle.msc_base.specs.Lists.{IsAmong}
use Rattle.term_laws.specs.Taking.{MayEnd}

abbrev pub invariant-loop-index : goal.invariant-loop-index
invariant-loop-index l = (y : Tree) → IsAmong (take l.index l.terms.items) y → MayEnd (terms_over l.nets.tables) y → ⊥
