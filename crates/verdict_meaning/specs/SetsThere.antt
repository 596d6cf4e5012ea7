-- There is a set of residual terms after every list of labels.
use Rattle.std.specs.Prelude.{List}
use Rattle.msc_base.specs.declared.label.Label.{Label}
use Rattle.term_tables.specs.NetValues.{NetsValue}
use Rattle.chart_term.specs.Terms.{Tree}
use Rattle.term_laws.specs.Soundness.{AreTidyTables}
use Rattle.trace_judge.specs.Logs.{AreResiduals}
use Rattle.trace_judge.specs.Sets.{AreSuccessors}

-- some list has exactly what is left
pub record HasResiduals (v : NetsValue) (x : Tree) (labels : List Label) : Type 0 where
  pub set : List Tree
  pub are : AreResiduals v x labels set

pub record HasSuccessors (v : NetsValue) (label : Label) (terms : List Tree) : Type 0 where
  pub next : List Tree
  pub are : AreSuccessors v label terms next

pub record SetsAreThere : Type 0 where
  pub step : (v : NetsValue) (label : Label) (terms : List Tree) → AreTidyTables v.tables → HasSuccessors v label terms
  pub sets : (v : NetsValue) (x : Tree) (labels : List Label) → AreTidyTables v.tables → HasResiduals v x labels
