-- What a contract sees of the tables: the labels by their numbers, and the nets, the newest first.
use Rattle.std.specs.Prelude.{ℕ, List}
use Rattle.msc_base.specs.declared.label.Label.{Label}
use Rattle.chart_term.specs.Tables.{Tables}
-- the number of a label in the table of labels
pub use Rattle.label_table.specs.Labels.{label_number}

pub record NetsValue : Type 0 where
  pub labels : List Label
  pub tables : Tables
