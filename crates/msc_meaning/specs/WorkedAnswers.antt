-- What a chart says of a log, in the words of a verdict. For the worked charts.
use Rattle.std.specs.Prelude.{ℕ, List, [], ◌∷◌, ◌++◌}
use Rattle.msc_base.specs.declared.label.Label.{Label}
use Rattle.msc_meaning.specs.Meanings.{Conforms, Begins}
use Rattle.msc_meaning.specs.Tables.{Table}

-- a run begins with these labels, and none goes on with that one
pub record FailsAt (table : Table) (name : List ℕ) (labels : List Label) (label : Label) : Type 0 where
  pub begins : Begins table name labels
  pub fails : Begins table name (labels ++ label ∷ []) → ⊥

-- a run begins with these labels, and they are none
pub record StopsEarly (table : Table) (name : List ℕ) (labels : List Label) : Type 0 where
  pub begins : Begins table name labels
  pub unfinished : Conforms table name labels → ⊥
