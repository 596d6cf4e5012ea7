use Rattle.msc_meaning.proofs.WorkedColumns.{columns_are_woven, columns_unfold}
use Rattle.msc_meaning.proofs.worked.columns_are_woven.Goals as goal

pub returns-clause-woven : goal.returns-clause-woven
returns-clause-woven c = columns_are_woven

pub returns-clause-unfolds : goal.returns-clause-unfolds
returns-clause-unfolds c = columns_unfold
