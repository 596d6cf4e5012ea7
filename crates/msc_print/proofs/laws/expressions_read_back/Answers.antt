use Rattle.msc_print.proofs.ExpressionsBack.{expression_reads}
use Rattle.msc_print.proofs.laws.expressions_read_back.Goals as goal

pub returns : goal.returns
returns c = expression_reads
