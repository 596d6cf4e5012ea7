use Rattle.msc_print.proofs.Spelled.{spelled}
use Rattle.msc_print.proofs.laws.layout_keeps_tokens_apart.Goals as goal

pub returns : goal.returns
returns c = spelled
