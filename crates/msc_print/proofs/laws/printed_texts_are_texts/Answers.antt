use Rattle.msc_print.proofs.Printed.{printed_texts}
use Rattle.msc_print.proofs.laws.printed_texts_are_texts.Goals as goal

pub returns : goal.returns
returns c = printed_texts
