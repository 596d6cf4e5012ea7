use Rattle.msc_print.proofs.Unmoved.{document_unmoved, same_text}
use Rattle.msc_print.proofs.laws.places_are_not_printed.Goals as goal

pub returns-clause-same : goal.returns-clause-same
returns-clause-same c = same_text

pub returns-clause-without : goal.returns-clause-without
returns-clause-without c = document_unmoved
