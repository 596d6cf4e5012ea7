use Rattle.msc_print.proofs.DocumentBack.{document_back}
use Rattle.msc_print.proofs.laws.documents_read_back.Goals as goal

pub returns : goal.returns
returns c = λ n tokens others d h e. let back = document_back n tokens d h others e in record { value = back.0; reads = back.1; same = back.2 }
