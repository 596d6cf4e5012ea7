use Rattle.msc_document.proofs.Formed.{documents_are_well_formed}
use Rattle.msc_document.proofs.DocumentRules.{one_document, document_exact}
use Rattle.msc_document.proofs.laws.documents_are_exact.Goals as goal

pub returns-clause-one : goal.returns-clause-one
returns-clause-one c = one_document

pub returns-clause-exact : goal.returns-clause-exact
returns-clause-exact c = document_exact

pub returns-clause-formed : goal.returns-clause-formed
returns-clause-formed c = documents_are_well_formed
