use Rattle.certificate_texts.proofs.Exactness.{only_fault, only_read}
use Rattle.certificate_texts.proofs.reading.read_certificate.Goals as goal

pub returns-clause-only : goal.returns-clause-only
returns-clause-only c = only_read c.args.bytes.now c.read.result c.read.ensures.ok c.read.ensures.fault

pub returns-clause-only_fault : goal.returns-clause-only_fault
returns-clause-only_fault c = only_fault c.args.bytes.now c.read.result c.read.ensures.ok c.read.ensures.fault
