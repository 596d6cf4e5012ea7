use Rattle.certificate_texts.specs.Texts.{lines_of}
use Rattle.certificate_texts.proofs.Parsing.{lines_parsed, only_parsed}
use Rattle.certificate_texts.proofs.certificate.Certificate.from_lines.Goals as goal

pub invariant_of-result : goal.invariant_of-result
invariant_of-result c = lines_parsed c.requires.0 (lines_of c.args.held.items) c.requires.1

pub returns-clause-lines : goal.returns-clause-lines
returns-clause-lines c = lines_parsed c.requires.0 (lines_of c.args.held.items) c.requires.1

pub returns-clause-only : goal.returns-clause-only
returns-clause-only c = λ certificate are. only_parsed certificate (lines_of c.args.held.items) are
