use Rattle.std.proofs.Common.{rules}
use Rattle.judge_report.proofs.PlainWords.{document_plain}
use Rattle.judge_report.proofs.fault.words_of_document.Goals as goal

pub returns-clause-plain : goal.returns-clause-plain
returns-clause-plain c = search (rules, document_plain)
