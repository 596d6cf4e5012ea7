use Rattle.std.proofs.Common.{◌++◌}
use Rattle.msc_tokens.proofs.Answering.{feed_fault, feed_only, feed_open}
use Rattle.msc_tokens.proofs.lexer.Lexer.feed.Goals as goal

pub returns-clause-fault : goal.returns-clause-fault
returns-clause-fault c = λ bytes h. feed_fault (bytes ++ c.args.piece.now) c.take.new.self c.take.result (c.take.ensures.fed bytes h) c.take.ensures.told

pub returns-clause-only_fault : goal.returns-clause-only_fault
returns-clause-only_fault c = λ bytes h. feed_only (bytes ++ c.args.piece.now) c.take.new.self c.take.result (c.take.ensures.fed bytes h) c.take.ensures.told

pub returns-clause-open : goal.returns-clause-open
returns-clause-open c = λ bytes h. feed_open (bytes ++ c.args.piece.now) c.take.new.self c.take.result (c.take.ensures.fed bytes h) c.take.ensures.told
