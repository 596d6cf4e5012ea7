use Rattle.std.proofs.Common.{take}
use Rattle.msc_tokens.specs.Lexing.{Fed}
use Rattle.text_tests.proofs.tokens.lex_bytewise.Given as goal

abbrev pub invariant-loop-byte : goal.invariant-loop-byte
invariant-loop-byte l = Fed (take l.byte-index l.text) l.lexer
