use Rattle.token_grammar.proofs.Parses.{one_value}
use Rattle.token_grammar.proofs.Rules.{word_law}
use Rattle.token_grammar.specs.Grammars.{word}
use Rattle.std.proofs.Common.{[]}
use Rattle.token_grammar.proofs.laws.one_word.Goals as goal

pub returns : goal.returns
returns c = λ words. one_value (λ n. word words) words (λ t. []) (word_law words)
