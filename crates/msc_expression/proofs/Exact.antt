-- The readers of expressions and graphs are exact.
use Rattle.std.proofs.Common.{ℕ, List, refl, codes}
use Rattle.msc_tokens.specs.declared.token.Token.{Token}
use Rattle.msc_tree.specs.Graphs.{Graph}
use Rattle.token_grammar.specs.Languages.{just, seq_at}
use Rattle.token_grammar.specs.Grammars.{Grammar}
use Rattle.token_grammar.specs.Parts.{mark}
use Rattle.token_grammar.specs.PartReaders.{mark_at}
use Rattle.token_grammar.proofs.Optionals.{none}
use Rattle.token_grammar.proofs.PartRules.{mark_law, mark_rule}
use Rattle.token_grammar.proofs.Parses.{one_value}
use Rattle.token_grammar.proofs.Exact.{exact}
use Rattle.token_grammar.specs.Parsing.{OneReading}
use Rattle.token_grammar.specs.Exactness.{IsExact}
use Rattle.msc_expression.specs.ExpressionGrammar.{expression}
use Rattle.msc_expression.specs.ExpressionReaders.{expression_at}
use Rattle.msc_expression.specs.GraphGrammar.{chart_graph}
use Rattle.msc_expression.specs.GraphReaders.{chart_graph_at}
use Rattle.msc_expression.proofs.ExpressionRules.{first_words, after_expression, expression_law, expression_rule}
use Rattle.msc_expression.proofs.GraphRules.{chart_graph_law, chart_graph_rule}

pub one_expression : OneReading expression
one_expression = one_value expression first_words after_expression expression_law

pub expression_exact : (n : ℕ) (ts : List Token) → IsExact expression n ts (expression_at n ts)
expression_exact n ts = exact expression n first_words after_expression (expression_at n) (expression_rule n) ts

-- ---- the graph of a chart, up to the chart's end

abbrev ended : ℕ → Grammar (Graph × List ℕ)
ended n = chart_graph n (mark (codes "endmsc"))

pub one_graph : OneReading ended
one_graph = one_value ended (just (codes "expr")) none (λ n. chart_graph_law n refl (mark_law (codes "endmsc") n))

pub graph_exact : (n : ℕ) (ts : List Token) → IsExact ended n ts (seq_at (chart_graph_at n) (mark_at (codes "endmsc")) ts)
graph_exact n ts = exact ended n (just (codes "expr")) none (seq_at (chart_graph_at n) (mark_at (codes "endmsc"))) (chart_graph_rule n refl (mark_rule (codes "endmsc") refl n)) ts
