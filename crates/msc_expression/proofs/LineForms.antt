-- A line's frames, with the levels that may be opened in them.
use Rattle.std.proofs.Common.{ℕ, ◌≡◌, List, ap, suc, zero, codes}
use Rattle.std.proofs.Math.Path.{fun_ext}
use Rattle.msc_tokens.specs.declared.token.Token.{Token}
use Rattle.msc_tree.specs.Graphs.{Graph}
use Rattle.token_grammar.specs.Languages.{Read, just}
use Rattle.msc_expression.specs.ExpressionReaders.{expression_at}
use Rattle.msc_expression.specs.GraphReaders.{frame_rest_at, frame_at, line_in_at, graph_line_at}
use Rattle.msc_expression.proofs.Forms.{none_left, one_more_level}

abbrev rests : ℕ → List Token → Read Graph
rests m = frame_rest_at (graph_line_at m)

pub line_is : (n : ℕ) → graph_line_at n ≡ line_in_at (expression_at n) (frame_at n)
unfolding graph_line_at
line_is zero = ap (line_in_at (expression_at 0)) (fun_ext (none_left (just (codes "expr")) rests))
line_is (suc n) = ap (line_in_at (expression_at (suc n))) (fun_ext (one_more_level (just (codes "expr")) rests n))
