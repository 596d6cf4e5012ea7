-- Readers of the productions of an expression.
use Rattle.std.specs.Prelude.{ℕ, zero, suc, List, [], ◌∷◌, length, Option, Some, None, option_map, codes}
use Rattle.msc_tokens.specs.declared.token.Token.{Token}
use Rattle.msc_tree.specs.Expressions.{Expression, Expressions, Empty, Chart, Alt, Par, Seq, Opt}
use Rattle.token_grammar.specs.Languages.{Read, ◌>>=◌, just, seq_at, either_at, map_at, opens_at, behind_at, bytes_at}
use Rattle.token_grammar.specs.PartReaders.{name_at, mark_at, more_at}
use Rattle.msc_expression.specs.declared.expressions.Operator.{Operator}
use Rattle.msc_expression.specs.declared.expressions.Operator.TheVariants as operator
use Rattle.msc_expression.specs.Bounds.{loop_bounds_at}
use Rattle.msc_expression.specs.ExpressionGrammar.{joined, loop_of, chart_names}
use Rattle.msc_expression.specs.Levels.{within_at}

abbrev pub Reader : Type 0
Reader = List Token → Read Expression

-- ---- parts with an operator between them: `seq` binds closest, then `par`, then `alt`

abbrev pub word_of : Operator → List ℕ
word_of operator.Alt = codes "alt"
word_of operator.Par = codes "par"
word_of operator.Seq = codes "seq"

abbrev pub join_of : Operator → Expressions → Expression
join_of operator.Alt = Alt
join_of operator.Par = Par
join_of operator.Seq = Seq

-- a part behind the operator
abbrev pub next_part_at : Operator → Reader → Reader
next_part_at o q = behind_at (just (word_of o)) q

-- other parts behind those that there are
abbrev pub more_parts_at : Operator → Reader → List Expression → List Token → Read (List Expression)
more_parts_at o q prefix ts = more_at (just (word_of o)) (next_part_at o q) prefix (length ts) ts

-- the expression of a first part and those behind it
abbrev pub other_parts_at : Operator → Reader → Expression → Reader
other_parts_at o q first = map_at (joined (join_of o)) (more_parts_at o q (first ∷ []))

abbrev pub parts_at : Operator → Reader → Reader
parts_at o q ts = q ts >>= λ x. other_parts_at o q x.0 x.1

abbrev pub sequence_at : Reader → Reader
sequence_at p = parts_at operator.Seq p

abbrev pub parallel_at : Reader → Reader
parallel_at p = parts_at operator.Par (sequence_at p)

abbrev pub expression_of_at : Reader → Reader
expression_of_at p = parts_at operator.Alt (parallel_at p)

-- what stands between two such operators
abbrev pub part_at : Operator → Reader → Reader
part_at operator.Alt p = parallel_at p
part_at operator.Par p = sequence_at p
part_at operator.Seq p = p

-- ---- prefixes

abbrev pub loop_rest_at : Reader → Reader
loop_rest_at p = map_at loop_of (seq_at loop_bounds_at p)

abbrev pub opt_rest_at : Reader → Reader
opt_rest_at p = map_at Opt p

abbrev pub closed_at : Reader → Reader
closed_at p = map_at (λ x. x.0) (seq_at (expression_of_at p) (mark_at (codes ")")))

abbrev pub empty_at : Reader
empty_at = map_at (λ t. Empty) (mark_at (codes "empty"))

abbrev pub prefix_of_at : Option Reader → Reader
prefix_of_at p = either_at (just (codes "loop")) (opens_at (just (codes "loop")) (option_map loop_rest_at p))
    (either_at (just (codes "opt")) (opens_at (just (codes "opt")) (option_map opt_rest_at p))
    (either_at (just (codes "(")) (opens_at (just (codes "(")) (option_map closed_at p))
    (either_at (just (codes "empty")) empty_at (map_at Chart (bytes_at chart_names)))))

unfoldable pub prefix_at : ℕ → Reader
prefix_at zero = prefix_of_at None
prefix_at (suc n) = prefix_of_at (Some (prefix_at n))

abbrev pub expression_at : ℕ → Reader
expression_at n = expression_of_at (prefix_at n)

-- the same, where the forms are told apart by their first tokens
abbrev pub form_at : ℕ → Reader
form_at n = either_at (just (codes "loop")) (within_at (just (codes "loop")) (λ m. loop_rest_at (prefix_at m)) n)
    (either_at (just (codes "opt")) (within_at (just (codes "opt")) (λ m. opt_rest_at (prefix_at m)) n)
    (either_at (just (codes "(")) (within_at (just (codes "(")) (λ m. closed_at (prefix_at m)) n)
    (either_at (just (codes "empty")) empty_at (map_at Chart name_at))))
