-- The tokens of an expression. Parentheses stand exactly around a part that binds as loosely as the operator around it, or
-- more loosely.
use Rattle.std.specs.Prelude.{ℕ, List, [], ◌∷◌, ◌++◌, Option, Some, None, nat_lt, codes, if◌then◌else◌}
use Rattle.std.specs.Fmt.{decimal}
use Rattle.msc_tree.specs.Expressions.{Expression, Expressions, Empty, Chart, Alt, Par, Seq, Opt, Loop, none, more}
use Rattle.msc_print.specs.Words.{Words}

-- how loosely an expression binds
abbrev pub looseness : Expression → ℕ
looseness (Seq parts) = 1
looseness (Par parts) = 2
looseness (Alt parts) = 3
looseness _ = 0

abbrev pub enclosed : Words → Words
enclosed words = codes "(" ∷ (words ++ codes ")" ∷ [])

abbrev pub upper_word : Option ℕ → List ℕ
upper_word None = codes "inf"
upper_word (Some n) = decimal n

-- "<" lower "," upper ">"
abbrev pub bound_words : ℕ → Option ℕ → Words
bound_words lower upper = codes "<" ∷ decimal lower ∷ codes "," ∷ upper_word upper ∷ codes ">" ∷ []

-- a part with these tokens, where only what binds closer than the operator goes without parentheses
abbrev pub part_words : ℕ → Expression → Words → Words
part_words operator part words = if nat_lt (looseness part) operator then words else enclosed words

abbrev mutual
  pub expression_words : Expression → Words
  expression_words Empty = codes "empty" ∷ []
  expression_words (Chart chart_name) = chart_name ∷ []
  expression_words (Alt parts) = operator_words 3 (codes "alt") parts
  expression_words (Par parts) = operator_words 2 (codes "par") parts
  expression_words (Seq parts) = operator_words 1 (codes "seq") parts
  expression_words (Opt part) = codes "opt" ∷ part_words 1 part (expression_words part)
  expression_words (Loop lower upper part) = codes "loop" ∷ (bound_words lower upper ++ part_words 1 part (expression_words part))

  -- parts with an operator between them
  pub operator_words : ℕ → List ℕ → Expressions → Words
  operator_words operator word none = []
  operator_words operator word (more part parts) = part_words operator part (expression_words part) ++ other_words operator word parts

  pub other_words : ℕ → List ℕ → Expressions → Words
  other_words operator word none = []
  other_words operator word (more part parts) = word ∷ (part_words operator part (expression_words part) ++ other_words operator word parts)
