-- Parts with an operator between them, read one by one.
use Rattle.std.proofs.Common.{ℕ, ◌≡◌, ◌∙◌, ◌++◌, List, [], ◌∷◌, length, refl, Ok, Err}
use Rattle.msc_tokens.specs.declared.token.Token.{Token}
use Rattle.msc_tree.specs.Expressions.{Expression}
use Rattle.token_grammar.specs.Languages.{Read, ◌>>=◌, just, each_at, map_at}
use Rattle.token_grammar.specs.Parts.{all_of}
use Rattle.token_grammar.specs.PartReaders.{separated_at}
use Rattle.token_grammar.proofs.Optionals.{mapped, paired}
use Rattle.msc_expression.specs.declared.expressions.Operator.{Operator}
use Rattle.msc_expression.specs.declared.expressions.Operator.TheVariants as operator
use Rattle.msc_expression.specs.ExpressionGrammar.{joined}
use Rattle.msc_expression.specs.ExpressionReaders.{Reader, word_of, join_of, next_part_at, parts_at}

module _ (o : Operator) (q : Reader) where
  abbrev whole_at : Reader
  whole_at = map_at (joined (join_of o)) (separated_at (word_of o) q)

  joined_same : (first : Expression) (w : Read (List Expression)) → mapped (joined (join_of o)) (mapped all_of (mapped (λ l. (first, l)) w)) ≡ mapped (joined (join_of o)) (mapped (λ l. (first ∷ []) ++ l) w)
  joined_same first (Ok y) = refl
  joined_same first (Err e) = refl

  first_same : (w : Read Expression) → mapped (joined (join_of o)) (mapped all_of (paired w (λ us. each_at (just (word_of o)) (next_part_at o q) (length us) us)))
      ≡ (w >>= λ x. mapped (joined (join_of o)) (mapped (λ l. (x.0 ∷ []) ++ l) (each_at (just (word_of o)) (next_part_at o q) (length x.1) x.1)))
  first_same (Ok x) = joined_same x.0 (each_at (just (word_of o)) (next_part_at o q) (length x.1) x.1)
  first_same (Err e) = refl

  pub one_by_one : (ts : List Token) → whole_at ts ≡ parts_at o q ts
  one_by_one ts = first_same (q ts)

-- how far the operator's parts reach: those of `alt` hold those of `par`, and these hold those of `seq`
abbrev pub tightness : Operator → ℕ
tightness operator.Alt = 10
tightness operator.Par = 5
tightness operator.Seq = 0
