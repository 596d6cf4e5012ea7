-- The readers of expressions are exact.
use Rattle.std.proofs.Common.{ℕ, ◌≡◌, ◌++◌, List, [], ◌∷◌, refl, sym, append-nil, inr, suc, zero, Option, Some, None, codes}
use Rattle.msc_tokens.specs.declared.token.Token.{Token}
use Rattle.msc_tree.specs.Expressions.{Expression, Empty, Chart, Alt, Par, Seq, Opt, Loop}
use Rattle.token_grammar.specs.Classes.{token_of}
use Rattle.token_grammar.specs.Languages.{Set, just, map_at, either_at, opens_at, bytes_at}
use Rattle.token_grammar.specs.Grammars.{Grammar, or, read_as, bytes_of}
use Rattle.token_grammar.specs.Parts.{mark, separated}
use Rattle.token_grammar.specs.PartReaders.{mark_at, separated_at}
use Rattle.token_grammar.proofs.Flats.{rule_by}
use Rattle.token_grammar.proofs.Levels.{Opened}
use Rattle.token_grammar.proofs.Rules.{Law, Rule, Word, seq_law, seq_rule, or_law, or_rule, as_law, as_rule, shut_law, inner_law, shut_rule, inner_rule, equal_law, equal_rule}
use Rattle.token_grammar.proofs.Optionals.{none, bytes_law, bytes_rule}
use Rattle.token_grammar.proofs.PartRules.{mark_law, mark_rule, separated_law, separated_rule}
use Rattle.msc_expression.specs.declared.expressions.Operator.TheVariants as operator
use Rattle.msc_expression.specs.Bounds.{or_once}
use Rattle.msc_expression.specs.ExpressionGrammar.{joined, sequence, parallel, loop_of, loop_rest, closed, chart_names, prefix, expression}
use Rattle.msc_expression.specs.ExpressionReaders.{Reader, sequence_at, parallel_at, expression_of_at, loop_rest_at, opt_rest_at, closed_at, prefix_at, expression_at}
use Rattle.msc_expression.proofs.BoundRules.{with_bounds_law, with_bounds_rule}
use Rattle.msc_expression.proofs.PartLoops.{one_by_one}

-- what a prefix, and so an expression, begins with
abbrev pub first_words : Set
first_words = just (codes "loop") ++ (just (codes "opt") ++ (just (codes "(") ++ (just (codes "empty") ++ chart_names)))

-- what can't follow a sequence, parts side by side, and an expression
abbrev pub after_sequence : Expression → Set
after_sequence x = just (codes "seq")

abbrev pub after_parallel : Expression → Set
after_parallel x = just (codes "par") ++ just (codes "seq")

abbrev pub after_expression : Expression → Set
after_expression x = just (codes "alt") ++ (just (codes "par") ++ just (codes "seq"))

abbrev LoopRest : ℕ → Grammar Expression
LoopRest n = loop_rest (prefix n)

abbrev OptRest : ℕ → Grammar Expression
OptRest n = read_as Opt (prefix n)

abbrev Closed : ℕ → Grammar Expression
Closed n = closed (prefix n)

-- the five forms of a prefix
abbrev Forms : ℕ → Grammar Expression
Forms n = or (Opened (just (codes "loop")) LoopRest n) (or (Opened (just (codes "opt")) OptRest n) (or (Opened (just (codes "(")) Closed n)
    (or (read_as (λ t. Empty) (mark (codes "empty"))) (read_as Chart (bytes_of chart_names)))))

forms_are : (n : ℕ) → Forms n ≡ prefix n
unfolding prefix
forms_are zero = refl
forms_are (suc n) = refl

-- ---- at most one reading

module _ (n : ℕ) (r : Law prefix n first_words none) where
  loop_law : Law LoopRest n (just (codes "<") ++ first_words) none
  loop_law = as_law loop_of none (with_bounds_law r refl) (λ a. refl)

  opt_law : Law OptRest n first_words none
  opt_law = as_law Opt none r (λ a. refl)

  sequence_law : Law (λ m. sequence (prefix m)) n first_words after_sequence
  sequence_law = as_law (joined Seq) after_sequence (separated_law (codes "seq") refl r) (λ a. refl)

  parallel_law : Law (λ m. parallel (prefix m)) n first_words after_parallel
  parallel_law = as_law (joined Par) after_parallel (separated_law (codes "par") refl sequence_law) (λ a. refl)

  expression_of_law : Law expression n first_words after_expression
  expression_of_law = as_law (joined Alt) after_expression (separated_law (codes "alt") refl parallel_law) (λ a. refl)

  closed_law : Law Closed n first_words none
  closed_law = as_law (λ p. p.0) none (seq_law expression_of_law (mark_law (codes ")") n) (λ a. refl)) (λ a. refl)

forms_law : (n : ℕ) → Law (Opened (just (codes "loop")) LoopRest) n (just (codes "loop")) none → Law (Opened (just (codes "opt")) OptRest) n (just (codes "opt")) none
    → Law (Opened (just (codes "(")) Closed) n (just (codes "(")) none → Law prefix n first_words none
forms_law n l o e = equal_law forms_are (or_law l (or_law o (or_law e
    (or_law (as_law (λ t. Empty) none (mark_law (codes "empty") n) (λ a. refl)) (as_law Chart none (bytes_law chart_names n) (λ a. refl)) refl) refl) refl) refl)

prefix_law : (n : ℕ) → Law prefix n first_words none
prefix_law zero = forms_law zero (shut_law (just (codes "loop"))) (shut_law (just (codes "opt"))) (shut_law (just (codes "(")))
prefix_law (suc n) =
    let r = prefix_law n in
    forms_law (suc n) (inner_law (just (codes "loop")) (loop_law n r)) (inner_law (just (codes "opt")) (opt_law n r)) (inner_law (just (codes "(")) (closed_law n r))

pub expression_law : (n : ℕ) → Law expression n first_words after_expression
expression_law n = expression_of_law n (prefix_law n)

-- ---- the readers

module _ (n : ℕ) (p : Reader) (r : Rule prefix n first_words none p) where
  loop_rule : Rule LoopRest n (just (codes "<") ++ first_words) none (loop_rest_at p)
  loop_rule = as_rule loop_of none (with_bounds_rule r refl) (λ a. refl)

  opt_rule : Rule OptRest n first_words none (opt_rest_at p)
  opt_rule = as_rule Opt none r (λ a. refl)

  sequence_rule : Rule (λ m. sequence (prefix m)) n first_words after_sequence (sequence_at p)
  sequence_rule = rule_by (λ m. sequence (prefix m)) n first_words after_sequence (map_at (joined Seq) (separated_at (codes "seq") p)) (sequence_at p) (one_by_one operator.Seq p)
      (as_rule (joined Seq) after_sequence (separated_rule (codes "seq") refl refl r) (λ a. refl))

  parallel_rule : Rule (λ m. parallel (prefix m)) n first_words after_parallel (parallel_at p)
  parallel_rule = rule_by (λ m. parallel (prefix m)) n first_words after_parallel (map_at (joined Par) (separated_at (codes "par") (sequence_at p))) (parallel_at p) (one_by_one operator.Par (sequence_at p))
      (as_rule (joined Par) after_parallel (separated_rule (codes "par") refl refl sequence_rule) (λ a. refl))

  expression_of_rule : Rule expression n first_words after_expression (expression_of_at p)
  expression_of_rule = rule_by expression n first_words after_expression (map_at (joined Alt) (separated_at (codes "alt") (parallel_at p))) (expression_of_at p) (one_by_one operator.Alt (parallel_at p))
      (as_rule (joined Alt) after_expression (separated_rule (codes "alt") refl refl parallel_rule) (λ a. refl))

  closed_rule : Rule Closed n first_words none (closed_at p)
  closed_rule = as_rule (λ x. x.0) none (seq_rule expression_of_rule (mark_rule (codes ")") refl n) (λ a. refl)) (λ a. refl)

forms_rule : (n : ℕ) (l o e : Option Reader) → Rule (Opened (just (codes "loop")) LoopRest) n (just (codes "loop")) none (opens_at (just (codes "loop")) l)
    → Rule (Opened (just (codes "opt")) OptRest) n (just (codes "opt")) none (opens_at (just (codes "opt")) o) → Rule (Opened (just (codes "(")) Closed) n (just (codes "(")) none (opens_at (just (codes "(")) e)
    → Rule prefix n first_words none (either_at (just (codes "loop")) (opens_at (just (codes "loop")) l) (either_at (just (codes "opt")) (opens_at (just (codes "opt")) o)
    (either_at (just (codes "(")) (opens_at (just (codes "(")) e) (either_at (just (codes "empty")) (map_at (λ t. Empty) (mark_at (codes "empty"))) (map_at Chart (bytes_at chart_names))))))
forms_rule n a b c l o e = equal_rule forms_are (or_rule l (or_rule o (or_rule e
    (or_rule (as_rule (λ t. Empty) none (mark_rule (codes "empty") refl n) (λ a. refl)) (as_rule Chart none (bytes_rule chart_names (codes "a") refl n) (λ a. refl)) refl) refl) refl) refl)

-- ---- something of each in which no level is opened

abbrev a_chart : Token
a_chart = token_of (codes "a")

prefix_word : Word prefix
unfolding prefix
prefix_word = record { more = a_chart ∷ []; value = Chart (codes "a"); holds = inr (inr (inr (inr (codes "a", (a_chart, (refl, refl), refl), refl)))) }

loop_word : Word LoopRest
loop_word = let w = prefix_word in record { more = w.more; value = Loop 1 None w.value; holds = ((or_once None, w.value), ((None, w.value), inr (w.value, w.holds, refl), refl), refl) }

opt_word : Word OptRest
opt_word = let w = prefix_word in record { more = w.more; value = Opt w.value; holds = (w.value, w.holds, refl) }

-- one part alone is a list of parts
alone : {A : Type 0} (text : List ℕ) (R : Grammar A) (x : List Token) (a : A) → R.reads x a → (separated text R).reads x (a ∷ [])
alone text R x a h = ((a, []), (x, [], sym (append-nil x), h, refl), refl)

expression_word : (n : ℕ) (x : List Token) (a : Expression) → (prefix n).reads x a → (expression n).reads x a
expression_word n x a h = (
  a ∷ [],
  alone (codes "alt") (parallel (prefix n)) x a
      (a ∷ [], alone (codes "par") (sequence (prefix n)) x a (a ∷ [], alone (codes "seq") (prefix n) x a h, refl), refl),
  refl,
)

closed_word : Word Closed
closed_word = let w = prefix_word in record {
  more = w.more ++ token_of (codes ")") ∷ [];
  value = w.value;
  holds = ((w.value, codes ")"), (w.more, token_of (codes ")") ∷ [], refl, expression_word 0 w.more w.value w.holds, (token_of (codes ")"), (refl, refl), refl)), refl);
}

pub prefix_rule : (n : ℕ) → Rule prefix n first_words none (prefix_at n)
unfolding prefix_at
prefix_rule zero = forms_rule zero None None None (shut_rule (just (codes "loop")) (codes "loop") refl (λ m. loop_law m (prefix_law m)) loop_word)
    (shut_rule (just (codes "opt")) (codes "opt") refl (λ m. opt_law m (prefix_law m)) opt_word) (shut_rule (just (codes "(")) (codes "(") refl (λ m. closed_law m (prefix_law m)) closed_word)
prefix_rule (suc n) =
    let r = prefix_rule n in
    forms_rule (suc n) (Some (loop_rest_at (prefix_at n))) (Some (opt_rest_at (prefix_at n))) (Some (closed_at (prefix_at n)))
    (inner_rule (just (codes "loop")) (codes "loop") refl (loop_rule n (prefix_at n) r)) (inner_rule (just (codes "opt")) (codes "opt") refl (opt_rule n (prefix_at n) r))
    (inner_rule (just (codes "(")) (codes "(") refl (closed_rule n (prefix_at n) r))

pub expression_rule : (n : ℕ) → Rule expression n first_words after_expression (expression_at n)
expression_rule n = expression_of_rule n (prefix_at n) (prefix_rule n)
