-- How the expression of a reference is written, production by production (Z.120, clause 7.3).
-- A level is opened by `loop`, by `opt` and by an opening parenthesis.
use Rattle.std.specs.Prelude.{ℕ, zero, suc, List, [], ◌∷◌, codes}
use Rattle.msc_tree.specs.Expressions.{Expression, Expressions, Empty, Chart, Alt, Par, Seq, Opt, Loop, expressions}
use Rattle.token_grammar.specs.Classes.{name_but}
use Rattle.token_grammar.specs.Languages.{Set, just}
use Rattle.token_grammar.specs.Grammars.{Grammar, Inner, shut, inner, inside, seq, or, read_as, opens, bytes_of}
use Rattle.token_grammar.specs.Parts.{mark, separated}
use Rattle.msc_expression.specs.declared.bounds.Bounds.{Bounds}
use Rattle.msc_expression.specs.Bounds.{with_bounds}

-- a single part is itself
abbrev pub joined : (Expressions → Expression) → List Expression → Expression
joined join (part ∷ []) = part
joined join parts = join (expressions parts)

-- seqx = prefix { "seq" prefix }
abbrev pub sequence : Grammar Expression → Grammar Expression
sequence P = read_as (joined Seq) (separated (codes "seq") P)

-- parx = seqx { "par" seqx }
abbrev pub parallel : Grammar Expression → Grammar Expression
parallel P = read_as (joined Par) (separated (codes "par") (sequence P))

-- expr = parx { "alt" parx }
abbrev pub expression_of : Grammar Expression → Grammar Expression
expression_of P = read_as (joined Alt) (separated (codes "alt") (parallel P))

abbrev pub loop_of : Bounds × Expression → Expression
loop_of p = Loop p.0.lower p.0.upper p.1

-- behind `loop`: [ bounds ] prefix
abbrev pub loop_rest : Grammar Expression → Grammar Expression
loop_rest P = read_as loop_of (with_bounds P)

-- behind the parenthesis: expr ")"
abbrev pub closed : Grammar Expression → Grammar Expression
closed P = read_as (λ p. p.0) (seq (expression_of P) (mark (codes ")")))

-- the word `empty` is never a chart's name here
abbrev pub chart_names : Set
chart_names = name_but (codes "empty" ∷ []) ∷ []

-- prefix = "loop" [ bounds ] prefix | "opt" prefix | "(" expr ")" | "empty" | name, where P is a prefix one level deeper
abbrev pub prefix_of : Inner Expression → Grammar Expression
prefix_of P = or (opens (just (codes "loop")) (inside loop_rest P)) (or (opens (just (codes "opt")) (inside (read_as Opt) P))
    (or (opens (just (codes "(")) (inside closed P)) (or (read_as (λ t. Empty) (mark (codes "empty"))) (read_as Chart (bytes_of chart_names)))))

-- with at most so many levels open
unfoldable pub prefix : ℕ → Grammar Expression
prefix zero = prefix_of shut
prefix (suc n) = prefix_of (inner (prefix n))

abbrev pub expression : ℕ → Grammar Expression
expression n = expression_of (prefix n)
