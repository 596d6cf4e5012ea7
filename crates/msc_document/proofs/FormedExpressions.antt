-- What is put together in an expression that is read has two parts at least.
use Rattle.std.proofs.Common.{ℕ, zero, suc, ◌≡◌, ◌∙◌, ap₂, Bool, true, ◌&&◌, List, [], ◌∷◌, Some, None, codes, refl}
use Rattle.chart_text.specs.WellFormed.{are_several, has_parts, have_parts}
use Rattle.msc_tree.specs.Expressions.{Expression, Expressions, Empty, Chart, Alt, Par, Seq, Opt, expressions}
use Rattle.token_grammar.specs.Languages.{just}
use Rattle.token_grammar.specs.Grammars.{Grammar, Inner, shut, inner, bytes_of}
use Rattle.token_grammar.specs.Parts.{mark, name}
use Rattle.msc_events.specs.declared.orientation.Orientation.{Orientation}
use Rattle.msc_expression.specs.ExpressionGrammar.{joined, sequence, parallel, expression_of, loop_of, loop_rest, closed, chart_names, prefix_of, prefix, expression}
use Rattle.msc_document.specs.DocumentGrammar.{reference_parts, reference_of, reference}
use Rattle.msc_document.proofs.Giving.{Gives, Each, Within, IsSome, anything, weaker, read_gives, or_gives, seq_gives, behind_gives, placed_gives, opens_gives, separated_gives, bounded_gives}

abbrev pub HasParts : Expression → Type 0
HasParts x = has_parts x ≡ true

each_has : (xs : List Expression) → Each HasParts xs → have_parts (expressions xs) ≡ true
each_has [] h = refl
each_has (x ∷ xs) h = ap₂ (λ (p q : Bool). p && q) h.0 (each_has xs h.1)

joined_has : (join : Expressions → Expression) → ((parts : Expressions) → has_parts (join parts) ≡ (are_several parts && have_parts parts))
    → (xs : List Expression) → Each HasParts xs × IsSome xs → HasParts (joined join xs)
joined_has join wants [] h = absurd h.1
joined_has join wants (x ∷ []) h = h.0.0
joined_has join wants (x ∷ y ∷ xs) h = wants (expressions (x ∷ y ∷ xs)) ∙ each_has (x ∷ y ∷ xs) h.0

module _ {P : Grammar Expression} (r : Gives P HasParts) where
  sequence_formed : Gives (sequence P) HasParts
  sequence_formed = read_gives (joined Seq) (weaker (separated_gives (codes "seq") r) (joined_has Seq (λ parts. refl)))

  parallel_formed : Gives (parallel P) HasParts
  parallel_formed = read_gives (joined Par) (weaker (separated_gives (codes "par") sequence_formed) (joined_has Par (λ parts. refl)))

  joined_formed : Gives (expression_of P) HasParts
  joined_formed = read_gives (joined Alt) (weaker (separated_gives (codes "alt") parallel_formed) (joined_has Alt (λ parts. refl)))

prefix_within : (I : Inner Expression) → Within I HasParts → Gives (prefix_of I) HasParts
prefix_within I w = or_gives (opens_gives (just (codes "loop")) loop_rest (λ P r. read_gives loop_of (bounded_gives r)) I w)
    (or_gives (opens_gives (just (codes "opt")) _ (λ P r. read_gives Opt r) I w)
    (or_gives (opens_gives (just (codes "(")) closed (λ P r. read_gives (λ p. p.0) (weaker (seq_gives (joined_formed r) (anything (mark (codes ")")))) (λ p h. h.0))) I w)
    (or_gives (read_gives (λ t. Empty) (weaker (anything (mark (codes "empty"))) (λ t h. refl))) (read_gives Chart (weaker (anything (bytes_of chart_names)) (λ t h. refl))))))

prefix_formed : (n : ℕ) → Gives (prefix n) HasParts
unfolding prefix
prefix_formed zero = prefix_within shut tt
prefix_formed (suc n) = prefix_within (inner (prefix n)) (prefix_formed n)

pub expression_formed : (n : ℕ) → Gives (expression n) HasParts
expression_formed n = joined_formed (prefix_formed n)

pub reference_formed : (orientation : Orientation) {X : Grammar Expression} → Gives X HasParts → Gives (reference orientation X) (λ p. HasParts p.1.expression)
reference_formed orientation {X = X} x = placed_gives (just (codes "reference"))
    (or_gives (read_gives (λ p. reference_of (Some p.0) p.1) (weaker (seq_gives (anything name) (behind_gives (just (codes ":")) parts)) (λ p h. h.1)))
    (read_gives (reference_of None) parts))
  where
    parts : Gives (reference_parts orientation X) (λ p. HasParts p.0)
    parts = read_gives (λ p. (p.0, (p.1.0, p.1.1.0))) (weaker (seq_gives x (anything _)) (λ p h. h.0))
