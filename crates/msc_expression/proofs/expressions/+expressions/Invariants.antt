use Rattle.std.proofs.Common.{◌≡◌, map, ℕ, ◌+◌, ◌-◌, ◌*◌}
use Rattle.msc_tree.specs.Views.{expression_view}
use Rattle.token_grammar.specs.Languages.{just}
use Rattle.token_grammar.specs.PartReaders.{more_at}
use Rattle.msc_expression.specs.ExpressionReaders.{word_of, part_at, next_part_at, more_parts_at, prefix_at}
use Rattle.msc_expression.proofs.PartLoops.{tightness}
use Rattle.msc_expression.proofs.expressions.+expressions.Given as goal

abbrev pub decreases-prefix_form : goal.decreases-prefix_form
decreases-prefix_form l = l.levels * 20

abbrev pub decreases-prefix : goal.decreases-prefix
decreases-prefix l = l.levels * 20 + 1

abbrev pub decreases-part : goal.decreases-part
decreases-part l = l.levels * 20 + 2 + tightness l.operator

abbrev pub decreases-next_part : goal.decreases-next_part
decreases-next_part l = l.levels * 20 + 3 + tightness l.operator

abbrev pub decreases-more_parts : goal.decreases-more_parts
decreases-more_parts l = l.levels * 20 + 4 + tightness l.operator

abbrev pub decreases-other_parts : goal.decreases-other_parts
decreases-other_parts l = l.levels * 20 + 5 + tightness l.operator

abbrev pub decreases-parts : goal.decreases-parts
decreases-parts l = l.levels * 20 + 6 + tightness l.operator

abbrev pub decreases-closed : goal.decreases-closed
decreases-closed l = l.levels * 20 + 17

abbrev pub decreases-loop_rest : goal.decreases-loop_rest
decreases-loop_rest l = l.levels * 20 + 17

abbrev pub decreases-opt_rest : goal.decreases-opt_rest
decreases-opt_rest l = l.levels * 20 + 17

abbrev pub invariant-more_parts-loop-k : goal.invariant-more_parts-loop-k
invariant-more_parts-loop-k l =
    more_at (just (word_of l.operator)) (next_part_at l.operator (part_at l.operator (prefix_at l.levels))) (map expression_view l.parts.items) (l._k-end - l._k) l.rest
    ≡ more_parts_at l.operator (part_at l.operator (prefix_at l.levels)) (map expression_view l.fn.front.items) l.fn.tokens
