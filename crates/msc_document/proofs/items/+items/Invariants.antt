use Rattle.std.proofs.Common.{◌≡◌, map, length, [], ◌+◌, ◌-◌, ◌*◌}
use Rattle.msc_tree.specs.Views.{item_view, operand_view, statement_view}
use Rattle.token_grammar.specs.PartReaders.{more_at}
use Rattle.msc_document.specs.DocumentReaders.{column_event_at, column_goes_on, statement_goes_on, end_words, next_part_at}
use Rattle.msc_document.specs.ItemReaders.{operand_at, more_going_at}
use Rattle.msc_document.specs.StatementReaders.{state_of, outside_item_at, statement_words, any_statement_at}
use Rattle.msc_document.proofs.items.+items.Given as goal

abbrev pub decreases-body : goal.decreases-body
decreases-body l = l.levels * 40 + 39

abbrev pub decreases-operands : goal.decreases-operands
decreases-operands l = l.levels * 40 + 38

abbrev pub decreases-single_operand : goal.decreases-single_operand
decreases-single_operand l = l.levels * 40 + 37

abbrev pub decreases-several : goal.decreases-several
decreases-several l = l.levels * 40 + 37

abbrev pub decreases-listed : goal.decreases-listed
decreases-listed l = l.levels * 40 + 36

abbrev pub decreases-more_operands : goal.decreases-more_operands
decreases-more_operands l = l.levels * 40 + 35

abbrev pub decreases-next_operand : goal.decreases-next_operand
decreases-next_operand l = l.levels * 40 + 34

abbrev pub decreases-operand : goal.decreases-operand
decreases-operand l = l.levels * 40 + 33

abbrev pub decreases-statements : goal.decreases-statements
decreases-statements l = l.levels * 40 + 32

abbrev pub decreases-several_statements : goal.decreases-several_statements
decreases-several_statements l = l.levels * 40 + 31

abbrev pub decreases-statement : goal.decreases-statement
decreases-statement l = l.levels * 40 + 30

abbrev pub decreases-instance : goal.decreases-instance
decreases-instance l = l.levels * 40 + 29

abbrev pub decreases-covered : goal.decreases-covered
decreases-covered l = l.levels * 40 + 29

abbrev pub decreases-led : goal.decreases-led
decreases-led l = l.levels * 40 + 28

abbrev pub decreases-behind_colon : goal.decreases-behind_colon
decreases-behind_colon l = l.levels * 40 + 27

abbrev pub decreases-behind_comma : goal.decreases-behind_comma
decreases-behind_comma l = l.levels * 40 + 27

abbrev pub decreases-run : goal.decreases-run
decreases-run l = l.levels * 40 + 26

abbrev pub decreases-first_item : goal.decreases-first_item
decreases-first_item l = l.levels * 40 + 25

abbrev pub decreases-more_items : goal.decreases-more_items
decreases-more_items l = l.levels * 40 + 25

abbrev pub decreases-next_item : goal.decreases-next_item
decreases-next_item l = l.levels * 40 + 24

abbrev pub decreases-column_items : goal.decreases-column_items
decreases-column_items l = l.levels * 40 + 23

abbrev pub decreases-column_events : goal.decreases-column_events
decreases-column_events l = l.levels * 40 + 22

abbrev pub decreases-event : goal.decreases-event
decreases-event l = l.levels * 40 + 21

abbrev pub decreases-multi : goal.decreases-multi
decreases-multi l = l.levels * 40 + 20

abbrev pub decreases-inline : goal.decreases-inline
decreases-inline l = l.levels * 40 + 19

abbrev pub decreases-inline_form : goal.decreases-inline_form
decreases-inline_form l = l.levels * 40 + 18

abbrev pub decreases-tail : goal.decreases-tail
decreases-tail l = l.levels * 40 + 17

abbrev pub decreases-level : goal.decreases-level
decreases-level l = l.levels * 40 + 16

abbrev pub invariant-more_operands-loop-k : goal.invariant-more_operands-loop-k
invariant-more_operands-loop-k l =
    more_at end_words (next_part_at (operand_at l.orientation l.form l.levels)) (map operand_view l.operands.items) (l._k-end - l._k) l.rest
    ≡ more_at end_words (next_part_at (operand_at l.orientation l.form l.levels)) (map operand_view l.fn.prefix.items) (length l.fn.tokens) l.fn.tokens

abbrev pub invariant-column_events-loop-k : goal.invariant-column_events-loop-k
invariant-column_events-loop-k l =
    more_going_at (column_goes_on l.closer) (column_event_at l.levels) (map item_view l.items.items) (l._k-end - l._k) l.rest
    ≡ more_going_at (column_goes_on l.closer) (column_event_at l.levels) [] (length l.fn.tokens) l.fn.tokens

abbrev pub invariant-several_statements-loop-k : goal.invariant-several_statements-loop-k
invariant-several_statements-loop-k l =
    more_at (statement_words l.closer) (any_statement_at l.closer l.levels) (map statement_view l.statements.items) (l._k-end - l._k) l.rest
    ≡ more_at (statement_words l.closer) (any_statement_at l.closer l.levels) [] (length l.fn.tokens) l.fn.tokens

abbrev pub invariant-more_items-loop-k : goal.invariant-more_items-loop-k
invariant-more_items-loop-k l =
    more_going_at (statement_goes_on l.closer (state_of l.any)) (outside_item_at l.levels l.any) (map item_view l.items.items) (l._k-end - l._k) l.rest
    ≡ more_going_at (statement_goes_on l.closer (state_of l.any)) (outside_item_at l.levels l.any) (map item_view l.fn.prefix.items) (length l.fn.tokens) l.fn.tokens
