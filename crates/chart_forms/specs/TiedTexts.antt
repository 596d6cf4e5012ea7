-- Whether a join of a text ties two gates (Z.120, clause 7.3). Where none does, joins add nothing to the size of a chart.
use Rattle.std.specs.Prelude.{Bool, true, false, List}
use Rattle.std.specs.List.{list_any}
use Rattle.chart_text.specs.Texts.{Passage, a_head, a_statement, an_item, an_operand, chart_text}
use Rattle.msc_tree.specs.Charts.{Chart}
use Rattle.msc_tree.specs.Statements.{Form, Single, Coregion, Condition, Inline, Refer, Stop}
use Rattle.msc_tree.specs.declared.reference.Join.{Join}
use Rattle.msc_tree.specs.declared.reference.JoinEnd.{JoinEnd}
use Rattle.msc_tree.specs.declared.reference.JoinEnd.TheVariants as join_end

-- a join that ties two gates; another hands a gate on to its level
abbrev pub ties_gate : JoinEnd → Bool
ties_gate (join_end.Env to) = false
ties_gate (join_end.Reference name to) = true

-- one of them does
abbrev pub tie_gates : List Join → Bool
tie_gates js = list_any (λ (j : Join). ties_gate j.to) js

-- one of an item by itself
abbrev pub is_tied : Form → Bool
is_tied (Refer reference) = tie_gates reference.joins
is_tied (Single event) = false
is_tied (Coregion events) = false
is_tied (Condition names shared) = false
is_tied (Inline head held) = false
is_tied Stop = false

abbrev pub is_tied_passage : Passage → Bool
is_tied_passage (a_head decl) = false
is_tied_passage (a_statement depth scope x) = false
is_tied_passage (an_item s place form) = is_tied form
is_tied_passage (an_operand s x) = false

abbrev pub is_tied_text : List Passage → Bool
is_tied_text text = list_any is_tied_passage text

-- of one of the charts
abbrev pub are_tied : List Chart → Bool
are_tied charts = list_any (λ (c : Chart). is_tied_text (chart_text c)) charts
