-- Serves private contracts alone.
-- Charts without inline expressions and references: no rule on parts is broken there.
use Rattle.std.specs.Prelude.{Bool, true, false, List}
use Rattle.std.specs.List.{list_all}
use Rattle.chart_text.specs.Texts.{Passage, a_head, a_statement, an_item, an_operand, chart_text}
use Rattle.msc_tree.specs.Charts.{Chart}
use Rattle.msc_tree.specs.Statements.{Form, Single, Coregion, Condition, Inline, Refer, Stop}

-- neither an inline expression nor a reference
abbrev pub is_single : Form → Bool
is_single (Inline head held) = false
is_single (Refer reference) = false
is_single (Single event) = true
is_single (Coregion events) = true
is_single (Condition names shared) = true
is_single Stop = true

abbrev pub is_single_passage : Passage → Bool
is_single_passage (a_head decl) = true
is_single_passage (a_statement depth scope x) = true
is_single_passage (an_item s place form) = is_single form
is_single_passage (an_operand s x) = true

abbrev pub are_single : List Passage → Bool
are_single xs = list_all is_single_passage xs

abbrev pub is_single_chart : Chart → Bool
is_single_chart chart = are_single (chart_text chart)
