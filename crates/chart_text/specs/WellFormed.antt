-- What each text that is read has beside its tree: an event and a coregion stand at one instance, what an event creates is an instance, an
-- inline expression has as many operands as its form takes, and what is put together in the expression of a reference has two parts at least
-- (Z.120, clauses 4.2, 4.10, 7.2 and 7.3).
use Rattle.std.specs.Prelude.{◌≡◌, ◌&&◌, ⊤, Bool, true, false, nat_eq, length, List, [], ◌∷◌}
use Rattle.msc_base.specs.declared.label.Kind.{Kind}
use Rattle.msc_base.specs.declared.label.Kind.TheVariants.{Output, Input, OutputLost, InputFound, Action, TimerStart, TimerStop, Timeout, Create}
use Rattle.msc_tree.specs.declared.event.RawEvent.{RawEvent}
use Rattle.msc_tree.specs.declared.event.Target.{Target}
use Rattle.msc_tree.specs.declared.event.Target.TheVariants.{Nobody, Env, Instance, Gate}
use Rattle.msc_tree.specs.declared.reference.InlineForm.{InlineForm}
use Rattle.msc_tree.specs.declared.reference.InlineForm.TheVariants.{Alt, Opt, Par, Loop, Exc}
use Rattle.msc_tree.specs.Charts.{Chart}
use Rattle.msc_tree.specs.Expressions.{Expression, Expressions, none, more}
use Rattle.msc_tree.specs.Expressions as expression
use Rattle.msc_tree.specs.Statements.{Form, Single, Coregion, Condition, Inline, Refer, Stop, Operands, no_operands, operand_and}
use Rattle.chart_text.specs.Texts.{Side, in_column, behind, behind_all, Passage, a_head, a_statement, an_item, an_operand, chart_text}

-- one instance
abbrev pub is_at_one : Side → Bool
is_at_one (in_column name) = true
is_at_one (behind names) = nat_eq (length names) 1
is_at_one (behind_all scope) = false

-- what is created is an instance
abbrev pub creates_instance : Kind → Target → Bool
creates_instance Create Nobody = false
creates_instance Create (Env gate) = false
creates_instance Create (Instance name) = true
creates_instance Create (Gate name gate) = false
creates_instance Output target = true
creates_instance Input target = true
creates_instance OutputLost target = true
creates_instance InputFound target = true
creates_instance Action target = true
creates_instance TimerStart target = true
creates_instance TimerStop target = true
creates_instance Timeout target = true

abbrev pub is_well_formed_event : RawEvent → Bool
is_well_formed_event event = creates_instance event.kind event.target

abbrev pub are_well_formed_events : List RawEvent → Bool
are_well_formed_events [] = true
are_well_formed_events (event ∷ events) = is_well_formed_event event && are_well_formed_events events

-- `alt` and `par` take any number of operands but none, the others one
abbrev pub takes : InlineForm → Operands → Bool
takes Alt no_operands = false
takes Alt (operand_and operand others) = true
takes Par no_operands = false
takes Par (operand_and operand others) = true
takes Opt no_operands = false
takes Opt (operand_and operand no_operands) = true
takes Opt (operand_and operand (operand_and other others)) = false
takes Exc no_operands = false
takes Exc (operand_and operand no_operands) = true
takes Exc (operand_and operand (operand_and other others)) = false
takes Loop no_operands = false
takes Loop (operand_and operand no_operands) = true
takes Loop (operand_and operand (operand_and other others)) = false

-- two at least
abbrev pub are_several : Expressions → Bool
are_several none = false
are_several (more x none) = false
are_several (more x (more y ys)) = true

-- `alt`, `par` and `seq` have two parts at least, at any depth
abbrev mutual
  pub has_parts : Expression → Bool
  has_parts expression.Empty = true
  has_parts (expression.Chart name) = true
  has_parts (expression.Alt parts) = are_several parts && have_parts parts
  has_parts (expression.Par parts) = are_several parts && have_parts parts
  has_parts (expression.Seq parts) = are_several parts && have_parts parts
  has_parts (expression.Opt part) = has_parts part
  has_parts (expression.Loop lower upper part) = has_parts part

  pub have_parts : Expressions → Bool
  have_parts none = true
  have_parts (more x xs) = has_parts x && have_parts xs

abbrev pub is_well_formed_item : Side → Form → Bool
is_well_formed_item side (Single event) = is_at_one side && is_well_formed_event event
is_well_formed_item side (Coregion events) = is_at_one side && are_well_formed_events events
is_well_formed_item side (Inline head held) = takes head.form held
is_well_formed_item side (Condition names shared) = true
is_well_formed_item side (Refer reference) = has_parts reference.expression
is_well_formed_item side Stop = true

abbrev pub is_well_formed : Passage → Bool
is_well_formed (an_item s place form) = is_well_formed_item s.side form
is_well_formed (a_head decl) = true
is_well_formed (a_statement depth scope statement) = true
is_well_formed (an_operand s operand) = true

-- each passage has it
abbrev pub Each : (Passage → Type 0) → List Passage → Type 0
Each P [] = ⊤
Each P (p ∷ passages) = P p × Each P passages

abbrev pub AreWellFormed : List Passage → Type 0
AreWellFormed text = Each (λ p. is_well_formed p ≡ true) text

abbrev pub IsWellFormed : Chart → Type 0
IsWellFormed chart = AreWellFormed (chart_text chart)

-- each of the charts
abbrev pub AreAllWellFormed : List Chart → Type 0
AreAllWellFormed [] = ⊤
AreAllWellFormed (c ∷ charts) = IsWellFormed c × AreAllWellFormed charts
