-- The rules: the group, the number and the printed text of each.
use Rattle.std.specs.Prelude.{ℕ, List, ◌++◌, codes}
use Rattle.msc_rules.specs.declared.rule.Form.{Form}
use Rattle.msc_rules.specs.declared.rule.Form.TheVariants.{Guard, DataForm, TimeForm, Method, Qualifier, Inheritance, GateForm, Create, Stop, ExcForm}
use Rattle.msc_rules.specs.declared.rule.Rule.{Rule}
use Rattle.msc_rules.specs.declared.rule.Rule.TheVariants.{Bytes, BadByte, OpenString, OpenNote, LongName, Syntax, Unsupported, TooDeep, Charts, Instances, Nodes, LoopBound, NamedTwice, Undeclared, MissingChart, Recursive, Uncovered, ExpandedNesting, Size, Total, NotShared, OperandsDiffer, ExcPlace, Crossed, Unmatched, NoGate, GateTwice, GateWays, GateSplit, GateOnLoop, DecompositionMismatch, SharedPart, Inside, LocalEvent, UnknownEvent, EventNamedTwice, Cyclic, UnknownLabel, LabelNamedTwice, Endless, CreatePlace, CreateTwice, AfterStop}

abbrev pub form_text : Form → List ℕ
form_text Guard = codes "guard"
form_text DataForm = codes "data"
form_text TimeForm = codes "time"
form_text Method = codes "method"
form_text Qualifier = codes "qualifier"
form_text Inheritance = codes "inheritance"
form_text GateForm = codes "gate"
form_text Create = codes "create"
form_text Stop = codes "stop"
form_text ExcForm = codes "exc"

-- a rule's group, its number, and its text, which for a form that isn't taken has the form's text behind it
pub record RuleRow : Type 0 where
  pub group : ℕ
  pub number : ℕ
  pub text : List ℕ

abbrev row : ℕ → ℕ → List ℕ → RuleRow
row group number text = record { group = group; number = number; text = text }

-- the table of the rules. A fault of an earlier group is told before one of a later; the number tells the rules apart, and of two faults
-- at one place the one of the lower number is told. The groups are: 0 bytes, 1 tokens, 2 grammar, 3 limits, 4 names, 5 references, 6 sizes,
-- 7 parts, 8 weaving, 9 messages, 10 gates, 11 decomposition, 12 event names, 13 cycles, 14 labels, 15 graphs
abbrev pub row_of : Rule → RuleRow
row_of Bytes = row 0 1 (codes "document too long")
row_of BadByte = row 1 2 (codes "bad byte")
row_of OpenString = row 1 3 (codes "open string")
row_of OpenNote = row 1 4 (codes "open note")
row_of LongName = row 1 5 (codes "long name")
row_of Syntax = row 2 6 (codes "syntax")
row_of (Unsupported form) = row 2 7 (codes "unsupported, " ++ form_text form)
row_of TooDeep = row 2 8 (codes "nesting")
row_of Charts = row 3 9 (codes "too many charts")
row_of Instances = row 3 10 (codes "too many instances")
row_of Nodes = row 3 11 (codes "too many nodes")
row_of LoopBound = row 3 12 (codes "loop bound")
row_of NamedTwice = row 4 13 (codes "named twice")
row_of Undeclared = row 4 14 (codes "undeclared instance")
row_of MissingChart = row 5 15 (codes "missing chart")
row_of Recursive = row 5 16 (codes "recursive reference")
row_of Uncovered = row 5 17 (codes "uncovered instance")
row_of ExpandedNesting = row 6 18 (codes "expanded nesting")
row_of Size = row 6 19 (codes "expanded size")
row_of Total = row 6 20 (codes "total size")
row_of NotShared = row 7 21 (codes "not shared")
row_of OperandsDiffer = row 7 22 (codes "operands differ")
row_of ExcPlace = row 7 23 (codes "exc placed")
row_of CreatePlace = row 7 41 (codes "create placed")
row_of CreateTwice = row 7 42 (codes "created twice")
row_of AfterStop = row 7 43 (codes "event after stop")
row_of Crossed = row 8 24 (codes "crossed")
row_of Unmatched = row 9 25 (codes "unmatched message")
row_of NoGate = row 10 26 (codes "no gate")
row_of GateTwice = row 10 27 (codes "gate used twice")
row_of GateWays = row 10 28 (codes "gate ways differ")
row_of GateSplit = row 10 29 (codes "gate on two instances")
row_of GateOnLoop = row 10 30 (codes "gate on a loop")
row_of DecompositionMismatch = row 11 31 (codes "decomposition mismatch")
row_of SharedPart = row 11 32 (codes "decomposed instance shared")
row_of Inside = row 11 33 (codes "decomposition inside")
row_of LocalEvent = row 11 34 (codes "local event")
row_of UnknownEvent = row 12 35 (codes "unknown event")
row_of EventNamedTwice = row 12 36 (codes "event named twice")
row_of Cyclic = row 13 37 (codes "cyclic order")
row_of UnknownLabel = row 14 38 (codes "unknown label")
row_of LabelNamedTwice = row 14 39 (codes "label named twice")
row_of Endless = row 15 40 (codes "endless graph")

abbrev pub rule_text : Rule → List ℕ
rule_text rule = (row_of rule).text

abbrev pub number_of : Rule → ℕ
number_of rule = (row_of rule).number

abbrev pub group_of : Rule → ℕ
group_of rule = (row_of rule).group
