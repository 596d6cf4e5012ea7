-- Graphs as they are written: lines with labels, and labels that name lines.
use Rattle.std.specs.Prelude.{ℕ, ◌≡◌, ◌<◌, ◌++◌, ◌⊎◌, List, [], ◌∷◌, Option, Some, map, slice_get}
use Rattle.std.specs.List.{flat_map, position}
use Rattle.std.specs.Str.{bytes_eq}
use Rattle.msc_base.specs.declared.label.LabelRef.{LabelRef}
use Rattle.msc_base.specs.declared.place.Place.{Place}
use Rattle.hmsc_graph.specs.declared.shape.ShapeLine.{ShapeLine}
use Rattle.hmsc_graph.specs.declared.shape.Shape.{Shape}
use Rattle.hmsc_graph.specs.declared.net.NetFault.{NetFault}
use Rattle.hmsc_graph.specs.declared.net.NetFault.TheVariants.{UnknownLabel, TwiceLabel, NoMemory}
use Rattle.hmsc_graph.specs.Graphs.{Net}
use Rattle.msc_rules.specs.FirstFaults.{BreaksEither, IsFirstFault}
use Rattle.msc_rules.specs.Rules.{group_of, number_of}
use Rattle.msc_rules.specs.declared.rule.Rule.{Rule}
use Rattle.msc_rules.specs.declared.rule.Rule.TheVariants as rule

-- the number of the first line of that label, where the lines are numbered from 0
abbrev pub line_number : List ShapeLine → List ℕ → Option ℕ
line_number lines label = position (bytes_eq label) (map (λ line. line.label) lines)

-- the numbers of the lines that the labels name
abbrev pub AreNumbers : List ShapeLine → List LabelRef → List ℕ → Type 0
AreNumbers lines labels numbers = map (λ n. Some n) numbers ≡ map (λ label. line_number lines label.name) labels

-- each list has the numbers of the lines that come next behind its line
abbrev pub AreNext : List ShapeLine → List ShapeLine → List (List ℕ) → Type 0
AreNext lines [] [] = Unit {0}
AreNext lines [] (numbers ∷ next) = ⊥
AreNext lines (line ∷ rest) [] = ⊥
AreNext lines (line ∷ rest) (numbers ∷ next) = AreNumbers lines line.next numbers × AreNext lines rest next

-- the graph that the shape writes down: its nodes are the lines, in the order of the text
pub record IsGraphOf (shape : Shape) (g : Net) : Type 0 where
  pub starts : AreNumbers shape.lines shape.starts g.starts
  pub next : AreNext shape.lines shape.lines g.next
  pub ends : g.ends ≡ map (λ line. line.ends) shape.lines

-- the line of that number has the label
pub record HasLabel (lines : List ShapeLine) (number : ℕ) (label : List ℕ) : Type 0 where
  pub line : ShapeLine
  pub at : slice_get lines number ≡ Some line
  pub is : line.label ≡ label

-- the labels that name lines: where a walk starts, and what comes next behind each line
abbrev pub named_by : Shape → List LabelRef
named_by shape = shape.starts ++ flat_map (λ line. line.next) shape.lines

-- one of these labels stands at the place, and no line has it
abbrev pub IsUnknown : List ShapeLine → List LabelRef → Place → Type 0
IsUnknown lines [] place = ⊥
IsUnknown lines (label ∷ labels) place = ((label.place ≡ place) × ((number : ℕ) → HasLabel lines number label.name → ⊥)) ⊎ IsUnknown lines labels place

-- at the place stands a line, the label of which a line before it has
pub record IsTwice (lines : List ShapeLine) (place : Place) : Type 0 where
  pub first : ℕ
  pub second : ℕ
  pub line : ShapeLine
  pub at : slice_get lines second ≡ Some line
  pub here : line.place ≡ place
  pub before : first < second
  pub again : HasLabel lines first line.label

-- a label that can't stand where it stands
abbrev pub IsFaulty : Shape → Place → Type 0
IsFaulty shape place = IsUnknown shape.lines (named_by shape) place ⊎ IsTwice shape.lines place

-- the rule of labels that is broken at that place
abbrev pub BreaksLabels : Shape → Rule → Place → Type 0
BreaksLabels shape = BreaksEither rule.UnknownLabel (IsUnknown shape.lines (named_by shape)) rule.LabelNamedTwice (IsTwice shape.lines)

-- the fault is the first, by place, and at one place by the rules' numbers
abbrev pub IsFaultOf : Shape → NetFault → Type 0
IsFaultOf shape (UnknownLabel place) = IsFirstFault number_of group_of (BreaksLabels shape) (record { rule = rule.UnknownLabel; place = place })
IsFaultOf shape (TwiceLabel place) = IsFirstFault number_of group_of (BreaksLabels shape) (record { rule = rule.LabelNamedTwice; place = place })
IsFaultOf shape NoMemory = Unit {0}
