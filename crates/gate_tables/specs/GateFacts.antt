-- What rules ask of the inner events of a gate.
use Rattle.std.specs.Prelude.{ℕ, min, Bool, true, false, not, nat_lt, List, [], ◌∷◌, length, Option, None, Some}
use Rattle.std.specs.List.{list_all, list_any}
use Rattle.std.specs.Str.{bytes_eq}
use Rattle.msc_base.specs.declared.label.Kind.{Kind}
use Rattle.msc_base.specs.declared.label.Kind.TheVariants.{Output, Input, OutputLost, InputFound, Action, TimerStart, TimerStop, Timeout, Create}
use Rattle.msc_meaning.specs.InnerEvents.{InnerEvent}
use Rattle.gate_ends.specs.FoundEnds.{GateEvents, listed, looped, most}
use Rattle.gate_tables.specs.MessageTexts.{MessageText, is_same_text, text_parts}

abbrev pub is_output : Kind → Bool
is_output Output = true
is_output Input = false
is_output OutputLost = false
is_output InputFound = false
is_output Action = false
is_output TimerStart = false
is_output TimerStop = false
is_output Timeout = false
is_output Create = false

abbrev pub is_input : Kind → Bool
is_input Input = true
is_input Output = false
is_input OutputLost = false
is_input InputFound = false
is_input Action = false
is_input TimerStart = false
is_input TimerStop = false
is_input Timeout = false
is_input Create = false

abbrev pub is_among_events : List InnerEvent → Bool
is_among_events [] = false
is_among_events (e ∷ es) = true

-- how far inner events are counted: one more than the limit of the sum of all sizes (`TOTAL_SIZE` of msc_base)
abbrev pub most_counted : ℕ
most_counted = 2000001

-- the first of them, and what they have
pub record Facts : Type 0 where
  pub at : List ℕ
  pub kind : Kind
  pub text : MessageText
  -- all are inputs, or all outputs
  pub inputs : Bool
  pub outputs : Bool
  -- some have another text than the first, some happen at another instance
  pub differ : Bool
  pub apart : Bool
  -- some stand in a loop
  pub looped : Bool
  -- one branch has two of them
  pub several : Bool
  -- how many there are, as far as they are counted
  pub count : ℕ

abbrev pub all_inputs : List InnerEvent → Bool
all_inputs es = list_all (λ (e : InnerEvent). is_input e.node.event.kind) es

abbrev pub all_outputs : List InnerEvent → Bool
all_outputs es = list_all (λ (e : InnerEvent). is_output e.node.event.kind) es

abbrev pub has_other_text : MessageText → List InnerEvent → Bool
has_other_text text es = list_any (λ (e : InnerEvent). not (is_same_text (text_parts e.node.event) text)) es

abbrev pub is_elsewhere : List ℕ → List InnerEvent → Bool
is_elsewhere at es = list_any (λ (e : InnerEvent). not (bytes_eq e.node.at at)) es

abbrev pub facts_by : GateEvents → List InnerEvent → Option Facts
facts_by a [] = None
facts_by a (e ∷ es) = Some (record {
  at = e.node.at;
  kind = e.node.event.kind;
  text = text_parts e.node.event;
  inputs = all_inputs (e ∷ es);
  outputs = all_outputs (e ∷ es);
  differ = has_other_text (text_parts e.node.event) (e ∷ es);
  apart = is_elsewhere e.node.at (e ∷ es);
  looped = is_among_events (looped a);
  several = nat_lt 1 (most a);
  count = min (length (e ∷ es)) most_counted;
})

-- of a gate that has an inner event
abbrev pub facts_of : GateEvents → Option Facts
facts_of a = facts_by a (listed a)
