-- Serves private contracts alone.
-- What is known of the gates that a caller calls: none where it calls none, and of a gate without inner event nothing.
use Rattle.std.specs.Prelude.{Bool, true, false, not, ◌&&◌, ◌||◌, Option, None, Some, option_map}
use Rattle.msc_base.specs.declared.label.Kind.{Kind}
use Rattle.msc_base.specs.declared.label.Kind.TheVariants.{Output, Input, OutputLost, InputFound, Action, TimerStart, TimerStop, Timeout, Create}
use Rattle.msc_meaning.specs.Bodies.{WovenItems}
use Rattle.msc_meaning.specs.Tables.{Table}
use Rattle.gate_tables.specs.FactViews.{facts_view}
use Rattle.gate_tables.specs.GateFacts.{Facts, facts_of}
use Rattle.gate_tables.specs.MessageTexts.{MessageText, is_same_text, text_parts}
use Rattle.gate_rules.specs.declared.known.Known.{Known}
use Rattle.gate_rules.specs.declared.known.Known.TheVariants.{Uncalled, Empty, Events}
use Rattle.gate_rules.specs.declared.known.Ends as code
use Rattle.gate_rules.specs.Callers.{far_gate, own_gate_of}
use Rattle.gate_rules.specs.GateRules.{Caller, by_event, by_join, GateName, inner_at}

abbrev pub known_view : Known → Option (Option Facts)
known_view Uncalled = None
known_view Empty = Some None
known_view (Events facts) = Some (Some (facts_view facts.now))

-- of that of its own reference, and of another's
pub record Ends : Type 0 where
  pub own : Option (Option Facts)
  pub far : Option (Option Facts)

abbrev pub ends_view : code.Ends → Ends
ends_view ends = record { own = known_view ends.own; far = known_view ends.far }

-- its own gate, where it calls another's
abbrev pub own_called : Option GateName → Option GateName → Option GateName
own_called own None = None
own_called own (Some far) = own

abbrev pub found : Table → WovenItems → Option GateName → Option (Option Facts)
found table held gate = option_map (λ x. facts_of (inner_at table held x)) gate

abbrev pub ends_found : Table → WovenItems → Caller → Ends
ends_found table held c = record { own = found table held (own_called (own_gate_of c) (far_gate c)); far = found table held (far_gate c) }

-- ---- tests

abbrev pub lacks : Option (Option Facts) → Bool
lacks None = false
lacks (Some None) = true
lacks (Some (Some f)) = false

abbrev pub with_facts : (Facts → Bool) → Option (Option Facts) → Bool
with_facts test None = false
with_facts test (Some None) = false
with_facts test (Some (Some f)) = test f

-- it holds of one of the gates
abbrev pub some_end : (Option (Option Facts) → Bool) → Ends → Bool
some_end test ends = test ends.own || test ends.far

-- an inner event has another text
abbrev pub has_other : Facts → MessageText → Bool
has_other f text = not (is_same_text f.text text) || f.differ

-- all come in where an event of that kind goes out, and the other way round
abbrev pub answering : Kind → Facts → Bool
answering Output f = f.inputs
answering Input f = f.outputs
answering OutputLost f = false
answering InputFound f = false
answering Action f = false
answering TimerStart f = false
answering TimerStop f = false
answering Timeout f = false
answering Create f = false

-- one doesn't go the other way than events of that kind, or has another text
abbrev pub along : Kind → MessageText → Facts → Bool
along kind text f = not (answering kind f) || has_other f text

-- those of one gate all go out, and those of the other in
abbrev pub opposed : Facts → Facts → Bool
opposed f g = (f.outputs && g.inputs) || (f.inputs && g.outputs)

-- they don't, or they have two texts
abbrev pub tied_ways : Facts → Facts → Bool
tied_ways f g = not (opposed f g) || (f.differ || has_other g f.text)

abbrev pub clashing : Ends → Bool
clashing ends = with_facts (λ f. with_facts (tied_ways f) ends.far) ends.own

-- inner events of a gate that it calls go along with the caller
abbrev pub ways_by : Caller → Ends → Bool
ways_by (by_event n name gate) ends = with_facts (along n.event.kind (text_parts n.event)) ends.far
ways_by (by_join part j) ends = clashing ends
