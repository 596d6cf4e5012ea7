-- Serves private contracts alone.
-- Facts of inner events put together, as the events are.
use Rattle.std.specs.Prelude.{◌+◌, min, Bool, true, false, not, ◌&&◌, ◌||◌, Option, None, Some}
use Rattle.std.specs.Str.{bytes_eq}
use Rattle.msc_meaning.specs.Bodies.{EventNode}
use Rattle.gate_tables.specs.GateFacts.{Facts, is_input, is_output, most_counted}
use Rattle.gate_tables.specs.MessageTexts.{is_same_text, text_parts}

-- of an event by itself
abbrev pub event_facts : EventNode → Facts
event_facts n = record {
  at = n.at;
  kind = n.event.kind;
  text = text_parts n.event;
  inputs = is_input n.event.kind;
  outputs = is_output n.event.kind;
  differ = false;
  apart = false;
  looped = false;
  several = false;
  count = 1;
}

-- of these events and those behind them: one branch has both, or a branch has the one or the other
abbrev pub joined_facts : Bool → Facts → Facts → Facts
joined_facts both x y = record {
  at = x.at;
  kind = x.kind;
  text = x.text;
  inputs = x.inputs && y.inputs;
  outputs = x.outputs && y.outputs;
  differ = x.differ || y.differ || not (is_same_text y.text x.text);
  apart = x.apart || y.apart || not (bytes_eq y.at x.at);
  looped = x.looped || y.looped;
  several = both || x.several || y.several;
  count = min (x.count + y.count) most_counted;
}

abbrev pub together : Bool → Option Facts → Option Facts → Option Facts
together both None y = y
together both (Some x) None = Some x
together both (Some x) (Some y) = Some (joined_facts both x y)

-- of the same events in a loop
abbrev pub looped_facts : Facts → Facts
looped_facts x = record x { looped = true }

abbrev pub in_loop_facts : Option Facts → Option Facts
in_loop_facts None = None
in_loop_facts (Some x) = Some (looped_facts x)

abbrev pub facts_if : Bool → Option Facts → Option Facts
facts_if true x = x
facts_if false x = None

abbrev pub facts_unless : Bool → Option Facts → Option Facts
facts_unless true x = None
facts_unless false x = x
