-- The plain facts that those of the code stand for.
use Rattle.gate_tables.specs.GateFacts.{Facts}
use Rattle.gate_tables.specs.declared.facts.GateFacts.{GateFacts}
use Rattle.gate_tables.specs.declared.facts.SeenFacts.{SeenFacts}
use Rattle.gate_tables.specs.MessageTexts.{message_view}

abbrev pub facts_view : GateFacts → Facts
facts_view f = record { at = f.at; kind = f.kind; text = record { name = f.text; parameters = f.parameters }; inputs = f.inputs; outputs = f.outputs; differ = f.differ; apart = f.apart; looped = f.looped; several = f.several; count = f.count }

abbrev pub seen_view : SeenFacts → Facts
seen_view f = record { at = f.at.now; kind = f.kind; text = message_view f.text; inputs = f.inputs; outputs = f.outputs; differ = f.differ; apart = f.apart; looped = f.looped; several = f.several; count = f.count }
