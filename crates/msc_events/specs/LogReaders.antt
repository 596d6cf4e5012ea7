-- Serves private contracts alone.
-- Readers of the prefix of a list of tokens, of the shape of the productions of a log's event; for private clauses.
use Rattle.std.specs.Prelude.{ℕ, List, ◌++◌, Option, codes}
use Rattle.msc_base.specs.declared.label.Label.{Label}
use Rattle.msc_base.specs.declared.label.Kind.{Kind}
use Rattle.msc_base.specs.declared.label.Kind.TheVariants.{Output, Input, OutputLost, InputFound, Action, TimerStart, TimerStop, Timeout, Create}
use Rattle.msc_tokens.specs.declared.token.Token.{Token}
use Rattle.msc_tree.specs.Labels.{label_of, list_text}
use Rattle.token_grammar.specs.Languages.{Read, just, seq_at, map_at, tail_at, behind_at}
use Rattle.token_grammar.specs.PartReaders.{name_at, item_at, parameters_at}
use Rattle.msc_events.specs.EventReaders.{act_at}
use Rattle.msc_events.specs.declared.event_parts.Origin.TheVariants.{Log}

abbrev pub event_at : List Token → Read Label
event_at = map_at (λ p. label_of p.0 p.1) (seq_at name_at (behind_at (just (codes ":")) (act_at Log)))

-- ---- texts

abbrev pub plain_message_at : List Token → Read (List ℕ × Option (List (List ℕ)))
plain_message_at = tail_at (just (codes "(")) name_at parameters_at

abbrev pub glued : List ℕ × Option (List (List ℕ)) → List ℕ
glued p = p.0 ++ list_text p.1

abbrev pub glued_message_at : List Token → Read (List ℕ)
glued_message_at = map_at glued plain_message_at

abbrev pub text_at : Kind → List Token → Read (List ℕ)
text_at Action = item_at
text_at Create = name_at
text_at Output = glued_message_at
text_at Input = glued_message_at
text_at OutputLost = glued_message_at
text_at InputFound = glued_message_at
text_at TimerStart = glued_message_at
text_at TimerStop = glued_message_at
text_at Timeout = glued_message_at
