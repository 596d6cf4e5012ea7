-- How an event is written on a line of a log, and its text alone (Z.120, clauses 4.3, 4.8, 4.9 and 4.10): which tokens read
-- as an event, and as the text of one.
use Rattle.std.specs.Prelude.{◌≡◌, ℕ, List, ◌++◌, Option, codes}
use Rattle.msc_base.specs.declared.label.Label.{Label}
use Rattle.msc_base.specs.declared.label.Kind.{Kind}
use Rattle.msc_base.specs.declared.label.Kind.TheVariants.{Output, Input, OutputLost, InputFound, Action, TimerStart, TimerStop, Timeout, Create}
use Rattle.msc_tokens.specs.declared.token.Token.{Token}
use Rattle.msc_tree.specs.Labels.{label_of, list_text}
use Rattle.token_grammar.specs.Languages.{just, texts}
use Rattle.token_grammar.specs.Grammars.{Grammar, seq, read_as, tail, behind}
use Rattle.token_grammar.specs.Parts.{name}
use Rattle.token_grammar.specs.Messages.{item, parameters}
use Rattle.msc_events.specs.Events.{act}
use Rattle.msc_events.specs.declared.event_parts.Origin.TheVariants.{Log}

-- name ":" act end
abbrev pub event : Grammar Label
event = read_as (λ p. label_of p.0 p.1) (seq name (behind (just (codes ":")) (act Log)))

-- tokens with these bytes read as this event
pub record ReadsEvent (tokens : List (List ℕ)) (label : Label) : Type 0 where
  pub spelled : List Token
  pub are : texts spelled ≡ tokens
  pub reads : event.reads spelled label

-- ---- the text alone, as a log in JSON has it

-- name [ parameters ]
abbrev pub plain_message : Grammar (List ℕ × Option (List (List ℕ)))
plain_message = tail name parameters

abbrev pub reads_message : List Token → List ℕ → Type 0
reads_message tokens text = (parts : List ℕ × Option (List (List ℕ))) × plain_message.reads tokens parts × (text ≡ parts.0 ++ list_text parts.1)

-- the tokens of an event's text, by its kind
abbrev pub reads_text : Kind → List Token → List ℕ → Type 0
reads_text Action tokens text = item.reads tokens text
reads_text Create tokens text = name.reads tokens text
reads_text Output tokens text = reads_message tokens text
reads_text Input tokens text = reads_message tokens text
reads_text OutputLost tokens text = reads_message tokens text
reads_text InputFound tokens text = reads_message tokens text
reads_text TimerStart tokens text = reads_message tokens text
reads_text TimerStop tokens text = reads_message tokens text
reads_text Timeout tokens text = reads_message tokens text

-- tokens with these bytes are the text of an event of this kind
pub record ReadsText (kind : Kind) (tokens : List (List ℕ)) (text : List ℕ) : Type 0 where
  pub spelled : List Token
  pub are : texts spelled ≡ tokens
  pub reads : reads_text kind spelled text
