-- Where the grammar of an event's text, by its kind, first refuses the tokens.
use Rattle.std.specs.Prelude.{ℕ, List}
use Rattle.msc_base.specs.declared.label.Kind.{Kind}
use Rattle.msc_base.specs.declared.label.Kind.TheVariants.{Output, Input, OutputLost, InputFound, Action, TimerStart, TimerStop, Timeout, Create}
use Rattle.msc_base.specs.declared.place.Place.{Place}
use Rattle.msc_tokens.specs.declared.token.Token.{Token}
use Rattle.token_grammar.specs.Parsing.{IsRefused}
use Rattle.token_grammar.specs.Parts.{name}
use Rattle.token_grammar.specs.Messages.{item}
use Rattle.token_grammar.specs.Refusals.{RefusedAt}
use Rattle.token_grammar.specs.declared.fault.ParseFault.{ParseFault}
use Rattle.msc_events.specs.LogEvents.{plain_message}

abbrev pub IsTextRefusal : Kind → List Token → ℕ → Type 0
IsTextRefusal Action tokens left = IsRefused (λ levels. item) 0 tokens left
IsTextRefusal Create tokens left = IsRefused (λ levels. name) 0 tokens left
IsTextRefusal Output tokens left = IsRefused (λ levels. plain_message) 0 tokens left
IsTextRefusal Input tokens left = IsRefused (λ levels. plain_message) 0 tokens left
IsTextRefusal OutputLost tokens left = IsRefused (λ levels. plain_message) 0 tokens left
IsTextRefusal InputFound tokens left = IsRefused (λ levels. plain_message) 0 tokens left
IsTextRefusal TimerStart tokens left = IsRefused (λ levels. plain_message) 0 tokens left
IsTextRefusal TimerStop tokens left = IsRefused (λ levels. plain_message) 0 tokens left
IsTextRefusal Timeout tokens left = IsRefused (λ levels. plain_message) 0 tokens left

-- the fault is there
abbrev pub IsTextRefused : Kind → List Token → Place → ParseFault → Type 0
IsTextRefused Action tokens end fault = RefusedAt item tokens end fault
IsTextRefused Create tokens end fault = RefusedAt name tokens end fault
IsTextRefused Output tokens end fault = RefusedAt plain_message tokens end fault
IsTextRefused Input tokens end fault = RefusedAt plain_message tokens end fault
IsTextRefused OutputLost tokens end fault = RefusedAt plain_message tokens end fault
IsTextRefused InputFound tokens end fault = RefusedAt plain_message tokens end fault
IsTextRefused TimerStart tokens end fault = RefusedAt plain_message tokens end fault
IsTextRefused TimerStop tokens end fault = RefusedAt plain_message tokens end fault
IsTextRefused Timeout tokens end fault = RefusedAt plain_message tokens end fault
