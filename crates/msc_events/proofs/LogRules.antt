-- The readers of a log's event and of its text are exact.
use Rattle.std.proofs.Common.{ℕ, refl, codes}
use Rattle.msc_tree.specs.Labels.{label_of}
use Rattle.token_grammar.specs.Languages.{just, names, tail_ends}
use Rattle.token_grammar.proofs.Rules.{Rule, seq_rule, as_rule, tail_rule}
use Rattle.token_grammar.proofs.Optionals.{none, behind_rule}
use Rattle.token_grammar.proofs.PartRules.{name_rule, parameters_rule}
use Rattle.msc_events.specs.LogEvents.{event, plain_message}
use Rattle.msc_events.specs.LogReaders.{event_at, plain_message_at}
use Rattle.msc_events.specs.declared.event_parts.Origin.TheVariants.{Log}
use Rattle.msc_events.proofs.EventRules.{act_rule}

pub event_rule : (n : ℕ) → Rule (λ m. event) n names none event_at
event_rule n = as_rule (λ p. label_of p.0 p.1) none (seq_rule (name_rule n) (behind_rule (just (codes ":")) (codes ":") refl (act_rule Log n)) (λ a. refl)) (λ a. refl)

pub plain_message_rule : (n : ℕ) → Rule (λ m. plain_message) n names (tail_ends none (just (codes "(")) none) plain_message_at
plain_message_rule n = tail_rule (name_rule n) (parameters_rule n) (λ a. refl)
