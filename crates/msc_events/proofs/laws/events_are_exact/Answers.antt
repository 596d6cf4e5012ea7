use Rattle.std.proofs.Common.{codes}
use Rattle.token_grammar.specs.Languages.{just}
use Rattle.token_grammar.proofs.Optionals.{none}
use Rattle.token_grammar.proofs.Exact.{exact_reader, one_reading}
use Rattle.msc_events.specs.Events.{single, coregion, stop}
use Rattle.msc_events.specs.EventReaders.{single_at, single_words, coregion_at, stop_at}
use Rattle.msc_events.proofs.EventRules.{single_rule, coregion_rule, stop_rule}
use Rattle.msc_events.proofs.laws.events_are_exact.Goals as goal

pub returns-clause-one_single : goal.returns-clause-one_single
returns-clause-one_single c = one_reading single single_words none single_at single_rule

pub returns-clause-single : goal.returns-clause-single
returns-clause-single c = exact_reader single single_words none single_at single_rule

pub returns-clause-one_coregion : goal.returns-clause-one_coregion
returns-clause-one_coregion c = one_reading coregion (just (codes "concurrent")) none coregion_at coregion_rule

pub returns-clause-coregion : goal.returns-clause-coregion
returns-clause-coregion c = exact_reader coregion (just (codes "concurrent")) none coregion_at coregion_rule

pub returns-clause-one_stop : goal.returns-clause-one_stop
returns-clause-one_stop c = one_reading stop (just (codes "stop")) none stop_at stop_rule

pub returns-clause-stop : goal.returns-clause-stop
returns-clause-stop c = exact_reader stop (just (codes "stop")) none stop_at stop_rule
