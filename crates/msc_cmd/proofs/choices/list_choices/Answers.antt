use Rattle.std.proofs.Common.{false, refl, rules}
use Rattle.msc_meaning.specs.Views.{table_view}
use Rattle.msc_cmd.specs.ChoiceOutcomes.{ListsChoices}
use Rattle.msc_cmd.proofs.ChoiceReplies.{choices_one}
use Rattle.msc_cmd.proofs.Listings.{lacking_told}
use Rattle.msc_cmd.proofs.choices.list_choices.Goals as goal

pub choices-requires-clause-there : goal.choices-requires-clause-there
choices-requires-clause-there c = c.has_chart.ensures.there (search rules)

pub returns-clause-outcome : goal.returns-clause-outcome
returns-clause-outcome c =
    choices_one c.args.name.now (table_view c.args.accepted.now) c.in_ok-list.list _ _ c.choice_lists_are_one.ensures (c.has_chart.ensures.there (search rules)) c.in_ok-list.ensures refl c.in_ok-text.ensures

pub returns-then-not-has_chart-clause-outcome : goal.returns-then-not-has_chart-clause-outcome
returns-then-not-has_chart-clause-outcome c =
    lacking_told false c.args.name.now (table_view c.args.accepted.now) (λ chart. ListsChoices (table_view c.args.accepted.now) c.args.name.now) _ (c.has_chart.ensures.lacks (search rules)) c.make_reply.ensures.status c.make_reply.ensures.text
