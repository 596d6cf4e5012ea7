use Rattle.std.proofs.Common.{◌≡◌, ◌∙◌, List, ap, refl, rules, subst, sym, Some, None, option_copied, option_map}
use Rattle.msc_meaning.specs.declared.body.ChartEntry.{ChartEntry}
use Rattle.chart_lists.specs.Listing.{listed_of}
use Rattle.msc_meaning.specs.Tables.{chart_at}
use Rattle.msc_meaning.specs.Views.{entry_view, table_view}
use Rattle.judge_report.specs.Lists.{instance_list}
use Rattle.msc_cmd.specs.Outcomes.{Says}
use Rattle.msc_cmd.proofs.Listings.{instances_told, lacking_told}
use Rattle.msc_cmd.proofs.listing.list_instances.Goals as goal

pub returns-clause-outcome : goal.returns-clause-outcome
returns-clause-outcome c =
    let some : Some (entry_view c.in-Some.chart.now) ≡ option_map entry_view (option_copied c.chart_named.result) = search rules in
    let named : chart_at (table_view c.args.accepted.now) c.args.name.now ≡ Some (entry_view c.in-Some.chart.now) =
    sym (some ∙ c.chart_named.ensures ∙ ap (chart_at (table_view c.args.accepted.now)) c.bytes.ensures) in
    let listed = subst (λ (es : List ChartEntry). c.in_ok-listed.listed ≡ listed_of (table_view es) (entry_view c.in-Some.chart.now)) c.table.ensures.charts c.in_ok-listed.ensures in
    let text : c.in_ok-text.text ≡ instance_list c.args.json c.in_ok-listed.listed = search rules in
    instances_told c.args.json c.args.name.now (table_view c.args.accepted.now) (entry_view c.in-Some.chart.now) c.in_ok-listed.listed _ named listed refl text

pub returns-in_default-clause-outcome : goal.returns-in_default-clause-outcome
returns-in_default-clause-outcome c =
    let none : None ≡ option_map entry_view (option_copied c.chart_named.result) = search rules in
    let lacks : chart_at (table_view c.args.accepted.now) c.args.name.now ≡ None = sym (none ∙ c.chart_named.ensures ∙ ap (chart_at (table_view c.args.accepted.now)) c.bytes.ensures) in
    lacking_told c.args.json c.args.name.now (table_view c.args.accepted.now) (λ chart. Says (instance_list c.args.json (listed_of (table_view c.args.accepted.now) chart))) _ lacks c.make_reply.ensures.status c.make_reply.ensures.text
