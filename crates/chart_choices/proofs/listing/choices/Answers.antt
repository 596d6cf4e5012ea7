use Rattle.std.proofs.Common.{◌≡◌, List, Some, rules, subst, sym}
use Rattle.std.proofs.lemmas.List.Sorted.{IsPermutation-map}
use Rattle.msc_meaning.specs.Tables.{chart_at}
use Rattle.msc_meaning.specs.Views.{entry_view, table_view}
use Rattle.chart_choices.specs.declared.choice.Choice.{Choice}
use Rattle.chart_choices.specs.Listed.{IsListed, as_made, made_choices}
use Rattle.chart_choices.proofs.listing.choices.Goals as goal

pub returns : goal.returns
returns c =
    let table = table_view c.args.accepted.now in
    let name = c.args.name.now in
    let chart = entry_view c.in-Some.chart.now in
    let is : chart_at table name ≡ Some chart = search rules in
    let found = c.in_ok-found.found.items in
    let sorted = c.sort_choices.new.choices.items in
    subst (λ (cs : List Choice). IsListed table name (made_choices cs)) (sym c.in_ok-list.ensures)
    (record {
      list = record {
        chart = chart;
        is = is;
        made = made_choices found;
        are = c.in_ok-found.ensures;
        same = IsPermutation-map as_made found sorted c.sort_choices.ensures.permutation;
        ordered = c.in_ok-sort_choices.ensures.ordered;
      };
      kept = c.in_ok-sort_choices.ensures.kept;
    })
