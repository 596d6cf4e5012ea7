use Rattle.std.proofs.Common.{rules, ◌≡◌, ℕ, None, List, length, map, replicate, sym, subst, ◌∙◌}
use Rattle.std.proofs.lemmas.List.{length-map}
use Rattle.chart_links.specs.Ranks.{AreRanks}
use Rattle.chart_links.specs.SummaryViews.{summary_view}
use Rattle.msc_tree.specs.Views.{chart_view}
use Rattle.msc_acceptance.specs.SizedCharts.{OfSizes}
use Rattle.msc_acceptance.specs.Deciding.{HaveExtents}
use Rattle.msc_acceptance.specs.Linkless.{AreLinkless}
use Rattle.msc_acceptance.proofs.LinkLaws.{always, both_groups, linkless_kept, no_ranks}
use Rattle.msc_acceptance.proofs.links.linkless_fault.Goals as goal

pub ranked_fault-requires-clause-ranks : goal.ranked_fault-requires-clause-ranks
ranked_fault-requires-clause-ranks c =
    let made : c.in_ok-ranks.ranks.items ≡ replicate (length c.args.summaries.now) 0 = search rules in
    subst (λ (l : List ℕ). AreRanks (map summary_view c.args.summaries.now) l) (sym (c.as_slice.ensures.value ∙ made)) (no_ranks (map summary_view c.args.summaries.now) (length c.args.summaries.now) c.requires.linkless (sym (length-map c.args.summaries.now summary_view)))

pub returns-clause-first : goal.returns-clause-first
returns-clause-first c =
    let charts = map chart_view c.args.read.charts.now in
    both_groups charts c.ranked_fault.result (linkless_kept charts (subst AreLinkless c.requires.summaries c.requires.linkless)) c.ranked_fault.ensures.best

pub returns-clause-extents : goal.returns-clause-extents
returns-clause-extents c = always (OfSizes (map chart_view c.args.read.charts.now) HaveExtents) c.ranked_fault.result (λ fault. fault ≡ None) c.ranked_fault.ensures.extents
