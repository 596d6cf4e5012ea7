use Rattle.std.specs.List.{flat_map}
use Rattle.std.proofs.Common.{◌≡◌, [], drop, fold, map}
use Rattle.chart_links.specs.Links.{linked}
use Rattle.chart_links.specs.Summaries.{Summary}
use Rattle.chart_links.specs.SummaryViews.{summary_view}
use Rattle.msc_base.specs.NameTables.{with_name}
use Rattle.msc_acceptance.proofs.graphs.linked_names.Given as goal

abbrev pub invariant-loop-summary : goal.invariant-loop-summary
invariant-loop-summary l = fold with_name l.names (flat_map (λ (s : Summary). map linked s.links) (map summary_view (drop l.summary-index l.summaries))) ≡ fold with_name [] (flat_map (λ (s : Summary). map linked s.links) (map summary_view l.summaries))
