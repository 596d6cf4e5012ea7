use Rattle.std.proofs.Common.{subst, sym}
use Rattle.msc_meaning.specs.Views.{table_view}
use Rattle.expansion_tree.specs.Expansions.{events_in}
use Rattle.expansion_tree.specs.Numbered.{Expansion}
use Rattle.expansion_terms.specs.MadeTerms.{HasWholeGraphs}
use Rattle.expansion_terms.specs.Stored.{AreStored}
use Rattle.table_terms.proofs.SoundCharts.{whole_chart}
use Rattle.table_terms.proofs.StoredCharts.{chart_stored}
use Rattle.table_terms.proofs.chart.chart_of.Goals as goal

pub judged_term_of-requires-clause-stored : goal.judged_term_of-requires-clause-stored
judged_term_of-requires-clause-stored c = subst (λ (x : Expansion). AreStored (events_in x)) (sym c.in_ok-expansion.ensures.expansion) (chart_stored (table_view c.args.charts.now) c.args.name.now c.requires.room)

pub judged_term_of-requires-clause-whole : goal.judged_term_of-requires-clause-whole
judged_term_of-requires-clause-whole c = subst HasWholeGraphs (sym c.in_ok-expansion.ensures.expansion) (whole_chart (table_view c.args.charts.now) c.args.name.now c.walks_are_drawn.ensures c.requires.graphs)
