use Rattle.std.proofs.Common.{List, subst}
use Rattle.msc_meaning.specs.Views.{table_view}
use Rattle.msc_meaning.specs.declared.body.ChartEntry.{ChartEntry}
use Rattle.table_terms.specs.TableTerms.{IsTermOf}
use Rattle.chart_judge.proofs.term.term_of.Goals as goal

pub returns : goal.returns
returns c = subst (λ (es : List ChartEntry). IsTermOf (table_view es) c.args.name.now c.in_ok-made.made.nets c.in_ok-made.made.term) c.as_slice.ensures c.in_ok-made.ensures.term
