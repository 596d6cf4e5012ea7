use Rattle.chart_judge.proofs.Known.{have_terms}
use Rattle.chart_judge.proofs.laws.charts_have_terms.Goals as goal

pub returns : goal.returns
returns c = have_terms c.ends_are_found.ensures c.nets_are_whole.ensures c.walks_end.ensures c.table_terms_mean.ensures c.table_terms_are_sound.ensures c.table_terms_are_placed.ensures c.table_terms_are_light.ensures
