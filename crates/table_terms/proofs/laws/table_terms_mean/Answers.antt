use Rattle.table_terms.proofs.TableLaws.{table_terms_mean}
use Rattle.table_terms.proofs.laws.table_terms_mean.Goals as goal

pub returns : goal.returns
returns c = table_terms_mean c.made_terms_agree.ensures c.expanded_terms_mean.ensures c.expansions_have_terms.ensures c.whole_charts_are_fit.ensures c.walks_are_drawn.ensures c.nodes_are_ranked.ensures c.ends_are_found.ensures c.made_terms_are_sound.ensures
