use Rattle.table_terms.proofs.TableLaws.{table_terms_are_light}
use Rattle.table_terms.proofs.laws.table_terms_are_light.Goals as goal

pub returns : goal.returns
returns c = table_terms_are_light c.made_terms_agree.ensures c.charts_are_light.ensures c.expansions_have_terms.ensures c.expansions_hold.ensures
