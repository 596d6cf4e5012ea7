use Rattle.table_terms.proofs.TableLaws.{table_terms_are_sound}
use Rattle.table_terms.proofs.laws.table_terms_are_sound.Goals as goal

pub returns : goal.returns
returns c = table_terms_are_sound c.walks_are_drawn.ensures c.nodes_are_ranked.ensures c.ends_are_found.ensures c.made_terms_are_sound.ensures
