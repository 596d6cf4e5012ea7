use Rattle.unbegun_terms.proofs.UnbegunLaws.{terms_are_unbegun}
use Rattle.unbegun_terms.proofs.laws.terms_are_unbegun.Goals as goal

pub returns : goal.returns
returns c = terms_are_unbegun c.table_terms_are_sound.ensures
