use Rattle.std.proofs.Common.{sym, ◌∙◌}
use Rattle.term_sets.proofs.Terms.{same_lists}
use Rattle.term_sets.proofs.term_set.are_same.Goals as goal

pub returns : goal.returns
returns c = λ t. sym c.as_slice.ensures ∙ same_lists c.as_slice.result.now c.as_slice-2.result.now (sym c.eq.ensures ∙ t) ∙ c.as_slice-2.ensures
