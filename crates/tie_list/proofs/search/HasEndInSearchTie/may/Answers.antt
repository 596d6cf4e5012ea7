use Rattle.std.proofs.Common.{sym, ◌∙◌, ap₂, ◌||◌}
use Rattle.tie_list.proofs.Within.{no_end_in}
use Rattle.tie_list.proofs.search.HasEndInSearchTie.may.Goals as goal

pub returns : goal.returns
returns c xs are lacks =
    no_end_in c.args.self.now.least c.args.self.now.greatest xs c.args.facts.now (sym (ap₂ (λ s t. s || t) c.overlaps-first.ensures c.overlaps-second.ensures) ∙ lacks) are
