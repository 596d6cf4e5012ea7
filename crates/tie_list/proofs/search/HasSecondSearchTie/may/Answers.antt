use Rattle.std.proofs.Common.{sym, ◌∙◌}
use Rattle.tie_list.proofs.Within.{no_second}
use Rattle.tie_list.proofs.search.HasSecondSearchTie.may.Goals as goal

pub returns : goal.returns
returns c xs are lacks = no_second c.args.self.now.number xs c.args.facts.now (sym c.lies_in.ensures ∙ lacks) are
