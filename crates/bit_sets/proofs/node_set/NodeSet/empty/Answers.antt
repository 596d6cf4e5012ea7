use Rattle.std.proofs.Common.{◌/◌, ◌+◌, ◌≡◌, List, ℕ, subst, replicate, rules}
use Rattle.msc_base.specs.Lists.{IsIn}
use Rattle.bit_sets.specs.NodeSets.{numbers_in}
use Rattle.bit_sets.proofs.NodeSetFacts.{no_numbers}
use Rattle.bit_sets.proofs.node_set.NodeSet.empty.Goals as goal

pub returns-clause-empty : goal.returns-clause-empty
returns-clause-empty c =
    let words : c.resize.new.self.items ≡ replicate (c.args.size / 64 + 1) 0 = search rules in
    λ n h. no_numbers c.args.size (c.args.size / 64 + 1) n (subst (λ (l : List ℕ). IsIn n (numbers_in c.args.size l)) words h)
