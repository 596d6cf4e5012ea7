use Rattle.std.proofs.Common.{rules}
use Rattle.std.proofs.lemmas.List.Sorted.{IsNonDecreasingBy-from_sort_by_key}
use Rattle.column_order.specs.declared.edge.Edge.{Edge}
use Rattle.level_weaving.proofs.pairing.sort_pairs.Goals as goal

pub returns-clause-sorted : goal.returns-clause-sorted
returns-clause-sorted c = IsNonDecreasingBy-from_sort_by_key (λ (e : Edge). e.from) _ c.in_ok-sort_by_key.ensures.sorted (λ a r q k. search rules)
