use Rattle.std.proofs.Common.{inl, inr}
use Rattle.expansion_tree.specs.Views.{expansion_view}
use Rattle.expansion_order.proofs.Ranking.{can_rank, no_ranks}
use Rattle.expansion_order.proofs.ordering.is_cyclic.Goals as goal

pub returns-then-branch-clause-cyclic : goal.returns-then-branch-clause-cyclic
returns-then-branch-clause-cyclic c = λ e k. no_ranks (expansion_view c.args.part.now) (inl (c.in_ok-has_round.ensures.cyclic c.if-branch.true)) k

pub returns-clause-cyclic : goal.returns-clause-cyclic
returns-clause-cyclic c = λ e k. no_ranks (expansion_view c.args.part.now) (inr (c.in_ok-cyclic.ensures.cyclic e)) k

pub returns-clause-ranked : goal.returns-clause-ranked
returns-clause-ranked c = λ e. can_rank (expansion_view c.args.part.now) (c.in_ok-has_round.ensures.ranked c.if-branch.false) (c.in_ok-cyclic.ensures.ranked e)
