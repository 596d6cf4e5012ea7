use Rattle.std.proofs.Common.{refl}
use Rattle.term_sets.specs.Subsets.{side_by_side}
use Rattle.term_sets.proofs.Holding.{told_ends, told_none}
use Rattle.term_sets.proofs.subsets.Subsets.may_end.Goals as goal

pub returns-then-self-eq0 : goal.returns-then-self-eq0
returns-then-self-eq0 c = λ w. told_ends w (side_by_side c.self.inside.whole) c.self.inside.size c.self.inside.words.items c.args.self.now c.self.invariant.1 c.self.view_is _ c.is_empty.result c.self.inside.words.ok.0 c.is_empty.ensures c.if-self-eq0.true

pub returns-else-self-eq0 : goal.returns-else-self-eq0
returns-else-self-eq0 c = λ w. told_none w (side_by_side c.self.inside.whole) c.self.inside.size c.self.inside.words.items c.args.self.now c.self.invariant.1 c.self.view_is _ refl c.if-self-eq0.false
