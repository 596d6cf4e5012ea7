use Rattle.std.proofs.Common.{ap₂, ◌∙◌, ℕ, ◌*◌, min, map, subst}
use Rattle.msc_base.specs.Stored.{most_stored}
use Rattle.term_sets.specs.Subsets.{side_by_side, spelled}
use Rattle.term_successors.specs.Successors.{AreRising}
use Rattle.term_sets.proofs.Ordering.{in_order_rises}
use Rattle.term_sets.proofs.Holding.{held_weighs}
use Rattle.term_sets.proofs.subsets.Subsets.weight.Goals as goal

pub returns-clause-rising : goal.returns-clause-rising
returns-clause-rising c = subst AreRising c.self.view_is (in_order_rises (map (spelled (side_by_side c.self.inside.whole)) c.self.inside.words.items))

pub returns-clause-weight : goal.returns-clause-weight
returns-clause-weight c = held_weighs (side_by_side c.self.inside.whole) c.self.inside.size c.self.inside.words.items c.args.self.now c.saturating_mul.result c.self.invariant.1 c.self.view_is c.requires
    (c.saturating_mul.ensures ∙ ap₂ (λ (n u : ℕ). min (n * u) most_stored) (c.len.ensures ∙ c.self.inside.words.ok.0) c.weight_of.ensures)
