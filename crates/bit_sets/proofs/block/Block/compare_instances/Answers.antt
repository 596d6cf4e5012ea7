use Rattle.std.proofs.Common.{ap₂, sym, ◌∙◌, subst}
use Rattle.bit_sets.specs.Blocks.{BlockValue, set_cmp, IsFirstDifference}
use Rattle.bit_sets.specs.Stores.{words_of}
use Rattle.bit_sets.proofs.SetFacts.{ordered_less, ordered_greater, ordered_same}
use Rattle.bit_sets.proofs.block.Block.compare_instances.Goals as goal

pub returns-then-has : goal.returns-then-has
returns-then-has c =
    ordered_less (words_of c.self.inside.sets) (words_of c.other.inside.sets) c.in-Some.at c.self.invariant.few (sym c.has.ensures ∙ c.if-has.true)
    (subst (IsFirstDifference (words_of c.self.inside.sets) (words_of c.other.inside.sets)) c.in-Some.is c.difference.ensures)
    ∙ ap₂ (λ (a b : BlockValue). set_cmp a.instances b.instances) c.self.view_is c.other.view_is

pub returns-else-has : goal.returns-else-has
returns-else-has c =
    ordered_greater (words_of c.self.inside.sets) (words_of c.other.inside.sets) c.in-Some.at c.other.invariant.few (sym c.has.ensures ∙ c.if-has.false)
    (subst (IsFirstDifference (words_of c.self.inside.sets) (words_of c.other.inside.sets)) c.in-Some.is c.difference.ensures)
    ∙ ap₂ (λ (a b : BlockValue). set_cmp a.instances b.instances) c.self.view_is c.other.view_is

pub returns-in-None : goal.returns-in-None
returns-in-None c =
    ordered_same (words_of c.self.inside.sets) (words_of c.other.inside.sets)
    (subst (IsFirstDifference (words_of c.self.inside.sets) (words_of c.other.inside.sets)) c.in-None.is c.difference.ensures)
    ∙ ap₂ (λ (a b : BlockValue). set_cmp a.instances b.instances) c.self.view_is c.other.view_is
