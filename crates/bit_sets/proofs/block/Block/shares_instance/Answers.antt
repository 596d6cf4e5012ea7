use Rattle.std.proofs.Common.{ap₂, ◌∙◌}
use Rattle.bit_sets.specs.Blocks.{BlockValue, share}
use Rattle.bit_sets.specs.Stores.{words_of}
use Rattle.bit_sets.proofs.SetFacts.{shares}
use Rattle.bit_sets.proofs.block.Block.shares_instance.Goals as goal

pub returns : goal.returns
returns c =
    shares (words_of c.self.inside.sets) (words_of c.other.inside.sets) c.shares.result c.self.invariant.few c.other.invariant.few c.shares.ensures
    ∙ ap₂ (λ (a b : BlockValue). share a.instances b.instances) c.self.view_is c.other.view_is
