use Rattle.std.proofs.Common.{ap}
use Rattle.term_sets.specs.Memories.{MemoryValue}
use Rattle.term_sets.proofs.Remembering.{bounded_more}
use Rattle.term_sets.proofs.memory.SetMemory.add.Goals as goal

pub invariant_of-self-2 : goal.invariant_of-self-2
invariant_of-self-2 c = bounded_more c.self.inside.bounds c.self.inside.held c.weight-weight.result c.args.self.now c.self.inside.sets.items c.push.new.self.items c.args.set c.self.inside.moves.items
    (ap (λ (m : MemoryValue). m.sets) c.self.view_is) (ap (λ (m : MemoryValue). m.bounds) c.self.view_is) c.self.invariant c.requires.light c.requires.held c.requires.few c.weight-weight.ensures c.in_ok-push.ensures.items
