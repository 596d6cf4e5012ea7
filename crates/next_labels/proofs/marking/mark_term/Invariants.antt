use Rattle.std.proofs.Common.{◌≡◌, ◌∷◌, [], ℕ, length}
use Rattle.msc_base.specs.Lists.{IsIn}
use Rattle.next_labels.specs.Marks.{MarksMore}
use Rattle.next_labels.proofs.Marked.{IsBefore}
use Rattle.next_labels.proofs.marking.mark_term.Given as goal

abbrev pub invariant-loop-index : goal.invariant-loop-index
invariant-loop-index l = record {
  marks : MarksMore l.nets (l.term ∷ []) (IsBefore l.labels.items l.index) l.initial.marks l.marks;
  size : l.asked.size ≡ length l.nets.labels;
  asked : (n : ℕ) → IsIn n l.asked.nodes → IsBefore l.labels.items l.index n;
}
