use Rattle.std.proofs.Common.{◌≡◌, take}
use Rattle.choice_parts.proofs.copies.copied_labels.Given as goal

abbrev pub invariant-loop-label : goal.invariant-loop-label
invariant-loop-label l = l.copied ≡ take l.label-index l.labels
