use Rattle.std.proofs.Common.{◌≡◌, ◌++◌, drop}
use Rattle.msc_tree.specs.Labels.{with_commas}
use Rattle.msc_tree.proofs.labelling.push_items.Given as goal

abbrev pub invariant-loop-item : goal.invariant-loop-item
invariant-loop-item l = l.text.items ++ with_commas (drop l.item-index l.items) ≡ l.fn.text.items ++ with_commas l.items
