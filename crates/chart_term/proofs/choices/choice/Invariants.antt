use Rattle.std.proofs.Common.{◌≡◌, ◌≤◌, length, take}
use Rattle.chart_term.specs.NormalForms.{open_choices}
use Rattle.chart_term.proofs.choices.choice.Given as goal

abbrev pub invariant-loop-item : goal.invariant-loop-item
invariant-loop-item l = record {
  opened : l.opened ≡ open_choices (take l.item-index l.item-items);
  long : l.item-index ≤ length l.opened;
}
