use Rattle.std.proofs.Common.{◌≡◌, fold, filter_map, take}
use Rattle.hmsc_graph.specs.Labels.{with_label, number_in}
use Rattle.hmsc_graph.proofs.labels.numbers_of.Given as goal

abbrev pub invariant-loop-label : goal.invariant-loop-label
invariant-loop-label l = record {
  numbers : l.numbers ≡ filter_map (number_in l.table) (take l.label-index l.labels);
  unknown : l.unknown ≡ fold (with_label l.table) l.initial.unknown (take l.label-index l.labels);
}
