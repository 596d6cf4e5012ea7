use Rattle.std.proofs.Common.{◌≡◌, ◌++◌, fold, map, filter_map, take, None}
use Rattle.std.specs.List.{flat_map}
use Rattle.hmsc_graph.specs.Labels.{with_label, number_in}
use Rattle.hmsc_graph.proofs.net.graph.Given as goal

abbrev pub invariant-loop-line : goal.invariant-loop-line
invariant-loop-line l = record {
  next : l.next.items ≡ map (λ line. filter_map (number_in l.table) line.next) (take l.line-index l.line-items);
  ends : l.ends.items ≡ map (λ line. line.ends) (take l.line-index l.line-items);
  unknown : l.unknown ≡ fold (with_label l.table) None (l.shape.starts ++ flat_map (λ line. line.next) (take l.line-index l.line-items));
}
