use Rattle.std.proofs.Common.{◌≡◌, ◌++◌, drop, []}
use Rattle.level_pieces.specs.ItemEdges.{lead_edges}
use Rattle.level_pieces.proofs.columns.push_leads.Given as goal

abbrev pub invariant-loop-at : goal.invariant-loop-at
invariant-loop-at l = l.edges.items ++ lead_edges l.table l.seen (drop l.at-index l.leads) l.item ≡ l.initial.edges.items ++ lead_edges l.table [] l.leads l.item
