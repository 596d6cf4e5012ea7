use Rattle.std.proofs.Common.{refl}
use Rattle.expanded_charts.proofs.Making.{none_made}
use Rattle.expanded_charts.proofs.parts.no_parts.Goals as goal

pub returns : goal.returns
returns c = λ s. none_made s (record { parts = c.new.result; own = c.new-2.result; gates = c.new-3.result; next = c.args.next }) c.new.ensures.items c.new-2.ensures c.new-3.ensures.items c.args.next refl
