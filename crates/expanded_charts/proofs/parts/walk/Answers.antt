use Rattle.std.proofs.Common.{refl}
use Rattle.expanded_charts.proofs.Making.{walk_made}
use Rattle.expanded_charts.proofs.parts.walk.Goals as goal

pub returns : goal.returns
returns c = walk_made c.args.first c.args.shape c.args.parts (record { part = _; own = c.new.result; gates = c.new-2.result; next = c.args.parts.next }) refl c.new.ensures c.new-2.ensures.items refl
