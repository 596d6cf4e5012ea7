use Rattle.std.proofs.Common.{take}
use Rattle.expansion_order.specs.Precedence.{HasPair}
use Rattle.expansion_order.specs.Webs.{AreDrawn}
use Rattle.expansion_order.proofs.web.draw_pairs.Given as goal

abbrev pub invariant-loop-pair : goal.invariant-loop-pair
invariant-loop-pair l = AreDrawn (HasPair (take l.pair-index l.pairs)) l.fn.web l.web
