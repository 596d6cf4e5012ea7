use Rattle.std.proofs.Common.{ℕ, ◌<◌, get_or}
use Rattle.msc_base.specs.declared.label.Pair.{Pair}
use Rattle.written_order.proofs.rising.do_rise.Given as goal

abbrev pub invariant-loop-pair : goal.invariant-loop-pair
invariant-loop-pair l = (k : ℕ) (d : Pair) → k < l.pair-index → (get_or l.pairs k d).first < (get_or l.pairs k d).second
