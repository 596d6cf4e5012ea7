use Rattle.std.proofs.Common.{◌≡◌, ◌<◌, ◌++◌, ℕ, [], take, drop, get_or}
use Rattle.std.specs.Vec.{vec_len}
use Rattle.column_order.specs.Pairing.{count, pairs_behind}
use Rattle.column_order.proofs.pairing.pair_up.Given as goal

abbrev pub invariant-loop-end : goal.invariant-loop-end
invariant-loop-end l = record {
  pairs : l.pairs.items ++ pairs_behind (take l.end-index l.outs) (drop l.end-index l.outs) l.ins ≡ pairs_behind [] l.outs l.ins;
  len : vec_len l.taken ≡ l.classes;
  taken : (c : ℕ) → c < l.classes → get_or l.taken.items c 0 ≡ count c (take l.end-index l.outs);
}
