-- A pool that serves tables.
use Rattle.term_tables.specs.NetValues.{NetsValue}
use Rattle.trace_judge.specs.Sets.{IsServing}
use Rattle.term_sets.specs.Memories.{PoolValue, held_set, IsPoolFor}

pub pool_serving : (p : PoolValue) (v : NetsValue) → IsPoolFor v p → IsServing v (held_set p)
pool_serving p v h = record { sound = h.held.sound; rising = h.held.rising; within = h.held.within; most = h.most }
