use Rattle.term_laws.specs.Placing.{HaveOnePlace}
use Rattle.term_permission.specs.Ready.{IsReady}
use Rattle.term_bench.proofs.steps.steps.Given as goal

abbrev pub invariant-loop-taken : goal.invariant-loop-taken
invariant-loop-taken l = record {
  ready : IsReady l.nets.tables l.here;
  placed : HaveOnePlace l.nets.tables l.here;
}
