use Rattle.std.proofs.Common.{◌≡◌, Some, arith, get_or, slice_get, take}
use Rattle.std.proofs.lemmas.Option.{slice_get-get_or}
use Rattle.log_ways.proofs.Trailing.{from_is, history_step, is_cut_off, number_at}
use Rattle.log_ways.proofs.history.history_of.Goals as goal

pub go_on-requires-clause-labelled : goal.go_on-requires-clause-labelled
go_on-requires-clause-labelled c =
    number_at c.args.nets.now c.args.numbers.now c.loop-index.index (get_or c.args.numbers.now c.loop-index.index 0) c.requires.labelled (slice_get-get_or c.args.numbers.now c.loop-index.index 0 (omega arith))

pub returns-then-not-branch : goal.returns-then-not-branch
returns-then-not-branch c =
    let at : slice_get c.args.numbers.now c.loop-index.index ≡ Some (get_or c.args.numbers.now c.loop-index.index 0) = slice_get-get_or c.args.numbers.now c.loop-index.index 0 (omega arith) in
    is_cut_off c.args.nets.now c.args.budget c.args.term.now c.args.numbers.now c.loop-index.index (get_or c.args.numbers.now c.loop-index.index 0) c.loop-index.history c.index-from.result.now c.loop-index.invariant at
    (from_is c.args.nets.now c.args.budget c.args.term.now c.args.numbers.now c.loop-index.index c.loop-index.history c.index-from.result.now c.loop-index.invariant (omega arith) c.index-from.ensures) (c.in_ok-go_on.ensures.no c.if-not-branch.true)

pub loop-index-preserved : goal.loop-index-preserved
loop-index-preserved c =
    let at : slice_get c.args.numbers.now c.loop-index.index ≡ Some (get_or c.args.numbers.now c.loop-index.index 0) = slice_get-get_or c.args.numbers.now c.loop-index.index 0 (omega arith) in
    history_step c.args.nets.now c.args.budget c.args.term.now c.args.numbers.now c.loop-index.index (get_or c.args.numbers.now c.loop-index.index 0) c.go_on.new.history at
    (c.in_ok-go_on.ensures.yes c.args.term.now (take c.loop-index.index c.args.numbers.now) c.loop-index.invariant
    (from_is c.args.nets.now c.args.budget c.args.term.now c.args.numbers.now c.loop-index.index c.loop-index.history c.index-from.result.now c.loop-index.invariant (omega arith) c.index-from.ensures) c.if-not-branch.false)
