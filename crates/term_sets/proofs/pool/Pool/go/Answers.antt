use Rattle.std.proofs.Common.{◌<◌, List, length, sym, subst}
use Rattle.term_sets.specs.declared.bounds.Bounds.{Bounds}
use Rattle.term_sets.specs.declared.memory.Move.{Move}
use Rattle.term_sets.proofs.Pooling.{kept_holds, kept_serves}
use Rattle.term_sets.proofs.Going.{on_err, went_holds, went_serves, entered_there, entered_holds, entered_serves}
use Rattle.term_sets.proofs.pool.Pool.go.Goals as goal

pub returns-in_err-next-clause-serves : goal.returns-in_err-next-clause-serves
returns-in_err-next-clause-serves c = λ v h s a. kept_serves v c.args.self.now c.keep.new.self c.args.set c.keep.ensures.keeps s h

pub returns-in_err-next-clause-err : goal.returns-in_err-next-clause-err
returns-in_err-next-clause-err c = on_err _ c.from_residual.result (kept_holds c.args.self.now c.keep.new.self c.args.set c.keep.ensures.keeps)

pub note-requires : goal.note-requires
note-requires c =
    let k = c.keep.ensures.keeps in
    subst (λ (ms : List Move). length ms < c.keep.new.self.memory.bounds.rows) (sym k.moves) (subst (λ (b : Bounds). length c.args.self.now.memory.moves < b.rows) (sym k.bounds) c.requires.few_moves)

pub returns-in_err-note-clause-serves : goal.returns-in_err-note-clause-serves
returns-in_err-note-clause-serves c = λ v h s a. went_serves c.args.self.now c.keep.new.self c.note.new.self c.args.label c.args.set c.in_ok-next.next
    c.keep.ensures.keeps c.in_ok-next.ensures.there.0 c.in_ok-next.ensures.there.1 c.note.ensures v h s a

pub returns-in_err-note-clause-err : goal.returns-in_err-note-clause-err
returns-in_err-note-clause-err c = on_err _ c.from_residual-in_err-note.result (went_holds c.args.self.now c.keep.new.self c.note.new.self c.args.label c.args.set c.in_ok-next.next
    c.keep.ensures.keeps c.in_ok-next.ensures.there.0 c.in_ok-next.ensures.there.1 c.note.ensures)

pub enter-requires : goal.enter-requires
enter-requires c = entered_there c.args.self.now c.keep.new.self c.note.new.self c.args.label c.args.set c.in_ok-next.next
    c.keep.ensures.keeps c.in_ok-next.ensures.there.0 c.in_ok-next.ensures.there.1 c.note.ensures

pub returns-clause-serves : goal.returns-clause-serves
returns-clause-serves c = λ v h s a. entered_serves c.args.self.now c.keep.new.self c.note.new.self c.args.label c.args.set c.in_ok-next.next
    c.keep.ensures.keeps c.in_ok-next.ensures.there.0 c.in_ok-next.ensures.there.1 c.note.ensures c.enter.new.self c.enter.ensures v h s a

pub returns-clause-ok : goal.returns-clause-ok
returns-clause-ok c = entered_holds c.args.self.now c.keep.new.self c.note.new.self c.args.label c.args.set c.in_ok-next.next
    c.keep.ensures.keeps c.in_ok-next.ensures.there.0 c.in_ok-next.ensures.there.1 c.note.ensures c.enter.new.self c.enter.ensures
