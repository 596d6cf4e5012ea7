use Rattle.std.proofs.Common.{◌≡◌, ◌<◌, ◌++◌, ℕ, List, length, Option, None, MatchOption, arith, rules, subst}
use Rattle.entry_reading.proofs.Consumings.{taken_more}
use Rattle.entry_reading.proofs.reading.take_more.Goals as goal

pub returns-in-None-clause-step : goal.returns-in-None-clause-step
returns-in-None-clause-step g c = λ setting h.
    let some : 0 < length c.in_ok-piece.piece.now = search (rules, arith) in
    let none : c.in_ok-take.field-0 ≡ None = search rules in
    let taken = subst (λ (o : Option g.row.C-Refusal.Denot). MatchOption o (g.C.Consumer.has_taken setting (h.bytes ++ c.in_ok-piece.piece.now) c.take.new.self) (λ refusal. (more : List ℕ) → g.C.Consumer.refuses setting ((h.bytes ++ c.in_ok-piece.piece.now) ++ more) refusal)) none
    (c.in_ok-take.ensures setting h.bytes h.taken) in
    taken_more (g.C.Consumer.has_taken setting) (g.C.Consumer.refuses setting) (g.S.Shelf.files c.read_piece.new.shelf) c.args.name.now (g.S.Shelf.rest c.read_piece.new.shelf) g.C.Consumer.most g.C.Consumer.count h.bytes c.in_ok-piece.piece.now
    c.args.consumer.now c.take.new.self (λ bs it. g.C.Consumer.counts setting bs it) some h.taken taken (c.in_ok-piece.ensures.more c.args.name.now h.bytes h.held)
