use Rattle.std.proofs.lemmas.Result.{on_ok_weaker}
use Rattle.gate_rules.proofs.TakenLaws.{both_ways}
use Rattle.gate_rules.proofs.taking.note_taken.Goals as goal

pub returns : goal.returns
returns c =
    on_ok_weaker c.note_from-2.result
    (λ noted. both_ways c.args.places.now c.note_from.new.places c.note_from-2.new.places c.args.callers.now.items c.as_slice.result.now c.reverse.new.self.items c.as_slice-2.result.now c.as_slice.ensures.value
    c.in_ok-note_from.ensures c.reverse.ensures.items c.as_slice-2.ensures.value noted)
    c.note_from-2.ensures
