use Rattle.std.proofs.Common.{ap, sym, ◌∙◌}
use Rattle.std.proofs.lemmas.Bool.{true≢false}
use Rattle.label_table.specs.Labels.{label_number}
use Rattle.next_labels.proofs.FoundLabels.{found_more, found_same}
use Rattle.next_labels.proofs.listing.add_label.Goals as goal

pub returns-then-not-has : goal.returns-then-not-has
returns-then-not-has c =
    found_same c.args.nets.now c.args.set.now c.args.number c.args.found.now.keys (λ a is goes. true≢false (sym (c.has.ensures.has.1 ((c.requires.marks.exact a c.args.number is).from goes)) ∙ c.if-not-has.true)) c.requires.found

pub returns : goal.returns
returns c =
    let key = c.new.result in
    let is = ap (label_number c.args.nets.now.labels) (c.new.ensures ∙ c.in_ok-label.ensures) ∙ c.label_at.ensures.number in
    found_more c.args.nets.now c.args.set.now c.args.number key c.args.found.now.keys c.insert.new.self.keys is ((c.requires.marks.exact key c.args.number is).to (c.has.ensures.has.0 c.if-not-has.false)) c.in_ok-insert.ensures.ordered c.in_ok-insert.ensures.updates.0 c.requires.found
