use Rattle.std.proofs.Common.{◌≡◌, ◌∙◌, sym, ap, Some, None, ℕ, List}
use Rattle.std.specs.List.{position}
use Rattle.std.specs.Str.{bytes_eq}
use Rattle.hmsc_graph.specs.Labels.{number_in}
use Rattle.hmsc_graph.proofs.LabelFacts.{known_numbers, known_found, new_numbers, new_found}
use Rattle.hmsc_graph.proofs.labels.numbers_of.Goals as goal
use Rattle.hmsc_graph.proofs.labels.numbers_of.Goals.{in-Some+in_ok-push-in-Some, in-None}

pub loop-label-preserved : goal.loop-label-preserved
loop-label-preserved c =
    let names = c.args.table.now in
    let labels = c.args.labels.now in
    let i = c.loop-label.label-index in
    let label = c.label-item.result in
    let inv = c.loop-label.invariant in
    let number : c.number_of.result ≡ number_in names label = c.number_of.ensures ∙ ap (λ (n : List ℕ). position (bytes_eq n) names) c.bytes.ensures.bytes in
    elim c.match-number_of.branch [
      | in-Some+in_ok-push-in-Some w ↦
          let some : number_in names label ≡ Some w.in-Some.number = sym number ∙ w.in-Some.is in
          rw (w.numbers-is, w.unknown-is) record {
            numbers = w.in_ok-push-in-Some.ensures.ok ∙ known_numbers names labels i label c.loop-label-test.true c.label-item.is c.args.unknown.now c.loop-label.unknown c.loop-label.numbers inv.numbers inv.unknown w.in-Some.number some;
            unknown = known_found names labels i label c.loop-label-test.true c.label-item.is c.args.unknown.now c.loop-label.unknown c.loop-label.numbers inv.numbers inv.unknown w.in-Some.number some;
          }
      | in-None w ↦
          let none : number_in names label ≡ None = sym number ∙ w.in-None.is in
          rw (w.numbers-is, w.unknown-is) record {
            numbers = new_numbers names labels i label c.loop-label-test.true c.label-item.is c.args.unknown.now c.loop-label.unknown c.loop-label.numbers inv.numbers inv.unknown none;
            unknown = w.earlier_place.ensures ∙ new_found names labels i label c.loop-label-test.true c.label-item.is c.args.unknown.now c.loop-label.unknown c.loop-label.numbers inv.numbers inv.unknown none;
          }
    ]
