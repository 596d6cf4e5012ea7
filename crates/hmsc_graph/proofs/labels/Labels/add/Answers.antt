use Rattle.std.proofs.Common.{◌≡◌, ◌∙◌, sym, ap, subst, true, false, List, ℕ, OnOk}
use Rattle.std.specs.List.{position}
use Rattle.std.specs.Option.{is_some}
use Rattle.std.specs.Str.{bytes_eq}
use Rattle.msc_base.specs.NameTables.{with_name}
use Rattle.hmsc_graph.proofs.LabelFacts.{is_some-position, known_line, new_line_ok}
use Rattle.hmsc_graph.proofs.labels.Labels.add.Goals as goal

pub returns-then-is_some : goal.returns-then-is_some
returns-then-is_some c =
    let label = c.args.line.now.label in
    let some : true ≡ is_some (position (bytes_eq label) c.args.self.now.table) = rw (← c.bytes-label.ensures.bytes) (c.if-is_some.ensures ∙ ap is_some c.number_of.ensures) in
    known_line c.args.self.now c.args.line.now c.earlier_place-self.result (sym (some ∙ is_some-position (bytes_eq label) c.args.self.now.table)) c.earlier_place-self.ensures

pub returns : goal.returns
returns c =
    let label = c.args.line.now.label in
    let none : false ≡ is_some (position (bytes_eq label) c.args.self.now.table) = rw (← c.bytes-label.ensures.bytes) (c.if-is_some.ensures ∙ ap is_some c.number_of.ensures) in
    new_line_ok c.args.self.now c.args.line.now c.add.new.self c.add.result (sym (none ∙ is_some-position (bytes_eq label) c.args.self.now.table))
    (subst (λ (n : List ℕ). OnOk c.add.result (c.add.new.self ≡ with_name c.args.self.now.table n)) c.bytes-label.ensures.bytes c.add.ensures.ok)
