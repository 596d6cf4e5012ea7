use Rattle.std.proofs.Common.{◌∙◌, ◌||◌, ap, ap₂, inl, inr, sym, arith}
use Rattle.chart_term.specs.NormalForms.{numbers, numbers_row}
use Rattle.chart_term.specs.Numbers.{part_numbers}
use Rattle.chart_term.specs.Rows.{part_of}
use Rattle.chart_term.specs.Sizes.{nodes, part_nodes, parts_nodes}
use Rattle.chart_term.specs.TermViews.{held_parts}
use Rattle.chart_term.specs.Terms.{has, row_of}
use Rattle.chart_term.proofs.Numbering.{behind_fewer, front_falls, last_fewer, nodes_joined, number_behind, number_front, number_last, number_next, number_there, numbers_joined, sought_as}
use Rattle.chart_term.proofs.term.+numbers.Goals as goal

pub numbers::seek_in-has_number-requires : goal.numbers::seek_in-has_number-requires
numbers::seek_in-has_number-requires t c =
    let f = front_falls c.in-Some.fronts.now c.args.parts.now c.in-Some.last.now c.loop-part.part-index c.part-item.result c.in-Some.ensures.cases.0 c.loop-part-test.true c.part-item.is in
    (omega (arith, c.decreases, f), tt)

pub numbers::seek_in-returns-then-has_number : goal.numbers::seek_in-returns-then-has_number
numbers::seek_in-returns-then-has_number t c =
    number_front c.in-Some.fronts.now c.args.parts.now c.in-Some.last.now c.args.number c.in-Some.ensures.cases.0
    (number_there c.in-Some.fronts.now c.loop-part.part-index c.part-item.result c.args.number c.loop-part-test.true c.part-item.is (sym c.has_number.ensures ∙ c.if-has_number.true))

pub numbers::seek_in-loop-part-preserved : goal.numbers::seek_in-loop-part-preserved
numbers::seek_in-loop-part-preserved t c =
    number_next c.in-Some.fronts.now c.loop-part.part-index c.part-item.result c.args.number c.loop-part-test.true c.part-item.is
    ∙ ap₂ (λ a b. a || b) c.loop-part.invariant (sym c.has_number.ensures ∙ c.if-has_number.false)

pub numbers::seek_in-returns-in-Gap : goal.numbers::seek_in-returns-in-Gap
numbers::seek_in-returns-in-Gap t c =
    ap (λ p. has (part_numbers (part_of p)) c.args.number) (sym c.in-Gap.is)
    ∙ number_last c.in-Some.fronts.now c.args.parts.now c.loop-part.part-index c.in-Some.last.now c.args.number c.in-Some.ensures.cases.0 c.loop-part-test.false c.loop-part.invariant

pub numbers::seek_in-returns-in-Turn : goal.numbers::seek_in-returns-in-Turn
numbers::seek_in-returns-in-Turn t c = (
  ap (λ p. has (part_numbers (part_of p)) c.args.number) (sym c.in-Turn.is)
      ∙ number_last c.in-Some.fronts.now c.args.parts.now c.loop-part.part-index c.in-Some.last.now c.args.number c.in-Some.ensures.cases.0 c.loop-part-test.false c.loop-part.invariant,
  omega (arith, last_fewer c.in-Some.fronts.now c.args.parts.now c.in-Some.last.now c.in-Some.ensures.cases.0, ap (λ p. part_nodes (part_of p)) c.in-Turn.is),
)

pub PartList::seek-returns-else-has_number : goal.PartList::seek-returns-else-has_number
PartList::seek-returns-else-has_number t c =
    let held = ap held_parts (sym c.in-Fork.is) ∙ c.node.view_is ∙ c.deref-node.ensures ∙ c.self.view_is in
    sought_as (numbers_row (row_of c.in-Fork.second)) (numbers_row (row_of c.args.self.now)) c.args.number (parts_nodes c.in-Fork.second) (parts_nodes c.args.self.now) c.seek.result
    (number_behind c.in-Fork.first c.in-Fork.second c.args.number c.args.self.now held (sym c.has_number.ensures ∙ c.if-has_number.false))
    (behind_fewer c.in-Fork.first c.in-Fork.second c.args.self.now held) c.seek.ensures

pub Term::seek-returns-in-Seq : goal.Term::seek-returns-in-Seq
Term::seek-returns-in-Seq t c =
    let held = c.node.view_is ∙ c.deref-node.ensures ∙ c.self.view_is in
    sought_as (numbers_row (row_of c.in-Seq.parts)) (numbers c.args.self.now) c.args.number (parts_nodes c.in-Seq.parts) (nodes c.args.self.now) c.seek.result
    (ap (λ ns. has ns c.args.number) (numbers_joined c.node.inside.form c.in-Seq.parts c.args.self.now (inl c.in-Seq.is) held))
    (nodes_joined c.node.inside.form c.in-Seq.parts c.args.self.now (inl c.in-Seq.is) c.node.invariant.1 held) c.seek.ensures

pub Term::seek-returns-in-Par : goal.Term::seek-returns-in-Par
Term::seek-returns-in-Par t c =
    let held = c.node.view_is ∙ c.deref-node.ensures ∙ c.self.view_is in
    sought_as (numbers_row (row_of c.in-Par.parts)) (numbers c.args.self.now) c.args.number (parts_nodes c.in-Par.parts) (nodes c.args.self.now) c.seek-in-Par.result
    (ap (λ ns. has ns c.args.number) (numbers_joined c.node.inside.form c.in-Par.parts c.args.self.now (inr (inl c.in-Par.is)) held))
    (nodes_joined c.node.inside.form c.in-Par.parts c.args.self.now (inr (inl c.in-Par.is)) c.node.invariant.1 held) c.seek-in-Par.ensures

pub Term::seek-returns-in-Choice : goal.Term::seek-returns-in-Choice
Term::seek-returns-in-Choice t c =
    let held = c.node.view_is ∙ c.deref-node.ensures ∙ c.self.view_is in
    sought_as (numbers_row (row_of c.in-Choice.parts)) (numbers c.args.self.now) c.args.number (parts_nodes c.in-Choice.parts) (nodes c.args.self.now) c.seek-in-Choice.result
    (ap (λ ns. has ns c.args.number) (numbers_joined c.node.inside.form c.in-Choice.parts c.args.self.now (inr (inr c.in-Choice.is)) held))
    (nodes_joined c.node.inside.form c.in-Choice.parts c.args.self.now (inr (inr c.in-Choice.is)) c.node.invariant.1 held) c.seek-in-Choice.ensures
