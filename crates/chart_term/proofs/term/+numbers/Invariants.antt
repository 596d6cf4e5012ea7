use Rattle.std.proofs.Common.{◌≡◌, ◌+◌, ◌*◌, ◌≤◌, false, take}
use Rattle.chart_term.specs.NormalForms.{numbers, numbers_row}
use Rattle.chart_term.specs.Rows.{parts_of}
use Rattle.chart_term.specs.Sizes.{nodes, parts_nodes}
use Rattle.chart_term.specs.Terms.{has, row_of}
use Rattle.chart_term.proofs.term.+numbers.Given as goal

abbrev pub decreases-Term::has_number : goal.decreases-Term::has_number
decreases-Term::has_number l = goal.size-Term::has_number l * 2 + 1

abbrev pub decreases-Term::seek : goal.decreases-Term::seek
decreases-Term::seek l = goal.size-Term::seek l * 2

abbrev pub decreases-RowPart::has_number : goal.decreases-RowPart::has_number
decreases-RowPart::has_number l = goal.size-RowPart::has_number l * 2

abbrev pub decreases-numbers::seek_in : goal.decreases-numbers::seek_in
decreases-numbers::seek_in l = parts_nodes (parts_of l.parts.now) * 12 + 4

abbrev pub decreases-PartList::has_number : goal.decreases-PartList::has_number
decreases-PartList::has_number l = goal.size-PartList::has_number l * 2 + 1

abbrev pub decreases-PartList::seek : goal.decreases-PartList::seek
decreases-PartList::seek l = goal.size-PartList::seek l * 2

abbrev pub invariant-Term::has_number-loop-has : goal.invariant-Term::has_number-loop-has
invariant-Term::has_number-loop-has l = record {
  same : has (numbers l.term) l.number ≡ has (numbers l.self) l.number;
  within : nodes l.term ≤ nodes l.self;
}

abbrev pub decreases-Term::has_number-loop-has : goal.decreases-Term::has_number-loop-has
decreases-Term::has_number-loop-has l = nodes l.term

abbrev pub invariant-numbers::seek_in-loop-part : goal.invariant-numbers::seek_in-loop-part
invariant-numbers::seek_in-loop-part l = has (numbers_row (row_of (parts_of (take l.part-index l.fronts)))) l.number ≡ false
