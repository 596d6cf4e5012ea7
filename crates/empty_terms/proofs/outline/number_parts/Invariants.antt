use Rattle.std.proofs.Common.{◌≤◌, length}
use Rattle.empty_terms.specs.Outlines.{ArePartsKnown, Grows}
use Rattle.empty_terms.proofs.outline.number_parts.Given as goal

abbrev pub invariant-loop : goal.invariant-loop
invariant-loop l = record {
  few : length l.firsts.items ≤ length l.terms;
  later : length l.fn.firsts.items ≤ length l.firsts.items;
  known : ArePartsKnown l.terms l.firsts.items;
  grows : Grows (length l.fn.firsts.items) l.fn.terms l.terms;
}
