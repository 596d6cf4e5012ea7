use Rattle.std.proofs.Common.{◌≤◌, drop, length}
use Rattle.chart_term.specs.Tables.{terms_over}
use Rattle.certificate_texts.specs.Texts.{lines_of}
use Rattle.certificate_checking.proofs.Ending.{IsRead}
use Rattle.certificate_checking.proofs.reading.marks_of.Given as goal

abbrev pub invariant-loop : goal.invariant-loop
invariant-loop l = record {
  read : l.reading.read ≤ length l.lines;
  is : IsRead (terms_over l.nets.tables) l.outline.terms (lines_of l.lines) l.reading.marks.items l.reading.tasks.items (drop l.reading.read (lines_of l.lines));
}
