use Rattle.std.proofs.Common.{◌≡◌, ◌+◌, ◌*◌, take, true}
use Rattle.chart_term.specs.Rows.{part_of}
use Rattle.chart_term.specs.Sizes.{nodes, part_nodes, parts_nodes}
use Rattle.chart_term.specs.Terms.{row_of}
use Rattle.term_tables.specs.Fitting.{fits_row}
use Rattle.term_tables.proofs.fits.+fits.Given as goal

abbrev pub decreases-term_fits : goal.decreases-term_fits
decreases-term_fits l = 2 * nodes l.term.now

abbrev pub decreases-row_fits : goal.decreases-row_fits
decreases-row_fits l = 2 * parts_nodes l.row.now

abbrev pub decreases-part_fits : goal.decreases-part_fits
decreases-part_fits l = 2 * part_nodes (part_of l.part.now) + 1

abbrev pub invariant-row_fits-loop-index : goal.invariant-row_fits-loop-index
invariant-row_fits-loop-index l = fits_row l.nets (row_of (take l.index l.row)) ≡ true
