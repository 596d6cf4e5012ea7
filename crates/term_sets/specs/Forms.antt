-- Serves private contracts alone.
-- The terms that a set holds, in one way or the other.
use Rattle.std.specs.Prelude.{List}
use Rattle.chart_term.specs.Terms.{Tree}
use Rattle.term_sets.specs.declared.term_set.Form.{Form}
use Rattle.term_sets.specs.declared.term_set.Form.TheVariants as form

abbrev pub held : Form → List Tree
held (form.Listed terms) = terms
held (form.Subsets terms) = terms
