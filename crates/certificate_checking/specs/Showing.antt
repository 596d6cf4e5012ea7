-- Serves private contracts alone.
-- What lines show, of one term or of several: the pattern as signs.
use Rattle.std.specs.Prelude.{ℕ, ◌≡◌, List, ◌++◌}
use Rattle.msc_base.specs.Patterns.{Mode}
use Rattle.hmsc_graph.specs.Graphs.{Spot}
use Rattle.chart_term.specs.TermMeanings.{NetTerms}
use Rattle.chart_term.specs.Terms.{Tree}
use Rattle.certificates.specs.Certificates.{Certificate, Certificates, Stops, count, PlacedShape, Shows, ShowsParts, ShowsTurns, ShowsNodes}
use Rattle.certificates.specs.Lines.{Line, lines, lines_of_all, lines_of_stops, stop_count}
use Rattle.pattern_marks.specs.Marks.{Sign, signs}

-- the lines of a certificate of the term
pub record IsShown (w : NetTerms) (x : Tree) (ls : List Line) (ms : List Sign) : Type 0 where
  pub certificate : Certificate
  pub pattern : PlacedShape
  pub shows : Shows w x certificate pattern
  pub written : ls ≡ lines certificate
  pub told : ms ≡ signs pattern

-- those of certificates of terms, in a row or side by side
pub record AreShown (w : NetTerms) (m : Mode) (xs : List Tree) (ls : List Line) (ms : List Sign) : Type 0 where
  pub certificates : Certificates
  pub pattern : PlacedShape
  pub shows : ShowsParts w m xs certificates pattern
  pub written : ls ≡ lines_of_all certificates
  pub told : ms ≡ signs pattern

-- those of so many turns of the term
pub record AreTurnsShown (w : NetTerms) (x : Tree) (n : ℕ) (ls : List Line) (ms : List Sign) : Type 0 where
  pub certificates : Certificates
  pub pattern : PlacedShape
  pub shows : ShowsTurns w x certificates pattern
  pub many : count certificates ≡ n
  pub written : ls ≡ lines_of_all certificates
  pub told : ms ≡ signs pattern

-- those of so many stops of a walk, from the spot on
pub record AreStopsShown (w : NetTerms) (net : ℕ) (f : Spot) (n : ℕ) (ls : List Line) (ms : List Sign) : Type 0 where
  pub stops : Stops
  pub pattern : PlacedShape
  pub shows : ShowsNodes w net f stops pattern
  pub many : stop_count stops ≡ n
  pub written : ls ≡ lines_of_stops stops
  pub told : ms ≡ signs pattern

-- the lines and signs of the one, and then those of the other
pub record Splits (P Q : List Line → List Sign → Type 0) (ls : List Line) (ms : List Sign) : Type 0 where
  pub front_lines : List Line
  pub front_signs : List Sign
  pub back_lines : List Line
  pub back_signs : List Sign
  pub front : P front_lines front_signs
  pub back : Q back_lines back_signs
  pub written : ls ≡ front_lines ++ back_lines
  pub told : ms ≡ front_signs ++ back_signs
