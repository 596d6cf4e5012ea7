-- The plain passages that those of the code stand for.
use Rattle.msc_tree.specs.Views.{form_view, operand_view, statement_view}
use Rattle.std.specs.Prelude.{List, [], ◌∷◌, map}
use Rattle.chart_text.specs.declared.passage.Passage.{Passage}
use Rattle.chart_text.specs.declared.passage.Passage.TheVariants as passage
use Rattle.chart_text.specs.declared.passage.Scope.{Scope}
use Rattle.chart_text.specs.declared.passage.Scope.TheVariants as scope
use Rattle.chart_text.specs.declared.passage.Side.{Side}
use Rattle.chart_text.specs.declared.passage.Side.TheVariants as side
use Rattle.chart_text.specs.declared.passage.Standing.{Standing}
use Rattle.chart_text.specs.Texts as plain

abbrev pub scope_view : Scope → plain.Scope
scope_view scope.Whole = plain.Whole
scope_view (scope.Column name) = plain.Within (name.now ∷ [])
scope_view (scope.Listed names) = plain.Within names.now

abbrev pub side_view : Side → plain.Side
side_view (side.InColumn name) = plain.in_column name.now
side_view (side.Behind names) = plain.behind names.now
side_view (side.BehindAll held) = plain.behind_all (scope_view held)

abbrev pub standing_view : Standing → plain.Standing
standing_view s = record { depth = s.depth; side = side_view s.side; scope = scope_view s.scope }

abbrev pub passage_view : Passage → plain.Passage
passage_view (passage.Head decl) = plain.a_head decl.now
passage_view (passage.Statement depth scope statement) = plain.a_statement depth (scope_view scope) (statement_view statement.now)
passage_view (passage.Item standing item) = plain.an_item (standing_view standing) item.now.place (form_view item.now.form)
passage_view (passage.Operand standing operand) = plain.an_operand (standing_view standing) (operand_view operand.now)

-- a list of them
abbrev pub text_view : List Passage → List plain.Passage
text_view text = map passage_view text
