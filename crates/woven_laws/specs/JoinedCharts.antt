-- What is known of the joins of a basic chart, as it is woven and as it is gathered.
use Rattle.std.specs.Prelude.{◌≡◌, ◌≤◌, ℕ, false, List}
use Rattle.chart_forms.specs.TiedTexts.{is_tied_text}
use Rattle.chart_links.specs.Links.{chart_links}
use Rattle.chart_text.specs.Texts.{chart_text}
use Rattle.gate_ends.specs.FoundEnds.{GateEvents, event_count, level_inner, level_names}
use Rattle.gate_ends.specs.JoinCounts.{levels_count, reference_count}
use Rattle.level_gathering.specs.Gathered.{IsGatheredLevel}
use Rattle.msc_base.specs.Lists.{IsAmong}
use Rattle.msc_instances.specs.Instances.{instances}
use Rattle.msc_meaning.specs.Bodies.{Body}
use Rattle.msc_meaning.specs.BodyLevels.{body_levels}
use Rattle.msc_meaning.specs.Levels.{IsWovenLevel}
use Rattle.msc_meaning.specs.Pieces.{Piece, statements_pieces}
use Rattle.msc_tree.specs.Charts.{Basic, Chart}
use Rattle.msc_tree.specs.Statements.{Reference, Statement, statements}
use Rattle.woven_laws.specs.BuiltCharts.{IsLinked}
use Rattle.woven_laws.specs.JoinSums.{level_joins}

abbrev pub Inner : Type 0
Inner = List ℕ → List ℕ → GateEvents

-- the gates of the charts that are named have no more inner events by the first
abbrev pub IsFewer : Inner → Inner → Type 0
IsFewer few many = (name g : List ℕ) → event_count (few name g) ≤ event_count (many name g)

-- a level as it is woven has no more inner events than as it is gathered, and its joins add no more; nothing, where no join of the text ties
-- two gates; and the charts that are named by what a chart is gathered to are those of the text's links
pub record GatheredChartsAreKnown : Type 0 where
  pub counted : (few many : Inner) (cover : List (List ℕ)) (ps : List Piece) (b other : Body) (references : List (List Reference)) → IsFewer few many → IsWovenLevel cover ps b → IsGatheredLevel cover ps other references
      → (g : List ℕ) → event_count (level_inner few b g) ≤ event_count (level_inner many other g)
  pub joined : (few many : Inner) (cover : List (List ℕ)) (ps : List Piece) (b other : Body) (references : List (List Reference)) → IsFewer few many → IsWovenLevel cover ps b → IsGatheredLevel cover ps other references
      → level_joins (reference_count few) b ≤ levels_count many (body_levels other) references
  pub untied : (c : Chart) (held : List Statement) (b : Body) (inner : Inner) → c.content ≡ Basic held → is_tied_text (chart_text c) ≡ false → IsWovenLevel (instances c) (statements_pieces (instances c) 0 (statements held)) b
      → level_joins (reference_count inner) b ≡ 0
  pub named : (c : Chart) (held : List Statement) (b : Body) (references : List (List Reference)) → c.content ≡ Basic held → IsGatheredLevel (instances c) (statements_pieces (instances c) 0 (statements held)) b references
      → (name : List ℕ) → IsAmong (level_names b) name → IsLinked (chart_links c) name
