-- Serves private contracts alone.
-- The charts that gathered ones name.
use Rattle.std.specs.Prelude.{◌≡◌, ℕ, List, map}
use Rattle.chart_links.specs.Links.{Link, chart_links, linked}
use Rattle.gate_ends.specs.FoundEnds.{level_names}
use Rattle.level_gathering.specs.Gathered.{IsGatheredLevel}
use Rattle.msc_base.specs.Lists.{IsAmong}
use Rattle.msc_instances.specs.Instances.{instances}
use Rattle.msc_meaning.specs.Bodies.{Body}
use Rattle.msc_meaning.specs.Pieces.{statements_pieces}
use Rattle.msc_meaning.specs.declared.body.ChartEntry.{ChartEntry}
use Rattle.msc_tree.specs.Charts.{Basic, Chart}
use Rattle.msc_tree.specs.Statements.{Reference, Statement, statements}

-- each name of what a basic chart is gathered to is that of a link of its text
abbrev pub NamesAreLinked : Type 0
NamesAreLinked = (c : Chart) (held : List Statement) (b : Body) (references : List (List Reference)) → c.content ≡ Basic held → IsGatheredLevel (instances c) (statements_pieces (instances c) 0 (statements held)) b references
    → (name : List ℕ) → IsAmong (level_names b) name → (link : Link) × IsAmong (chart_links c) link × (linked link ≡ name)

abbrev pub names_of : List ChartEntry → List (List ℕ)
names_of charts = map (λ (c : ChartEntry). c.name) charts
