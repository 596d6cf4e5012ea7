use Rattle.std.proofs.Common.{◌≡◌, ◌∙◌, ℕ, Option, List, map, sym, subst, ap}
use Rattle.std.specs.Borrow.{Bor}
use Rattle.chart_links.specs.Summaries.{Summary, summary_of}
use Rattle.chart_links.specs.declared.tables.LinkTables.{LinkTables}
use Rattle.msc_meaning.specs.Tables.{ChartEntry}
use Rattle.msc_meaning.specs.Views.{table_view}
use Rattle.msc_meaning.specs.declared.body.ChartEntry as code
use Rattle.msc_acceptance.specs.RefinedTexts.{AreKnownLinks}
use Rattle.msc_acceptance.proofs.RefinementPlaces.{none_placed, summary_names, view_names}
use Rattle.msc_acceptance.proofs.refinements.places_of.Goals as goal

pub returns-in-None : goal.returns-in-None
returns-in-None c = λ charts are known. none_placed charts (table_view c.args.entries.now) are (subst (λ (o : Option (Bor LinkTables)). AreKnownLinks charts o) c.in-None.is known)

pub returns-in_ok-places-in-Some : goal.returns-in_ok-places-in-Some
returns-in_ok-places-in-Some c = λ charts are known.
    let tables = subst (λ (o : Option (Bor LinkTables)). AreKnownLinks charts o) c.in-Some.is known in
    let named : map (λ (s : Summary). s.name) (map summary_of charts) ≡ c.args.names.now = summary_names charts (table_view c.args.entries.now) are ∙ view_names c.args.entries.now ∙ sym c.requires in
    let told = c.in_ok-places-in-Some.ensures in
    record {
      mismatch = told.mismatch (map summary_of charts) named tables;
      shared = told.shared (map summary_of charts) named tables;
      inside = told.inside (map summary_of charts) named tables;
      local = told.local (map summary_of charts) named tables;
    }
