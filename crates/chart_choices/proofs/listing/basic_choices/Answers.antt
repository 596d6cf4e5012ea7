use Rattle.std.proofs.Common.{◌≡◌, ap, refl, subst}
use Rattle.msc_meaning.specs.Tables.{Table}
use Rattle.msc_meaning.specs.Views.{body_view, table_view}
use Rattle.expansion_tree.specs.Views.{expansion_view}
use Rattle.table_terms.specs.TableTerms.{chart_numbering, numbered_chart}
use Rattle.chart_choices.specs.declared.tables.TermTables.{TermTables}
use Rattle.chart_choices.proofs.JudgedCharts.{IsStart, start_at, start_judged, start_made}
use Rattle.chart_choices.proofs.listing.basic_choices.Goals as goal

pub body_choices-requires-clause-judged : goal.body_choices-requires-clause-judged
body_choices-requires-clause-judged c =
    let table = table_view c.args.accepted.now in
    let name = c.args.name.now in
    let body = body_view c.args.body.now in
    let e : table_view c.as_slice.result.now ≡ table = ap table_view c.as_slice.ensures in
    let n = c.in_ok-expanded.expanded.numbering in
    let y = expansion_view c.in_ok-expanded.expanded.expansion in
    let is : n ≡ chart_numbering table name = subst (λ (t : Table). n ≡ chart_numbering t name) e c.in_ok-expanded.ensures.numbering in
    let made : y ≡ numbered_chart table name = subst (λ (t : Table). y ≡ numbered_chart t name) e c.in_ok-expanded.ensures.expansion in
    let s : TermTables = record { names = n.names; nets = c.of_labels.result } in
    let start : IsStart table c.args.decls.now body s y = start_at c.charts_have_terms.ensures c.ends_are_found.ensures c.choices_have_parts.ensures table name c.requires.accepted c.args.decls.now body c.requires.basic n s y is refl c.of_labels.ensures made in
    start_judged table c.args.decls.now body s y start

pub body_choices-requires-clause-ready : goal.body_choices-requires-clause-ready
body_choices-requires-clause-ready c =
    let table = table_view c.args.accepted.now in
    let name = c.args.name.now in
    let body = body_view c.args.body.now in
    let e : table_view c.as_slice.result.now ≡ table = ap table_view c.as_slice.ensures in
    let n = c.in_ok-expanded.expanded.numbering in
    let y = expansion_view c.in_ok-expanded.expanded.expansion in
    let is : n ≡ chart_numbering table name = subst (λ (t : Table). n ≡ chart_numbering t name) e c.in_ok-expanded.ensures.numbering in
    let made : y ≡ numbered_chart table name = subst (λ (t : Table). y ≡ numbered_chart t name) e c.in_ok-expanded.ensures.expansion in
    let s : TermTables = record { names = n.names; nets = c.of_labels.result } in
    let start : IsStart table c.args.decls.now body s y = start_at c.charts_have_terms.ensures c.ends_are_found.ensures c.choices_have_parts.ensures table name c.requires.accepted c.args.decls.now body c.requires.basic n s y is refl c.of_labels.ensures made in
    start.ready

pub returns : goal.returns
returns c =
    let table = table_view c.args.accepted.now in
    let name = c.args.name.now in
    let body = body_view c.args.body.now in
    let e : table_view c.as_slice.result.now ≡ table = ap table_view c.as_slice.ensures in
    let n = c.in_ok-expanded.expanded.numbering in
    let y = expansion_view c.in_ok-expanded.expanded.expansion in
    let is : n ≡ chart_numbering table name = subst (λ (t : Table). n ≡ chart_numbering t name) e c.in_ok-expanded.ensures.numbering in
    let made : y ≡ numbered_chart table name = subst (λ (t : Table). y ≡ numbered_chart t name) e c.in_ok-expanded.ensures.expansion in
    let s : TermTables = record { names = n.names; nets = c.of_labels.result } in
    let start : IsStart table c.args.decls.now body s y = start_at c.charts_have_terms.ensures c.ends_are_found.ensures c.choices_have_parts.ensures table name c.requires.accepted c.args.decls.now body c.requires.basic n s y is refl c.of_labels.ensures made in
    start_made table c.args.decls.now body s y c.in_ok-found.found.items start c.in_ok-found.ensures
