use Rattle.std.proofs.Common.{rules, ◌≡◌, ◌∙◌, Bool, true, false, List, ℕ, Result, Ok, Err, IfOk, flat_map, map, sym, subst, ap}
use Rattle.std.specs.List.{list_all}
use Rattle.serde_json.specs.Data.{Data}
use Rattle.serde_json.specs.View.{view}
use Rattle.msc_meaning.specs.Views.{entry_view, table_view}
use Rattle.msc_meaning.specs.declared.body.ChartEntry.{ChartEntry}
use Rattle.judge_report.specs.Lists.{chart_data, chart_line, chart_list}
use Rattle.judge_report.specs.Texts.{needs_no_escape}
use Rattle.judge_report.proofs.ListTexts.{charts_no_float, charts_shown, lines_shown}
use Rattle.judge_report.proofs.lists.chart_list_text.Goals as goal

with_end : {E : Type 0} (r : Result (List ℕ) E) (y z : List ℕ) → IfOk r (λ x. x ≡ y) → y ≡ z → IfOk r (λ x. x ≡ z)
with_end (Ok x) y z h e = h ∙ e
with_end (Err b) y z h e = tt

-- what is told of charts of the document is told of all of them
told_all : (held : List Data) (charts all : List ChartEntry) → charts ≡ all → held ≡ map (λ c. chart_data (table_view all) (entry_view c)) charts → held ≡ map (λ c. chart_data (table_view all) (entry_view c)) all
told_all held charts all same h = h ∙ ap (map (λ (c : ChartEntry). chart_data (table_view all) (entry_view c))) same

pub line_of_value-requires : goal.line_of_value-requires
line_of_value-requires c =
    charts_no_float _ (map view c.in_ok-values.values.items) c.args.doc.now (told_all (map view c.in_ok-values.values.items) c.as_slice.result.now c.args.doc.now c.as_slice.ensures c.in_ok-values.ensures.values) c.in_ok-value.ensures

pub returns-in_ok-value : goal.returns-in_ok-value
returns-in_ok-value c =
    let json : c.args.json ≡ true = search rules in
    let told = told_all (map view c.in_ok-values.values.items) c.as_slice.result.now c.args.doc.now c.as_slice.ensures c.in_ok-values.ensures.values in
    let plain : list_all (λ (x : ChartEntry). needs_no_escape x.name) c.args.doc.now ≡ true =
    subst (λ (l : List ChartEntry). list_all (λ (x : ChartEntry). needs_no_escape x.name) l ≡ true) c.as_slice.ensures (search rules) in
    with_end c.line_of_value.result _ _ c.line_of_value.ensures (charts_shown (view c.in_ok-value.value) (map view c.in_ok-values.values.items) c.args.doc.now plain told c.in_ok-value.ensures ∙ ap (λ (b : Bool). chart_list b (table_view c.args.doc.now)) (sym json))

pub returns-in_ok-bytes : goal.returns-in_ok-bytes
returns-in_ok-bytes c =
    let json : c.args.json ≡ false = search rules in
    let table = table_view c.args.doc.now in
    c.from_vec.ensures ∙ c.in_ok-bytes.ensures ∙ ap (flat_map (λ (x : ChartEntry). chart_line table (entry_view x))) c.as_slice-else-json.ensures ∙ lines_shown table c.args.doc.now
    ∙ ap (λ (b : Bool). chart_list b table) (sym json)
