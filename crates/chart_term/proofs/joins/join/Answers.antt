use Rattle.std.specs.Prelude.{IfOk}
use Rattle.std.proofs.Common.{◌≡◌, ◌∙◌, ◌++◌, ap, sym, subst, map, arith}
use Rattle.std.proofs.lemmas.List.{take_all}
use Rattle.chart_term.specs.Modes.{mode_of}
use Rattle.chart_term.specs.NormalForms.{begun, flat, join_of, open_part}
use Rattle.chart_term.specs.Rows.{parts_of}
use Rattle.chart_term.specs.Terms.{Tree, Turn}
use Rattle.chart_term.proofs.Turns.{begun-map, opened_next}
use Rattle.chart_term.proofs.joins.join.Goals as goal

pub loop-part-preserved : goal.loop-part-preserved
loop-part-preserved c = c.in_ok-opened.ensures ∙ ap (λ l. l ++ map Turn (open_part (mode_of c.args.mode) c.part-item.result)) c.loop-part.invariant ∙ sym (opened_next (mode_of c.args.mode) c.as_slice-part-items.result.now c.loop-part.part-index c.part-item.result c.loop-part-test.true c.part-item.is)

pub returns : goal.returns
returns c =
    let all : c.loop-part.opened.list ++ parts_of c.loop-part.opened.run.items ≡ map Turn (flat (mode_of c.args.mode) c.args.parts.now) = c.loop-part.invariant ∙ ap (λ l. map Turn (flat (mode_of c.args.mode) l)) (take_all c.loop-part.part-index c.as_slice-part-items.result.now (omega (arith, c.loop-part-test.false)) ∙ c.as_slice-part-items.ensures) in
    let whole = c.in_ok-whole.ensures ∙ all in
    subst (λ (x : Tree). IfOk c.join_of.result (λ term. term ≡ x)) (ap (λ l. join_of (mode_of c.args.mode) (begun l)) whole ∙ ap (join_of (mode_of c.args.mode)) (begun-map (flat (mode_of c.args.mode) c.args.parts.now))) c.join_of.ensures
