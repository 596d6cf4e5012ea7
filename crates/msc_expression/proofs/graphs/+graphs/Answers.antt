use Rattle.std.proofs.Common.{◌≡◌, ◌∙◌, ◌++◌, [], ◌∷◌, List, sym, ap, subst, map, length, ◌-◌, ◌+◌, arith, codes}
use Rattle.std.proofs.lemmas.List.{map-append}
use Rattle.msc_tokens.specs.declared.token.Token.{Token}
use Rattle.msc_tree.specs.Graphs.{Line}
use Rattle.msc_tree.specs.Views.{graph_view, line_view}
use Rattle.token_grammar.specs.Answers.{Gives, Fails}
use Rattle.token_grammar.specs.Languages.{just, names, Read}
use Rattle.token_grammar.proofs.Loops.{no_more, ends_here, next_one, stops_here}
use Rattle.msc_expression.specs.GraphReaders.{graph_line_at, next_frame_at}
use Rattle.msc_expression.proofs.LineForms.{line_is}
use Rattle.msc_expression.proofs.graphs.+graphs.Goals.{lines-else-loop-k-test, lines-then-loop-k-test+then-not-starts_with_name, more_frames-else-loop-k-test, more_frames-then-loop-k-test+then-not-starts_with}
use Rattle.msc_expression.proofs.graphs.+graphs.Goals as goal

pub line-returns : goal.line-returns
line-returns t c =
    subst (λ (p : List Token → Read Line). Gives (λ x. (line_view x.0, x.1.now)) c.labelled_line.result (p c.args.tokens.now)) (sym (line_is c.args.levels)) c.labelled_line.ensures

-- ---- lines

pub lines-loop-k-preserved : goal.lines-loop-k-preserved
lines-loop-k-preserved t c =
    let lt = c.loop-k-test.true in
    let q = graph_line_at c.args.levels in
    sym (next_one names q (map line_view c.loop-k.lines.items) _ (line_view c.in-Ok.line) _ _ c.loop-k.rest.now c.in-Ok.behind.now
    (sym c.starts_with_name.ensures ∙ c.if-not-starts_with_name.false) (omega arith) c.in-Ok.ensures
    (ap (map line_view) c.in_ok-push-in-Ok.ensures.items ∙ map-append line_view c.loop-k.lines.items (c.in-Ok.line ∷ []))) ∙ c.loop-k.invariant

pub lines-returns-in-Err : goal.lines-returns-in-Err
lines-returns-in-Err t c =
    let lt = c.loop-k-test.true in
    let q = graph_line_at c.args.levels in
    subst (Fails c.in-Err.fault) c.loop-k.invariant
    (stops_here names q c.in-Err.fault (map line_view c.loop-k.lines.items) _ (length c.args.tokens.now - (c.loop-k._k + 1)) c.loop-k.rest.now
    (sym c.starts_with_name.ensures ∙ c.if-not-starts_with_name.false) (omega arith) c.in-Err.ensures)

pub lines-returns : goal.lines-returns
lines-returns t c =
    let q = graph_line_at c.args.levels in
    let prefix = map line_view c.loop-k.lines.items in
    elim c.loop-k-test.branch [
      | lines-else-loop-k-test w ↦ sym c.loop-k.invariant ∙ no_more names q prefix _ c.loop-k.rest.now (omega arith)
      | lines-then-loop-k-test+then-not-starts_with_name w ↦ sym c.loop-k.invariant ∙ ends_here names q prefix _ c.loop-k.rest.now (sym w.starts_with_name.ensures ∙ w.if-not-starts_with_name.true)
    ]

-- ---- frames

pub more_frames-loop-k-preserved : goal.more_frames-loop-k-preserved
more_frames-loop-k-preserved t c =
    let lt = c.loop-k-test.true in
    let q = next_frame_at c.args.levels in
    sym (next_one (just (codes "par")) q (map graph_view c.loop-k.frames.items) _ (graph_view c.in-Ok.frame) _ _ c.loop-k.rest.now c.in-Ok.behind.now
    (sym c.starts_with.ensures ∙ c.if-not-starts_with.false) (omega arith) c.in-Ok.ensures
    (ap (map graph_view) c.in_ok-push-in-Ok.ensures.items ∙ map-append graph_view c.loop-k.frames.items (c.in-Ok.frame ∷ []))) ∙ c.loop-k.invariant

pub more_frames-returns-in-Err : goal.more_frames-returns-in-Err
more_frames-returns-in-Err t c =
    let lt = c.loop-k-test.true in
    let q = next_frame_at c.args.levels in
    subst (Fails c.in-Err.fault) c.loop-k.invariant
    (stops_here (just (codes "par")) q c.in-Err.fault (map graph_view c.loop-k.frames.items) _ (length c.args.tokens.now - (c.loop-k._k + 1)) c.loop-k.rest.now
    (sym c.starts_with.ensures ∙ c.if-not-starts_with.false) (omega arith) c.in-Err.ensures)

pub more_frames-returns : goal.more_frames-returns
more_frames-returns t c =
    let q = next_frame_at c.args.levels in
    let prefix = map graph_view c.loop-k.frames.items in
    elim c.loop-k-test.branch [
      | more_frames-else-loop-k-test w ↦ sym c.loop-k.invariant ∙ no_more (just (codes "par")) q prefix _ c.loop-k.rest.now (omega arith)
      | more_frames-then-loop-k-test+then-not-starts_with w ↦ sym c.loop-k.invariant ∙ ends_here (just (codes "par")) q prefix _ c.loop-k.rest.now (sym w.starts_with.ensures ∙ w.if-not-starts_with.true)
    ]
