use Rattle.std.proofs.Common.{◌≡◌, ◌+◌, ◌∷◌, ℕ, ap, drop, subst, ◌∙◌, arith}
use Rattle.gate_ends.specs.FoundEnds.{inner_to}
use Rattle.gate_ends.specs.JoinCounts.{joins_count, references_count}
use Rattle.gate_ends.specs.LevelGates.{items_in}
use Rattle.join_sizes.specs.Counted.{capped}
use Rattle.level_gathering.specs.ReferenceViews.{references_view}
use Rattle.list_facts.proofs.Reading.{drop_read}
use Rattle.msc_meaning.specs.Views.{body_view, table_view}
use Rattle.msc_tree.specs.Views.{expression_view}
use Rattle.join_sizes.proofs.Counts.{sum_step}
use Rattle.join_sizes.proofs.counting.known_count.Goals as goal

pub loop-reference-preserved : goal.loop-reference-preserved
loop-reference-preserved c =
    let inner = inner_to (table_view c.args.table.charts.now) c.args.table.depth in
    let held = items_in (body_view c.args.level.body.now) in
    let list = c.args.references.now in
    let i = c.loop-reference.reference-index in
    let item = c.reference-item.result in
    let total = references_count inner held (references_view list) in
    let one = drop_read list i item c.loop-reference-test.true c.reference-item.is in
    let behind : capped (c.loop-reference.sum + references_count inner held (references_view (item ∷ drop (i + 1) list))) ≡ capped total =
    subst (λ (l : _). capped (c.loop-reference.sum + references_count inner held (references_view l)) ≡ capped total) one c.loop-reference.invariant.all in
    let own = joins_count inner held item.now.name (expression_view item.now.expr) item.now.joins in
    let more : c.in_ok-more.more ≡ capped own = c.in_ok-more.ensures ∙ ap (λ (js : _). capped (joins_count inner held item.now.name (expression_view item.now.expr) js)) c.as_slice.ensures in
    let new : c.sum_of-sum.result ≡ capped (c.loop-reference.sum + capped own) = c.sum_of-sum.ensures ∙ ap (λ (n : ℕ). capped (c.loop-reference.sum + n)) more in
    record {
      low = omega (arith, new);
      all = sum_step c.loop-reference.sum own (references_count inner held (references_view (drop (i + 1) list))) c.sum_of-sum.result total new behind;
    }
