use Rattle.std.proofs.Common.{rules, ◌≡◌, ◌∙◌, List, ap, sym}
use Rattle.gate_ends.specs.LevelGates.{items_in}
use Rattle.msc_meaning.specs.ItemViews.{items_view}
use Rattle.msc_meaning.specs.Views.{body_view}
use Rattle.msc_meaning.specs.declared.body.Body.{out-Body}
use Rattle.msc_meaning.specs.declared.body.Item as code
use Rattle.refinement_rules.proofs.BodyFacts.{body_items, earliest_of_body}
use Rattle.refinement_rules.proofs.judging.body_places.Goals as goal

pub returns : goal.returns
returns c =
    let k = c.args.known in
    let b = c.args.body.now in
    let xs : List code.Item = c.as_slice-items.result.now in
    let items : xs ≡ (out-Body b).items.items = search rules in
    let held : items_in (body_view b) ≡ items_view xs = body_items b ∙ ap items_view (sym items) in
    earliest_of_body k.table.charts.now k.table.names.now k.tables.now.names k.tables.now.known k.tables.now.reach.items k.tables.now.expanded.items c.args.decls.now b xs held
    c.in_ok-refined.refined c.in_ok-shared.shared k.inside.now c.in_ok-taken.taken c.args.so_far
    (record { mismatch = c.in_ok-mismatch.mismatch; shared = c.shared_place.result; inside = c.inside_place.result; local = c.local_place.result })
    c.in_ok-refined.ensures c.in_ok-shared.ensures c.in_ok-taken.ensures c.requires.names c.requires.inside c.in_ok-mismatch.ensures c.shared_place.ensures c.inside_place.ensures c.local_place.ensures
