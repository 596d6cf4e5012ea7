use Rattle.std.proofs.Common.{◌≡◌, ◌∙◌, [], get_or}
use Rattle.std.proofs.lemmas.List.{get_or_default}
use Rattle.refinement_rules.specs.Walks.{HasBit}
use Rattle.refinement_rules.proofs.TakenFacts.{once_start, once_step, twice_end, twice_start, twice_step}
use Rattle.refinement_rules.proofs.taking.add_double.Goals as goal

pub loop-row-init : goal.loop-row-init
loop-row-init c = record { once = once_start c.args.rows.now c.new-once.result c.new-once.ensures; twice = twice_start c.args.rows.now c.args.set.now }

pub loop-row-preserved : goal.loop-row-preserved
loop-row-preserved c =
    let rows = c.args.rows.now in
    let at = c.loop-row in
    let row = c.row-item.result in
    let is : row ≡ get_or rows at.row-index [] = c.row-item.is ∙ get_or_default rows at.row-index row [] c.loop-row-test.true in
    record {
      once = once_step rows at.row-index row is at.once c.unite.new.self c.in_ok-unite.ensures at.invariant.once;
      twice = twice_step rows at.row-index row is (HasBit c.args.set.now) at.once at.set c.unite_common.new.self c.in_ok-unite_common.ensures at.invariant.once at.invariant.twice;
    }

pub returns : goal.returns
returns c = twice_end c.args.rows.now (HasBit c.args.set.now) c.loop-row.set c.loop-row.row-index c.loop-row-test.false c.loop-row.invariant.twice
