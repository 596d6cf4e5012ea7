use Rattle.std.proofs.Common.{List, ℕ}
use Rattle.refinement_rules.specs.Walks.{HasBit}
use Rattle.std.specs.Borrow.{Bor}
use Rattle.std.specs.Prelude.{List, ℕ}
use Rattle.chart_links.specs.Sets.{HasExpanded}
use Rattle.refinement_rules.proofs.Walked.{grown_end, grown_start, grown_step}
use Rattle.refinement_rules.proofs.taking.add_referenced.Goals as goal

pub loop-name-init : goal.loop-name-init
loop-name-init c = grown_start (λ (n : Bor (List ℕ)). HasExpanded c.args.tables.now.names c.args.tables.now.expanded.items n.now) (HasBit c.args.set.now) c.args.names.now

pub loop-name-preserved : goal.loop-name-preserved
loop-name-preserved c =
    grown_step (λ (n : Bor (List ℕ)). HasExpanded c.args.tables.now.names c.args.tables.now.expanded.items n.now) (HasBit c.args.set.now) (HasBit c.loop-name.set) (HasBit c.add_expanded.new.set) c.args.names.now c.loop-name.name-index c.name-item.result c.loop-name-test.true c.name-item.is
    c.in_ok-add_expanded.ensures c.loop-name.invariant

pub returns : goal.returns
returns c = grown_end (λ (n : Bor (List ℕ)). HasExpanded c.args.tables.now.names c.args.tables.now.expanded.items n.now) (HasBit c.args.set.now) (HasBit c.loop-name.set) c.args.names.now c.loop-name.name-index c.loop-name-test.false c.loop-name.invariant
