use Rattle.std.proofs.Common.{map}
use Rattle.chart_links.specs.FaultPlaces.{SoFarOr}
use Rattle.chart_links.specs.LinkViews.{link_view}
use Rattle.chart_links.specs.References.{AtLink}
use Rattle.chart_links.specs.Tables.{MissesBy, RecursBy, UncoversBy}
use Rattle.chart_links.proofs.FaultFacts.{link_step, links_end, links_start}
use Rattle.chart_links.proofs.faults.link_places.Goals as goal

pub loop-link-init : goal.loop-link-init
loop-link-init c =
    let t = c.args.tables.now in
    let links = map link_view c.args.links.now in
    record {
      missing = links_start c.args.so_far.missing (AtLink (MissesBy t.names) links);
      recursive = links_start c.args.so_far.recursive (AtLink (RecursBy t.names t.reach.items c.args.caller.now) links);
      uncovered = links_start c.args.so_far.uncovered (AtLink (UncoversBy t.names t.known t.expanded.items c.args.instances.now) links);
    }

pub loop-link-preserved : goal.loop-link-preserved
loop-link-preserved c =
    let t = c.args.tables.now in
    let list = c.args.links.now in
    let links = map link_view list in
    let at = c.loop-link in
    let link = c.link-item.result in
    let place = c.place_of-place.result in
    let misses = MissesBy t.names in
    let recurs = RecursBy t.names t.reach.items c.args.caller.now in
    let uncovers = UncoversBy t.names t.known t.expanded.items c.args.instances.now in
    record {
      missing = link_step misses (SoFarOr c.args.so_far.missing (AtLink misses links)) list at.link-index link c.misses.result place at.missing c.earlier_if-missing.result c.loop-link-test.true c.link-item.is
          c.misses.ensures c.place_of-place.ensures c.earlier_if-missing.ensures at.invariant.missing;
      recursive = link_step recurs (SoFarOr c.args.so_far.recursive (AtLink recurs links)) list at.link-index link c.recurs.result place at.recursive c.earlier_if-recursive.result c.loop-link-test.true c.link-item.is
          c.recurs.ensures c.place_of-place.ensures c.earlier_if-recursive.ensures at.invariant.recursive;
      uncovered = link_step uncovers (SoFarOr c.args.so_far.uncovered (AtLink uncovers links)) list at.link-index link c.uncovers.result place at.uncovered c.earlier_if-uncovered.result c.loop-link-test.true c.link-item.is
          c.uncovers.ensures c.place_of-place.ensures c.earlier_if-uncovered.ensures at.invariant.uncovered;
    }

pub returns-clause-missing : goal.returns-clause-missing
returns-clause-missing c =
    let t = c.args.tables.now in
    let holds = MissesBy t.names in
    links_end holds (SoFarOr c.args.so_far.missing (AtLink holds (map link_view c.args.links.now))) c.args.links.now c.loop-link.link-index c.loop-link.missing c.loop-link-test.false c.loop-link.invariant.missing

pub returns-clause-recursive : goal.returns-clause-recursive
returns-clause-recursive c =
    let t = c.args.tables.now in
    let holds = RecursBy t.names t.reach.items c.args.caller.now in
    links_end holds (SoFarOr c.args.so_far.recursive (AtLink holds (map link_view c.args.links.now))) c.args.links.now c.loop-link.link-index c.loop-link.recursive c.loop-link-test.false c.loop-link.invariant.recursive

pub returns-clause-uncovered : goal.returns-clause-uncovered
returns-clause-uncovered c =
    let t = c.args.tables.now in
    let holds = UncoversBy t.names t.known t.expanded.items c.args.instances.now in
    links_end holds (SoFarOr c.args.so_far.uncovered (AtLink holds (map link_view c.args.links.now))) c.args.links.now c.loop-link.link-index c.loop-link.uncovered c.loop-link-test.false c.loop-link.invariant.uncovered
