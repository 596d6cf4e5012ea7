use Rattle.std.proofs.Common.{drop, map}
use Rattle.msc_base.proofs.Narrowing.{Narrows}
use Rattle.chart_links.specs.FaultPlaces.{SoFarOr}
use Rattle.chart_links.specs.LinkViews.{link_view}
use Rattle.chart_links.specs.References.{AtLink}
use Rattle.chart_links.specs.Tables.{MissesBy, RecursBy, UncoversBy}
use Rattle.chart_links.proofs.faults.link_places.Given as goal

abbrev pub invariant-loop-link : goal.invariant-loop-link
invariant-loop-link l = record {
  missing : Narrows (SoFarOr l.fn.so_far.missing (AtLink (MissesBy l.tables.names) (map link_view l.links))) (AtLink (MissesBy l.tables.names) (map link_view (drop l.link-index l.links))) l.missing;
  recursive : Narrows (SoFarOr l.fn.so_far.recursive (AtLink (RecursBy l.tables.names l.tables.reach.items l.caller) (map link_view l.links)))
      (AtLink (RecursBy l.tables.names l.tables.reach.items l.caller) (map link_view (drop l.link-index l.links))) l.recursive;
  uncovered : Narrows (SoFarOr l.fn.so_far.uncovered (AtLink (UncoversBy l.tables.names l.tables.known l.tables.expanded.items l.instances) (map link_view l.links)))
      (AtLink (UncoversBy l.tables.names l.tables.known l.tables.expanded.items l.instances) (map link_view (drop l.link-index l.links))) l.uncovered;
}
