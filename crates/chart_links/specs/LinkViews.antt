-- The plain links that those of the code stand for.
use Rattle.chart_text.specs.PassageViews.{scope_view}
use Rattle.chart_links.specs.declared.link.Link.{Link}
use Rattle.chart_links.specs.declared.link.Link.TheVariants as link
use Rattle.chart_links.specs.Links as plain

abbrev pub link_view : Link → plain.Link
link_view (link.Refers chart place scope depth) = plain.Refers chart.now place (scope_view scope) depth
link_view (link.Refines instance chart place) = plain.Refines instance.now chart.now place
