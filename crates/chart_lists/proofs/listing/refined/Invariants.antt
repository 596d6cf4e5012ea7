use Rattle.std.proofs.Common.{◌≡◌, drop}
use Rattle.msc_meaning.specs.Tables.{refined_as}
use Rattle.chart_lists.proofs.listing.refined.Given as goal

abbrev pub invariant-loop-decl : goal.invariant-loop-decl
invariant-loop-decl l = refined_as (drop l.decl-index l.decls) l.instance ≡ refined_as l.decls l.instance
