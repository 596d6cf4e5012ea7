use Rattle.std.proofs.Common.{◌≡◌, ◌≤◌, take, drop, length}
use Rattle.chart_term.specs.Terms.{Event, Nil}
use Rattle.chart_term.specs.Views.{event_of}
use Rattle.term_laws.specs.Permission.{permits_of}
use Rattle.term_step.specs.Kept.{AreKept, top}
use Rattle.term_permission.specs.Ready.{IsReady}
use Rattle.term_step.specs.Searches.{put_all}
use Rattle.term_step.proofs.ascent.rebuilt.Given as goal

abbrev pub invariant-loop-index : goal.invariant-loop-index
invariant-loop-index l = record {
  within : l.index ≤ length l.path.items;
  ready : IsReady l.nets.tables l.left;
  whole : put_all (permits_of l.nets.tables) (event_of l.taken.event) l.path.items Nil ≡ put_all (permits_of l.nets.tables) (event_of l.taken.event) (take l.index l.path.items) l.left;
  kept : AreKept l.gone (top (drop l.index l.path.items) (Event (event_of l.taken.event))) l.left;
}

abbrev pub decreases-loop-index : goal.decreases-loop-index
decreases-loop-index l = l.index
