use Rattle.std.specs.Prelude.{IfSome}
use Rattle.term_laws.proofs.Measures.{rank_in}
use Rattle.term_step.proofs.Visits.{AreRanked, all_visits}
use Rattle.term_step.specs.Searches.{IsTaken}
use Rattle.term_step.specs.Skips.{IsSearchPlaced}
use Rattle.term_ways.proofs.Searched.{IsState}
use Rattle.term_ways.proofs.way.find_way.Given as goal

abbrev pub invariant-search : goal.invariant-search
invariant-search l = record {
  state : IsState l.nets.tables l.number l.term l.goal l.path.items l.here l.next;
  met : IfSome l.met IsTaken;
  placed : IsSearchPlaced l.nets.tables l.number l.path.items l.here l.met;
  ranked : AreRanked l.nets.tables (rank_in l.nets.tables l.term) l.path.items l.here;
}

abbrev pub decreases-search : goal.decreases-search
decreases-search l = all_visits l.nets.tables (rank_in l.nets.tables l.term) l.path.items l.here l.next
