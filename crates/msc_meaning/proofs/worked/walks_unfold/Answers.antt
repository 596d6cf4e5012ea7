use Rattle.msc_meaning.proofs.WorkedWalks.{endless_unfolds, walk_under_way_stops_early, walk_unfolds, later_node_first_conforms}
use Rattle.msc_meaning.proofs.worked.walks_unfold.Goals as goal

pub returns-clause-endless : goal.returns-clause-endless
returns-clause-endless c = endless_unfolds

pub returns-clause-under_way : goal.returns-clause-under_way
returns-clause-under_way c = walk_under_way_stops_early

pub returns-clause-ends : goal.returns-clause-ends
returns-clause-ends c = walk_unfolds

pub returns-clause-later_node_first : goal.returns-clause-later_node_first
returns-clause-later_node_first c = later_node_first_conforms
