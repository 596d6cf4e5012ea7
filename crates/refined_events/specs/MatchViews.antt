-- Events and matched events as the code holds them.
use Rattle.std.specs.Borrow.{Bor}
use Rattle.std.specs.Prelude.{List, map}
use Rattle.msc_meaning.specs.Bodies.{EventNode}
use Rattle.msc_meaning.specs.Refinements.{Match}
use Rattle.msc_meaning.specs.Views.{node_view}
use Rattle.msc_meaning.specs.declared.body.EventNode as code
use Rattle.refined_events.specs.declared.matching.EventMatch.{EventMatch}

abbrev pub nodes_view : List (Bor code.EventNode) → List EventNode
nodes_view ns = map (λ (n : Bor code.EventNode). node_view n.now) ns

abbrev pub match_view : EventMatch → Match
match_view m = record { event = node_view m.event.now; inner = node_view m.inner.now }

abbrev pub matches_view : List EventMatch → List Match
matches_view ms = map match_view ms
