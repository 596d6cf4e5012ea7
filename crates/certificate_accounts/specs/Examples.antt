-- The way of a message below a tie, that of a loop of an action that runs twice, and that of a walk through a graph of one node: which
-- alternatives events take, and the accounts of the terms before them.
use Rattle.std.specs.Prelude.{ℕ, true, false, [], ◌∷◌, ◌≡◌, None}
use Rattle.hmsc_graph.specs.Graphs.{Spot, Start, At, Goal, End}
use Rattle.chart_term.specs.Tables.{NetEntry, Tables, terms_over}
use Rattle.chart_term.specs.Terms.{Tree, Nil, Event, Loop, Walk, gap, ends}
use Rattle.term_laws.specs.Permission.{permits_of}
use Rattle.term_laws.specs.Taking.{IsAfter}
use Rattle.certificates.specs.CertificateLaws.{HasCertificate}
use Rattle.certificates.specs.Examples.{output, input, message, no_nets}
use Rattle.certificate_accounts.specs.Accounts.{Accounts, nothing, at_place, of_parts, of_row, of_walk, no_accounts, account_and, row_over, turns_in_gap, Visits, arrived, visit}
use Rattle.certificate_accounts.specs.Paths.{Path, account_back}
use Rattle.certificate_accounts.specs.Ways.{way_of}
use Rattle.certificate_accounts.specs.AccountLaws.{nodes_over}

-- without nets there is no walk
abbrev pub no_ways : ℕ → Spot → Goal → Visits
no_ways n f t = arrived 0

-- the action as often as one likes
abbrev pub repeated : Tree
repeated = Loop (Event output) 0 None (gap [] ends)

-- an event at place 1, and one at place 2
abbrev pub both_places : Accounts
both_places = account_and (at_place 1) (account_and (at_place 2) no_accounts)

-- a graph whose start leads to a node with the action, and that to an end
abbrev pub entry : NetEntry
entry = record { net = record { starts = 0 ∷ []; next = (1 ∷ []) ∷ [] ∷ []; ends = false ∷ true ∷ [] }; nodes = Event output ∷ Nil ∷ [] }

abbrev pub one_net : Tables
one_net = entry ∷ []

abbrev pub walk : Tree
walk = Walk 0 Start End []

-- its walks without events: from the start up to the node, and from the node to the end
abbrev pub edges : ℕ → Spot → Goal → Visits
edges n Start t = arrived 0
edges n (At m) t = arrived 1

pub record ExamplesGoBack : Type 0 where
  pub sent : Path (permits_of []) message (output ∷ input ∷ []) Nil
  pub sent_account : account_back (permits_of []) (nodes_over [] no_ways) sent 1 nothing ≡ of_parts both_places
  pub certified : HasCertificate no_nets message (0 ∷ 1 ∷ [])
  -- the action begins a turn in the only gap
  pub once : IsAfter (permits_of []) repeated output repeated
  pub once_way : way_of (permits_of []) once ≡ 0 ∷ []
  pub twice : Path (permits_of []) repeated (output ∷ output ∷ []) repeated
  pub twice_account : account_back (permits_of []) (nodes_over [] no_ways) twice 1 nothing ≡ of_row (turns_in_gap both_places row_over)
  pub walked : Path (permits_of one_net) walk (output ∷ []) Nil
  pub walked_account : account_back (permits_of one_net) (nodes_over one_net edges) walked 1 nothing ≡ of_walk (visit 0 (at_place 1) (arrived 1))
  pub walk_certified : HasCertificate (terms_over one_net) walk (0 ∷ [])
