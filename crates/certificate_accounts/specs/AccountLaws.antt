-- The laws of accounts: from one of what is left after an event to one of the term before it, along the way of a log, and to a
-- certificate that holds.
use Rattle.std.specs.List.{range_with_len}
use Rattle.std.specs.Prelude.{ℕ, List, [], ◌∷◌, ◌≡◌, ◌==◌, length, map}
use Rattle.hmsc_graph.specs.Graphs.{Spot, Goal}
use Rattle.chart_term.specs.NormalForms.{only}
use Rattle.chart_term.specs.Tables.{Tables, net_count, choose, nth_tree, terms_over}
use Rattle.chart_term.specs.TermPatterns.{Shape, Takes, HasNoEvent, ◌≈◌}
use Rattle.chart_term.specs.TermRuns.{Runs, label_of}
use Rattle.chart_term.specs.Terms.{TermEvent, Tree, Walk}
use Rattle.term_laws.specs.Permission.{permits_of}
use Rattle.term_laws.specs.Soundness.{AreTidyTables, IsTidyOver}
use Rattle.term_laws.specs.Taking.{IsAfter}
use Rattle.certificates.specs.Certificates.{HasEmpty}
use Rattle.certificates.specs.CertificateLaws.{IsUnbegun, AreUnbegunNets, HasCertificate}
use Rattle.certificate_accounts.specs.Accounts.{Account, nothing, Visits, placed_event, Tells, TellsWalk}
use Rattle.certificate_accounts.specs.PermitsBack.{permit_back}
use Rattle.certificate_accounts.specs.StepsBack.{NodeAccounts, step_back}
use Rattle.certificate_accounts.specs.Paths.{Path, AreAt, account_back}

-- the account of a node's term, from that of what a walk's block leaves of it
abbrev pub kept_account : Tables → ℕ → ℕ → List ℕ → Account → Account
kept_account [] n m c a = a
kept_account (e ∷ es) n m c a = choose (n == net_count es) (permit_back (permits_of es) (only c) (nth_tree e.nodes m) a) (kept_account es n m c a)

-- over these tables, with walks through nodes without events
abbrev pub nodes_over : Tables → (ℕ → Spot → Goal → Visits) → NodeAccounts
nodes_over w ways = record { empty_way = ways; kept_back = kept_account w }

-- where a walk has a finished pattern without events, these visits tell one
abbrev pub FindsWays : Tables → (ℕ → TermEvent) → (ℕ → Spot → Goal → Visits) → Type 0
FindsWays w ev ways = (n : ℕ) (f : Spot) (t : Goal) (c : List ℕ) → HasEmpty (terms_over w) (Walk n f t c) → (s : Shape) × TellsWalk (terms_over w) ev n f t c (ways n f t) s × HasNoEvent s

-- the account tells a pattern from which the event is taken, and what is then left is the given one
pub record TellsBefore (w : Tables) (ev : ℕ → TermEvent) (x : Tree) (a : Account) (d : TermEvent) (s : Shape) : Type 0 where
  pub before : Shape
  pub after : Shape
  pub tells : Tells (terms_over w) ev x a before
  pub takes : Takes before d after
  pub same_as : s ≈ after

-- places of a log are counted from 1; ev: which event stands at each place; ways: walks through nodes without events
pub record AccountsGoBack : Type 0 where
  -- one event, taken from any tidy term
  pub step : (w : Tables) (ev : ℕ → TermEvent) (ways : ℕ → Spot → Goal → Visits) (place : ℕ) (x y : Tree) (e : TermEvent) (h : IsAfter (permits_of w) x e y)
      → AreTidyTables w → IsTidyOver w x → FindsWays w ev ways → ev place ≡ e
      → (a : Account) (s : Shape) → Tells (terms_over w) ev y a s → TellsBefore w ev x (step_back (permits_of w) (nodes_over w ways) place h a) (placed_event e place) s
  -- the events of a log, up to a term that may end: the account of the first term tells a pattern whose run is the places in their order
  pub way : (w : Tables) (ev : ℕ → TermEvent) (ways : ℕ → Spot → Goal → Visits) (x z : Tree) (es : List TermEvent) (h : Path (permits_of w) x es z)
      → AreTidyTables w → IsTidyOver w x → FindsWays w ev ways → AreAt ev 1 es → HasEmpty (terms_over w) z
      → (t : Shape) × Tells (terms_over w) ev x (account_back (permits_of w) (nodes_over w ways) h 1 nothing) t × Runs t (range_with_len 1 (length es))
  -- where the first term is unbegun, such an account gives a certificate that holds
  pub certificate : (w : Tables) (ev : ℕ → TermEvent) (x : Tree) (a : Account) (t : Shape) (es : List TermEvent) → AreUnbegunNets (terms_over w) → IsUnbegun x → AreAt ev 1 es
      → Tells (terms_over w) ev x a t → Runs t (range_with_len 1 (length es)) → HasCertificate (terms_over w) x (map label_of es)
