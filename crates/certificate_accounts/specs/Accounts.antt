-- Accounts: what certificates are for the terms that are left on the way, with begun turns, rows of gaps, and walks from any spot.
use Rattle.std.specs.Prelude.{ℕ, zero, suc, ◌≤◌, List, [], ◌∷◌, ◌≡◌, ◌⊎◌, Option, true}
use Rattle.msc_base.specs.Lists.{IsIn}
use Rattle.msc_base.specs.Patterns.{Mode, seq, empty, one, join, bind}
use Rattle.hmsc_graph.specs.Graphs.{Spot, At, Goal, behind, arrives}
use Rattle.chart_term.specs.NormalForms.{only}
use Rattle.chart_term.specs.TermMeanings.{NetTerms, UpTo, aim}
use Rattle.chart_term.specs.TermPatterns.{Shape, Avoids}
use Rattle.chart_term.specs.Terms.{TermEvent, Tree, Event, Join, Choice, Tied, Loop, Walk, Trees, Row, items, Part, Gap, Turn, parts}
use Rattle.term_laws.specs.Taking.{HasGap}
use Rattle.certificates.specs.Certificates.{HasEmpty}

-- no event at all; an event at a place of the log; an account for each part of a join; one for the part of a choice of this index,
-- counted from 0; a row; the nodes of a walk, and where it arrives. A tie has the account of what is below it.
mutual
  pub data Account : Type 0 where
    nothing : Account
    at_place : ℕ → Account
    of_parts : Accounts → Account
    of_branch : ℕ → Account → Account
    of_row : RowAccount → Account
    of_walk : Visits → Account

  pub data Accounts : Type 0 where
    no_accounts : Accounts
    account_and : Account → Accounts → Accounts

  -- the turns in each gap, and the account of each begun turn
  pub data RowAccount : Type 0 where
    row_over : RowAccount
    turns_in_gap : Accounts → RowAccount → RowAccount
    begun_turn : Account → RowAccount → RowAccount

  pub data Visits : Type 0 where
    arrived : ℕ → Visits
    visit : ℕ → Account → Visits → Visits

-- an event as it stands at a place: its label is the place, so what is said of patterns is said of patterns with places
abbrev pub placed_event : TermEvent → ℕ → TermEvent
placed_event e n = record e { label = n }

-- the account tells this finished pattern of the term; ev: which event stands at each place
mutual
  pub data Tells (w : NetTerms) (ev : ℕ → TermEvent) : Tree → Account → Shape → Type 0 where
    tells_nothing : {x : Tree} → HasEmpty w x → Tells w ev x nothing empty
    tells_event : {e : TermEvent} {n : ℕ} → ev n ≡ e → Tells w ev (Event e) (at_place n) (one (placed_event e n))
    tells_parts : {m : Mode} {xs : Trees} {us : Accounts} {s : Shape} → TellsAll w ev m (items xs) us s → Tells w ev (Join m xs) (of_parts us) s
    tells_branch : {xs : Trees} {i : ℕ} {a : Account} {s : Shape} → TellsOne w ev (items xs) i a s → Tells w ev (Choice xs) (of_branch i a) s
    tells_tie : {x : Tree} {q : List (ℕ × ℕ)} {a : Account} {s : Shape} → Tells w ev x a s → Tells w ev (Tied x q) a (bind s q)
    -- at most so many turns; and at least so many, or there is a gap in which turns without events may stand
    tells_row : {x : Tree} {lo : ℕ} {hi : Option ℕ} {r : Row} {b : RowAccount} {s : Shape} (n : ℕ) → UpTo hi lo → TellsRow w ev x (parts r) b n s → UpTo hi n
        → (lo ≤ n) ⊎ (HasGap (parts r) × HasEmpty w x) → Tells w ev (Loop x lo hi r) (of_row b) s
    tells_walk : {n : ℕ} {f : Spot} {t : Goal} {c : List ℕ} {v : Visits} {s : Shape} → TellsWalk w ev n f t c v s → Tells w ev (Walk n f t c) (of_walk v) s

  pub data TellsAll (w : NetTerms) (ev : ℕ → TermEvent) : Mode → List Tree → Accounts → Shape → Type 0 where
    tells_none : {m : Mode} → TellsAll w ev m [] no_accounts empty
    tells_part : {m : Mode} {x : Tree} {xs : List Tree} {a : Account} {us : Accounts} {s u : Shape} → Tells w ev x a s → TellsAll w ev m xs us u
        → TellsAll w ev m (x ∷ xs) (account_and a us) (join m s u)

  pub data TellsOne (w : NetTerms) (ev : ℕ → TermEvent) : List Tree → ℕ → Account → Shape → Type 0 where
    tells_this : {x : Tree} {xs : List Tree} {a : Account} {s : Shape} → Tells w ev x a s → TellsOne w ev (x ∷ xs) zero a s
    tells_that : {x : Tree} {xs : List Tree} {i : ℕ} {a : Account} {s : Shape} → TellsOne w ev xs i a s → TellsOne w ev (x ∷ xs) (suc i) a s

  pub data TellsRow (w : NetTerms) (ev : ℕ → TermEvent) : Tree → List Part → RowAccount → ℕ → Shape → Type 0 where
    tells_over : {x : Tree} → TellsRow w ev x [] row_over zero empty
    tells_turn : {x y : Tree} {ps : List Part} {a : Account} {b : RowAccount} {n : ℕ} {s u : Shape} → Tells w ev y a s → TellsRow w ev x ps b n u
        → TellsRow w ev x (Turn y ∷ ps) (begun_turn a b) n (join seq s u)
    tells_shut : {x : Tree} {c : List ℕ} {ps : List Part} {b : RowAccount} {n : ℕ} {u : Shape} → TellsRow w ev x ps b n u → TellsRow w ev x (Gap c ∷ ps) (turns_in_gap no_accounts b) n u
    tells_more : {x : Tree} {c : List ℕ} {ps : List Part} {a : Account} {us : Accounts} {b : RowAccount} {n : ℕ} {s u : Shape} → Tells w ev x a s → Avoids (only c) s
        → TellsRow w ev x (Gap c ∷ ps) (turns_in_gap us b) n u → TellsRow w ev x (Gap c ∷ ps) (turns_in_gap (account_and a us) b) (suc n) (join seq s u)

  pub data TellsWalk (w : NetTerms) (ev : ℕ → TermEvent) : ℕ → Spot → Goal → List ℕ → Visits → Shape → Type 0 where
    tells_arrived : {n : ℕ} {f : Spot} {t : Goal} {c : List ℕ} (m : ℕ) → IsIn m (behind (w.net n) f) → arrives (w.net n) (aim t) m ≡ true → TellsWalk w ev n f t c (arrived m) empty
    tells_visit : {n : ℕ} {f : Spot} {t : Goal} {c : List ℕ} (m : ℕ) {a : Account} {v : Visits} {s u : Shape} → IsIn m (behind (w.net n) f) → Tells w ev (w.node n m) a s → Avoids (only c) s
        → TellsWalk w ev n (At m) t c v u → TellsWalk w ev n f t c (visit m a v) (join seq s u)
