-- The way of a log through terms, and the account of its first term by that of its last.
use Rattle.std.specs.Prelude.{ℕ, ◌+◌, List, [], ◌∷◌, ◌≡◌}
use Rattle.chart_term.specs.NormalForms.{NetPermits}
use Rattle.chart_term.specs.Terms.{TermEvent, Tree}
use Rattle.term_laws.specs.Taking.{IsAfter}
use Rattle.certificate_accounts.specs.Accounts.{Account}
use Rattle.certificate_accounts.specs.StepsBack.{NodeAccounts, step_back}

-- one event after another is taken, up to the last term
pub data Path (k : NetPermits) : Tree → List TermEvent → Tree → Type 0 where
  path_end : {x : Tree} → Path k x [] x
  path_step : {x y z : Tree} {e : TermEvent} {es : List TermEvent} → IsAfter k x e y → Path k y es z → Path k x (e ∷ es) z

-- the events stand at the places from this one on
abbrev pub AreAt : (ℕ → TermEvent) → ℕ → List TermEvent → Type 0
AreAt ev i [] = Unit {0}
AreAt ev i (e ∷ es) = (ev i ≡ e) × AreAt ev (i + 1) es

-- the account of the first term, from that of the last; the first event stands at this place
abbrev pub account_back : (k : NetPermits) (nodes : NodeAccounts) {x z : Tree} {es : List TermEvent} → Path k x es z → ℕ → Account → Account
account_back k nodes path_end i a = a
account_back k nodes (path_step h r) i a = step_back k nodes i h (account_back k nodes r (i + 1) a)
