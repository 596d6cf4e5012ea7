-- A message below a tie, without nets: the certificate of its run, and that no certificate of it holds for the two labels the other
-- way round.
use Rattle.std.specs.Prelude.{ℕ, [], ◌∷◌, None}
use Rattle.msc_base.specs.Patterns.{seq}
use Rattle.chart_term.specs.Tables.{terms_over}
use Rattle.chart_term.specs.TermMeanings.{NetTerms}
use Rattle.chart_term.specs.Terms.{TermEvent, Tree, Event, Join, Tied, none, more}
use Rattle.certificates.specs.Certificates.{Certificate, EventAt, Parts, Inner, no_certificates, certificate_and, Holds}

-- an output, and its input at another instance
abbrev pub output : TermEvent
output = record { number = 1; at = 0; also = None; label = 0 }

abbrev pub input : TermEvent
input = record { number = 2; at = 1; also = None; label = 1 }

abbrev pub message : Tree
message = Tied (Join seq (more (Event output) (more (Event input) none))) ((1, 2) ∷ [])

abbrev pub no_nets : NetTerms
no_nets = terms_over []

-- the two events at these places
abbrev pub events_at : ℕ → ℕ → Certificate
events_at m n = Inner (Parts (certificate_and (EventAt m) (certificate_and (EventAt n) no_certificates)))

pub record MessageIsCertified : Type 0 where
  pub holds : Holds no_nets message (0 ∷ 1 ∷ []) (events_at 1 2)
  pub fails : (c : Certificate) → Holds no_nets message (1 ∷ 0 ∷ []) c → ⊥
