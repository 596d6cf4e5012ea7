-- A certificate as lines, each before its parts: how it is written, and how code may hold it.
use Rattle.std.specs.Prelude.{ℕ, zero, suc, List, [], ◌∷◌, ◌++◌, ◌≡◌}
use Rattle.certificates.specs.Certificates.{Certificate, Empty, EventAt, Parts, Branch, Inner, Turns, Nodes, Certificates, no_certificates, certificate_and, count, Stops, no_stops, stop_and}

-- lines of certificates, and a line for each stop
pub data Line : Type 0 where
  EmptyLine : Line
  EventLine : ℕ → Line
  PartsLine : ℕ → Line
  BranchLine : ℕ → Line
  InnerLine : Line
  TurnsLine : ℕ → Line
  WalkLine : ℕ → Line
  NodeLine : ℕ → Line

-- how many stops there are
abbrev pub stop_count : Stops → ℕ
stop_count no_stops = zero
stop_count (stop_and m c ss) = suc (stop_count ss)

abbrev mutual
  pub lines : Certificate → List Line
  lines Empty = EmptyLine ∷ []
  lines (EventAt n) = EventLine n ∷ []
  lines (Parts cs) = PartsLine (count cs) ∷ lines_of_all cs
  lines (Branch i c) = BranchLine i ∷ lines c
  lines (Inner c) = InnerLine ∷ lines c
  lines (Turns cs) = TurnsLine (count cs) ∷ lines_of_all cs
  lines (Nodes ss) = WalkLine (stop_count ss) ∷ lines_of_stops ss

  pub lines_of_all : Certificates → List Line
  lines_of_all no_certificates = []
  lines_of_all (certificate_and c cs) = lines c ++ lines_of_all cs

  pub lines_of_stops : Stops → List Line
  lines_of_stops no_stops = []
  lines_of_stops (stop_and m c ss) = NodeLine m ∷ (lines c ++ lines_of_stops ss)

-- lines that begin with those of a certificate begin with those of no other
pub record LinesAreExact : Type 0 where
  pub one : (c d : Certificate) (r s : List Line) → lines c ++ r ≡ lines d ++ s → (c ≡ d) × (r ≡ s)
