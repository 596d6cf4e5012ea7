-- The law of certificates: one holds exactly where the log is a finished run.
use Rattle.std.specs.Prelude.{ℕ, List, [], ◌≡◌, true, false}
use Rattle.std.proofs.Common.{get_or}
use Rattle.hmsc_graph.specs.Graphs.{Start, End}
use Rattle.chart_term.specs.Tables.{Tables, terms_over}
use Rattle.chart_term.specs.TermMeanings.{NetTerms, UpTo, aim}
use Rattle.chart_term.specs.TermPatterns.{Both}
use Rattle.chart_term.specs.Terms.{Tree, Nil, Event, Join, Choice, Tied, Loop, Walk, Trees, none, more, ends, gap}
use Rattle.term_laws.specs.Residuals.{IsFinishedRun}
use Rattle.certificates.specs.Certificates.{Certificate, Holds}

-- the term before any event: no turn of a loop has begun, each lower count is at most the upper, and each walk goes from the start to
-- an end, past no block
abbrev mutual
  pub IsUnbegun : Tree → Type 0
  IsUnbegun Nil = Unit {0}
  IsUnbegun (Event e) = Unit {0}
  IsUnbegun (Join m xs) = AreUnbegun xs
  IsUnbegun (Choice xs) = AreUnbegun xs
  IsUnbegun (Tied x q) = IsUnbegun x
  IsUnbegun (Loop x lo hi r) = IsUnbegun x × (r ≡ gap [] ends) × UpTo hi lo
  IsUnbegun (Walk n f t c) = (f ≡ Start) × (aim t ≡ End) × (c ≡ [])

  pub AreUnbegun : Trees → Type 0
  AreUnbegun none = Unit {0}
  AreUnbegun (more x xs) = IsUnbegun x × AreUnbegun xs

-- each node's term is unbegun, and that of an end is Nil
pub record AreUnbegunNets (w : NetTerms) : Type 0 where
  pub nodes : (n m : ℕ) → IsUnbegun (w.node n m)
  pub over : (n m : ℕ) → get_or (w.net n).ends m false ≡ true → w.node n m ≡ Nil

-- a certificate that holds
pub record HasCertificate (w : NetTerms) (x : Tree) (run : List ℕ) : Type 0 where
  pub certificate : Certificate
  pub holds : Holds w x run certificate

-- a certificate of an unbegun term holds exactly where the labels are a finished run of it
pub record CertificatesAreExact : Type 0 where
  pub exact : (w : Tables) (x : Tree) (run : List ℕ) → AreUnbegunNets (terms_over w) → IsUnbegun x → Both (HasCertificate (terms_over w) x run) (IsFinishedRun w x run)
