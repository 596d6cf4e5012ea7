-- Serves private contracts alone.
-- What is missing of a certificate whose lines come one by one.
use Rattle.std.specs.Prelude.{ℕ, zero, suc, Option, Some, None, List, [], ◌∷◌, ◌≡◌}
use Rattle.certificates.specs.Lines.{Line, EmptyLine, EventLine, PartsLine, BranchLine, InnerLine, TurnsLine, WalkLine, NodeLine}
use Rattle.certificate_texts.specs.declared.missing.Level.{Level}
use Rattle.certificate_texts.specs.declared.missing.Level.TheVariants.{Certificates, Stops}
use Rattle.certificate_texts.specs.declared.fault.CertificateFault.{CertificateFault}
use Rattle.certificate_texts.specs.declared.fault.CertificateFault.TheVariants.{Syntax, Limit, NoMemory}
use Rattle.certificate_texts.specs.Readings.{IsShort, IsSyntaxFault}
use Rattle.certificate_texts.specs.Texts.{line_bytes}

-- so many certificates are missing first
abbrev pub certificates_first : ℕ → List Level → List Level
certificates_first zero levels = levels
certificates_first (suc others) levels = Certificates others ∷ levels

-- so many stops are missing first
abbrev pub stops_first : ℕ → List Level → List Level
stops_first zero levels = levels
stops_first (suc others) levels = Stops others ∷ levels

-- what is missing behind a line, where it can stand
abbrev pub levels_behind : List Level → Line → Option (List Level)
levels_behind [] l = None
levels_behind (Certificates others ∷ levels) EmptyLine = Some (certificates_first others levels)
levels_behind (Certificates others ∷ levels) (EventLine place) = Some (certificates_first others levels)
levels_behind (Certificates others ∷ levels) (PartsLine count) = Some (certificates_first count (certificates_first others levels))
levels_behind (Certificates others ∷ levels) (BranchLine index) = Some (certificates_first 1 (certificates_first others levels))
levels_behind (Certificates others ∷ levels) InnerLine = Some (certificates_first 1 (certificates_first others levels))
levels_behind (Certificates others ∷ levels) (TurnsLine count) = Some (certificates_first count (certificates_first others levels))
levels_behind (Certificates others ∷ levels) (WalkLine count) = Some (stops_first count (certificates_first others levels))
levels_behind (Certificates others ∷ levels) (NodeLine node) = None
levels_behind (Stops others ∷ levels) EmptyLine = None
levels_behind (Stops others ∷ levels) (EventLine place) = None
levels_behind (Stops others ∷ levels) (PartsLine count) = None
levels_behind (Stops others ∷ levels) (BranchLine index) = None
levels_behind (Stops others ∷ levels) InnerLine = None
levels_behind (Stops others ∷ levels) (TurnsLine count) = None
levels_behind (Stops others ∷ levels) (WalkLine count) = None
levels_behind (Stops others ∷ levels) (NodeLine node) = Some (certificates_first 1 (stops_first others levels))

-- the bytes are those of this line
pub record IsLine (bytes : List ℕ) (l : Line) : Type 0 where
  pub are : bytes ≡ line_bytes l
  pub short : IsShort l

-- the bytes are those of no line that can stand where this is missing
abbrev pub CannotFollow : List Level → List ℕ → Type 0
CannotFollow levels bytes = (l : Line) → IsLine bytes l → levels_behind levels l ≡ None

-- the lines have this fault
abbrev pub IsFaultIn : List (List ℕ) → CertificateFault → Type 0
IsFaultIn texts (Syntax line) = IsSyntaxFault texts line
IsFaultIn texts (Limit line) = ⊥
IsFaultIn texts NoMemory = Unit {0}
