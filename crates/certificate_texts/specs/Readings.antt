-- Which certificate a text is, and which fault it has where it is none.
use Rattle.std.specs.Prelude.{ℕ, ◌+◌, ◌^◌, ◌<◌, ◌≤◌, ◌≡◌, ◌⊎◌, List, ◌++◌, All, length, map, take}
use Rattle.event_log.specs.Lines.{cut_of, last_line}
use Rattle.certificates.specs.Certificates.{Certificate}
use Rattle.certificates.specs.Lines.{Line, EmptyLine, EventLine, PartsLine, BranchLine, InnerLine, TurnsLine, WalkLine, NodeLine, lines}
use Rattle.certificate_texts.specs.declared.fault.CertificateFault.{CertificateFault}
use Rattle.certificate_texts.specs.declared.fault.CertificateFault.TheVariants.{Syntax, Limit, NoMemory}
use Rattle.certificate_texts.specs.declared.fault.TheConstants.{CERTIFICATE_BYTES}
use Rattle.certificate_texts.specs.Texts.{line_bytes}

-- the lines of a text are cut as those of a log are: the last may lack its line end
abbrev pub text_lines : List ℕ → List (List ℕ)
text_lines bytes = (cut_of bytes).ended ++ last_line (cut_of bytes).tail

-- a number in the line has ten digits at most
abbrev pub IsShort : Line → Type 0
IsShort EmptyLine = Unit {0}
IsShort (EventLine place) = place < 10 ^ 10
IsShort (PartsLine count) = count < 10 ^ 10
IsShort (BranchLine index) = index < 10 ^ 10
IsShort InnerLine = Unit {0}
IsShort (TurnsLine count) = count < 10 ^ 10
IsShort (WalkLine count) = count < 10 ^ 10
IsShort (NodeLine node) = node < 10 ^ 10

-- the lines of the text are these
pub record AreLines (texts : List (List ℕ)) (ls : List Line) : Type 0 where
  pub bytes : texts ≡ map line_bytes ls
  pub short : All IsShort ls

-- the lines of the text begin a certificate: with these others behind them they are the lines of one
pub record CanStand (texts : List (List ℕ)) : Type 0 where
  pub begun : List Line
  pub are : AreLines texts begun
  pub certificate : Certificate
  pub others : List Line
  pub whole : lines certificate ≡ begun ++ others

-- the text is this certificate's
pub record IsReading (bytes : List ℕ) (c : Certificate) : Type 0 where
  pub within : length bytes ≤ CERTIFICATE_BYTES
  pub are : AreLines (text_lines bytes) (lines c)

-- the line is the first that can't stand there: those before it begin a certificate, and with it they begin none
pub record IsWrongLine (texts : List (List ℕ)) (line : ℕ) : Type 0 where
  pub before : ℕ
  pub number : line ≡ before + 1
  pub there : before < length texts
  pub stand : CanStand (take before texts)
  pub wrong : CanStand (take (before + 1) texts) → ⊥

-- lines are missing: those that there are begin a certificate, and are none; the line is the one behind them
pub record LacksLines (texts : List (List ℕ)) (line : ℕ) : Type 0 where
  pub number : line ≡ length texts + 1
  pub stand : CanStand texts
  pub unfinished : (c : Certificate) → AreLines texts (lines c) → ⊥

-- the line that holds the first byte behind the limit
abbrev pub limit_line : List ℕ → ℕ
limit_line bytes = length (cut_of (take CERTIFICATE_BYTES bytes)).ended + 1

-- the line is the first that can't stand there or is one too many, or the one behind the last where lines are missing
abbrev pub IsSyntaxFault : List (List ℕ) → ℕ → Type 0
IsSyntaxFault texts line = IsWrongLine texts line ⊎ LacksLines texts line

-- the text has this fault, and the fault isn't want of memory
abbrev pub IsFaultOf : List ℕ → CertificateFault → Type 0
IsFaultOf bytes (Syntax line) = (length bytes ≤ CERTIFICATE_BYTES) × IsSyntaxFault (text_lines bytes) line
IsFaultOf bytes (Limit line) = (CERTIFICATE_BYTES < length bytes) × (line ≡ limit_line bytes)
IsFaultOf bytes NoMemory = ⊥
