-- What holds of texts of certificates, and of how they are read.
use Rattle.std.specs.Prelude.{ℕ, ◌≤◌, ◌≡◌, ◌⊎◌, List, All, length}
use Rattle.certificates.specs.Certificates.{Certificate}
use Rattle.certificates.specs.Lines.{lines}
use Rattle.certificate_texts.specs.declared.fault.CertificateFault.{CertificateFault}
use Rattle.certificate_texts.specs.declared.fault.TheConstants.{CERTIFICATE_BYTES}
use Rattle.certificate_texts.specs.Texts.{certificate_bytes}
use Rattle.certificate_texts.specs.Readings.{IsShort, IsReading, IsFaultOf}

-- what was printed is the certificate's text, where it is within the limit and its numbers have ten digits at most
abbrev pub TextsReadBack : Type 0
TextsReadBack = (c : Certificate) → length (certificate_bytes c) ≤ CERTIFICATE_BYTES → All IsShort (lines c) → IsReading (certificate_bytes c) c

-- a text is one certificate, or has one fault, and never both
pub record ReadingsAreExact : Type 0 where
  pub some : (bytes : List ℕ) → ((c : Certificate) × IsReading bytes c) ⊎ ((fault : CertificateFault) × IsFaultOf bytes fault)
  pub one : (bytes : List ℕ) (c d : Certificate) → IsReading bytes c → IsReading bytes d → c ≡ d
  pub none : (bytes : List ℕ) (c : Certificate) (fault : CertificateFault) → IsReading bytes c → IsFaultOf bytes fault → ⊥
  pub alone : (bytes : List ℕ) (fault other : CertificateFault) → IsFaultOf bytes fault → IsFaultOf bytes other → fault ≡ other
