-- A text is one certificate at most, or has one fault at most, and never both.
use Rattle.std.proofs.Common.{◌≡◌, ◌∙◌, ◌+◌, ◌<◌, ◌⊎◌, inl, inr, ℕ, List, take, Result, Ok, Err, IfOk, IfErr, MatchResult, arith, sym, ap, subst}
use Rattle.std.proofs.lemmas.Bool.{cases_lt}
use Rattle.std.proofs.lemmas.List.{take-take}
use Rattle.certificates.specs.Certificates.{Certificate}
use Rattle.certificates.specs.Lines.{lines}
use Rattle.certificate_texts.specs.declared.fault.CertificateFault.{CertificateFault}
use Rattle.certificate_texts.specs.declared.fault.CertificateFault.TheVariants.{Syntax, Limit, NoMemory}
use Rattle.certificate_texts.specs.Readings.{AreLines, CanStand, IsFaultOf, IsReading, IsSyntaxFault, IsWrongLine, text_lines}
use Rattle.certificate_texts.specs.TextLaws.{ReadingsAreExact}
use Rattle.certificate_texts.proofs.Deciding.{some}
use Rattle.certificate_texts.proofs.Standing.{taken_stands, whole_stands, same_text, same_certificate}

one : (bytes : List ℕ) (c d : Certificate) → IsReading bytes c → IsReading bytes d → c ≡ d
one bytes c d h k = same_certificate c d (same_text (text_lines bytes) (lines c) (lines d) h.are k.are)

not_wrong : (texts : List (List ℕ)) (line : ℕ) → CanStand texts → IsWrongLine texts line → ⊥
not_wrong texts line stands w = w.wrong (taken_stands texts (w.before + 1) stands)

none_in : (texts : List (List ℕ)) (c : Certificate) (line : ℕ) → AreLines texts (lines c) → IsSyntaxFault texts line → ⊥
none_in texts c line h (inl w) = not_wrong texts line (whole_stands texts c h) w
none_in texts c line h (inr k) = k.unfinished c h

none : (bytes : List ℕ) (c : Certificate) (fault : CertificateFault) → IsReading bytes c → IsFaultOf bytes fault → ⊥
none bytes c (Syntax line) h f = none_in (text_lines bytes) c line h.are f.1
none bytes c (Limit line) h f = omega (arith, h.within, f.0)
none bytes c NoMemory h f = f

-- the lines up to the later of two wrong ones can't stand
not_later : (texts : List (List ℕ)) (k m : ℕ) (w : IsWrongLine texts k) (v : IsWrongLine texts m) → w.before < v.before → ⊥
not_later texts k m w v lt = w.wrong (subst CanStand (take-take (w.before + 1) v.before texts (omega arith)) (taken_stands (take v.before texts) (w.before + 1) v.stand))

alone_in : (texts : List (List ℕ)) (k m : ℕ) → IsSyntaxFault texts k → IsSyntaxFault texts m → k ≡ m
alone_in texts k m (inl w) (inl v) = elim (cases_lt w.before v.before) [
  | inl lt ↦ absurd (not_later texts k m w v lt)
  | inr le ↦ elim (cases_lt v.before w.before) [
    | inl lt ↦ absurd (not_later texts m k v w lt)
    | inr other ↦ omega (arith, w.number, v.number)
  ]
]
alone_in texts k m (inl w) (inr l) = absurd (not_wrong texts k l.stand w)
alone_in texts k m (inr l) (inl w) = absurd (not_wrong texts m l.stand w)
alone_in texts k m (inr l) (inr o) = l.number ∙ sym o.number

same_syntax : (k m : ℕ) → k ≡ m → Syntax k ≡ Syntax m
same_syntax k m e = ap Syntax e

alone : (bytes : List ℕ) (fault other : CertificateFault) → IsFaultOf bytes fault → IsFaultOf bytes other → fault ≡ other
alone bytes (Syntax k) (Syntax m) h f = same_syntax k m (alone_in (text_lines bytes) k m h.1 f.1)
alone bytes (Syntax k) (Limit m) h f = absurd (omega (arith, h.0, f.0))
alone bytes (Limit k) (Syntax m) h f = absurd (omega (arith, h.0, f.0))
alone bytes (Limit k) (Limit m) h f = ap Limit (h.1 ∙ sym f.1)
alone bytes NoMemory other h f = absurd h
alone bytes (Syntax k) NoMemory h f = absurd f
alone bytes (Limit k) NoMemory h f = absurd f

-- ---- what follows for an answer

pub only_read : (bytes : List ℕ) (r : Result Certificate CertificateFault) → IfOk r (IsReading bytes) → IfErr r (λ told. (told ≡ NoMemory) ⊎ IsFaultOf bytes told)
    → (c : Certificate) → IsReading bytes c → MatchResult r (λ read. read ≡ c) (λ told. told ≡ NoMemory)
only_read bytes (Ok d) h f c k = one bytes d c h k
only_read bytes (Err e) h (inl m) c k = m
only_read bytes (Err e) h (inr f) c k = absurd (none bytes c e k f)

pub only_fault : (bytes : List ℕ) (r : Result Certificate CertificateFault) → IfOk r (IsReading bytes) → IfErr r (λ told. (told ≡ NoMemory) ⊎ IsFaultOf bytes told)
    → (other : CertificateFault) → IsFaultOf bytes other → MatchResult r (λ _. ⊥) (λ told. (told ≡ NoMemory) ⊎ (told ≡ other))
only_fault bytes (Ok d) h f other k = none bytes d other h k
only_fault bytes (Err e) h (inl m) other k = inl m
only_fault bytes (Err e) h (inr f) other k = inr (alone bytes e other f k)

pub readings_are_exact : ReadingsAreExact
readings_are_exact = record { some = some; one = one; none = none; alone = alone }
