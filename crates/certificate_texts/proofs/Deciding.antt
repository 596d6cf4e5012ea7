-- Each text is a certificate, or has a fault.
use Rattle.std.proofs.Common.{◌≡◌, ◌∙◌, ◌⊎◌, inl, inr, ◌+◌, ◌^◌, ◌<◌, ◌≤◌, ℕ, Bool, true, false, Option, Some, None, List, [], ◌∷◌, ◌++◌, length, arith, sym, ap, refl, subst}
use Rattle.std.specs.Str.{bytes_eq}
use Rattle.std.proofs.lemmas.Bool.{cases_lt}
use Rattle.std.proofs.lemmas.Slice.Eq.{bytes_eq-Decides}
use Rattle.certificates.specs.Certificates.{Certificate}
use Rattle.certificates.specs.Lines.{Line, EmptyLine, EventLine, PartsLine, BranchLine, InnerLine, TurnsLine, WalkLine, NodeLine, lines}
use Rattle.certificate_texts.specs.declared.fault.CertificateFault.{CertificateFault}
use Rattle.certificate_texts.specs.declared.fault.CertificateFault.TheVariants.{Syntax, Limit}
use Rattle.certificate_texts.specs.declared.fault.TheConstants.{CERTIFICATE_BYTES}
use Rattle.certificate_texts.specs.declared.missing.Level.{Level}
use Rattle.certificate_texts.specs.declared.missing.Level.TheVariants as level
use Rattle.certificate_texts.specs.Levels.{IsLine, levels_behind}
use Rattle.certificate_texts.specs.Readings.{AreLines, IsFaultOf, IsReading, IsShort, IsSyntaxFault, limit_line, text_lines}
use Rattle.certificate_texts.specs.Texts.{line_bytes}
use Rattle.certificate_texts.proofs.LineForms.{line_in, line_in_is}
use Rattle.certificate_texts.proofs.LineReading.{cannot_follow, no_line_follows}
use Rattle.certificate_texts.proofs.Standing.{HasRead, reads_nothing, reads_line, reads_wrong, reads_lacking, reads_whole}

-- ---- one line

is_small : (n : ℕ) → (n < 10 ^ 10) ⊎ (n < 10 ^ 10 → ⊥)
is_small n = elim (cases_lt n (10 ^ 10)) [ inl lt ↦ inl lt | inr le ↦ inr (λ lt. omega (arith, lt, le)) ]

is_short : (l : Line) → IsShort l ⊎ (IsShort l → ⊥)
is_short EmptyLine = inl tt
is_short (EventLine n) = is_small n
is_short (PartsLine n) = is_small n
is_short (BranchLine n) = is_small n
is_short InnerLine = inl tt
is_short (TurnsLine n) = is_small n
is_short (WalkLine n) = is_small n
is_short (NodeLine n) = is_small n

tested : (b : Bool) → (b ≡ true) ⊎ (b ≡ false)
tested true = inl refl
tested false = inr refl

apart : (b : Bool) → b ≡ true → b ≡ false → ⊥
apart b t f = cc

-- the bytes are those of a line, or of none
abbrev IsSome : List ℕ → Type 0
IsSome text = ((l : Line) × IsLine text l) ⊎ ((l : Line) → IsLine text l → ⊥)

line_or_none : (text : List ℕ) → IsSome text
line_or_none text =
    let l = line_in text in
    let same = bytes_eq-Decides text (line_bytes l) in
    elim (tested (bytes_eq text (line_bytes l))) [
      | inl t ↦ elim (is_short l) [
        | inl s ↦ inl (l, record { are = same.0 t; short = s })
        | inr s ↦ inr (λ m h. s (subst IsShort (sym (line_in_is text m h.are h.short)) h.short))
      ]
      | inr f ↦ inr (λ m h. apart (bytes_eq text (line_bytes l)) (same.1 (h.are ∙ ap line_bytes (sym (line_in_is text m h.are h.short)))) f)
    ]

-- ---- all lines

abbrev IsAnswered : List (List ℕ) → Type 0
IsAnswered texts = ((c : Certificate) × AreLines texts (lines c)) ⊎ ((line : ℕ) × IsSyntaxFault texts line)

behind_or_none : (o : Option (List Level)) → ((t : List Level) × (o ≡ Some t)) ⊎ (o ≡ None)
behind_or_none None = inr refl
behind_or_none (Some t) = inl (t, refl)

at_end : (texts : List (List ℕ)) (ls : List Line) (s : List Level) → HasRead texts ls s [] → IsAnswered texts
at_end texts ls [] h = let w = reads_whole texts ls [] h refl in inl (w.certificate, subst (AreLines texts) (sym w.whole) w.are)
at_end texts ls (l ∷ s) h = inr (length ls + 1, inr (reads_lacking texts ls (l ∷ s) h (λ e. absurd (cc))))

at_line : (texts : List (List ℕ)) (ls : List Line) (s : List Level) (text : List ℕ) (rest : List (List ℕ)) → HasRead texts ls s (text ∷ rest)
    → ((ms : List Line) (t : List Level) → HasRead texts ms t rest → IsAnswered texts) → IsAnswered texts
at_line texts ls s text rest h on = elim (line_or_none text) [
  | inl found ↦ elim (behind_or_none (levels_behind s found.0)) [
    | inl after ↦ on (ls ++ found.0 ∷ []) after.0 (reads_line texts ls s after.0 text rest found.0 h found.1 after.1)
    | inr none ↦ inr (length ls + 1, inl (reads_wrong texts ls s text rest h (cannot_follow s text found.0 found.1 none)))
  ]
  | inr none ↦ inr (length ls + 1, inl (reads_wrong texts ls s text rest h (no_line_follows s text none)))
]

answered : (texts : List (List ℕ)) (ls : List Line) (s : List Level) (rest : List (List ℕ)) → HasRead texts ls s rest → IsAnswered texts
answered texts ls s [] h = at_end texts ls s h
answered texts ls s (text ∷ rest) h = at_line texts ls s text rest h (λ ms t k. answered texts ms t rest k)

abbrev pub IsTold : List ℕ → Type 0
IsTold bytes = ((c : Certificate) × IsReading bytes c) ⊎ ((fault : CertificateFault) × IsFaultOf bytes fault)

within : (bytes : List ℕ) → length bytes ≤ CERTIFICATE_BYTES → IsAnswered (text_lines bytes) → IsTold bytes
within bytes le (inl c) = inl (c.0, record { within = le; are = c.1 })
within bytes le (inr f) = inr (Syntax f.0, (le, f.1))

pub some : (bytes : List ℕ) → IsTold bytes
some bytes = elim (cases_lt CERTIFICATE_BYTES (length bytes)) [
  | inl lt ↦ inr (Limit (limit_line bytes), (lt, refl))
  | inr le ↦ within bytes le (answered (text_lines bytes) [] (level.Certificates 0 ∷ []) (text_lines bytes) (reads_nothing (text_lines bytes)))
]
