-- The state of the reader, from line to line.
use Rattle.std.proofs.Common.{◌≡◌, ◌∙◌, inl, inr, ◌+◌, ℕ, Bool, true, false, Some, List, [], ◌∷◌, ◌++◌, length, arith, ap, sym, subst, length-append}
use Rattle.certificate_texts.specs.declared.line.CertificateLine.{CertificateLine}
use Rattle.certificate_texts.specs.declared.missing.Level.{Level}
use Rattle.certificate_texts.specs.declared.missing.Level.TheVariants as level
use Rattle.certificate_texts.specs.Levels.{CannotFollow, IsLine, levels_behind}
use Rattle.certificate_texts.specs.Readings.{IsSyntaxFault, text_lines}
use Rattle.certificate_texts.specs.Texts.{line_of, lines_of}
use Rattle.certificate_texts.proofs.Standing.{HasRead, IsWhole, reads_nothing, reads_line, reads_wrong, reads_lacking, reads_whole}
use Rattle.certificate_texts.proofs.Writing.{lines_behind, lines_length}

-- the lines that are held were read, and the rest of the text is to be read
pub record IsAt (texts : List (List ℕ)) (held : List CertificateLine) (levels : List Level) (rest : List ℕ) (number : ℕ) : Type 0 where
  pub read : HasRead texts (lines_of held) levels (text_lines rest)
  pub count : number ≡ length held + 1

pub starts : (bytes : List ℕ) (held : List CertificateLine) (s : List Level) → held ≡ [] → s ≡ level.Certificates 0 ∷ [] → IsAt (text_lines bytes) held s bytes 1
starts bytes held s e f = record {
  read = subst (λ t. HasRead (text_lines bytes) (lines_of held) t (text_lines bytes)) (sym f)
      (subst (λ (ls : List CertificateLine). HasRead (text_lines bytes) (lines_of ls) (level.Certificates 0 ∷ []) (text_lines bytes)) (sym e) (reads_nothing (text_lines bytes)));
  count = omega (arith, ap length e);
}

pub goes_on : (texts : List (List ℕ)) (held new : List CertificateLine) (s t : List Level) (rest text others : List ℕ) (line : CertificateLine) (n : ℕ)
    → IsAt texts held s rest n → text_lines rest ≡ text ∷ text_lines others → IsLine text (line_of line) × (levels_behind s (line_of line) ≡ Some t) → new ≡ held ++ line ∷ [] → IsAt texts new t others (n + 1)
goes_on texts held new s t rest text others line n h cut follows e = record {
  read =
      let before = subst (HasRead texts (lines_of held) s) cut h.read in
      let after = reads_line texts (lines_of held) s t text (text_lines others) (line_of line) before follows.0 follows.1 in
      subst (λ ls. HasRead texts ls t (text_lines others)) (sym (ap (λ (ls : List CertificateLine). lines_of ls) e ∙ lines_behind held line)) after;
  count = omega (arith, h.count, ap length e, length-append held (line ∷ []));
}

counted : (held : List CertificateLine) (n : ℕ) → n ≡ length held + 1 → length (lines_of held) + 1 ≡ n
counted held n e = omega (arith, e, lines_length held)

pub stops : (texts : List (List ℕ)) (held : List CertificateLine) (s : List Level) (rest text : List ℕ) (others : List (List ℕ)) (n : ℕ)
    → IsAt texts held s rest n → text_lines rest ≡ text ∷ others → CannotFollow s text → IsSyntaxFault texts n
stops texts held s rest text others n h cut cannot =
    let wrong = reads_wrong texts (lines_of held) s text others (subst (HasRead texts (lines_of held) s) cut h.read) cannot in
    subst (IsSyntaxFault texts) (counted held n h.count) (inl wrong)

at_end : (texts : List (List ℕ)) (held : List CertificateLine) (s : List Level) (rest : List ℕ) (n : ℕ) → IsAt texts held s rest n → rest ≡ [] → HasRead texts (lines_of held) s []
at_end texts held s rest n h e = subst (HasRead texts (lines_of held) s) (ap (λ (r : List ℕ). text_lines r) e) h.read

pub lacks : (texts : List (List ℕ)) (held : List CertificateLine) (s : List Level) (rest : List ℕ) (n : ℕ) → IsAt texts held s rest n → rest ≡ [] → (s ≡ [] → ⊥) → IsSyntaxFault texts n
lacks texts held s rest n h e some =
    subst (IsSyntaxFault texts) (counted held n h.count) (inr (reads_lacking texts (lines_of held) s (at_end texts held s rest n h e) some))

pub ends : (texts : List (List ℕ)) (held : List CertificateLine) (s : List Level) (rest : List ℕ) (n : ℕ) → IsAt texts held s rest n → rest ≡ [] → s ≡ [] → IsWhole texts (lines_of held)
ends texts held s rest n h e none = reads_whole texts (lines_of held) s (at_end texts held s rest n h e) none

pub apart : (b : Bool) → b ≡ true → b ≡ false → ⊥
apart b t f = cc
