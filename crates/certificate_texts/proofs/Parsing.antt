-- Lines that are a certificate's are those of the certificate that they are put together to.
use Rattle.std.proofs.Common.{◌≡◌, ◌∙◌, List, ap, sym}
use Rattle.certificates.specs.Certificates.{Certificate}
use Rattle.certificates.specs.Lines.{Line, lines}
use Rattle.certificate_texts.specs.Codes.{certificate_of, certificate_again}

pub lines_parsed : (c : Certificate) (ls : List Line) → lines c ≡ ls → lines (certificate_of ls) ≡ ls
lines_parsed c ls e = ap (λ (ks : List Line). lines (certificate_of ks)) (sym e) ∙ ap lines (certificate_again c) ∙ e

pub only_parsed : (c : Certificate) (ls : List Line) → lines c ≡ ls → certificate_of ls ≡ c
only_parsed c ls e = ap certificate_of (sym e) ∙ certificate_again c
