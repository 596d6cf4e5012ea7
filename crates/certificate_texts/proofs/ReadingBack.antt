-- What was printed is read again.
use Rattle.std.proofs.Common.{◌≡◌, ◌∙◌, List, [], ◌∷◌, map, All, ap, refl}
use Rattle.std.proofs.lemmas.List.Elements.{All-head, All-tail}
use Rattle.certificates.specs.Lines.{Line, lines}
use Rattle.certificate_texts.specs.Readings.{IsShort, text_lines}
use Rattle.certificate_texts.specs.TextLaws.{TextsReadBack}
use Rattle.certificate_texts.specs.Texts.{bytes_of_lines, line_bytes}
use Rattle.certificate_texts.proofs.Cutting.{line_first}
use Rattle.certificate_texts.proofs.LineForms.{free_line}

lines_back : (ls : List Line) → All IsShort ls → text_lines (bytes_of_lines ls) ≡ map line_bytes ls
lines_back [] short = refl
lines_back (l ∷ ls) short =
    line_first (line_bytes l) (bytes_of_lines ls) (free_line l (All-head IsShort l ls short))
    ∙ ap (λ ks. line_bytes l ∷ ks) (lines_back ls (All-tail IsShort l ls short))

pub texts_read_back : TextsReadBack
texts_read_back c within short = record { within = within; are = record { bytes = lines_back (lines c) short; short = short } }
