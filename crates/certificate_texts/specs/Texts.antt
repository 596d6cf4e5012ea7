-- The text of a certificate: one line for each part of it, in front of what it consists of.
use Rattle.std.specs.Prelude.{ℕ, List, [], ◌∷◌, ◌++◌, codes, map}
use Rattle.std.specs.Fmt.{decimal}
use Rattle.certificates.specs.Certificates.{Certificate}
use Rattle.certificates.specs.Lines.{Line, EmptyLine, EventLine, PartsLine, BranchLine, InnerLine, TurnsLine, WalkLine, NodeLine, lines}
use Rattle.certificate_texts.specs.declared.line.CertificateLine.{CertificateLine}
use Rattle.certificate_texts.specs.declared.line.CertificateLine.TheVariants as held

-- the line that code holds so
abbrev pub line_of : CertificateLine → Line
line_of held.Empty = EmptyLine
line_of (held.Event place) = EventLine place
line_of (held.Parts count) = PartsLine count
line_of (held.Branch index) = BranchLine index
line_of held.Inner = InnerLine
line_of (held.Turns count) = TurnsLine count
line_of (held.Walk count) = WalkLine count
line_of (held.Node node) = NodeLine node

abbrev pub lines_of : List CertificateLine → List Line
lines_of ls = map line_of ls

-- the bytes of a line, without its line end
abbrev pub line_bytes : Line → List ℕ
line_bytes EmptyLine = codes "empty"
line_bytes (EventLine place) = codes "event " ++ decimal place
line_bytes (PartsLine count) = codes "parts " ++ decimal count
line_bytes (BranchLine index) = codes "branch " ++ decimal index
line_bytes InnerLine = codes "inner"
line_bytes (TurnsLine count) = codes "turns " ++ decimal count
line_bytes (WalkLine count) = codes "walk " ++ decimal count
line_bytes (NodeLine node) = codes "node " ++ decimal node

-- the bytes of lines, each with its line end
abbrev pub bytes_of_lines : List Line → List ℕ
bytes_of_lines [] = []
bytes_of_lines (l ∷ ls) = line_bytes l ++ (10 ∷ bytes_of_lines ls)

-- the text of a certificate
abbrev pub certificate_bytes : Certificate → List ℕ
certificate_bytes c = bytes_of_lines (lines c)
