-- The certificate of which these are the lines, and a code for certificates, by which proofs tell their values apart.
use Rattle.std.specs.Prelude.{ℕ, zero, suc, List, [], ◌∷◌, ◌++◌, ◌≡◌, drop, nat_eq, if◌then◌else◌, refl}
use Rattle.std.specs.Coded.{Coded, code_by, coded×, coded_list, coded_ℕ}
use Rattle.std.proofs.Common.{ap, ap₂, sym, ◌∙◌, append_assoc, append-nil}
use Rattle.certificates.specs.Certificates.{Certificate, Empty, EventAt, Parts, Branch, Inner, Turns, Nodes, Certificates, no_certificates, certificate_and, count, Stops, no_stops, stop_and}
use Rattle.certificates.specs.Lines.{Line, EmptyLine, EventLine, PartsLine, BranchLine, InnerLine, TurnsLine, WalkLine, NodeLine, stop_count, lines, lines_of_all, lines_of_stops}

-- what lines are put together to, from the last one on: certificates, and stops
pub data Piece : Type 0 where
  whole : Certificate → Piece
  stop : ℕ → Certificate → Piece

abbrev pub certificate_in : Piece → Certificate
certificate_in (whole c) = c
certificate_in (stop node c) = c

-- the certificate in the first piece
abbrev pub first_certificate : List Piece → Certificate
first_certificate [] = Empty
first_certificate (p ∷ ps) = certificate_in p

-- those in the first pieces, so many
abbrev pub certificates_in : ℕ → List Piece → Certificates
certificates_in zero ps = no_certificates
certificates_in (suc n) [] = no_certificates
certificates_in (suc n) (p ∷ ps) = certificate_and (certificate_in p) (certificates_in n ps)

-- the stops in the first pieces, so many
abbrev pub stops_in : ℕ → List Piece → Stops
stops_in zero ps = no_stops
stops_in (suc n) [] = no_stops
stops_in (suc n) (whole c ∷ ps) = no_stops
stops_in (suc n) (stop node c ∷ ps) = stop_and node c (stops_in n ps)

-- the pieces of lines
abbrev pub pieces : List Line → List Piece
pieces [] = []
pieces (EmptyLine ∷ ls) = whole Empty ∷ pieces ls
pieces (EventLine place ∷ ls) = whole (EventAt place) ∷ pieces ls
pieces (PartsLine n ∷ ls) = whole (Parts (certificates_in n (pieces ls))) ∷ drop n (pieces ls)
pieces (BranchLine index ∷ ls) = whole (Branch index (first_certificate (pieces ls))) ∷ drop 1 (pieces ls)
pieces (InnerLine ∷ ls) = whole (Inner (first_certificate (pieces ls))) ∷ drop 1 (pieces ls)
pieces (TurnsLine n ∷ ls) = whole (Turns (certificates_in n (pieces ls))) ∷ drop n (pieces ls)
pieces (WalkLine n ∷ ls) = whole (Nodes (stops_in n (pieces ls))) ∷ drop n (pieces ls)
pieces (NodeLine node ∷ ls) = stop node (first_certificate (pieces ls)) ∷ drop 1 (pieces ls)

-- the certificate of which these are the lines, where they are one's
abbrev pub certificate_of : List Line → Certificate
certificate_of ls = first_certificate (pieces ls)

mutual
  pub pieces_of : (c : Certificate) (ls : List Line) → pieces (lines c ++ ls) ≡ whole c ∷ pieces ls
  pieces_of Empty ls = refl
  pieces_of (EventAt place) ls = refl
  pieces_of (Parts cs) ls = let h = pieces_of_all cs ls in ap₂ (λ us ps. whole (Parts us) ∷ ps) h.0 h.1
  pieces_of (Branch index c) ls = ap (λ ps. whole (Branch index (first_certificate ps)) ∷ drop 1 ps) (pieces_of c ls)
  pieces_of (Inner c) ls = ap (λ ps. whole (Inner (first_certificate ps)) ∷ drop 1 ps) (pieces_of c ls)
  pieces_of (Turns cs) ls = let h = pieces_of_all cs ls in ap₂ (λ us ps. whole (Turns us) ∷ ps) h.0 h.1
  pieces_of (Nodes ss) ls = let h = pieces_of_stops ss ls in ap₂ (λ us ps. whole (Nodes us) ∷ ps) h.0 h.1

  pub pieces_of_all : (cs : Certificates) (ls : List Line) → (certificates_in (count cs) (pieces (lines_of_all cs ++ ls)) ≡ cs) × (drop (count cs) (pieces (lines_of_all cs ++ ls)) ≡ pieces ls)
  pieces_of_all no_certificates ls = (refl, refl)
  pieces_of_all (certificate_and c cs) ls =
      let here : pieces ((lines c ++ lines_of_all cs) ++ ls) ≡ whole c ∷ pieces (lines_of_all cs ++ ls) = ap pieces (append_assoc (lines c) (lines_of_all cs) ls) ∙ pieces_of c (lines_of_all cs ++ ls) in
      let h = pieces_of_all cs ls in
      (ap (certificates_in (suc (count cs))) here ∙ ap (certificate_and c) h.0, ap (drop (suc (count cs))) here ∙ h.1)

  pub pieces_of_stops : (ss : Stops) (ls : List Line) → (stops_in (stop_count ss) (pieces (lines_of_stops ss ++ ls)) ≡ ss) × (drop (stop_count ss) (pieces (lines_of_stops ss ++ ls)) ≡ pieces ls)
  pieces_of_stops no_stops ls = (refl, refl)
  pieces_of_stops (stop_and node c ss) ls =
      let behind : pieces ((lines c ++ lines_of_stops ss) ++ ls) ≡ whole c ∷ pieces (lines_of_stops ss ++ ls) = ap pieces (append_assoc (lines c) (lines_of_stops ss) ls) ∙ pieces_of c (lines_of_stops ss ++ ls) in
      let here : pieces (NodeLine node ∷ ((lines c ++ lines_of_stops ss) ++ ls)) ≡ stop node c ∷ pieces (lines_of_stops ss ++ ls) = ap (λ ps. stop node (first_certificate ps) ∷ drop 1 ps) behind in
      let h = pieces_of_stops ss ls in
      (ap (stops_in (suc (stop_count ss))) here ∙ ap (stop_and node c) h.0, ap (drop (suc (stop_count ss))) here ∙ h.1)

-- a certificate's lines are told apart from those of others
pub certificate_again : (c : Certificate) → certificate_of (lines c) ≡ c
certificate_again c = ap certificate_of (sym (append-nil (lines c))) ∙ ap first_certificate (pieces_of c [])

-- a line as its kind and its number
abbrev pub kind : Line → ℕ
kind EmptyLine = 0
kind (EventLine place) = 1
kind (PartsLine n) = 2
kind (BranchLine index) = 3
kind InnerLine = 4
kind (TurnsLine n) = 5
kind (WalkLine n) = 6
kind (NodeLine node) = 7

abbrev pub number : Line → ℕ
number EmptyLine = 0
number (EventLine place) = place
number (PartsLine n) = n
number (BranchLine index) = index
number InnerLine = 0
number (TurnsLine n) = n
number (WalkLine n) = n
number (NodeLine node) = node

abbrev pub line_from : ℕ → ℕ → Line
line_from k n =
    if nat_eq k 0 then EmptyLine
    else if nat_eq k 1 then EventLine n
    else if nat_eq k 2 then PartsLine n
    else if nat_eq k 3 then BranchLine n
    else if nat_eq k 4 then InnerLine
    else if nat_eq k 5 then TurnsLine n
    else if nat_eq k 6 then WalkLine n
    else NodeLine n

pub line_again : (l : Line) → line_from (kind l) (number l) ≡ l
line_again EmptyLine = refl
line_again (EventLine place) = refl
line_again (PartsLine n) = refl
line_again (BranchLine index) = refl
line_again InnerLine = refl
line_again (TurnsLine n) = refl
line_again (WalkLine n) = refl
line_again (NodeLine node) = refl

-- lines as pairs of these
abbrev pub line_codes : List Line → List (ℕ × ℕ)
line_codes [] = []
line_codes (l ∷ ls) = (kind l, number l) ∷ line_codes ls

abbrev pub lines_from : List (ℕ × ℕ) → List Line
lines_from [] = []
lines_from (p ∷ ps) = line_from p.0 p.1 ∷ lines_from ps

pub lines_again : (ls : List Line) → lines_from (line_codes ls) ≡ ls
lines_again [] = refl
lines_again (l ∷ ls) = ap₂ (λ k ks. k ∷ ks) (line_again l) (lines_again ls)

pub coded_again : (c : Certificate) → certificate_of (lines_from (line_codes (lines c))) ≡ c
coded_again c = ap certificate_of (lines_again (lines c)) ∙ certificate_again c

-- a certificate is told by its lines
abbrev pub coded_certificate : Coded Certificate
coded_certificate = code_by (List (ℕ × ℕ)) (coded_list (coded× coded_ℕ coded_ℕ)) (λ c. line_codes (lines c)) (λ ps. certificate_of (lines_from ps)) coded_again
