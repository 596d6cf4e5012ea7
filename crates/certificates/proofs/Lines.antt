-- Lines are of one certificate at most.
use Rattle.std.specs.Prelude.{ℕ, zero, suc, List, ◌∷◌, ◌++◌, ◌≡◌, refl}
use Rattle.std.proofs.Common.{ap, ap₂, append_assoc}
use Rattle.certificates.specs.Certificates.{Certificate, Empty, EventAt, Parts, Branch, Inner, Turns, Nodes, Certificates, no_certificates, certificate_and, count, Stops, no_stops, stop_and}
use Rattle.certificates.specs.Lines.{Line, EmptyLine, EventLine, PartsLine, BranchLine, InnerLine, TurnsLine, WalkLine, NodeLine, stop_count, lines, lines_of_all, lines_of_stops, LinesAreExact}

-- the first lines are those of the certificate, and the second list is the rest
mutual
  data Reads : List Line → Certificate → List Line → Type 0 where
    reads_empty : {r : List Line} → Reads (EmptyLine ∷ r) Empty r
    reads_event : {n : ℕ} {r : List Line} → Reads (EventLine n ∷ r) (EventAt n) r
    reads_parts : {n : ℕ} {cs : Certificates} {l r : List Line} → ReadsAll n l cs r → Reads (PartsLine n ∷ l) (Parts cs) r
    reads_branch : {i : ℕ} {c : Certificate} {l r : List Line} → Reads l c r → Reads (BranchLine i ∷ l) (Branch i c) r
    reads_inner : {c : Certificate} {l r : List Line} → Reads l c r → Reads (InnerLine ∷ l) (Inner c) r
    reads_turns : {n : ℕ} {cs : Certificates} {l r : List Line} → ReadsAll n l cs r → Reads (TurnsLine n ∷ l) (Turns cs) r
    reads_nodes : {n : ℕ} {ss : Stops} {l r : List Line} → ReadsStops n l ss r → Reads (WalkLine n ∷ l) (Nodes ss) r

  data ReadsAll : ℕ → List Line → Certificates → List Line → Type 0 where
    reads_none : {r : List Line} → ReadsAll zero r no_certificates r
    reads_more : {n : ℕ} {c : Certificate} {cs : Certificates} {l k r : List Line} → Reads l c k → ReadsAll n k cs r → ReadsAll (suc n) l (certificate_and c cs) r

  data ReadsStops : ℕ → List Line → Stops → List Line → Type 0 where
    reads_no_stop : {r : List Line} → ReadsStops zero r no_stops r
    reads_stop : {n m : ℕ} {c : Certificate} {ss : Stops} {l k r : List Line} → Reads l c k → ReadsStops n k ss r → ReadsStops (suc n) (NodeLine m ∷ l) (stop_and m c ss) r

mutual
  reads_lines : (c : Certificate) (r : List Line) → Reads (lines c ++ r) c r
  reads_lines Empty r = reads_empty
  reads_lines (EventAt n) r = reads_event
  reads_lines (Parts cs) r = reads_parts (reads_all cs r)
  reads_lines (Branch i c) r = reads_branch (reads_lines c r)
  reads_lines (Inner c) r = reads_inner (reads_lines c r)
  reads_lines (Turns cs) r = reads_turns (reads_all cs r)
  reads_lines (Nodes ss) r = reads_nodes (reads_stops ss r)

  reads_all : (cs : Certificates) (r : List Line) → ReadsAll (count cs) (lines_of_all cs ++ r) cs r
  reads_all no_certificates r = reads_none
  reads_all (certificate_and c cs) r = reads_more (rw (append_assoc (lines c) (lines_of_all cs) r) (reads_lines c (lines_of_all cs ++ r))) (reads_all cs r)

  reads_stops : (ss : Stops) (r : List Line) → ReadsStops (stop_count ss) (lines_of_stops ss ++ r) ss r
  reads_stops no_stops r = reads_no_stop
  reads_stops (stop_and m c ss) r = reads_stop (rw (append_assoc (lines c) (lines_of_stops ss) r) (reads_lines c (lines_of_stops ss ++ r))) (reads_stops ss r)

-- reading gives one answer at most
mutual
  one_read : {l r s : List Line} {c d : Certificate} → Reads l c r → Reads l d s → (c ≡ d) × (r ≡ s)
  one_read reads_empty reads_empty = (refl, refl)
  one_read reads_event reads_event = (refl, refl)
  one_read (reads_parts h) (reads_parts k) = let (p, q) = all_read h k in (ap Parts p, q)
  one_read (reads_branch {i = i} h) (reads_branch k) = let (p, q) = one_read h k in (ap (λ c. Branch i c) p, q)
  one_read (reads_inner h) (reads_inner k) = let (p, q) = one_read h k in (ap Inner p, q)
  one_read (reads_turns h) (reads_turns k) = let (p, q) = all_read h k in (ap Turns p, q)
  one_read (reads_nodes h) (reads_nodes k) = let (p, q) = stops_read h k in (ap Nodes p, q)

  all_read : {n : ℕ} {l r s : List Line} {cs ds : Certificates} → ReadsAll n l cs r → ReadsAll n l ds s → (cs ≡ ds) × (r ≡ s)
  all_read reads_none reads_none = (refl, refl)
  all_read (reads_more h g) (reads_more k f) =
      let (p, q) = one_read h k in
      let (u, v) = all_read g (rw q f) in
      (ap₂ (λ c cs. certificate_and c cs) p u, v)

  stops_read : {n : ℕ} {l r s : List Line} {ss us : Stops} → ReadsStops n l ss r → ReadsStops n l us s → (ss ≡ us) × (r ≡ s)
  stops_read reads_no_stop reads_no_stop = (refl, refl)
  stops_read (reads_stop {m = m} h g) (reads_stop k f) =
      let (p, q) = one_read h k in
      let (u, v) = stops_read g (rw q f) in
      (ap₂ (λ c ss. stop_and m c ss) p u, v)

pub lines_are_exact : LinesAreExact
lines_are_exact = record { one = λ c d r s e. one_read (reads_lines c r) (rw e (reads_lines d s)) }
