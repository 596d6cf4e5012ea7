-- What completes the lines so far, by what is missing.
use Rattle.std.proofs.Common.{◌≡◌, ◌∙◌, ℕ, zero, suc, Option, Some, None, List, [], ◌∷◌, ◌++◌, arith, sym, ap, ap₂, refl, subst, append_assoc, append-nil}
use Rattle.certificates.specs.Certificates.{Certificate, Empty, EventAt, Parts, Branch, Inner, Turns, Nodes, Certificates, no_certificates, certificate_and, count, Stops, no_stops, stop_and}
use Rattle.certificates.specs.Lines.{Line, EmptyLine, EventLine, PartsLine, BranchLine, InnerLine, TurnsLine, WalkLine, NodeLine, stop_count, lines, lines_of_all, lines_of_stops}
use Rattle.certificate_texts.specs.declared.missing.Level.{Level}
use Rattle.certificate_texts.specs.declared.missing.Level.TheVariants as level
use Rattle.certificate_texts.specs.Levels.{certificates_first, stops_first, levels_behind}

-- lines of so many certificates, and behind them lines with a property
pub record CertificatesThen (n : ℕ) (P : List Line → Type 0) (more : List Line) : Type 0 where
  pub parts : Certificates
  pub number : count parts ≡ n
  pub rest : List Line
  pub are : more ≡ lines_of_all parts ++ rest
  pub holds : P rest

-- lines of so many stops, and behind them lines with a property
pub record StopsThen (n : ℕ) (P : List Line → Type 0) (more : List Line) : Type 0 where
  pub parts : Stops
  pub number : stop_count parts ≡ n
  pub rest : List Line
  pub are : more ≡ lines_of_stops parts ++ rest
  pub holds : P rest

-- these lines are what is missing
abbrev pub Completes : List Level → List Line → Type 0
Completes [] more = more ≡ []
Completes (level.Certificates others ∷ levels) more = CertificatesThen (suc others) (Completes levels) more
Completes (level.Stops others ∷ levels) more = StopsThen (suc others) (Completes levels) more

-- ---- so many first

none_there : (cs : Certificates) → count cs ≡ 0 → lines_of_all cs ≡ []
none_there no_certificates e = refl
none_there (certificate_and c cs) e = absurd (omega (arith, e))

no_stops_there : (ss : Stops) → stop_count ss ≡ 0 → lines_of_stops ss ≡ []
no_stops_there no_stops e = refl
no_stops_there (stop_and m c ss) e = absurd (omega (arith, e))

certificates_to : (n : ℕ) (s : List Level) (more : List Line) → Completes (certificates_first n s) more → CertificatesThen n (Completes s) more
certificates_to zero s more h = record { parts = no_certificates; number = refl; rest = more; are = refl; holds = h }
certificates_to (suc n) s more h = h

certificates_from : (n : ℕ) (s : List Level) (more : List Line) → CertificatesThen n (Completes s) more → Completes (certificates_first n s) more
certificates_from zero s more h = subst (Completes s) (sym (h.are ∙ ap (λ ls. ls ++ h.rest) (none_there h.parts h.number))) h.holds
certificates_from (suc n) s more h = h

stops_to : (n : ℕ) (s : List Level) (more : List Line) → Completes (stops_first n s) more → StopsThen n (Completes s) more
stops_to zero s more h = record { parts = no_stops; number = refl; rest = more; are = refl; holds = h }
stops_to (suc n) s more h = h

stops_from : (n : ℕ) (s : List Level) (more : List Line) → StopsThen n (Completes s) more → Completes (stops_first n s) more
stops_from zero s more h = subst (Completes s) (sym (h.are ∙ ap (λ ls. ls ++ h.rest) (no_stops_there h.parts h.number))) h.holds
stops_from (suc n) s more h = h

-- ---- one certificate

one_there : (cs : Certificates) → count cs ≡ 1 → (c : Certificate) × (lines_of_all cs ≡ lines c)
one_there no_certificates e = absurd (omega (arith, e))
one_there (certificate_and c no_certificates) e = (c, append-nil (lines c))
one_there (certificate_and c (certificate_and d ds)) e = absurd (omega (arith, e))

-- the first line of a certificate, and those behind it
abbrev head_line : Certificate → Line
head_line Empty = EmptyLine
head_line (EventAt n) = EventLine n
head_line (Parts cs) = PartsLine (count cs)
head_line (Branch i c) = BranchLine i
head_line (Inner c) = InnerLine
head_line (Turns cs) = TurnsLine (count cs)
head_line (Nodes ss) = WalkLine (stop_count ss)

abbrev tail_lines : Certificate → List Line
tail_lines Empty = []
tail_lines (EventAt n) = []
tail_lines (Parts cs) = lines_of_all cs
tail_lines (Branch i c) = lines c
tail_lines (Inner c) = lines c
tail_lines (Turns cs) = lines_of_all cs
tail_lines (Nodes ss) = lines_of_stops ss

lines_are : (c : Certificate) → lines c ≡ head_line c ∷ tail_lines c
lines_are Empty = refl
lines_are (EventAt n) = refl
lines_are (Parts cs) = refl
lines_are (Branch i c) = refl
lines_are (Inner c) = refl
lines_are (Turns cs) = refl
lines_are (Nodes ss) = refl

-- ---- one line

-- what completes the levels behind a line, if it can stand
abbrev CompletesSome : Option (List Level) → List Line → Type 0
CompletesSome None more = ⊥
CompletesSome (Some levels) more = Completes levels more

head_is : (a b : Line) (r s : List Line) → a ∷ r ≡ b ∷ s → a ≡ b
head_is a b r s e = cc

tail_is : (a b : Line) (r s : List Line) → a ∷ r ≡ b ∷ s → r ≡ s
tail_is a b r s e = cc

one_first : (c : Certificate) (s : List Level) (rest : List Line) → Completes s rest → Completes (certificates_first 1 s) (lines c ++ rest)
one_first c s rest h = record {
  parts = certificate_and c no_certificates;
  number = refl;
  rest = rest;
  are = ap (λ ls. ls ++ rest) (sym (append-nil (lines c)));
  holds = h;
}

-- behind the first line of a certificate its other lines complete
begun : (c : Certificate) (others : ℕ) (s : List Level) (rest : List Line) → Completes (certificates_first others s) rest → CompletesSome (levels_behind (level.Certificates others ∷ s) (head_line c)) (tail_lines c ++ rest)
begun Empty others s rest h = h
begun (EventAt n) others s rest h = h
begun (Parts cs) others s rest h = certificates_from (count cs) (certificates_first others s) (lines_of_all cs ++ rest) (record { parts = cs; number = refl; rest = rest; are = refl; holds = h })
begun (Branch i c) others s rest h = one_first c (certificates_first others s) rest h
begun (Inner c) others s rest h = one_first c (certificates_first others s) rest h
begun (Turns cs) others s rest h = certificates_from (count cs) (certificates_first others s) (lines_of_all cs ++ rest) (record { parts = cs; number = refl; rest = rest; are = refl; holds = h })
begun (Nodes ss) others s rest h = stops_from (stop_count ss) (certificates_first others s) (lines_of_stops ss ++ rest) (record { parts = ss; number = refl; rest = rest; are = refl; holds = h })

part_taken : (l : Line) (others : ℕ) (s : List Level) (more : List Line) (cs : Certificates) (rest : List Line) → count cs ≡ suc others → l ∷ more ≡ lines_of_all cs ++ rest → Completes s rest
    → CompletesSome (levels_behind (level.Certificates others ∷ s) l) more
part_taken l others s more no_certificates rest n e h = absurd (omega (arith, n))
part_taken l others s more (certificate_and c cs) rest n e h =
    let all : l ∷ more ≡ head_line c ∷ (tail_lines c ++ (lines_of_all cs ++ rest)) =
    e ∙ append_assoc (lines c) (lines_of_all cs) rest ∙ ap (λ ls. ls ++ (lines_of_all cs ++ rest)) (lines_are c) in
    let first : l ≡ head_line c = head_is l (head_line c) more (tail_lines c ++ (lines_of_all cs ++ rest)) all in
    let behind : more ≡ tail_lines c ++ (lines_of_all cs ++ rest) = tail_is l (head_line c) more (tail_lines c ++ (lines_of_all cs ++ rest)) all in
    let after = certificates_from others s (lines_of_all cs ++ rest) (record { parts = cs; number = omega (arith, n); rest = rest; are = refl; holds = h }) in
    subst (λ k. CompletesSome (levels_behind (level.Certificates others ∷ s) k) more) (sym first)
    (subst (CompletesSome (levels_behind (level.Certificates others ∷ s) (head_line c))) (sym behind) (begun c others s (lines_of_all cs ++ rest) after))

-- a certificate whose first line is this one completes with what is behind it
part_given : (c : Certificate) (others : ℕ) (s : List Level) (more rest : List Line) → more ≡ tail_lines c ++ rest → Completes (certificates_first others s) rest
    → Completes (level.Certificates others ∷ s) (head_line c ∷ more)
part_given c others s more rest e h =
    let after = certificates_to others s rest h in
    record {
      parts = certificate_and c after.parts;
      number = ap suc after.number;
      rest = after.rest;
      are = ap (λ ls. head_line c ∷ ls) (e ∙ ap (λ ls. tail_lines c ++ ls) after.are)
          ∙ ap (λ ls. ls ++ (lines_of_all after.parts ++ after.rest)) (sym (lines_are c))
          ∙ sym (append_assoc (lines c) (lines_of_all after.parts) after.rest);
      holds = after.holds;
    }

part_back : (l : Line) (others : ℕ) (s : List Level) (more : List Line) → CompletesSome (levels_behind (level.Certificates others ∷ s) l) more → Completes (level.Certificates others ∷ s) (l ∷ more)
part_back EmptyLine others s more h = part_given Empty others s more more refl h
part_back (EventLine n) others s more h = part_given (EventAt n) others s more more refl h
part_back (PartsLine n) others s more h =
    let after = certificates_to n (certificates_first others s) more h in
    subst (λ m. Completes (level.Certificates others ∷ s) (PartsLine m ∷ more)) after.number (part_given (Parts after.parts) others s more after.rest after.are after.holds)
part_back (BranchLine i) others s more h =
    let after = certificates_to 1 (certificates_first others s) more h in
    let single = one_there after.parts after.number in
    part_given (Branch i single.0) others s more after.rest (after.are ∙ ap (λ ls. ls ++ after.rest) single.1) after.holds
part_back InnerLine others s more h =
    let after = certificates_to 1 (certificates_first others s) more h in
    let single = one_there after.parts after.number in
    part_given (Inner single.0) others s more after.rest (after.are ∙ ap (λ ls. ls ++ after.rest) single.1) after.holds
part_back (TurnsLine n) others s more h =
    let after = certificates_to n (certificates_first others s) more h in
    subst (λ m. Completes (level.Certificates others ∷ s) (TurnsLine m ∷ more)) after.number (part_given (Turns after.parts) others s more after.rest after.are after.holds)
part_back (WalkLine n) others s more h =
    let after = stops_to n (certificates_first others s) more h in
    subst (λ m. Completes (level.Certificates others ∷ s) (WalkLine m ∷ more)) after.number (part_given (Nodes after.parts) others s more after.rest after.are after.holds)
part_back (NodeLine n) others s more h = absurd h

-- ---- stops

stop_begun : (l : Line) (others : ℕ) (s : List Level) (more : List Line) → (m : ℕ) → l ≡ NodeLine m → Completes (certificates_first 1 (stops_first others s)) more → CompletesSome (levels_behind (level.Stops others ∷ s) l) more
stop_begun l others s more m e h = subst (λ k. CompletesSome (levels_behind (level.Stops others ∷ s) k) more) (sym e) h

stop_taken : (l : Line) (others : ℕ) (s : List Level) (more : List Line) (ss : Stops) (rest : List Line) → stop_count ss ≡ suc others → l ∷ more ≡ lines_of_stops ss ++ rest → Completes s rest
    → CompletesSome (levels_behind (level.Stops others ∷ s) l) more
stop_taken l others s more no_stops rest n e h = absurd (omega (arith, n))
stop_taken l others s more (stop_and m c ss) rest n e h =
    let all : l ∷ more ≡ NodeLine m ∷ (lines c ++ (lines_of_stops ss ++ rest)) = e ∙ ap (λ ls. NodeLine m ∷ ls) (append_assoc (lines c) (lines_of_stops ss) rest) in
    let behind : more ≡ lines c ++ (lines_of_stops ss ++ rest) = tail_is l (NodeLine m) more (lines c ++ (lines_of_stops ss ++ rest)) all in
    let after = stops_from others s (lines_of_stops ss ++ rest) (record { parts = ss; number = omega (arith, n); rest = rest; are = refl; holds = h }) in
    stop_begun l others s more m (head_is l (NodeLine m) more (lines c ++ (lines_of_stops ss ++ rest)) all)
    (subst (Completes (certificates_first 1 (stops_first others s))) (sym behind) (one_first c (stops_first others s) (lines_of_stops ss ++ rest) after))

stop_back : (l : Line) (others : ℕ) (s : List Level) (more : List Line) → CompletesSome (levels_behind (level.Stops others ∷ s) l) more → Completes (level.Stops others ∷ s) (l ∷ more)
stop_back EmptyLine others s more h = absurd h
stop_back (EventLine n) others s more h = absurd h
stop_back (PartsLine n) others s more h = absurd h
stop_back (BranchLine i) others s more h = absurd h
stop_back InnerLine others s more h = absurd h
stop_back (TurnsLine n) others s more h = absurd h
stop_back (WalkLine n) others s more h = absurd h
stop_back (NodeLine m) others s more h =
    let first = certificates_to 1 (stops_first others s) more h in
    let single = one_there first.parts first.number in
    let after = stops_to others s first.rest first.holds in
    record {
      parts = stop_and m single.0 after.parts;
      number = ap suc after.number;
      rest = after.rest;
      are = ap (λ ls. NodeLine m ∷ ls) (first.are ∙ ap₂ (λ ls ks. ls ++ ks) single.1 after.are ∙ sym (append_assoc (lines single.0) (lines_of_stops after.parts) after.rest));
      holds = after.holds;
    }

-- ---- both

taken : (s : List Level) (l : Line) (more : List Line) → Completes s (l ∷ more) → CompletesSome (levels_behind s l) more
taken [] l more h = absurd (cc)
taken (level.Certificates others ∷ s) l more h = part_taken l others s more h.parts h.rest h.number h.are h.holds
taken (level.Stops others ∷ s) l more h = stop_taken l others s more h.parts h.rest h.number h.are h.holds

back : (s : List Level) (l : Line) (more : List Line) → CompletesSome (levels_behind s l) more → Completes s (l ∷ more)
back [] l more h = absurd h
back (level.Certificates others ∷ s) l more h = part_back l others s more h
back (level.Stops others ∷ s) l more h = stop_back l others s more h

-- ---- the lines so far

-- what is missing behind the lines: just what completes them to a certificate's
pub record Follows (ls : List Line) (levels : List Level) : Type 0 where
  pub to : (c : Certificate) (more : List Line) → lines c ≡ ls ++ more → Completes levels more
  pub from : (more : List Line) → Completes levels more → (c : Certificate) × (lines c ≡ ls ++ more)

pub follows_start : Follows [] (level.Certificates 0 ∷ [])
follows_start = record {
  to = λ c more e. record {
    parts = certificate_and c no_certificates;
    number = refl;
    rest = [];
    are = sym e ∙ sym (append-nil (lines c)) ∙ sym (append-nil (lines c ++ []));
    holds = refl;
  };
  from = λ more h.
      let single = one_there h.parts h.number in
      (single.0, sym single.1 ∙ sym (append-nil (lines_of_all h.parts)) ∙ ap (λ ls. lines_of_all h.parts ++ ls) (sym h.holds) ∙ sym h.are);
}

pub follows_line : (ls : List Line) (s t : List Level) (l : Line) → Follows ls s → levels_behind s l ≡ Some t → Follows (ls ++ l ∷ []) t
follows_line ls s t l h e = record {
  to = λ c more are.
      let before = h.to c (l ∷ more) (are ∙ append_assoc ls (l ∷ []) more) in
      subst (λ o. CompletesSome o more) e (taken s l more before);
  from = λ more done.
      let before = h.from (l ∷ more) (back s l more (subst (λ o. CompletesSome o more) (sym e) done)) in
      (before.0, before.1 ∙ sym (append_assoc ls (l ∷ []) more));
}

-- a line that can't stand there begins no certificate with those before it
pub follows_none : (ls : List Line) (s : List Level) (l : Line) → Follows ls s → levels_behind s l ≡ None → (c : Certificate) (more : List Line) → lines c ≡ ls ++ (l ∷ more) → ⊥
follows_none ls s l h e c more are = subst (λ o. CompletesSome o more) e (taken s l more (h.to c (l ∷ more) are))

-- ---- something completes

abbrev so_many : ℕ → Certificates
so_many zero = no_certificates
so_many (suc n) = certificate_and Empty (so_many n)

so_many_are : (n : ℕ) → count (so_many n) ≡ n
so_many_are zero = refl
so_many_are (suc n) = ap suc (so_many_are n)

abbrev so_many_stops : ℕ → Stops
so_many_stops zero = no_stops
so_many_stops (suc n) = stop_and 0 Empty (so_many_stops n)

so_many_stops_are : (n : ℕ) → stop_count (so_many_stops n) ≡ n
so_many_stops_are zero = refl
so_many_stops_are (suc n) = ap suc (so_many_stops_are n)

something : (s : List Level) → (more : List Line) × Completes s more
something [] = ([], refl)
something (level.Certificates others ∷ s) =
    let rest = something s in
    (lines_of_all (so_many (suc others)) ++ rest.0, record { parts = so_many (suc others); number = so_many_are (suc others); rest = rest.0; are = refl; holds = rest.1 })
something (level.Stops others ∷ s) =
    let rest = something s in
    (lines_of_stops (so_many_stops (suc others)) ++ rest.0, record { parts = so_many_stops (suc others); number = so_many_stops_are (suc others); rest = rest.0; are = refl; holds = rest.1 })

-- the lines so far begin a certificate
pub record Begins (ls : List Line) : Type 0 where
  pub certificate : Certificate
  pub others : List Line
  pub whole : lines certificate ≡ ls ++ others

pub follows_begins : (ls : List Line) (s : List Level) → Follows ls s → Begins ls
follows_begins ls s h =
    let rest = something s in
    let all = h.from rest.0 rest.1 in
    record { certificate = all.0; others = rest.0; whole = all.1 }

-- ---- nothing is missing

certificates_some : (cs : Certificates) (n : ℕ) (rest : List Line) → count cs ≡ suc n → [] ≡ lines_of_all cs ++ rest → ⊥
certificates_some no_certificates n rest e are = omega (arith, e)
certificates_some (certificate_and c cs) n rest e are =
    let all : [] ≡ head_line c ∷ ((tail_lines c ++ lines_of_all cs) ++ rest) = are ∙ ap (λ ls. (ls ++ lines_of_all cs) ++ rest) (lines_are c) in
    absurd (cc)

stops_some : (ss : Stops) (n : ℕ) (rest : List Line) → stop_count ss ≡ suc n → [] ≡ lines_of_stops ss ++ rest → ⊥
stops_some no_stops n rest e are = omega (arith, e)
stops_some (stop_and m c ss) n rest e are = absurd (cc)

over : (s : List Level) → Completes s [] → s ≡ []
over [] h = refl
over (level.Certificates others ∷ s) h = absurd (certificates_some h.parts others h.rest h.number h.are)
over (level.Stops others ∷ s) h = absurd (stops_some h.parts others h.rest h.number h.are)

pub follows_over : (ls : List Line) (s : List Level) → Follows ls s → s ≡ [] → (c : Certificate) × (lines c ≡ ls)
follows_over ls s h e =
    let all = h.from [] (subst (λ r. Completes r []) (sym e) refl) in
    (all.0, all.1 ∙ append-nil ls)

pub follows_lacks : (ls : List Line) (s : List Level) → Follows ls s → (s ≡ [] → ⊥) → (c : Certificate) → lines c ≡ ls → ⊥
follows_lacks ls s h some c e = some (over s (h.to c [] (e ∙ sym (append-nil ls))))
