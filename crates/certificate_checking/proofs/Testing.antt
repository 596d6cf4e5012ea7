-- A certificate holds exactly where its lines show a pattern that is a run of the log.
use Rattle.std.specs.Prelude.{ℕ, Bool, true, false, ◌≡◌, ◌↔◌, List, [], Result, Ok, Err, IfOk, IsTrue, refl}
use Rattle.std.proofs.Common.{sym, subst, ◌∙◌, append-nil}
use Rattle.chart_term.specs.TermMeanings.{NetTerms}
use Rattle.chart_term.specs.Terms.{Tree}
use Rattle.certificates.specs.Certificates.{Certificate, PlacedShape, Holds}
use Rattle.certificates.specs.CheckLaws.{ChecksAreExact}
use Rattle.certificates.specs.Lines.{Line, lines, LinesAreExact}
use Rattle.pattern_marks.specs.Marks.{Sign, signs}
use Rattle.pattern_marks.specs.Runs.{IsRunOf}
use Rattle.certificate_checking.specs.Showing.{IsShown}

false-true : {A : Type 0} → false ≡ true → A
false-true e = cc

module _ (w : NetTerms) (x : Tree) (run : List ℕ) (ls : List Line) where
  shown_by : (c : Certificate) → lines c ≡ ls → (h : Holds w x run c) → IsShown w x ls (signs h.pattern)
  shown_by c e h = record { certificate = c; pattern = h.pattern; shows = h.shows; written = sym e; told = refl }

  -- lines that show no pattern are of no certificate that holds
  pub none_holds : ((ms : List Sign) → IsShown w x ls ms → ⊥) → (c : Certificate) → lines c ≡ ls → IsTrue false ↔ Holds w x run c
  none_holds n c e = (λ f. false-true f, λ h. absurd (n (signs h.pattern) (shown_by c e h)))

  -- lines that show one are of a certificate that holds exactly where that is a run
  pub shown_holds : ChecksAreExact → LinesAreExact → (b : Bool) (ms : List Sign) → IsShown w x ls ms → ((p : PlacedShape) → ms ≡ signs p → IsTrue b ↔ IsRunOf run p)
      → (c : Certificate) → lines c ≡ ls → IsTrue b ↔ Holds w x run c
  shown_holds checks exact b ms s f c e = (λ t. subst (Holds w x run) (sym same) (holds ((f s.pattern s.told).0 t)), λ h. (f s.pattern s.told).1 (run_of (subst (Holds w x run) same h)))
    where
      same : c ≡ s.certificate
      same = (exact.one c s.certificate [] [] (append-nil (lines c) ∙ (e ∙ (s.written ∙ sym (append-nil (lines s.certificate)))))).0

      holds : IsRunOf run s.pattern → Holds w x run s.certificate
      holds r = record { pattern = s.pattern; shows = s.shows; labelled = r.labelled; once = r.once; every = r.every; forward = r.forward }

      run_of : Holds w x run s.certificate → IsRunOf run s.pattern
      run_of h = subst (IsRunOf run) (checks.one w x s.certificate h.pattern s.pattern h.shows s.shows) (record { labelled = h.labelled; once = h.once; every = h.every; forward = h.forward })

  -- the same of an answer
  pub told_holds : {E : Type 0} → ChecksAreExact → LinesAreExact → (ms : List Sign) → IsShown w x ls ms → (c : Certificate) → lines c ≡ ls → (r : Result Bool E) → IfOk r (λ b. (p : PlacedShape) → ms ≡ signs p → IsTrue b ↔ IsRunOf run p)
      → IfOk r (λ b. IsTrue b ↔ Holds w x run c)
  told_holds checks exact ms s c e (Ok b) f = shown_holds checks exact b ms s f c e
  told_holds checks exact ms s c e (Err z) f = tt
