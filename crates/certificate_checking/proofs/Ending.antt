-- Reading from the first line to the last.
use Rattle.std.specs.Option.{option_to_list}
use Rattle.std.specs.Prelude.{ℕ, zero, suc, ◌+◌, ◌<◌, ◌≤◌, ◌≡◌, ◌↔◌, true, List, [], ◌∷◌, ◌++◌, Option, Some, None, refl, length, slice_get}
use Rattle.std.proofs.Common.{ap, sym, subst, ◌∙◌, arith, append_assoc}
use Rattle.chart_term.specs.TermMeanings.{NetTerms}
use Rattle.chart_term.specs.Terms.{Tree, items}
use Rattle.certificates.specs.Lines.{Line}
use Rattle.empty_terms.specs.Outlines.{IsAt}
use Rattle.pattern_marks.specs.Marks.{Sign, sign_of, signs_of}
use Rattle.certificate_checking.specs.Showing.{IsShown}
use Rattle.certificate_checking.specs.Tasks.{Owes, IsQuietStep, IsStepBy}
use Rattle.pattern_marks.specs.declared.mark.Mark.{Mark}
use Rattle.certificate_checking.specs.declared.step.Step.{Step}
use Rattle.certificate_checking.specs.declared.step.Task.{Task}
use Rattle.certificate_checking.specs.declared.step.Task.TheVariants as task
use Rattle.certificate_checking.proofs.Stepping.{owes_one, at_term}
use Rattle.std.specs.Prelude.{drop, MatchOption, IfSome, IfNone}
use Rattle.std.proofs.lemmas.List.{length-map}
use Rattle.list_facts.proofs.Reading.{drop_get}
use Rattle.certificate_texts.specs.Texts.{line_of, lines_of}
use Rattle.certificate_texts.specs.declared.line.CertificateLine.{CertificateLine}
use Rattle.certificate_checking.specs.Tasks.{Still, GoesOn, wants_line}
use Rattle.certificate_checking.proofs.Going.{quiet_on, quiet_stuck, line_on, line_stuck, lines_out, term_lines, stop_lines, HasLines}

module _ (w : NetTerms) (ts : List Tree) where
  -- the signs told so far, and what is owed of the lines that are left, are what the first task takes of all lines
  abbrev pub IsRead : List Line → List Mark → List Task → List Line → Type 0
  IsRead all marks tasks left = (ms : List Sign) → Owes w ts (task.Term 0 ∷ []) all ms ↔ Still w ts (signs_of ts marks) tasks left ms

  pub read_none : (all : List Line) → IsRead all [] (task.Term 0 ∷ []) all
  read_none all ms = (λ h. (ms, refl, h), λ (rest, t, h). subst (λ (l : List Sign). Owes w ts (task.Term 0 ∷ []) all l) (sym t) h)

  signs_append : (a b : List Mark) → signs_of ts (a ++ b) ≡ signs_of ts a ++ signs_of ts b
  signs_append [] b = refl
  signs_append (m ∷ a) b = ap (λ (l : List Sign). sign_of ts m ∷ l) (signs_append a b)

  pub read_on : (all before left : List Line) (marks new : List Mark) (was tasks next : List Task) (t : Task) (s : Step) → was ≡ tasks ++ t ∷ [] → GoesOn w ts t before left (Some s)
      → new ≡ marks ++ option_to_list s.mark → next ≡ tasks ++ (option_to_list s.then ++ option_to_list s.first) → IsRead all marks was before → IsRead all new next left
  read_on all before left marks new was tasks next t s e g m n h ms = (
    λ o. let (rest, a, b) = (h ms).0 o in
        let (more, c, d) = (g tasks rest).0 (subst (λ (l : List Task). Owes w ts l before rest) e b) in (
          more,
          a ∙ (ap (λ (l : List Sign). signs_of ts marks ++ l) c ∙ (sym (append_assoc (signs_of ts marks) (signs_of ts (option_to_list s.mark)) more) ∙ ap (λ (l : List Sign). l ++ more) (sym (ap (signs_of ts) m ∙ signs_append marks (option_to_list s.mark))))),
          subst (λ (l : List Task). Owes w ts l left more) (sym n) d,
        ),
    λ (more, a, b). (h ms).1 (
      signs_of ts (option_to_list s.mark) ++ more,
      a ∙ (ap (λ (l : List Sign). l ++ more) (ap (signs_of ts) m ∙ signs_append marks (option_to_list s.mark)) ∙ append_assoc (signs_of ts marks) (signs_of ts (option_to_list s.mark)) more),
      subst (λ (l : List Task). Owes w ts l before (signs_of ts (option_to_list s.mark) ++ more)) (sym e) ((g tasks (signs_of ts (option_to_list s.mark) ++ more)).1 (more, refl, subst (λ (l : List Task). Owes w ts l left more) n b)),
    ),
  )

  pub read_stuck : (all before left : List Line) (marks : List Mark) (was tasks : List Task) (t : Task) (x : Tree) → IsAt ts 0 x → was ≡ tasks ++ t ∷ [] → GoesOn w ts t before left None → IsRead all marks was before
      → (ms : List Sign) → IsShown w x all ms → ⊥
  read_stuck all before left marks was tasks t x at e g h ms s =
      let (rest, a, b) = (h ms).0 ((owes_one w ts (task.Term 0) all ms).1 (x, at, s)) in
      g tasks rest (subst (λ (l : List Task). Owes w ts l before rest) e b)

  shown_of : (x : Tree) (all : List Line) (ms : List Sign) → IsAt ts 0 x → Owes w ts (task.Term 0 ∷ []) all ms → IsShown w x all ms
  shown_of x all ms at o = (at_term w ts 0 x at all ms).0 ((owes_one w ts (task.Term 0) all ms).0 o)

  -- nothing is owed, and no line is left
  pub read_whole : (all left : List Line) (marks : List Mark) (was : List Task) (x : Tree) → IsAt ts 0 x → was ≡ [] → left ≡ [] → IsRead all marks was left → IsShown w x all (signs_of ts marks)
  read_whole all left marks was x at e l h = shown_of x all (signs_of ts marks) at
      ((h (signs_of ts marks)).1 ([], sym (none_after (signs_of ts marks)), subst (λ (q : List Task). Owes w ts q left []) (sym e) (l, refl)))
    where
      none_after : {A : Type 0} (l : List A) → l ++ [] ≡ l
      none_after [] = refl
      none_after (z ∷ l) = ap (λ r. z ∷ r) (none_after l)

  -- nothing is owed, but lines are left
  pub read_past : (all left : List Line) (marks : List Mark) (was : List Task) (x : Tree) → IsAt ts 0 x → was ≡ [] → (left ≡ [] → ⊥) → IsRead all marks was left → (ms : List Sign) → IsShown w x all ms → ⊥
  read_past all left marks was x at e l h ms s =
      let (rest, a, b) = (h ms).0 ((owes_one w ts (task.Term 0) all ms).1 (x, at, s)) in
      let c = subst (λ (q : List Task). Owes w ts q left rest) e b in
      l c.0

  -- ---- a step, by the lines that are left

  pub quiet_goes : (t : Task) (ls : List Line) (s : Option Step) → IsQuietStep w ts t s → GoesOn w ts t ls ls s
  quiet_goes t ls None h = λ tasks ms o. quiet_stuck w ts t h tasks ls ms o
  quiet_goes t ls (Some s) h = λ tasks ms. quiet_on w ts t s h tasks ls ms

  has_lines : (t : Task) → wants_line t ≡ true → HasLines w ts t
  has_lines (task.Term k) e = term_lines w ts k
  has_lines (task.Row f n) e = cc
  has_lines (task.Beside f n) e = cc
  has_lines (task.Others f n) e = cc
  has_lines (task.Turns k n) e = cc
  has_lines (task.Stops net f n) e = stop_lines w ts net n f
  has_lines (task.Mark m) e = cc

  pub line_goes : (t : Task) (l : Line) (before left : List Line) (s : Option Step) → wants_line t ≡ true → before ≡ l ∷ left → IsStepBy w ts t l s → GoesOn w ts t before left s
  line_goes t l before left None e b h = λ tasks ms o. line_stuck w ts t l (has_lines t e) h tasks left ms (subst (λ (k : List Line). Owes w ts (tasks ++ t ∷ []) k ms) b o)
  line_goes t l before left (Some s) e b h = λ tasks ms.
      subst (λ (k : List Line). Owes w ts (tasks ++ t ∷ []) k ms ↔ Still w ts (signs_of ts (option_to_list s.mark)) (tasks ++ (option_to_list s.then ++ option_to_list s.first)) left ms) (sym b)
      (line_on w ts t l s (has_lines t e) h tasks left ms)

  pub none_goes : (t : Task) (before left : List Line) → wants_line t ≡ true → before ≡ [] → GoesOn w ts t before left None
  none_goes t before left e b tasks ms o = lines_out w ts t (has_lines t e) tasks ms (subst (λ (k : List Line). Owes w ts (tasks ++ t ∷ []) k ms) b o)

-- ---- the lines that are left

-- the next line, and those behind it
pub next_line : (ls : List CertificateLine) (i : ℕ) (l : CertificateLine) → slice_get ls i ≡ Some l → drop i (lines_of ls) ≡ line_of l ∷ drop (i + 1) (lines_of ls)
next_line ls i l at = drop_get (lines_of ls) i (line_of l) (mapped ls i at)
  where
    mapped : (ls : List CertificateLine) (i : ℕ) → slice_get ls i ≡ Some l → slice_get (lines_of ls) i ≡ Some (line_of l)
    mapped [] i at = cc
    mapped (k ∷ ls) zero at = let e : k ≡ l = cc in ap (λ (m : CertificateLine). Some (line_of m)) e
    mapped (k ∷ ls) (suc i) at = mapped ls i at

-- no line is left
pub no_next : (ls : List CertificateLine) (i : ℕ) → length ls ≤ i → drop i (lines_of ls) ≡ []
no_next ls i past = by (lines_of ls) i (let e = length-map ls line_of in omega (arith, e))
  where
    by : (ks : List Line) (i : ℕ) → length ks ≤ i → drop i ks ≡ []
    by [] zero l = refl
    by [] (suc i) l = refl
    by (k ∷ ks) zero l = absurd (omega arith)
    by (k ∷ ks) (suc i) l = by ks i (omega arith)

-- a line is left
pub some_next : (ls : List CertificateLine) (i : ℕ) → i < length ls → drop i (lines_of ls) ≡ [] → ⊥
some_next ls i low e = by (lines_of ls) i (let q = length-map ls line_of in omega (arith, q)) e
  where
    by : (ks : List Line) (i : ℕ) → i < length ks → drop i ks ≡ [] → ⊥
    by [] i l e = absurd (omega arith)
    by (k ∷ ks) zero l e = cc
    by (k ∷ ks) (suc i) l e = by ks i (omega arith) e

-- ---- the end

module _ (w : NetTerms) (ts : List Tree) where
  -- what is told where no task is left
  pub read_end : {A : Type 0} (items : A → List Mark) (x : Tree) (ls : List CertificateLine) (read : ℕ) (marks : List Mark) (was : List Task) → IsAt ts 0 x → was ≡ [] → IsRead w ts (lines_of ls) marks was (drop read (lines_of ls))
      → (o : Option A) → IfSome o (λ m. (length ls ≤ read) × (items m ≡ marks)) → IfNone o (read < length ls) → MatchOption o ((ms : List Sign) → IsShown w x (lines_of ls) ms → ⊥) (λ m. IsShown w x (lines_of ls) (signs_of ts (items m)))
  read_end items x ls read marks was at e h None some none = read_past w ts (lines_of ls) (drop read (lines_of ls)) marks was x at e (some_next ls read none) h
  read_end items x ls read marks was at e h (Some m) some none =
      subst (λ (l : List Mark). IsShown w x (lines_of ls) (signs_of ts l)) (sym some.1) (read_whole w ts (lines_of ls) (drop read (lines_of ls)) marks was x at e (no_next ls read some.0) h)
