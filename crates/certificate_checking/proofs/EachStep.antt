-- Each line, by what the code tells of the term.
use Rattle.std.specs.Prelude.{ℕ, suc, ◌+◌, ◌-◌, ◌<◌, ◌≤◌, ◌≡◌, ◌⊎◌, ◌↔◌, Bool, true, false, List, [], Option, Some, None, refl, length, slice_get, IsTrue}
use Rattle.std.proofs.Common.{ap, sym, subst, ◌∙◌, arith, inl, inr, get_or}
use Rattle.std.proofs.lemmas.Option.{slice_get_within}
use Rattle.list_facts.proofs.Reading.{some_at}
use Rattle.msc_base.specs.Patterns.{Mode}
use Rattle.hmsc_graph.specs.declared.spot.Spot.TheVariants as spot
use Rattle.chart_term.specs.Tables.{Tables, terms_over}
use Rattle.chart_term.specs.TermMeanings.{NetTerms, UpTo}
use Rattle.chart_term.specs.Terms.{Tree, Event, Join, Choice, Loop, Trees, Row, gap, ends, items}
use Rattle.chart_term.specs.Views.{event_of}
use Rattle.chart_term.specs.declared.event.Event.{Event as EventValue}
use Rattle.certificates.specs.Certificates.{HasEmpty}
use Rattle.certificates.specs.CertificateLaws.{IsUnbegun}
use Rattle.certificates.specs.Lines.{EmptyLine, EventLine, PartsLine, BranchLine, InnerLine, TurnsLine, WalkLine}
use Rattle.empty_terms.specs.Answers.{AreToldFrom}
use Rattle.empty_terms.specs.Outlines.{IsAt, AreFrom, ArePartsKnown, AreAllUnbegun, parts_in}
use Rattle.certificate_checking.specs.Forms.{IsNoEvent, IsNoJoin, IsNoChoice, IsNoTie, IsNoLoop, IsNoWalk, IsJoin, IsChoice, IsTie, IsLoop, IsWalk, mode_of}
use Rattle.pattern_marks.specs.Marks.{tie_closes, tie_pairs, pairs_at}
use Rattle.certificate_checking.specs.Tasks.{IsStepBy, row_of}
use Rattle.pattern_marks.specs.declared.mark.Mark.TheVariants as mark
use Rattle.certificate_checking.specs.declared.step.Task.TheVariants as task
use Rattle.certificate_checking.proofs.Stepping.{done, told, to, marked, event_line, no_event_line, empty_line, not_empty_line}
use Rattle.certificate_checking.proofs.EachLine.{parts_line, no_parts_line, branch_line, no_branch_line, inner_line, no_inner_line, turns_line, no_turns_line, walk_line, no_walk_line}

module _ (w : NetTerms) (ts : List Tree) where
  pub event_at : (k n : ℕ) (x : Tree) (e : EventValue) → IsAt ts k x → x ≡ Event (event_of e) → IsStepBy w ts (task.Term k) (EventLine n) (Some (told (mark.Event e n)))
  event_at k n x e at s = event_line w ts k x (event_of e) n (mark.Event e n) at s refl

  pub event_none : (k n : ℕ) (x : Tree) → IsAt ts k x → IsNoEvent x → IsStepBy w ts (task.Term k) (EventLine n) None
  event_none k n x at h = no_event_line w ts k x n at (λ e s. subst IsNoEvent s h)

  -- the parts of the term stand from its first number on
  parts_from : (fs : List ℕ) (k f : ℕ) (x : Tree) → ArePartsKnown ts fs → slice_get fs k ≡ Some f → IsAt ts k x → AreFrom ts f (parts_in x)
  parts_from fs k f x known g at = (known k f x g at).1

  pub parts_at : (fs : List ℕ) (k f n c : ℕ) (b : Bool) (x : Tree) → ArePartsKnown ts fs → slice_get fs k ≡ Some f → IsAt ts k x → IsJoin (mode_of b) c x → c ≡ n
      → IsStepBy w ts (task.Term k) (PartsLine n) (Some (to (row_of (mode_of b) f c)))
  parts_at fs k f n c b x known g at h e =
      subst (λ (m : ℕ). IsStepBy w ts (task.Term k) (PartsLine m) (Some (to (row_of (mode_of b) f c)))) e
      (parts_line w ts k f c x (mode_of b) h.parts at h.is h.many (subst (λ (l : List Tree). AreFrom ts f l) (ap parts_in h.is) (parts_from fs k f x known g at)))

  pub parts_other : (k n c : ℕ) (b : Bool) (x : Tree) → IsAt ts k x → IsJoin (mode_of b) c x → (c ≡ n → ⊥) → IsStepBy w ts (task.Term k) (PartsLine n) None
  parts_other k n c b x at h d = no_parts_line w ts k n x at (λ m xs s l. d (sym h.many ∙ (ap (λ (l : List Tree). length l) (ap items (let e : Join (mode_of b) h.parts ≡ Join m xs = sym h.is ∙ s in same_parts (mode_of b) m h.parts xs e)) ∙ l)))
    where
      same_parts : (m j : Mode) (xs ys : Trees) → Join m xs ≡ Join j ys → xs ≡ ys
      same_parts m j xs ys e = cc

  pub parts_none : (k n : ℕ) (x : Tree) → IsAt ts k x → IsNoJoin x → IsStepBy w ts (task.Term k) (PartsLine n) None
  parts_none k n x at h = no_parts_line w ts k n x at (λ m xs s l. subst IsNoJoin s h)

  pub branch_at : (fs : List ℕ) (k f n c : ℕ) (x : Tree) → ArePartsKnown ts fs → slice_get fs k ≡ Some f → IsAt ts k x → IsChoice c x → 0 < n → n ≤ c → IsStepBy w ts (task.Term k) (BranchLine n) (Some (to (task.Term (f + (n - 1)))))
  branch_at fs k f n c x known g at h p l =
      let (y, there) = some_at (items h.parts) (n - 1) (omega (arith, h.many)) in
      let from = subst (λ (l : List Tree). AreFrom ts f l) (ap parts_in h.is) (parts_from fs k f x known g at) in
      let is : suc (n - 1) ≡ n = omega arith in
      subst (λ (m : ℕ). IsStepBy w ts (task.Term k) (BranchLine m) (Some (to (task.Term (f + (n - 1)))))) is (branch_line w ts k (f + (n - 1)) (n - 1) x y h.parts at h.is there (from (n - 1) y there))

  pub branch_past : (k n c : ℕ) (x : Tree) → IsAt ts k x → IsChoice c x → (n ≡ 0) ⊎ (c < n) → IsStepBy w ts (task.Term k) (BranchLine n) None
  branch_past k n c x at h d = no_branch_line w ts k n x at (λ xs i y s e g. by xs i y (let q : Choice h.parts ≡ Choice xs = sym h.is ∙ s in same_parts h.parts xs q) e g d)
    where
      same_parts : (xs ys : Trees) → Choice xs ≡ Choice ys → xs ≡ ys
      same_parts xs ys e = cc

      by : (xs : Trees) (i : ℕ) (y : Tree) → h.parts ≡ xs → n ≡ suc i → slice_get (items xs) i ≡ Some y → (n ≡ 0) ⊎ (c < n) → ⊥
      by xs i y q e g (inl z) = absurd (omega arith)
      by xs i y q e g (inr l) = absurd (let m = slice_get_within (items xs) i y g in let r = ap (λ (l : Trees). length (items l)) q in let t = h.many in omega arith)

  pub branch_none : (k n : ℕ) (x : Tree) → IsAt ts k x → IsNoChoice x → IsStepBy w ts (task.Term k) (BranchLine n) None
  branch_none k n x at h = no_branch_line w ts k n x at (λ xs i y s e g. subst IsNoChoice s h)

  pub inner_at : (fs : List ℕ) (k f : ℕ) (x : Tree) → ArePartsKnown ts fs → slice_get fs k ≡ Some f → IsAt ts k x → IsTie x → IsStepBy w ts (task.Term k) InnerLine (Some (marked mark.OpenTie (task.Term f) (task.Mark (mark.CloseTie k))))
  inner_at fs k f x known g at h =
      let from = subst (λ (l : List Tree). AreFrom ts f l) (ap parts_in h.is) (parts_from fs k f x known g at) in
      let here = subst (λ (j : ℕ). IsAt ts j h.inner) (let e : f + 0 ≡ f = omega arith in e) (from 0 h.inner refl) in
      inner_line w ts k f x h.inner h.pairs mark.OpenTie (mark.CloseTie k) at h.is here refl (ap tie_closes (ap pairs_at at ∙ ap tie_pairs h.is))

  pub inner_none : (k : ℕ) (x : Tree) → IsAt ts k x → IsNoTie x → IsStepBy w ts (task.Term k) InnerLine None
  inner_none k x at h = no_inner_line w ts k x at (λ y q s. subst IsNoTie s h)

  pub turns_none : (k n : ℕ) (x : Tree) → IsAt ts k x → IsNoLoop x → IsStepBy w ts (task.Term k) (TurnsLine n) None
  turns_none k n x at h = no_turns_line w ts k n x at (λ y lo hi s u l. subst IsNoLoop s h)

  pub walk_at : (k n net : ℕ) (x : Tree) → AreAllUnbegun ts → IsAt ts k x → IsWalk net x → IsStepBy w ts (task.Term k) (WalkLine n) (Some (to (task.Stops net spot.Start n)))
  walk_at k n net x all at h =
      let (a, b, c) = subst IsUnbegun h.is (all k x at) in
      walk_line w ts k n net x h.from h.to h.past (task.Stops net spot.Start n) at h.is a b c (λ ls ms. (λ s. s, λ s. s))

  pub walk_none : (k n : ℕ) (x : Tree) → IsAt ts k x → IsNoWalk x → IsStepBy w ts (task.Term k) (WalkLine n) None
  walk_none k n x at h = no_walk_line w ts k n x at (λ net f t c s. subst IsNoWalk s h)

pub branch_within : (ts : List Tree) (fs : List ℕ) (k f n c : ℕ) (x : Tree) → ArePartsKnown ts fs → slice_get fs k ≡ Some f → IsAt ts k x → IsChoice c x → 0 < n → n ≤ c → f + (n - 1) < length ts
branch_within ts fs k f n c x known g at h p l =
    let (y, there) = some_at (items h.parts) (n - 1) (omega (arith, h.many)) in
    slice_get_within ts (f + (n - 1)) y ((subst (λ (l : List Tree). AreFrom ts f l) (ap parts_in h.is) ((known k f x g at).1)) (n - 1) y there)

-- ---- what the answers tell

module _ (w : Tables) where
  pub empty_at : (ts : List Tree) (bs : List Bool) (k : ℕ) (x : Tree) → IsAt ts k x → (IsTrue (get_or bs k false) ↔ HasEmpty (terms_over w) x) → get_or bs k false ≡ true → IsStepBy (terms_over w) ts (task.Term k) EmptyLine (Some done)
  empty_at ts bs k x at h e = empty_line (terms_over w) ts k x at (h.0 e)

  pub empty_none : (ts : List Tree) (bs : List Bool) (k : ℕ) (x : Tree) → IsAt ts k x → (IsTrue (get_or bs k false) ↔ HasEmpty (terms_over w) x) → get_or bs k false ≡ false → IsStepBy (terms_over w) ts (task.Term k) EmptyLine None
  empty_none ts bs k x at h e = not_empty_line (terms_over w) ts k x at (λ g. let q : false ≡ true = sym e ∙ h.1 g in no q)
    where
      no : false ≡ true → ⊥
      no q = cc

  -- the turns of a loop, by its counts and by whether turns can be without events
  pub turns_at : (ts : List Tree) (bs : List Bool) (fs : List ℕ) (k f n lo : ℕ) (hi : Option ℕ) (x : Tree) → ArePartsKnown ts fs → slice_get fs k ≡ Some f → IsAt ts k x → AreAllUnbegun ts → IsLoop lo hi x
      → AreToldFrom (terms_over w) ts bs 0 → UpTo hi n → (lo ≤ n) ⊎ IsTrue (get_or bs f false) → IsStepBy (terms_over w) ts (task.Term k) (TurnsLine n) (Some (to (task.Turns f n)))
  turns_at ts bs fs k f n lo hi x known g at all h told up many =
      let from = subst (λ (l : List Tree). AreFrom ts f l) (ap parts_in h.is) (known k f x g at).1 in
      let here : IsAt ts f h.body = subst (λ (j : ℕ). IsAt ts j h.body) (let e : f + 0 ≡ f = omega arith in e) (from 0 h.body refl) in
      let fresh = subst IsUnbegun h.is (all k x at) in
      turns_line (terms_over w) ts k f n lo hi x h.body h.row at h.is fresh.1 here up (elim many [ inl l ↦ inl l | inr t ↦ inr ((told f h.body (omega arith) here).0 t) ])

  pub turns_past : (ts : List Tree) (bs : List Bool) (fs : List ℕ) (k f n lo : ℕ) (hi : Option ℕ) (x : Tree) → ArePartsKnown ts fs → slice_get fs k ≡ Some f → IsAt ts k x → IsLoop lo hi x
      → AreToldFrom (terms_over w) ts bs 0 → (UpTo hi n → (lo ≤ n) ⊎ IsTrue (get_or bs f false) → ⊥) → IsStepBy (terms_over w) ts (task.Term k) (TurnsLine n) None
  turns_past ts bs fs k f n lo hi x known g at h told never = no_turns_line (terms_over w) ts k n x at not
    where
      here : IsAt ts f h.body
      here = subst (λ (j : ℕ). IsAt ts j h.body) (let e : f + 0 ≡ f = omega arith in e) ((subst (λ (l : List Tree). AreFrom ts f l) (ap parts_in h.is) (known k f x g at).1) 0 h.body refl)

      loop_same : (y z : Tree) (l m : ℕ) (u v : Option ℕ) (r s : Row) → Loop y l u r ≡ Loop z m v s → (y ≡ z) × (l ≡ m) × (u ≡ v)
      loop_same y z l m u v r s e = (cc, cc, cc)

      not : (y : Tree) (l : ℕ) (u : Option ℕ) → x ≡ Loop y l u (gap [] ends) → UpTo u n → (l ≤ n) ⊎ HasEmpty (terms_over w) y → ⊥
      not y l u s up many =
          let e = loop_same y h.body l lo u hi (gap [] ends) h.row (sym s ∙ h.is) in
          never (subst (λ (o : Option ℕ). UpTo o n) e.2 up) (elim many [
            | inl p ↦ inl (subst (λ (j : ℕ). j ≤ n) e.1 p)
            | inr p ↦ inr ((told f h.body (omega arith) here).1 (subst (HasEmpty (terms_over w)) e.0 p))
          ])

pub ruleset each = (event_at, event_none)
