-- What a step leaves, and which step each line asks for.
use Rattle.std.specs.Prelude.{ℕ, ◌≡◌, ◌↔◌, List, [], ◌∷◌, ◌++◌, Some, None, refl, slice_get}
use Rattle.std.proofs.Common.{ap, ap₂, sym, subst, ◌∙◌, append_assoc}
use Rattle.chart_term.specs.TermMeanings.{NetTerms}
use Rattle.chart_term.specs.Terms.{TermEvent, Tree, Event}
use Rattle.certificates.specs.Certificates.{HasEmpty}
use Rattle.certificates.specs.Lines.{Line, EmptyLine, EventLine}
use Rattle.empty_terms.specs.Outlines.{IsAt}
use Rattle.pattern_marks.specs.Marks.{Sign, stands, sign_of}
use Rattle.certificate_checking.specs.Showing.{IsShown, Splits}
use Rattle.certificate_checking.specs.Tasks.{Wants, Owes, Becomes, IsStepBy}
use Rattle.pattern_marks.specs.declared.mark.Mark.{Mark}
use Rattle.certificate_checking.specs.declared.step.Step.{Step}
use Rattle.certificate_checking.specs.declared.step.Task.{Task}
use Rattle.certificate_checking.specs.declared.step.Task.TheVariants as task
use Rattle.certificate_checking.proofs.Opening.{Opened, by_empty, by_event, by_parts, by_branch, by_inner, by_turns, by_nodes, open_shown, shut}

-- the steps of the code
abbrev pub done : Step
done = record { mark = None; first = None; then = None }

abbrev pub told : Mark → Step
told m = record { mark = Some m; first = None; then = None }

abbrev pub to : Task → Step
to t = record { mark = None; first = Some t; then = None }

abbrev pub both : Task → Task → Step
both t u = record { mark = None; first = Some t; then = Some u }

abbrev pub marked : Mark → Task → Task → Step
marked m t u = record { mark = Some m; first = Some t; then = Some u }

-- lists whose second is empty
append_none : {A : Type 0} (xs : List A) → xs ++ [] ≡ xs
append_none [] = refl
append_none (x ∷ xs) = ap (λ l. x ∷ l) (append_none xs)

module _ (w : NetTerms) (ts : List Tree) where
  W : Task → List Line → List Sign → Type 0
  W = Wants w ts

  -- ---- what is owed

  pub owes_one : (t : Task) (ls : List Line) (ms : List Sign) → Owes w ts (t ∷ []) ls ms ↔ Wants w ts t ls ms
  owes_one t ls ms = (
    λ h. let a : h.back_lines ≡ ls = sym (h.written ∙ ap (λ (l : List Line). l ++ h.back_lines) h.front.0) in
        let b : h.back_signs ≡ ms = sym (h.told ∙ ap (λ (l : List Sign). l ++ h.back_signs) h.front.1) in
        subst (λ (l : List Line). Wants w ts t l ms) a (subst (λ (m : List Sign). Wants w ts t h.back_lines m) b h.back),
    λ h. record { front_lines = []; front_signs = []; back_lines = ls; back_signs = ms; front = (refl, refl); back = h; written = refl; told = refl },
  )

  pub owes_two : (t u : Task) (ls : List Line) (ms : List Sign) → Owes w ts (u ∷ t ∷ []) ls ms ↔ Splits (Wants w ts t) (Wants w ts u) ls ms
  owes_two t u ls ms = (
    λ h. record { front_lines = h.front_lines; front_signs = h.front_signs; back_lines = h.back_lines; back_signs = h.back_signs; front = (owes_one t h.front_lines h.front_signs).0 h.front; back = h.back; written = h.written; told = h.told },
    λ h. record { front_lines = h.front_lines; front_signs = h.front_signs; back_lines = h.back_lines; back_signs = h.back_signs; front = (owes_one t h.front_lines h.front_signs).1 h.front; back = h.back; written = h.written; told = h.told },
  )

  -- the last task comes first
  pub owes_top : (xs : List Task) (ys : List Task) (ls : List Line) (ms : List Sign) → Owes w ts (xs ++ ys) ls ms ↔ Splits (Owes w ts ys) (Owes w ts xs) ls ms
  owes_top [] ys ls ms = (
    λ h. record { front_lines = ls; front_signs = ms; back_lines = []; back_signs = []; front = h; back = (refl, refl); written = sym (append_none ls); told = sym (append_none ms) },
    λ h. let a : h.front_lines ≡ ls = sym (h.written ∙ (ap (λ (l : List Line). h.front_lines ++ l) h.back.0 ∙ append_none h.front_lines)) in
        let b : h.front_signs ≡ ms = sym (h.told ∙ (ap (λ (l : List Sign). h.front_signs ++ l) h.back.1 ∙ append_none h.front_signs)) in
        subst (λ (l : List Line). Owes w ts ys l ms) a (subst (λ (m : List Sign). Owes w ts ys h.front_lines m) b h.front),
  )
  owes_top (x ∷ xs) ys ls ms = (
    λ h. let r = (owes_top xs ys h.front_lines h.front_signs).0 h.front in record {
      front_lines = r.front_lines;
      front_signs = r.front_signs;
      back_lines = r.back_lines ++ h.back_lines;
      back_signs = r.back_signs ++ h.back_signs;
      front = r.front;
      back = record { front_lines = r.back_lines; front_signs = r.back_signs; back_lines = h.back_lines; back_signs = h.back_signs; front = r.back; back = h.back; written = refl; told = refl };
      written = h.written ∙ (ap (λ (l : List Line). l ++ h.back_lines) r.written ∙ append_assoc r.front_lines r.back_lines h.back_lines);
      told = h.told ∙ (ap (λ (l : List Sign). l ++ h.back_signs) r.told ∙ append_assoc r.front_signs r.back_signs h.back_signs);
    },
    λ h. let r = h.back in record {
      front_lines = h.front_lines ++ r.front_lines;
      front_signs = h.front_signs ++ r.front_signs;
      back_lines = r.back_lines;
      back_signs = r.back_signs;
      front = (owes_top xs ys (h.front_lines ++ r.front_lines) (h.front_signs ++ r.front_signs)).1 (record { front_lines = h.front_lines; front_signs = h.front_signs; back_lines = r.front_lines; back_signs = r.front_signs; front = h.front; back = r.front; written = refl; told = refl });
      back = r.back;
      written = h.written ∙ (ap (λ (l : List Line). h.front_lines ++ l) r.written ∙ sym (append_assoc h.front_lines r.front_lines r.back_lines));
      told = h.told ∙ (ap (λ (l : List Sign). h.front_signs ++ l) r.told ∙ sym (append_assoc h.front_signs r.front_signs r.back_signs));
    },
  )

  -- ---- what a step leaves

  pub becomes_done : (ls : List Line) (ms : List Sign) → Becomes w ts done ls ms ↔ ((ls ≡ []) × (ms ≡ []))
  becomes_done ls ms = (λ h. (h.owes.0, h.told ∙ h.owes.1), λ h. record { rest = []; told = h.1; owes = (h.0, refl) })

  pub becomes_told : (m : Mark) (ls : List Line) (ms : List Sign) → Becomes w ts (told m) ls ms ↔ ((ls ≡ []) × (ms ≡ sign_of ts m ∷ []))
  becomes_told m ls ms = (λ h. (h.owes.0, h.told ∙ ap (λ (l : List Sign). sign_of ts m ∷ l) h.owes.1), λ h. record { rest = []; told = h.1; owes = (h.0, refl) })

  pub becomes_to : (t : Task) (ls : List Line) (ms : List Sign) → Becomes w ts (to t) ls ms ↔ Wants w ts t ls ms
  becomes_to t ls ms = (
    λ h. subst (λ (m : List Sign). Wants w ts t ls m) (sym h.told) ((owes_one t ls h.rest).0 h.owes),
    λ h. record { rest = ms; told = refl; owes = (owes_one t ls ms).1 h },
  )

  pub becomes_both : (t u : Task) (ls : List Line) (ms : List Sign) → Becomes w ts (both t u) ls ms ↔ Splits (Wants w ts t) (Wants w ts u) ls ms
  becomes_both t u ls ms = (
    λ h. subst (λ (m : List Sign). Splits (Wants w ts t) (Wants w ts u) ls m) (sym h.told) ((owes_two t u ls h.rest).0 h.owes),
    λ h. record { rest = ms; told = refl; owes = (owes_two t u ls ms).1 h },
  )

  -- a sign, and then both
  abbrev pub Marks : Mark → Task → Task → List Line → List Sign → Type 0
  Marks m t u ls ms = (rest : List Sign) × (ms ≡ sign_of ts m ∷ rest) × Splits (Wants w ts t) (Wants w ts u) ls rest

  pub becomes_marked : (m : Mark) (t u : Task) (ls : List Line) (ms : List Sign) → Becomes w ts (marked m t u) ls ms ↔ Marks m t u ls ms
  becomes_marked m t u ls ms = (
    λ h. (h.rest, h.told, (owes_two t u ls h.rest).0 h.owes),
    λ h. record { rest = h.0; told = h.1; owes = (owes_two t u ls h.0).1 h.2 },
  )

  -- ---- the term of a number

  same_term : (k : ℕ) (x y : Tree) → IsAt ts k x → IsAt ts k y → y ≡ x
  same_term k x y a b = let e : Some y ≡ Some x = sym b ∙ a in cc

  pub at_term : (k : ℕ) (x : Tree) → IsAt ts k x → (ls : List Line) (ms : List Sign) → Wants w ts (task.Term k) ls ms ↔ IsShown w x ls ms
  at_term k x at ls ms = (
    λ h. subst (λ (z : Tree). IsShown w z ls ms) (same_term k x h.0 at h.1) h.2,
    λ h. (x, at, h),
  )

  -- a step by a line, told of what the line opens
  pub by_line : (k : ℕ) (x : Tree) (l : Line) (s : Step) → IsAt ts k x → ((ls : List Line) (ms : List Sign) → Opened w x l ls ms ↔ Becomes w ts s ls ms) → IsStepBy w ts (task.Term k) l (Some s)
  by_line k x l s at h ls ms = (
    λ g. (h ls ms).0 (open_shown w ((at_term k x at (l ∷ ls) ms).0 g)),
    λ g. (at_term k x at (l ∷ ls) ms).1 (shut w ((h ls ms).1 g)),
  )

  pub no_line : (k : ℕ) (x : Tree) (l : Line) → IsAt ts k x → ((ls : List Line) (ms : List Sign) → Opened w x l ls ms → ⊥) → IsStepBy w ts (task.Term k) l None
  no_line k x l at h ls ms g = h ls ms (open_shown w ((at_term k x at (l ∷ ls) ms).0 g))

  pub no_term : (k : ℕ) (l : Line) → slice_get ts k ≡ None → IsStepBy w ts (task.Term k) l None
  no_term k l e ls ms g = let no : None ≡ Some g.0 = sym e ∙ g.1 in cc

  -- ---- each line

  pub empty_line : (k : ℕ) (x : Tree) → IsAt ts k x → HasEmpty w x → IsStepBy w ts (task.Term k) EmptyLine (Some done)
  empty_line k x at h = by_line k x EmptyLine done at (λ ls ms. (
    λ o. (becomes_done ls ms).1 (elim o [
      | by_empty g a b c ↦ (b, c)
      | by_event e n s a b c ↦ cc
      | by_parts m xs s a c ↦ cc
      | by_branch xs i y s a g c ↦ cc
      | by_inner y q inner s a t c ↦ cc
      | by_turns y lo hi n s a u m c ↦ cc
      | by_nodes j t n s g a c ↦ cc
    ]),
    λ b. let d = (becomes_done ls ms).0 b in by_empty h refl d.0 d.1,
  ))

  pub not_empty_line : (k : ℕ) (x : Tree) → IsAt ts k x → (HasEmpty w x → ⊥) → IsStepBy w ts (task.Term k) EmptyLine None
  not_empty_line k x at h = no_line k x EmptyLine at (λ ls ms o. elim o [
    | by_empty g a b c ↦ h g
    | by_event e n s a b c ↦ cc
    | by_parts m xs s a c ↦ cc
    | by_branch xs i y s a g c ↦ cc
    | by_inner y q inner s a t c ↦ cc
    | by_turns y lo hi n s a u m c ↦ cc
    | by_nodes j t n s g a c ↦ cc
  ])

  -- the events of code and terms
  pub event_line : (k : ℕ) (x : Tree) (e : TermEvent) (n : ℕ) (m : Mark) → IsAt ts k x → x ≡ Event e → sign_of ts m ≡ stands e n → IsStepBy w ts (task.Term k) (EventLine n) (Some (told m))
  event_line k x e n m at s g = by_line k x (EventLine n) (told m) at (λ ls ms. (
    λ o. (becomes_told m ls ms).1 (elim o [
      | by_empty h a b c ↦ cc
      | by_event d j r a b c ↦ (b, let p : d ≡ e = let q : Event d ≡ Event e = sym r ∙ s in cc in let q : j ≡ n = cc in c ∙ ap (λ (z : Sign). z ∷ []) (ap₂ (λ u v. stands u v) p q ∙ sym g))
      | by_parts j xs r a c ↦ cc
      | by_branch xs i y r a h c ↦ cc
      | by_inner y q inner r a t c ↦ cc
      | by_turns y lo hi j r a u h c ↦ cc
      | by_nodes i t j r h a c ↦ cc
    ]),
    λ b. let d = (becomes_told m ls ms).0 b in by_event e n s refl d.0 (d.1 ∙ ap (λ (z : Sign). z ∷ []) g),
  ))

  pub no_event_line : (k : ℕ) (x : Tree) (n : ℕ) → IsAt ts k x → ((e : TermEvent) → x ≡ Event e → ⊥) → IsStepBy w ts (task.Term k) (EventLine n) None
  no_event_line k x n at h = no_line k x (EventLine n) at (λ ls ms o. elim o [
    | by_empty g a b c ↦ cc
    | by_event e j s a b c ↦ h e s
    | by_parts m xs s a c ↦ cc
    | by_branch xs i y s a g c ↦ cc
    | by_inner y q inner s a t c ↦ cc
    | by_turns y lo hi j s a u m c ↦ cc
    | by_nodes i t j s g a c ↦ cc
  ])
