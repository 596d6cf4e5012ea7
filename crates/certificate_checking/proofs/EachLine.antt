-- Lines of joins, choices, ties, loops and walks.
use Rattle.std.specs.Prelude.{ℕ, suc, ◌+◌, ◌≤◌, ◌≡◌, ◌⊎◌, ◌↔◌, List, [], ◌∷◌, ◌++◌, Option, Some, None, refl, length, slice_get}
use Rattle.std.proofs.Common.{ap, ap₂, sym, subst, ◌∙◌, arith}
use Rattle.msc_base.specs.Patterns.{Mode, seq, par}
use Rattle.hmsc_graph.specs.Graphs.{Spot, Start, Goal, End}
use Rattle.chart_term.specs.TermMeanings.{NetTerms, UpTo, aim}
use Rattle.chart_term.specs.Terms.{Tree, Join, Choice, Tied, Loop, Walk, Trees, items, Row, gap, ends}
use Rattle.certificates.specs.Certificates.{HasEmpty}
use Rattle.certificates.specs.Lines.{Line, PartsLine, BranchLine, InnerLine, TurnsLine, WalkLine, NodeLine}
use Rattle.empty_terms.specs.Outlines.{IsAt, AreFrom}
use Rattle.pattern_marks.specs.Marks.{Sign, tie_opens, tie_closes, sign_of}
use Rattle.certificate_checking.specs.Showing.{IsShown, AreShown, AreTurnsShown, AreStopsShown}
use Rattle.certificate_checking.specs.Tasks.{HaveParts, Wants, IsStepBy, row_of}
use Rattle.pattern_marks.specs.declared.mark.Mark.{Mark}
use Rattle.certificate_checking.specs.declared.step.Task.{Task}
use Rattle.certificate_checking.specs.declared.step.Task.TheVariants as task
use Rattle.certificate_checking.proofs.Opening.{Opened, by_empty, by_event, by_parts, by_branch, by_inner, by_turns, by_nodes}
use Rattle.certificate_checking.proofs.Stepping.{to, marked, becomes_to, becomes_marked, Marks, at_term, by_line, no_line}

module _ (w : NetTerms) (ts : List Tree) where
  -- all the terms that stand there are these
  same_parts : (f n : ℕ) (xs ys : List Tree) → length xs ≡ n → length ys ≡ n → AreFrom ts f xs → AreFrom ts f ys → xs ≡ ys
  same_parts f n [] [] a b g h = refl
  same_parts f n [] (y ∷ ys) a b g h = absurd (omega arith)
  same_parts f n (x ∷ xs) [] a b g h = absurd (omega arith)
  same_parts f n (x ∷ xs) (y ∷ ys) a b g h =
      let e : Some x ≡ Some y = sym (g 0 x refl) ∙ h 0 y refl in
      let p : x ≡ y = cc in
      let q = same_parts (f + 1) (length xs) xs ys refl (omega arith)
      (λ j z s. subst (λ (k : ℕ). IsAt ts k z) (let r : f + suc j ≡ f + 1 + j = omega arith in r) (g (suc j) z s))
      (λ j z s. subst (λ (k : ℕ). IsAt ts k z) (let r : f + suc j ≡ f + 1 + j = omega arith in r) (h (suc j) z s)) in
      ap₂ (λ u v. u ∷ v) p q

  -- what is asked of so many terms, where they are known
  pub have_parts : (f n : ℕ) (xs : List Tree) (P : List Tree → Type 0) → length xs ≡ n → AreFrom ts f xs → HaveParts w ts f n P ↔ P xs
  have_parts f n xs P l g = (
    λ h. subst P (same_parts f n h.parts xs h.many l h.there g) h.have,
    λ p. record { parts = xs; many = l; there = g; have = p },
  )

  wants_row : (m : Mode) (f n : ℕ) (xs : List Tree) → length xs ≡ n → AreFrom ts f xs → (ls : List Line) (ms : List Sign) → Wants w ts (row_of m f n) ls ms ↔ AreShown w m xs ls ms
  wants_row seq f n xs l g ls ms = have_parts f n xs (λ (ys : List Tree). AreShown w seq ys ls ms) l g
  wants_row par f n xs l g ls ms = have_parts f n xs (λ (ys : List Tree). AreShown w par ys ls ms) l g

  join_is : (m k : Mode) (xs ys : Trees) → Join m xs ≡ Join k ys → (m ≡ k) × (xs ≡ ys)
  join_is m k xs ys e = (cc, cc)

  pub parts_line : (k f n : ℕ) (x : Tree) (m : Mode) (xs : Trees) → IsAt ts k x → x ≡ Join m xs → length (items xs) ≡ n → AreFrom ts f (items xs) → IsStepBy w ts (task.Term k) (PartsLine n) (Some (to (row_of m f n)))
  parts_line k f n x m xs at s l g = by_line w ts k x (PartsLine n) (to (row_of m f n)) at (λ ls ms. (
    λ o. (becomes_to w ts (row_of m f n) ls ms).1 ((wants_row m f n (items xs) l g ls ms).1 (elim o [
      | by_empty h a b c ↦ cc
      | by_event d j r a b c ↦ cc
      | by_parts j ys r a h ↦
          let e = join_is j m ys xs (sym r ∙ s) in
          subst (λ (z : Mode). AreShown w z (items xs) ls ms) e.0 (subst (λ (z : Trees). AreShown w j (items z) ls ms) e.1 h)
      | by_branch ys i y r a h c ↦ cc
      | by_inner y q inner r a t c ↦ cc
      | by_turns y lo hi j r a u h c ↦ cc
      | by_nodes i t j r h a c ↦ cc
    ])),
    λ b. by_parts m xs s (ap PartsLine (sym l)) ((wants_row m f n (items xs) l g ls ms).0 ((becomes_to w ts (row_of m f n) ls ms).0 b)),
  ))

  -- no join of so many parts
  abbrev pub IsNoJoin : Tree → ℕ → Type 0
  IsNoJoin x n = (m : Mode) (xs : Trees) → x ≡ Join m xs → length (items xs) ≡ n → ⊥

  pub no_parts_line : (k n : ℕ) (x : Tree) → IsAt ts k x → IsNoJoin x n → IsStepBy w ts (task.Term k) (PartsLine n) None
  no_parts_line k n x at h = no_line w ts k x (PartsLine n) at (λ ls ms o. elim o [
    | by_empty g a b c ↦ cc
    | by_event e j s a b c ↦ cc
    | by_parts m xs s a c ↦ h m xs s (cc)
    | by_branch xs i y s a g c ↦ cc
    | by_inner y q inner s a t c ↦ cc
    | by_turns y lo hi j s a u m c ↦ cc
    | by_nodes i t j s g a c ↦ cc
  ])

  pub branch_line : (k j i : ℕ) (x y : Tree) (xs : Trees) → IsAt ts k x → x ≡ Choice xs → slice_get (items xs) i ≡ Some y → IsAt ts j y → IsStepBy w ts (task.Term k) (BranchLine (suc i)) (Some (to (task.Term j)))
  branch_line k j i x y xs at s g there = by_line w ts k x (BranchLine (suc i)) (to (task.Term j)) at (λ ls ms. (
    λ o. (becomes_to w ts (task.Term j) ls ms).1 ((at_term w ts j y there ls ms).1 (elim o [
      | by_empty h a b c ↦ cc
      | by_event d n r a b c ↦ cc
      | by_parts m ys r a h ↦ cc
      | by_branch ys n z r a h c ↦
          let p : ys ≡ xs = let q : Choice ys ≡ Choice xs = sym r ∙ s in cc in
          let q : n ≡ i = let e : BranchLine (suc i) ≡ BranchLine (suc n) = a in cc in
          let e : Some z ≡ Some y = sym h ∙ (ap₂ (λ u v. slice_get (items u) v) p q ∙ g) in
          let f : z ≡ y = cc in
          subst (λ (t : Tree). IsShown w t ls ms) f c
      | by_inner z q inner r a t c ↦ cc
      | by_turns z lo hi n r a u h c ↦ cc
      | by_nodes n t m r h a c ↦ cc
    ])),
    λ b. by_branch xs i y s refl g ((at_term w ts j y there ls ms).0 ((becomes_to w ts (task.Term j) ls ms).0 b)),
  ))

  -- no choice with a part of this index, counted from 1
  abbrev pub HasNoBranch : Tree → ℕ → Type 0
  HasNoBranch x n = (xs : Trees) (i : ℕ) (y : Tree) → x ≡ Choice xs → n ≡ suc i → slice_get (items xs) i ≡ Some y → ⊥

  pub no_branch_line : (k n : ℕ) (x : Tree) → IsAt ts k x → HasNoBranch x n → IsStepBy w ts (task.Term k) (BranchLine n) None
  no_branch_line k n x at h = no_line w ts k x (BranchLine n) at (λ ls ms o. elim o [
    | by_empty g a b c ↦ cc
    | by_event e j s a b c ↦ cc
    | by_parts m xs s a c ↦ cc
    | by_branch xs i y s a g c ↦ h xs i y s (cc) g
    | by_inner y q inner s a t c ↦ cc
    | by_turns y lo hi j s a u m c ↦ cc
    | by_nodes i t j s g a c ↦ cc
  ])

  pub inner_line : (k j : ℕ) (x y : Tree) (q : List (ℕ × ℕ)) (m c : Mark) → IsAt ts k x → x ≡ Tied y q → IsAt ts j y → sign_of ts m ≡ tie_opens → sign_of ts c ≡ tie_closes q
      → IsStepBy w ts (task.Term k) InnerLine (Some (marked m (task.Term j) (task.Mark c)))
  inner_line k j x y q m c at s there a b = by_line w ts k x InnerLine (marked m (task.Term j) (task.Mark c)) at (λ ls ms. (
    λ o. (becomes_marked w ts m (task.Term j) (task.Mark c) ls ms).1 (elim o [
      | by_empty h d e f ↦ cc
      | by_event d n r e f g ↦ cc
      | by_parts n ys r e h ↦ cc
      | by_branch ys n z r e h f ↦ cc
      | by_inner z p inner r e t h ↦
          let same : Tied z p ≡ Tied y q = sym r ∙ s in
          let u : z ≡ y = cc in
          let v : p ≡ q = cc in (
            inner ++ tie_closes p ∷ [],
            t ∙ ap (λ (g : Sign). g ∷ (inner ++ tie_closes p ∷ [])) (sym a),
            record {
              front_lines = ls;
              front_signs = inner;
              back_lines = [];
              back_signs = sign_of ts c ∷ [];
              front = (at_term w ts j y there ls inner).1 (subst (λ (t : Tree). IsShown w t ls inner) u h);
              back = (refl, refl);
              written = sym (none_behind ls);
              told = ap (λ (g : Sign). inner ++ g ∷ []) (ap tie_closes v ∙ sym b);
            },
          )
      | by_turns z lo hi n r e u h f ↦ cc
      | by_nodes n t i r h e f ↦ cc
    ]),
    λ g. back ls ms ((becomes_marked w ts m (task.Term j) (task.Mark c) ls ms).0 g),
  ))
    where
      none_behind : {A : Type 0} (l : List A) → l ++ [] ≡ l
      none_behind [] = refl
      none_behind (z ∷ l) = ap (λ r. z ∷ r) (none_behind l)

      back : (ls : List Line) (ms : List Sign) → Marks w ts m (task.Term j) (task.Mark c) ls ms → Opened w x InnerLine ls ms
      back ls ms (rest, t, h) =
          let here : h.front_lines ≡ ls = sym (h.written ∙ (ap (λ (l : List Line). h.front_lines ++ l) h.back.0 ∙ none_behind h.front_lines)) in
          let shown : IsShown w y ls h.front_signs = subst (λ (l : List Line). IsShown w y l h.front_signs) here ((at_term w ts j y there h.front_lines h.front_signs).0 h.front) in
          by_inner y q h.front_signs s refl
          (t ∙ ap₂ (λ u v. u ∷ v) a (h.told ∙ ap (λ (l : List Sign). h.front_signs ++ l) (h.back.1 ∙ ap (λ (g : Sign). g ∷ []) b)))
          shown

  pub no_inner_line : (k : ℕ) (x : Tree) → IsAt ts k x → ((y : Tree) (q : List (ℕ × ℕ)) → x ≡ Tied y q → ⊥) → IsStepBy w ts (task.Term k) InnerLine None
  no_inner_line k x at h = no_line w ts k x InnerLine at (λ ls ms o. elim o [
    | by_empty g a b c ↦ cc
    | by_event e j s a b c ↦ cc
    | by_parts m xs s a c ↦ cc
    | by_branch xs i y s a g c ↦ cc
    | by_inner y q inner s a t c ↦ h y q s
    | by_turns y lo hi j s a u m c ↦ cc
    | by_nodes i t j s g a c ↦ cc
  ])

  -- the turns of a loop that no turn has begun
  pub turns_line : (k j n lo : ℕ) (hi : Option ℕ) (x y : Tree) (r : Row) → IsAt ts k x → x ≡ Loop y lo hi r → r ≡ gap [] ends → IsAt ts j y → UpTo hi n → (lo ≤ n) ⊎ HasEmpty w y
      → IsStepBy w ts (task.Term k) (TurnsLine n) (Some (to (task.Turns j n)))
  turns_line k j n lo hi x y r at s fresh there up many = by_line w ts k x (TurnsLine n) (to (task.Turns j n)) at (λ ls ms. (
    λ o. (becomes_to w ts (task.Turns j n) ls ms).1 (elim o [
      | by_empty h d e f ↦ cc
      | by_event d i q e f g ↦ cc
      | by_parts i ys q e h ↦ cc
      | by_branch ys i z q e h f ↦ cc
      | by_inner z p inner q e t h ↦ cc
      | by_turns z l u i q e v h f ↦
          let same : Loop z l u (gap [] ends) ≡ Loop y lo hi r = sym q ∙ s in
          let a : z ≡ y = cc in
          let b : i ≡ n = let c : TurnsLine n ≡ TurnsLine i = e in cc in
          (y, there, subst (λ (t : Tree). AreTurnsShown w t n ls ms) a (subst (λ (c : ℕ). AreTurnsShown w z c ls ms) b f))
      | by_nodes i t c q h e f ↦ cc
    ]),
    λ g. back ls ms ((becomes_to w ts (task.Turns j n) ls ms).0 g),
  ))
    where
      back : (ls : List Line) (ms : List Sign) → Wants w ts (task.Turns j n) ls ms → Opened w x (TurnsLine n) ls ms
      back ls ms (z, i, h) =
          let e : Some z ≡ Some y = sym i ∙ there in
          let a : z ≡ y = cc in
          by_turns y lo hi n (s ∙ ap (Loop y lo hi) fresh) refl up many (subst (λ (t : Tree). AreTurnsShown w t n ls ms) a h)

  -- so many turns can't be
  abbrev pub HasNoTurns : Tree → ℕ → Type 0
  HasNoTurns x n = (y : Tree) (lo : ℕ) (hi : Option ℕ) → x ≡ Loop y lo hi (gap [] ends) → UpTo hi n → (lo ≤ n) ⊎ HasEmpty w y → ⊥

  pub no_turns_line : (k n : ℕ) (x : Tree) → IsAt ts k x → HasNoTurns x n → IsStepBy w ts (task.Term k) (TurnsLine n) None
  no_turns_line k n x at h = no_line w ts k x (TurnsLine n) at (λ ls ms o. elim o [
    | by_empty g a b c ↦ cc
    | by_event e j s a b c ↦ cc
    | by_parts m xs s a c ↦ cc
    | by_branch xs i y s a g c ↦ cc
    | by_inner y q inner s a t c ↦ cc
    | by_turns y lo hi j s a u m c ↦ let e : TurnsLine n ≡ TurnsLine j = a in let q : j ≡ n = cc in h y lo hi s (subst (UpTo hi) q u) (subst (λ (i : ℕ). (lo ≤ i) ⊎ HasEmpty w y) q m)
    | by_nodes i t j s g a c ↦ cc
  ])

  -- the walk as a chart has it
  pub walk_line : (k n net : ℕ) (x : Tree) (f : Spot) (t : Goal) (c : List ℕ) (z : Task) → IsAt ts k x → x ≡ Walk net f t c → f ≡ Start → aim t ≡ End → c ≡ []
      → ((ls : List Line) (ms : List Sign) → Wants w ts z ls ms ↔ AreStopsShown w net Start n ls ms) → IsStepBy w ts (task.Term k) (WalkLine n) (Some (to z))
  walk_line k n net x f t c z at s a b d g = by_line w ts k x (WalkLine n) (to z) at (λ ls ms. (
    λ o. (becomes_to w ts z ls ms).1 ((g ls ms).1 (elim o [
      | by_empty h p e q ↦ cc
      | by_event p i q e h l ↦ cc
      | by_parts i ys q e h ↦ cc
      | by_branch ys i y q e h l ↦ cc
      | by_inner y p inner q e r h ↦ cc
      | by_turns y l u i q e v h r ↦ cc
      | by_nodes i u j q h e r ↦
          let same : Walk i Start u [] ≡ Walk net f t c = sym q ∙ s in
          let l : i ≡ net = cc in
          let p : j ≡ n = let m : WalkLine n ≡ WalkLine j = e in cc in
          subst (λ (m : ℕ). AreStopsShown w net Start m ls ms) p (subst (λ (m : ℕ). AreStopsShown w m Start j ls ms) l r)
    ])),
    λ p. by_nodes net t n (s ∙ (ap (λ (q : Spot). Walk net q t c) a ∙ ap (Walk net Start t) d)) b refl ((g ls ms).0 ((becomes_to w ts z ls ms).0 p)),
  ))

  pub no_walk_line : (k n : ℕ) (x : Tree) → IsAt ts k x → ((net : ℕ) (f : Spot) (t : Goal) (c : List ℕ) → x ≡ Walk net f t c → ⊥) → IsStepBy w ts (task.Term k) (WalkLine n) None
  no_walk_line k n x at h = no_line w ts k x (WalkLine n) at (λ ls ms o. elim o [
    | by_empty g a b c ↦ cc
    | by_event e j s a b c ↦ cc
    | by_parts m xs s a c ↦ cc
    | by_branch xs i y s a g c ↦ cc
    | by_inner y q inner s a t c ↦ cc
    | by_turns y lo hi j s a u m c ↦ cc
    | by_nodes i t j s g a c ↦ h i Start t [] s
  ])

  pub no_node_line : (k n : ℕ) (x : Tree) → IsAt ts k x → IsStepBy w ts (task.Term k) (NodeLine n) None
  no_node_line k n x at = no_line w ts k x (NodeLine n) at (λ ls ms o. elim o [
    | by_empty g a b c ↦ cc
    | by_event e j s a b c ↦ cc
    | by_parts m xs s a c ↦ cc
    | by_branch xs i y s a g c ↦ cc
    | by_inner y q inner s a t c ↦ cc
    | by_turns y lo hi j s a u m c ↦ cc
    | by_nodes i t j s g a c ↦ cc
  ])
