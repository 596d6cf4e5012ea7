-- Steps of tasks that want no line: rows, parts side by side, turns.
use Rattle.std.specs.Prelude.{ℕ, zero, suc, ◌+◌, ◌-◌, ◌<◌, ◌≤◌, ◌≡◌, ◌↔◌, List, [], ◌∷◌, ◌++◌, Some, None, refl, length, slice_get}
use Rattle.std.proofs.Common.{ap, ap₂, sym, subst, ◌∙◌, arith}
use Rattle.std.proofs.lemmas.Option.{slice_get_past}
use Rattle.list_facts.proofs.Reading.{some_at}
use Rattle.msc_base.specs.Patterns.{Mode, seq, par, empty, join}
use Rattle.hmsc_graph.specs.Graphs.{behind}
use Rattle.chart_term.specs.TermMeanings.{NetTerms}
use Rattle.chart_term.specs.Terms.{Tree}
use Rattle.certificates.specs.Certificates.{Certificates, no_certificates, certificate_and, count, PlacedShape, ShowsParts, shows_no_part, shows_part, ShowsTurns, shows_no_turn, shows_turn}
use Rattle.certificates.specs.Lines.{Line, lines, lines_of_all}
use Rattle.empty_terms.specs.Outlines.{IsAt, AreFrom}
use Rattle.pattern_marks.specs.Marks.{Sign, opens, turns, closes, signs, sign_of}
use Rattle.certificate_checking.specs.Showing.{IsShown, AreShown, AreTurnsShown, Splits}
use Rattle.certificate_checking.specs.Tasks.{HaveParts, Wants, IsQuietStep}
use Rattle.pattern_marks.specs.declared.mark.Mark.{Mark}
use Rattle.certificate_checking.specs.declared.step.Task.TheVariants as task
use Rattle.certificate_checking.proofs.Stepping.{done, told, both, marked, becomes_done, becomes_told, becomes_both, becomes_marked, Marks}

-- the part of a list behind its first
module _ (ts : List Tree) where
  pub from_next : (f : ℕ) (x : Tree) (xs : List Tree) → AreFrom ts f (x ∷ xs) → AreFrom ts (f + 1) xs
  from_next f x xs g j y s = subst (λ (k : ℕ). IsAt ts k y) (let r : f + suc j ≡ f + 1 + j = omega arith in r) (g (suc j) y s)

  pub from_first : (f : ℕ) (x : Tree) (xs : List Tree) → AreFrom ts f (x ∷ xs) → IsAt ts f x
  from_first f x xs g = subst (λ (k : ℕ). IsAt ts k x) (let r : f + 0 ≡ f = omega arith in r) (g 0 x refl)

  pub from_both : (f : ℕ) (x : Tree) (xs : List Tree) → IsAt ts f x → AreFrom ts (f + 1) xs → AreFrom ts f (x ∷ xs)
  from_both f x xs a g zero y s = let e : x ≡ y = cc in subst (λ (k : ℕ). IsAt ts k y) (let r : f ≡ f + 0 = omega arith in r) (subst (IsAt ts f) e a)
  from_both f x xs a g (suc j) y s = subst (λ (k : ℕ). IsAt ts k y) (let r : f + 1 + j ≡ f + suc j = omega arith in r) (g j y s)

module _ (w : NetTerms) where
  -- what shows no part, and what shows one more
  pub none_shown : (m : Mode) (ls : List Line) (ms : List Sign) → AreShown w m [] ls ms ↔ ((ls ≡ []) × (ms ≡ []))
  none_shown m ls ms = (λ h. out h.certificates h.pattern h.shows h.written h.told, λ h. record { certificates = no_certificates; pattern = empty; shows = shows_no_part; written = h.0; told = h.1 })
    where
      out : (cs : Certificates) (p : PlacedShape) → ShowsParts w m [] cs p → ls ≡ lines_of_all cs → ms ≡ signs p → (ls ≡ []) × (ms ≡ [])
      out _ _ shows_no_part a b = (a, b)

  pub row_shown : (x : Tree) (xs : List Tree) (ls : List Line) (ms : List Sign) → AreShown w seq (x ∷ xs) ls ms ↔ Splits (IsShown w x) (AreShown w seq xs) ls ms
  row_shown x xs ls ms = (
    λ h. out h.certificates h.pattern h.shows h.written h.told,
    λ h. record {
      certificates = certificate_and h.front.certificate h.back.certificates;
      pattern = join seq h.front.pattern h.back.pattern;
      shows = shows_part h.front.shows h.back.shows;
      written = h.written ∙ ap₂ (λ u v. u ++ v) h.front.written h.back.written;
      told = h.told ∙ ap₂ (λ u v. u ++ v) h.front.told h.back.told;
    },
  )
    where
      out : (cs : Certificates) (p : PlacedShape) → ShowsParts w seq (x ∷ xs) cs p → ls ≡ lines_of_all cs → ms ≡ signs p → Splits (IsShown w x) (AreShown w seq xs) ls ms
      out _ _ (shows_part {c = c} {cs = cs} {p = p} {u = u} h r) a b = record {
        front_lines = lines c;
        front_signs = signs p;
        back_lines = lines_of_all cs;
        back_signs = signs u;
        front = record { certificate = c; pattern = p; shows = h; written = refl; told = refl };
        back = record { certificates = cs; pattern = u; shows = r; written = refl; told = refl };
        written = a;
        told = b;
      }

  -- a part, and the others between the signs that they begin and that all end
  abbrev pub BesideOthers : Tree → List Tree → List Line → List Sign → Type 0
  BesideOthers x xs ls ms = (rest : List Sign) × (ms ≡ opens ∷ rest) × Splits (IsShown w x) (λ ks ns. (inner : List Sign) × AreShown w par xs ks inner × (ns ≡ turns ∷ (inner ++ closes ∷ []))) ls rest

  pub beside_shown : (x : Tree) (xs : List Tree) (ls : List Line) (ms : List Sign) → AreShown w par (x ∷ xs) ls ms ↔ BesideOthers x xs ls ms
  beside_shown x xs ls ms = (
    λ h. out h.certificates h.pattern h.shows h.written h.told,
    λ (rest, t, h). let (inner, s, u) = h.back in record {
      certificates = certificate_and h.front.certificate s.certificates;
      pattern = join par h.front.pattern s.pattern;
      shows = shows_part h.front.shows s.shows;
      written = h.written ∙ ap₂ (λ u v. u ++ v) h.front.written s.written;
      told = t ∙ ap (λ (l : List Sign). opens ∷ l) (h.told ∙ ap₂ (λ u v. u ++ v) h.front.told (u ∙ ap (λ (l : List Sign). turns ∷ (l ++ closes ∷ [])) s.told));
    },
  )
    where
      out : (cs : Certificates) (p : PlacedShape) → ShowsParts w par (x ∷ xs) cs p → ls ≡ lines_of_all cs → ms ≡ signs p → BesideOthers x xs ls ms
      out _ _ (shows_part {c = c} {cs = cs} {p = p} {u = u} h r) a b = (
        signs p ++ turns ∷ (signs u ++ closes ∷ []),
        b,
        record {
          front_lines = lines c;
          front_signs = signs p;
          back_lines = lines_of_all cs;
          back_signs = turns ∷ (signs u ++ closes ∷ []);
          front = record { certificate = c; pattern = p; shows = h; written = refl; told = refl };
          back = (signs u, record { certificates = cs; pattern = u; shows = r; written = refl; told = refl }, refl);
          written = a;
          told = refl;
        },
      )

  pub no_turns_shown : (x : Tree) (ls : List Line) (ms : List Sign) → AreTurnsShown w x 0 ls ms ↔ ((ls ≡ []) × (ms ≡ []))
  no_turns_shown x ls ms = (
    λ h. out h.certificates h.pattern h.shows h.many h.written h.told,
    λ h. record { certificates = no_certificates; pattern = empty; shows = shows_no_turn; many = refl; written = h.0; told = h.1 },
  )
    where
      out : (cs : Certificates) (p : PlacedShape) → ShowsTurns w x cs p → count cs ≡ 0 → ls ≡ lines_of_all cs → ms ≡ signs p → (ls ≡ []) × (ms ≡ [])
      out _ _ shows_no_turn n a b = (a, b)
      out _ _ (shows_turn h r) n a b = absurd (omega arith)

  pub turns_shown : (x : Tree) (n : ℕ) (ls : List Line) (ms : List Sign) → AreTurnsShown w x (suc n) ls ms ↔ Splits (IsShown w x) (AreTurnsShown w x n) ls ms
  turns_shown x n ls ms = (
    λ h. out h.certificates h.pattern h.shows h.many h.written h.told,
    λ h. record {
      certificates = certificate_and h.front.certificate h.back.certificates;
      pattern = join seq h.front.pattern h.back.pattern;
      shows = shows_turn h.front.shows h.back.shows;
      many = ap suc h.back.many;
      written = h.written ∙ ap₂ (λ u v. u ++ v) h.front.written h.back.written;
      told = h.told ∙ ap₂ (λ u v. u ++ v) h.front.told h.back.told;
    },
  )
    where
      out : (cs : Certificates) (p : PlacedShape) → ShowsTurns w x cs p → count cs ≡ suc n → ls ≡ lines_of_all cs → ms ≡ signs p → Splits (IsShown w x) (AreTurnsShown w x n) ls ms
      out _ _ shows_no_turn m a b = absurd (omega arith)
      out _ _ (shows_turn {c = c} {cs = cs} {p = p} {u = u} h r) m a b = record {
        front_lines = lines c;
        front_signs = signs p;
        back_lines = lines_of_all cs;
        back_signs = signs u;
        front = record { certificate = c; pattern = p; shows = h; written = refl; told = refl };
        back = record { certificates = cs; pattern = u; shows = r; many = omega arith; written = refl; told = refl };
        written = a;
        told = b;
      }

module _ (w : NetTerms) (ts : List Tree) where
  -- the same split of other tasks
  pub split_map : (P P' Q Q' : List Line → List Sign → Type 0) → ((ls : List Line) (ms : List Sign) → P ls ms → P' ls ms) → ((ls : List Line) (ms : List Sign) → Q ls ms → Q' ls ms)
      → (ls : List Line) (ms : List Sign) → Splits P Q ls ms → Splits P' Q' ls ms
  split_map P P' Q Q' f g ls ms h = record {
    front_lines = h.front_lines;
    front_signs = h.front_signs;
    back_lines = h.back_lines;
    back_signs = h.back_signs;
    front = f h.front_lines h.front_signs h.front;
    back = g h.back_lines h.back_signs h.back;
    written = h.written;
    told = h.told;
  }

  -- so many parts have a first
  parts_split : (f n : ℕ) (P : List Tree → Type 0) → HaveParts w ts f (suc n) P → (x : Tree) × (xs : List Tree) × (length xs ≡ n) × IsAt ts f x × AreFrom ts (f + 1) xs × P (x ∷ xs)
  parts_split f n P h = out h.parts h.many h.there h.have
    where
      out : (ys : List Tree) → length ys ≡ suc n → AreFrom ts f ys → P ys → (x : Tree) × (xs : List Tree) × (length xs ≡ n) × IsAt ts f x × AreFrom ts (f + 1) xs × P (x ∷ xs)
      out [] l g p = absurd (omega arith)
      out (x ∷ xs) l g p = (x, xs, omega arith, from_first ts f x xs g, from_next ts f x xs g, p)

  no_parts : (f : ℕ) (P : List Tree → Type 0) → HaveParts w ts f 0 P → P []
  no_parts f P h = out h.parts h.many h.have
    where
      out : (ys : List Tree) → length ys ≡ 0 → P ys → P []
      out [] l p = p
      out (x ∷ xs) l p = absurd (omega arith)

  nothing_there : (f : ℕ) → AreFrom ts f []
  nothing_there f j x s = cc

  pub row_none : (f : ℕ) → IsQuietStep w ts (task.Row f 0) (Some done)
  row_none f ls ms = (
    λ h. (becomes_done w ts ls ms).1 ((none_shown w seq ls ms).0 (no_parts f (λ xs. AreShown w seq xs ls ms) h)),
    λ h. record { parts = []; many = refl; there = nothing_there f; have = (none_shown w seq ls ms).1 ((becomes_done w ts ls ms).0 h) },
  )

  pub row_first : (f n : ℕ) → IsQuietStep w ts (task.Row f (suc n)) (Some (both (task.Term f) (task.Row (f + 1) n)))
  row_first f n ls ms = (
    λ h. let (x, xs, l, at, behind, p) = parts_split f n (λ xs. AreShown w seq xs ls ms) h in
        (becomes_both w ts (task.Term f) (task.Row (f + 1) n) ls ms).1
        (split_map (IsShown w x) (Wants w ts (task.Term f)) (AreShown w seq xs) (Wants w ts (task.Row (f + 1) n))
        (λ ks ns s. (x, at, s)) (λ ks ns s. record { parts = xs; many = l; there = behind; have = s }) ls ms ((row_shown w x xs ls ms).0 p)),
    λ h. back ((becomes_both w ts (task.Term f) (task.Row (f + 1) n) ls ms).0 h),
  )
    where
      back : Splits (Wants w ts (task.Term f)) (Wants w ts (task.Row (f + 1) n)) ls ms → Wants w ts (task.Row f (suc n)) ls ms
      back h =
          let (x, at, s) = h.front in
          let r = h.back in
          record {
            parts = x ∷ r.parts;
            many = ap suc r.many;
            there = from_both ts f x r.parts at r.there;
            have = (row_shown w x r.parts ls ms).1 (record { front_lines = h.front_lines; front_signs = h.front_signs; back_lines = h.back_lines; back_signs = h.back_signs; front = s; back = r.have; written = h.written; told = h.told });
          }

  pub row_past : (f n : ℕ) → slice_get ts f ≡ None → IsQuietStep w ts (task.Row f (suc n)) None
  row_past f n e ls ms h = let (x, xs, l, at, behind, p) = parts_split f n (λ xs. AreShown w seq xs ls ms) h in let no : None ≡ Some x = sym e ∙ at in cc

  pub beside_none : (f : ℕ) → IsQuietStep w ts (task.Beside f 0) (Some done)
  beside_none f ls ms = (
    λ h. (becomes_done w ts ls ms).1 ((none_shown w par ls ms).0 (no_parts f (λ xs. AreShown w par xs ls ms) h)),
    λ h. record { parts = []; many = refl; there = nothing_there f; have = (none_shown w par ls ms).1 ((becomes_done w ts ls ms).0 h) },
  )

  pub beside_first : (f n : ℕ) (m : Mark) → sign_of ts m ≡ opens → IsQuietStep w ts (task.Beside f (suc n)) (Some (marked m (task.Term f) (task.Others (f + 1) n)))
  beside_first f n m is ls ms = (
    λ h. let (x, xs, l, at, behind, p) = parts_split f n (λ xs. AreShown w par xs ls ms) h in
        let (rest, t, s) = (beside_shown w x xs ls ms).0 p in
        (becomes_marked w ts m (task.Term f) (task.Others (f + 1) n) ls ms).1 (
          rest,
          t ∙ ap (λ (g : Sign). g ∷ rest) (sym is),
          split_map (IsShown w x) (Wants w ts (task.Term f)) (λ ks ns. (inner : List Sign) × AreShown w par xs ks inner × (ns ≡ turns ∷ (inner ++ closes ∷ []))) (Wants w ts (task.Others (f + 1) n))
              (λ ks ns s. (x, at, s)) (λ ks ns s. record { inner = s.0; have = record { parts = xs; many = l; there = behind; have = s.1 }; told = s.2 }) ls rest s,
        ),
    λ h. back ((becomes_marked w ts m (task.Term f) (task.Others (f + 1) n) ls ms).0 h),
  )
    where
      back : Marks w ts m (task.Term f) (task.Others (f + 1) n) ls ms → Wants w ts (task.Beside f (suc n)) ls ms
      back (rest, t, h) =
          let (x, at, s) = h.front in
          let r = h.back in
          record {
            parts = x ∷ r.have.parts;
            many = ap suc r.have.many;
            there = from_both ts f x r.have.parts at r.have.there;
            have = (beside_shown w x r.have.parts ls ms).1 (
              rest,
              t ∙ ap (λ (g : Sign). g ∷ rest) is,
              record {
                front_lines = h.front_lines;
                front_signs = h.front_signs;
                back_lines = h.back_lines;
                back_signs = h.back_signs;
                front = s;
                back = (r.inner, r.have.have, r.told);
                written = h.written;
                told = h.told;
              },
            );
          }

  pub beside_past : (f n : ℕ) → slice_get ts f ≡ None → IsQuietStep w ts (task.Beside f (suc n)) None
  beside_past f n e ls ms h = let (x, xs, l, at, behind, p) = parts_split f n (λ xs. AreShown w par xs ls ms) h in let no : None ≡ Some x = sym e ∙ at in cc

  none_behind : {A : Type 0} (l : List A) → l ++ [] ≡ l
  none_behind [] = refl
  none_behind (z ∷ l) = ap (λ r. z ∷ r) (none_behind l)

  pub others_step : (f n : ℕ) (m c : Mark) → sign_of ts m ≡ turns → sign_of ts c ≡ closes → IsQuietStep w ts (task.Others f n) (Some (marked m (task.Beside f n) (task.Mark c)))
  others_step f n m c a b ls ms = (
    λ h. (becomes_marked w ts m (task.Beside f n) (task.Mark c) ls ms).1 (
      h.inner ++ closes ∷ [],
      h.told ∙ ap (λ (g : Sign). g ∷ (h.inner ++ closes ∷ [])) (sym a),
      record {
        front_lines = ls;
        front_signs = h.inner;
        back_lines = [];
        back_signs = sign_of ts c ∷ [];
        front = h.have;
        back = (refl, refl);
        written = sym (none_behind ls);
        told = ap (λ (g : Sign). h.inner ++ g ∷ []) (sym b);
      },
    ),
    λ h. back ((becomes_marked w ts m (task.Beside f n) (task.Mark c) ls ms).0 h),
  )
    where
      back : Marks w ts m (task.Beside f n) (task.Mark c) ls ms → Wants w ts (task.Others f n) ls ms
      back (rest, t, h) =
          let here : h.front_lines ≡ ls = sym (h.written ∙ (ap (λ (l : List Line). h.front_lines ++ l) h.back.0 ∙ none_behind h.front_lines)) in
          record {
            inner = h.front_signs;
            have = subst (λ (l : List Line). Wants w ts (task.Beside f n) l h.front_signs) here h.front;
            told = t ∙ ap₂ (λ u v. u ∷ v) a (h.told ∙ ap (λ (l : List Sign). h.front_signs ++ l) (h.back.1 ∙ ap (λ (g : Sign). g ∷ []) b));
          }

  pub turns_none : (k : ℕ) (x : Tree) → IsAt ts k x → IsQuietStep w ts (task.Turns k 0) (Some done)
  turns_none k x at ls ms = (
    λ h. (becomes_done w ts ls ms).1 ((no_turns_shown w h.0 ls ms).0 h.2),
    λ h. (x, at, (no_turns_shown w x ls ms).1 ((becomes_done w ts ls ms).0 h)),
  )

  pub turns_first : (k n : ℕ) (x : Tree) → IsAt ts k x → IsQuietStep w ts (task.Turns k (suc n)) (Some (both (task.Term k) (task.Turns k n)))
  turns_first k n x at ls ms = (
    λ (y, i, h). (becomes_both w ts (task.Term k) (task.Turns k n) ls ms).1
        (split_map (IsShown w y) (Wants w ts (task.Term k)) (AreTurnsShown w y n) (Wants w ts (task.Turns k n)) (λ ks ns s. (y, i, s)) (λ ks ns s. (y, i, s)) ls ms ((turns_shown w y n ls ms).0 h)),
    λ h. (
      x,
      at,
      (turns_shown w x n ls ms).1 (split_map (Wants w ts (task.Term k)) (IsShown w x) (Wants w ts (task.Turns k n)) (AreTurnsShown w x n)
          (λ ks ns s. subst (λ (z : Tree). IsShown w z ks ns) (one s.0 s.1) s.2) (λ ks ns s. subst (λ (z : Tree). AreTurnsShown w z n ks ns) (one s.0 s.1) s.2) ls ms
          ((becomes_both w ts (task.Term k) (task.Turns k n) ls ms).0 h)),
    ),
  )
    where
      one : (y : Tree) → IsAt ts k y → y ≡ x
      one y i = let e : Some y ≡ Some x = sym i ∙ at in cc

  pub turns_past : (k n : ℕ) → slice_get ts k ≡ None → IsQuietStep w ts (task.Turns k n) None
  turns_past k n e ls ms h = let no : None ≡ Some h.0 = sym e ∙ h.1 in cc

  pub mark_step : (m : Mark) → IsQuietStep w ts (task.Mark m) (Some (told m))
  mark_step m ls ms = ((becomes_told w ts m ls ms).1, (becomes_told w ts m ls ms).0)

  -- ---- the same, by the numbers of the code

  counted : (n : ℕ) → 0 < n → suc (n - 1) ≡ n
  counted n l = omega arith

  pub row_none_at : (f n : ℕ) → n ≡ 0 → IsQuietStep w ts (task.Row f n) (Some done)
  row_none_at f n e = subst (λ (k : ℕ). IsQuietStep w ts (task.Row f k) (Some done)) (sym e) (row_none f)

  pub row_first_at : (f n : ℕ) → 0 < n → IsQuietStep w ts (task.Row f n) (Some (both (task.Term f) (task.Row (f + 1) (n - 1))))
  row_first_at f n l = subst (λ (k : ℕ). IsQuietStep w ts (task.Row f k) (Some (both (task.Term f) (task.Row (f + 1) (n - 1))))) (counted n l) (row_first f (n - 1))

  pub row_past_at : (f n : ℕ) → 0 < n → length ts ≤ f → IsQuietStep w ts (task.Row f n) None
  row_past_at f n l p = subst (λ (k : ℕ). IsQuietStep w ts (task.Row f k) None) (counted n l) (row_past f (n - 1) (slice_get_past ts f p))

  pub beside_none_at : (f n : ℕ) → n ≡ 0 → IsQuietStep w ts (task.Beside f n) (Some done)
  beside_none_at f n e = subst (λ (k : ℕ). IsQuietStep w ts (task.Beside f k) (Some done)) (sym e) (beside_none f)

  pub beside_first_at : (f n : ℕ) (m : Mark) → sign_of ts m ≡ opens → 0 < n → IsQuietStep w ts (task.Beside f n) (Some (marked m (task.Term f) (task.Others (f + 1) (n - 1))))
  beside_first_at f n m e l = subst (λ (k : ℕ). IsQuietStep w ts (task.Beside f k) (Some (marked m (task.Term f) (task.Others (f + 1) (n - 1))))) (counted n l) (beside_first f (n - 1) m e)

  pub beside_past_at : (f n : ℕ) → 0 < n → length ts ≤ f → IsQuietStep w ts (task.Beside f n) None
  beside_past_at f n l p = subst (λ (k : ℕ). IsQuietStep w ts (task.Beside f k) None) (counted n l) (beside_past f (n - 1) (slice_get_past ts f p))

  pub turns_none_at : (k n : ℕ) → k < length ts → n ≡ 0 → IsQuietStep w ts (task.Turns k n) (Some done)
  turns_none_at k n l e = let (x, at) = some_at ts k l in subst (λ (j : ℕ). IsQuietStep w ts (task.Turns k j) (Some done)) (sym e) (turns_none k x at)

  pub turns_first_at : (k n : ℕ) → k < length ts → 0 < n → IsQuietStep w ts (task.Turns k n) (Some (both (task.Term k) (task.Turns k (n - 1))))
  turns_first_at k n l p = let (x, at) = some_at ts k l in subst (λ (j : ℕ). IsQuietStep w ts (task.Turns k j) (Some (both (task.Term k) (task.Turns k (n - 1))))) (counted n p) (turns_first k (n - 1) x at)

  pub turns_past_at : (k n : ℕ) → length ts ≤ k → IsQuietStep w ts (task.Turns k n) None
  turns_past_at k n l = turns_past k n (slice_get_past ts k l)
