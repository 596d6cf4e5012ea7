-- Steps along a walk, and of all tasks together.
use Rattle.std.specs.Option.{option_to_list}
use Rattle.std.specs.Prelude.{ℕ, suc, ◌<◌, ◌≡◌, ◌↔◌, true, List, [], ◌∷◌, ◌++◌, Some, None, refl}
use Rattle.std.proofs.Common.{ap, ap₂, sym, subst, ◌∙◌, arith, append_assoc}
use Rattle.msc_base.specs.Lists.{IsIn}
use Rattle.msc_base.specs.Patterns.{seq, join}
use Rattle.hmsc_graph.specs.Graphs.{Spot, At, End, behind, arrives}
use Rattle.hmsc_graph.specs.Spots.{spot_of}
use Rattle.chart_term.specs.TermMeanings.{NetTerms}
use Rattle.chart_term.specs.Terms.{Tree}
use Rattle.certificates.specs.Certificates.{Stops, no_stops, stop_and, PlacedShape, ShowsNodes, shows_end, shows_node}
use Rattle.certificates.specs.Lines.{Line, NodeLine, lines, lines_of_stops, stop_count}
use Rattle.empty_terms.specs.Outlines.{IsAt}
use Rattle.pattern_marks.specs.Marks.{Sign, signs, signs_of}
use Rattle.certificate_checking.specs.Showing.{IsShown, AreStopsShown, Splits}
use Rattle.certificate_checking.specs.Tasks.{Wants, Owes, IsQuietStep, IsStepBy, Still}
use Rattle.certificate_checking.specs.declared.step.Step.{Step}
use Rattle.certificate_checking.specs.declared.step.Task.{Task}
use Rattle.certificate_checking.specs.declared.step.Task.TheVariants as task
use Rattle.certificate_checking.proofs.Opening.{some_lines}
use Rattle.certificate_checking.proofs.Stepping.{to, both, owes_one, owes_top, becomes_to, becomes_both, at_term}
use Rattle.hmsc_graph.specs.declared.spot.Spot.{Spot as SpotValue}

module _ (w : NetTerms) (ts : List Tree) where
  -- stops begin with one, and it is the last or others follow
  pub data Stopped (net : ℕ) (f : Spot) (n : ℕ) (l : Line) (ls : List Line) (ms : List Sign) : Type 0 where
    at_last : (m : ℕ) → l ≡ NodeLine m → n ≡ 1 → IsIn m (behind (w.net net) f) → arrives (w.net net) End m ≡ true → IsShown w (w.node net m) ls ms → Stopped net f n l ls ms
    at_inner : (m k : ℕ) → l ≡ NodeLine m → n ≡ suc (suc k) → IsIn m (behind (w.net net) f) → Splits (IsShown w (w.node net m)) (AreStopsShown w net (At m) (suc k)) ls ms → Stopped net f n l ls ms

  some_stops : {net : ℕ} {f : Spot} {ss : Stops} {p : PlacedShape} → ShowsNodes w net f ss p → (k : ℕ) × (stop_count ss ≡ suc k)
  some_stops (shows_end i a h) = (0, refl)
  some_stops (shows_node {ss = ss} i h r) = (stop_count ss, refl)

  none_after : {A : Type 0} (l : List A) → l ++ [] ≡ l
  none_after [] = refl
  none_after (z ∷ l) = ap (λ r. z ∷ r) (none_after l)

  stopped : {net : ℕ} {f : Spot} {ss : Stops} {p : PlacedShape} → ShowsNodes w net f ss p → (n : ℕ) (l : Line) (ls : List Line) (ms : List Sign) → stop_count ss ≡ n → l ∷ ls ≡ lines_of_stops ss → ms ≡ signs p → Stopped net f n l ls ms
  stopped (shows_end {m = m} {c = c} {p = p} i a h) n l ls ms e s t =
      let q : ls ≡ lines c ++ [] = cc in
      at_last m (cc) (sym e) i a (record { certificate = c; pattern = p; shows = h; written = q ∙ none_after (lines c); told = t })
  stopped (shows_node {m = m} {c = c} {ss = ss} {p = p} {u = u} i h r) n l ls ms e s t =
      let (k, g) = some_stops r in
      at_inner m k (cc) (sym e ∙ ap suc g) i (record {
        front_lines = lines c;
        front_signs = signs p;
        back_lines = lines_of_stops ss;
        back_signs = signs u;
        front = record { certificate = c; pattern = p; shows = h; written = refl; told = refl };
        back = record { stops = ss; pattern = u; shows = r; many = g; written = refl; told = refl };
        written = cc;
        told = t;
      })

  pub stop_shown : {net : ℕ} {f : Spot} {n : ℕ} {l : Line} {ls : List Line} {ms : List Sign} → AreStopsShown w net f n (l ∷ ls) ms → Stopped net f n l ls ms
  stop_shown {n = n} {l = l} {ls = ls} {ms = ms} h = stopped h.shows n l ls ms h.many h.written h.told

  -- stops have lines
  pub stops_lines : {net : ℕ} {f : Spot} {n : ℕ} {ms : List Sign} → AreStopsShown w net f n [] ms → ⊥
  stops_lines h = none h.stops h.pattern h.shows h.written
    where
      none : {net : ℕ} {f : Spot} (ss : Stops) (p : PlacedShape) → ShowsNodes w net f ss p → [] ≡ lines_of_stops ss → ⊥
      none _ _ (shows_end i a h) e = cc
      none _ _ (shows_node i h r) e = cc

  pub last_stop : (net m j : ℕ) (f : SpotValue) → IsIn m (behind (w.net net) (spot_of f)) → arrives (w.net net) End m ≡ true → IsAt ts j (w.node net m)
      → IsStepBy w ts (task.Stops net f 1) (NodeLine m) (Some (to (task.Term j)))
  last_stop net m j f i a at ls ms = (
    λ h. (becomes_to w ts (task.Term j) ls ms).1 ((at_term w ts j (w.node net m) at ls ms).1 (elim (stop_shown h) [
      | at_last n e g b c s ↦ let q : n ≡ m = cc in subst (λ (k : ℕ). IsShown w (w.node net k) ls ms) q s
      | at_inner n k e g b s ↦ absurd (omega arith)
    ])),
    λ h. back ((at_term w ts j (w.node net m) at ls ms).0 ((becomes_to w ts (task.Term j) ls ms).0 h)),
  )
    where
      back : IsShown w (w.node net m) ls ms → AreStopsShown w net (spot_of f) 1 (NodeLine m ∷ ls) ms
      back h = record {
        stops = stop_and m h.certificate no_stops;
        pattern = h.pattern;
        shows = shows_end i a h.shows;
        many = refl;
        written = ap (λ (l : List Line). NodeLine m ∷ l) (h.written ∙ sym (none_after (lines h.certificate)));
        told = h.told;
      }

  pub inner_stop : (net m j k : ℕ) (f g : SpotValue) → spot_of g ≡ At m → IsIn m (behind (w.net net) (spot_of f)) → IsAt ts j (w.node net m)
      → IsStepBy w ts (task.Stops net f (suc (suc k))) (NodeLine m) (Some (both (task.Term j) (task.Stops net g (suc k))))
  inner_stop net m j k f g is i at ls ms = (
    λ h. (becomes_both w ts (task.Term j) (task.Stops net g (suc k)) ls ms).1 (elim (stop_shown h) [
      | at_last n e q b c s ↦ absurd (omega arith)
      | at_inner n c e q b s ↦
          let o : n ≡ m = cc in
          let d : c ≡ k = omega arith in
          record {
            front_lines = s.front_lines;
            front_signs = s.front_signs;
            back_lines = s.back_lines;
            back_signs = s.back_signs;
            front = (at_term w ts j (w.node net m) at s.front_lines s.front_signs).1 (subst (λ (z : ℕ). IsShown w (w.node net z) s.front_lines s.front_signs) o s.front);
            back = subst (λ (z : Spot). AreStopsShown w net z (suc k) s.back_lines s.back_signs) (ap At o ∙ sym is) (subst (λ (z : ℕ). AreStopsShown w net (At n) (suc z) s.back_lines s.back_signs) d s.back);
            written = s.written;
            told = s.told;
          }
    ]),
    λ h. back ((becomes_both w ts (task.Term j) (task.Stops net g (suc k)) ls ms).0 h),
  )
    where
      back : Splits (Wants w ts (task.Term j)) (Wants w ts (task.Stops net g (suc k))) ls ms → AreStopsShown w net (spot_of f) (suc (suc k)) (NodeLine m ∷ ls) ms
      back h =
          let s = (at_term w ts j (w.node net m) at h.front_lines h.front_signs).0 h.front in
          let r = h.back in
          record {
            stops = stop_and m s.certificate r.stops;
            pattern = join seq s.pattern r.pattern;
            shows = shows_node i s.shows (subst (λ (z : Spot). ShowsNodes w net z r.stops r.pattern) is r.shows);
            many = ap suc r.many;
            written = ap (λ (l : List Line). NodeLine m ∷ l) (h.written ∙ ap₂ (λ u v. u ++ v) s.written r.written);
            told = h.told ∙ ap₂ (λ u v. u ++ v) s.told r.told;
          }

  -- the node is no stop there
  abbrev pub IsNoStop : ℕ → Spot → ℕ → Line → Type 0
  IsNoStop net f n l = (m : ℕ) → l ≡ NodeLine m → IsIn m (behind (w.net net) f) → (n ≡ 1 → arrives (w.net net) End m ≡ true) → 0 < n → ⊥

  pub no_stop : (net n : ℕ) (f : SpotValue) (l : Line) → IsNoStop net (spot_of f) n l → IsStepBy w ts (task.Stops net f n) l None
  no_stop net n f l h ls ms g = elim (stop_shown g) [
    | at_last m e q b c s ↦ h m e b (λ r. c) (omega arith)
    | at_inner m k e q b s ↦ h m e b (λ r. absurd (omega arith)) (omega arith)
  ]

  -- ---- a step with other tasks below

  pub quiet_on : (t : Task) (s : Step) → IsQuietStep w ts t (Some s) → (tasks : List Task) (ls : List Line) (ms : List Sign)
      → Owes w ts (tasks ++ t ∷ []) ls ms ↔ Still w ts (signs_of ts (option_to_list s.mark)) (tasks ++ (option_to_list s.then ++ option_to_list s.first)) ls ms
  quiet_on t s h tasks ls ms = (
    λ o. let r = (owes_top w ts tasks (t ∷ []) ls ms).0 o in
        let b = (h r.front_lines r.front_signs).0 ((owes_one w ts t r.front_lines r.front_signs).0 r.front) in (
          b.rest ++ r.back_signs,
          r.told ∙ (ap (λ (l : List Sign). l ++ r.back_signs) b.told ∙ append_assoc (signs_of ts (option_to_list s.mark)) b.rest r.back_signs),
          (owes_top w ts tasks (option_to_list s.then ++ option_to_list s.first) ls (b.rest ++ r.back_signs)).1 (record {
            front_lines = r.front_lines;
            front_signs = b.rest;
            back_lines = r.back_lines;
            back_signs = r.back_signs;
            front = b.owes;
            back = r.back;
            written = r.written;
            told = refl;
          }),
        ),
    λ (rest, t', o). let r = (owes_top w ts tasks (option_to_list s.then ++ option_to_list s.first) ls rest).0 o in
        (owes_top w ts tasks (t ∷ []) ls ms).1 (record {
          front_lines = r.front_lines;
          front_signs = signs_of ts (option_to_list s.mark) ++ r.front_signs;
          back_lines = r.back_lines;
          back_signs = r.back_signs;
          front = (owes_one w ts t r.front_lines (signs_of ts (option_to_list s.mark) ++ r.front_signs)).1 ((h r.front_lines (signs_of ts (option_to_list s.mark) ++ r.front_signs)).1 (record { rest = r.front_signs; told = refl; owes = r.front }));
          back = r.back;
          written = r.written;
          told = t' ∙ (ap (λ (l : List Sign). signs_of ts (option_to_list s.mark) ++ l) r.told ∙ sym (append_assoc (signs_of ts (option_to_list s.mark)) r.front_signs r.back_signs));
        }),
  )

  pub quiet_stuck : (t : Task) → IsQuietStep w ts t None → (tasks : List Task) (ls : List Line) (ms : List Sign) → Owes w ts (tasks ++ t ∷ []) ls ms → ⊥
  quiet_stuck t h tasks ls ms o = let r = (owes_top w ts tasks (t ∷ []) ls ms).0 o in h r.front_lines r.front_signs ((owes_one w ts t r.front_lines r.front_signs).0 r.front)

  -- a task that wants a line takes one at least
  abbrev pub HasLines : Task → Type 0
  HasLines t = (ms : List Sign) → Wants w ts t [] ms → ⊥

  pub line_on : (t : Task) (l : Line) (s : Step) → HasLines t → IsStepBy w ts t l (Some s) → (tasks : List Task) (ls : List Line) (ms : List Sign)
      → Owes w ts (tasks ++ t ∷ []) (l ∷ ls) ms ↔ Still w ts (signs_of ts (option_to_list s.mark)) (tasks ++ (option_to_list s.then ++ option_to_list s.first)) ls ms
  line_on t l s some h tasks ls ms = (
    λ o. let r = (owes_top w ts tasks (t ∷ []) (l ∷ ls) ms).0 o in to_rest r r.front_lines refl,
    λ (rest, t', o). let r = (owes_top w ts tasks (option_to_list s.then ++ option_to_list s.first) ls rest).0 o in
        (owes_top w ts tasks (t ∷ []) (l ∷ ls) ms).1 (record {
          front_lines = l ∷ r.front_lines;
          front_signs = signs_of ts (option_to_list s.mark) ++ r.front_signs;
          back_lines = r.back_lines;
          back_signs = r.back_signs;
          front = (owes_one w ts t (l ∷ r.front_lines) (signs_of ts (option_to_list s.mark) ++ r.front_signs)).1 ((h r.front_lines (signs_of ts (option_to_list s.mark) ++ r.front_signs)).1 (record { rest = r.front_signs; told = refl; owes = r.front }));
          back = r.back;
          written = ap (λ (k : List Line). l ∷ k) r.written;
          told = t' ∙ (ap (λ (k : List Sign). signs_of ts (option_to_list s.mark) ++ k) r.told ∙ sym (append_assoc (signs_of ts (option_to_list s.mark)) r.front_signs r.back_signs));
        }),
  )
    where
      to_rest : (r : Splits (Owes w ts (t ∷ [])) (Owes w ts tasks) (l ∷ ls) ms) (front : List Line) → r.front_lines ≡ front → Still w ts (signs_of ts (option_to_list s.mark)) (tasks ++ (option_to_list s.then ++ option_to_list s.first)) ls ms
      to_rest r [] e = absurd (some r.front_signs (subst (λ (k : List Line). Wants w ts t k r.front_signs) e ((owes_one w ts t r.front_lines r.front_signs).0 r.front)))
      to_rest r (k ∷ ks) e =
          let all : l ∷ ls ≡ k ∷ (ks ++ r.back_lines) = r.written ∙ ap (λ (z : List Line). z ++ r.back_lines) e in
          let first : k ≡ l = cc in
          let others : ls ≡ ks ++ r.back_lines = cc in
          let b = (h ks r.front_signs).0 (subst (λ (z : Line). Wants w ts t (z ∷ ks) r.front_signs) first (subst (λ (z : List Line). Wants w ts t z r.front_signs) e ((owes_one w ts t r.front_lines r.front_signs).0 r.front))) in (
            b.rest ++ r.back_signs,
            r.told ∙ (ap (λ (z : List Sign). z ++ r.back_signs) b.told ∙ append_assoc (signs_of ts (option_to_list s.mark)) b.rest r.back_signs),
            (owes_top w ts tasks (option_to_list s.then ++ option_to_list s.first) ls (b.rest ++ r.back_signs)).1 (record {
              front_lines = ks;
              front_signs = b.rest;
              back_lines = r.back_lines;
              back_signs = r.back_signs;
              front = b.owes;
              back = r.back;
              written = others;
              told = refl;
            }),
          )

  pub line_stuck : (t : Task) (l : Line) → HasLines t → IsStepBy w ts t l None → (tasks : List Task) (ls : List Line) (ms : List Sign) → Owes w ts (tasks ++ t ∷ []) (l ∷ ls) ms → ⊥
  line_stuck t l some h tasks ls ms o = let r = (owes_top w ts tasks (t ∷ []) (l ∷ ls) ms).0 o in out r r.front_lines refl
    where
      out : (r : Splits (Owes w ts (t ∷ [])) (Owes w ts tasks) (l ∷ ls) ms) (front : List Line) → r.front_lines ≡ front → ⊥
      out r [] e = some r.front_signs (subst (λ (k : List Line). Wants w ts t k r.front_signs) e ((owes_one w ts t r.front_lines r.front_signs).0 r.front))
      out r (k ∷ ks) e =
          let all : l ∷ ls ≡ k ∷ (ks ++ r.back_lines) = r.written ∙ ap (λ (z : List Line). z ++ r.back_lines) e in
          let first : k ≡ l = cc in
          h ks r.front_signs (subst (λ (z : Line). Wants w ts t (z ∷ ks) r.front_signs) first (subst (λ (z : List Line). Wants w ts t z r.front_signs) e ((owes_one w ts t r.front_lines r.front_signs).0 r.front)))

  -- no line is left for it
  pub lines_out : (t : Task) → HasLines t → (tasks : List Task) (ms : List Sign) → Owes w ts (tasks ++ t ∷ []) [] ms → ⊥
  lines_out t some tasks ms o = let r = (owes_top w ts tasks (t ∷ []) [] ms).0 o in out r r.front_lines refl
    where
      out : (r : Splits (Owes w ts (t ∷ [])) (Owes w ts tasks) [] ms) (front : List Line) → r.front_lines ≡ front → ⊥
      out r [] e = some r.front_signs (subst (λ (k : List Line). Wants w ts t k r.front_signs) e ((owes_one w ts t r.front_lines r.front_signs).0 r.front))
      out r (k ∷ ks) e = let all : [] ≡ k ∷ (ks ++ r.back_lines) = r.written ∙ ap (λ (z : List Line). z ++ r.back_lines) e in cc

  pub term_lines : (k : ℕ) → HasLines (task.Term k)
  term_lines k ms h = some_lines w h.2

  pub stop_lines : (net n : ℕ) (f : SpotValue) → HasLines (task.Stops net f n)
  stop_lines net n f ms h = stops_lines h
