-- The residual terms after a list of labels, against runs.
use Rattle.std.specs.Prelude.{ℕ, ◌≤◌, Bool, List, [], ◌∷◌, ◌≡◌, Some, refl, ◌++◌}
use Rattle.chart_term.specs.NormalForms.{NetPermits}
use Rattle.chart_term.specs.TermMeanings.{NetTerms, HasPattern, terms_of}
use Rattle.chart_term.specs.TermPatterns.{Shape, Takes, HasNoEvent, back}
use Rattle.chart_term.specs.TermRuns.{run_end, run_take, Runs}
use Rattle.chart_term.specs.Terms.{TermEvent, Tree}
use Rattle.chart_term.proofs.Running.{runs_same}
use Rattle.term_laws.specs.Residuals.{res_more, res_none, IsResidual}
use Rattle.term_laws.specs.Taking.{IsAfter}
use Rattle.term_laws.proofs.Ranking.{rank}
use Rattle.term_laws.proofs.Sentences.{taking_sound, taking_whole}
use Rattle.term_laws.proofs.TidyKept.{AreExactNets, after_good}
use Rattle.term_laws.specs.Soundness.{IsTidy}
use Rattle.chart_term.proofs.Commuting.{left_runs}

module _ (k : NetPermits) (node : ℕ → ℕ → Tree) (o : Bool) (NL : ℕ → ℕ → Type 0) (NG : ℕ → Type 0) (nets : AreExactNets k node o NL NG) (nr : ℕ → ℕ)
    (kept_rank : (n m : ℕ) (c : List ℕ) (x : Tree) → k.kept n m c ≡ Some x → rank nr x ≤ nr n) where
  abbrev w : NetTerms
  w = terms_of k node

  abbrev Sound : Tree → Type 0
  Sound x = IsTidy NL NG x

  run_cut : (s : Shape) (a : ℕ) (l : List ℕ) → Runs s (a ∷ l) → (e : TermEvent) × (t : Shape) × (e.label ≡ a) × Takes s e t × Runs t l
  run_cut s a l (run_take {t = t} {e = e} h r) = (e, t, refl, h, r)

  run_stop : (s : Shape) → Runs s [] → HasNoEvent s
  run_stop s (run_end h) = h

  res_at : {x y z : Tree} {e : TermEvent} {l : List ℕ} (b : ℕ) → e.label ≡ b → IsAfter k x e y → IsResidual k y l z → IsResidual k x (b ∷ l) z
  res_at b q h r = rw (← q) (res_more h r)

  -- a run of a pattern, seen from what is left after its first labels
  pub residual_of : (l r : List ℕ) (x : Tree) → Sound x → (s : Shape) → HasPattern w o x s → Runs s (l ++ r) → (y : Tree) × IsResidual k x l y × (t : Shape) × HasPattern w o y t × Runs t r
  residual_of [] r x g s a h = (x, res_none, s, a, h)
  residual_of (b ∷ l) r x g s a h =
      let (e, t, q, p, h') = run_cut s b (l ++ r) h in
      let i = taking_whole k node o NL NG nets nr kept_rank x g s e t a p in
      let j = residual_of l r i.0 (after_good k node o NL NG nets i.1 g) i.2 i.3 (runs_same h' i.4) in
      (j.0, res_at b q i.1 j.1, j.2, j.3, j.4)

  pub runs_before : {x y : Tree} {l : List ℕ} → IsResidual k x l y → Sound x → (t : Shape) → HasPattern w o y t → (r : List ℕ) → Runs t r → (s : Shape) × HasPattern w o x s × Runs s (l ++ r)
  runs_before res_none g t a r h = (t, a, h)
  runs_before (res_more {e = e} b q) g t a r h =
      let i = runs_before q (after_good k node o NL NG nets b g) t a r h in
      let j = taking_sound k node o NL NG nets nr kept_rank b g i.0 i.1 in
      (j.1.0, j.1.1, run_take j.1.2 (runs_same i.2 j.2))

  -- what is left after an event has its runs
  pub left_order : {x y : Tree} {e : TermEvent} → Sound x → IsAfter k x e y → ((s : Shape) → HasPattern w o x s → (r : List ℕ) × Runs s r) → (t : Shape) → HasPattern w o y t → (r : List ℕ) × Runs t r
  left_order {e = e} g b f t a =
      let i = taking_sound k node o NL NG nets nr kept_rank b g t a in
      let h = f i.1.0 i.1.1 in
      let j = left_runs h.1 e i.0 i.1.2 in
      (j.0, runs_same j.1 (back i.2))
