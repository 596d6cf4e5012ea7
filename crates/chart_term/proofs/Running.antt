-- Same patterns have the same runs.
use Rattle.std.specs.Prelude.{ℕ, List}
use Rattle.chart_term.specs.TermPatterns.{Shape, ◌≈◌, same, back, on, in_join, in_bind, assoc, left, right, bind_none, bind_as, Both, HasNoEvent}
use Rattle.chart_term.specs.TermRuns.{run_end, run_take, Runs}
use Rattle.chart_term.proofs.Sameness.{follows}

pub no_event : {s t : Shape} → s ≈ t → Both (HasNoEvent s) (HasNoEvent t)
no_event same = record { to = λ h. h; from = λ h. h }
no_event (back p) = let r = no_event p in record { to = r.from; from = r.to }
no_event (on p q) = let r = no_event p in let s = no_event q in record { to = λ h. s.to (r.to h); from = λ h. r.from (s.from h) }
no_event (in_join p q) = let r = no_event p in let s = no_event q in record { to = λ h. (r.to h.0, s.to h.1); from = λ h. (r.from h.0, s.from h.1) }
no_event (in_bind p) = let r = no_event p in record { to = r.to; from = r.from }
no_event assoc = record { to = λ h. (h.0.0, (h.0.1, h.1)); from = λ h. ((h.0, h.1.0), h.1.1) }
no_event left = record { to = λ h. h.1; from = λ h. (tt, h) }
no_event right = record { to = λ h. h.0; from = λ h. (h, tt) }
no_event bind_none = record { to = λ h. h; from = λ h. h }
no_event (bind_as a) = record { to = λ h. h; from = λ h. h }

-- same patterns have the same runs
pub runs_same : {s t : Shape} {l : List ℕ} → Runs s l → s ≈ t → Runs t l
runs_same (run_end h) p = run_end ((no_event p).to h)
runs_same (run_take {t = u} {e = e} h r) p = let k = (follows p).0 e u h in run_take k.1 (runs_same r k.2)
