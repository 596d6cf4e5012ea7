-- The laws of sound terms.
use Rattle.std.specs.Prelude.{ℕ, true, false, List, [], ◌++◌, ◌≡◌, Option, Some, None, refl}
use Rattle.std.proofs.Common.{sym}
use Rattle.std.proofs.lemmas.List.{append-nil}
use Rattle.chart_term.specs.Tables.{Tables, node_of, terms_over}
use Rattle.chart_term.specs.TermMeanings.{HasPattern, Leaves, Avoiding, ◌⊑◌}
use Rattle.chart_term.specs.TermPatterns.{Shape, Avoids, Both, back, HasNoEvent}
use Rattle.chart_term.specs.TermRuns.{Runs, run_end}
use Rattle.chart_term.specs.Terms.{Block, Tree, TermEvent}
use Rattle.chart_term.proofs.Arranging.{linear_run, runs_linear}
use Rattle.chart_term.proofs.Running.{runs_same}
use Rattle.term_laws.specs.Laws.{Fits, PermitFailsExactly, SoundnessIsKept, NormalFormIsKept, SoundHasPattern, ResidualsAreExact}
use Rattle.term_laws.specs.Normality.{IsNormalOver}
use Rattle.term_laws.specs.Permission.{permit, permits_of}
use Rattle.term_laws.specs.Residuals.{IsResidual, res_none, res_more}
use Rattle.term_laws.specs.Sound.{HasOrder, IsSound}
use Rattle.term_laws.specs.Soundness.{NetLacks, IsKnown, IsTidyOver}
use Rattle.term_laws.specs.Taking.{IsAfter}
use Rattle.term_laws.proofs.NormalTables.{kept_normal, some_pattern}
use Rattle.term_laws.proofs.Normalising.{permit_normal, after_normal}
use Rattle.term_laws.proofs.Residue.{residual_of, runs_before, left_order}
use Rattle.term_laws.proofs.TermLaws.{permit_is_exact, may_end_is_exact}
use Rattle.term_laws.proofs.TermSentences.{net_rank, kept_rank}
use Rattle.term_laws.proofs.TidyKept.{permit_good, after_good}
use Rattle.term_laws.proofs.TidyTables.{nets_good}
use Rattle.term_laws.proofs.Keeping.{at_some}

pub run_of : (s : Shape) → HasOrder s → (r : List ℕ) × Runs s r
run_of s h = (h.run, linear_run s h.run h.is)

pub order_of : (s : Shape) (r : List ℕ) → Runs s r → HasOrder s
order_of s r h = record { run = r; is = runs_linear h }

permit_sound : (w : Tables) (x y : Tree) (b : Block) → IsSound w x → Fits w b x → permit (permits_of w) b x ≡ Some y → IsSound w y
permit_sound w x y b h f e = record {
  tables = h.tables;
  tidy = at_some (IsTidyOver w) (permit (permits_of w) b x) y e (permit_good (permits_of w) (node_of w) true (NetLacks w) (IsKnown w) (nets_good true w h.tables.tidy) b x h.tidy);
  normal = at_some (IsNormalOver w) (permit (permits_of w) b x) y e (permit_normal (permits_of w) b x h.normal);
  ordered = λ t a. let i = seen (permit (permits_of w) b x) e (permit_is_exact.leaves true w x b h.tables.tidy h.tidy f) t a in
      let r = run_of i.0 (h.ordered i.0 i.1.0) in order_of t r.0 (runs_same r.1 (back i.2));
}
  where
    seen : (r : Option Tree) → r ≡ Some y → Leaves (terms_over w) true b x r → HasPattern (terms_over w) true y ⊑ Avoiding b (HasPattern (terms_over w) true x)
    seen r e l = rw e at l.sound

after_sound_term : (w : Tables) (x y : Tree) (e : TermEvent) → IsSound w x → IsAfter (permits_of w) x e y → IsSound w y
after_sound_term w x y e h a = record {
  tables = h.tables;
  tidy = after_good (permits_of w) (node_of w) true (NetLacks w) (IsKnown w) (nets_good true w h.tables.tidy) a h.tidy;
  normal = after_normal (permits_of w) (kept_normal w h.tables.tidy h.tables.normal) a h.normal;
  ordered = λ t p. let r = left_order (permits_of w) (node_of w) true (NetLacks w) (IsKnown w) (nets_good true w h.tables.tidy) (net_rank w) (kept_rank true w h.tables.tidy) h.tidy a (λ s q. run_of s (h.ordered s q)) t p in
      order_of t r.0 r.1;
}

pub soundness_is_kept : SoundnessIsKept
soundness_is_kept = record { permit_keeps = permit_sound; after_keeps = after_sound_term }

pub normal_form_is_kept : NormalFormIsKept
normal_form_is_kept = record {
  permit_keeps = λ w x y b h e. at_some (IsNormalOver w) (permit (permits_of w) b x) y e (permit_normal (permits_of w) b x h);
  after_keeps = λ w x y e t h a. after_normal (permits_of w) (kept_normal w t.tidy t.normal) a h;
}

pub sound_has_pattern : SoundHasPattern
sound_has_pattern = record { some = λ w x h. let i = some_pattern w h.tables.tidy h.tables.normal x h.tidy h.normal in record { pattern = i.0; has = i.1 } }

-- permission fails exactly where there is no pattern
fails_at : (w : Tables) (x : Tree) (b : Block) → IsSound w x → Fits w b x → (r : Option Tree) → permit (permits_of w) b x ≡ r → Leaves (terms_over w) true b x r
    → Both (r ≡ None) ((s : Shape) → HasPattern (terms_over w) true x s → Avoids b s → ⊥)
fails_at w x b h f None e l = record { to = λ q s a v. (l.whole s (a, v)).1; from = λ n. refl }
fails_at w x b h f (Some y) e l = record { to = λ q. absurd (some_none q); from = λ n. absurd (none n) }
  where
    some_none : Some y ≡ None → ⊥
    some_none q = cc

    none : ((s : Shape) → HasPattern (terms_over w) true x s → Avoids b s → ⊥) → ⊥
    none n =
        let g = permit_sound w x y b h f e in
        let i = some_pattern w g.tables.tidy g.tables.normal y g.tidy g.normal in
        let j = l.sound i.0 i.1 in
        n j.0 j.1.0 j.1.1

pub permit_fails_exactly : PermitFailsExactly
permit_fails_exactly = record { fails = λ w x b h f. fails_at w x b h f (permit (permits_of w) b x) refl (permit_is_exact.leaves true w x b h.tables.tidy h.tidy f) }

-- what is left after a list of labels is sound
residual_sound : (w : Tables) {x y : Tree} {l : List ℕ} → IsResidual (permits_of w) x l y → IsSound w x → IsSound w y
residual_sound w res_none h = h
residual_sound w (res_more {x = x} {y = y} {e = e} a r) h = residual_sound w r (after_sound_term w x y e h a)

runs_as : (s : Shape) (a b : List ℕ) → a ≡ b → Runs s a → Runs s b
runs_as s a b e r = rw e at r

run_stop : (s : Shape) → Runs s [] → HasNoEvent s
run_stop s (run_end h) = h

pub residuals_are_exact : ResidualsAreExact
residuals_are_exact = record {
  begins = λ w x l h. record {
    to = λ r.
        let g = residual_sound w r.left h in
        let i = some_pattern w g.tables.tidy g.tables.normal r.term g.tidy g.normal in
        let j = run_of i.0 (g.ordered i.0 i.1) in
        let m = runs_before (permits_of w) (node_of w) true (NetLacks w) (IsKnown w) (nets_good true w h.tables.tidy) (net_rank w) (kept_rank true w h.tables.tidy) r.left h.tidy i.0 i.1 j.0 j.1 in
        record { pattern = m.0; has = m.1; rest = j.0; run = runs_linear m.2 };
    from = λ r.
        let i = residual_of (permits_of w) (node_of w) true (NetLacks w) (IsKnown w) (nets_good true w h.tables.tidy) (net_rank w) (kept_rank true w h.tables.tidy) l r.rest x h.tidy r.pattern r.has (linear_run r.pattern (l ++ r.rest) r.run) in
        record { term = i.0; left = i.1 };
  };
  ends = λ w x l h. record {
    to = λ r.
        let g = residual_sound w r.left h in
        let i = (may_end_is_exact.exact w r.term g.tables.tidy g.tidy).to r.ends in
        let m = runs_before (permits_of w) (node_of w) false (NetLacks w) (IsKnown w) (nets_good false w h.tables.tidy) (net_rank w) (kept_rank false w h.tables.tidy) r.left h.tidy i.pattern i.has [] (run_end i.empty) in
        record { pattern = m.0; has = m.1; run = runs_linear (runs_as m.0 (l ++ []) l (append-nil l) m.2) };
    from = λ r.
        let i = residual_of (permits_of w) (node_of w) false (NetLacks w) (IsKnown w) (nets_good false w h.tables.tidy) (net_rank w) (kept_rank false w h.tables.tidy) l [] x h.tidy r.pattern r.has
        (runs_as r.pattern l (l ++ []) (sym (append-nil l)) (linear_run r.pattern l r.run)) in
        let g = residual_sound w i.1 h in
        record { term = i.0; left = i.1; ends = (may_end_is_exact.exact w i.0 g.tables.tidy g.tidy).from (record { pattern = i.2; has = i.3; empty = run_stop i.2 i.4 }) };
  };
}
