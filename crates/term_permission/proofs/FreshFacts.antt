-- Loops and walks as they begin.
use Rattle.std.specs.Prelude.{ℕ, zero, suc, ◌<◌, ◌≤◌, ◌↔◌, Bool, true, false, [], ◌∷◌, ◌≡◌, Option, Some, None, refl}
use Rattle.std.proofs.Common.{ap, sym, ◌∙◌, arith, inl, inr}
use Rattle.hmsc_graph.specs.Graphs.{Start, Goal, To, End, Any, WalkThrough, reach}
use Rattle.msc_base.specs.Lists.{IsIn}
use Rattle.hmsc_graph.proofs.Reaching.{more_allowed, reach_sound, reach_whole}
use Rattle.chart_term.specs.NormalForms.{only, is_nil, some_kept, allowed, are_nil, walk_form, walk_cut, loop_of}
use Rattle.chart_term.specs.Tables.{Tables, net_count, net_of, nodes_of, node_of}
use Rattle.chart_term.specs.Terms.{Tree, Nil, Loop, Walk, Gap, row_of}
use Rattle.chart_term.specs.TermMeanings.{UpTo}
use Rattle.chart_term.proofs.Walking.{out_filter, in_filter}
use Rattle.term_permission.specs.Fresh.{IsFreshLoop, IsUnreached, MayTurn, MayNotTurn}
use Rattle.chart_term.specs.Spreads.{touch}
use Rattle.term_laws.specs.Permission.{permit, permits_of}
use Rattle.term_permission.specs.Ready.{IsReady, AreReadyTables}
use Rattle.term_permission.specs.RowRests.{no_rest, gap_before, open_before, rest_end}
use Rattle.term_laws.proofs.Identity.{permit_same}
use Rattle.term_permission.proofs.NodeTerms.{node-is}
use Rattle.term_permission.proofs.PermitWalks.{nodes_in}
use Rattle.term_permission.proofs.RowRests.{turns-rest}

module _ (w : Tables) (x : Tree) (lo : ℕ) (h : IsReady w x) where
  abbrev fresh_form : Option ℕ → Option Tree
  fresh_form hi = loop_of (λ c. permit (permits_of w) (only c) x) (touch (permits_of w).spread x) x lo hi (Gap [] ∷ [])

  whole : permit (permits_of w) (only []) x ≡ Some x
  whole = permit_same (permits_of w) x h.normal

  by_rest : (hi : Option ℕ) → fresh_form hi ≡ rest_end x lo hi (open_before hi (Some x) [] no_rest)
  by_rest hi = turns-rest (λ c. permit (permits_of w) (only c) x) (touch (permits_of w).spread x) x lo hi (Gap [] ∷ []) ∙ (λ i. rest_end x lo hi (open_before hi (whole i) [] no_rest))

  open_loop : (hi : Option ℕ) → MayTurn lo hi → is_nil (Some x) ≡ false → rest_end x lo hi (open_before hi (Some x) [] no_rest) ≡ Some (Loop x lo hi (row_of (Gap [] ∷ [])))
  open_loop None m e = λ i. rest_end x lo None (gap_before (e i) [] no_rest)
  open_loop (Some zero) m e = absurd (omega (arith, m.0))
  open_loop (Some (suc n)) m e = λ i. rest_end x lo (Some (suc n)) (gap_before (e i) [] no_rest)

  shut_loop : (lo : ℕ) → lo ≤ 0 → rest_end x lo (Some zero) no_rest ≡ Some Nil
  shut_loop zero l = refl
  shut_loop (suc n) l = absurd (omega arith)

  over_loop : (hi : Option ℕ) → UpTo hi lo → is_nil (Some x) ≡ true → rest_end x lo hi (open_before hi (Some x) [] no_rest) ≡ Some Nil
  over_loop None u e = λ i. rest_end x lo None (gap_before (e i) [] no_rest)
  over_loop (Some zero) u e = shut_loop lo u
  over_loop (Some (suc n)) u e = λ i. rest_end x lo (Some (suc n)) (gap_before (e i) [] no_rest)

  crossed_not : (hi : Option ℕ) → MayTurn lo hi → UpTo hi lo
  crossed_not None m = tt
  crossed_not (Some n) m = m.1

  pub fresh-loop : (hi : Option ℕ) (y : Tree) → MayTurn lo hi → is_nil (Some x) ≡ false → y ≡ Loop x lo hi (row_of (Gap [] ∷ [])) → IsFreshLoop w x lo hi y
  fresh-loop hi y m e q = record { loop = λ u. by_rest hi ∙ (open_loop hi m e ∙ ap Some (sym q)); crossed = λ f. absurd (f (crossed_not hi m)) }

  pub fresh-over : (hi : Option ℕ) (y : Tree) → is_nil (Some x) ≡ true → y ≡ Nil → IsFreshLoop w x lo hi y
  fresh-over hi y e q = record { loop = λ u. by_rest hi ∙ (over_loop hi u e ∙ ap Some (sym q)); crossed = λ f. q }

  shut : (n : ℕ) → MayNotTurn lo (Some n) → UpTo (Some n) lo → rest_end x lo (Some n) (open_before (Some n) (Some x) [] no_rest) ≡ Some Nil
  shut zero m u = shut_loop lo u
  shut (suc n) (inl e) u = absurd (omega arith)
  shut (suc n) (inr l) u = absurd (omega arith)

  pub fresh-shut : (hi : Option ℕ) (y : Tree) → MayNotTurn lo hi → y ≡ Nil → IsFreshLoop w x lo hi y
  fresh-shut None y m q = absurd m
  fresh-shut (Some n) y m q = record { loop = λ u. by_rest (Some n) ∙ (shut n m u ∙ ap Some (sym q)); crossed = λ f. q }

module _ (w : Tables) (ready : AreReadyTables w) (n : ℕ) (known : n < net_count w) where
  all_allowed : (m : ℕ) → IsIn m (nodes_of w n) → IsIn m (allowed (permits_of w) n [])
  all_allowed m i =
      let node = node-is w ready n m known ((nodes_in w n m).0 i) in
      in_filter (λ j. some_kept ((permits_of w).kept n j [])) (nodes_of w n) m i (ap some_kept (node.kept [] ∙ permit_same (permits_of w) (node_of w n m) node.ready.normal))

  allowed_all : (m : ℕ) → IsIn m (allowed (permits_of w) n []) → IsIn m (nodes_of w n)
  allowed_all m i = (out_filter (λ j. some_kept ((permits_of w).kept n j [])) (nodes_of w n) m i).0

  abbrev led : Goal → Bool
  led t = reach (net_of w n) (allowed (permits_of w) n []) Start t

  form_none : (b d : Bool) (x : Tree) → walk_form b d x ≡ None → b ≡ false
  form_none true true x e = cc
  form_none true false x e = cc
  form_none false d x e = refl

  not_led : (t : Goal) → (WalkThrough (net_of w n) (nodes_of w n) Start t → ⊥) → led t ≡ false
  not_led t f = go (led t) refl
    where
      go : (b : Bool) → led t ≡ b → led t ≡ false
      go true e = absurd (f (more_allowed allowed_all (reach_sound (net_of w n) (allowed (permits_of w) n []) Start t e)))
      go false e = e

  led_not : (t : Goal) → led t ≡ false → WalkThrough (net_of w n) (nodes_of w n) Start t → ⊥
  led_not t e r = let q : led t ≡ true = reach_whole (net_of w n) (allowed (permits_of w) n []) Start t (more_allowed all_allowed r) in cc

  none_at : (t : Goal) → (walk_cut (permits_of w) n Start t [] ≡ None) ↔ IsUnreached w n t
  none_at Any = (λ e. cc, λ h. absurd h.aimed)
  none_at End = (
    λ e. record { aimed = tt; none = led_not End (form_none (led End) (are_nil (permits_of w) n Start End [] (allowed (permits_of w) n [])) (Walk n Start End []) e) },
    λ h. ap (λ b. walk_form b (are_nil (permits_of w) n Start End [] (allowed (permits_of w) n [])) (Walk n Start End [])) (not_led End h.none),
  )
  none_at (To m) = (
    λ e. record { aimed = tt; none = led_not (To m) (form_none (led (To m)) (are_nil (permits_of w) n Start (To m) [] (allowed (permits_of w) n [])) (Walk n Start (To m) []) e) },
    λ h. ap (λ b. walk_form b (are_nil (permits_of w) n Start (To m) [] (allowed (permits_of w) n [])) (Walk n Start (To m) [])) (not_led (To m) h.none),
  )

  pub trail-none : (t : Goal) (o : Option Tree) → o ≡ walk_cut (permits_of w) n Start t [] → (o ≡ None) ↔ IsUnreached w n t
  trail-none t o e = (λ q. (none_at t).0 (sym e ∙ q), λ h. e ∙ (none_at t).1 h)

pub ruleset fresh = (fresh-loop, fresh-over, fresh-shut, trail-none)
