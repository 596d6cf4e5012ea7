-- Permission, one part after another, and that parts are ready.
use Rattle.std.specs.Prelude.{ℕ, zero, suc, ◌+◌, true, false, List, [], ◌∷◌, ◌++◌, ◌≡◌, ◌&&◌, Option, Some, None, refl, take, slice_get, not}
use Rattle.std.specs.List.{list_any}
use Rattle.std.proofs.Common.{ap, ◌∙◌, append-nil, subst}
use Rattle.bit_sets.specs.Blocks.{BlockValue}
use Rattle.msc_base.specs.Patterns.{Mode, seq, par}
use Rattle.list_facts.proofs.Reading.{take_step}
use Rattle.chart_term.specs.Facts.{misses}
use Rattle.chart_term.specs.NormalForms.{NetPermits, begun, or_skip}
use Rattle.chart_term.specs.Properties.{Each, EachTurn}
use Rattle.chart_term.specs.Tables.{Tables}
use Rattle.chart_term.specs.Terms.{Block, TermEvent, Tree, Nil, Event, Join, Choice, Tied, trees, Part}
use Rattle.chart_term.proofs.Lists.{items-trees}
use Rattle.term_laws.specs.Normality.{AreNormal, IsPartOf}
use Rattle.term_laws.specs.Permission.{permit, permit_some, permits_of}
use Rattle.term_permission.specs.Ready.{IsReady, AreWithin}
use Rattle.term_laws.specs.Values.{block_of}
use Rattle.term_laws.proofs.Missed.{permit-misses, hits-unless}
use Rattle.term_laws.proofs.Measures.{rank-tied, rank-loop}
use Rattle.term_permission.proofs.Joins.{each-begun}

module _ (k : NetPermits) (b : Block) where
  skip_app : (o : Option Tree) (xs ys : List Tree) → or_skip o (xs ++ ys) ≡ or_skip o xs ++ ys
  skip_app None xs ys = refl
  skip_app (Some x) xs ys = refl

  push_some : (xs : List Tree) (x : Tree) → permit_some k b (trees (xs ++ x ∷ [])) ≡ permit_some k b (trees xs) ++ or_skip (permit k b x) []
  push_some [] x = refl
  push_some (z ∷ xs) x = ap (λ o. or_skip (permit k b z) o) (push_some xs x) ∙ skip_app (permit k b z) (permit_some k b (trees xs)) (or_skip (permit k b x) [])

  pub some-more : (xs : List Tree) (i : ℕ) (x y : Tree) (ks : List Tree) → permit_some k b (trees (take i xs)) ≡ ks → slice_get xs i ≡ Some x → permit k b x ≡ Some y → permit_some k b (trees (take (i + 1) xs)) ≡ ks ++ y ∷ []
  some-more xs i x y ks p h q = ap (λ l. permit_some k b (trees l)) (take_step xs i x h) ∙ (push_some (take i xs) x ∙ (λ j. p j ++ or_skip (q j) []))

  pub some-skip : (xs : List Tree) (i : ℕ) (x : Tree) (ks : List Tree) → permit_some k b (trees (take i xs)) ≡ ks → slice_get xs i ≡ Some x → permit k b x ≡ None → permit_some k b (trees (take (i + 1) xs)) ≡ ks
  some-skip xs i x ks p h q = ap (λ l. permit_some k b (trees l)) (take_step xs i x h) ∙ (push_some (take i xs) x ∙ ((λ j. p j ++ or_skip (q j) []) ∙ append-nil ks))

module _ (w : Tables) where
  each_ready : (xs : List Tree) → AreWithin w (trees xs) → AreNormal (permits_of w) (trees xs) → Each (IsReady w) xs
  each_ready [] h n = tt
  each_ready (x ∷ xs) h n = (record { within = h.0; normal = n.0 }, each_ready xs h.1 n.1)

  join_ready : (m : Mode) (xs : List Tree) → IsReady w (Join m (trees xs)) → Each (IsReady w) xs
  join_ready m xs h = each_ready xs h.within h.normal.0

  choice_ready : (xs : List Tree) → IsReady w (Choice (trees xs)) → Each (IsReady w) xs
  choice_ready xs h = each_ready xs h.within h.normal.0

  bound_ready : (y : Tree) (q : List (ℕ × ℕ)) → IsReady w (Tied y q) → IsReady w y
  bound_ready y q h = record { within = h.within.0; normal = h.normal.0 }

  pub ready-seq : (x : Tree) (xs : List Tree) → x ≡ Join seq (trees xs) → IsReady w x → Each (IsReady w) xs
  ready-seq x xs e h = join_ready seq xs (rw e at h)

  pub ready-par : (x : Tree) (xs : List Tree) → x ≡ Join par (trees xs) → IsReady w x → Each (IsReady w) xs
  ready-par x xs e h = join_ready par xs (rw e at h)

  pub ready-choice : (x : Tree) (xs : List Tree) → x ≡ Choice (trees xs) → IsReady w x → Each (IsReady w) xs
  ready-choice x xs e h = choice_ready xs (rw e at h)

  -- for the lists of turns that a look shows
  pub turns-are-ready : (m : Mode) (x : Tree) (ps : List Part) → x ≡ Join m (trees (begun ps)) → IsReady w x → EachTurn (IsReady w) ps
  turns-are-ready m x ps e h = each-begun (IsReady w) ps (join_ready m (begun ps) (subst (IsReady w) e h))

  pub turns-are-open : (m : Mode) (x : Tree) (ps : List Part) → x ≡ Join m (trees (begun ps)) → IsReady w x → EachTurn (IsPartOf m) ps
  turns-are-open m x ps e h =
      let r : IsReady w (Join m (trees (begun ps))) = subst (IsReady w) e h in
      each-begun (IsPartOf m) ps (subst (Each (IsPartOf m)) (items-trees (begun ps)) r.normal.1)

  pub ready-tied : (x y : Tree) (q : List (ℕ × ℕ)) → x ≡ Tied y q → IsReady w x → IsReady w y
  ready-tied x y q e h = bound_ready y q (rw e at h)

  pub ready-at : (xs : List Tree) (i : ℕ) (x : Tree) → slice_get xs i ≡ Some x → Each (IsReady w) xs → IsReady w x
  ready-at [] i x e h = cc
  ready-at (y ∷ ys) zero x e h = let p : y ≡ x = cc in rw p at h.0
  ready-at (y ∷ ys) (suc i) x e h = ready-at ys i x e h.1

-- what a look at the term shows
pub hit-event : (k : NetPermits) (b : BlockValue) (x : Tree) (e : TermEvent) → x ≡ Event e → misses b x ≡ false → permit k (block_of b) x ≡ None
hit-event k b x e p h = rw p (hits-unless k b e (rw p at h))

pub hit-nil : (b : BlockValue) → misses b Nil ≡ true
hit-nil b = none_hit b.instances b.events
  where
    never : (c : List ℕ) → list_any (λ n. false) c ≡ false
    never [] = refl
    never (n ∷ c) = never c

    none_hit : (c d : List ℕ) → ((not false && not (list_any (λ n. false) c)) && not (list_any (λ n. false) d)) ≡ true
    none_hit c d = λ i. (not false && not (never c i)) && not (never d i)

pub ruleset permits = (permit-misses, some-more, some-skip, ready-seq, ready-par, ready-choice, ready-tied, ready-at, hit-event, hit-nil, rank-tied, rank-loop)
