-- What an account tells is a finished pattern of the term, but for the labels, which are places.
use Rattle.std.specs.Prelude.{ℕ, false, List, ◌≡◌}
use Rattle.std.proofs.Common.{sym}
use Rattle.msc_base.specs.Patterns.{Mode, seq, empty, one, join, bind}
use Rattle.hmsc_graph.specs.Graphs.{Spot, Goal}
use Rattle.chart_term.specs.NormalForms.{only}
use Rattle.chart_term.specs.TermMeanings.{NetTerms, HasPattern, has_event, has_join, has_choice, holds_tie, holds_walk, HasParts, no_part, one_part, HasChoice, this_one, that_one, HasRow, gaps_end, gaps_turn, gaps_shut, gaps_more, HasWalk, walk_last, walk_step}
use Rattle.chart_term.specs.TermPatterns.{Shape, Avoids, ◌≈◌, same, on, in_join, in_bind, Both}
use Rattle.chart_term.specs.Terms.{TermEvent, Block, Tree, Part}
use Rattle.chart_term.proofs.Sameness.{avoids}
use Rattle.certificate_accounts.specs.Accounts.{Account, Accounts, RowAccount, Visits, placed_event, Tells, tells_nothing, tells_event, tells_parts, tells_branch, tells_tie, tells_row, tells_walk, TellsAll, tells_none, tells_part, TellsOne, tells_this, tells_that, TellsRow, tells_over, tells_turn, tells_shut, tells_more, TellsWalk, tells_arrived, tells_visit}
use Rattle.certificates.proofs.Padding.{none_is_empty, padded_loop}

-- the pattern with the labels of the events
abbrev pub named : (ℕ → TermEvent) → Shape → Shape
named ev empty = empty
named ev (one d) = one (record d { label = (ev d.label).label })
named ev (join m x y) = join m (named ev x) (named ev y)
named ev (bind x q) = bind (named ev x) q

pub avoids_named : (ev : ℕ → TermEvent) (b : Block) (s : Shape) → Both (Avoids b (named ev s)) (Avoids b s)
avoids_named ev b empty = record { to = λ h. h; from = λ h. h }
avoids_named ev b (one d) = record { to = λ h. h; from = λ h. h }
avoids_named ev b (join m x y) = let r = avoids_named ev b x in let s = avoids_named ev b y in record { to = λ h. (r.to h.0, s.to h.1); from = λ h. (r.from h.0, s.from h.1) }
avoids_named ev b (bind x q) = let r = avoids_named ev b x in record { to = r.to; from = r.from }

module _ (w : NetTerms) (ev : ℕ → TermEvent) where
  abbrev pub Is : Tree → Shape → Type 0
  Is x s = (t : Shape) × HasPattern w false x t × (t ≈ named ev s)

  named_event : (e : TermEvent) (n : ℕ) → ev n ≡ e → Is (Tree.Event e) (one (placed_event e n))
  named_event e n h = (one e, has_event, at_label e (ev n) (sym h))
    where
      at_label : (e f : TermEvent) → e ≡ f → one e ≈ one (record e { label = f.label })
      at_label e f h = rw (← h) same

  mutual
    pub told : {x : Tree} {a : Account} {s : Shape} → Tells w ev x a s → Is x s
    told (tells_nothing h) = (h.pattern, h.has, none_is_empty h.pattern h.none)
    told (tells_event {e = e} {n = n} h) = named_event e n h
    told (tells_parts h) = let (t, a, e) = all_told h in (t, has_join a, e)
    told (tells_branch h) = let (t, a, e) = one_told h in (t, has_choice a, e)
    told (tells_tie {q = q} h) = let (t, a, e) = told h in (bind t q, holds_tie a, in_bind e)
    told (tells_row {x = x} {lo = lo} {hi = hi} {r = r} n c h g l) =
        let (t, a, e) = row_told h in
        let (v, i, f) = padded_loop w x lo hi r c n t a g l in
        (v, i, on f e)
    told (tells_walk h) = let (t, a, e) = walk_told h in (t, holds_walk a, e)

    all_told : {m : Mode} {xs : List Tree} {us : Accounts} {s : Shape} → TellsAll w ev m xs us s → (t : Shape) × HasParts w false m xs t × (t ≈ named ev s)
    all_told tells_none = (empty, no_part, same)
    all_told (tells_part {m = m} h r) = let (t, a, e) = told h in let (u, b, f) = all_told r in (join m t u, one_part a b, in_join e f)

    one_told : {xs : List Tree} {i : ℕ} {a : Account} {s : Shape} → TellsOne w ev xs i a s → (t : Shape) × HasChoice w false xs t × (t ≈ named ev s)
    one_told (tells_this h) = let (t, a, e) = told h in (t, this_one a, e)
    one_told (tells_that h) = let (t, a, e) = one_told h in (t, that_one a, e)

    row_told : {x : Tree} {ps : List Part} {b : RowAccount} {n : ℕ} {s : Shape} → TellsRow w ev x ps b n s → (t : Shape) × HasRow w false x ps n t × (t ≈ named ev s)
    row_told tells_over = (empty, gaps_end, same)
    row_told (tells_turn h r) = let (t, a, e) = told h in let (u, b, f) = row_told r in (join seq t u, gaps_turn a b, in_join e f)
    row_told (tells_shut r) = let (u, b, f) = row_told r in (u, gaps_shut b, f)
    row_told (tells_more {c = c} {s = s} h av r) =
        let (t, a, e) = told h in
        let (u, b, f) = row_told r in
        (join seq t u, gaps_more a ((avoids (only c) e).from ((avoids_named ev (only c) s).from av)) b, in_join e f)

    walk_told : {n : ℕ} {f : Spot} {g : Goal} {c : List ℕ} {v : Visits} {s : Shape} → TellsWalk w ev n f g c v s → (t : Shape) × HasWalk w false n f g c t × (t ≈ named ev s)
    walk_told (tells_arrived m i a) = (empty, walk_last m i a, same)
    walk_told (tells_visit {c = c} m {s = s} i h av r) =
        let (t, a, e) = told h in
        let (u, b, f) = walk_told r in
        (join seq t u, walk_step m i a ((avoids (only c) e).from ((avoids_named ev (only c) s).from av)) b, in_join e f)

  -- what holds of patterns that avoid a block holds of those that are told
  pub eased : (x : Tree) (c d : List ℕ) → ((s : Shape) → HasPattern w false x s → Avoids (only c) s → Avoids (only d) s) → (a : Account) (s : Shape) → Tells w ev x a s → Avoids (only c) s → Avoids (only d) s
  eased x c d f a s h av =
      let (t, i, e) = told h in
      (avoids_named ev (only d) s).to ((avoids (only d) e).to (f t i ((avoids (only c) e).from ((avoids_named ev (only c) s).from av))))
