-- Whether a term may end, part by part.
use Rattle.std.specs.Prelude.{ℕ, zero, suc, ◌+◌, ◌<◌, ◌≤◌, Bool, true, false, List, [], ◌∷◌, ◌++◌, ◌≡◌, ◌≢◌, ◌↔◌, ◌⊎◌, Option, Some, refl, length, take, slice_get, IsTrue, Result, Ok, Err, IfOk}
use Rattle.std.proofs.Common.{◌∙◌, ap, sym, subst, arith, inl, inr}
use Rattle.std.proofs.lemmas.Option.{slice_get_within}
use Rattle.msc_base.specs.Patterns.{Mode, seq, par}
use Rattle.hmsc_graph.specs.Graphs.{Net, Spot, Start, At, Goal, To, End, Any, WalkThrough, last, step, behind}
use Rattle.msc_base.specs.Lists.{IsIn}
use Rattle.hmsc_graph.specs.Nets.{IsNet, size_of}
use Rattle.bit_sets.specs.NodeSets.{NodeSetValue, HasNoNodes}
use Rattle.list_facts.proofs.Reading.{take_step}
use Rattle.hmsc_graph.specs.Walks.{Leads}
use Rattle.chart_term.specs.NormalForms.{has_gap}
use Rattle.chart_term.specs.Tables.{Tables, net_of, node_of, terms_over}
use Rattle.chart_term.specs.TermMeanings.{NetTerms, aim}
use Rattle.chart_term.specs.Terms.{TermEvent, Tree, Nil, Event, Join, Choice, Tied, Loop, Walk, Trees, trees, items, Part, Gap, Turn, row_of}
use Rattle.chart_term.proofs.Lists.{items-trees, parts-row_of}
use Rattle.term_laws.proofs.Measures.{rank-seq, rank-par, rank-some, rank-tied, rank-loop}
use Rattle.term_permission.proofs.Permits.{ready-seq, ready-par, ready-choice, ready-tied}
use Rattle.term_permission.specs.Endings.{AreEnding, EndsAs, MayPartEnd}
use Rattle.term_permission.specs.declared.finishes.Ending.{Ending}
use Rattle.term_permission.specs.declared.finishes.Ending.TheVariants as ending
use Rattle.term_laws.specs.Taking.{HasGap, MayEnd, end_nil, end_join, end_choice, end_bound, end_zero, end_turns, end_trail, EndAll, end_none, end_more, EndOne, end_this, end_that, EndLoop, no_turns, past_gap, one_turn, EndWalk, last_edge, inner_edge}

pub take_all : (xs : List Tree) (n : ℕ) → length xs ≤ n → take n xs ≡ xs
take_all [] zero h = refl
take_all [] (suc n) h = refl
take_all (x ∷ xs) zero h = absurd (omega arith)
take_all (x ∷ xs) (suc n) h = ap (λ l. x ∷ l) (take_all xs n (omega arith))

module _ (w : NetTerms) where
  -- several parts
  pub all-at : (xs : List Tree) (i : ℕ) (x : Tree) → slice_get xs i ≡ Some x → EndAll w xs → MayEnd w x
  all-at [] i x p h = cc
  all-at (y ∷ xs) zero x p (end_more a h) = let e : y ≡ x = cc in subst (λ (z : Tree). MayEnd w z) e a
  all-at (y ∷ xs) (suc i) x p (end_more a h) = all-at xs i x p h

  pub one-at : (xs : List Tree) (i : ℕ) (x : Tree) → slice_get xs i ≡ Some x → MayEnd w x → EndOne w xs
  one-at [] i x p h = cc
  one-at (y ∷ xs) zero x p h = let e : x ≡ y = cc in end_this (subst (λ (z : Tree). MayEnd w z) e h)
  one-at (y ∷ xs) (suc i) x p h = end_that (one-at xs i x p h)

  -- one of several, apart from the others

  -- those before a place may end, but for this one
  abbrev pub EndBut : List Tree → ℕ → ℕ → Type 0
  EndBut xs skip i = (j : ℕ) (x : Tree) → j < i → j ≢ skip → slice_get xs j ≡ Some x → MayEnd w x

  -- none of them may
  abbrev pub NoneBut : List Tree → ℕ → ℕ → Type 0
  NoneBut xs skip i = (j : ℕ) (x : Tree) → j < i → j ≢ skip → slice_get xs j ≡ Some x → MayEnd w x → ⊥

  cut_next : (j i : ℕ) → j < i + 1 → (j < i) ⊎ (j ≡ i)
  cut_next j i l = grind arith

  pub but-more : (xs : List Tree) (skip i : ℕ) (x : Tree) → slice_get xs i ≡ Some x → EndBut xs skip i → MayEnd w x → EndBut xs skip (i + 1)
  but-more xs skip i x e h m j y l n g = elim (cut_next j i l) [
    | inl b ↦ h j y b n g
    | inr q ↦ let same : Some x ≡ Some y = sym e ∙ (ap (slice_get xs) (sym q) ∙ g) in let is : x ≡ y = cc in subst (MayEnd w) is m
  ]

  pub but-skipped : (xs : List Tree) (skip i : ℕ) → i ≡ skip → EndBut xs skip i → EndBut xs skip (i + 1)
  but-skipped xs skip i e h j y l n g = elim (cut_next j i l) [ inl b ↦ h j y b n g | inr q ↦ absurd (n (q ∙ e)) ]

  pub none-more : (xs : List Tree) (skip i : ℕ) (x : Tree) → slice_get xs i ≡ Some x → NoneBut xs skip i → (MayEnd w x → ⊥) → NoneBut xs skip (i + 1)
  none-more xs skip i x e h m j y l n g k = elim (cut_next j i l) [
    | inl b ↦ h j y b n g k
    | inr q ↦ let same : Some x ≡ Some y = sym e ∙ (ap (slice_get xs) (sym q) ∙ g) in let is : x ≡ y = cc in m (subst (MayEnd w) (sym is) k)
  ]

  pub none-skipped : (xs : List Tree) (skip i : ℕ) → i ≡ skip → NoneBut xs skip i → NoneBut xs skip (i + 1)
  none-skipped xs skip i e h j y l n g k = elim (cut_next j i l) [ inl b ↦ h j y b n g k | inr q ↦ n (q ∙ e) ]

  all_each : (xs : List Tree) → ((j : ℕ) (x : Tree) → slice_get xs j ≡ Some x → MayEnd w x) → EndAll w xs
  all_each [] f = end_none
  all_each (x ∷ xs) f = end_more (f 0 x refl) (all_each xs (λ j y g. f (suc j) y g))

  one_where : (xs : List Tree) → EndOne w xs → (j : ℕ) × (y : Tree) × (slice_get xs j ≡ Some y) × MayEnd w y
  one_where [] h = elim h [ ]
  one_where (x ∷ xs) (end_this a) = (0, x, refl, a)
  one_where (x ∷ xs) (end_that h) = let (j, y, g, m) = one_where xs h in (suc j, y, g, m)

  this_or : (j skip : ℕ) → (j ≡ skip) ⊎ (j ≢ skip)
  this_or j skip = grind arith

  pub all-but : (xs : List Tree) (skip i : ℕ) (x : Tree) → length xs ≤ i → slice_get xs skip ≡ Some x → EndBut xs skip i → MayEnd w x ↔ EndAll w xs
  all-but xs skip i x l e h = (
    λ m. all_each xs (λ j y g. elim (this_or j skip) [
      | inl q ↦ let same : Some x ≡ Some y = sym e ∙ (ap (slice_get xs) (sym q) ∙ g) in let is : x ≡ y = cc in subst (MayEnd w) is m
      | inr n ↦ h j y (let b = slice_get_within xs j y g in omega (arith, l)) n g
    ]),
    λ a. all-at xs skip x e a,
  )

  pub one-but : (xs : List Tree) (skip i : ℕ) (x : Tree) → length xs ≤ i → slice_get xs skip ≡ Some x → NoneBut xs skip i → MayEnd w x ↔ EndOne w xs
  one-but xs skip i x l e h = (
    λ m. one-at xs skip x e m,
    λ o. let (j, y, g, m) = one_where xs o in elim (this_or j skip) [
      | inl q ↦ let same : Some x ≡ Some y = sym e ∙ (ap (slice_get xs) (sym q) ∙ g) in let is : x ≡ y = cc in subst (MayEnd w) (sym is) m
      | inr n ↦ absurd (h j y (let b = slice_get_within xs j y g in omega (arith, l)) n g m)
    ],
  )

  pub all-empty : (xs : List Tree) → length xs ≡ 0 → EndAll w xs
  all-empty [] l = end_none
  all-empty (x ∷ xs) l = absurd (omega arith)

  -- a row
  turns_push : (ps : List Part) (t : Part) → EndLoop w ps → MayPartEnd w t → EndLoop w (ps ++ t ∷ [])
  turns_push [] (Gap c) h e = past_gap no_turns
  turns_push [] (Turn x) h e = one_turn e no_turns
  turns_push (Gap c ∷ ps) t (past_gap h) e = past_gap (turns_push ps t h e)
  turns_push (Turn y ∷ ps) t (one_turn a h) e = one_turn a (turns_push ps t h e)

  pub turns-first : (ps : List Part) → EndLoop w (take 0 ps)
  turns-first [] = no_turns
  turns-first (t ∷ ps) = no_turns

  pub turns-part : (ps : List Part) (i : ℕ) (t : Part) → slice_get ps i ≡ Some t → EndLoop w (take i ps) → MayPartEnd w t → EndLoop w (take (i + 1) ps)
  turns-part ps i t p h e = subst (λ (l : List Part). EndLoop w l) (sym (take_step ps i t p)) (turns_push (take i ps) t h e)

  pub turns-at : (ps : List Part) (i : ℕ) (t : Part) → slice_get ps i ≡ Some t → EndLoop w ps → MayPartEnd w t
  turns-at [] i t p h = cc
  turns-at (Gap c ∷ ps) zero t p (past_gap h) = let e : Gap c ≡ t = cc in subst (λ (u : Part). MayPartEnd w u) e tt
  turns-at (Gap c ∷ ps) (suc i) t p (past_gap h) = turns-at ps i t p h
  turns-at (Turn y ∷ ps) zero t p (one_turn a h) = let e : Turn y ≡ t = cc in subst (λ (u : Part). MayPartEnd w u) e a
  turns-at (Turn y ∷ ps) (suc i) t p (one_turn a h) = turns-at ps i t p h

  -- forms
  join_out : (m : Mode) (xs : Trees) → MayEnd w (Join m xs) → EndAll w (items xs)
  join_out m xs (end_join h) = h

  choice_out : (xs : Trees) → MayEnd w (Choice xs) → EndOne w (items xs)
  choice_out xs (end_choice h) = h

  bound_out : (x : Tree) (q : List (ℕ × ℕ)) → MayEnd w (Tied x q) → MayEnd w x
  bound_out x q (end_bound h) = h

  trail_out : (n : ℕ) (f : Spot) (t : Goal) (c : List ℕ) → MayEnd w (Walk n f t c) → EndWalk w n f t
  trail_out n f t c (end_trail h) = h

  abbrev Ends : Bool → Type 0 → Type 0
  Ends b P = IsTrue b ↔ P

  join_ends : (m : Mode) (x : Tree) (xs : List Tree) → x ≡ Join m (trees xs) → EndAll w xs ↔ MayEnd w x
  join_ends m x xs p =
      subst (λ (z : Tree). EndAll w xs ↔ MayEnd w z) (sym p)
      (λ e. end_join (subst (λ (l : List Tree). EndAll w l) (sym (items-trees xs)) e), λ e. subst (λ (l : List Tree). EndAll w l) (items-trees xs) (join_out m (trees xs) e))

  pub seq-ends : (x : Tree) (xs : List Tree) → x ≡ Join seq (trees xs) → EndAll w xs ↔ MayEnd w x
  seq-ends = join_ends seq

  pub par-ends : (x : Tree) (xs : List Tree) → x ≡ Join par (trees xs) → EndAll w xs ↔ MayEnd w x
  par-ends = join_ends par

  pub choice-ends : (x : Tree) (xs : List Tree) → x ≡ Choice (trees xs) → EndOne w xs ↔ MayEnd w x
  choice-ends x xs p =
      subst (λ (z : Tree). EndOne w xs ↔ MayEnd w z) (sym p)
      (λ e. end_choice (subst (λ (l : List Tree). EndOne w l) (sym (items-trees xs)) e), λ e. subst (λ (l : List Tree). EndOne w l) (items-trees xs) (choice_out (trees xs) e))

  pub tied-ends : (x y : Tree) (q : List (ℕ × ℕ)) → x ≡ Tied y q → MayEnd w y ↔ MayEnd w x
  tied-ends x y q p = subst (λ (z : Tree). MayEnd w y ↔ MayEnd w z) (sym p) (λ e. end_bound e, λ e. bound_out y q e)

  pub trail-ends : (b : Bool) (x : Tree) (n : ℕ) (f : Spot) (t : Goal) (c : List ℕ) → x ≡ Walk n f t c → Ends b (EndWalk w n f t) → Ends b (MayEnd w x)
  trail-ends b x n f t c p h = subst (λ (z : Tree). Ends b (MayEnd w z)) (sym p) (λ e. end_trail (h.0 e), λ e. h.1 (trail_out n f t c e))

  pub nil-ends : (x : Tree) → x ≡ Nil → MayEnd w x
  nil-ends x p = subst (λ (z : Tree). MayEnd w z) (sym p) end_nil

  no_event : (e : TermEvent) → MayEnd w (Event e) → ⊥
  no_event e h = elim h [ ]

  pub event-not : (x : Tree) (e : TermEvent) → x ≡ Event e → MayEnd w x → ⊥
  event-not x e p h = no_event e (subst (λ (z : Tree). MayEnd w z) p h)

  -- loops
  turns_out : (x : Tree) (lo : ℕ) (hi : Option ℕ) (ps : List Part) → MayEnd w (Loop x lo hi (row_of ps)) → EndLoop w ps × ((lo ≡ 0) ⊎ MayEnd w x)
  turns_out x zero hi ps (end_zero h) = (subst (λ (l : List Part). EndLoop w l) (parts-row_of ps) h, inl refl)
  turns_out x lo hi ps (end_turns h g e) = (subst (λ (l : List Part). EndLoop w l) (parts-row_of ps) h, inr e)

  gap_there : (ps : List Part) → has_gap ps ≡ true → HasGap ps
  gap_there [] h = cc
  gap_there (Gap c ∷ ps) h = tt
  gap_there (Turn x ∷ ps) h = gap_there ps h

  turns_in : (x : Tree) (lo : ℕ) (hi : Option ℕ) (ps : List Part) → has_gap ps ≡ true → EndLoop w ps → (lo ≡ 0) ⊎ MayEnd w x → MayEnd w (Loop x lo hi (row_of ps))
  turns_in x lo hi ps g h (inl e) = subst (λ (n : ℕ). MayEnd w (Loop x n hi (row_of ps))) (sym e) (end_zero (subst (λ (l : List Part). EndLoop w l) (sym (parts-row_of ps)) h))
  turns_in x lo hi ps g h (inr e) = end_turns (subst (λ (l : List Part). EndLoop w l) (sym (parts-row_of ps)) h) (subst (λ (l : List Part). HasGap l) (sym (parts-row_of ps)) (gap_there ps g)) e

  pub loop-not : (x : Tree) (lo : ℕ) (hi : Option ℕ) (ps : List Part) (b : Bool) → Ends b (EndLoop w ps) → b ≡ false → Ends b (MayEnd w (Loop x lo hi (row_of ps)))
  loop-not x lo hi ps b h e = (λ i. cc, λ i. h.1 (turns_out x lo hi ps i).0)

  pub loop-zero : (x : Tree) (lo : ℕ) (hi : Option ℕ) (ps : List Part) (b : Bool) → has_gap ps ≡ true → Ends b (EndLoop w ps) → lo ≡ 0 → Ends b (MayEnd w (Loop x lo hi (row_of ps)))
  loop-zero x lo hi ps b g h e = (λ i. turns_in x lo hi ps g (h.0 i) (inl e), λ i. h.1 (turns_out x lo hi ps i).0)

  pub loop-owed : (x : Tree) (lo : ℕ) (hi : Option ℕ) (ps : List Part) (b d : Bool) → has_gap ps ≡ true → Ends b (EndLoop w ps) → b ≡ true → 0 < lo → Ends d (MayEnd w x) → Ends d (MayEnd w (Loop x lo hi (row_of ps)))
  loop-owed x lo hi ps b d g h e l f =
      (λ i. turns_in x lo hi ps g (h.0 e) (inr (f.0 i)), λ i. elim (turns_out x lo hi ps i).1 [ inl z ↦ absurd (omega arith) | inr r ↦ f.1 r ])

-- walks
module _ (w : Tables) (n : ℕ) (ms : List ℕ) (net : IsNet (net_of w n)) (h : AreEnding w n (size_of (net_of w n)) ms) where
  below_size : (f : Spot) (m : ℕ) → IsIn m (behind (net_of w n) f) → m < size_of (net_of w n)
  below_size Start m i = net.starts_below m i
  below_size (At k) m i = net.next_below k m i

  walk_in : {f : Spot} {t : Goal} → EndWalk (terms_over w) n f t → WalkThrough (net_of w n) ms f (aim t)
  walk_in (last_edge m i a) = last m i a
  walk_in (inner_edge {f = f} m i e r) = step m i ((h.exact m).1 (below_size f m i, e)) (walk_in r)

  walk_out : {f : Spot} {u : Goal} (t : Goal) → u ≡ aim t → WalkThrough (net_of w n) ms f u → EndWalk (terms_over w) n f t
  walk_out t e (last m i a) = last_edge m i (rw e at a)
  walk_out t e (step m i k r) = inner_edge m i ((h.exact m).0 k).1 (walk_out t e r)

  lead_in : (f : Spot) (t : Goal) → WalkThrough (net_of w n) ms f (aim t) → Leads (net_of w n) ms f (aim t)
  lead_in f (To m) r = r
  lead_in f End r = r
  lead_in f Any r = r

  lead_out : (f : Spot) (t : Goal) → Leads (net_of w n) ms f (aim t) → WalkThrough (net_of w n) ms f (aim t)
  lead_out f (To m) r = r
  lead_out f End r = r
  lead_out f Any r = r

  pub walk-ends : (f : Spot) (t u : Goal) (g : Net) (b : Bool) → u ≡ aim t → g ≡ net_of w n → (IsTrue b ↔ Leads g ms f u) → IsTrue b ↔ EndWalk (terms_over w) n f t
  walk-ends f t u g b e p q =
      (λ i. walk_out t refl (lead_out f t (transport (q.0 i))), λ i. q.1 (back (lead_in f t (walk_in i))))
    where
      transport : Leads g ms f u → Leads (net_of w n) ms f (aim t)
      transport l = subst (λ (v : Goal). Leads (net_of w n) ms f v) e (subst (λ (d : Net). Leads d ms f u) p l)

      back : Leads (net_of w n) ms f (aim t) → Leads g ms f u
      back l = subst (λ (d : Net). Leads d ms f u) (sym p) (subst (λ (v : Goal). Leads (net_of w n) ms f v) (sym e) l)

pub ending-none : (w : Tables) (n : ℕ) (a : NodeSetValue) → HasNoNodes a → AreEnding w n 0 a.nodes
ending-none w n a f = record { exact = λ m. (λ i. absurd (f m i), λ r. absurd (omega (arith, r.0))) }

pub ending-more : (w : Tables) (n m : ℕ) (ms new : List ℕ) (b : Bool) → (IsTrue b ↔ MayEnd (terms_over w) (node_of w n m)) → AreEnding w n m ms → ((j : ℕ) → IsIn j new ↔ (IsIn j ms ⊎ ((j ≡ m) × (b ≡ true)))) → AreEnding w n (m + 1) new
ending-more w n m ms new b e h g = record { exact = λ j. (to j, from j) }
  where
    split : (j : ℕ) → j < m + 1 → (j < m) ⊎ (j ≡ m)
    split j l = grind arith

    to : (j : ℕ) → IsIn j new → (j < m + 1) × MayEnd (terms_over w) (node_of w n j)
    to j i = elim ((g j).0 i) [
      | inl l ↦ let r = (h.exact j).0 l in (omega (arith, r.0), r.1)
      | inr r ↦ (omega (arith, r.0), subst (λ (k : ℕ). MayEnd (terms_over w) (node_of w n k)) (sym r.0) (e.0 r.1))
    ]

    from : (j : ℕ) → (j < m + 1) × MayEnd (terms_over w) (node_of w n j) → IsIn j new
    from j r = elim (split j r.0) [
      | inl l ↦ (g j).1 (inl ((h.exact j).1 (l, r.1)))
      | inr q ↦ (g j).1 (inr (q, e.1 (subst (λ (k : ℕ). MayEnd (terms_over w) (node_of w n k)) q r.1)))
    ]

-- what is told holds of what holds alike
pub ends_as : (w : Tables) (P Q : Type 0) (k l : ℕ) (r : Ending) → (P ↔ Q) → k ≤ l → EndsAs w P k r → EndsAs w Q l r
ends_as w P Q k l (ending.Told b) e m h = (λ i. e.0 (h.0 i), λ q. h.1 (e.1 q))
ends_as w P Q k l (ending.As x) e m h = record { ends = (λ i. e.0 (h.ends.0 i), λ q. h.ends.1 (e.1 q)); ready = h.ready; below = omega (arith, m, h.below) }

-- what holds of every result holds of this one
pub ok-map : {A E : Type 0} (P Q : A → Type 0) (r : Result A E) → ((a : A) → P a → Q a) → IfOk r P → IfOk r Q
ok-map P Q (Ok a) f h = f a h
ok-map P Q (Err e) f h = h

pub ruleset endings = (nil-ends, event-not, ending-none, ready-seq, ready-par, ready-choice, ready-tied, rank-seq, rank-par, rank-some, rank-tied, rank-loop)
