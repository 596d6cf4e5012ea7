-- A walk in normal form has the patterns of its walks.
use Rattle.std.specs.List.{list_all}
use Rattle.std.specs.Prelude.{ℕ, Bool, true, false, List, [], ◌∷◌, ◌≡◌, Option, Some, None, ◌&&◌, ◌==◌, refl, filter}
use Rattle.std.proofs.Common.{arith, inl, inr, cond}
use Rattle.std.proofs.lemmas.Bool.Decides.{nat_tests}
use Rattle.std.proofs.lemmas.Bool.{and_from, and_parts}
use Rattle.msc_base.specs.Patterns.{empty}
use Rattle.hmsc_graph.specs.Graphs.{Spot, At, Goal, To, End, Any, behind, WalkThrough, last, step, reach}
use Rattle.msc_base.specs.Lists.{IsIn}
use Rattle.hmsc_graph.proofs.Reaching.{reach_sound, reach_whole, glue}
use Rattle.chart_term.specs.NormalForms.{NetPermits, only, cut, is_nil, some_kept, allowed, are_nil, walk_form, walk_by, walk_cut, walk_of}
use Rattle.chart_term.specs.TermMeanings.{NetTerms, MayStop, aim, HasPattern, has_nil as nil_pattern, holds_walk, HasWalk, walk_stop, walk_last, walk_step, PatternSet, ◌⊑◌, PatternsOf, Leaves, terms_of}
use Rattle.chart_term.specs.TermPatterns.{Shape, Avoids, ◌≈◌, same, back, on, in_join, left}
use Rattle.chart_term.specs.Terms.{Block, Tree, Nil, Walk}
use Rattle.chart_term.proofs.Instances.{IsInside, cut_avoids}
use Rattle.chart_term.proofs.Looping.{nil_is}

in_cond : (b : Bool) (m k : ℕ) (ms : List ℕ) → IsIn m ms → IsIn m (cond b (k ∷ ms) ms)
in_cond true m k ms i = inr i
in_cond false m k ms i = i

pub in_filter : (t : ℕ → Bool) (ms : List ℕ) (m : ℕ) → IsIn m ms → t m ≡ true → IsIn m (filter t ms)
in_filter t (k ∷ ms) m (inl e) h = let g : t k ≡ true = rw e at h in rw g (inl e)
in_filter t (k ∷ ms) m (inr i) h = in_cond (t k) m k (filter t ms) (in_filter t ms m i h)
in_filter t [] m i h = absurd i

out_cond : (t : ℕ → Bool) (b : Bool) (m k : ℕ) (ms : List ℕ) → t k ≡ b → IsIn m (cond b (k ∷ filter t ms) (filter t ms)) → (IsIn m (filter t ms) → (IsIn m ms) × (t m ≡ true)) → IsIn m (k ∷ ms) × (t m ≡ true)
out_cond t true m k ms e (inl h) f = (inl h, rw h e)
out_cond t true m k ms e (inr h) f = let r = f h in (inr r.0, r.1)
out_cond t false m k ms e h f = let r = f h in (inr r.0, r.1)

pub out_filter : (t : ℕ → Bool) (ms : List ℕ) (m : ℕ) → IsIn m (filter t ms) → IsIn m ms × (t m ≡ true)
out_filter t [] m i = absurd i
out_filter t (k ∷ ms) m i = out_cond t (t k) m k ms refl i (out_filter t ms m)

all_in : (t : ℕ → Bool) (ms : List ℕ) (m : ℕ) → list_all t ms ≡ true → IsIn m ms → t m ≡ true
all_in t [] m h i = absurd i
all_in t (k ∷ ms) m h (inl e) = rw e (and_parts (t k) (list_all t ms) h).0
all_in t (k ∷ ms) m h (inr i) = all_in t ms m (and_parts (t k) (list_all t ms) h).1 i

here : (m : ℕ) → (m == m) ≡ true
here m = grind (arith, nat_tests)

is_kept : (w : NetTerms) (o : Bool) (r : Option Tree) (s : Shape) → PatternsOf w o r s → some_kept r ≡ true
is_kept w o None s h = absurd h
is_kept w o (Some x) s h = refl

module _ (w : NetTerms) (o : Bool) (b : Block) (x : Tree) where
  nil_same : (s t : Shape) → HasPattern w o Nil t → s ≈ t → s ≈ empty
  nil_same s t nil_pattern m = m

  pub only_empty : (r : Option Tree) → Leaves w o b x r → is_nil r ≡ true → (s : Shape) → HasPattern w o x s → Avoids b s → s ≈ empty
  only_empty r h e s a av = let f = rw (nil_is r e) at h.whole in let k = f s (a, av) in nil_same s k.0 k.1 k.2

  pub some_empty : (r : Option Tree) → Leaves w o b x r → is_nil r ≡ true → (s : Shape) × HasPattern w o x s × Avoids b s × (empty ≈ s)
  some_empty r h e = let f = rw (nil_is r e) at h.sound in let k = f empty nil_pattern in (k.0, k.1.0, k.1.1, k.2)

module _ (k : NetPermits) (node : ℕ → ℕ → Tree) (o : Bool) (n : ℕ) where
  -- what is known of the net's nodes
  pub record IsExactNet : Type 0 where
    pub within : (f : Spot) (m : ℕ) → IsIn m (behind (k.net n) f) → IsIn m (k.nodes n)
    pub holds : (m : ℕ) → IsIn m (k.nodes n) → (c : List ℕ) → Leaves (terms_of k node) o (only c) (node n m) (k.kept n m c)
    pub inside : (m : ℕ) → IsIn m (k.nodes n) → (s : Shape) → HasPattern (terms_of k node) o (node n m) s → IsInside (k.spread n) s

  abbrev pub Walks : Spot → Goal → List ℕ → PatternSet
  Walks f t c s = HasWalk (terms_of k node) o n f t c s

  module _ (fine : IsExactNet) where
    pub change : (c d : List ℕ) → ((m : ℕ) → IsIn m (k.nodes n) → (s : Shape) → HasPattern (terms_of k node) o (node n m) s → Avoids (only c) s → Avoids (only d) s) → (f : Spot) (t : Goal) (s : Shape) → Walks f t c s → Walks f t d s
    change c d g f t s (walk_stop h) = walk_stop h
    change c d g f t s (walk_last m i a) = walk_last m i a
    change c d g f t s (walk_step m i a av r) = walk_step m i a (g m (fine.within f m i) _ a av) (change c d g (At m) t _ r)

    cut_to : (f : Spot) (t : Goal) (c : List ℕ) (s : Shape) → Walks f t (cut (k.spread n) c) s → Walks f t c s
    cut_to f t c s = change (cut (k.spread n) c) c (λ m i s a. (cut_avoids (k.spread n) c s (fine.inside m i s a)).to) f t s

    cut_from : (f : Spot) (t : Goal) (c : List ℕ) (s : Shape) → Walks f t c s → Walks f t (cut (k.spread n) c) s
    cut_from f t c s = change c (cut (k.spread n) c) (λ m i s a. (cut_avoids (k.spread n) c s (fine.inside m i s a)).from) f t s

    -- a node with a pattern that avoids the block is allowed
    pub may_pass : (c : List ℕ) (m : ℕ) (s : Shape) → IsIn m (k.nodes n) → HasPattern (terms_of k node) o (node n m) s → Avoids (only c) s → IsIn m (allowed k n c)
    may_pass c m s i a av = let r = (fine.holds m i c).whole s (a, av) in in_filter (λ j. some_kept (k.kept n j c)) (k.nodes n) m i (is_kept (terms_of k node) o (k.kept n m c) r.0 r.1)

    module _ (t : Goal) (aims : aim t ≡ t) (stops : MayStop t o → ⊥) (c : List ℕ) where
      pub walk_from : (f : Spot) (s : Shape) → Walks f t c s → WalkThrough (k.net n) (allowed k n c) f t
      walk_from f s (walk_stop h) = absurd (stops h)
      walk_from f s (walk_last m i a) = last m i (rw aims at a)
      walk_from f s (walk_step m i a av r) = step m i (may_pass c m _ (fine.within f m i) a av) (walk_from (At m) _ r)

      -- every node on a walk leaves only the empty pattern
      module _ (from : Spot) (nils : are_nil k n from t c (allowed k n c) ≡ true) where
        on_way : (m : ℕ) → IsIn m (allowed k n c) → WalkThrough (k.net n) (allowed k n c) from (To m) → WalkThrough (k.net n) (allowed k n c) (At m) t → is_nil (k.kept n m c) ≡ true
        on_way m j u v =
            let ks = allowed k n c in
            all_in (λ i. is_nil (k.kept n i c)) _ m nils
            (in_filter (λ i. reach (k.net n) ks from (To i) && reach (k.net n) ks (At i) t) ks m j
            (and_from _ _ (reach_whole (k.net n) ks from (To m) u) (reach_whole (k.net n) ks (At m) t v)))

        abbrev Led : Spot → Type 0
        Led f = (m : ℕ) → IsIn m (behind (k.net n) f) → WalkThrough (k.net n) (allowed k n c) from (To m)

        next : (m : ℕ) → IsIn m (allowed k n c) → WalkThrough (k.net n) (allowed k n c) from (To m) → Led (At m)
        next m j u q i = glue j u (last q i (here q))

        all_empty : (f : Spot) → Led f → (s : Shape) → Walks f t c s → s ≈ empty
        all_empty f led s (walk_stop h) = same
        all_empty f led s (walk_last m i a) = same
        all_empty f led s (walk_step m i a av r) =
            let j = may_pass c m _ (fine.within f m i) a av in
            let e = on_way m j (led m i) (walk_from (At m) _ r) in
            on (in_join (only_empty (terms_of k node) o (only c) (node n m) (k.kept n m c) (fine.holds m (fine.within f m i) c) e _ a av) (all_empty (At m) (next m j (led m i)) _ r)) left

        one_empty : (f : Spot) → Led f → WalkThrough (k.net n) (allowed k n c) f t → (s : Shape) × Walks f t c s × (empty ≈ s)
        one_empty f led (last m i a) = (empty, walk_last m i (rw aims a), same)
        one_empty f led (step m i j v) =
            let e = on_way m j (led m i) v in
            let a = some_empty (terms_of k node) o (only c) (node n m) (k.kept n m c) (fine.holds m (fine.within f m i) c) e in
            let r = one_empty (At m) (next m j (led m i)) v in
            (_, walk_step m i a.1 a.2 r.1, on (back left) (in_join a.3 r.2))

      start : (from : Spot) → (m : ℕ) → IsIn m (behind (k.net n) from) → WalkThrough (k.net n) (allowed k n c) from (To m)
      start from m i = last m i (here m)

      form_to : (f : Spot) (a b : Bool) → reach (k.net n) (allowed k n c) f t ≡ a → are_nil k n f t c (allowed k n c) ≡ b → PatternsOf (terms_of k node) o (walk_form a b (Walk n f t c)) ⊑ Walks f t c
      form_to f false b p q s h = absurd h
      form_to f true false p q s (holds_walk h) = (s, h, same)
      form_to f true true p q s nil_pattern = one_empty f q f (start f) (reach_sound (k.net n) (allowed k n c) f t p)

      form_from : (f : Spot) (a b : Bool) → reach (k.net n) (allowed k n c) f t ≡ a → are_nil k n f t c (allowed k n c) ≡ b → Walks f t c ⊑ PatternsOf (terms_of k node) o (walk_form a b (Walk n f t c))
      form_from f false b p q s h = let e = reach_whole (k.net n) (allowed k n c) f t (walk_from f s h) in cc
      form_from f true false p q s h = (s, holds_walk h, same)
      form_from f true true p q s h = (empty, nil_pattern, all_empty f q f (start f) s h)

      pub walk_of_to : (f : Spot) → PatternsOf (terms_of k node) o (walk_by k n f t c (allowed k n c)) ⊑ Walks f t c
      walk_of_to f = form_to f (reach (k.net n) (allowed k n c) f t) (are_nil k n f t c (allowed k n c)) refl refl

      pub walk_of_from : (f : Spot) → Walks f t c ⊑ PatternsOf (terms_of k node) o (walk_by k n f t c (allowed k n c))
      walk_of_from f = form_from f (reach (k.net n) (allowed k n c) f t) (are_nil k n f t c (allowed k n c)) refl refl

    any_to : (f : Spot) (c : List ℕ) → HasPattern (terms_of k node) o (Walk n f Any c) ⊑ Walks f Any c
    any_to f c s (holds_walk h) = (s, h, same)

    cut_form_to : (f : Spot) (t : Goal) (c : List ℕ) → PatternsOf (terms_of k node) o (walk_cut k n f t c) ⊑ Walks f t c
    cut_form_to f Any c = any_to f c
    cut_form_to f End c = walk_of_to End refl (λ h. h) c f
    cut_form_to f (To m) c = walk_of_to (To m) refl (λ h. h) c f

    cut_form_from : (f : Spot) (t : Goal) (c : List ℕ) → Walks f t c ⊑ PatternsOf (terms_of k node) o (walk_cut k n f t c)
    cut_form_from f Any c = λ s h. (s, holds_walk h, same)
    cut_form_from f End c = walk_of_from End refl (λ h. h) c f
    cut_form_from f (To m) c = walk_of_from (To m) refl (λ h. h) c f

    pub trail_to : (f : Spot) (t : Goal) (c : List ℕ) → PatternsOf (terms_of k node) o (walk_of k n f t c) ⊑ Walks f t c
    trail_to f t c s h = let r = cut_form_to f t (cut (k.spread n) c) s h in (r.0, cut_to f t c r.0 r.1, r.2)

    pub trail_from : (f : Spot) (t : Goal) (c : List ℕ) → Walks f t c ⊑ PatternsOf (terms_of k node) o (walk_of k n f t c)
    trail_from f t c s h = cut_form_from f t (cut (k.spread n) c) s (cut_from f t c s h)
