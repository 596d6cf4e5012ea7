-- A loop in normal form has the patterns of its row.
use Rattle.std.specs.Prelude.{ℕ, zero, suc, ◌+◌, ◌-◌, ◌≤◌, Bool, true, false, List, [], ◌∷◌, ◌≡◌, Option, Some, None, ◌||◌, refl}
use Rattle.std.proofs.Common.{arith, zero-add, suc-add}
use Rattle.msc_base.specs.Patterns.{seq, empty}
use Rattle.chart_term.specs.NormalForms.{only, cut, cut_gaps, put_turn, drop_nil, only_turns, at_zero, live_gap, live, is_nil, has_free, free_gap, drop_free, lower_of, thin_gap, thin, has_gap, begun, no_gap, turns_form, tidy, loop_of}
use Rattle.chart_term.specs.TermMeanings.{NetTerms, UpTo, HasPattern, has_nil, holds_loop, HasParts, no_part, one_part, HasRow, gaps_end, gaps_turn, gaps_shut, gaps_more, PatternSet, ◌⊑◌, Avoiding, PatternsOf, Leaves}
use Rattle.chart_term.specs.TermPatterns.{Shape, Avoids, ◌≈◌, same, back, on, in_join, left}
use Rattle.chart_term.specs.Terms.{Tree, Nil, Event, Join, Choice, Tied, Loop, Walk, Part, Gap, Turn}
use Rattle.chart_term.proofs.Joining.{trans, join_to, join_from}
use Rattle.chart_term.proofs.Lists.{parts-row_of}
use Rattle.chart_term.specs.Properties.{EachGap}

pub nil_is : (r : Option Tree) → is_nil r ≡ true → r ≡ Some Nil
nil_is None h = cc
nil_is (Some Nil) h = refl
nil_is (Some (Event e)) h = cc
nil_is (Some (Join m xs)) h = cc
nil_is (Some (Choice xs)) h = cc
nil_is (Some (Tied x q)) h = cc
nil_is (Some (Loop x lo hi r)) h = cc
nil_is (Some (Walk n s t c)) h = cc

-- the first has some of the gaps of the second, in their order
pub data IsSubRow : List Part → List Part → Type 0 where
  sub_end : IsSubRow [] []
  sub_gap : {c : List ℕ} {ps qs : List Part} → IsSubRow ps qs → IsSubRow (Gap c ∷ ps) (Gap c ∷ qs)
  sub_drop : {c : List ℕ} {ps qs : List Part} → IsSubRow ps qs → IsSubRow ps (Gap c ∷ qs)
  sub_turn : {y : Tree} {ps qs : List Part} → IsSubRow ps qs → IsSubRow (Turn y ∷ ps) (Turn y ∷ qs)
  sub_over : {y : Tree} {ps qs : List Part} → IsSubRow ps qs → IsSubRow ps (Turn y ∷ qs)

sub_put : (y : Tree) {ps qs : List Part} → IsSubRow ps qs → IsSubRow (put_turn y ps) (Turn y ∷ qs)
sub_put Nil h = sub_over h
sub_put (Event e) h = sub_turn h
sub_put (Join m xs) h = sub_turn h
sub_put (Choice xs) h = sub_turn h
sub_put (Tied x q) h = sub_turn h
sub_put (Loop x lo hi r) h = sub_turn h
sub_put (Walk n s t c) h = sub_turn h

pub sub_nil : (ps : List Part) → IsSubRow (drop_nil ps) ps
sub_nil [] = sub_end
sub_nil (Gap c ∷ ps) = sub_gap (sub_nil ps)
sub_nil (Turn y ∷ ps) = sub_put y (sub_nil ps)

sub_self : (ps : List Part) → IsSubRow ps ps
sub_self [] = sub_end
sub_self (Gap c ∷ ps) = sub_gap (sub_self ps)
sub_self (Turn y ∷ ps) = sub_turn (sub_self ps)

sub_only : (ps : List Part) → IsSubRow (only_turns ps) ps
sub_only [] = sub_end
sub_only (Gap c ∷ ps) = sub_drop (sub_only ps)
sub_only (Turn y ∷ ps) = sub_turn (sub_only ps)

pub sub_zero : (hi : Option ℕ) (ps : List Part) → IsSubRow (at_zero hi ps) ps
sub_zero None ps = sub_self ps
sub_zero (Some zero) ps = sub_only ps
sub_zero (Some (suc n)) ps = sub_self ps

sub_live_gap : (r : Option Tree) (c : List ℕ) {ps qs : List Part} → IsSubRow ps qs → IsSubRow (live_gap r c ps) (Gap c ∷ qs)
sub_live_gap None c h = sub_drop h
sub_live_gap (Some y) c h = sub_gap h

pub sub_live : (p : List ℕ → Option Tree) (ps : List Part) → IsSubRow (live p ps) ps
sub_live p [] = sub_end
sub_live p (Gap c ∷ ps) = sub_live_gap (p c) c (sub_live p ps)
sub_live p (Turn y ∷ ps) = sub_turn (sub_live p ps)

sub_free_gap : (t : Bool) (c : List ℕ) {ps qs : List Part} → IsSubRow ps qs → IsSubRow (free_gap t c ps) (Gap c ∷ qs)
sub_free_gap true c h = sub_drop h
sub_free_gap false c h = sub_gap h

pub sub_free : (p : List ℕ → Option Tree) (ps : List Part) → IsSubRow (drop_free p ps) ps
sub_free p [] = sub_end
sub_free p (Gap c ∷ ps) = sub_free_gap (is_nil (p c)) c (sub_free p ps)
sub_free p (Turn y ∷ ps) = sub_turn (sub_free p ps)

up_to_le : (hi : Option ℕ) (m n : ℕ) → m ≤ n → UpTo hi n → UpTo hi m
up_to_le None m n h k = tt
up_to_le (Some i) m n h k = omega arith

module _ (w : NetTerms) (o : Bool) (x : Tree) where
  -- every pattern that avoids the first avoids the second
  abbrev pub Eases : List ℕ → List ℕ → Type 0
  Eases c d = (s : Shape) → HasPattern w o x s → Avoids (only c) s → Avoids (only d) s

  -- the blocks do not grow from left to right
  abbrev pub Falls : List Part → Type 0
  Falls [] = Unit {0}
  Falls (Gap c ∷ ps) = EachGap (Eases c) ps × Falls ps
  Falls (Turn y ∷ ps) = Falls ps

  abbrev pub Rows : List Part → ℕ → PatternSet
  Rows ps n s = HasRow w o x ps n s

  -- for some number of turns
  abbrev pub Spread : ℕ → Option ℕ → List Part → PatternSet
  Spread lo hi ps s = (n : ℕ) × Rows ps n s × (lo ≤ n) × UpTo hi n

  abbrev Steps : List Part → List Part → Type 0
  Steps ps qs = (n : ℕ) → Rows ps n ⊑ Rows qs n

  at_gap : (c d : List ℕ) (ps qs : List Part) → Eases c d → Steps ps qs → Steps (Gap c ∷ ps) (Gap d ∷ qs)
  at_gap c d ps qs e f n s (gaps_shut r) = let k = f n _ r in (k.0, gaps_shut k.1, k.2)
  at_gap c d ps qs e f (suc n) s (gaps_more a av r) = let k = at_gap c d ps qs e f n _ r in (_, gaps_more a (e _ a av) k.1, in_join same k.2)

  at_turn : (y : Tree) (ps qs : List Part) → Steps ps qs → Steps (Turn y ∷ ps) (Turn y ∷ qs)
  at_turn y ps qs f n s (gaps_turn a r) = let k = f n _ r in (_, gaps_turn a k.1, in_join same k.2)

  shut : (c : List ℕ) (ps qs : List Part) → Steps ps qs → Steps ps (Gap c ∷ qs)
  shut c ps qs f n s r = let k = f n s r in (k.0, gaps_shut k.1, k.2)

  stay : (ps : List Part) → Steps ps ps
  stay ps n s r = (s, r, same)

  -- a gap that no pattern passes
  dead : (c : List ℕ) (ps qs : List Part) → ((s : Shape) → HasPattern w o x s → Avoids (only c) s → ⊥) → Steps ps qs → Steps (Gap c ∷ ps) qs
  dead c ps qs e f n s (gaps_shut r) = f n s r
  dead c ps qs e f (suc n) s (gaps_more a av r) = absurd (e _ a av)

  -- a begun turn that is over
  over_to : (ps qs : List Part) → Steps ps qs → Steps ps (Turn Nil ∷ qs)
  over_to ps qs f n s r = let k = f n s r in (_, gaps_turn has_nil k.1, on k.2 (back left))

  over_from : (ps qs : List Part) → Steps ps qs → Steps (Turn Nil ∷ ps) qs
  over_from ps qs f n s (gaps_turn has_nil r) = let k = f n _ r in (k.0, k.1, on left k.2)

  put_to : (y : Tree) (ps qs : List Part) → Steps ps qs → Steps (put_turn y ps) (Turn y ∷ qs)
  put_to Nil ps qs f = over_to ps qs f
  put_to (Event e) ps qs f = at_turn (Event e) ps qs f
  put_to (Join m xs) ps qs f = at_turn (Join m xs) ps qs f
  put_to (Choice xs) ps qs f = at_turn (Choice xs) ps qs f
  put_to (Tied y q) ps qs f = at_turn (Tied y q) ps qs f
  put_to (Loop y lo hi r) ps qs f = at_turn (Loop y lo hi r) ps qs f
  put_to (Walk n g t c) ps qs f = at_turn (Walk n g t c) ps qs f

  put_from : (y : Tree) (ps qs : List Part) → Steps ps qs → Steps (Turn y ∷ ps) (put_turn y qs)
  put_from Nil ps qs f = over_from ps qs f
  put_from (Event e) ps qs f = at_turn (Event e) ps qs f
  put_from (Join m xs) ps qs f = at_turn (Join m xs) ps qs f
  put_from (Choice xs) ps qs f = at_turn (Choice xs) ps qs f
  put_from (Tied y q) ps qs f = at_turn (Tied y q) ps qs f
  put_from (Loop y lo hi r) ps qs f = at_turn (Loop y lo hi r) ps qs f
  put_from (Walk n g t c) ps qs f = at_turn (Walk n g t c) ps qs f

  nil_drop_to : (ps : List Part) → Steps (drop_nil ps) ps
  nil_drop_to [] = stay []
  nil_drop_to (Gap c ∷ ps) = at_gap c c (drop_nil ps) ps (λ s a h. h) (nil_drop_to ps)
  nil_drop_to (Turn y ∷ ps) = put_to y (drop_nil ps) ps (nil_drop_to ps)

  nil_drop_from : (ps : List Part) → Steps ps (drop_nil ps)
  nil_drop_from [] = stay []
  nil_drop_from (Gap c ∷ ps) = at_gap c c ps (drop_nil ps) (λ s a h. h) (nil_drop_from ps)
  nil_drop_from (Turn y ∷ ps) = put_from y ps (drop_nil ps) (nil_drop_from ps)

  cut_to : (all : List ℕ) → ((c : List ℕ) → Eases (cut all c) c) → (ps : List Part) → Steps (cut_gaps all ps) ps
  cut_to all e [] = stay []
  cut_to all e (Gap c ∷ ps) = at_gap (cut all c) c (cut_gaps all ps) ps (e c) (cut_to all e ps)
  cut_to all e (Turn y ∷ ps) = at_turn y (cut_gaps all ps) ps (cut_to all e ps)

  cut_from : (all : List ℕ) → ((c : List ℕ) → Eases c (cut all c)) → (ps : List Part) → Steps ps (cut_gaps all ps)
  cut_from all e [] = stay []
  cut_from all e (Gap c ∷ ps) = at_gap c (cut all c) ps (cut_gaps all ps) (e c) (cut_from all e ps)
  cut_from all e (Turn y ∷ ps) = at_turn y ps (cut_gaps all ps) (cut_from all e ps)

  turns_only_to : (ps : List Part) → Steps (only_turns ps) ps
  turns_only_to [] = stay []
  turns_only_to (Gap c ∷ ps) = shut c (only_turns ps) ps (turns_only_to ps)
  turns_only_to (Turn y ∷ ps) = at_turn y (only_turns ps) ps (turns_only_to ps)

  turns_only_from : (ps : List Part) → Rows ps zero ⊑ Rows (only_turns ps) zero
  turns_only_from [] s r = (s, r, same)
  turns_only_from (Gap c ∷ ps) s (gaps_shut r) = turns_only_from ps s r
  turns_only_from (Turn y ∷ ps) s (gaps_turn a r) = let k = turns_only_from ps _ r in (_, gaps_turn a k.1, in_join same k.2)

  zero_to : (hi : Option ℕ) (ps : List Part) → Steps (at_zero hi ps) ps
  zero_to None ps = stay ps
  zero_to (Some zero) ps = turns_only_to ps
  zero_to (Some (suc n)) ps = stay ps

  zero_from : (hi : Option ℕ) (ps : List Part) (n : ℕ) → UpTo hi n → Rows ps n ⊑ Rows (at_zero hi ps) n
  zero_from None ps n h s r = (s, r, same)
  zero_from (Some zero) ps zero h s r = turns_only_from ps s r
  zero_from (Some zero) ps (suc n) h s r = absurd (omega arith)
  zero_from (Some (suc m)) ps n h s r = (s, r, same)

  -- what permission leaves of the operand
  module _ (p : List ℕ → Option Tree) (holds : (c : List ℕ) → Leaves w o (only c) x (p c)) where
    none_left : (c : List ℕ) → p c ≡ None → (s : Shape) → HasPattern w o x s → Avoids (only c) s → ⊥
    none_left c e s a av = let f = rw e at ((holds c).whole) in (f s (a, av)).1

    live_to' : (c : List ℕ) (r : Option Tree) (ps qs : List Part) → Steps ps qs → Steps (live_gap r c ps) (Gap c ∷ qs)
    live_to' c None ps qs f = shut c ps qs f
    live_to' c (Some y) ps qs f = at_gap c c ps qs (λ s a h. h) f

    live_to : (ps : List Part) → Steps (live p ps) ps
    live_to [] = stay []
    live_to (Gap c ∷ ps) = live_to' c (p c) (live p ps) ps (live_to ps)
    live_to (Turn y ∷ ps) = at_turn y (live p ps) ps (live_to ps)

    live_from' : (c : List ℕ) (r : Option Tree) → p c ≡ r → (ps qs : List Part) → Steps ps qs → Steps (Gap c ∷ ps) (live_gap r c qs)
    live_from' c None e ps qs f = dead c ps qs (none_left c e) f
    live_from' c (Some y) e ps qs f = at_gap c c ps qs (λ s a h. h) f

    live_from : (ps : List Part) → Steps ps (live p ps)
    live_from [] = stay []
    live_from (Gap c ∷ ps) = live_from' c (p c) refl ps (live p ps) (live_from ps)
    live_from (Turn y ∷ ps) = at_turn y ps (live p ps) (live_from ps)

    -- gaps in which only the empty pattern may stand
    empty_there : (c : List ℕ) → is_nil (p c) ≡ true → (s : Shape) → HasPattern w o x s → Avoids (only c) s → s ≈ empty
    empty_there c e s a av = at_nil (rw (nil_is (p c) e) at ((holds c).whole))
      where
        is_empty : (t : Shape) → HasPattern w o Nil t → s ≈ t → s ≈ empty
        is_empty t has_nil m = m

        at_nil : Avoiding (only c) (HasPattern w o x) ⊑ HasPattern w o Nil → s ≈ empty
        at_nil f = let k = f s (a, av) in is_empty k.0 k.1 k.2

    one_there : (c : List ℕ) → is_nil (p c) ≡ true → (s : Shape) × HasPattern w o x s × Avoids (only c) s × (empty ≈ s)
    one_there c e = let f = rw (nil_is (p c) e) at ((holds c).sound) in let k = f empty has_nil in (k.0, k.1.0, k.1.1, k.2)

    -- fewer turns
    abbrev Fewer : List Part → ℕ → PatternSet
    Fewer qs n s = (m : ℕ) × (m ≤ n) × Rows qs m s

    free_from_gap : (c : List ℕ) (ps qs : List Part) → is_nil (p c) ≡ true → ((n : ℕ) → Rows ps n ⊑ Fewer qs n) → (n : ℕ) → Rows (Gap c ∷ ps) n ⊑ Fewer qs n
    free_from_gap c ps qs e f n s (gaps_shut r) = f n s r
    free_from_gap c ps qs e f (suc n) s (gaps_more a av r) =
        let k = free_from_gap c ps qs e f n _ r in (k.0, (k.1.0, omega arith, k.1.2), on (in_join (empty_there c e _ a av) same) (on left k.2))

    kept_from_gap : (c : List ℕ) (ps qs : List Part) → ((n : ℕ) → Rows ps n ⊑ Fewer qs n) → (n : ℕ) → Rows (Gap c ∷ ps) n ⊑ Fewer (Gap c ∷ qs) n
    kept_from_gap c ps qs f n s (gaps_shut r) = let k = f n s r in (k.0, (k.1.0, k.1.1, gaps_shut k.1.2), k.2)
    kept_from_gap c ps qs f (suc n) s (gaps_more a av r) =
        let k = kept_from_gap c ps qs f n _ r in (_, (suc k.1.0, omega arith, gaps_more a av k.1.2), in_join same k.2)

    free_from' : (c : List ℕ) (t : Bool) → is_nil (p c) ≡ t → (ps qs : List Part) → ((n : ℕ) → Rows ps n ⊑ Fewer qs n) → (n : ℕ) → Rows (Gap c ∷ ps) n ⊑ Fewer (free_gap t c qs) n
    free_from' c true e ps qs f = free_from_gap c ps qs e f
    free_from' c false e ps qs f = kept_from_gap c ps qs f

    free_from_turn : (y : Tree) (ps qs : List Part) → ((n : ℕ) → Rows ps n ⊑ Fewer qs n) → (n : ℕ) → Rows (Turn y ∷ ps) n ⊑ Fewer (Turn y ∷ qs) n
    free_from_turn y ps qs f n s (gaps_turn a r) = let k = f n _ r in (_, (k.1.0, k.1.1, gaps_turn a k.1.2), in_join same k.2)

    free_from : (ps : List Part) (n : ℕ) → Rows ps n ⊑ Fewer (drop_free p ps) n
    free_from [] n s r = (s, (n, omega arith, r), same)
    free_from (Gap c ∷ ps) n s r = free_from' c (is_nil (p c)) refl ps (drop_free p ps) (free_from ps) n s r
    free_from (Turn y ∷ ps) n s r = free_from_turn y ps (drop_free p ps) (free_from ps) n s r

    free_to' : (c : List ℕ) (t : Bool) (ps qs : List Part) → Steps ps qs → Steps (free_gap t c ps) (Gap c ∷ qs)
    free_to' c true ps qs f = shut c ps qs f
    free_to' c false ps qs f = at_gap c c ps qs (λ s a h. h) f

    free_to : (ps : List Part) → Steps (drop_free p ps) ps
    free_to [] = stay []
    free_to (Gap c ∷ ps) = free_to' c (is_nil (p c)) (drop_free p ps) ps (free_to ps)
    free_to (Turn y ∷ ps) = at_turn y (drop_free p ps) ps (free_to ps)

    -- where no gap is free, nothing is dropped
    none_free' : (c : List ℕ) (t u : Bool) → (t || u) ≡ false → (ps qs : List Part) → (u ≡ false → Steps ps qs) → Steps (Gap c ∷ ps) (free_gap t c qs)
    none_free' c true u h ps qs f = cc
    none_free' c false u h ps qs f = at_gap c c ps qs (λ s a g. g) (f h)

    none_free : (ps : List Part) → has_free p ps ≡ false → Steps ps (drop_free p ps)
    none_free [] h = stay []
    none_free (Gap c ∷ ps) h = none_free' c (is_nil (p c)) (has_free p ps) h ps (drop_free p ps) (none_free ps)
    none_free (Turn y ∷ ps) h = at_turn y ps (drop_free p ps) (none_free ps h)

    -- where a gap is free, further turns may be empty
    More : List Part → Type 0
    More ps = (n : ℕ) → Rows ps n ⊑ Rows ps (suc n)

    more_here : (c : List ℕ) (ps : List Part) → is_nil (p c) ≡ true → More (Gap c ∷ ps)
    unfolding More
    more_here c ps e n s r = let k = one_there c e in (_, gaps_more k.1 k.2 r, on (back left) (in_join k.3 same))

    more_there : (c : List ℕ) (ps : List Part) → More ps → More (Gap c ∷ ps)
    unfolding More
    more_there c ps f n s (gaps_shut r) = let k = f n s r in (k.0, gaps_shut k.1, k.2)
    more_there c ps f (suc n) s (gaps_more a av r) = let k = more_there c ps f n _ r in (_, gaps_more a av k.1, in_join same k.2)

    more_turn : (y : Tree) (ps : List Part) → More ps → More (Turn y ∷ ps)
    unfolding More
    more_turn y ps f n s (gaps_turn a r) = let k = f n _ r in (_, gaps_turn a k.1, in_join same k.2)

    more_gap : (c : List ℕ) (t u : Bool) → is_nil (p c) ≡ t → (t || u) ≡ true → (ps : List Part) → (u ≡ true → More ps) → More (Gap c ∷ ps)
    more_gap c true u e h ps f = more_here c ps e
    more_gap c false u e h ps f = more_there c ps (f h)

    more : (ps : List Part) → has_free p ps ≡ true → More ps
    more [] h = cc
    more (Gap c ∷ ps) h = more_gap c (is_nil (p c)) (has_free p ps) refl h ps (more ps)
    more (Turn y ∷ ps) h = more_turn y ps (more ps h)

    pad : (ps : List Part) → More ps → (k n : ℕ) → Rows ps n ⊑ Rows ps (k + n)
    unfolding More
    pad ps f zero n s r = (s, rw zero-add r, same)
    pad ps f (suc k) n s r = let a = pad ps f k n s r in let b = f (k + n) a.0 a.1 in (b.0, rw suc-add b.1, on a.2 b.2)

  -- neighbouring gaps
  swallow : (c d : List ℕ) (ps : List Part) → Eases c d → Steps (Gap c ∷ Gap d ∷ ps) (Gap d ∷ ps)
  swallow c d ps e n s (gaps_shut r) = (s, r, same)
  swallow c d ps e (suc n) s (gaps_more a av r) = let k = swallow c d ps e n _ r in (_, gaps_more a (e _ a av) k.1, in_join same k.2)

  thin_gap_to : (c : List ℕ) (ps : List Part) → Steps (thin_gap c ps) (Gap c ∷ ps)
  thin_gap_to c [] = stay (Gap c ∷ [])
  thin_gap_to c (Gap d ∷ ps) = shut c (Gap d ∷ ps) (Gap d ∷ ps) (stay (Gap d ∷ ps))
  thin_gap_to c (Turn y ∷ ps) = stay (Gap c ∷ Turn y ∷ ps)

  thin_gap_from : (c : List ℕ) (ps : List Part) → EachGap (Eases c) ps → Steps (Gap c ∷ ps) (thin_gap c ps)
  thin_gap_from c [] e = stay (Gap c ∷ [])
  thin_gap_from c (Gap d ∷ ps) e = swallow c d ps e.0
  thin_gap_from c (Turn y ∷ ps) e = stay (Gap c ∷ Turn y ∷ ps)

  then_steps : (ps qs rs : List Part) → Steps ps qs → Steps qs rs → Steps ps rs
  then_steps ps qs rs f g n = trans (Rows ps n) (Rows qs n) (Rows rs n) (f n) (g n)

  each_thin_gap : (q : List ℕ → Type 0) (c : List ℕ) (ps : List Part) → q c → EachGap q ps → EachGap q (thin_gap c ps)
  each_thin_gap q c [] h e = (h, tt)
  each_thin_gap q c (Gap d ∷ ps) h e = e
  each_thin_gap q c (Turn y ∷ ps) h e = (h, e)

  pub each_thin : (q : List ℕ → Type 0) (ps : List Part) → EachGap q ps → EachGap q (thin ps)
  each_thin q [] e = tt
  each_thin q (Gap c ∷ ps) e = each_thin_gap q c (thin ps) e.0 (each_thin q ps e.1)
  each_thin q (Turn y ∷ ps) e = each_thin q ps e

  thin_to : (ps : List Part) → Steps (thin ps) ps
  thin_to [] = stay []
  thin_to (Gap c ∷ ps) = then_steps (thin_gap c (thin ps)) (Gap c ∷ thin ps) (Gap c ∷ ps) (thin_gap_to c (thin ps)) (at_gap c c (thin ps) ps (λ s a h. h) (thin_to ps))
  thin_to (Turn y ∷ ps) = at_turn y (thin ps) ps (thin_to ps)

  thin_from : (ps : List Part) → Falls ps → Steps ps (thin ps)
  thin_from [] e = stay []
  thin_from (Gap c ∷ ps) e = then_steps (Gap c ∷ ps) (Gap c ∷ thin ps) (thin_gap c (thin ps)) (at_gap c c ps (thin ps) (λ s a h. h) (thin_from ps e.1)) (thin_gap_from c (thin ps) (each_thin (Eases c) ps e.0))
  thin_from (Turn y ∷ ps) e = at_turn y ps (thin ps) (thin_from ps e)

  -- a row without a gap
  begun_from : (ps : List Part) → has_gap ps ≡ false → (n : ℕ) (s : Shape) → Rows ps n s → (n ≡ zero) × HasParts w o seq (begun ps) s
  begun_from [] h zero s gaps_end = (refl, no_part)
  begun_from [] h (suc n) s r = elim r [ ]
  begun_from (Gap c ∷ ps) h n s r = cc
  begun_from (Turn y ∷ ps) h n s (gaps_turn a r) = let k = begun_from ps h n _ r in (k.0, one_part a k.1)

  begun_to : (ps : List Part) → has_gap ps ≡ false → (s : Shape) → HasParts w o seq (begun ps) s → Rows ps zero s
  begun_to [] h s no_part = gaps_end
  begun_to (Gap c ∷ ps) h s r = cc
  begun_to (Turn y ∷ ps) h s (one_part a r) = gaps_turn a (begun_to ps h _ r)

  each_sub : (q : List ℕ → Type 0) {ps qs : List Part} → IsSubRow ps qs → EachGap q qs → EachGap q ps
  each_sub q sub_end e = tt
  each_sub q (sub_gap h) e = (e.0, each_sub q h e.1)
  each_sub q (sub_drop h) e = each_sub q h e.1
  each_sub q (sub_turn h) e = each_sub q h e
  each_sub q (sub_over h) e = each_sub q h e

  pub falls_sub : {ps qs : List Part} → IsSubRow ps qs → Falls qs → Falls ps
  falls_sub sub_end e = tt
  falls_sub (sub_gap {c = c} h) e = (each_sub (Eases c) h e.0, falls_sub h e.1)
  falls_sub (sub_drop h) e = falls_sub h e.1
  falls_sub (sub_turn h) e = falls_sub h e
  falls_sub (sub_over h) e = falls_sub h e

  each_cut : (all c : List ℕ) → ((d : List ℕ) → Eases (cut all d) d) → ((d : List ℕ) → Eases d (cut all d)) → (ps : List Part) → EachGap (Eases c) ps → EachGap (Eases (cut all c)) (cut_gaps all ps)
  each_cut all c f g [] e = tt
  each_cut all c f g (Gap d ∷ ps) e = (λ s a h. g d s a (e.0 s a (f c s a h)), each_cut all c f g ps e.1)
  each_cut all c f g (Turn y ∷ ps) e = each_cut all c f g ps e

  pub falls_cut : (all : List ℕ) → ((d : List ℕ) → Eases (cut all d) d) → ((d : List ℕ) → Eases d (cut all d)) → (ps : List Part) → Falls ps → Falls (cut_gaps all ps)
  falls_cut all f g [] e = tt
  falls_cut all f g (Gap c ∷ ps) e = (each_cut all c f g ps e.0, falls_cut all f g ps e.1)
  falls_cut all f g (Turn y ∷ ps) e = falls_cut all f g ps e

  -- what is left of the row
  end_to : (lo : ℕ) (hi : Option ℕ) (rs : List Part) (t : Bool) → has_gap rs ≡ t → PatternsOf w o (turns_form t x lo hi rs) ⊑ Spread lo hi rs
  end_to lo hi rs true e s (holds_loop n r l u) = (s, (n, rw (parts-row_of rs) at r, l, u), same)
  end_to zero hi rs false e s a = let k = join_to w o seq (begun rs) s a in (k.0, (zero, begun_to rs e k.0 k.1, omega arith, at_least hi), k.2)
    where
      at_least : (hi : Option ℕ) → UpTo hi zero
      at_least None = tt
      at_least (Some m) = omega arith
  end_to (suc lo) hi rs false e s a = absurd a

  no_gap_from : (lo : ℕ) (rs : List Part) (s : Shape) → lo ≤ zero → HasParts w o seq (begun rs) s → (t : Shape) × PatternsOf w o (no_gap lo rs) t × (s ≈ t)
  no_gap_from zero rs s l a = join_from w o seq (begun rs) s a
  no_gap_from (suc lo) rs s l a = absurd (omega arith)

  end_from : (lo : ℕ) (hi : Option ℕ) (rs : List Part) (t : Bool) → has_gap rs ≡ t → Spread lo hi rs ⊑ PatternsOf w o (turns_form t x lo hi rs)
  end_from lo hi rs true e s (n, r, l, u) = (s, holds_loop n (rw (parts-row_of rs) r) l u, same)
  end_from lo hi rs false e s (n, r, l, u) = let k = begun_from rs e n s r in no_gap_from lo rs s (omega arith) k.1

  module _ (p : List ℕ → Option Tree) (holds : (c : List ℕ) → Leaves w o (only c) x (p c)) where
    lower_to : (lo : ℕ) (hi : Option ℕ) → UpTo hi lo → (qs : List Part) (t : Bool) → has_free p qs ≡ t → Spread (lower_of t lo) hi (thin (drop_free p qs)) ⊑ Spread lo hi qs
    lower_to lo hi h qs false e s (n, r, l, u) =
        let k = then_steps (thin (drop_free p qs)) (drop_free p qs) qs (thin_to (drop_free p qs)) (free_to p holds qs) n s r in
        (k.0, (n, k.1, l, u), k.2)
    lower_to lo hi h qs true e s (n, r, l, u) =
        let k = then_steps (thin (drop_free p qs)) (drop_free p qs) qs (thin_to (drop_free p qs)) (free_to p holds qs) n s r in
        let j = pad p holds qs (more p holds qs e) (lo - n) n k.0 k.1 in
        (j.0, (lo - n + n, j.1, omega arith, padded hi lo n h u), on k.2 j.2)
      where
        padded : (hi : Option ℕ) (lo n : ℕ) → UpTo hi lo → UpTo hi n → UpTo hi (lo - n + n)
        padded None lo n h u = tt
        padded (Some m) lo n h u = omega arith

    lower_from : (lo : ℕ) (hi : Option ℕ) (qs : List Part) → Falls qs → (t : Bool) → has_free p qs ≡ t → Spread lo hi qs ⊑ Spread (lower_of t lo) hi (thin (drop_free p qs))
    lower_from lo hi qs d false e s (n, r, l, u) =
        let k = then_steps qs (drop_free p qs) (thin (drop_free p qs)) (none_free p holds qs e) (thin_from (drop_free p qs) (falls_sub (sub_free p qs) d)) n s r in
        (k.0, (n, k.1, l, u), k.2)
    lower_from lo hi qs d true e s (n, r, l, u) =
        let k = free_from p holds qs n s r in
        let j = thin_from (drop_free p qs) (falls_sub (sub_free p qs) d) k.1.0 k.0 k.1.2 in
        (j.0, (k.1.0, j.1, omega arith, up_to_le hi k.1.0 n k.1.1 u), on k.2 j.2)

    -- the instances that the operand touches
    module _ (all : List ℕ) (ease : (c : List ℕ) → Eases (cut all c) c) (hard : (c : List ℕ) → Eases c (cut all c)) where
      tidy_to : (hi : Option ℕ) (ps : List Part) → Steps (tidy p all hi ps) ps
      tidy_to hi ps =
          let a = cut_gaps all ps in
          let b = drop_nil a in
          let c = at_zero hi b in
          then_steps (live p c) c ps (live_to p holds c) (then_steps c b ps (zero_to hi b) (then_steps b a ps (nil_drop_to a) (cut_to all ease ps)))

      tidy_from : (hi : Option ℕ) (ps : List Part) (n : ℕ) → UpTo hi n → Rows ps n ⊑ Rows (tidy p all hi ps) n
      tidy_from hi ps n u s r =
          let a = cut_gaps all ps in
          let b = drop_nil a in
          let c = at_zero hi b in
          let i = then_steps ps a b (cut_from all hard ps) (nil_drop_from a) n s r in
          let j = zero_from hi b n u i.0 i.1 in
          let k = live_from p holds c n j.0 j.1 in
          (k.0, k.1, on i.2 (on j.2 k.2))

      tidy_falls : (hi : Option ℕ) (ps : List Part) → Falls ps → Falls (tidy p all hi ps)
      tidy_falls hi ps d =
          let a = cut_gaps all ps in
          let b = drop_nil a in
          let c = at_zero hi b in
          falls_sub {qs = c} (sub_live p c) (falls_sub {qs = b} (sub_zero hi b) (falls_sub {qs = a} (sub_nil a) (falls_cut all ease hard ps d)))

      pub turns_to : (lo : ℕ) (hi : Option ℕ) (ps : List Part) → UpTo hi lo → PatternsOf w o (loop_of p all x lo hi ps) ⊑ Spread lo hi ps
      turns_to lo hi ps h s a =
          let qs = tidy p all hi ps in
          let f = has_free p qs in
          let rs = thin (drop_free p qs) in
          let i = end_to (lower_of f lo) hi rs (has_gap rs) refl s a in
          let j = lower_to lo hi h qs f refl i.0 i.1 in
          let k = tidy_to hi ps j.1.0 j.0 j.1.1 in
          (k.0, (j.1.0, k.1, j.1.2, j.1.3), on i.2 (on j.2 k.2))

      pub turns_from : (lo : ℕ) (hi : Option ℕ) (ps : List Part) → Falls ps → Spread lo hi ps ⊑ PatternsOf w o (loop_of p all x lo hi ps)
      turns_from lo hi ps d s (n, r, l, u) =
          let qs = tidy p all hi ps in
          let f = has_free p qs in
          let rs = thin (drop_free p qs) in
          let i = tidy_from hi ps n u s r in
          let j = lower_from lo hi qs (tidy_falls hi ps d) f refl i.0 (n, i.1, l, u) in
          let k = end_from (lower_of f lo) hi rs (has_gap rs) refl j.0 j.1 in
          (k.0, k.1, on i.2 (on j.2 k.2))
