-- From an account of a loop in normal form to an account of the row that it was made of.
use Rattle.std.specs.Prelude.{ℕ, zero, suc, ◌≤◌, ◌==◌, length, Bool, true, false, List, [], ◌∷◌, ◌≡◌, ◌⊎◌, Option, Some, None, refl}
use Rattle.std.proofs.Common.{ap, arith, inl, inr}
use Rattle.std.proofs.lemmas.Bool.{eq-eqb, or_cases}
use Rattle.msc_base.specs.Patterns.{seq, empty, join}
use Rattle.chart_term.specs.NormalForms.{only, cut, cut_gaps, put_turn, drop_nil, only_turns, at_zero, live_gap, live, is_nil, has_free, free_gap, drop_free, lower_of, thin_gap, thin, has_gap, begun, turns_form, loop_of, join_all}
use Rattle.chart_term.specs.TermMeanings.{NetTerms, UpTo, HasPattern, holds_loop, HasRow, gaps_end, gaps_turn, gaps_shut, gaps_more, Leaves}
use Rattle.chart_term.specs.TermPatterns.{Shape, Avoids, HasNoEvent, ◌≈◌, same, back, on, in_join, left}
use Rattle.chart_term.specs.Terms.{TermEvent, Tree, Nil, Event, Join, Choice, Tied, Loop, Walk, Part, Gap, Turn, row_of}
use Rattle.chart_term.proofs.Lists.{parts-row_of}
use Rattle.chart_term.proofs.Looping.{IsSubRow, sub_end, sub_gap, sub_drop, sub_turn, sub_over, sub_nil, sub_zero, sub_live, sub_free}
use Rattle.chart_term.proofs.Running.{no_event}
use Rattle.chart_term.proofs.Walking.{some_empty}
use Rattle.term_laws.specs.Taking.{HasGap}
use Rattle.term_laws.proofs.Keeping.{sub_thin}
use Rattle.certificates.specs.Certificates.{HasEmpty}
use Rattle.certificates.proofs.Places.{some_same}
use Rattle.certificate_accounts.specs.Accounts.{Account, Accounts, RowAccount, Tells, tells_nothing, tells_row, TellsAll, tells_none, tells_part, TellsRow, tells_over, tells_turn, tells_shut, tells_more}
use Rattle.certificate_accounts.specs.JoinsBack.{parts_back}
use Rattle.certificate_accounts.specs.RowsBack.{Mark, kept, gone, done, row_back, over_mark, over_marks, all_kept, gaps_gone, zero_marks, live_mark, live_marks, free_mark, free_marks, thin_mark, thin_marks, turns_row, nothing_row, how_long, where_fitting, row_in, end_back, loop_back}
use Rattle.certificate_accounts.proofs.JoinsBack.{parts_back_tells, nil_empty}

module _ (w : NetTerms) (ev : ℕ → TermEvent) (x : Tree) where
  -- an account of the second row from one of the first
  abbrev pub RowStep : List Mark → List Part → List Part → Type 0
  RowStep ms ps qs = (b : RowAccount) (n : ℕ) (s : Shape) → TellsRow w ev x ps b n s → (t : Shape) × TellsRow w ev x qs (row_back ms b) n t × (s ≈ t)

  abbrev pub EasesTold : List ℕ → List ℕ → Type 0
  EasesTold c d = (a : Account) (s : Shape) → Tells w ev x a s → Avoids (only c) s → Avoids (only d) s

  gap_kept : (ms : List Mark) (c d : List ℕ) (ps qs : List Part) → EasesTold c d → RowStep ms ps qs → RowStep (kept ∷ ms) (Gap c ∷ ps) (Gap d ∷ qs)
  gap_kept ms c d ps qs e f b n s (tells_shut r) = let k = f _ n s r in (k.0, tells_shut k.1, k.2)
  gap_kept ms c d ps qs e f b (suc n) s (tells_more h av r) = let k = gap_kept ms c d ps qs e f _ n _ r in (_, tells_more h (e _ _ h av) k.1, in_join same k.2)

  turn_kept : (ms : List Mark) (y : Tree) (ps qs : List Part) → RowStep ms ps qs → RowStep (kept ∷ ms) (Turn y ∷ ps) (Turn y ∷ qs)
  turn_kept ms y ps qs f b n s (tells_turn h r) = let k = f _ n _ r in (_, tells_turn h k.1, in_join same k.2)

  gap_gone : (ms : List Mark) (c : List ℕ) (ps qs : List Part) → RowStep ms ps qs → RowStep (gone ∷ ms) ps (Gap c ∷ qs)
  gap_gone ms c ps qs f b n s r = let k = f b n s r in (k.0, tells_shut k.1, k.2)

  turn_done : (ms : List Mark) (ps qs : List Part) → RowStep ms ps qs → RowStep (done ∷ ms) ps (Turn Nil ∷ qs)
  turn_done ms ps qs f b n s r = let k = f b n s r in (_, tells_turn (tells_nothing (nil_empty w ev)) k.1, on k.2 (back left))

  none_kept : RowStep [] [] []
  none_kept b n s r = (s, r, same)

  as_is : (ps : List Part) → RowStep (all_kept ps) ps ps
  as_is [] = none_kept
  as_is (Gap c ∷ ps) = gap_kept (all_kept ps) c c ps ps (λ a s h k. k) (as_is ps)
  as_is (Turn y ∷ ps) = turn_kept (all_kept ps) y ps ps (as_is ps)

  put_back : (y : Tree) (ms : List Mark) (ps qs : List Part) → RowStep ms ps qs → RowStep (over_mark y ∷ ms) (put_turn y ps) (Turn y ∷ qs)
  put_back Nil ms ps qs f = turn_done ms ps qs f
  put_back (Event e) ms ps qs f = turn_kept ms (Event e) ps qs f
  put_back (Join m xs) ms ps qs f = turn_kept ms (Join m xs) ps qs f
  put_back (Choice xs) ms ps qs f = turn_kept ms (Choice xs) ps qs f
  put_back (Tied y q) ms ps qs f = turn_kept ms (Tied y q) ps qs f
  put_back (Loop y lo hi r) ms ps qs f = turn_kept ms (Loop y lo hi r) ps qs f
  put_back (Walk n g t c) ms ps qs f = turn_kept ms (Walk n g t c) ps qs f

  over_back : (ps : List Part) → RowStep (over_marks ps) (drop_nil ps) ps
  over_back [] = none_kept
  over_back (Gap c ∷ ps) = gap_kept (over_marks ps) c c (drop_nil ps) ps (λ a s h k. k) (over_back ps)
  over_back (Turn y ∷ ps) = put_back y (over_marks ps) (drop_nil ps) ps (over_back ps)

  only_back : (ps : List Part) → RowStep (gaps_gone ps) (only_turns ps) ps
  only_back [] = none_kept
  only_back (Gap c ∷ ps) = gap_gone (gaps_gone ps) c (only_turns ps) ps (only_back ps)
  only_back (Turn y ∷ ps) = turn_kept (gaps_gone ps) y (only_turns ps) ps (only_back ps)

  zero_back : (hi : Option ℕ) (ps : List Part) → RowStep (zero_marks hi ps) (at_zero hi ps) ps
  zero_back None ps = as_is ps
  zero_back (Some zero) ps = only_back ps
  zero_back (Some (suc n)) ps = as_is ps

  live_back_gap : (r : Option Tree) (c : List ℕ) (ms : List Mark) (ps qs : List Part) → RowStep ms ps qs → RowStep (live_mark r ∷ ms) (live_gap r c ps) (Gap c ∷ qs)
  live_back_gap None c ms ps qs f = gap_gone ms c ps qs f
  live_back_gap (Some y) c ms ps qs f = gap_kept ms c c ps qs (λ a s h k. k) f

  live_back : (p : List ℕ → Option Tree) (ps : List Part) → RowStep (live_marks p ps) (live p ps) ps
  live_back p [] = none_kept
  live_back p (Gap c ∷ ps) = live_back_gap (p c) c (live_marks p ps) (live p ps) ps (live_back p ps)
  live_back p (Turn y ∷ ps) = turn_kept (live_marks p ps) y (live p ps) ps (live_back p ps)

  free_back_gap : (t : Bool) (c : List ℕ) (ms : List Mark) (ps qs : List Part) → RowStep ms ps qs → RowStep (free_mark t ∷ ms) (free_gap t c ps) (Gap c ∷ qs)
  free_back_gap true c ms ps qs f = gap_gone ms c ps qs f
  free_back_gap false c ms ps qs f = gap_kept ms c c ps qs (λ a s h k. k) f

  free_back : (p : List ℕ → Option Tree) (ps : List Part) → RowStep (free_marks p ps) (drop_free p ps) ps
  free_back p [] = none_kept
  free_back p (Gap c ∷ ps) = free_back_gap (is_nil (p c)) c (free_marks p ps) (drop_free p ps) ps (free_back p ps)
  free_back p (Turn y ∷ ps) = turn_kept (free_marks p ps) y (drop_free p ps) ps (free_back p ps)

  thin_back_gap : (c : List ℕ) (rs : List Part) (ms : List Mark) (qs : List Part) → RowStep ms rs qs → RowStep (thin_mark rs ∷ ms) (thin_gap c rs) (Gap c ∷ qs)
  thin_back_gap c [] ms qs f = gap_kept ms c c [] qs (λ a s h k. k) f
  thin_back_gap c (Gap d ∷ rs) ms qs f = gap_gone ms c (Gap d ∷ rs) qs f
  thin_back_gap c (Turn y ∷ rs) ms qs f = gap_kept ms c c (Turn y ∷ rs) qs (λ a s h k. k) f

  thin_back : (ps : List Part) → RowStep (thin_marks ps) (thin ps) ps
  thin_back [] = none_kept
  thin_back (Gap c ∷ ps) = thin_back_gap c (thin ps) (thin_marks ps) ps (thin_back ps)
  thin_back (Turn y ∷ ps) = turn_kept (thin_marks ps) y (thin ps) ps (thin_back ps)

  -- blocks that were cut
  cut_gap : (c d : List ℕ) (ps qs : List Part) → EasesTold c d → ((b : RowAccount) (n : ℕ) (s : Shape) → TellsRow w ev x ps b n s → TellsRow w ev x qs b n s) → (b : RowAccount) (n : ℕ) (s : Shape) → TellsRow w ev x (Gap c ∷ ps) b n s → TellsRow w ev x (Gap d ∷ qs) b n s
  cut_gap c d ps qs e f b n s (tells_shut r) = tells_shut (f _ n s r)
  cut_gap c d ps qs e f b (suc n) s (tells_more h av r) = tells_more h (e _ _ h av) (cut_gap c d ps qs e f _ n _ r)

  cut_back : (all : List ℕ) → ((c : List ℕ) → EasesTold (cut all c) c) → (ps : List Part) (b : RowAccount) (n : ℕ) (s : Shape) → TellsRow w ev x (cut_gaps all ps) b n s → TellsRow w ev x ps b n s
  cut_back all e [] b n s r = r
  cut_back all e (Gap c ∷ ps) b n s r = cut_gap (cut all c) c (cut_gaps all ps) ps (e c) (cut_back all e ps) b n s r
  cut_back all e (Turn y ∷ ps) b n s (tells_turn h r) = tells_turn h (cut_back all e ps _ n _ r)

  then_back : (ms ns : List Mark) (ps qs rs : List Part) → RowStep ms ps qs → RowStep ns qs rs → (b : RowAccount) (n : ℕ) (s : Shape) → TellsRow w ev x ps b n s → (t : Shape) × TellsRow w ev x rs (row_back ns (row_back ms b)) n t × (s ≈ t)
  then_back ms ns ps qs rs f g b n s r = let i = f b n s r in let j = g (row_back ms b) n i.0 i.1 in (j.0, j.1, on i.2 j.2)

  -- gaps are only dropped
  gap_before : {ps qs : List Part} → IsSubRow ps qs → HasGap ps → HasGap qs
  gap_before sub_end h = h
  gap_before (sub_gap s) h = tt
  gap_before (sub_drop s) h = tt
  gap_before (sub_turn s) h = gap_before s h
  gap_before (sub_over s) h = gap_before s h

  gap_before_cut : (all : List ℕ) (ps : List Part) → HasGap (cut_gaps all ps) → HasGap ps
  gap_before_cut all [] h = h
  gap_before_cut all (Gap c ∷ ps) h = tt
  gap_before_cut all (Turn y ∷ ps) h = gap_before_cut all ps h

  -- a row without events
  abbrev MayPad : ℕ → List Part → Type 0
  MayPad lo ps = (lo ≤ zero) ⊎ (HasGap ps × HasEmpty w x)

  -- an account without events, and turns without events where some are owed
  abbrev NothingTold : List Part → Type 0
  NothingTold ps = (lo n : ℕ) (s : Shape) → HasRow w false x ps n s → HasNoEvent s → lo ≤ n → (t : Shape) × TellsRow w ev x ps (nothing_row ps) zero t × (empty ≈ t) × MayPad lo ps

  padding_gap : (lo : ℕ) (c : List ℕ) (ps : List Part) → MayPad lo ps → MayPad lo (Gap c ∷ ps)
  padding_gap lo c ps (inl i) = inl i
  padding_gap lo c ps (inr i) = inr (tt, i.1)

  nothing_gap : (c : List ℕ) (ps : List Part) → NothingTold ps → NothingTold (Gap c ∷ ps)
  nothing_gap c ps f lo n s (gaps_shut r) h l = let (t, k, e, m) = f lo n s r h l in (t, tells_shut k, e, padding_gap lo c ps m)
  nothing_gap c ps f lo (suc n) s (gaps_more {s = u} a av r) h l = let (t, k, e, m) = nothing_gap c ps f zero n _ r h.1 (omega arith) in (t, k, e, inr (tt, record { pattern = u; has = a; none = h.0 }))

  nothing_told : (ps : List Part) → NothingTold ps
  nothing_told [] lo n s gaps_end h l = (empty, tells_over, same, inl l)
  nothing_told (Turn y ∷ ps) lo n s (gaps_turn {s = u} a r) h l =
      let (t, k, e, m) = nothing_told ps lo n _ r h.1 l in
      (join seq empty t, tells_turn (tells_nothing (record { pattern = u; has = a; none = h.0 })) k, on e (back left), m)
  nothing_told (Gap c ∷ ps) lo n s r h l = nothing_gap c ps (nothing_told ps) lo n s r h l

  -- begun turns, side by side in a row
  turns_back : (ps : List Part) (us : Accounts) (s : Shape) → has_gap ps ≡ false → TellsAll w ev seq (begun ps) us s → TellsRow w ev x ps (turns_row ps us) zero s
  turns_back [] us s h tells_none = tells_over
  turns_back (Gap c ∷ ps) us s h r = cc
  turns_back (Turn y ∷ ps) us s h (tells_part a r) = tells_turn a (turns_back ps _ _ h r)

  up_zero : (hi : Option ℕ) → UpTo hi zero
  up_zero None = tt
  up_zero (Some m) = omega arith

  -- so many turns, and turns without events where more are owed
  pub record TellsCounted (lo : ℕ) (hi : Option ℕ) (ps : List Part) (b : RowAccount) (s : Shape) : Type 0 where
    pub turns : ℕ
    pub pattern : Shape
    pub tells : TellsRow w ev x ps b turns pattern
    pub upper : UpTo hi turns
    pub lower : (lo ≤ turns) ⊎ (HasGap ps × HasEmpty w x)
    pub same_as : s ≈ pattern

  -- an account that tells a pattern of a row is as long as the row
  told_long : (ps : List Part) (b : RowAccount) (n : ℕ) (s : Shape) → TellsRow w ev x ps b n s → how_long b ≡ length ps
  told_long [] b n s tells_over = refl
  told_long (Turn y ∷ ps) b n s (tells_turn h r) = ap suc (told_long ps _ n _ r)
  told_long (Gap c ∷ ps) b n s (tells_shut r) = ap suc (told_long ps _ n s r)
  told_long (Gap c ∷ ps) b (suc n) s (tells_more h av r) = told_long (Gap c ∷ ps) _ n _ r

  told_fitting : (ps : List Part) (b : RowAccount) (n : ℕ) (s : Shape) → TellsRow w ev x ps b n s → TellsRow w ev x ps (where_fitting (how_long b == length ps) ps b) n s
  told_fitting ps b n s r = go (how_long b == length ps) (eq-eqb (how_long b) (length ps) (told_long ps b n s r))
    where
      go : (t : Bool) → t ≡ true → TellsRow w ev x ps (where_fitting t ps b) n s
      go true e = r
      go false e = cc

  loop_end : (lo : ℕ) (hi : Option ℕ) (rs : List Part) (a : Account) (s : Shape) → Tells w ev (Loop x lo hi (row_of rs)) a s → TellsCounted lo hi rs (row_in rs a) s
  loop_end lo hi rs a s (tells_row {b = b} n c r u l) = record { turns = n; pattern = s; tells = told_fitting rs b n s (rw (parts-row_of rs) at r); upper = u; lower = rw (parts-row_of rs) at l; same_as = same }
  loop_end lo hi rs a s (tells_nothing h) = go h.pattern h.has h.none
    where
      go : (u : Shape) → HasPattern w false (Loop x lo hi (row_of rs)) u → HasNoEvent u → TellsCounted lo hi rs (nothing_row rs) empty
      go u (holds_loop n r l g) v =
          let (t, k, e, m) = nothing_told rs lo n u (rw (parts-row_of rs) at r) v l in
          record { turns = zero; pattern = t; tells = k; upper = up_zero hi; lower = m; same_as = e }

  end_told : (lo : ℕ) (hi : Option ℕ) (rs : List Part) (t : Bool) → has_gap rs ≡ t → (z : Tree) → turns_form t x lo hi rs ≡ Some z → (a : Account) (s : Shape) → Tells w ev z a s → TellsCounted lo hi rs (end_back t rs a) s
  end_told lo hi rs true e z g a s h = loop_end lo hi rs a s (rw (← some_same (Loop x lo hi (row_of rs)) z g) at h)
  end_told zero hi rs false e z g a s h =
      let i = parts_back_tells w ev seq (begun rs) a s (rw (← some_same (join_all seq (begun rs)) z g) at h) in
      record { turns = zero; pattern = i.0; tells = turns_back rs (parts_back seq (begun rs) a) i.0 e i.1; upper = up_zero hi; lower = inl (omega arith); same_as = i.2 }
  end_told (suc lo) hi rs false e z g a s h = cc

  -- what permission leaves of the operand
  module _ (p : List ℕ → Option Tree) (holds : (c : List ℕ) → Leaves w false (only c) x (p c)) where
    empty_there : (c : List ℕ) → is_nil (p c) ≡ true → HasEmpty w x
    empty_there c e = let (s, a, av, i) = some_empty w false (only c) x (p c) (holds c) e in record { pattern = s; has = a; none = (no_event i).to tt }

    free_there : (ps : List Part) → has_free p ps ≡ true → HasGap ps × HasEmpty w x
    free_there [] h = cc
    free_there (Gap c ∷ ps) h = elim (or_cases (is_nil (p c)) (has_free p ps) h) [ inl e ↦ (tt, empty_there c e) | inr e ↦ (tt, (free_there ps e).1) ]
    free_there (Turn y ∷ ps) h = free_there ps h

    lowered : (lo n : ℕ) (qs rs : List Part) (t : Bool) → has_free p qs ≡ t → (HasGap rs → HasGap qs) → (lower_of t lo ≤ n) ⊎ (HasGap rs × HasEmpty w x) → (lo ≤ n) ⊎ (HasGap qs × HasEmpty w x)
    lowered lo n qs rs true e f l = inr (free_there qs e)
    lowered lo n qs rs false e f (inl l) = inl l
    lowered lo n qs rs false e f (inr l) = inr (f l.0, l.1)

    pub loop_told : (all : List ℕ) → ((c : List ℕ) → EasesTold (cut all c) c) → (lo : ℕ) (hi : Option ℕ) (ps : List Part) (z : Tree) → loop_of p all x lo hi ps ≡ Some z → (a : Account) (s : Shape) → Tells w ev z a s → TellsCounted lo hi ps (loop_back p all hi ps a) s
    loop_told all ease lo hi ps z g a s h =
        let cs = cut_gaps all ps in
        let ns = drop_nil cs in
        let zs = at_zero hi ns in
        let qs = live p zs in
        let fs = drop_free p qs in
        let rs = thin fs in
        let i = end_told (lower_of (has_free p qs) lo) hi rs (has_gap rs) refl z g a s h in
        let b = end_back (has_gap rs) rs a in
        let j = then_back (thin_marks fs) (free_marks p qs) rs fs qs (thin_back fs) (free_back p qs) b i.turns i.pattern i.tells in
        let c = row_back (free_marks p qs) (row_back (thin_marks fs) b) in
        let k = then_back (live_marks p zs) (zero_marks hi ns) qs zs ns (live_back p zs) (zero_back hi ns) c i.turns j.0 j.1 in
        let d = row_back (zero_marks hi ns) (row_back (live_marks p zs) c) in
        let l = over_back cs d i.turns k.0 k.1 in
        let m = lowered lo i.turns qs rs (has_free p qs) refl (λ v. gap_before (sub_free p qs) (gap_before (sub_thin fs) v)) i.lower in
        record {
          turns = i.turns;
          pattern = l.0;
          tells = cut_back all ease ps (row_back (over_marks cs) d) i.turns l.0 l.1;
          upper = i.upper;
          lower = elim m [ inl v ↦ inl v | inr v ↦ inr (gap_before_cut all ps (gap_before (sub_nil cs) (gap_before (sub_zero hi ns) (gap_before (sub_live p zs) v.0))), v.1) ];
          same_as = on {y = i.pattern} {z = l.0} i.same_as (on {y = j.0} {z = l.0} j.2 (on {y = k.0} {z = l.0} k.2 l.2));
        }
