-- The reading of lines, one after another.
use Rattle.std.proofs.Common.{◌≡◌, ◌<◌, ◌≤◌, ◌++◌, ◌⊎◌, inl, inr, List, ℕ, length, [], ◌∷◌, arith, sym, refl, ap, ◌∙◌, subst, append-nil, append_assoc, Option, Some, None, slice_get}
use Rattle.msc_base.specs.declared.limits.TheConstants.Limits.{LINE_BYTES}
use Rattle.list_facts.proofs.Reading.{get_left}
use Rattle.event_log.specs.Meanings.{LineSays}
use Rattle.event_log.specs.RuledLogs.{Stage, After, BreaksLog, Passes, HasLineFault, too_long, of_meaning, PassesLines, Reaches}
use Rattle.event_log.specs.declared.event.LogFault.{LogFault}
use Rattle.event_log.specs.declared.event.LogForm.{LogForm}
use Rattle.event_log.specs.declared.event.Version.{Version}
use Rattle.event_log.specs.declared.line.Line.{Line}
use Rattle.event_log.specs.declared.line.Line.TheVariants.{Blank, VersionLine, Event, NoEvent}
use Rattle.event_log.proofs.Cuts.{LinesGrow, more_lines, longer_line}
use Rattle.event_log.specs.Rules.{Rules}

module _ {S E K : Type 0} (rules : Rules S E K) where
  -- a line says one thing
  one_meaning : (form : LogForm) (v : Version) (k : ℕ) (l : List ℕ) (m n : Line S) → LineSays rules form v k l m → LineSays rules form v k l n → m ≡ n
  one_meaning form v k l Blank Blank h g = refl
  one_meaning form v k l Blank (VersionLine o) h g = absurd (g.0 h)
  one_meaning form v k l Blank (Event a) h g = absurd (g.0 h)
  one_meaning form v k l Blank NoEvent h g = absurd (g.0 h)
  one_meaning form v k l (VersionLine o) Blank h g = absurd (h.0 g)
  one_meaning form v k l (Event a) Blank h g = absurd (h.0 g)
  one_meaning form v k l NoEvent Blank h g = absurd (h.0 g)
  one_meaning form v k l (VersionLine o) (VersionLine p) h g = ap (λ (x : Option Version). VersionLine x) (g.1.1.alone o h.1.1.holds)
  one_meaning form v k l (VersionLine o) (Event a) h g = absurd (g.1.0 h.1.0 o h.1.1.holds)
  one_meaning form v k l (VersionLine o) NoEvent h g = absurd (g.1.0 h.1.0 o h.1.1.holds)
  one_meaning form v k l (Event a) (VersionLine o) h g = absurd (h.1.0 g.1.0 o g.1.1.holds)
  one_meaning form v k l NoEvent (VersionLine o) h g = absurd (h.1.0 g.1.0 o g.1.1.holds)
  one_meaning form v k l (Event a) (Event b) h g = ap (λ (x : S). Event x) (g.1.1.alone a h.1.1.holds)
  one_meaning form v k l (Event a) NoEvent h g = absurd (g.1.1 a h.1.1.holds)
  one_meaning form v k l NoEvent (Event a) h g = absurd (h.1.1 a g.1.1.holds)
  one_meaning form v k l NoEvent NoEvent h g = refl

  one_after : (s : Stage E K) (m : Line S) (t u : Stage E K) → After rules s m t → After rules s m u → t ≡ u
  one_after s Blank t u h g = h ∙ sym g
  one_after s (VersionLine None) t u h g = absurd h
  one_after s (VersionLine (Some v)) t u h g = h ∙ sym g
  one_after s (Event a) t u h g = h.1 ∙ sym g.1
  one_after s NoEvent t u h g = absurd h

  one_break : (s : Stage E K) (m : Line S) (x y : LogFault) → BreaksLog rules s m x → BreaksLog rules s m y → x ≡ y
  one_break s Blank x y h g = absurd h
  one_break s (VersionLine None) x y h g = h ∙ sym g
  one_break s (VersionLine (Some v)) x y h g = absurd h
  one_break s (Event a) x y (inl h) (inl g) = h.1 ∙ sym g.1
  one_break s (Event a) x y (inl h) (inr g) = absurd (omega (arith, h.0, g.0))
  one_break s (Event a) x y (inr h) (inl g) = absurd (omega (arith, h.0, g.0))
  one_break s (Event a) x y (inr h) (inr g) = h.2 ∙ sym g.2
  one_break s NoEvent x y h g = h ∙ sym g

  after_or_break : (s : Stage E K) (m : Line S) (t : Stage E K) (x : LogFault) → After rules s m t → BreaksLog rules s m x → ⊥
  after_or_break s Blank t x h g = g
  after_or_break s (VersionLine None) t x h g = h
  after_or_break s (VersionLine (Some v)) t x h g = g
  after_or_break s (Event a) t x h (inl g) = omega (arith, h.0, g.0)
  after_or_break s (Event a) t x h (inr g) = g.1 h.2
  after_or_break s NoEvent t x h g = h

  pub one_pass : (form : LogForm) (s : Stage E K) (l : List ℕ) (t u : Stage E K) → Passes rules form s l t → Passes rules form s l u → t ≡ u
  one_pass form s l t u p q =
      one_after s q.meaning t u (subst (λ m. After rules s m t) (one_meaning form s.version s.number l p.meaning q.meaning p.says q.says) p.after) q.after

  pub pass_or_fault : (form : LogForm) (s : Stage E K) (l : List ℕ) (t : Stage E K) (x : LogFault) → Passes rules form s l t → HasLineFault rules form s l x → ⊥
  pass_or_fault form s l t x p (too_long lt e) = omega (arith, p.short)
  pass_or_fault form s l t x p (of_meaning le m says b) =
      after_or_break s m t x (subst (λ n. After rules s n t) (one_meaning form s.version s.number l p.meaning m p.says says) p.after) b

  pub one_line_fault : (form : LogForm) (s : Stage E K) (l : List ℕ) (x y : LogFault) → HasLineFault rules form s l x → HasLineFault rules form s l y → x ≡ y
  one_line_fault form s l x y (too_long lt e) (too_long gt f) = e ∙ sym f
  one_line_fault form s l x y (too_long lt e) (of_meaning le m says b) = absurd (omega arith)
  one_line_fault form s l x y (of_meaning le m says b) (too_long gt f) = absurd (omega arith)
  one_line_fault form s l x y (of_meaning le m says b) (of_meaning ge n tells c) =
      one_break s n x y (subst (λ k. BreaksLog rules s k x) (one_meaning form s.version s.number l m n says tells) b) c

  -- lines are read in one way
  pub record SameEnd (t u : Stage E K) (found other : Option LogFault) : Type 0 where
    pub stage : t ≡ u
    pub found_is : found ≡ other

  pub one_reading : (form : LogForm) (s : Stage E K) (ls : List (List ℕ)) (t u : Stage E K) (x y : Option LogFault) → PassesLines rules form s ls t x → PassesLines rules form s ls u y → SameEnd t u x y
  one_reading form s [] t u x y h g = record { stage = h.0 ∙ sym g.0; found_is = h.1 ∙ sym g.1 }
  one_reading form s (l ∷ ls) t u x y (inl h) (inl g) =
      one_reading form g.0 ls t u x y (subst (λ m. PassesLines rules form m ls t x) (one_pass form s l h.0 g.0 h.1 g.1) h.2) g.2
  one_reading form s (l ∷ ls) t u x y (inl h) (inr g) = absurd (pass_or_fault form s l h.0 g.1.0 h.1 g.1.2)
  one_reading form s (l ∷ ls) t u x y (inr h) (inl g) = absurd (pass_or_fault form s l g.0 h.1.0 g.1 h.1.2)
  one_reading form s (l ∷ ls) t u x y (inr h) (inr g) = record {
    stage = h.0 ∙ sym g.0;
    found_is = h.1.1 ∙ ap (λ (z : LogFault). Some z) (one_line_fault form s l h.1.0 g.1.0 h.1.2 g.1.2) ∙ sym g.1.1;
  }

  -- a reading goes on
  pub reading_on : (form : LogForm) (s : Stage E K) (ls ks : List (List ℕ)) (t u : Stage E K) (x : Option LogFault) → PassesLines rules form s ls t None → PassesLines rules form t ks u x → PassesLines rules form s (ls ++ ks) u x
  reading_on form s [] ks t u x h g = subst (λ m. PassesLines rules form m ks u x) h.0 g
  reading_on form s (l ∷ ls) ks t u x (inl h) g = inl (h.0, h.1, reading_on form h.0 ls ks t u x h.2 g)
  reading_on form s (l ∷ ls) ks t u x (inr h) g = let none : None ≡ Some h.1.0 = h.1.1 in cc

  one_more : (form : LogForm) (t u : Stage E K) (l : List ℕ) → Passes rules form t l u → PassesLines rules form t (l ∷ []) u None
  one_more form t u l p = inl (u, p, (refl, refl))

  pub reading_pass : (form : LogForm) (s : Stage E K) (ls : List (List ℕ)) (l : List ℕ) (t u : Stage E K) → PassesLines rules form s ls t None → Passes rules form t l u → PassesLines rules form s (ls ++ l ∷ []) u None
  reading_pass form s ls l t u h p = reading_on form s ls (l ∷ []) t u None h (one_more form t u l p)

  pub reading_fault : (form : LogForm) (s : Stage E K) (ls : List (List ℕ)) (l : List ℕ) (t : Stage E K) (x : LogFault) → PassesLines rules form s ls t None → HasLineFault rules form t l x → PassesLines rules form s (ls ++ l ∷ []) t (Some x)
  reading_fault form s ls l t x h f = reading_on form s ls (l ∷ []) t t (Some x) h (inr (refl, (x, refl, f)))

  -- a line that is too long has the fault of any longer one
  longer_fault : (form : LogForm) (s : Stage E K) (l k : List ℕ) (x : LogFault) → LINE_BYTES < length l → length l ≤ length k → HasLineFault rules form s l x → HasLineFault rules form s k x
  longer_fault form s l k x lt le (too_long gt e) = too_long (omega arith) e
  longer_fault form s l k x lt le (of_meaning short m says b) = absurd (omega arith)

  reading_stays : (form : LogForm) (s : Stage E K) (ls ks : List (List ℕ)) (t : Stage E K) (x : LogFault) → PassesLines rules form s ls t (Some x) → PassesLines rules form s (ls ++ ks) t (Some x)
  reading_stays form s [] ks t x h = let some : Some x ≡ None = h.1 in cc
  reading_stays form s (l ∷ ls) ks t x (inl h) = inl (h.0, h.1, reading_stays form h.0 ls ks t x h.2)
  reading_stays form s (l ∷ ls) ks t x (inr h) = inr h

  reading_longer : (form : LogForm) (s : Stage E K) (prefix : List (List ℕ)) (l k : List ℕ) (more : List (List ℕ)) (t : Stage E K) (x : LogFault) → LINE_BYTES < length l → length l ≤ length k
      → PassesLines rules form s (prefix ++ l ∷ []) t (Some x) → PassesLines rules form s (prefix ++ k ∷ more) t (Some x)
  reading_longer form s [] l k more t x lt le (inl h) = absurd (omega (arith, h.1.short))
  reading_longer form s [] l k more t x lt le (inr h) = inr (h.0, (h.1.0, h.1.1, longer_fault form s l k h.1.0 lt le h.1.2))
  reading_longer form s (f ∷ prefix) l k more t x lt le (inl h) = inl (h.0, h.1, reading_longer form h.0 prefix l k more t x lt le h.2)
  reading_longer form s (f ∷ prefix) l k more t x lt le (inr h) = inr h

  -- a fault that was found is found in any lines to which these grow
  pub fault_stays : (form : LogForm) (s : Stage E K) (ls ks : List (List ℕ)) (t : Stage E K) (x : LogFault) → LinesGrow ls ks → PassesLines rules form s ls t (Some x) → PassesLines rules form s ks t (Some x)
  fault_stays form s ls ks t x (more_lines more are) h = subst (λ js. PassesLines rules form s js t (Some x)) (sym are) (reading_stays form s ls more t x h)
  fault_stays form s ls ks t x (longer_line prefix l k more is are lt le) h =
      subst (λ js. PassesLines rules form s js t (Some x)) (sym are) (reading_longer form s prefix l k more t x lt le (subst (λ js. PassesLines rules form s js t (Some x)) is h))

  -- what is reached
  pub reaches_here : (form : LogForm) (s : Stage E K) (ls : List (List ℕ)) → Reaches rules form s ls s
  reaches_here form s [] = refl
  reaches_here form s (l ∷ ls) = inl refl

  pub reading_reaches : (form : LogForm) (s : Stage E K) (ls ks : List (List ℕ)) (t : Stage E K) (x : Option LogFault) → PassesLines rules form s ls t x → Reaches rules form s (ls ++ ks) t
  reading_reaches form s [] ks t x h = subst (λ u. Reaches rules form s ks u) (sym h.0) (reaches_here form s ks)
  reading_reaches form s (l ∷ ls) ks t x (inl h) = inr (h.0, h.1, reading_reaches form h.0 ls ks t x h.2)
  reading_reaches form s (l ∷ ls) ks t x (inr h) = inl h.0

  reaches_more : (form : LogForm) (s : Stage E K) (ls ks : List (List ℕ)) (t : Stage E K) → Reaches rules form s ls t → Reaches rules form s (ls ++ ks) t
  reaches_more form s [] ks t h = subst (λ u. Reaches rules form s ks u) (sym h) (reaches_here form s ks)
  reaches_more form s (l ∷ ls) ks t (inl h) = inl h
  reaches_more form s (l ∷ ls) ks t (inr h) = inr (h.0, h.1, reaches_more form h.0 ls ks t h.2)

  reaches_longer : (form : LogForm) (s : Stage E K) (prefix : List (List ℕ)) (l : List ℕ) (ks : List (List ℕ)) (t : Stage E K) → LINE_BYTES < length l → Reaches rules form s (prefix ++ l ∷ []) t → Reaches rules form s (prefix ++ ks) t
  reaches_longer form s [] l ks t lt (inl h) = subst (λ u. Reaches rules form s ks u) (sym h) (reaches_here form s ks)
  reaches_longer form s [] l ks t lt (inr h) = absurd (omega (arith, h.1.short))
  reaches_longer form s (f ∷ prefix) l ks t lt (inl h) = inl h
  reaches_longer form s (f ∷ prefix) l ks t lt (inr h) = inr (h.0, h.1, reaches_longer form h.0 prefix l ks t lt h.2)

  pub reach_stays : (form : LogForm) (s : Stage E K) (ls ks : List (List ℕ)) (t : Stage E K) → LinesGrow ls ks → Reaches rules form s ls t → Reaches rules form s ks t
  reach_stays form s ls ks t (more_lines more are) h = subst (λ js. Reaches rules form s js t) (sym are) (reaches_more form s ls more t h)
  reach_stays form s ls ks t (longer_line prefix l k more is are lt le) h =
      subst (λ js. Reaches rules form s js t) (sym are) (reaches_longer form s prefix l (k ∷ more) t lt (subst (λ js. Reaches rules form s js t) is h))

  -- the events of a stage go on with those of a later one
  pub record GoesOn (es ds : List E) : Type 0 where
    pub more : List E
    pub are : ds ≡ es ++ more

  here : (es : List E) → GoesOn es es
  here es = record { more = []; are = sym (append-nil es) }

  after_goes_on : (s : Stage E K) (m : Line S) (t : Stage E K) → After rules s m t → GoesOn s.events t.events
  after_goes_on s Blank t h = record { more = []; are = ap (λ (u : Stage E K). u.events) h ∙ sym (append-nil s.events) }
  after_goes_on s (VersionLine None) t h = absurd h
  after_goes_on s (VersionLine (Some v)) t h = record { more = []; are = ap (λ (u : Stage E K). u.events) h ∙ sym (append-nil s.events) }
  after_goes_on s (Event a) t h = record { more = rules.event_at a s.number ∷ []; are = ap (λ (u : Stage E K). u.events) h.1 }
  after_goes_on s NoEvent t h = absurd h

  along : (es ds cs : List E) → GoesOn es ds → GoesOn ds cs → GoesOn es cs
  along es ds cs h g = record { more = h.more ++ g.more; are = g.are ∙ ap (λ (xs : List E). xs ++ g.more) h.are ∙ append_assoc es h.more g.more }

  reading_goes_on : (form : LogForm) (s : Stage E K) (ls : List (List ℕ)) (t : Stage E K) (x : Option LogFault) → PassesLines rules form s ls t x → GoesOn s.events t.events
  reading_goes_on form s [] t x h = subst (λ (u : Stage E K). GoesOn s.events u.events) (sym h.0) (here s.events)
  reading_goes_on form s (l ∷ ls) t x (inl h) = along s.events h.0.events t.events (after_goes_on s h.1.meaning h.0 h.1.after) (reading_goes_on form h.0 ls t x h.2)
  reading_goes_on form s (l ∷ ls) t x (inr h) = subst (λ (u : Stage E K). GoesOn s.events u.events) (sym h.0) (here s.events)

  -- what is reached goes on with what is read
  pub reached_first : (form : LogForm) (s : Stage E K) (ls : List (List ℕ)) (t u : Stage E K) (x : Option LogFault) → PassesLines rules form s ls t x → Reaches rules form s ls u → GoesOn u.events t.events
  reached_first form s [] t u x h g = subst (λ (v : Stage E K). GoesOn v.events t.events) (sym g) (reading_goes_on form s [] t x h)
  reached_first form s (l ∷ ls) t u x h (inl g) = subst (λ (v : Stage E K). GoesOn v.events t.events) (sym g) (reading_goes_on form s (l ∷ ls) t x h)
  reached_first form s (l ∷ ls) t u x (inl h) (inr g) =
      reached_first form g.0 ls t u x (subst (λ m. PassesLines rules form m ls t x) (one_pass form s l h.0 g.0 h.1 g.1) h.2) g.2
  reached_first form s (l ∷ ls) t u x (inr h) (inr g) = absurd (pass_or_fault form s l g.0 h.1.0 g.1 h.1.2)

  reaches_goes_on : (form : LogForm) (s : Stage E K) (ls : List (List ℕ)) (u : Stage E K) → Reaches rules form s ls u → GoesOn s.events u.events
  reaches_goes_on form s [] u h = subst (λ (v : Stage E K). GoesOn s.events v.events) (sym h) (here s.events)
  reaches_goes_on form s (l ∷ ls) u (inl h) = subst (λ (v : Stage E K). GoesOn s.events v.events) (sym h) (here s.events)
  reaches_goes_on form s (l ∷ ls) u (inr h) = along s.events h.0.events u.events (after_goes_on s h.1.meaning h.0 h.1.after) (reaches_goes_on form h.0 ls u h.2)

  -- of two stages that are reached, the one goes on with the other
  pub reached_both : (form : LogForm) (s : Stage E K) (ls : List (List ℕ)) (t u : Stage E K) → Reaches rules form s ls t → Reaches rules form s ls u → GoesOn t.events u.events ⊎ GoesOn u.events t.events
  reached_both form s [] t u h g = inl (subst (λ (v : Stage E K). GoesOn v.events u.events) (sym h) (reaches_goes_on form s [] u g))
  reached_both form s (l ∷ ls) t u (inl h) g = inl (subst (λ (v : Stage E K). GoesOn v.events u.events) (sym h) (reaches_goes_on form s (l ∷ ls) u g))
  reached_both form s (l ∷ ls) t u (inr h) (inl g) = inr (subst (λ (v : Stage E K). GoesOn v.events t.events) (sym g) (reaches_goes_on form s (l ∷ ls) t (inr h)))
  reached_both form s (l ∷ ls) t u (inr h) (inr g) =
      reached_both form g.0 ls t u (subst (λ m. Reaches rules form m ls t) (one_pass form s l h.0 g.0 h.1 g.1) h.2) g.2

  pub at_going_on : (es ds : List E) (n : ℕ) (e : E) → GoesOn es ds → slice_get es n ≡ Some e → slice_get ds n ≡ Some e
  at_going_on es ds n e g h = ap (λ (xs : List E). slice_get xs n) g.are ∙ get_left es g.more n e h
