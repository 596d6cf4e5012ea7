-- What a track has taken, before the first event and after each.
use Rattle.std.specs.Prelude.{ℕ, ◌+◌, ◌≡◌, ◌≤◌, ◌<◌, ◌⊎◌, true, false, List, [], ◌∷◌, ◌++◌, Option, Some, None, length, max, refl}
use Rattle.std.proofs.Common.{ap, sym, ◌∙◌, subst, arith, inl, inr, append_assoc, length-append}
use Rattle.std.proofs.lemmas.Bool.{cases_lt}
use Rattle.std.proofs.lemmas.List.{append-nil}
use Rattle.std.proofs.lemmas.Option.{none-some}
use Rattle.msc_base.specs.declared.label.Label.{Label}
use Rattle.msc_base.specs.declared.verdict.Verdict.{Verdict}
use Rattle.msc_base.specs.declared.verdict.Verdict.TheVariants.{Conforms, Fails, Early, TooLarge}
use Rattle.term_tables.specs.NetValues.{NetsValue}
use Rattle.chart_term.specs.Terms.{Tree, weight}
use Rattle.term_laws.specs.Listing.{set_weight}
use Rattle.msc_base.specs.Lists.{IsAmong}
use Rattle.list_facts.proofs.Joining.{not_nil}
use Rattle.line_events.specs.declared.event.LineEvent.{LineEvent}
use Rattle.trace_judge.specs.Logs.{labels_of, AreResiduals, WeighsWithin, WeighsMore}
use Rattle.trace_judge.specs.Sets.{SetValue, IsSoundFor, IsNextSet, PassBudget, HasEnding}
use Rattle.trace_judge.specs.Verdicts.{AreWithin, HasLeft, IsTermVerdict, Weighs, IsReached, by_front, by_none, IsLargest}
use Rattle.trace_judge.specs.Tracks.{TrackValue, IsGoing, IsSettled, Stands, Fed}
use Rattle.trace_judge.specs.Advances.{Advances, settled, risen}
use Rattle.trace_judge.specs.declared.advance.Outcome.{Outcome}
use Rattle.trace_judge.specs.declared.advance.Outcome.TheVariants.{Goes, Empties, Passes}
use Rattle.trace_judge.proofs.Prefixes.{IsCutAt, whole, within, cut_at, map_more}
use Rattle.trace_judge.proofs.SetLaws.{set_start, set_step, set_weighs}
use Rattle.trace_judge.proofs.VerdictLaws.{front_left, not_both}

nothing_in_front : (f : List LineEvent) (b : List LineEvent) → [] ≡ f ++ b → f ≡ []
nothing_in_front [] b e = refl
nothing_in_front (x ∷ f) b e = cc

module _ (v : NetsValue) (x : Tree) (budget : ℕ) where
  -- before the first event
  start_within : weight x ≤ budget → AreWithin v x budget []
  start_within l f b e = subst (λ (g : List LineEvent). WeighsWithin v x budget (labels_of g)) (sym (nothing_in_front f b e)) (record { set = x ∷ []; are = set_start v x; within = omega arith })

  start_largest : (n : ℕ) → weight x ≤ budget → n ≡ weight x → IsLargest v x budget [] n
  start_largest n l e = record {
    reached = by_front [] [] refl (record { within = start_within l; set = x ∷ []; are = set_start v x; is = omega arith });
    bound = λ f b m q w. let d : f ≡ [] = nothing_in_front f b q in let s = set_weighs v x [] w.set (x ∷ []) (subst (λ (g : List LineEvent). AreResiduals v x (labels_of g) w.set) d w.are) (set_start v x) in omega (arith, w.is, s);
  }

  start_above : budget < weight x → WeighsMore v x budget []
  start_above l = record { set = x ∷ []; are = set_start v x; above = omega arith }

  above_largest : budget < weight x → IsLargest v x budget [] 0
  above_largest l = record {
    reached = by_none (start_above l) refl;
    bound = λ f b m q w. absurd (not_both v x budget [] (w.within [] f refl) (start_above l));
  }

  module _ (events : List LineEvent) (e : LineEvent) where
    labels_more : labels_of (events ++ e ∷ []) ≡ labels_of events ++ e.label ∷ []
    labels_more = map_more (λ (d : LineEvent). d.label) events (e ∷ [])

    -- a settled verdict lasts
    lasts : (verdict : Verdict) → IsSettled v x budget events verdict → IsSettled v x budget (events ++ e ∷ []) verdict
    lasts (Conforms n) h = h
    lasts (Fails n k) h = record {
      ends = record {
        prefix = h.ends.prefix;
        at = h.ends.at;
        back = h.ends.back ++ e ∷ [];
        are = ap (λ (l : List LineEvent). l ++ e ∷ []) h.ends.are ∙ append_assoc h.ends.prefix (h.ends.at ∷ h.ends.back) (e ∷ []);
        number_is = h.ends.number_is;
        line_is = h.ends.line_is;
        begins = h.ends.begins;
        hopeless = h.ends.hopeless;
      };
      within = h.within;
    }
    lasts (Early n) h = h
    lasts (TooLarge n) h = record {
      prefix = h.prefix;
      back = h.back ++ e ∷ [];
      are = ap (λ (l : List LineEvent). l ++ e ∷ []) h.are ∙ append_assoc h.prefix h.back (e ∷ []);
      number_is = h.number_is;
      within = h.within;
      above = h.above;
    }

    -- the largest weight, where what is left after one event more weighs no more, or isn't looked at
    largest_lasts : (n : ℕ) → IsLargest v x budget events n → ((m : ℕ) → Weighs v x budget (events ++ e ∷ []) m → m ≤ n) → IsLargest v x budget (events ++ e ∷ []) n
    largest_lasts n h f = record { reached = reach h.reached; bound = λ prefix back m q w. bound prefix back m w (cut_at events e prefix back q) }
      where
        reach : IsReached v x budget events n → IsReached v x budget (events ++ e ∷ []) n
        reach (by_front prefix back q w) = by_front prefix (back ++ e ∷ []) (ap (λ (l : List LineEvent). l ++ e ∷ []) q ∙ append_assoc prefix back (e ∷ [])) w
        reach (by_none a z) = by_none a z

        bound : (prefix back : List LineEvent) (m : ℕ) → Weighs v x budget prefix m → IsCutAt events e prefix back → m ≤ n
        bound prefix back m w (whole q r) = f m (subst (λ (g : List LineEvent). Weighs v x budget g m) q w)
        bound prefix back m w (within rest q r) = h.bound prefix rest m q w

    -- one event more
    within_more : AreWithin v x budget events → WeighsWithin v x budget (labels_of (events ++ e ∷ [])) → AreWithin v x budget (events ++ e ∷ [])
    within_more h i prefix back q = go (cut_at events e prefix back q)
      where
        go : IsCutAt events e prefix back → WeighsWithin v x budget (labels_of prefix)
        go (whole p r) = subst (λ (g : List LineEvent). WeighsWithin v x budget (labels_of g)) (sym p) i
        go (within rest p r) = h prefix rest p

    largest_rises : (n m : ℕ) → IsLargest v x budget events n → Weighs v x budget (events ++ e ∷ []) m → IsLargest v x budget (events ++ e ∷ []) (max n m)
    largest_rises n m h w = record { reached = reach h.reached; bound = λ prefix back k q u. bound prefix back k u (cut_at events e prefix back q) }
      where
        which : (max n m ≡ n) ⊎ (max n m ≡ m)
        which = elim (cases_lt n m) [ inl l ↦ inr (omega arith) | inr l ↦ inl (omega arith) ]

        reach : IsReached v x budget events n → IsReached v x budget (events ++ e ∷ []) (max n m)
        reach r = elim which [ inl p ↦ old p r | inr p ↦ by_front (events ++ e ∷ []) [] (sym (append-nil (events ++ e ∷ []))) (record { within = w.within; set = w.set; are = w.are; is = p ∙ w.is }) ]
          where
            old : max n m ≡ n → IsReached v x budget events n → IsReached v x budget (events ++ e ∷ []) (max n m)
            old p (by_front prefix back q u) = by_front prefix (back ++ e ∷ []) (ap (λ (l : List LineEvent). l ++ e ∷ []) q ∙ append_assoc prefix back (e ∷ [])) (record { within = u.within; set = u.set; are = u.are; is = p ∙ u.is })
            old p (by_none a z) = by_none a (p ∙ z)

        bound : (prefix back : List LineEvent) (k : ℕ) → Weighs v x budget prefix k → IsCutAt events e prefix back → k ≤ max n m
        bound prefix back k u (whole q r) =
            let s = set_weighs v x (labels_of (events ++ e ∷ [])) u.set w.set (subst (λ (g : List LineEvent). AreResiduals v x (labels_of g) u.set) q u.are) w.are in
            omega (arith, u.is, w.is, s)
        bound prefix back k u (within rest q r) = omega (arith, h.bound prefix rest k q u)

    -- after a settled verdict nothing more is weighed
    settled_largest : (n : ℕ) (verdict : Verdict) → IsSettled v x budget events verdict → IsLargest v x budget events n → IsLargest v x budget (events ++ e ∷ []) n
    settled_largest n (Conforms k) s h = absurd s
    settled_largest n (Fails k l) s h = largest_lasts n h (λ m w. nothing m w w.set w.are refl)
      where
        gone : HasLeft v x (events ++ e ∷ []) → ⊥
        gone i =
            let q : events ++ e ∷ [] ≡ (s.ends.prefix ++ s.ends.at ∷ []) ++ (s.ends.back ++ e ∷ []) = ap (λ (l : List LineEvent). l ++ e ∷ []) (s.ends.are ∙ sym (append_assoc s.ends.prefix (s.ends.at ∷ []) s.ends.back)) ∙ append_assoc (s.ends.prefix ++ s.ends.at ∷ []) s.ends.back (e ∷ []) in
            s.ends.hopeless (front_left v x (s.ends.prefix ++ s.ends.at ∷ []) (s.ends.back ++ e ∷ []) (subst (HasLeft v x) q i))

        nothing : (m : ℕ) (w : Weighs v x budget (events ++ e ∷ []) m) (set : List Tree) → AreResiduals v x (labels_of (events ++ e ∷ [])) set → w.set ≡ set → m ≤ n
        nothing m w [] r q = let z : set_weight w.set ≡ 0 = ap set_weight q in omega (arith, w.is)
        nothing m w (y ∷ ys) r q = absurd (gone (record { term = y; left = (r.exact y).to (inl refl) }))
    settled_largest n (Early k) s h = absurd s
    settled_largest n (TooLarge k) s h = largest_lasts n h (λ m w. absurd (not_both v x budget (labels_of s.prefix) (w.within s.prefix (s.back ++ e ∷ []) (ap (λ (l : List LineEvent). l ++ e ∷ []) s.are ∙ append_assoc s.prefix s.back (e ∷ []))) s.above))

  -- what the events leave
  set_left : (events : List LineEvent) (set : List Tree) → AreResiduals v x (labels_of events) set → (set ≡ [] → ⊥) → HasLeft v x events
  set_left events [] r f = absurd (f refl)
  set_left events (y ∷ ys) r f = record { term = y; left = (r.exact y).to (inl refl) }

  set_gone : (events : List LineEvent) (set : List Tree) → AreResiduals v x (labels_of events) set → set ≡ [] → HasLeft v x events → ⊥
  set_gone events set r e h = subst (λ (s : List Tree). IsAmong s h.term) e ((r.exact h.term).from h.left)

module _ {S : Type 0} (holds : S → SetValue) (v : NetsValue) (x : Tree) (budget : ℕ) where
  pub new_fed : (s : S) (t : TrackValue S) (n : ℕ) → IsSoundFor v x → holds s ≡ record { terms = x ∷ []; budget = budget; too_large = false } → weight x ≤ budget → n ≡ set_weight (holds s).terms
      → t ≡ record { set = Some s; events = 0; ended = None; largest = n } → Fed holds v x budget [] t
  new_fed s t n h q l w e = subst (Fed holds v x budget []) (sym e) (record {
    sound = h;
    count = refl;
    stands = subst (IsGoing v x budget []) (sym q) (record { small = refl; budget_is = refl; are = set_start v x; some = λ z. cc; within = start_within v x budget l });
    without = record { to = λ z. absurd (none-some s (sym z)); from = λ z. absurd (omega arith) };
    largest = start_largest v x budget n l (let z : set_weight (holds s).terms ≡ set_weight (x ∷ []) = ap (λ (u : SetValue). set_weight u.terms) q in omega (arith, w));
  })

  pub new_large : (t : TrackValue S) → IsSoundFor v x → budget < weight x → t ≡ record { set = None; events = 0; ended = Some (TooLarge 0); largest = 0 } → Fed holds v x budget [] t
  new_large t h l e = subst (Fed holds v x budget []) (sym e) (record {
    sound = h;
    count = refl;
    stands = record { prefix = []; back = []; are = refl; number_is = refl; within = λ f at b q. absurd (not_nil f at b (sym q)); above = start_above v x budget l };
    without = record { to = λ z. l; from = λ z. refl };
    largest = above_largest v x budget l;
  })

  going_of : (events : List LineEvent) (set : Option S) (ended : Option Verdict) (s : S) → set ≡ Some s → ended ≡ None → Stands holds v x budget events set ended → IsGoing v x budget events (holds s)
  going_of events None ended s p q h = cc
  going_of events (Some t) None s p q h = let r : t ≡ s = cc in subst (λ (u : S). IsGoing v x budget events (holds u)) r h
  going_of events (Some t) (Some w) s p q h = cc

  module _ (events : List LineEvent) (e : LineEvent) where
    counted : (t : TrackValue S) (n : ℕ) → Fed holds v x budget events t → n ≡ t.events + 1 → n ≡ length (events ++ e ∷ [])
    counted t n f q = omega (arith, q, f.count, length-append events (e ∷ []))

    -- where a verdict is settled, an event is only counted
    pub take_settled : (old new : TrackValue S) (verdict : Verdict) → Fed holds v x budget events old → old.ended ≡ Some verdict → new ≡ record old { events = old.events + 1 } → Fed holds v x budget (events ++ e ∷ []) new
    take_settled old new verdict f q r = subst (Fed holds v x budget (events ++ e ∷ [])) (sym r) (record {
      sound = f.sound;
      count = counted old (old.events + 1) f refl;
      stands = stand old.set old.ended q f.stands;
      without = f.without;
      largest = settled_largest v x budget events e old.largest verdict (is_settled old.set old.ended q f.stands) f.largest;
    })
      where
        is_settled : (set : Option S) (ended : Option Verdict) → ended ≡ Some verdict → Stands holds v x budget events set ended → IsSettled v x budget events verdict
        is_settled set None q h = cc
        is_settled None (Some w) q h = let p : w ≡ verdict = cc in subst (IsSettled v x budget events) p h
        is_settled (Some s) (Some w) q h = let p : w ≡ verdict = cc in subst (IsSettled v x budget events) p h

        stand : (set : Option S) (ended : Option Verdict) → ended ≡ Some verdict → Stands holds v x budget events set ended → Stands holds v x budget (events ++ e ∷ []) set ended
        stand set None q h = cc
        stand None (Some w) q h = lasts v x budget events e w h
        stand (Some s) (Some w) q h = lasts v x budget events e w h

    next_are : (old new : SetValue) → IsGoing v x budget events old → IsNextSet v e.label old new → AreResiduals v x (labels_of (events ++ e ∷ [])) new.terms
    next_are old new g n = subst (λ (l : List Label). AreResiduals v x l new.terms) (sym (labels_more v x budget events e)) (set_step v x (labels_of events) e.label old.terms new.terms g.are n.terms)

    next_within : (old new : SetValue) → IsGoing v x budget events old → IsNextSet v e.label old new → AreWithin v x budget (events ++ e ∷ [])
    next_within old new g n = within_more v x budget events e g.within (record { set = new.terms; are = next_are old new g n; within = omega (arith, n.within, g.budget_is) })

    -- where none is settled, the set takes it
    pub take_going : (old new : TrackValue S) (s t : S) (outcome : Outcome) → Fed holds v x budget events old → old.ended ≡ None → old.set ≡ Some s → Advances v e.label (holds s) (holds t) outcome
        → new ≡ record { set = Some t; events = old.events + 1; ended = settled outcome (old.events + 1) e.line; largest = risen outcome old.largest } → Fed holds v x budget (events ++ e ∷ []) new
    take_going old new s t outcome f q p a r = subst (Fed holds v x budget (events ++ e ∷ [])) (sym r) (record {
      sound = f.sound;
      count = counted old (old.events + 1) f refl;
      stands = stand outcome a;
      without = record { to = λ z. absurd (none-some t (sym z)); from = λ l. absurd (none-some s (sym (sym p ∙ f.without.from l))) };
      largest = large outcome a;
    })
      where
        g : IsGoing v x budget events (holds s)
        g = going_of events old.set old.ended s p q f.stands

        stand : (o : Outcome) → Advances v e.label (holds s) (holds t) o → Stands holds v x budget (events ++ e ∷ []) (Some t) (settled o (old.events + 1) e.line)
        stand (Goes n) h = record { small = h.0.stays_small; budget_is = h.0.same_budget ∙ g.budget_is; are = next_are (holds s) (holds t) g h.0; some = h.1.0; within = next_within (holds s) (holds t) g h.0 }
        stand Empties h = record {
          ends = record {
            prefix = events;
            at = e;
            back = [];
            are = refl;
            number_is = ap (λ (n : ℕ). n + 1) f.count;
            line_is = refl;
            begins = set_left v x budget events (holds s).terms g.are g.some;
            hopeless = set_gone v x budget (events ++ e ∷ []) (holds t).terms (next_are (holds s) (holds t) g h.0) h.1;
          };
          within = g.within;
        }
        stand Passes h = record {
          prefix = events ++ e ∷ [];
          back = [];
          are = sym (append-nil (events ++ e ∷ []));
          number_is = counted old (old.events + 1) f refl;
          within = λ prefix at back z. before prefix at back (cut_at events e prefix (at ∷ back) z);
          above = passed h.why;
        }
          where
            before : (prefix : List LineEvent) (at : LineEvent) (back : List LineEvent) → IsCutAt events e prefix (at ∷ back) → WeighsWithin v x budget (labels_of prefix)
            before prefix at back (whole z y) = cc
            before prefix at back (within rest z y) = g.within prefix rest z

            passed : ((holds s).too_large ≡ true) ⊎ PassBudget v e.label (holds s).terms (holds s).budget → WeighsMore v x budget (labels_of (events ++ e ∷ []))
            passed (inl z) = let bad : false ≡ true = sym g.small ∙ z in cc
            passed (inr b) = record {
              set = b.next;
              are = subst (λ (l : List Label). AreResiduals v x l b.next) (sym (labels_more v x budget events e)) (set_step v x (labels_of events) e.label (holds s).terms b.next g.are b.are);
              above = omega (arith, b.above, g.budget_is);
            }

        large : (o : Outcome) → Advances v e.label (holds s) (holds t) o → IsLargest v x budget (events ++ e ∷ []) (risen o old.largest)
        large (Goes n) h = largest_rises v x budget events e old.largest n f.largest (record { within = next_within (holds s) (holds t) g h.0; set = (holds t).terms; are = next_are (holds s) (holds t) g h.0; is = h.1.1 })
        large Empties h = largest_lasts v x budget events e old.largest f.largest (λ m w.
            let z : set_weight (holds t).terms ≡ 0 = ap set_weight h.1 in
            let y = set_weighs v x (labels_of (events ++ e ∷ [])) w.set (holds t).terms w.are (next_are (holds s) (holds t) g h.0) in
            omega (arith, w.is))
        large Passes h = largest_lasts v x budget events e old.largest f.largest (λ m w. absurd (not_both v x budget (labels_of (events ++ e ∷ [])) (w.within (events ++ e ∷ []) [] (sym (append-nil (events ++ e ∷ [])))) (stand Passes h).above))

  -- the verdict
  pub verdict_settled : (events : List LineEvent) (t : TrackValue S) (verdict : Verdict) → Fed holds v x budget events t → t.ended ≡ Some verdict → IsTermVerdict v x budget events verdict
  verdict_settled events t verdict f q = go t.set t.ended q f.stands
    where
      as_verdict : (w : Verdict) → IsSettled v x budget events w → IsTermVerdict v x budget events w
      as_verdict (Conforms n) h = absurd h
      as_verdict (Fails n k) h = h
      as_verdict (Early n) h = absurd h
      as_verdict (TooLarge n) h = h

      go : (set : Option S) (ended : Option Verdict) → ended ≡ Some verdict → Stands holds v x budget events set ended → IsTermVerdict v x budget events verdict
      go set None q h = cc
      go None (Some w) q h = let p : w ≡ verdict = cc in subst (IsTermVerdict v x budget events) p (as_verdict w h)
      go (Some s) (Some w) q h = let p : w ≡ verdict = cc in subst (IsTermVerdict v x budget events) p (as_verdict w h)

  pub verdict_conforms : (events : List LineEvent) (t : TrackValue S) (s : S) → Fed holds v x budget events t → t.ended ≡ None → t.set ≡ Some s → HasEnding v (holds s).terms → IsTermVerdict v x budget events (Conforms t.events)
  verdict_conforms events t s f q p h =
      let g = going_of events t.set t.ended s p q f.stands in
      (f.count, g.within, record { term = h.term; left = (g.are.exact h.term).to h.held; ends = h.ends })

  pub verdict_early : (events : List LineEvent) (t : TrackValue S) (s : S) → Fed holds v x budget events t → t.ended ≡ None → t.set ≡ Some s → (HasEnding v (holds s).terms → ⊥) → IsTermVerdict v x budget events (Early t.events)
  verdict_early events t s f q p h =
      let g = going_of events t.set t.ended s p q f.stands in (
        f.count,
        g.within,
        record {
          begins = set_left v x budget events (holds s).terms g.are g.some;
          unfinished = λ e. h (record { term = e.term; held = (g.are.exact e.term).from e.left; ends = e.ends });
        },
      )

  -- without a set a verdict is settled
  pub none_settled : (events : List LineEvent) (t : TrackValue S) → Fed holds v x budget events t → t.ended ≡ None → t.set ≡ None → ⊥
  none_settled events t f q p = go t.set t.ended p q f.stands
    where
      go : (set : Option S) (ended : Option Verdict) → set ≡ None → ended ≡ None → Stands holds v x budget events set ended → ⊥
      go None None p q h = h
      go None (Some w) p q h = cc
      go (Some s) ended p q h = cc
