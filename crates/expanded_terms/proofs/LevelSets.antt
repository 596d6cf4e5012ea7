-- What each construct of a level makes of the unfoldings of its parts, as the sets of term_meaning.
use Rattle.std.specs.Prelude.{ℕ, ◌≤◌, ◌<◌, List, [], ◌∷◌, Some}
use Rattle.std.proofs.Common.{◌≡◌, ◌⊎◌, refl, sym, subst, ap, inl, inr, arith}
use Rattle.msc_base.specs.Patterns.{seq, par, empty, one, join}
use Rattle.msc_unfolding.specs.Unfoldings.{Unfolding}
use Rattle.chart_term.specs.TermPatterns.{Both}
use Rattle.msc_tree.specs.declared.reference.InlineForm.{InlineForm}
use Rattle.msc_tree.specs.declared.reference.InlineForm.TheVariants as inline
use Rattle.msc_meaning.specs.Bodies.{EventNode, InlinePart, Body, WovenItems, no_items, item_and, WovenItem, Single, Coregion, Inline, Refer, Bodies, no_bodies, body_and}
use Rattle.msc_meaning.specs.Tables.{Table}
use Rattle.msc_meaning.specs.InnerEvents.{GateEnd}
use Rattle.msc_meaning.specs.FarEnds.{Around, Gates, inside, happening}
use Rattle.msc_meaning.specs.Ties.{past_inline, passing}
use Rattle.msc_meaning.specs.ChartUnfoldings.{UpTo, OfEvents, no_event, event_and, OfLevel, OfItems, no_item, item_then, exception, no_exception, OfItem, single, coregion, inline_part, OfForm, alternative, taken, left_out, parallel, turns, no_turns, OfTurns, no_turn, turn_and, OfSome, this, that, OfAll, no_operand, operand_and}
use Rattle.term_meaning.specs.UnfoldingSets.{OnlyEmpty, OnlyEvent, AreJoined, joined, AreTied, tied, Either, AreRepeated, no_more, once_more, AreSomeOften}

pub along : (A : Unfolding → Type 0) (u v : Unfolding) → v ≡ u → A u → A v
along A u v e a = subst A (sym e) a

module _ (ends : List GateEnd) (around : Around) where
  pub events_none : (u : Unfolding) → Both (OnlyEmpty u) (OfEvents ends around [] u)
  events_none u = record { to = λ e. along (OfEvents ends around []) empty u e no_event; from = λ h. from u h }
    where
      from : (u : Unfolding) → OfEvents ends around [] u → u ≡ empty
      from _ no_event = refl

  pub events_more : (n : EventNode) (ns : List EventNode) (u : Unfolding) → Both (AreJoined par (OnlyEvent (happening ends around n)) (OfEvents ends around ns) u) (OfEvents ends around (n ∷ ns) u)
  events_more n ns u = record { to = λ h. to u h; from = λ h. from u h }
    where
      to : (u : Unfolding) → AreJoined par (OnlyEvent (happening ends around n)) (OfEvents ends around ns) u → OfEvents ends around (n ∷ ns) u
      to _ (joined {a = a} {b = b} e h) = along (λ x. OfEvents ends around (n ∷ ns) (join par x b)) (one (happening ends around n)) a e (event_and h)

      from : (u : Unfolding) → OfEvents ends around (n ∷ ns) u → AreJoined par (OnlyEvent (happening ends around n)) (OfEvents ends around ns) u
      from _ (event_and h) = joined refl h

module _ (table : Table) (gates : Gates) (around : Around) where
  pub items_none : (u : Unfolding) → Both (OnlyEmpty u) (OfItems table gates around no_items u)
  items_none u = record { to = λ e. along (OfItems table gates around no_items) empty u e no_item; from = λ h. from u h }
    where
      from : (u : Unfolding) → OfItems table gates around no_items u → u ≡ empty
      from _ no_item = refl

  -- an item that is no exception
  abbrev IsNoException : WovenItem → Type 0
  IsNoException (Inline form part operands) = form ≡ inline.Exc → ⊥
  IsNoException x = Unit {0}

  pub items_more : (x : WovenItem) (xs : WovenItems) → IsNoException x → (u : Unfolding) → Both (AreJoined seq (OfItem table gates around x) (OfItems table gates around xs) u) (OfItems table gates around (item_and x xs) u)
  items_more x xs n u = record { to = λ h. to u h; from = λ h. from x n u h }
    where
      to : (u : Unfolding) → AreJoined seq (OfItem table gates around x) (OfItems table gates around xs) u → OfItems table gates around (item_and x xs) u
      to _ (joined a b) = item_then a b

      from : (x : WovenItem) → IsNoException x → (u : Unfolding) → OfItems table gates around (item_and x xs) u → AreJoined seq (OfItem table gates around x) (OfItems table gates around xs) u
      from x n _ (item_then a b) = joined a b
      from _ n _ (exception h) = absurd (n refl)
      from _ n _ (no_exception h) = absurd (n refl)

  -- the same, said without looking into the item
  pub items_unless : (x : WovenItem) (xs : WovenItems) → ((part : InlinePart) (operands : Bodies) → x ≡ Inline inline.Exc part operands → ⊥)
      → (u : Unfolding) → Both (AreJoined seq (OfItem table gates around x) (OfItems table gates around xs) u) (OfItems table gates around (item_and x xs) u)
  items_unless x xs f u = items_more x xs (none_of x f) u
    where
      none_of : (x : WovenItem) → ((part : InlinePart) (operands : Bodies) → x ≡ Inline inline.Exc part operands → ⊥) → IsNoException x
      none_of (Inline form part operands) f = λ e. f part operands (ap (λ (k : InlineForm). Inline k part operands) e)
      none_of (Single n) f = tt
      none_of (Coregion ns) f = tt
      none_of (Refer part) f = tt

  pub items_exception : (part : InlinePart) (operand : Body) (xs : WovenItems) (u : Unfolding)
      → Both (Either (AreTied (OfLevel table (inside gates part.name around) operand) (passing (past_inline gates.calls part.name))) (OfItems table gates around xs) u)
      (OfItems table gates around (item_and (Inline inline.Exc part (body_and operand no_bodies)) xs) u)
  items_exception part operand xs u = record { to = λ h. to u h; from = λ h. from u h }
    where
      from : (u : Unfolding) → OfItems table gates around (item_and (Inline inline.Exc part (body_and operand no_bodies)) xs) u
          → AreTied (OfLevel table (inside gates part.name around) operand) (passing (past_inline gates.calls part.name)) u ⊎ OfItems table gates around xs u
      from _ (item_then (inline_part f) b) = elim f [ ]
      from _ (exception h) = inl (tied h)
      from u (no_exception h) = inr h

      to : (u : Unfolding) → AreTied (OfLevel table (inside gates part.name around) operand) (passing (past_inline gates.calls part.name)) u ⊎ OfItems table gates around xs u
          → OfItems table gates around (item_and (Inline inline.Exc part (body_and operand no_bodies)) xs) u
      to _ (inl (tied h)) = exception h
      to u (inr h) = no_exception h

  pub item_single : (n : EventNode) (u : Unfolding) → Both (OnlyEvent (happening gates.ends around n) u) (OfItem table gates around (Single n) u)
  item_single n u = record { to = λ e. along (OfItem table gates around (Single n)) (one (happening gates.ends around n)) u e single; from = λ h. from u h }
    where
      from : (u : Unfolding) → OfItem table gates around (Single n) u → u ≡ one (happening gates.ends around n)
      from _ single = refl

  pub item_coregion : (ns : List EventNode) (u : Unfolding) → Both (OfEvents gates.ends around ns u) (OfItem table gates around (Coregion ns) u)
  item_coregion ns u = record { to = λ h. coregion h; from = λ h. from u h }
    where
      from : (u : Unfolding) → OfItem table gates around (Coregion ns) u → OfEvents gates.ends around ns u
      from u (coregion h) = h

  pub item_inline : (form : InlineForm) (part : InlinePart) (operands : Bodies) (u : Unfolding)
      → Both (AreTied (OfForm table (inside gates part.name around) form part operands) (passing (past_inline gates.calls part.name)) u) (OfItem table gates around (Inline form part operands) u)
  item_inline form part operands u = record { to = λ h. to u h; from = λ h. from u h }
    where
      from : (u : Unfolding) → OfItem table gates around (Inline form part operands) u → AreTied (OfForm table (inside gates part.name around) form part operands) (passing (past_inline gates.calls part.name)) u
      from _ (inline_part h) = tied h

      to : (u : Unfolding) → AreTied (OfForm table (inside gates part.name around) form part operands) (passing (past_inline gates.calls part.name)) u → OfItem table gates around (Inline form part operands) u
      to _ (tied h) = inline_part h

module _ (table : Table) (around : Around) where
  pub form_alt : (part : InlinePart) (operands : Bodies) (u : Unfolding) → Both (OfSome table around operands u) (OfForm table around inline.Alt part operands u)
  form_alt part operands u = record { to = λ h. alternative h; from = λ h. from u h }
    where
      from : (u : Unfolding) → OfForm table around inline.Alt part operands u → OfSome table around operands u
      from u (alternative h) = h

  pub some_last : (operand : Body) (u : Unfolding) → Both (OfLevel table around operand u) (OfSome table around (body_and operand no_bodies) u)
  some_last operand u = record { to = λ h. this h; from = λ h. from u h }
    where
      from : (u : Unfolding) → OfSome table around (body_and operand no_bodies) u → OfLevel table around operand u
      from u (this h) = h
      from u (that h) = elim h [ ]

  pub some_more : (operand : Body) (others : Bodies) (u : Unfolding) → Both (Either (OfLevel table around operand) (OfSome table around others) u) (OfSome table around (body_and operand others) u)
  some_more operand others u = record { to = λ h. to u h; from = λ h. from u h }
    where
      from : (u : Unfolding) → OfSome table around (body_and operand others) u → OfLevel table around operand u ⊎ OfSome table around others u
      from u (this h) = inl h
      from u (that h) = inr h

      to : (u : Unfolding) → OfLevel table around operand u ⊎ OfSome table around others u → OfSome table around (body_and operand others) u
      to u (inl h) = this h
      to u (inr h) = that h

  pub form_opt : (part : InlinePart) (operand : Body) (u : Unfolding) → Both (Either (OfLevel table around operand) OnlyEmpty u) (OfForm table around inline.Opt part (body_and operand no_bodies) u)
  form_opt part operand u = record { to = λ h. to u h; from = λ h. from u h }
    where
      from : (u : Unfolding) → OfForm table around inline.Opt part (body_and operand no_bodies) u → OfLevel table around operand u ⊎ (u ≡ empty)
      from u (taken h) = inl h
      from _ left_out = inr refl

      to : (u : Unfolding) → OfLevel table around operand u ⊎ (u ≡ empty) → OfForm table around inline.Opt part (body_and operand no_bodies) u
      to u (inl h) = taken h
      to u (inr e) = along (OfForm table around inline.Opt part (body_and operand no_bodies)) empty u e left_out

  pub form_par : (part : InlinePart) (operands : Bodies) (u : Unfolding) → Both (OfAll table around operands u) (OfForm table around inline.Par part operands u)
  form_par part operands u = record { to = λ h. parallel h; from = λ h. from u h }
    where
      from : (u : Unfolding) → OfForm table around inline.Par part operands u → OfAll table around operands u
      from u (parallel h) = h

  pub all_none : (u : Unfolding) → Both (OnlyEmpty u) (OfAll table around no_bodies u)
  all_none u = record { to = λ e. along (OfAll table around no_bodies) empty u e no_operand; from = λ h. from u h }
    where
      from : (u : Unfolding) → OfAll table around no_bodies u → u ≡ empty
      from _ no_operand = refl

  pub all_more : (operand : Body) (others : Bodies) (u : Unfolding) → Both (AreJoined par (OfLevel table around operand) (OfAll table around others) u) (OfAll table around (body_and operand others) u)
  all_more operand others u = record { to = λ h. to u h; from = λ h. from u h }
    where
      from : (u : Unfolding) → OfAll table around (body_and operand others) u → AreJoined par (OfLevel table around operand) (OfAll table around others) u
      from _ (operand_and a b) = joined a b

      to : (u : Unfolding) → AreJoined par (OfLevel table around operand) (OfAll table around others) u → OfAll table around (body_and operand others) u
      to _ (joined a b) = operand_and a b

  turns_to : (operand : Body) {n : ℕ} {u : Unfolding} → OfTurns table around operand n u → AreRepeated (OfLevel table around operand) n u
  turns_to operand no_turn = no_more
  turns_to operand (turn_and a b) = once_more a (turns_to operand b)

  to_turns : (operand : Body) {n : ℕ} {u : Unfolding} → AreRepeated (OfLevel table around operand) n u → OfTurns table around operand n u
  to_turns operand no_more = no_turn
  to_turns operand (once_more a b) = turn_and a (to_turns operand b)

  -- a bound below the lower one
  clash : (part : InlinePart) (most n : ℕ) → part.upper ≡ Some most → most < part.lower → part.lower ≤ n → UpTo part.upper n → ⊥
  clash part most n e l a c = less (subst (λ o. UpTo o n) e c)
    where
      less : n ≤ most → ⊥
      less i = omega (arith, i, l, a)

  -- a loop whose bounds leave a number of turns
  pub form_loop : (part : InlinePart) (operand : Body) → UpTo part.upper part.lower → (u : Unfolding) → Both (AreSomeOften (OfLevel table around operand) part.lower part.upper u) (OfForm table around inline.Loop part (body_and operand no_bodies) u)
  form_loop part operand b u = record { to = λ h. turns h.times h.least h.most (to_turns operand h.are); from = λ h. from u h }
    where
      from : (u : Unfolding) → OfForm table around inline.Loop part (body_and operand no_bodies) u → AreSomeOften (OfLevel table around operand) part.lower part.upper u
      from u (turns n a c h) = record { times = n; least = a; most = c; are = turns_to operand h }
      from _ (no_turns {most = most} e l) = absurd (clash part most part.lower e l (omega arith) b)

  -- one whose bounds leave none
  pub form_crossed : (part : InlinePart) (operands : Bodies) (most : ℕ) → part.upper ≡ Some most → most < part.lower → (u : Unfolding) → Both (OnlyEmpty u) (OfForm table around inline.Loop part operands u)
  form_crossed part operands most e l u = record { to = λ h. along (OfForm table around inline.Loop part operands) empty u h (no_turns e l); from = λ h. from operands u h }
    where
      from : (operands : Bodies) (u : Unfolding) → OfForm table around inline.Loop part operands u → u ≡ empty
      from _ u (turns n a c h) = absurd (clash part most n e l a c)
      from operands _ (no_turns f k) = refl
