-- The floors that wait, mark by mark.
use Rattle.std.specs.Prelude.{ℕ, ◌+◌, ◌<◌, ◌≤◌, ◌≡◌, ◌↔◌, Bool, true, false, List, [], ◌∷◌, ◌++◌, IsTrue, max, refl, length, reverse, drop, get_or, slice_get}
use Rattle.std.proofs.Common.{ap, sym, subst, ◌∙◌, arith, append_assoc, append-nil, length-append}
use Rattle.std.proofs.lemmas.List.{reverse-append, reverse-reverse}
use Rattle.std.proofs.Math.Path.{fun_ext}
use Rattle.list_facts.proofs.Reading.{drop_end, drop_get}
use Rattle.chart_term.specs.Terms.{TermEvent, Tree}
use Rattle.chart_term.specs.Views.{event_of}
use Rattle.chart_term.specs.declared.event.Event.{Event}
use Rattle.certificates.specs.Floors.{Floors}
use Rattle.pattern_marks.specs.HeldFloors.{HeldFloors, floors_of, gone_back, best, left_aside, DoFall, Rises, Stands, HasGoneBack, HavePutIn, HasTurned, Turns, HasClosed, Closes, IsBefore, IsBehind, Wait, DoWait, Leads, Goes}
use Rattle.pattern_marks.specs.Marks.{Sign, pairs_at, sign_of, signs_of, stands, opens, turns, closes, tie_opens, tie_closes}
use Rattle.pattern_marks.specs.Tests.{before, behind, DoRise, Waiting}
use Rattle.pattern_marks.specs.declared.floors.Floor.{Floor}
use Rattle.pattern_marks.specs.declared.floors.Level.{Level}
use Rattle.pattern_marks.specs.declared.floors.Level.TheVariants.{First, Second}
use Rattle.pattern_marks.specs.declared.mark.Mark.{Mark}
use Rattle.pattern_marks.specs.declared.mark.Mark.TheVariants as mark
use Rattle.pattern_marks.proofs.MarkReading.{mark_at}
use Rattle.pattern_marks.proofs.Raising.{gone_append, fall_append, fall_below, aside_best}

-- two lists in a row are taken apart by the length of the first
parts_same : (xs us ys vs : List Floor) → xs ++ ys ≡ us ++ vs → length xs ≡ length us → (xs ≡ us) × (ys ≡ vs)
parts_same [] [] ys vs e l = (refl, e)
parts_same [] (u ∷ us) ys vs e l = absurd (omega (arith, l))
parts_same (x ∷ xs) [] ys vs e l = absurd (omega (arith, l))
parts_same (x ∷ xs) (u ∷ us) ys vs e l =
    let h : x ≡ u = cc in
    let t : xs ++ ys ≡ us ++ vs = cc in
    let (a, b) = parts_same xs us ys vs t (omega (arith, l)) in
    (cc, b)

-- the last of the levels is the first behind it
last_first : (ls : List Level) (l : Level) → reverse (ls ++ l ∷ []) ≡ l ∷ reverse ls
last_first ls l = reverse-append ls (l ∷ [])

first_last : (ls ks : List Level) (l : Level) → reverse ls ≡ l ∷ ks → ls ≡ reverse ks ++ l ∷ []
first_last ls ks l e = sym (reverse-reverse ls) ∙ (ap (λ (m : List Level). reverse m) e ∙ reverse_first ks l)
  where
    reverse_first : (ks : List Level) (l : Level) → reverse (l ∷ ks) ≡ reverse ks ++ l ∷ []
    reverse_first ks l = reverse-append (l ∷ []) ks

-- as the floors rise, the same floors wait
wait_rises : (f g : Floors) (j noted a : List Floor) (ls : List Level) (ws : List Waiting) → gone_back g noted ≡ f → DoFall g noted → Wait f j a ls ws → Wait g (j ++ noted) a ls ws
wait_rises f g j noted a [] [] e d h = tt
wait_rises f g j noted a [] (w ∷ ws) e d h = absurd h
wait_rises f g j noted a (First n ∷ ls) [] e d h = absurd h
wait_rises f g j noted a (First n ∷ ls) (before k ∷ ws) e d h = record {
  kept = h.kept;
  noted = h.noted ++ noted;
  journal = ap (λ (l : List Floor). l ++ noted) h.journal ∙ append_assoc h.kept h.noted noted;
  count = h.count;
  restored = gone_append g h.noted noted ∙ (ap (λ (u : Floors). gone_back u h.noted) e ∙ h.restored);
  fall = fall_append g h.noted noted (subst (λ (u : Floors). DoFall u h.noted) (sym e) h.fall) d;
  around = h.around;
}
wait_rises f g j noted a (First n ∷ ls) (behind k ∷ ws) e d h = absurd h
wait_rises f g j noted a (Second n ∷ ls) [] e d h = absurd h
wait_rises f g j noted a (Second n ∷ ls) (before k ∷ ws) e d h = absurd h
wait_rises f g j noted a (Second n ∷ ls) (behind k ∷ ws) e d h = record {
  kept = h.kept;
  put = h.put;
  aside = h.aside;
  count = h.count;
  raises = λ i.
      let r = h.raises i in
      let l : f i ≤ g i = subst (λ (u : Floors). u i ≤ g i) e (fall_below g noted i d) in
      higher (f i) (g i) (best h.put i) (k i) r l;
  around = wait_rises f g j noted h.kept ls ws e d h.around;
}
  where
    higher : (x y b k : ℕ) → max x b ≡ max k x → x ≤ y → max y b ≡ max k y
    higher x y b k r l = omega (arith, r, l)

do_wait_rises : (old new : HeldFloors) (ws : List Waiting) → Rises old new → new.aside ≡ old.aside → new.levels ≡ old.levels → DoWait old ws → DoWait new ws
do_wait_rises old new ws r a l h =
    subst (λ (ls : List Level). Wait (floors_of new) new.journal new.aside (reverse ls) ws) (sym l)
    (subst (λ (as_put : List Floor). Wait (floors_of new) new.journal as_put (reverse old.levels) ws) (sym a)
    (subst (λ (j : List Floor). Wait (floors_of new) j old.aside (reverse old.levels) ws) (sym r.journal)
    (wait_rises (floors_of old) (floors_of new) old.journal r.noted old.aside (reverse old.levels) ws r.restored r.fall h)))

-- ---- mark by mark

-- an event
event_goes : (e : TermEvent) (n : ℕ) (goes : Bool) (old new : HeldFloors) → Stands goes e n old new → (ws : List Waiting) → DoWait old ws → Goes goes (stands e n) old ws new
event_goes e n true old new h ws w = record {
  next = ws;
  wait = do_wait_rises old new ws h.rises h.aside h.levels w;
  same = λ ms. (
    λ d. subst (λ (f : Floors). DoRise f ws ms) (sym h.floors) d.1,
    λ d. (h.above, subst (λ (f : Floors). DoRise f ws ms) h.floors d),
  );
}
event_goes e n false old new h ws w = λ ms d. h d.0

-- a first part begins
open_goes : (old : HeldFloors) (ws : List Waiting) → DoWait old ws → Leads opens old ws (record old { levels = old.levels ++ First (length old.journal) ∷ [] })
open_goes old ws w = record {
  next = before (floors_of old) ∷ ws;
  wait = subst (λ (ls : List Level). Wait (floors_of old) old.journal old.aside ls (before (floors_of old) ∷ ws)) (sym (last_first old.levels (First (length old.journal)))) (record {
    kept = old.journal;
    noted = [];
    journal = sym (append-nil old.journal);
    count = refl;
    restored = refl;
    fall = tt;
    around = w;
  });
  same = λ ms. (λ d. d, λ d. d);
}

-- the second begins
turn_leads : (f g : Floors) (j a : List Floor) (n : ℕ) (ls : List Level) (ws : List Waiting) (old new : HeldFloors) → floors_of old ≡ f → old.journal ≡ j → old.aside ≡ a → HasGoneBack n old new → old.levels ≡ reverse ls ++ Second (length a) ∷ [] → IsBefore f j n g (λ ks. Wait g ks a ls ws) → DoWait new (behind f ∷ ws) × (floors_of new ≡ g)
turn_leads f g j a n ls ws old new fe je ae b le h = (wait, floors)
  where
    count : length new.journal ≡ length h.kept
    count = omega (arith, b.most, b.least, h.count, ap length je, ap length h.journal, length-append h.kept h.noted)

    same : (new.journal ≡ h.kept) × (b.gone ≡ h.noted)
    same = parts_same new.journal h.kept b.gone h.noted (sym b.journal ∙ (je ∙ h.journal)) count

    floors : floors_of new ≡ g
    floors = b.floors ∙ (ap (λ (l : List Floor). gone_back (floors_of old) l) same.1 ∙ (ap (λ (u : Floors). gone_back u h.noted) fe ∙ h.restored))

    aside : new.aside ≡ a ++ left_aside f h.noted
    aside = b.aside ∙ (ap (λ (l : List Floor). old.aside ++ left_aside (floors_of old) l) same.1 ∙ (ap (λ (u : Floors). old.aside ++ left_aside u h.noted) fe ∙ ap (λ (l : List Floor). l ++ left_aside f h.noted) ae))

    levels : reverse new.levels ≡ Second (length a) ∷ ls
    levels = ap (λ (l : List Level). reverse l) (b.levels ∙ le) ∙ (last_first (reverse ls) (Second (length a)) ∙ ap (λ (l : List Level). Second (length a) ∷ l) (reverse-reverse ls))

    behind_is : IsBehind g new.aside (length a) f (λ ks. Wait g h.kept ks ls ws)
    behind_is = record {
      kept = a;
      put = left_aside f h.noted;
      aside = aside;
      count = refl;
      raises = λ i.
          let l : g i ≤ f i = subst (λ (u : Floors). u i ≤ f i) h.restored (fall_below f h.noted i h.fall) in
          let r : f i ≡ max (g i) (best (left_aside f h.noted) i) = aside_best f h.noted i h.fall ∙ ap (λ (u : Floors). max (u i) (best (left_aside f h.noted) i)) h.restored in
          higher (g i) (f i) (best (left_aside f h.noted) i) l r;
      around = h.around;
    }
      where
        higher : (x y b : ℕ) → x ≤ y → y ≡ max x b → max x b ≡ max y x
        higher x y b l r = omega (arith, l, r)

    wait : DoWait new (behind f ∷ ws)
    wait =
        subst (λ (l : List Level). Wait (floors_of new) new.journal new.aside l (behind f ∷ ws)) (sym levels)
        (subst (λ (u : Floors). Wait u new.journal new.aside (Second (length a) ∷ ls) (behind f ∷ ws)) (sym floors)
        (subst (λ (l : List Floor). Wait g l new.aside (Second (length a) ∷ ls) (behind f ∷ ws)) (sym same.0) behind_is))

turn_goes : (old new : HeldFloors) → HasTurned old new → (ls : List Level) (ws : List Waiting) → reverse old.levels ≡ ls → Wait (floors_of old) old.journal old.aside ls ws → Leads turns old ws new
turn_goes old new t [] ws e w = absurd (let q : [] ≡ First t.count ∷ reverse t.outer = sym e ∙ (ap (λ (l : List Level). reverse l) t.levels ∙ last_first t.outer (First t.count)) in no q)
  where
    no : [] ≡ First t.count ∷ reverse t.outer → ⊥
    no q = cc
turn_goes old new t (Second n ∷ ls) ws e w = absurd (let q : Second n ∷ ls ≡ First t.count ∷ reverse t.outer = sym e ∙ (ap (λ (l : List Level). reverse l) t.levels ∙ last_first t.outer (First t.count)) in no q)
  where
    no : Second n ∷ ls ≡ First t.count ∷ reverse t.outer → ⊥
    no q = cc
turn_goes old new t (First n ∷ ls) [] e w = absurd w
turn_goes old new t (First n ∷ ls) (behind g ∷ ws) e w = absurd w
turn_goes old new t (First n ∷ ls) (before g ∷ ws) e w =
    let q : First n ∷ ls ≡ First t.count ∷ reverse t.outer = sym e ∙ (ap (λ (l : List Level). reverse l) t.levels ∙ last_first t.outer (First t.count)) in
    let n_is : n ≡ t.count = cc in
    let ls_is : ls ≡ reverse t.outer = cc in
    let outer_is : t.outer ≡ reverse ls = sym (reverse-reverse t.outer) ∙ ap (λ (l : List Level). reverse l) (sym ls_is) in
    let b : HasGoneBack n (record old { levels = t.outer ++ Second (length old.aside) ∷ [] }) new = subst (λ (k : ℕ). HasGoneBack k (record old { levels = t.outer ++ Second (length old.aside) ∷ [] }) new) (sym n_is) t.back in
    let (wait, floors) = turn_leads (floors_of old) g old.journal old.aside n ls ws (record old { levels = t.outer ++ Second (length old.aside) ∷ [] }) new refl refl refl b (ap (λ (l : List Level). l ++ Second (length old.aside) ∷ []) outer_is) w in
    record {
      next = behind (floors_of old) ∷ ws;
      wait = wait;
      same = λ ms. (λ d. subst (λ (u : Floors). DoRise u (behind (floors_of old) ∷ ws) ms) (sym floors) d, λ d. subst (λ (u : Floors). DoRise u (behind (floors_of old) ∷ ws) ms) floors d);
    }

no_turn : (old : HeldFloors) → ((outer : List Level) (n : ℕ) → old.levels ≡ outer ++ First n ∷ [] → ⊥) → (ls : List Level) (ws : List Waiting) → reverse old.levels ≡ ls → Wait (floors_of old) old.journal old.aside ls ws → (ms : List Sign) → DoRise (floors_of old) ws (turns ∷ ms) → ⊥
no_turn old t ls [] e w ms d = d
no_turn old t ls (behind g ∷ ws) e w ms d = d
no_turn old t [] (before g ∷ ws) e w ms d = w
no_turn old t (First n ∷ ls) (before g ∷ ws) e w ms d = t (reverse ls) n (first_last old.levels ls (First n) e)
no_turn old t (Second n ∷ ls) (before g ∷ ws) e w ms d = w

next_goes : (goes : Bool) (old new : HeldFloors) → Turns goes old new → (ws : List Waiting) → DoWait old ws → Goes goes turns old ws new
next_goes true old new t ws w = turn_goes old new t (reverse old.levels) ws refl w
next_goes false old new t ws w = no_turn old t (reverse old.levels) ws refl w

-- both end
close_leads : (f g : Floors) (j a : List Floor) (n : ℕ) (ls : List Level) (ws : List Waiting) (old new : HeldFloors) → floors_of old ≡ f → old.journal ≡ j → old.aside ≡ a → HavePutIn n old new → reverse old.levels ≡ ls → IsBehind f a n g (λ ks. Wait f j ks ls ws) → DoWait new ws × (floors_of new ≡ (λ i. max (g i) (f i)))
close_leads f g j a n ls ws old new fe je ae b le h = (wait, floors)
  where
    count : length new.aside ≡ length h.kept
    count = omega (arith, b.most, b.least, h.count, ap length ae, ap length h.aside, length-append h.kept h.put)

    same : (new.aside ≡ h.kept) × (b.gone ≡ h.put)
    same = parts_same new.aside h.kept b.gone h.put (sym b.aside ∙ (ae ∙ h.aside)) count

    floors : floors_of new ≡ (λ i. max (g i) (f i))
    floors = fun_ext (λ i. b.floors i ∙ (ap (λ (u : Floors). max (u i) (best b.gone i)) fe ∙ (ap (λ (l : List Floor). max (f i) (best l i)) same.1 ∙ h.raises i)))

    inner : Wait (floors_of old) old.journal h.kept ls ws
    inner = subst (λ (u : Floors). Wait u old.journal h.kept ls ws) (sym fe) (subst (λ (l : List Floor). Wait f l h.kept ls ws) (sym je) h.around)

    grown : Wait (floors_of new) (old.journal ++ b.rises.noted) h.kept ls ws
    grown = wait_rises (floors_of old) (floors_of new) old.journal b.rises.noted h.kept ls ws b.rises.restored b.rises.fall inner

    wait : DoWait new ws
    wait =
        subst (λ (l : List Level). Wait (floors_of new) new.journal new.aside l ws) (sym (ap (λ (l : List Level). reverse l) b.levels ∙ le))
        (subst (λ (l : List Floor). Wait (floors_of new) new.journal l ls ws) (sym same.0)
        (subst (λ (l : List Floor). Wait (floors_of new) l h.kept ls ws) (sym b.rises.journal) grown))

close_goes : (old new : HeldFloors) → HasClosed old new → (ls : List Level) (ws : List Waiting) → reverse old.levels ≡ ls → Wait (floors_of old) old.journal old.aside ls ws → Leads closes old ws new
close_goes old new t [] ws e w = absurd (let q : [] ≡ Second t.count ∷ reverse t.outer = sym e ∙ (ap (λ (l : List Level). reverse l) t.levels ∙ last_first t.outer (Second t.count)) in no q)
  where
    no : [] ≡ Second t.count ∷ reverse t.outer → ⊥
    no q = cc
close_goes old new t (First n ∷ ls) ws e w = absurd (let q : First n ∷ ls ≡ Second t.count ∷ reverse t.outer = sym e ∙ (ap (λ (l : List Level). reverse l) t.levels ∙ last_first t.outer (Second t.count)) in no q)
  where
    no : First n ∷ ls ≡ Second t.count ∷ reverse t.outer → ⊥
    no q = cc
close_goes old new t (Second n ∷ ls) [] e w = absurd w
close_goes old new t (Second n ∷ ls) (before g ∷ ws) e w = absurd w
close_goes old new t (Second n ∷ ls) (behind g ∷ ws) e w =
    let q : Second n ∷ ls ≡ Second t.count ∷ reverse t.outer = sym e ∙ (ap (λ (l : List Level). reverse l) t.levels ∙ last_first t.outer (Second t.count)) in
    let n_is : n ≡ t.count = cc in
    let ls_is : ls ≡ reverse t.outer = cc in
    let b : HavePutIn n (record old { levels = t.outer }) new = subst (λ (k : ℕ). HavePutIn k (record old { levels = t.outer }) new) (sym n_is) t.put_in in
    let (wait, floors) = close_leads (floors_of old) g old.journal old.aside n ls ws (record old { levels = t.outer }) new refl refl refl b (sym ls_is) w in
    record {
      next = ws;
      wait = wait;
      same = λ ms. (λ d. subst (λ (u : Floors). DoRise u ws ms) (sym floors) d, λ d. subst (λ (u : Floors). DoRise u ws ms) floors d);
    }

no_close : (old : HeldFloors) → ((outer : List Level) (n : ℕ) → old.levels ≡ outer ++ Second n ∷ [] → ⊥) → (ls : List Level) (ws : List Waiting) → reverse old.levels ≡ ls → Wait (floors_of old) old.journal old.aside ls ws → (ms : List Sign) → DoRise (floors_of old) ws (closes ∷ ms) → ⊥
no_close old t ls [] e w ms d = d
no_close old t ls (before g ∷ ws) e w ms d = d
no_close old t [] (behind g ∷ ws) e w ms d = w
no_close old t (First n ∷ ls) (behind g ∷ ws) e w ms d = w
no_close old t (Second n ∷ ls) (behind g ∷ ws) e w ms d = t (reverse ls) n (first_last old.levels ls (Second n) e)

end_goes : (goes : Bool) (old new : HeldFloors) → Closes goes old new → (ws : List Waiting) → DoWait old ws → Goes goes closes old ws new
end_goes true old new t ws w = close_goes old new t (reverse old.levels) ws refl w
end_goes false old new t ws w = no_close old t (reverse old.levels) ws refl w

-- a tie changes nothing
tie_opens_go : (old : HeldFloors) (ws : List Waiting) → DoWait old ws → Leads tie_opens old ws old
tie_opens_go old ws w = record { next = ws; wait = w; same = λ ms. (λ d. d, λ d. d) }

tie_closes_go : (q : List (ℕ × ℕ)) (old : HeldFloors) (ws : List Waiting) → DoWait old ws → Leads (tie_closes q) old ws old
tie_closes_go q old ws w = record { next = ws; wait = w; same = λ ms. (λ d. d, λ d. d) }

-- ---- marks

abbrev pub Takes : Bool → Mark → HeldFloors → HeldFloors → Type 0
Takes goes m old new = (ts : List Tree) (ws : List Waiting) → DoWait old ws → Goes goes (sign_of ts m) old ws new

pub takes_event : (m : Mark) (e : Event) (n : ℕ) (goes : Bool) (old new : HeldFloors) → m ≡ mark.Event e n → Stands goes (event_of e) n old new → Takes goes m old new
takes_event m e n goes old new q h ts ws w = subst (λ (z : Mark). Goes goes (sign_of ts z) old ws new) (sym q) (event_goes (event_of e) n goes old new h ws w)

pub takes_open : (m : Mark) (old new : HeldFloors) → m ≡ mark.Open → new ≡ record old { levels = old.levels ++ First (length old.journal) ∷ [] } → Takes true m old new
takes_open m old new q e ts ws w =
    subst (λ (z : Mark). Goes true (sign_of ts z) old ws new) (sym q)
    (subst (λ (s : HeldFloors). Leads opens old ws s) (sym e) (open_goes old ws w))

pub takes_next : (m : Mark) (goes : Bool) (old new : HeldFloors) → m ≡ mark.Next → Turns goes old new → Takes goes m old new
takes_next m goes old new q h ts ws w = subst (λ (z : Mark). Goes goes (sign_of ts z) old ws new) (sym q) (next_goes goes old new h ws w)

pub takes_close : (m : Mark) (goes : Bool) (old new : HeldFloors) → m ≡ mark.Close → Closes goes old new → Takes goes m old new
takes_close m goes old new q h ts ws w = subst (λ (z : Mark). Goes goes (sign_of ts z) old ws new) (sym q) (end_goes goes old new h ws w)

pub takes_tie : (m : Mark) (s : HeldFloors) → m ≡ mark.OpenTie → Takes true m s s
takes_tie m s q ts ws w = subst (λ (z : Mark). Goes true (sign_of ts z) s ws s) (sym q) (tie_opens_go s ws w)

pub takes_tie_end : (m : Mark) (k : ℕ) (s : HeldFloors) → m ≡ mark.CloseTie k → Takes true m s s
takes_tie_end m k s q ts ws w = subst (λ (z : Mark). Goes true (sign_of ts z) s ws s) (sym q) (tie_closes_go (pairs_at (slice_get ts k)) s ws w)

pub ruleset takes = (takes_event, takes_open, takes_next, takes_close, takes_tie, takes_tie_end)

-- ---- all of them

-- what the test says of all marks is what it says of those that are left, from the held floors on
pub record IsUnder (ts : List Tree) (ms left : List Mark) (s : HeldFloors) : Type 0 where
  pub waiting : List Waiting
  pub wait : DoWait s waiting
  pub same : DoRise (λ i. 0) [] (signs_of ts ms) ↔ DoRise (floors_of s) waiting (signs_of ts left)

pub under_first : (ts : List Tree) (ms : List Mark) (s : HeldFloors) → s ≡ record { places = []; journal = []; aside = []; levels = [] } → IsUnder ts ms (drop 0 ms) s
under_first ts ms s e = subst (λ (z : HeldFloors). IsUnder ts ms ms z) (sym e) (record { waiting = []; wait = tt; same = (λ d. d, λ d. d) })

pub under_more : (ts : List Tree) (ms : List Mark) (i : ℕ) (d : Mark) (goes : Bool) (old new : HeldFloors) → i < length ms → goes ≡ true → Takes goes (get_or ms i d) old new → IsUnder ts ms (drop i ms) old → IsUnder ts ms (drop (i + 1) ms) new
under_more ts ms i d false old new lt g t u = cc
under_more ts ms i d true old new lt g t u =
    let l = t ts u.waiting u.wait in
    let e : drop i ms ≡ get_or ms i d ∷ drop (i + 1) ms = drop_get ms i (get_or ms i d) (mark_at ms i d lt) in
    record {
      waiting = l.next;
      wait = l.wait;
      same = (
        λ h. (l.same (signs_of ts (drop (i + 1) ms))).0 (subst (λ (k : List Mark). DoRise (floors_of old) u.waiting (signs_of ts k)) e (u.same.0 h)),
        λ h. u.same.1 (subst (λ (k : List Mark). DoRise (floors_of old) u.waiting (signs_of ts k)) (sym e) ((l.same (signs_of ts (drop (i + 1) ms))).1 h)),
      );
    }

-- a mark that can't stand spoils all
pub under_not : (ts : List Tree) (ms : List Mark) (i : ℕ) (d : Mark) (goes : Bool) (old new : HeldFloors) → i < length ms → goes ≡ false → Takes goes (get_or ms i d) old new → IsUnder ts ms (drop i ms) old → IsTrue false ↔ DoRise (λ i. 0) [] (signs_of ts ms)
under_not ts ms i d true old new lt g t u = cc
under_not ts ms i d false old new lt g t u = (
  λ q. absurd (no q),
  λ h. absurd (t ts u.waiting u.wait (signs_of ts (drop (i + 1) ms)) (subst (λ (k : List Mark). DoRise (floors_of old) u.waiting (signs_of ts k)) (drop_get ms i (get_or ms i d) (mark_at ms i d lt)) (u.same.0 h))),
)
  where
    no : false ≡ true → ⊥
    no q = cc

pub under_all : (ts : List Tree) (ms : List Mark) (i : ℕ) (s : HeldFloors) → (i < length ms → ⊥) → IsUnder ts ms (drop i ms) s → IsTrue true ↔ DoRise (λ i. 0) [] (signs_of ts ms)
under_all ts ms i s l u = (λ q. u.same.1 (subst (λ (k : List Mark). DoRise (floors_of s) u.waiting (signs_of ts k)) (sym (drop_end ms i l)) tt), λ h. refl)
