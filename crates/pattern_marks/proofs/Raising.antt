-- Floors by instance: put in, raised, and undone.
use Rattle.std.specs.Prelude.{ℕ, zero, suc, ◌+◌, ◌-◌, ◌<◌, ◌≤◌, ◌≡◌, ◌≢◌, ◌⊎◌, ◌↔◌, ◌==◌, ◌||◌, Bool, true, false, List, [], ◌∷◌, ◌++◌, Option, Some, None, Result, Ok, Err, OnOk, cond, max, refl, IsTrue, length, nat_lt, replicate, get_or}
use Rattle.std.proofs.Common.{ap, sym, subst, ◌∙◌, arith, inl, inr, append_assoc, append-nil, length-append}
use Rattle.std.proofs.lemmas.Bool.{cases_eq}
use Rattle.std.proofs.lemmas.Bool.Decides.{nat_tests}
use Rattle.std.proofs.lemmas.List.{get_or-set_same, get_or-set_other, length-replicate}
use Rattle.std.proofs.Math.Path.{fun_ext}
use Rattle.chart_term.specs.Terms.{TermEvent, has}
use Rattle.chart_term.specs.TermPatterns.{instances_of, some_list}
use Rattle.certificates.specs.Floors.{Floors, raised, IsAbove}
use Rattle.pattern_marks.specs.HeldFloors.{HeldFloors, floors_in, floors_of, put_at, changed, risen, best, gone_back, left_aside, DoFall, Rises, IsRaised, HasStood, HasUndone, HasGoneBack, HasPutIn, HavePutIn, IsOnWayBack, ArePuttingIn, alone}
use Rattle.pattern_marks.specs.declared.floors.Floor.{Floor}

pub on_ok : {E : Type 0} (r : Result (Unit {0}) E) (P Q : Type 0) → (P → Q) → OnOk r P → OnOk r Q
on_ok (Ok x) P Q f h = f h
on_ok (Err e) P Q f h = tt

pub is_same : (i k : ℕ) → i ≡ k → (i == k) ≡ true
is_same i k e = grind (arith, nat_tests)

pub is_other : (i k : ℕ) → (i ≡ k → ⊥) → (i == k) ≡ false
is_other i k n = grind (arith, nat_tests)

pub same_is : (i k : ℕ) → (i == k) ≡ true → i ≡ k
same_is i k e = grind (arith, nat_tests)

abbrev zeros : ℕ → List ℕ
zeros m = replicate m 0

zero_read : (m i : ℕ) → get_or (zeros m) i 0 ≡ 0
zero_read zero i = refl
zero_read (suc m) zero = refl
zero_read (suc m) (suc i) = zero_read m i

longer_read : (ps : List ℕ) (m i : ℕ) → get_or (ps ++ zeros m) i 0 ≡ get_or ps i 0
longer_read [] m i = zero_read m i
longer_read (p ∷ ps) m zero = refl
longer_read (p ∷ ps) m (suc i) = longer_read ps m i

longer_length : (ps : List ℕ) (m : ℕ) → length (ps ++ replicate m 0) ≡ length ps + m
longer_length ps m = omega (arith, length-append ps (replicate m 0), length-replicate {A = ℕ} m 0)

pub put_within : (ps : List ℕ) (i : ℕ) → i < length (ps ++ replicate (i + 1 - length ps) 0)
put_within ps i = omega (arith, longer_length ps (i + 1 - length ps))

pub put_read : (ps : List ℕ) (d : Floor) (i : ℕ) → floors_in (put_at ps d) i ≡ changed (floors_in ps) d i
put_read ps d i = by (cases_eq d.instance i)
  where
    by : (d.instance ≡ i) ⊎ (d.instance ≢ i) → floors_in (put_at ps d) i ≡ changed (floors_in ps) d i
    by (inl e) =
        ap (λ (k : ℕ). get_or (put_at ps d) k 0) (sym e)
        ∙ get_or-set_same (ps ++ replicate (d.instance + 1 - length ps) 0) d.instance d.place 0 (put_within ps d.instance)
        ∙ sym (ap (λ b. cond b d.place (get_or ps i 0)) (is_same d.instance i e))
    by (inr n) =
        get_or-set_other (ps ++ replicate (d.instance + 1 - length ps) 0) d.instance i d.place 0 (λ e. n (sym e))
        ∙ longer_read ps (d.instance + 1 - length ps) i
        ∙ sym (ap (λ b. cond b d.place (get_or ps i 0)) (is_other d.instance i n))

pub floors_put : (ps : List ℕ) (d : Floor) → floors_in (put_at ps d) ≡ changed (floors_in ps) d
floors_put ps d = fun_ext (put_read ps d)

-- ---- undone

pub gone_append : (f : Floors) (a b : List Floor) → gone_back f (a ++ b) ≡ gone_back (gone_back f b) a
gone_append f [] b = refl
gone_append f (d ∷ a) b = ap (λ (g : Floors). changed g d) (gone_append f a b)

pub fall_append : (f : Floors) (a b : List Floor) → DoFall (gone_back f b) a → DoFall f b → DoFall f (a ++ b)
fall_append f [] b h g = g
fall_append f (d ∷ a) b h g = (subst (λ (u : Floors). d.place ≤ u d.instance) (sym (gone_append f a b)) h.0, fall_append f a b h.1 g)

pub fall_below : (f : Floors) (ds : List Floor) (i : ℕ) → DoFall f ds → gone_back f ds i ≤ f i
fall_below f [] i h = omega arith
fall_below f (d ∷ ds) i h = by (fall_below f ds i h.1) (cases_eq d.instance i)
  where
    by : gone_back f ds i ≤ f i → (d.instance ≡ i) ⊎ (d.instance ≢ i) → cond (d.instance == i) d.place (gone_back f ds i) ≤ f i
    by rest (inl e) = rw (is_same d.instance i e) (let k : d.place ≤ gone_back f ds i = subst (λ (n : ℕ). d.place ≤ gone_back f ds n) e h.0 in omega (arith, k, rest))
    by rest (inr n) = rw (is_other d.instance i n) rest

best_last : (ds : List Floor) (d : Floor) (i : ℕ) → best (ds ++ d ∷ []) i ≡ max (best ds i) (alone d i)
best_last [] d i = refl
best_last (e ∷ ds) d i = let r = best_last ds d i in omega (arith, r)

-- what is put aside on the way back is the floors, where these are higher than what is left
pub aside_best : (f : Floors) (ds : List Floor) (i : ℕ) → DoFall f ds → f i ≡ max (gone_back f ds i) (best (left_aside f ds) i)
aside_best f [] i h = omega arith
aside_best f (d ∷ ds) i h = by (aside_best f ds i h.1) (cases_eq d.instance i)
  where
    last_one : best (left_aside f (d ∷ ds)) i ≡ max (best (left_aside f ds) i) (cond (d.instance == i) (gone_back f ds d.instance) 0)
    last_one = best_last (left_aside f ds) (record { instance = d.instance; place = gone_back f ds d.instance }) i

    by : f i ≡ max (gone_back f ds i) (best (left_aside f ds) i) → (d.instance ≡ i) ⊎ (d.instance ≢ i) → f i ≡ max (cond (d.instance == i) d.place (gone_back f ds i)) (best (left_aside f (d ∷ ds)) i)
    by rest (inl e) =
        let k : d.place ≤ gone_back f ds i = subst (λ (n : ℕ). d.place ≤ gone_back f ds n) e h.0 in
        let q : gone_back f ds d.instance ≡ gone_back f ds i = ap (gone_back f ds) e in
        let r : best (left_aside f (d ∷ ds)) i ≡ max (best (left_aside f ds) i) (gone_back f ds d.instance) = last_one ∙ ap (λ b. max (best (left_aside f ds) i) (cond b (gone_back f ds d.instance) 0)) (is_same d.instance i e) in
        rw (is_same d.instance i e) (omega (arith, rest, k, q, r))
    by rest (inr n) =
        let r : best (left_aside f (d ∷ ds)) i ≡ max (best (left_aside f ds) i) 0 = last_one ∙ ap (λ b. max (best (left_aside f ds) i) (cond b (gone_back f ds d.instance) 0)) (is_other d.instance i n) in
        rw (is_other d.instance i n) (omega (arith, rest, r))

-- ---- raised

fall_one : (f : Floors) (d : Floor) → f d.instance < d.place → gone_back (changed f d) (record { instance = d.instance; place = f d.instance } ∷ []) ≡ f
fall_one f d l = fun_ext (λ i. by i (cases_eq d.instance i))
  where
    by : (i : ℕ) → (d.instance ≡ i) ⊎ (d.instance ≢ i) → cond (d.instance == i) (f d.instance) (cond (d.instance == i) d.place (f i)) ≡ f i
    by i (inl e) = rw (is_same d.instance i e) (ap f e)
    by i (inr n) = rw (is_other d.instance i n) refl

changed_risen : (f : Floors) (d : Floor) → f d.instance < d.place → changed f d ≡ risen f d
changed_risen f d l = fun_ext (λ i. by i (cases_eq d.instance i))
  where
    by : (i : ℕ) → (d.instance ≡ i) ⊎ (d.instance ≢ i) → cond (d.instance == i) d.place (f i) ≡ max (f i) (cond (d.instance == i) d.place 0)
    by i (inl e) = let q : f d.instance ≡ f i = ap f e in rw (is_same d.instance i e) (omega (arith, q, l))
    by i (inr n) = rw (is_other d.instance i n) (omega arith)

low_risen : (f : Floors) (d : Floor) → d.place ≤ f d.instance → f ≡ risen f d
low_risen f d l = fun_ext (λ i. by i (cases_eq d.instance i))
  where
    by : (i : ℕ) → (d.instance ≡ i) ⊎ (d.instance ≢ i) → f i ≡ max (f i) (cond (d.instance == i) d.place 0)
    by i (inl e) = let q : f d.instance ≡ f i = ap f e in rw (is_same d.instance i e) (omega (arith, q, l))
    by i (inr n) = rw (is_other d.instance i n) (omega arith)

pub rises_none : (old new : HeldFloors) → new.places ≡ old.places → new.journal ≡ old.journal → Rises old new
rises_none old new p j = record { noted = []; journal = j ∙ sym (append-nil old.journal); restored = ap floors_in p; fall = tt }

pub rises_on : (a b c : HeldFloors) → Rises a b → Rises b c → Rises a c
rises_on a b c r s = record {
  noted = r.noted ++ s.noted;
  journal = s.journal ∙ (ap (λ (j : List Floor). j ++ s.noted) r.journal ∙ append_assoc a.journal r.noted s.noted);
  restored = gone_append (floors_of c) r.noted s.noted ∙ (ap (λ (f : Floors). gone_back f r.noted) s.restored ∙ r.restored);
  fall = fall_append (floors_of c) r.noted s.noted (subst (λ (f : Floors). DoFall f r.noted) (sym s.restored) r.fall) s.fall;
}

-- the code raises a floor that is lower
pub raised_low : (d : Floor) (old new : HeldFloors) → d.place ≤ floors_of old d.instance → new ≡ old → IsRaised d old new
raised_low d old new l e = record {
  rises = rises_none old new (ap (λ (s : HeldFloors). s.places) e) (ap (λ (s : HeldFloors). s.journal) e);
  floors = ap floors_of e ∙ low_risen (floors_of old) d l;
  aside = ap (λ (s : HeldFloors). s.aside) e;
  levels = ap (λ (s : HeldFloors). s.levels) e;
}

pub raised_high : (d : Floor) (old new : HeldFloors) (n : ℕ) → n ≡ floors_of old d.instance → n < d.place → new.places ≡ put_at old.places d → new.journal ≡ old.journal ++ record { instance = d.instance; place = n } ∷ [] → new.aside ≡ old.aside → new.levels ≡ old.levels → IsRaised d old new
raised_high d old new n e l p j a v = record {
  rises = record {
    noted = record { instance = d.instance; place = n } ∷ [];
    journal = j;
    restored = ap (λ (f : Floors). changed f (record { instance = d.instance; place = n })) set ∙ (ap (λ (m : ℕ). changed (changed (floors_of old) d) (record { instance = d.instance; place = m })) e ∙ fall_one (floors_of old) d low);
    fall = (subst (λ (f : Floors). n ≤ f d.instance) (sym set) (rw (is_same d.instance d.instance refl) (omega (arith, l))), tt);
  };
  floors = set ∙ changed_risen (floors_of old) d low;
  aside = a;
  levels = v;
}
  where
    low : floors_of old d.instance < d.place
    low = omega (arith, e, l)

    set : floors_of new ≡ changed (floors_of old) d
    set = ap floors_in p ∙ floors_put old.places d

-- ---- events

-- an event of one instance, and of two
has_one : (e : TermEvent) (i : ℕ) → e.also ≡ None → has (instances_of e).instances i ≡ ((e.at == i) || false)
has_one e i q = ap (λ (o : Option ℕ). has (e.at ∷ some_list o) i) q

has_two : (e : TermEvent) (s i : ℕ) → e.also ≡ Some s → has (instances_of e).instances i ≡ ((e.at == i) || ((s == i) || false))
has_two e s i q = ap (λ (o : Option ℕ). has (e.at ∷ some_list o) i) q

or_first : (a b : Bool) → a ≡ true → (a || b) ≡ true
or_first true b e = refl
or_first false b e = cc

or_second : (a b : Bool) → b ≡ true → (a || (b || false)) ≡ true
or_second true b e = refl
or_second false true e = refl
or_second false false e = cc

or_cases : (a b : Bool) → (a || (b || false)) ≡ true → (a ≡ true) ⊎ (b ≡ true)
or_cases true b e = inl refl
or_cases false true e = inr refl
or_cases false false e = cc

or_one : (a : Bool) → (a || false) ≡ true → a ≡ true
or_one true e = refl
or_one false e = cc

not_low : (f : Floors) (e : TermEvent) (n : ℕ) → n ≤ f e.at → IsAbove f e n → ⊥
not_low f e n l h =
    let k = h e.at (or_first (e.at == e.at) (has (some_list e.also) e.at) (is_same e.at e.at refl)) in
    omega (arith, l, k)

one_above : (f : Floors) (e : TermEvent) (n : ℕ) → e.also ≡ None → f e.at < n → IsAbove f e n
one_above f e n q l i h = subst (λ (k : ℕ). f k < n) (same_is e.at i (or_one (e.at == i) (sym (has_one e i q) ∙ h))) l

two_above : (f : Floors) (e : TermEvent) (s n : ℕ) → e.also ≡ Some s → f e.at < n → f s < n → IsAbove f e n
two_above f e s n q l k i h = elim (or_cases (e.at == i) (s == i) (sym (has_two e s i q) ∙ h)) [
  | inl a ↦ subst (λ (j : ℕ). f j < n) (same_is e.at i a) l
  | inr b ↦ subst (λ (j : ℕ). f j < n) (same_is s i b) k
]

pub above_low : (f : Floors) (e : TermEvent) (n : ℕ) → n ≤ f e.at → IsTrue false ↔ IsAbove f e n
above_low f e n l = (λ q. absurd (false_true q), λ h. absurd (not_low f e n l h))
  where
    false_true : false ≡ true → ⊥
    false_true q = cc

pub above_one : (f : Floors) (e : TermEvent) (n : ℕ) → e.also ≡ None → f e.at < n → IsTrue true ↔ IsAbove f e n
above_one f e n q l = (λ t. one_above f e n q l, λ h. refl)

pub above_two : (f : Floors) (e : TermEvent) (s n : ℕ) → e.also ≡ Some s → f e.at < n → IsTrue (nat_lt (f s) n) ↔ IsAbove f e n
above_two f e s n q l = (
  λ t. two_above f e s n q l (lower (f s) n t),
  λ h. less (f s) n (h s (has_two e s s q ∙ or_second (e.at == s) (s == s) (is_same s s refl))),
)
  where
    lower : (a b : ℕ) → nat_lt a b ≡ true → a < b
    lower a b t = grind (arith, nat_tests)

    less : (a b : ℕ) → a < b → nat_lt a b ≡ true
    less a b l = grind (arith, nat_tests)

pub ruleset above = (above_low, above_one, above_two)

raised_one : (f : Floors) (e : TermEvent) (n : ℕ) → e.also ≡ None → raised f e n ≡ risen f (record { instance = e.at; place = n })
raised_one f e n q = fun_ext (λ i. ap (λ b. cond b (max (f i) n) (f i)) (has_one e i q) ∙ by (e.at == i) (f i))
  where
    by : (a : Bool) (x : ℕ) → cond (a || false) (max x n) x ≡ max x (cond a n 0)
    by true x = refl
    by false x = omega arith

raised_two : (f : Floors) (e : TermEvent) (s n : ℕ) → e.also ≡ Some s → raised f e n ≡ risen (risen f (record { instance = e.at; place = n })) (record { instance = s; place = n })
raised_two f e s n q = fun_ext (λ i. ap (λ b. cond b (max (f i) n) (f i)) (has_two e s i q) ∙ by (e.at == i) (s == i) (f i))
  where
    by : (a b : Bool) (x : ℕ) → cond (a || (b || false)) (max x n) x ≡ max (max x (cond a n 0)) (cond b n 0)
    by true true x = omega arith
    by true false x = omega arith
    by false true x = omega arith
    by false false x = omega arith

pub stood_one : (e : TermEvent) (n : ℕ) (old new : HeldFloors) → e.also ≡ None → IsAbove (floors_of old) e n → IsRaised (record { instance = e.at; place = n }) old new → HasStood e n old new
stood_one e n old new q a r = record { above = a; rises = r.rises; floors = r.floors ∙ sym (raised_one (floors_of old) e n q); aside = r.aside; levels = r.levels }

pub stood_two : (e : TermEvent) (s n : ℕ) (old mid new : HeldFloors) → e.also ≡ Some s → IsAbove (floors_of old) e n → IsRaised (record { instance = e.at; place = n }) old mid → IsRaised (record { instance = s; place = n }) mid new → HasStood e n old new
stood_two e s n old mid new q a r t = record {
  above = a;
  rises = rises_on old mid new r.rises t.rises;
  floors = t.floors ∙ (ap (λ (f : Floors). risen f (record { instance = s; place = n })) r.floors ∙ sym (raised_two (floors_of old) e s n q));
  aside = t.aside ∙ r.aside;
  levels = t.levels ∙ r.levels;
}

-- ---- back, and in again

-- nothing is undone yet
pub back_none : (n : ℕ) (s : HeldFloors) → IsOnWayBack n s s
back_none n s = record {
  gone = [];
  journal = sym (append-nil s.journal);
  least = omega arith;
  floors = refl;
  aside = sym (append-nil s.aside);
  levels = refl;
}

pub back_more : (n : ℕ) (old mid new : HeldFloors) → IsOnWayBack n old mid → n < length mid.journal → HasUndone mid new → IsOnWayBack n old new
back_more n old mid new w l u = record {
  gone = u.last_one ∷ w.gone;
  journal = w.journal ∙ (ap (λ (j : List Floor). j ++ w.gone) u.journal ∙ append_assoc new.journal (u.last_one ∷ []) w.gone);
  least = let k = ap length u.journal in omega (arith, k, l, length-append new.journal (u.last_one ∷ []));
  floors = ap floors_in u.places ∙ (floors_put mid.places u.last_one ∙ ap (λ (f : Floors). changed f u.last_one) w.floors);
  aside = u.aside ∙ (ap (λ (a : List Floor). a ++ now (floors_of mid) ∷ []) w.aside ∙ (append_assoc old.aside (left_aside (floors_of old) w.gone) (now (floors_of mid) ∷ []) ∙ ap (λ (f : Floors). old.aside ++ (left_aside (floors_of old) w.gone ++ now f ∷ [])) w.floors));
  levels = u.levels ∙ w.levels;
}
  where
    now : Floors → Floor
    now f = record { instance = u.last_one.instance; place = f u.last_one.instance }

pub back_all : (n : ℕ) (old new : HeldFloors) → IsOnWayBack n old new → length new.journal ≤ n → HasGoneBack n old new
back_all n old new w l = record { gone = w.gone; journal = w.journal; most = l; least = w.least; floors = w.floors; aside = w.aside; levels = w.levels }

pub ruleset back = (back_none, back_more, back_all)

-- nothing is put in yet
pub in_none : (n : ℕ) (s : HeldFloors) → ArePuttingIn n s s
in_none n s = record {
  gone = [];
  aside = sym (append-nil s.aside);
  least = omega arith;
  rises = rises_none s s refl refl;
  floors = λ i. omega arith;
  levels = refl;
}

pub in_more : (n : ℕ) (old mid new : HeldFloors) → ArePuttingIn n old mid → n < length mid.aside → HasPutIn mid new → ArePuttingIn n old new
in_more n old mid new w l u = record {
  gone = u.last_one ∷ w.gone;
  aside = w.aside ∙ (ap (λ (a : List Floor). a ++ w.gone) u.aside ∙ append_assoc new.aside (u.last_one ∷ []) w.gone);
  least = let k = ap length u.aside in omega (arith, k, l, length-append new.aside (u.last_one ∷ []));
  rises = rises_on old mid new w.rises u.rises;
  floors = λ i.
      let a = ap (λ (f : Floors). f i) u.floors in
      let b = w.floors i in
      omega (arith, a, b);
  levels = u.levels ∙ w.levels;
}

pub in_all : (n : ℕ) (old new : HeldFloors) → ArePuttingIn n old new → length new.aside ≤ n → HavePutIn n old new
in_all n old new w l = record { gone = w.gone; aside = w.aside; most = l; least = w.least; rises = w.rises; floors = w.floors; levels = w.levels }

pub ruleset in_again = (in_none, in_more, in_all)
