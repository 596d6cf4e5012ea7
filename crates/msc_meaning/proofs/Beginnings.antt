-- A test for the labels that a run of a given unfolding may begin with.
use Rattle.std.proofs.Common.{◌≡◌, ◌⊎◌, ℕ, Bool, true, false, not, ◌&&◌, ◌||◌, ◌==◌, List, [], ◌∷◌, ◌++◌, refl, sym, ◌∙◌, subst, inl, inr}
use Rattle.std.proofs.lemmas.Slice.Eq.{bytes_eq-Decides}
use Rattle.std.specs.Str.{bytes_eq}
use Rattle.msc_base.specs.declared.label.Far.{Far}
use Rattle.msc_base.specs.declared.label.Far.TheVariants as far
use Rattle.msc_base.specs.declared.label.Kind.{Kind}
use Rattle.msc_base.specs.declared.label.Kind.TheVariants.{Output, Input, OutputLost, InputFound, Action, TimerStart, TimerStop, Timeout, Create}
use Rattle.msc_base.specs.declared.label.Label.{Label}
use Rattle.msc_base.specs.Orders.{Among, first, later, Once, Kept}
use Rattle.msc_base.specs.Patterns.{Pattern, empty, one, join, bind, Position, event_at, Before}
use Rattle.msc_unfolding.specs.Runs.{IsRun, labels_at}
use Rattle.msc_unfolding.specs.Unfoldings.{Unfolding, plain}
use Rattle.msc_meaning.proofs.Deciding.{not_so, or_left, or_right, either_so, is_before, so_before, is_same, same_so, is_itself, is_among, all_positions}

-- ---- truth values

pub both_so : (a b : Bool) → a ≡ true → b ≡ true → (a && b) ≡ true
both_so true b h k = k
both_so false b h k = h

pub not_true : (a : Bool) → (a ≡ true → ⊥) → not a ≡ true
not_true true h = absurd (h refl)
not_true false h = refl

-- ---- labels

bytes_itself : (xs : List ℕ) → bytes_eq xs xs ≡ true
bytes_itself xs = (bytes_eq-Decides xs xs).1 refl

abbrev pub is_same_far : Far → Far → Bool
is_same_far far.Nobody far.Nobody = true
is_same_far far.Env far.Env = true
is_same_far (far.Instance i) (far.Instance j) = bytes_eq i j
is_same_far _ _ = false

far_itself : (f : Far) → is_same_far f f ≡ true
far_itself far.Nobody = refl
far_itself far.Env = refl
far_itself (far.Instance i) = bytes_itself i

abbrev pub kind_number : Kind → ℕ
kind_number Output = 0
kind_number Input = 1
kind_number OutputLost = 2
kind_number InputFound = 3
kind_number Action = 4
kind_number TimerStart = 5
kind_number TimerStop = 6
kind_number Timeout = 7
kind_number Create = 8

abbrev pub is_same_kind : Kind → Kind → Bool
is_same_kind a b = kind_number a == kind_number b

kind_itself : (k : Kind) → is_same_kind k k ≡ true
kind_itself Output = refl
kind_itself Input = refl
kind_itself OutputLost = refl
kind_itself InputFound = refl
kind_itself Action = refl
kind_itself TimerStart = refl
kind_itself TimerStop = refl
kind_itself Timeout = refl
kind_itself Create = refl

abbrev pub is_same_label : Label → Label → Bool
is_same_label a b = bytes_eq a.at b.at && (is_same_kind a.kind b.kind && (bytes_eq a.text b.text && is_same_far a.far b.far))

pub label_itself : (a : Label) → is_same_label a a ≡ true
label_itself a = both_so (bytes_eq a.at a.at) _ (bytes_itself a.at)
    (both_so (is_same_kind a.kind a.kind) _ (kind_itself a.kind) (both_so (bytes_eq a.text a.text) _ (bytes_itself a.text) (far_itself a.far)))

same_label : (a b : Label) → a ≡ b → is_same_label a b ≡ true
same_label a b h = subst (λ c. is_same_label a c ≡ true) h (label_itself a)

-- ---- some position

abbrev pub some_position : {E Q : Type 0} → (s : Pattern E Q) → (Position s → Bool) → Bool
some_position empty f = false
some_position (one e) f = f tt
some_position (join m x y) f = some_position x (λ p. f (inl p)) || some_position y (λ p. f (inr p))
some_position (bind x t) f = some_position x f

pub at_some : {E Q : Type 0} (s : Pattern E Q) (f : Position s → Bool) (p : Position s) → f p ≡ true → some_position s f ≡ true
at_some empty f p h = absurd p
at_some (one e) f p h = h
at_some (join m x y) f (inl p) h = or_left (some_position x (λ q. f (inl q))) _ (at_some x (λ q. f (inl q)) p h)
at_some (join m x y) f (inr p) h = or_right (some_position x (λ q. f (inl q))) _ (at_some y (λ q. f (inr q)) p h)
at_some (bind x t) f p h = at_some x f p h

pub at_all : {E Q : Type 0} (s : Pattern E Q) (f : Position s → Bool) → ((p : Position s) → f p ≡ true) → all_positions s f ≡ true
at_all empty f h = refl
at_all (one e) f h = h tt
at_all (join m x y) f h = both_so (all_positions x (λ p. f (inl p))) _ (at_all x (λ p. f (inl p)) (λ p. h (inl p))) (at_all y (λ p. f (inr p)) (λ p. h (inr p)))
at_all (bind x t) f h = at_all x f h

-- ---- beginnings

-- a position may come next: it isn't taken, and all that is before it is
abbrev pub is_free : (u : Unfolding) → List (Position u) → Position u → Bool
is_free u taken p = not (is_among u p taken) && all_positions u (λ q. not (is_before plain u q p) || is_among u q taken)

-- whether the labels may come next, one after another
abbrev pub may_go : (u : Unfolding) → List (Position u) → List Label → Bool
may_go u taken [] = true
may_go u taken (l ∷ ls) = some_position u (λ p. is_same_label (event_at plain u p).label l && (is_free u taken p && may_go u (p ∷ taken) ls))

-- where each position is taken or still to come
record Split (u : Unfolding) (taken order : List (Position u)) : Type 0 where
  each : (q : Position u) → (is_among u q taken ≡ true) ⊎ Among q order
  apart : (q : Position u) → Among q order → is_among u q taken ≡ true → ⊥

head_of : {A : Type 0} (a b : A) {l m : List A} → a ∷ l ≡ b ∷ m → a ≡ b
head_of a b h = cc

tail_of : {A : Type 0} (a b : A) {l m : List A} → a ∷ l ≡ b ∷ m → l ≡ m
tail_of a b h = cc

clash : {A : Type 0} (a : A) {l : List A} → [] ≡ a ∷ l → ⊥
clash a h = cc

or_in : (a b : Bool) (C : Type 0) → (a ≡ true → C) → (C → b ≡ true) → (not a || b) ≡ true
or_in true b C f g = g (f refl)
or_in false b C f g = refl

free : (u : Unfolding) (taken : List (Position u)) (p : Position u) (order : List (Position u))
    → Split u taken (p ∷ order) → Kept (Before plain u) (p ∷ order) → is_free u taken p ≡ true
free u taken p order s k = both_so (not (is_among u p taken)) _ (not_true (is_among u p taken) (s.apart p first))
    (at_all u (λ q. not (is_before plain u q p) || is_among u q taken) (λ q. or_in (is_before plain u q p) (is_among u q taken) (is_among u q taken ≡ true) (λ b. go q b (s.each q)) (λ h. h)))
  where
    go : (q : Position u) → is_before plain u q p ≡ true → (is_among u q taken ≡ true) ⊎ Among q (p ∷ order) → is_among u q taken ≡ true
    go q b (inl h) = h
    go q b (inr h) = absurd (k.0 q h (so_before plain u q p b))

next : (u : Unfolding) (taken : List (Position u)) (p : Position u) (order : List (Position u))
    → Split u taken (p ∷ order) → Once (p ∷ order) → Split u (p ∷ taken) order
next u taken p order s o = record { each = λ q. move q (s.each q); apart = λ q h k. split q h (either_so (is_same u q p) _ k) }
  where
    move : (q : Position u) → (is_among u q taken ≡ true) ⊎ Among q (p ∷ order) → (is_among u q (p ∷ taken) ≡ true) ⊎ Among q order
    move q (inl h) = inl (or_right (is_same u q p) _ h)
    move q (inr first) = inl (or_left (is_same u q q) _ (is_itself u q))
    move q (inr (later h)) = inr h

    split : (q : Position u) → Among q order → (is_same u q p ≡ true) ⊎ (is_among u q taken ≡ true) → ⊥
    split q h (inl k) = o.0 (subst (λ x. Among x order) (same_so u q p k) h)
    split q h (inr k) = s.apart q (later h) k

goes : (u : Unfolding) (taken order : List (Position u)) (labels rest : List Label)
    → Split u taken order → Once order → Kept (Before plain u) order → labels_at u order ≡ labels ++ rest → may_go u taken labels ≡ true
goes u taken order [] rest s o k e = refl
goes u taken [] (l ∷ ls) rest s o k e = absurd (clash l e)
goes u taken (p ∷ order) (l ∷ ls) rest s o k e =
    at_some u (λ q. is_same_label (event_at plain u q).label l && (is_free u taken q && may_go u (q ∷ taken) ls)) p
    (both_so (is_same_label (event_at plain u p).label l) _ (same_label _ l (head_of _ l e))
    (both_so (is_free u taken p) _ (free u taken p order s k) (goes u (p ∷ taken) order ls rest (next u taken p order s o) o.1 k.1 (tail_of _ l e))))

-- where the test fails, no run of the unfolding begins with the labels
pub never : (u : Unfolding) (labels rest : List Label) → may_go u [] labels ≡ false → IsRun u (labels ++ rest) → ⊥
never u labels rest h r = not_so (sym h ∙ goes u [] r.order labels rest (record { each = λ q. inr (r.linear.every q); apart = λ q a e. not_so e }) r.linear.once r.linear.kept r.are)

-- ---- whole runs

-- whether the labels may come next, one after another, and nothing is left then
abbrev pub may_finish : (u : Unfolding) → List (Position u) → List Label → Bool
may_finish u taken [] = all_positions u (λ p. is_among u p taken)
may_finish u taken (l ∷ ls) = some_position u (λ p. is_same_label (event_at plain u p).label l && (is_free u taken p && may_finish u (p ∷ taken) ls))

finishes : (u : Unfolding) (taken order : List (Position u)) (labels : List Label)
    → Split u taken order → Once order → Kept (Before plain u) order → labels_at u order ≡ labels → may_finish u taken labels ≡ true
finishes u taken [] [] s o k e = at_all u (λ p. is_among u p taken) (λ p. taken_so p (s.each p))
  where
    taken_so : (p : Position u) → (is_among u p taken ≡ true) ⊎ Among p [] → is_among u p taken ≡ true
    taken_so p (inl h) = h
    taken_so p (inr h) = elim h [ ]
finishes u taken (p ∷ order) [] s o k e = absurd (clash _ (sym e))
finishes u taken [] (l ∷ ls) s o k e = absurd (clash l e)
finishes u taken (p ∷ order) (l ∷ ls) s o k e =
    at_some u (λ q. is_same_label (event_at plain u q).label l && (is_free u taken q && may_finish u (q ∷ taken) ls)) p
    (both_so (is_same_label (event_at plain u p).label l) _ (same_label _ l (head_of _ l e))
    (both_so (is_free u taken p) _ (free u taken p order s k) (finishes u (p ∷ taken) order ls (next u taken p order s o) o.1 k.1 (tail_of _ l e))))

-- where the test fails, the labels are no run of the unfolding
pub no_run : (u : Unfolding) (labels : List Label) → may_finish u [] labels ≡ false → IsRun u labels → ⊥
no_run u labels h r = not_so (sym h ∙ finishes u [] r.order labels (record { each = λ q. inr (r.linear.every q); apart = λ q a e. not_so e }) r.linear.once r.linear.kept r.are)
