-- A test for woven lists.
use Rattle.std.proofs.Common.{◌≡◌, ◌⊎◌, ℕ, zero, suc, ◌<◌, ◌≤◌, Bool, true, false, not, ◌&&◌, ◌||◌, List, [], ◌∷◌, ◌++◌, Some, take, slice_get, refl, sym, ◌∙◌, subst, inl, inr, nat_eq, if◌then◌else◌, append_assoc, append-nil, arith}
use Rattle.std.specs.Prelude.{nat_lt}
use Rattle.std.specs.Str.{bytes_eq}
use Rattle.std.proofs.lemmas.Bool.Decides.{Decides-ltb, Decides-eqb}
use Rattle.std.proofs.lemmas.Option.{same_Some}
use Rattle.std.proofs.lemmas.Slice.Eq.{bytes_eq-Decides}
use Rattle.column_order.specs.Counts.{has}
use Rattle.column_order.specs.Orders.{IsDue, IsNext}
use Rattle.column_order.specs.Weaving.{ColumnOrders, ColumnsOrder, restricted, IsWoven}
use Rattle.msc_base.specs.Lists.{AreDifferent, IsAmong}
use Rattle.msc_meaning.proofs.Deciding.{and_left, and_right, not_so, not_both, either_so}
use Rattle.msc_meaning.proofs.Beginnings.{both_so, not_true}

-- ---- membership

if_so : (b c : Bool) → (if b then true else c) ≡ true → (b ≡ true) ⊎ (c ≡ true)
if_so true c h = inl refl
if_so false c h = inr h

so_if_left : (b c : Bool) → b ≡ true → (if b then true else c) ≡ true
so_if_left true c h = refl
so_if_left false c h = absurd (not_so h)

so_if_right : (b c : Bool) → c ≡ true → (if b then true else c) ≡ true
so_if_right true c h = refl
so_if_right false c h = h

pub has_so : (xs : List ℕ) (x : ℕ) → has xs x ≡ true → IsAmong xs x
has_so [] x h = not_so h
has_so (y ∷ ys) x h = go (has_so ys x) (if_so (nat_eq y x) (has ys x) h)
  where
    go : (has ys x ≡ true → IsAmong ys x) → (nat_eq y x ≡ true) ⊎ (has ys x ≡ true) → (x ≡ y) ⊎ IsAmong ys x
    go f (inl e) = inl (sym ((Decides-eqb y x).0 e))
    go f (inr k) = inr (f k)

pub so_has : (xs : List ℕ) (x : ℕ) → IsAmong xs x → has xs x ≡ true
so_has [] x h = absurd h
so_has (y ∷ ys) x (inl e) = so_if_left (nat_eq y x) (has ys x) ((Decides-eqb y x).1 (sym e))
so_has (y ∷ ys) x (inr h) = so_if_right (nat_eq y x) (has ys x) (so_has ys x h)

-- ---- what stands before

abbrev pub before_list : List ℕ → ℕ → List ℕ
before_list [] x = []
before_list (c ∷ cs) x = if has cs x then c ∷ before_list cs x else before_list cs x

pub before_so : (cs : List ℕ) (y x : ℕ) → ColumnOrders cs y x → IsAmong (before_list cs x) y
before_so [] y x h = h
before_so (c ∷ cs) y x h = go (has cs x) refl (before_so cs y x) h
  where
    go : (b : Bool) → has cs x ≡ b → (ColumnOrders cs y x → IsAmong (before_list cs x) y) → ((c ≡ y) × IsAmong cs x) ⊎ ColumnOrders cs y x → IsAmong (if b then c ∷ before_list cs x else before_list cs x) y
    go true e f (inl k) = inl (sym k.0)
    go true e f (inr k) = inr (f k)
    go false e f (inl k) = absurd (not_so (sym e ∙ so_has cs x k.1))
    go false e f (inr k) = f k

pub so_before : (cs : List ℕ) (y x : ℕ) → IsAmong (before_list cs x) y → ColumnOrders cs y x
so_before [] y x h = h
so_before (c ∷ cs) y x h = go (has cs x) refl (so_before cs y x) h
  where
    go : (b : Bool) → has cs x ≡ b → (IsAmong (before_list cs x) y → ColumnOrders cs y x) → IsAmong (if b then c ∷ before_list cs x else before_list cs x) y → ((c ≡ y) × IsAmong cs x) ⊎ ColumnOrders cs y x
    go true e f (inl k) = inl (sym k, has_so cs x e)
    go true e f (inr k) = inr (f k)
    go false e f k = inr (f k)

abbrev pub ready_in : List ℕ → List ℕ → Bool
ready_in prefix [] = true
ready_in prefix (y ∷ ys) = has prefix y && ready_in prefix ys

ready_so : (prefix ys : List ℕ) → ready_in prefix ys ≡ true → (y : ℕ) → IsAmong ys y → IsAmong prefix y
ready_so prefix [] h y k = absurd k
ready_so prefix (z ∷ ys) h y (inl e) = has_so prefix y (subst (λ w. has prefix w ≡ true) (sym e) (and_left (has prefix z) _ h))
ready_so prefix (z ∷ ys) h y (inr k) = ready_so prefix ys (and_right (has prefix z) _ h) y k

so_ready : (prefix ys : List ℕ) → ((y : ℕ) → IsAmong ys y → IsAmong prefix y) → ready_in prefix ys ≡ true
so_ready prefix [] f = refl
so_ready prefix (z ∷ ys) f = both_so (has prefix z) _ (so_has prefix z (f z (inl refl))) (so_ready prefix ys (λ y k. f y (inr k)))

abbrev pub is_ready : List (List ℕ) → List ℕ → ℕ → Bool
is_ready [] prefix x = true
is_ready (c ∷ cs) prefix x = ready_in prefix (before_list c x) && is_ready cs prefix x

all_ready_so : (cs : List (List ℕ)) (prefix : List ℕ) (x : ℕ) → is_ready cs prefix x ≡ true → (y : ℕ) → ColumnsOrder cs y x → IsAmong prefix y
all_ready_so [] prefix x h y k = absurd k
all_ready_so (c ∷ cs) prefix x h y (inl k) = ready_so prefix (before_list c x) (and_left (ready_in prefix (before_list c x)) _ h) y (before_so c y x k)
all_ready_so (c ∷ cs) prefix x h y (inr k) = all_ready_so cs prefix x (and_right (ready_in prefix (before_list c x)) _ h) y k

so_all_ready : (cs : List (List ℕ)) (prefix : List ℕ) (x : ℕ) → ((y : ℕ) → ColumnsOrder cs y x → IsAmong prefix y) → is_ready cs prefix x ≡ true
so_all_ready [] prefix x f = refl
so_all_ready (c ∷ cs) prefix x f = both_so (ready_in prefix (before_list c x)) _ (so_ready prefix (before_list c x) (λ y k. f y (inl (so_before c y x k)))) (so_all_ready cs prefix x (λ y k. f y (inr k)))

-- ---- due

abbrev pub is_due : ℕ → List (List ℕ) → List ℕ → ℕ → Bool
is_due n cs prefix x = nat_lt x n && (not (has prefix x) && is_ready cs prefix x)

due_so : (n : ℕ) (cs : List (List ℕ)) (prefix : List ℕ) (x : ℕ) → is_due n cs prefix x ≡ true → IsDue n (ColumnsOrder cs) prefix x
due_so n cs prefix x h = record {
  inside = (Decides-ltb x n).0 (and_left (nat_lt x n) _ h);
  remains = λ k. not_both (has prefix x) (and_left (not (has prefix x)) _ (and_right (nat_lt x n) _ h)) (so_has prefix x k);
  ready = all_ready_so cs prefix x (and_right (not (has prefix x)) _ (and_right (nat_lt x n) _ h));
}

so_due : (n : ℕ) (cs : List (List ℕ)) (prefix : List ℕ) (x : ℕ) → IsDue n (ColumnsOrder cs) prefix x → is_due n cs prefix x ≡ true
so_due n cs prefix x d = both_so (nat_lt x n) _ ((Decides-ltb x n).1 d.inside) (both_so (not (has prefix x)) _ (not_true (has prefix x) (λ k. d.remains (has_so prefix x k))) (so_all_ready cs prefix x d.ready))

-- ---- all numbers below n

abbrev pub all_below : ℕ → (ℕ → Bool) → Bool
all_below zero f = true
all_below (suc n) f = f n && all_below n f

pub below_so : (n : ℕ) (f : ℕ → Bool) → all_below n f ≡ true → (x : ℕ) → x < n → f x ≡ true
below_so zero f h x k = absurd (none x k)
  where
    none : (x : ℕ) → x < 0 → ⊥
    none x k = omega arith
below_so (suc n) f h x k = go (below_so n f (and_right (f n) _ h) x) (last x n k)
  where
    last : (x n : ℕ) → x < suc n → (x ≡ n) ⊎ (x < n)
    last x n k = grind arith

    go : (x < n → f x ≡ true) → (x ≡ n) ⊎ (x < n) → f x ≡ true
    go g (inl e) = subst (λ y. f y ≡ true) (sym e) (and_left (f n) _ h)
    go g (inr l) = g l

-- ---- the earliest

abbrev pub is_next : ℕ → List (List ℕ) → List ℕ → ℕ → Bool
is_next n cs prefix x = is_due n cs prefix x && all_below n (λ y. not (is_due n cs prefix y) || not (nat_lt y x))

next_so : (n : ℕ) (cs : List (List ℕ)) (prefix : List ℕ) (x : ℕ) → is_next n cs prefix x ≡ true → IsNext n (ColumnsOrder cs) prefix x
next_so n cs prefix x h = record { due = due_so n cs prefix x (and_left (is_due n cs prefix x) _ h); earliest = λ y d. go y d (either_so (not (is_due n cs prefix y)) _ (all y d.inside)) }
  where
    all : (y : ℕ) → y < n → (not (is_due n cs prefix y) || not (nat_lt y x)) ≡ true
    all y k = below_so n (λ z. not (is_due n cs prefix z) || not (nat_lt z x)) (and_right (is_due n cs prefix x) _ h) y k

    not_less : (y : ℕ) → (y < x → ⊥) → x ≤ y
    not_less y f = grind arith

    go : (y : ℕ) → IsDue n (ColumnsOrder cs) prefix y → (not (is_due n cs prefix y) ≡ true) ⊎ (not (nat_lt y x) ≡ true) → x ≤ y
    go y d (inl e) = absurd (not_both (is_due n cs prefix y) e (so_due n cs prefix y d))
    go y d (inr e) = not_less y (λ l. not_both (nat_lt y x) e ((Decides-ltb y x).1 l))

abbrev pub are_next : ℕ → List (List ℕ) → List ℕ → List ℕ → Bool
are_next n cs prefix [] = true
are_next n cs prefix (x ∷ xs) = is_next n cs prefix x && are_next n cs (prefix ++ x ∷ []) xs

each_next : (n : ℕ) (cs : List (List ℕ)) (prefix xs : List ℕ) → are_next n cs prefix xs ≡ true → (i x : ℕ) → slice_get xs i ≡ Some x → IsNext n (ColumnsOrder cs) (prefix ++ take i xs) x
each_next n cs prefix [] h zero x e = absurd (nothing e)
  where
    nothing : slice_get {X = ℕ} [] zero ≡ Some x → ⊥
    nothing e = cc
each_next n cs prefix [] h (suc i) x e = absurd (nothing e)
  where
    nothing : slice_get {X = ℕ} [] (suc i) ≡ Some x → ⊥
    nothing e = cc
each_next n cs prefix (y ∷ xs) h zero x e =
    let P : List ℕ → Type 0 = λ f. IsNext n (ColumnsOrder cs) f x in
    let Q : ℕ → Type 0 = λ z. IsNext n (ColumnsOrder cs) prefix z in
    subst P (sym (append-nil prefix)) (subst Q (same_Some y x e) (next_so n cs prefix y (and_left (is_next n cs prefix y) _ h)))
each_next n cs prefix (y ∷ xs) h (suc i) x e =
    let P : List ℕ → Type 0 = λ f. IsNext n (ColumnsOrder cs) f x in
    subst P (append_assoc prefix (y ∷ []) (take i xs)) (each_next n cs (prefix ++ y ∷ []) xs (and_right (is_next n cs prefix y) _ h) i x e)

-- ---- woven

abbrev pub are_inside : ℕ → List ℕ → Bool
are_inside n [] = true
are_inside n (x ∷ xs) = nat_lt x n && are_inside n xs

inside_so : (n : ℕ) (xs : List ℕ) → are_inside n xs ≡ true → (x : ℕ) → IsAmong xs x → x < n
inside_so n [] h x k = absurd k
inside_so n (y ∷ ys) h x (inl e) = subst (λ z. z < n) (sym e) ((Decides-ltb y n).0 (and_left (nat_lt y n) _ h))
inside_so n (y ∷ ys) h x (inr k) = inside_so n ys (and_right (nat_lt y n) _ h) x k

abbrev pub are_different : List ℕ → Bool
are_different [] = true
are_different (x ∷ xs) = not (has xs x) && are_different xs

different_so : (xs : List ℕ) → are_different xs ≡ true → AreDifferent xs
different_so [] h = tt
different_so (x ∷ xs) h = (λ k. not_both (has xs x) (and_left (not (has xs x)) _ h) (so_has xs x k), different_so xs (and_right (not (has xs x)) _ h))

abbrev pub are_restricted : List (List ℕ) → List ℕ → Bool
are_restricted [] order = true
are_restricted (c ∷ cs) order = bytes_eq (restricted c order) c && are_restricted cs order

restricted_so : (cs : List (List ℕ)) (order : List ℕ) → are_restricted cs order ≡ true → (column : List ℕ) → IsAmong cs column → restricted column order ≡ column
restricted_so [] order h column k = absurd k
restricted_so (c ∷ cs) order h column (inl e) = subst (λ d. restricted d order ≡ d) (sym e) ((bytes_eq-Decides (restricted c order) c).0 (and_left (bytes_eq (restricted c order) c) _ h))
restricted_so (c ∷ cs) order h column (inr k) = restricted_so cs order (and_right (bytes_eq (restricted c order) c) _ h) column k

-- whether the list is the woven one of so many items in these columns
abbrev pub is_woven : ℕ → List (List ℕ) → List ℕ → Bool
is_woven n cs order = are_inside n order && (all_below n (has order) && (are_different order && (are_restricted cs order && are_next n cs [] order)))

pub woven_so : (n : ℕ) (cs : List (List ℕ)) (order : List ℕ) → is_woven n cs order ≡ true → IsWoven n cs order
woven_so n cs order h = record {
  inside = inside_so n order (and_left (are_inside n order) _ h);
  every = λ x k. has_so order x (below_so n (has order) (and_left (all_below n (has order)) _ second) x k);
  once = different_so order (and_left (are_different order) _ third);
  columns_are = restricted_so cs order (and_left (are_restricted cs order) _ fourth);
  earliest = λ i x e. each_next n cs [] order (and_right (are_restricted cs order) _ fourth) i x e;
}
  where
    second : (all_below n (has order) && (are_different order && (are_restricted cs order && are_next n cs [] order))) ≡ true
    second = and_right (are_inside n order) _ h

    third : (are_different order && (are_restricted cs order && are_next n cs [] order)) ≡ true
    third = and_right (all_below n (has order)) _ second

    fourth : (are_restricted cs order && are_next n cs [] order) ≡ true
    fourth = and_right (are_different order) _ third
