-- Tables of names, the test of a name in one, and lists of different names.
use Rattle.std.proofs.Common.{◌≡◌, ◌<◌, ◌+◌, ◌⊎◌, inl, inr, List, ℕ, length, ◌++◌, [], ◌∷◌, arith, sym, refl, ap, subst, ◌∙◌, Some, None, Bool, true, false, nat_lt, cond, not, ◌||◌, if◌then◌else◌, fold, append_assoc}
use Rattle.std.proofs.lemmas.Bool.{ltb-true, lt-ltb, or_cases, or_left, or_right, true≢false, false_from_ne_true}
use Rattle.std.proofs.lemmas.List.{append-nil}
use Rattle.std.proofs.lemmas.Slice.Eq.{bytes_eq-Decides}
use Rattle.std.specs.List.{position, list_any, prefix_len}
use Rattle.std.specs.Option.{is_some}
use Rattle.std.specs.Str.{bytes_eq}
use Rattle.msc_base.specs.Lists.{AreDifferent, IsAmong}
use Rattle.msc_base.specs.NameTables.{with_name}

pub one_from_any : (names : List (List ℕ)) (n : List ℕ) → list_any (bytes_eq n) names ≡ true → IsAmong names n
one_from_any [] n h = absurd (true≢false (sym h))
one_from_any (w ∷ ws) n h = elim (or_cases (bytes_eq n w) (list_any (bytes_eq n) ws) h) [
  | inl e ↦ inl ((bytes_eq-Decides n w).0 e)
  | inr r ↦ inr (one_from_any ws n r)
]

pub any_from_one : (names : List (List ℕ)) (n : List ℕ) → IsAmong names n → list_any (bytes_eq n) names ≡ true
any_from_one [] n h = absurd h
any_from_one (w ∷ ws) n (inl e) = or_left (bytes_eq n w) (list_any (bytes_eq n) ws) ((bytes_eq-Decides n w).1 e)
any_from_one (w ∷ ws) n (inr r) = or_right (bytes_eq n w) (list_any (bytes_eq n) ws) (any_from_one ws n r)

-- where a test passes first
module _ (p : List ℕ → Bool) where
  found_below : (xs : List (List ℕ)) → list_any p xs ≡ true → prefix_len (λ x. not (p x)) xs < length xs
  found_below [] h = absurd (true≢false (sym h))
  found_below (x ∷ xs) h = choose (p x) refl (found_below xs)
    where
      choose : (b : Bool) → p x ≡ b → (list_any p xs ≡ true → prefix_len (λ y. not (p y)) xs < length xs) → cond (not b) (1 + prefix_len (λ y. not (p y)) xs) 0 < length (x ∷ xs)
      choose true e below = omega arith
      choose false e below = let there : list_any p xs ≡ true = rw e at h in omega (arith, below there)

  below_found : (xs : List (List ℕ)) → prefix_len (λ x. not (p x)) xs < length xs → list_any p xs ≡ true
  below_found [] h = absurd (omega arith)
  below_found (x ∷ xs) h = choose (p x) refl (below_found xs)
    where
      choose : (b : Bool) → p x ≡ b → (prefix_len (λ y. not (p y)) xs < length xs → list_any p xs ≡ true) → list_any p (x ∷ xs) ≡ true
      choose true e found = or_left (p x) (list_any p xs) e
      choose false e found =
          let less : cond (not false) (1 + prefix_len (λ y. not (p y)) xs) 0 < length (x ∷ xs) = rw e at h in
          or_right (p x) (list_any p xs) (found (omega arith))

  some_from_any : (xs : List (List ℕ)) → list_any p xs ≡ true → is_some (position p xs) ≡ true
  some_from_any xs h = let e : nat_lt (prefix_len (λ x. not (p x)) xs) (length xs) ≡ true = lt-ltb _ _ (found_below xs h) in rw e refl

  any_from_some : (xs : List (List ℕ)) → is_some (position p xs) ≡ true → list_any p xs ≡ true
  any_from_some xs h = choose (nat_lt (prefix_len (λ x. not (p x)) xs) (length xs)) refl h
    where
      choose : (b : Bool) → nat_lt (prefix_len (λ x. not (p x)) xs) (length xs) ≡ b → is_some (cond b (Some (prefix_len (λ x. not (p x)) xs)) None) ≡ true → list_any p xs ≡ true
      choose true e h = below_found xs (ltb-true _ _ e)
      choose false e h = absurd (true≢false (sym h))

  -- a name has a number where the table has it
  pub numbered : (xs : List (List ℕ)) → is_some (position p xs) ≡ list_any p xs
  numbered xs = by (list_any p xs) refl
    where
      by : (b : Bool) → list_any p xs ≡ b → is_some (position p xs) ≡ b
      by true e = some_from_any xs e
      by false e = false_from_ne_true _ (λ t. true≢false (sym (any_from_some xs t) ∙ e))

pub one_of_number : (table : List (List ℕ)) (n : List ℕ) → is_some (position (bytes_eq n) table) ≡ true → IsAmong table n
one_of_number table n h = one_from_any table n (any_from_some (bytes_eq n) table h)

pub number_of_one : (table : List (List ℕ)) (n : List ℕ) → IsAmong table n → is_some (position (bytes_eq n) table) ≡ true
number_of_one table n h = some_from_any (bytes_eq n) table (any_from_one table n h)

-- a name that the table has leaves it as it is
pub with_old : (table : List (List ℕ)) (n : List ℕ) → IsAmong table n → with_name table n ≡ table
with_old table n h = rw (any_from_one table n h) refl

-- another stands at its end
pub with_new : (table : List (List ℕ)) (n : List ℕ) → (IsAmong table n → ⊥) → with_name table n ≡ table ++ n ∷ []
with_new table n none = choose (list_any (bytes_eq n) table) refl
  where
    choose : (b : Bool) → list_any (bytes_eq n) table ≡ b → cond b table (table ++ n ∷ []) ≡ table ++ n ∷ []
    choose true e = absurd (none (one_from_any table n e))
    choose false e = refl

-- the test of a name in a list with one more
any_snoc : (p : List ℕ → Bool) (xs : List (List ℕ)) (x : List ℕ) → list_any p (xs ++ x ∷ []) ≡ (list_any p xs || p x)
any_snoc p [] x = by (p x)
  where
    by : (b : Bool) → (b || false) ≡ (false || b)
    by true = refl
    by false = refl
any_snoc p (y ∷ xs) x = ap (λ b. p y || b) (any_snoc p xs x) ∙ by (p y) (list_any p xs) (p x)
  where
    by : (a b c : Bool) → (a || (b || c)) ≡ ((a || b) || c)
    by true b c = refl
    by false b c = refl

-- a name that the list has is found by the test of an equal one
found_too : (names : List (List ℕ)) (m n : List ℕ) → list_any (bytes_eq n) names ≡ true → bytes_eq m n ≡ true → list_any (bytes_eq m) names ≡ true
found_too names m n h e = let same : m ≡ n = (bytes_eq-Decides m n).0 e in ap (λ (x : List ℕ). list_any (bytes_eq x) names) same ∙ h

absorbed : (a b : Bool) → (b ≡ true → a ≡ true) → a ≡ (a || b)
absorbed true b h = refl
absorbed false true h = h refl
absorbed false false h = refl

pub any_with_name : (names : List (List ℕ)) (n m : List ℕ) → list_any (bytes_eq m) (with_name names n) ≡ (list_any (bytes_eq m) names || bytes_eq m n)
any_with_name names n m = by (list_any (bytes_eq n) names) refl
  where
    by : (b : Bool) → list_any (bytes_eq n) names ≡ b → list_any (bytes_eq m) (if b then names else names ++ n ∷ []) ≡ (list_any (bytes_eq m) names || bytes_eq m n)
    by true e = absorbed (list_any (bytes_eq m) names) (bytes_eq m n) (found_too names m n e)
    by false e = any_snoc (bytes_eq m) names n

pub any_folded : (names more : List (List ℕ)) (m : List ℕ) → list_any (bytes_eq m) (fold with_name names more) ≡ (list_any (bytes_eq m) names || list_any (bytes_eq m) more)
any_folded names [] m = by (list_any (bytes_eq m) names)
  where
    by : (a : Bool) → a ≡ (a || false)
    by true = refl
    by false = refl
any_folded names (n ∷ more) m =
    any_folded (with_name names n) more m ∙ ap (λ b. b || list_any (bytes_eq m) more) (any_with_name names n m) ∙ by (list_any (bytes_eq m) names) (bytes_eq m n) (list_any (bytes_eq m) more)
  where
    by : (a b c : Bool) → ((a || b) || c) ≡ (a || (b || c))
    by true b c = refl
    by false b c = refl

-- ---- different names

among_snoc : (names : List (List ℕ)) (n m : List ℕ) → IsAmong (names ++ n ∷ []) m → IsAmong names m ⊎ (m ≡ n)
among_snoc [] n m (inl e) = inr e
among_snoc [] n m (inr h) = absurd h
among_snoc (w ∷ ws) n m (inl e) = inl (inl e)
among_snoc (w ∷ ws) n m (inr h) = elim (among_snoc ws n m h) [ inl r ↦ inl (inr r) | inr e ↦ inr e ]

-- names that differ, and that a table lacks, stand behind it as they are
behind : (table names : List (List ℕ)) → AreDifferent names → ((n : List ℕ) → IsAmong names n → IsAmong table n → ⊥) → fold with_name table names ≡ table ++ names
behind table [] d apart = sym (append-nil table)
behind table (n ∷ names) d apart =
    ap (λ (t : List (List ℕ)). fold with_name t names) (with_new table n (apart n (inl refl)))
    ∙ behind (table ++ n ∷ []) names d.1 (λ m h k. elim (among_snoc table n m k) [ inl t ↦ apart m (inr h) t | inr e ↦ d.0 (subst (IsAmong names) e h) ])
    ∙ append_assoc table (n ∷ []) names

pub different_kept : (names : List (List ℕ)) → AreDifferent names → fold with_name [] names ≡ names
different_kept names d = behind [] names d (λ n h k. k)
