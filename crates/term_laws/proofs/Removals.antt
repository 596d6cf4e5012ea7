-- Lists of numbers with members taken out: taking out one more from each, each list once, is taking out one more at the start.
use Rattle.std.specs.Prelude.{ℕ, zero, suc, Bool, true, false, ◌&&◌, ◌||◌, List, [], ◌∷◌, ◌++◌, ◌≡◌, ◌==◌, refl}
use Rattle.std.proofs.Common.{ap, sym, ◌∙◌, subst, append_assoc}
use Rattle.std.proofs.lemmas.Bool.{and_parts, eqb-true, eq-eqb}
use Rattle.chart_term.specs.Equality.{same_numbers}

-- the lists with this number before
abbrev pub with_first : ℕ → List (List ℕ) → List (List ℕ)
with_first n [] = []
with_first n (x ∷ xs) = (n ∷ x) ∷ with_first n xs

-- the lists that are left when so many members are taken out
abbrev pub removals : ℕ → List ℕ → List (List ℕ)
removals zero ns = ns ∷ []
removals (suc k) [] = []
removals (suc k) (n ∷ ns) = removals k ns ++ with_first n (removals (suc k) ns)

-- the lists that are left when one member of any of them is taken out
abbrev pub all_removed : List (List ℕ) → List (List ℕ)
all_removed [] = []
all_removed (x ∷ xs) = removals 1 x ++ all_removed xs

-- the list is left out where the test says yes
abbrev pub unless_list : Bool → List ℕ → List (List ℕ) → List (List ℕ)
unless_list true y ys = ys
unless_list false y ys = y ∷ ys

-- the lists that aren't equal to this one
abbrev pub without_list : List ℕ → List (List ℕ) → List (List ℕ)
without_list x [] = []
without_list x (y ∷ ys) = unless_list (same_numbers x y) y (without_list x ys)

-- each list once
abbrev pub once : List (List ℕ) → List (List ℕ)
once [] = []
once (x ∷ xs) = x ∷ without_list x (once xs)

-- the number isn't in the list
abbrev pub Lacks : ℕ → List ℕ → Type 0
Lacks n [] = Unit {0}
Lacks n (m ∷ ms) = ((m == n) ≡ false) × Lacks n ms

-- no number is twice in the list
abbrev pub HasNoRepeats : List ℕ → Type 0
HasNoRepeats [] = Unit {0}
HasNoRepeats (n ∷ ns) = Lacks n ns × HasNoRepeats ns

-- whether the list is among these
abbrev is_in : List (List ℕ) → List ℕ → Bool
is_in [] y = false
is_in (x ∷ xs) y = same_numbers x y || is_in xs y

-- those that aren't among the first ones
abbrev less : List (List ℕ) → List (List ℕ) → List (List ℕ)
less s [] = []
less s (y ∷ ys) = unless_list (is_in s y) y (less s ys)

-- each list has the property
abbrev pub EachList : (List ℕ → Type 0) → List (List ℕ) → Type 0
EachList P [] = Unit {0}
EachList P (x ∷ xs) = P x × EachList P xs

-- equal lists

same_is : (c d : List ℕ) → same_numbers c d ≡ true → c ≡ d
same_is [] [] h = refl
same_is (m ∷ c) (n ∷ d) h = let (p, q) = and_parts (m == n) (same_numbers c d) h in λ i. eqb-true m n p i ∷ same_is c d q i
same_is [] (n ∷ d) h = cc
same_is (m ∷ c) [] h = cc

same_self : (c : List ℕ) → same_numbers c c ≡ true
same_self [] = refl
same_self (n ∷ c) = rw (eq-eqb n n refl) (same_self c)

-- leaving out
without_app : (x : List ℕ) (a b : List (List ℕ)) → without_list x (a ++ b) ≡ without_list x a ++ without_list x b
without_app x [] b = refl
without_app x (y ∷ a) b = go (same_numbers x y) (without_app x a b)
  where
    go : (t : Bool) → without_list x (a ++ b) ≡ without_list x a ++ without_list x b → unless_list t y (without_list x (a ++ b)) ≡ unless_list t y (without_list x a) ++ without_list x b
    go true h = h
    go false h = ap (λ l. y ∷ l) h

less_app : (s a b : List (List ℕ)) → less s (a ++ b) ≡ less s a ++ less s b
less_app s [] b = refl
less_app s (y ∷ a) b = go (is_in s y) (less_app s a b)
  where
    go : (t : Bool) → less s (a ++ b) ≡ less s a ++ less s b → unless_list t y (less s (a ++ b)) ≡ unless_list t y (less s a) ++ less s b
    go true h = h
    go false h = ap (λ l. y ∷ l) h

less_nil : (ys : List (List ℕ)) → less [] ys ≡ ys
less_nil [] = refl
less_nil (y ∷ ys) = ap (λ l. y ∷ l) (less_nil ys)

less_more : (x : List ℕ) (s ys : List (List ℕ)) → less (x ∷ s) ys ≡ without_list x (less s ys)
less_more x s [] = refl
less_more x s (y ∷ ys) = go (same_numbers x y) (is_in s y) refl (less_more x s ys)
  where
    go : (t u : Bool) → same_numbers x y ≡ t → less (x ∷ s) ys ≡ without_list x (less s ys) → unless_list (t || u) y (less (x ∷ s) ys) ≡ without_list x (unless_list u y (less s ys))
    go true true e h = h
    go true false e h = rw e h
    go false true e h = h
    go false false e h = rw e (ap (λ l. y ∷ l) h)

-- a list that is left out anyway
less_without : (x : List ℕ) (s ys : List (List ℕ)) → is_in s x ≡ true → less s (without_list x ys) ≡ less s ys
less_without x s [] i = refl
less_without x s (y ∷ ys) i = go (same_numbers x y) refl (less_without x s ys i)
  where
    go : (t : Bool) → same_numbers x y ≡ t → less s (without_list x ys) ≡ less s ys → less s (unless_list t y (without_list x ys)) ≡ unless_list (is_in s y) y (less s ys)
    go true e h = h ∙ ap (λ b. unless_list b y (less s ys)) (sym (ap (is_in s) (sym (same_is x y e)) ∙ i))
    go false e h = ap (unless_list (is_in s y) y) h

-- the order of leaving out
without_less : (x : List ℕ) (s ys : List (List ℕ)) → less s (without_list x ys) ≡ without_list x (less s ys)
without_less x s [] = refl
without_less x s (y ∷ ys) = go (same_numbers x y) (is_in s y) refl refl (without_less x s ys)
  where
    go : (t u : Bool) → same_numbers x y ≡ t → is_in s y ≡ u → less s (without_list x ys) ≡ without_list x (less s ys) → less s (unless_list t y (without_list x ys)) ≡ without_list x (unless_list u y (less s ys))
    go true true e d h = h
    go true false e d h = rw e h
    go false true e d h = rw d h
    go false false e d h = rw d (rw e (ap (λ l. y ∷ l) h))

less_once : (s ys : List (List ℕ)) → less s (once ys) ≡ once (less s ys)
less_once s [] = refl
less_once s (y ∷ ys) = go (is_in s y) refl (less_once s ys)
  where
    go : (t : Bool) → is_in s y ≡ t → less s (once ys) ≡ once (less s ys) → unless_list t y (less s (without_list y (once ys))) ≡ once (unless_list t y (less s ys))
    go true e h = less_without y s (once ys) e ∙ h
    go false e h = ap (λ l. y ∷ l) (without_less y s (once ys) ∙ ap (without_list y) h)

-- of two lists of lists, those of the second that aren't in the first are new
once_app : (a b : List (List ℕ)) → once (a ++ b) ≡ once a ++ less a (once b)
once_app [] b = sym (less_nil (once b))
once_app (x ∷ a) b =
    ap (λ l. x ∷ l) (ap (without_list x) (once_app a b) ∙ without_app x (once a) (less a (once b)) ∙ ap (λ l. without_list x (once a) ++ l) (sym (less_more x a (once b))))

-- lists that begin alike
with_app : (n : ℕ) (a b : List (List ℕ)) → with_first n (a ++ b) ≡ with_first n a ++ with_first n b
with_app n [] b = refl
with_app n (x ∷ a) b = ap (λ l. (n ∷ x) ∷ l) (with_app n a b)

without_with : (n : ℕ) (x : List ℕ) (ys : List (List ℕ)) → without_list (n ∷ x) (with_first n ys) ≡ with_first n (without_list x ys)
without_with n x [] = refl
without_with n x (y ∷ ys) = go (n == n) (same_numbers x y) (eq-eqb n n refl) (without_with n x ys)
  where
    go : (t u : Bool) → t ≡ true → without_list (n ∷ x) (with_first n ys) ≡ with_first n (without_list x ys) → unless_list (t && u) (n ∷ y) (without_list (n ∷ x) (with_first n ys)) ≡ with_first n (unless_list u y (without_list x ys))
    go true true e h = h
    go true false e h = ap (λ l. (n ∷ y) ∷ l) h
    go false u e h = cc

once_with : (n : ℕ) (xs : List (List ℕ)) → once (with_first n xs) ≡ with_first n (once xs)
once_with n [] = refl
once_with n (x ∷ xs) = ap (λ l. (n ∷ x) ∷ l) (ap (without_list (n ∷ x)) (once_with n xs) ∙ without_with n x (once xs))

-- properties of each list
pub each_app : (P : List ℕ → Type 0) (a b : List (List ℕ)) → EachList P a → EachList P b → EachList P (a ++ b)
each_app P [] b h g = g
each_app P (x ∷ a) b h g = (h.0, each_app P a b h.1 g)

each_without : (P : List ℕ → Type 0) (x : List ℕ) (ys : List (List ℕ)) → EachList P ys → EachList P (without_list x ys)
each_without P x [] h = tt
each_without P x (y ∷ ys) h = go (same_numbers x y) (each_without P x ys h.1)
  where
    go : (t : Bool) → EachList P (without_list x ys) → EachList P (unless_list t y (without_list x ys))
    go true g = g
    go false g = (h.0, g)

each_once : (P : List ℕ → Type 0) (xs : List (List ℕ)) → EachList P xs → EachList P (once xs)
each_once P [] h = tt
each_once P (x ∷ xs) h = (h.0, each_without P x (once xs) (each_once P xs h.1))

in_more : (x : List ℕ) (s ys : List (List ℕ)) → EachList (λ y. is_in s y ≡ true) ys → EachList (λ y. is_in (x ∷ s) y ≡ true) ys
in_more x s [] h = tt
in_more x s (y ∷ ys) h = (go (same_numbers x y) h.0, in_more x s ys h.1)
  where
    go : (t : Bool) → is_in s y ≡ true → (t || is_in s y) ≡ true
    go true e = refl
    go false e = e

each_in : (s : List (List ℕ)) → EachList (λ y. is_in s y ≡ true) s
each_in [] = tt
each_in (x ∷ s) = (go (same_numbers x x) (same_self x), in_more x s s (each_in s))
  where
    go : (t : Bool) → t ≡ true → (t || is_in s x) ≡ true
    go true e = refl
    go false e = cc

-- numbers that aren't there
lacks_with : (n m : ℕ) (xs : List (List ℕ)) → (m == n) ≡ false → EachList (Lacks n) xs → EachList (Lacks n) (with_first m xs)
lacks_with n m [] e h = tt
lacks_with n m (x ∷ xs) e h = ((e, h.0), lacks_with n m xs e h.1)

lacks_removals : (n k : ℕ) (ns : List ℕ) → Lacks n ns → EachList (Lacks n) (removals k ns)
lacks_removals n zero ns h = (h, tt)
lacks_removals n (suc k) [] h = tt
lacks_removals n (suc k) (m ∷ ns) h =
    each_app (Lacks n) (removals k ns) (with_first m (removals (suc k) ns)) (lacks_removals n k ns h.1) (lacks_with n m (removals (suc k) ns) h.0 (lacks_removals n (suc k) ns h.1))

lacks_all : (n : ℕ) (xs : List (List ℕ)) → EachList (Lacks n) xs → EachList (Lacks n) (all_removed xs)
lacks_all n [] h = tt
lacks_all n (x ∷ xs) h = each_app (Lacks n) (removals 1 x) (all_removed xs) (lacks_removals n 1 x h.0) (lacks_all n xs h.1)

not_in : (n : ℕ) (s : List (List ℕ)) → EachList (Lacks n) s → (y : List ℕ) → is_in s (n ∷ y) ≡ false
not_in n [] h y = refl
not_in n ([] ∷ s) h y = not_in n s h.1 y
not_in n ((m ∷ x) ∷ s) h y = go (m == n) h.0.0 (not_in n s h.1 y)
  where
    go : (t : Bool) → t ≡ false → is_in s (n ∷ y) ≡ false → ((t && same_numbers x y) || is_in s (n ∷ y)) ≡ false
    go true e g = cc
    go false e g = g

less_with : (n : ℕ) (s ys : List (List ℕ)) → ((y : List ℕ) → is_in s (n ∷ y) ≡ false) → less s (with_first n ys) ≡ with_first n ys
less_with n s [] f = refl
less_with n s (y ∷ ys) f = rw (f y) (ap (λ l. (n ∷ y) ∷ l) (less_with n s ys f))

-- taking out one more
all_app : (a b : List (List ℕ)) → all_removed (a ++ b) ≡ all_removed a ++ all_removed b
all_app [] b = refl
all_app (x ∷ a) b = ap (λ l. removals 1 x ++ l) (all_app a b) ∙ sym (append_assoc (removals 1 x) (all_removed a) (all_removed b))

less_all : (n : ℕ) (s xs : List (List ℕ)) → ((y : List ℕ) → is_in s (n ∷ y) ≡ false) → EachList (λ y. is_in s y ≡ true) xs → less s (all_removed (with_first n xs)) ≡ with_first n (all_removed xs)
less_all n s [] f h = refl
less_all n s (x ∷ xs) f h =
    ap (λ b. unless_list b x (less s (with_first n (removals 1 x) ++ all_removed (with_first n xs)))) h.0
    ∙ less_app s (with_first n (removals 1 x)) (all_removed (with_first n xs))
    ∙ (λ i. less_with n s (removals 1 x) f i ++ less_all n s xs f h.1 i)
    ∙ sym (with_app n (removals 1 x) (all_removed xs))

-- of the lists of which so many members were taken out, one more is taken out
pub removed_again : (k : ℕ) (ns : List ℕ) → HasNoRepeats ns → once (all_removed (removals k ns)) ≡ removals (suc k) ns
removed_again zero [] h = refl
removed_again zero (n ∷ ns) h =
    once_app (ns ∷ []) (with_first n (removals 1 ns) ++ [])
    ∙ ap (λ l. ns ∷ less (ns ∷ []) l) (ap once (sym (with_app n (removals 1 ns) [])) ∙ once_with n (removals 1 ns ++ []) ∙ ap (with_first n) (removed_again zero ns h.1))
    ∙ ap (λ l. ns ∷ l) (less_with n (ns ∷ []) (removals 1 ns) (not_in n (ns ∷ []) (h.0, tt)))
removed_again (suc k) [] h = refl
removed_again (suc k) (n ∷ ns) h =
    let a = all_removed (removals k ns) in
    let r = removals (suc k) ns in
    let e : once a ≡ r = removed_again k ns h.1 in
    let f : (y : List ℕ) → is_in a (n ∷ y) ≡ false = not_in n a (lacks_all n (removals k ns) (lacks_removals n k ns h.0)) in
    let g : EachList (λ y. is_in a y ≡ true) r = subst (EachList (λ y. is_in a y ≡ true)) e (each_once (λ y. is_in a y ≡ true) a (each_in a)) in
    ap once (all_app (removals k ns) (with_first n r))
    ∙ once_app a (all_removed (with_first n r))
    ∙ (λ i. e i ++ (less_once a (all_removed (with_first n r)) ∙ ap once (less_all n a r f g) ∙ once_with n (all_removed r) ∙ ap (with_first n) (removed_again (suc k) ns h.1)) i)
