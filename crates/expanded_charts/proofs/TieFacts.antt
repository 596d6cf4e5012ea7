-- The pairs of numbers of a level: those by tags are pairs of numbers of events and of gates, and the numbers of events are found by
-- their numbers in their chart.
use Rattle.std.specs.List.{slice_get}
use Rattle.std.specs.Ordering.{is_eq, nat_cmp}
use Rattle.std.specs.Prelude.{ℕ, ◌+◌, ◌==◌, cond, Bool, true, false, List, [], ◌∷◌, ◌++◌, Option, Some, None, filter, map, take}
use Rattle.std.proofs.Common.{◌≡◌, refl, sym, ◌∙◌, ap, subst}
use Rattle.std.proofs.lemmas.Bool.Decides.{Decides-eqb}
use Rattle.msc_base.specs.declared.label.Pair.{Pair}
use Rattle.msc_unfolding.specs.Unfoldings.{Tag, Own, Via, On, is_same_tag}
use Rattle.msc_meaning.specs.Ties.{own_ties}
use Rattle.expanded_charts.specs.Expanding.{Shown, numbers_with, pairs_between, tied_pairs}
use Rattle.expanded_charts.specs.ShownGates.{gates_in, own_numbers}
use Rattle.expanded_charts.specs.TieNumbers.{AreNumbers, listed, found_pair, found_pairs, gate_pairs, number_if, numbers_at, numbers_of, tie_pairs}
use Rattle.level_surroundings.proofs.Dropped.{take_step}
use Rattle.level_surroundings.proofs.KeyFacts.{is_equal, unequal}

-- ---- lists

app_nil : {X : Type 0} (a : List X) → a ++ [] ≡ a
app_nil [] = refl
app_nil (x ∷ a) = ap (λ l. x ∷ l) (app_nil a)

app_assoc : {X : Type 0} (a b c : List X) → (a ++ b) ++ c ≡ a ++ (b ++ c)
app_assoc [] b c = refl
app_assoc (x ∷ a) b c = ap (λ l. x ∷ l) (app_assoc a b c)

-- ---- by tags

if_kept : (b : Bool) (p : ℕ × Tag) (l : Shown) → map (λ (q : ℕ × Tag). q.0) (cond b (p ∷ l) l) ≡ number_if b p.0 (map (λ (q : ℕ × Tag). q.0) l)
if_kept true p l = refl
if_kept false p l = refl

pub number_with : (a : Tag) (p : ℕ × Tag) (sh : Shown) → numbers_with a (p ∷ sh) ≡ number_if (is_same_tag p.1 a) p.0 (numbers_with a sh)
number_with a p sh = if_kept (is_same_tag p.1 a) p (filter (λ (q : ℕ × Tag). is_same_tag q.1 a) sh)

own_with : (k m : ℕ) (a : Tag) (sh : Shown) → numbers_of k (own_numbers sh) ≡ numbers_with (Own k) sh → numbers_of k (own_numbers ((m, a) ∷ sh)) ≡ number_if (is_same_tag a (Own k)) m (numbers_with (Own k) sh)
own_with k m (Own n) sh h = ap (number_if (n == k) m) h
own_with k m (Via g) sh h = h
own_with k m (On y g) sh h = h

own_is : (k : ℕ) (sh : Shown) → numbers_of k (own_numbers sh) ≡ numbers_with (Own k) sh
own_is k [] = refl
own_is k (p ∷ sh) = own_with k p.0 p.1 sh (own_is k sh) ∙ sym (number_with (Own k) p sh)

via_with : (g : List ℕ) (m : ℕ) (a : Tag) (sh : Shown) → numbers_with (Via g) (gates_in sh) ≡ numbers_with (Via g) sh → numbers_with (Via g) (gates_in ((m, a) ∷ sh)) ≡ number_if (is_same_tag a (Via g)) m (numbers_with (Via g) sh)
via_with g m (Own n) sh h = h
via_with g m (Via f) sh h = number_with (Via g) (m, Via f) (gates_in sh) ∙ ap (number_if (is_same_tag (Via f) (Via g)) m) h
via_with g m (On y f) sh h = number_with (Via g) (m, On y f) (gates_in sh) ∙ h

via_is : (g : List ℕ) (sh : Shown) → numbers_with (Via g) (gates_in sh) ≡ numbers_with (Via g) sh
via_is g [] = refl
via_is g (p ∷ sh) = via_with g p.0 p.1 sh (via_is g sh) ∙ sym (number_with (Via g) p sh)

on_with : (z g : List ℕ) (m : ℕ) (a : Tag) (sh : Shown) → numbers_with (On z g) (gates_in sh) ≡ numbers_with (On z g) sh → numbers_with (On z g) (gates_in ((m, a) ∷ sh)) ≡ number_if (is_same_tag a (On z g)) m (numbers_with (On z g) sh)
on_with z g m (Own n) sh h = h
on_with z g m (Via f) sh h = number_with (On z g) (m, Via f) (gates_in sh) ∙ h
on_with z g m (On y f) sh h = number_with (On z g) (m, On y f) (gates_in sh) ∙ ap (number_if (is_same_tag (On y f) (On z g)) m) h

on_is : (z g : List ℕ) (sh : Shown) → numbers_with (On z g) (gates_in sh) ≡ numbers_with (On z g) sh
on_is z g [] = refl
on_is z g (p ∷ sh) = on_with z g p.0 p.1 sh (on_is z g sh) ∙ sym (number_with (On z g) p sh)

numbers_are : (a : Tag) (sh : Shown) → numbers_at (own_numbers sh) (gates_in sh) a ≡ numbers_with a sh
numbers_are (Own k) sh = own_is k sh
numbers_are (Via g) sh = via_is g sh
numbers_are (On z g) sh = on_is z g sh

pairs_are : (sh : Shown) (ts : List (Tag × Tag)) → gate_pairs (own_numbers sh) (gates_in sh) ts ≡ tied_pairs sh ts
pairs_are sh [] = refl
pairs_are sh (t ∷ ts) =
    let rest = gate_pairs (own_numbers sh) (gates_in sh) ts in
    ap (λ ms. pairs_between ms (numbers_at (own_numbers sh) (gates_in sh) t.1) ++ rest) (numbers_are t.0 sh)
    ∙ (ap (λ ns. pairs_between (numbers_with t.0 sh) ns ++ rest) (numbers_are t.1 sh) ∙ ap (λ l. pairs_between (numbers_with t.0 sh) (numbers_with t.1 sh) ++ l) (pairs_are sh ts))

own_pairs : (own : List Pair) (gates : Shown) (ts : List Pair) → tie_pairs own ts ≡ gate_pairs own gates (own_ties ts)
own_pairs own gates [] = refl
own_pairs own gates (t ∷ ts) = ap (λ l. pairs_between (numbers_of t.first own) (numbers_of t.second own) ++ l) (own_pairs own gates ts)

pub gate_pairs_both : (own : List Pair) (gates : Shown) (ts us : List (Tag × Tag)) → gate_pairs own gates (ts ++ us) ≡ gate_pairs own gates ts ++ gate_pairs own gates us
gate_pairs_both own gates [] us = refl
gate_pairs_both own gates (t ∷ ts) us =
    let here = pairs_between (numbers_at own gates t.0) (numbers_at own gates t.1) in
    ap (λ l. here ++ l) (gate_pairs_both own gates ts us) ∙ sym (app_assoc here (gate_pairs own gates ts) (gate_pairs own gates us))

-- the pairs of events and the ties at gates of a level, by what is shown of both kinds
pub level_pairs_are : (own : List Pair) (gates : Shown) (pairs : List Pair) (ties : List (Tag × Tag)) (sh : Shown) → own ≡ own_numbers sh → gates ≡ gates_in sh
    → tie_pairs own pairs ++ gate_pairs own gates ties ≡ tied_pairs sh (own_ties pairs ++ ties)
level_pairs_are own gates pairs ties sh e f =
    ap (λ l. l ++ gate_pairs own gates ties) (own_pairs own gates pairs) ∙ (sym (gate_pairs_both own gates (own_ties pairs) ties)
    ∙ (ap (λ (ps : List Pair). gate_pairs ps gates (own_ties pairs ++ ties)) e ∙ (ap (λ (g : Shown). gate_pairs (own_numbers sh) g (own_ties pairs ++ ties)) f ∙ pairs_are sh (own_ties pairs ++ ties))))

-- ---- found by numbers

pair_is : (o r : Option ℕ) → found_pair o r ≡ pairs_between (listed o) (listed r)
pair_is None r = refl
pair_is (Some m) None = refl
pair_is (Some m) (Some n) = refl

pub found_are : (number : ℕ → Option ℕ) (shown ts : List Pair) → AreNumbers number shown → found_pairs number ts ≡ tie_pairs shown ts
found_are number shown [] h = refl
found_are number shown (t ∷ ts) h =
    ap (λ l. l ++ found_pairs number ts) (pair_is (number t.first) (number t.second)
    ∙ (ap (λ l. pairs_between l (listed (number t.second))) (h.found t.first) ∙ ap (λ l. pairs_between (numbers_of t.first shown) l) (h.found t.second)))
    ∙ ap (λ l. pairs_between (numbers_of t.first shown) (numbers_of t.second shown) ++ l) (found_are number shown ts h)

if_both : (b : Bool) (m : ℕ) (ms ns : List ℕ) → number_if b m (ms ++ ns) ≡ number_if b m ms ++ ns
if_both true m ms ns = refl
if_both false m ms ns = refl

numbers_last : (k : ℕ) (ps : List Pair) (p : Pair) → numbers_of k (ps ++ p ∷ []) ≡ numbers_of k ps ++ number_if (p.second == k) p.first []
numbers_last k [] p = refl
numbers_last k (r ∷ ps) p = ap (number_if (r.second == k) r.first) (numbers_last k ps p) ∙ if_both (r.second == k) r.first (numbers_of k ps) (number_if (p.second == k) p.first [])

pub numbers_more : (old new : ℕ → Option ℕ) (shown : List Pair) (i : ℕ) (p : Pair) → slice_get shown i ≡ Some p → old p.second ≡ None
    → ((k : ℕ) → new k ≡ cond (is_eq (nat_cmp p.second k)) (Some p.first) (old k)) → AreNumbers old (take i shown) → AreNumbers new (take (i + 1) shown)
numbers_more old new shown i p at none then_ h = subst (λ (ps : List Pair). AreNumbers new ps) (sym (take_step shown i p at)) (record { found = found })
  where
    found : (k : ℕ) → listed (new k) ≡ numbers_of k (take i shown ++ p ∷ [])
    found k = by (is_eq (nat_cmp p.second k)) refl ∙ sym (numbers_last k (take i shown) p)
      where
        by : (b : Bool) → is_eq (nat_cmp p.second k) ≡ b → listed (new k) ≡ numbers_of k (take i shown) ++ number_if (p.second == k) p.first []
        by true f =
            let same = is_equal p.second k f in
            let was : numbers_of k (take i shown) ≡ [] = sym (h.found k) ∙ ap listed (ap old (sym same) ∙ none) in
            ap listed (then_ k ∙ ap (λ c. cond c (Some p.first) (old k)) f)
            ∙ sym (ap (λ l. l ++ number_if (p.second == k) p.first []) was ∙ ap (λ c. number_if c p.first []) ((Decides-eqb p.second k).1 same))
        by false f =
            ap listed (then_ k ∙ ap (λ c. cond c (Some p.first) (old k)) f) ∙ (h.found k
            ∙ sym (ap (λ c. numbers_of k (take i shown) ++ number_if c p.first []) (unequal p.second k f) ∙ app_nil (numbers_of k (take i shown))))

found_app : (number : ℕ → Option ℕ) (ts : List Pair) (t : Pair) → found_pairs number (ts ++ t ∷ []) ≡ found_pairs number ts ++ found_pair (number t.first) (number t.second)
found_app number [] t = app_nil (found_pair (number t.first) (number t.second))
found_app number (s ∷ ts) t = ap (λ l. found_pair (number s.first) (number s.second) ++ l) (found_app number ts t) ∙ sym (app_assoc (found_pair (number s.first) (number s.second)) (found_pairs number ts) (found_pair (number t.first) (number t.second)))

pub found_more : (number : ℕ → Option ℕ) (ts : List Pair) (i : ℕ) (t : Pair) (old new : List Pair) → slice_get ts i ≡ Some t → old ≡ found_pairs number (take i ts)
    → new ≡ old ++ found_pair (number t.first) (number t.second) → new ≡ found_pairs number (take (i + 1) ts)
found_more number ts i t old new at h e =
    e ∙ ap (λ l. l ++ found_pair (number t.first) (number t.second)) h ∙ sym (ap (found_pairs number) (take_step ts i t at) ∙ found_app number (take i ts) t)

-- ---- sought among all

module _ (k : ℕ) (shown : List Pair) (i : ℕ) (p : Pair) (at : slice_get shown i ≡ Some p) where
  pub sought_step : (b : Bool) → (p.second == k) ≡ b → numbers_of k (take (i + 1) shown) ≡ numbers_of k (take i shown) ++ number_if b p.first []
  sought_step b e = ap (numbers_of k) (take_step shown i p at) ∙ (numbers_last k (take i shown) p ∙ ap (λ c. numbers_of k (take i shown) ++ number_if c p.first []) e)

ties_last : (shown ts : List Pair) (t : Pair) → tie_pairs shown (ts ++ t ∷ []) ≡ tie_pairs shown ts ++ pairs_between (numbers_of t.first shown) (numbers_of t.second shown)
ties_last shown [] t = app_nil (pairs_between (numbers_of t.first shown) (numbers_of t.second shown))
ties_last shown (s ∷ ts) t = ap (λ l. pairs_between (numbers_of s.first shown) (numbers_of s.second shown) ++ l) (ties_last shown ts t) ∙ sym (app_assoc (pairs_between (numbers_of s.first shown) (numbers_of s.second shown)) (tie_pairs shown ts) (pairs_between (numbers_of t.first shown) (numbers_of t.second shown)))

pub ties_more : (shown ts : List Pair) (i : ℕ) (t : Pair) (old new : List Pair) → slice_get ts i ≡ Some t → old ≡ tie_pairs shown (take i ts)
    → new ≡ old ++ pairs_between (numbers_of t.first shown) (numbers_of t.second shown) → new ≡ tie_pairs shown (take (i + 1) ts)
ties_more shown ts i t old new at h e =
    e ∙ ap (λ l. l ++ pairs_between (numbers_of t.first shown) (numbers_of t.second shown)) h ∙ sym (ap (tie_pairs shown) (take_step ts i t at) ∙ ties_last shown (take i ts) t)
