-- Tags of numbers as lists, and the pairs of numbers that say what pairs of tags say.
use Rattle.std.specs.List.{list_any}
use Rattle.std.specs.Prelude.{ℕ, ◌<◌, Bool, true, false, List, [], ◌∷◌, ◌++◌, ◌≡◌, ◌||◌, ◌&&◌, ◌==◌, ◌⊎◌}
use Rattle.std.proofs.Common.{ap, sym, ◌∙◌, refl, arith}
use Rattle.std.proofs.lemmas.Bool.Decides.{nat_tests}
use Rattle.msc_unfolding.specs.Unfoldings.{Tag, is_pair, joins, past_all}
use Rattle.chart_term.specs.TermPatterns.{pairs}
use Rattle.term_meaning.specs.Portions.{Shown, put_tag, tags_in, shown_at, past_shown, add_pair, pairs_at, shown_pairs}

pub app_nil : (l : List Tag) → l ++ [] ≡ l
app_nil [] = refl
app_nil (a ∷ l) = ap (λ k. a ∷ k) (app_nil l)

put_app : (b : Bool) (a : Tag) (k l : List Tag) → put_tag b a (k ++ l) ≡ put_tag b a k ++ l
put_app true a k l = refl
put_app false a k l = refl

pub tags_app : (sh ti : Shown) (n : ℕ) → tags_in (sh ++ ti) n ≡ tags_in sh n ++ tags_in ti n
tags_app [] ti n = refl
tags_app (p ∷ sh) ti n = ap (λ l. put_tag (n == p.0) p.1 l) (tags_app sh ti n) ∙ put_app (n == p.0) p.1 (tags_in sh n) (tags_in ti n)

same_number : (n : ℕ) → (n == n) ≡ true
same_number n = grind (arith, nat_tests)

pub other_number : (m n : ℕ) → (m < n) ⊎ (n < m) → (m == n) ≡ false
other_number m n h = grind (arith, nat_tests)

pub tags_at : (n : ℕ) (l : List Tag) → tags_in (shown_at n l) n ≡ l
tags_at n [] = refl
tags_at n (a ∷ l) = ap (λ b. put_tag b a (tags_in (shown_at n l) n)) (same_number n) ∙ ap (λ k. a ∷ k) (tags_at n l)

pub tags_else : (m n : ℕ) (l : List Tag) → (m == n) ≡ false → tags_in (shown_at n l) m ≡ []
tags_else m n [] h = refl
tags_else m n (a ∷ l) h = ap (λ b. put_tag b a (tags_in (shown_at n l) m)) h ∙ tags_else m n l h

past_put : (f : Tag → List Tag) (b : Bool) (a : Tag) (l : List Tag) → past_all f (put_tag b a l) ≡ (past_all f (put_tag b a []) ++ past_all f l)
past_put f true a l = ap (λ k. k ++ past_all f l) (sym (app_nil (f a)))
past_put f false a l = refl

at_put : (f : Tag → List Tag) (m n : ℕ) (a : Tag) (b : Bool) → (m == n) ≡ b → tags_in (shown_at n (f a)) m ≡ past_all f (put_tag b a [])
at_put f m n a true h = rw (← equal_of m n h) (tags_at m (f a) ∙ sym (app_nil (f a)))
  where
    equal_of : (m n : ℕ) → (m == n) ≡ true → m ≡ n
    equal_of m n h = grind (arith, nat_tests)
at_put f m n a false h = tags_else m n (f a) h

pub tags_past : (f : Tag → List Tag) (sh : Shown) (n : ℕ) → tags_in (past_shown f sh) n ≡ past_all f (tags_in sh n)
tags_past f [] n = refl
tags_past f (p ∷ sh) n =
    tags_app (shown_at p.0 (f p.1)) (past_shown f sh) n
    ∙ (ap (λ l. l ++ tags_in (past_shown f sh) n) (at_put f n p.0 p.1 (n == p.0) refl)
    ∙ (ap (λ l. past_all f (put_tag (n == p.0) p.1 []) ++ l) (tags_past f sh n)
    ∙ sym (past_put f (n == p.0) p.1 (tags_in sh n))))

pairs_app : (r t : List (ℕ × ℕ)) (m n : ℕ) → pairs (r ++ t) m n ≡ (pairs r m n || pairs t m n)
pairs_app [] t m n = refl
pairs_app (p ∷ r) t m n = ap (λ b. ((m == p.0) && (n == p.1)) || b) (pairs_app r t m n) ∙ or_assoc ((m == p.0) && (n == p.1)) (pairs r m n) (pairs t m n)
  where
    or_assoc : (a b c : Bool) → (a || (b || c)) ≡ ((a || b) || c)
    or_assoc true b c = refl
    or_assoc false b c = refl

any_put : (f : Tag → Bool) (b : Bool) (a : Tag) (l : List Tag) → list_any f (put_tag b a l) ≡ ((b && f a) || list_any f l)
any_put f true a l = refl
any_put f false a l = refl

pairs_add : (b : Bool) (k h : ℕ) (r : List (ℕ × ℕ)) (m n : ℕ) → pairs (add_pair b k h r) m n ≡ (((m == k) && ((n == h) && b)) || pairs r m n)
pairs_add true k h r m n = ap (λ b. ((m == k) && b) || pairs r m n) (and_true (n == h))
  where
    and_true : (a : Bool) → a ≡ (a && true)
    and_true true = refl
    and_true false = refl
pairs_add false k h r m n = nothing (m == k) (n == h) (pairs r m n)
  where
    nothing : (a b c : Bool) → c ≡ ((a && (b && false)) || c)
    nothing true true c = refl
    nothing true false c = refl
    nothing false b c = refl

spread : (a b c : Bool) → ((a && b) || (a && c)) ≡ (a && (b || c))
spread true b c = refl
spread false b c = refl

at_says : (q : List (Tag × Tag)) (k : ℕ) (a : Tag) (ti : Shown) (m n : ℕ) → pairs (pairs_at q k a ti) m n ≡ ((m == k) && list_any (is_pair q a) (tags_in ti n))
at_says q k a [] m n = none (m == k)
  where
    none : (a : Bool) → false ≡ (a && false)
    none true = refl
    none false = refl
at_says q k a (p ∷ ti) m n =
    pairs_add (is_pair q a p.1) k p.0 (pairs_at q k a ti) m n
    ∙ (ap (λ b. ((m == k) && ((n == p.0) && is_pair q a p.1)) || b) (at_says q k a ti m n)
    ∙ (spread (m == k) ((n == p.0) && is_pair q a p.1) (list_any (is_pair q a) (tags_in ti n))
    ∙ ap (λ b. (m == k) && b) (sym (any_put (is_pair q a) (n == p.0) p.1 (tags_in ti n)))))

joins_put : (q : List (Tag × Tag)) (b : Bool) (a : Tag) (l k : List Tag) → joins q (put_tag b a l) k ≡ ((b && list_any (is_pair q a) k) || joins q l k)
joins_put q true a l k = refl
joins_put q false a l k = refl

ties_say : (q : List (Tag × Tag)) (sh ti : Shown) (m n : ℕ) → joins q (tags_in sh m) (tags_in ti n) ≡ pairs (shown_pairs q sh ti) m n
ties_say q [] ti m n = refl
ties_say q (p ∷ sh) ti m n = sym (
    pairs_app (pairs_at q p.0 p.1 ti) (shown_pairs q sh ti) m n
    ∙ (ap (λ b. b || pairs (shown_pairs q sh ti) m n) (at_says q p.0 p.1 ti m n)
    ∙ (ap (λ b. ((m == p.0) && list_any (is_pair q p.1) (tags_in ti n)) || b) (sym (ties_say q sh ti m n))
    ∙ sym (joins_put q (m == p.0) p.1 (tags_in sh m) (tags_in ti n)))))

-- these pairs of numbers say what the pairs of tags say
pub shown_say : (q : List (Tag × Tag)) (sh : Shown) (m n : ℕ) → pairs (shown_pairs q sh sh) m n ≡ joins q (tags_in sh m) (tags_in sh n)
shown_say q sh m n = sym (ties_say q sh sh m n)

none_any : (b : Tag) (ks : List Tag) → list_any (is_pair [] b) ks ≡ false
none_any b [] = refl
none_any b (a ∷ ks) = none_any b ks

pub no_joins : (ks bs : List Tag) → joins [] ks bs ≡ false
no_joins [] bs = refl
no_joins (a ∷ ks) bs = ap (λ b. b || joins [] ks bs) (none_any a bs) ∙ no_joins ks bs
