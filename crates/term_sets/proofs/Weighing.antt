-- What the terms of words weigh.
use Rattle.std.specs.Prelude.{ℕ, ◌*◌, List, [], ◌∷◌, ◌≡◌, length, map, refl}
use Rattle.std.proofs.Common.{ap, sym, ◌∙◌, subst, arith, inl, inr}
use Rattle.msc_base.specs.Lists.{AreDifferent, IsAmong}
use Rattle.msc_base.specs.Patterns.{par}
use Rattle.chart_term.specs.NormalForms.{join_of}
use Rattle.chart_term.specs.Properties.{Each}
use Rattle.chart_term.specs.Terms.{Tree, weight, weights, trees}
use Rattle.term_laws.specs.Listing.{set_weight}
use Rattle.term_sets.specs.Subsets.{picked, spelled, all_spelled, weight_of_size, IsEvent, IsWord, AreSubsets}
use Rattle.term_sets.proofs.Apart.{spelled_apart}
use Rattle.term_sets.proofs.Picking.{each_picked}
use Rattle.term_sets.proofs.Ordering.{in_order_weighs}

event_weighs : (x : Tree) → IsEvent x → weight x ≡ 1
event_weighs x h = ap weight h.1

events_weigh : (xs : List Tree) → Each IsEvent xs → weights (trees xs) ≡ length xs
events_weigh [] h = refl
events_weigh (x ∷ xs) h = let e = event_weighs x h.0 in let r = events_weigh xs h.1 in omega (arith, e, r)

-- events side by side
pub join_weighs : (xs : List Tree) → Each IsEvent xs → weight (join_of par xs) ≡ weight_of_size (length xs)
join_weighs [] h = refl
join_weighs (x ∷ []) h = event_weighs x h.0
join_weighs (x ∷ y ∷ ys) h = let e = event_weighs x h.0 in let f = event_weighs y h.1.0 in let r = events_weigh ys h.1.1 in omega (arith, e, f, r)

-- the term of a word of so many events
pub spelled_weighs : (events : List Tree) (w size : ℕ) → Each IsEvent events → length (picked events w) ≡ size → weight (spelled events w) ≡ weight_of_size size
spelled_weighs events w size h e = join_weighs (picked events w) (each_picked IsEvent events w h) ∙ ap weight_of_size e

-- the terms of words, in any order

each_weighs : (events : List Tree) (size : ℕ) (words : List ℕ) → Each IsEvent events → ((w : ℕ) → IsAmong words w → IsWord events size w) → set_weight (map (spelled events) words) ≡ length words * weight_of_size size
each_weighs events size [] h f = omega arith
each_weighs events size (w ∷ ws) h f =
    let e = spelled_weighs events w size h (f w (inl refl)).size_is in
    let r = each_weighs events size ws h (λ v i. f v (inr i)) in
    omega (arith, e, r)

-- a term of words is that of one of them
record IsSpelled (events : List Tree) (words : List ℕ) (x : Tree) : Type 0 where
  pub word : ℕ
  pub held : IsAmong words word
  pub is : x ≡ spelled events word

one_spelled : (events : List Tree) (words : List ℕ) (x : Tree) → IsAmong (map (spelled events) words) x → IsSpelled events words x
one_spelled events [] x i = absurd i
one_spelled events (w ∷ ws) x (inl q) = record { word = w; held = inl refl; is = q }
one_spelled events (w ∷ ws) x (inr i) = let r = one_spelled events ws x i in record { word = r.word; held = inr r.held; is = r.is }

-- different words have different terms
pub terms_apart : (events : List Tree) (size : ℕ) (words : List ℕ) → Each IsEvent events → AreDifferent events → ((w : ℕ) → IsAmong words w → IsWord events size w) → AreDifferent words → AreDifferent (map (spelled events) words)
terms_apart events size [] h a f d = tt
terms_apart events size (w ∷ ws) h a f d = (alone, terms_apart events size ws h a (λ v i. f v (inr i)) d.1)
  where
    alone : IsAmong (map (spelled events) ws) (spelled events w) → ⊥
    alone i =
        let r = one_spelled events ws (spelled events w) i in
        let e = spelled_apart events w r.word h a (f w (inl refl)).below (f r.word (inr r.held)).below r.is in
        d.0 (subst (λ (v : ℕ). IsAmong ws v) (sym e) r.held)

-- the terms of different words of so many events
pub all_weigh : (events : List Tree) (size : ℕ) (words : List ℕ) → AreSubsets events size words → set_weight (all_spelled events words) ≡ length words * weight_of_size size
all_weigh events size words s =
    in_order_weighs (map (spelled events) words) (terms_apart events size words s.each s.apart s.are_words s.different)
    ∙ each_weighs events size words s.each s.are_words
