-- The walks that are made have numbers of their own.
use Rattle.std.specs.Prelude.{ℕ, suc, ◌+◌, ◌≤◌, ◌<◌, List, [], ◌∷◌, ◌++◌, length, map}
use Rattle.std.proofs.Common.{◌≡◌, ◌∙◌, ◌⊎◌, refl, sym, subst, inl, inr, arith}
use Rattle.std.proofs.lemmas.List.{length-append, map-append}
use Rattle.msc_base.specs.Orders.{Among, Once, first, later}
use Rattle.chart_term.specs.Tables.{Tables}
use Rattle.chart_term.specs.Terms.{Tree}
use Rattle.expansion_tree.specs.Expansions.{Event, InRow, Aside, OneOf, Exception, Turns, Tied, Walk, no_parts, part_and}
use Rattle.expansion_tree.specs.Numbered.{Expansion, Expansions}
use Rattle.expansion_terms.specs.MadeTerms.{made, made_all}
use Rattle.expanded_terms.specs.ExpansionNumbers.{CountFrom, all_numbers_by, numbers_by}
use Rattle.expanded_terms.specs.RankedTerms.{expanded_number}

-- the numbers of a part
abbrev pub nums : Expansion → List ℕ
nums x = numbers_by expanded_number x

abbrev pub all_nums : Expansions → List ℕ
all_nums xs = all_numbers_by expanded_number xs

pub count_left : (n : ℕ) (a b : List ℕ) → CountFrom n (a ++ b) → CountFrom n a
count_left n [] b h = tt
count_left n (m ∷ a) b (e, h) = (e, count_left (suc n) a b h)

pub count_right : (n : ℕ) (a b : List ℕ) → CountFrom n (a ++ b) → CountFrom (n + length a) b
count_right n [] b h = subst (λ i. CountFrom i b) (let e : n ≡ n + 0 = omega arith in e) h
count_right n (m ∷ a) b (e, h) = subst (λ i. CountFrom i b) (let f : suc n + length a ≡ n + suc (length a) = omega arith in f) (count_right (suc n) a b h)

-- each once, from lo on below hi
record AreBetween (lo hi : ℕ) (ks : List ℕ) : Type 0 where
  within : (k : ℕ) → Among k ks → (lo ≤ k) × (k < hi)
  once : Once ks

none_between : (lo hi : ℕ) → AreBetween lo hi []
none_between lo hi = record { within = λ k i. elim i [ ]; once = tt }

split : {A : Type 0} (a b : List A) (x : A) → Among x (a ++ b) → Among x a ⊎ Among x b
split [] b x i = inr i
split (y ∷ a) b _ first = inl first
split (y ∷ a) b x (later i) = elim (split a b x i) [ inl j ↦ inl (later j) | inr j ↦ inr j ]

both_between : (lo mid hi : ℕ) (a b : List ℕ) → lo ≤ mid → mid ≤ hi → AreBetween lo mid a → AreBetween mid hi b → AreBetween lo hi (a ++ b)
both_between lo mid hi a b l m h g = record {
  within = λ k i. elim (split a b k i) [
    | inl j ↦ let (p, q) = h.within k j in (p, omega (arith, q, m))
    | inr j ↦ let (p, q) = g.within k j in (omega (arith, p, l), q)
  ];
  once = joined a h.within h.once;
}
  where
    joined : (a : List ℕ) → ((k : ℕ) → Among k a → (lo ≤ k) × (k < mid)) → Once a → Once (a ++ b)
    joined [] w o = g.once
    joined (k ∷ a) w (o, os) = ((λ i. elim (split a b k i) [ inl j ↦ o j | inr j ↦ clash (w k first).1 (g.within k j).0 ]), joined a (λ j i. w j (later i)) os)
      where
        clash : k < mid → mid ≤ k → ⊥
        clash p q = omega (arith, p, q)

one_more : (n hi : ℕ) (ks : List ℕ) → n < hi → AreBetween (suc n) hi ks → AreBetween n hi (n ∷ ks)
one_more n hi ks l h = record {
  within = within;
  once = ((λ i. clash (h.within n i).0), h.once);
}
  where
    clash : suc n ≤ n → ⊥
    clash p = omega (arith, p)

    within : (k : ℕ) → Among k (n ∷ ks) → (n ≤ k) × (k < hi)
    within _ first = (omega arith, l)
    within k (later i) = let (p, q) = h.within k i in (omega (arith, p), q)

abbrev walk_numbers : List (ℕ × Tree) → List ℕ
walk_numbers ws = map (λ (p : ℕ × Tree). p.0) ws

mutual
  walks_between : (t : Tables) (n : ℕ) (x : Expansion) → CountFrom n (nums x) → AreBetween n (n + length (nums x)) (walk_numbers (made t x).walks)
  walks_between t n (Event e) c = none_between n (n + 1)
  walks_between t n (InRow xs) c = all_between t n xs c
  walks_between t n (Aside xs) c = all_between t n xs c
  walks_between t n (OneOf xs) c = all_between t n xs c
  walks_between t n (Exception x) c = walks_between t n x c
  walks_between t n (Turns m lower upper x) c = walks_between t n x c
  walks_between t n (Tied x ps) c = walks_between t n x c
  walks_between t n (Walk m g xs) (e, c) =
      subst (λ (k : ℕ). AreBetween n (n + suc (length (all_nums xs))) (k ∷ walk_numbers (made_all t xs).walks)) (sym e)
      (one_more n (n + suc (length (all_nums xs))) (walk_numbers (made_all t xs).walks) (omega arith)
      (subst (λ (hi : ℕ). AreBetween (suc n) hi (walk_numbers (made_all t xs).walks)) (let f : suc n + length (all_nums xs) ≡ n + suc (length (all_nums xs)) = omega arith in f) (all_between t (suc n) xs c)))

  all_between : (t : Tables) (n : ℕ) (xs : Expansions) → CountFrom n (all_nums xs) → AreBetween n (n + length (all_nums xs)) (walk_numbers (made_all t xs).walks)
  all_between t n no_parts c = none_between n (n + 0)
  all_between t n (part_and x xs) c =
      let a = nums x in
      let b = all_nums xs in
      let m = made t x in
      let l = made_all m.tables xs in
      subst (λ (ks : List ℕ). AreBetween n (n + length (a ++ b)) ks) (sym (map-append (λ (p : ℕ × Tree). p.0) m.walks l.walks))
      (subst (λ (k : ℕ). AreBetween n k (walk_numbers m.walks ++ walk_numbers l.walks)) (ends a b)
      (both_between n (n + length a) (n + length a + length b) (walk_numbers m.walks) (walk_numbers l.walks) (omega arith) (omega arith) (walks_between t n x (count_left n a b c)) (all_between m.tables (n + length a) xs (count_right n a b c))))
    where
      ends : (a b : List ℕ) → n + length a + length b ≡ n + length (a ++ b)
      ends a b = let e = length-append a b in omega (arith, e)

-- no number stands twice
pub walks_once : (t : Tables) (n : ℕ) (x : Expansion) → CountFrom n (nums x) → Once (walk_numbers (made t x).walks)
walks_once t n x c = (walks_between t n x c).once

pub all_walks_once : (t : Tables) (n : ℕ) (xs : Expansions) → CountFrom n (all_nums xs) → Once (walk_numbers (made_all t xs).walks)
all_walks_once t n xs c = (all_between t n xs c).once
