-- The terms of a set that are held as words: each is the events whose bits its word has.
use Rattle.std.specs.Prelude.{ℕ, ◌+◌, ◌/◌, ◌%◌, ◌==◌, ◌≤◌, ◌≡◌, ◌↔◌, IsTrue, ◌⊎◌, Bool, true, false, List, [], ◌∷◌, ◌++◌, Some, drop, length, map, min, slice_get, take, refl}
use Rattle.std.proofs.Common.{ap, sym, ◌∙◌, subst, arith, append_assoc, append-nil, inl, inr}
use Rattle.std.specs.declared.cmp.Ordering.{Ordering}
use Rattle.std.specs.declared.cmp.Ordering.TheVariants.{Less, Equal, Greater}
use Rattle.chart_term.proofs.Turns.{begun-map}
use Rattle.chart_term.specs.NormalForms.{begun, join_of}
use Rattle.chart_term.specs.Order.{tree_cmp}
use Rattle.chart_term.specs.OrderLaws.{tree_equal}
use Rattle.chart_term.specs.Terms.{Tree, Part, Turn, weight}
use Rattle.list_facts.proofs.Reading.{drop_get, drop_end}
use Rattle.list_facts.proofs.Members.{take_among}
use Rattle.log_ways.specs.Stepping.{AreSame, IsAlone}
use Rattle.msc_base.specs.Stored.{most_stored}
use Rattle.term_laws.specs.Listing.{set_weight}
use Rattle.term_step.proofs.Searching.{some_weight}
use Rattle.term_successors.proofs.TermSets.{member_weight}
use Rattle.msc_base.specs.Lists.{IsAmong}
use Rattle.std.proofs.lemmas.Bool.{true≢false}
use Rattle.std.proofs.lemmas.List.{take_all}
use Rattle.chart_term.specs.Tables.{terms_over}
use Rattle.chart_term.specs.TermMeanings.{NetTerms}
use Rattle.term_laws.specs.Taking.{MayEnd}
use Rattle.term_tables.specs.NetValues.{NetsValue}
use Rattle.trace_judge.specs.Sets.{HasEnding}
use Rattle.msc_base.specs.Patterns.{par}
use Rattle.term_sets.specs.Subsets.{all_spelled, in_order, pick, picked, put_by, put_in, spelled}

-- the bits of a word one by one
pub bits_start : (events : List Tree) (w : ℕ) (parts : List Tree) → parts ≡ [] → parts ++ picked (drop 0 events) w ≡ picked events w
bits_start events w parts e = ap (λ (l : List Tree). l ++ picked events w) e

pick_rest : (b : Bool) (x : Tree) (xs : List Tree) → pick b x xs ≡ pick b x [] ++ xs
pick_rest true x xs = refl
pick_rest false x xs = refl

pub bits_step : (events : List Tree) (i : ℕ) (x : Tree) (w rest half : ℕ) (b : Bool) (parts new : List Tree) → slice_get events i ≡ Some x → b ≡ (rest % 2 == 1) → half ≡ rest / 2 → new ≡ parts ++ pick b x [] → parts ++ picked (drop i events) rest ≡ picked events w → new ++ picked (drop (i + 1) events) half ≡ picked events w
bits_step events i x w rest half b parts new at bit halved more h =
    let here : picked (drop i events) rest ≡ pick b x [] ++ picked (drop (i + 1) events) half =
    ap (λ (l : List Tree). picked l rest) (drop_get events i x at)
    ∙ ((λ j. pick (sym bit j) x (picked (drop (i + 1) events) (sym halved j))) ∙ pick_rest b x (picked (drop (i + 1) events) half)) in
    ap (λ (l : List Tree). l ++ picked (drop (i + 1) events) half) more ∙ (append_assoc parts (pick b x []) (picked (drop (i + 1) events) half) ∙ (ap (λ (l : List Tree). parts ++ l) (sym here) ∙ h))

pub bits_end : (events : List Tree) (i w rest : ℕ) (parts : List Tree) (list : List Part) (term : Tree) → i ≡ length events → parts ++ picked (drop i events) rest ≡ picked events w → list ≡ map Turn parts → term ≡ join_of par (begun list) → term ≡ spelled events w
bits_end events i w rest parts list term e h l t =
    let all : parts ≡ picked events w = sym (append-nil parts) ∙ (ap (λ (xs : List Tree). parts ++ picked xs rest) (sym (drop_end events i (λ m. omega arith))) ∙ h) in
    t ∙ ap (join_of par) (ap begun l ∙ (begun-map parts ∙ all))

-- terms in their order are the same terms
put_to : (x : Tree) (ys : List Tree) (y : Tree) → IsAmong (put_in x ys) y → (y ≡ x) ⊎ IsAmong ys y
put_to x [] y h = h
put_to x (z ∷ zs) y h = go (tree_cmp x z) (put_to x zs y) h
  where
    later : (y ≡ x) ⊎ IsAmong zs y → (y ≡ x) ⊎ IsAmong (z ∷ zs) y
    later (inl q) = inl q
    later (inr j) = inr (inr j)

    go : (o : Ordering) → (IsAmong (put_in x zs) y → (y ≡ x) ⊎ IsAmong zs y) → IsAmong (put_by o x z zs (put_in x zs)) y → (y ≡ x) ⊎ IsAmong (z ∷ zs) y
    go Less f i = i
    go Equal f i = inr i
    go Greater f (inl q) = inr (inl q)
    go Greater f (inr j) = later (f j)

put_from : (x : Tree) (ys : List Tree) (y : Tree) → (y ≡ x) ⊎ IsAmong ys y → IsAmong (put_in x ys) y
put_from x [] y h = h
put_from x (z ∷ zs) y h = go (tree_cmp x z) refl (put_from x zs y) h
  where
    go : (o : Ordering) → tree_cmp x z ≡ o → ((y ≡ x) ⊎ IsAmong zs y → IsAmong (put_in x zs) y) → (y ≡ x) ⊎ IsAmong (z ∷ zs) y → IsAmong (put_by o x z zs (put_in x zs)) y
    go Less e f i = i
    go Equal e f (inl q) = inl (q ∙ tree_equal x z e)
    go Equal e f (inr j) = j
    go Greater e f (inl q) = inr (f (inl q))
    go Greater e f (inr (inl q)) = inl q
    go Greater e f (inr (inr j)) = inr (f (inr j))

in_order_to : (xs : List Tree) (y : Tree) → IsAmong (in_order xs) y → IsAmong xs y
in_order_to [] y h = h
in_order_to (x ∷ xs) y h = elim (put_to x (in_order xs) y h) [ inl q ↦ inl q | inr j ↦ inr (in_order_to xs y j) ]

in_order_from : (xs : List Tree) (y : Tree) → IsAmong xs y → IsAmong (in_order xs) y
in_order_from [] y h = h
in_order_from (x ∷ xs) y (inl q) = put_from x (in_order xs) y (inl q)
in_order_from (x ∷ xs) y (inr j) = put_from x (in_order xs) y (inr (in_order_from xs y j))

-- the terms of all words
pub spelled_none : (events : List Tree) (terms : List Tree) (words : List ℕ) → terms ≡ [] → terms ≡ map (spelled events) (take 0 words)
spelled_none events terms words e = e

pub spelled_all : (events : List Tree) (terms : List Tree) (words : List ℕ) → terms ≡ map (spelled events) words → AreSame terms (all_spelled events words)
spelled_all events terms words e y = record {
  to = λ i. in_order_from (map (spelled events) words) y (subst (λ (l : List Tree). IsAmong l y) e i);
  from = λ i. subst (λ (l : List Tree). IsAmong l y) (sym e) (in_order_to (map (spelled events) words) y i);
}

pub same_terms : (terms set : List Tree) → terms ≡ set → AreSame terms set
same_terms terms set e y = record { to = λ i. subst (λ (l : List Tree). IsAmong l y) e i; from = λ i. subst (λ (l : List Tree). IsAmong l y) (sym e) i }

pub same_as : (terms words set : List Tree) → AreSame terms words → words ≡ set → AreSame terms set
same_as terms words set h e = subst (AreSame terms) e h

-- a term that is not one that may end
pub none_end_more : (w : NetTerms) (terms : List Tree) (i : ℕ) (x : Tree) (b : Bool) → slice_get terms i ≡ Some x → ((y : Tree) → IsAmong (take i terms) y → MayEnd w y → ⊥) → (IsTrue b ↔ MayEnd w x) → b ≡ false → (y : Tree) → IsAmong (take (i + 1) terms) y → MayEnd w y → ⊥
none_end_more w terms i x b at h e false_is y j m = elim (take_among terms i x y at j) [
  | inl q ↦ absurd (true≢false (sym (e.1 (subst (MayEnd w) q m)) ∙ false_is))
  | inr k ↦ h y k m
]

pub none_may_end : (v : NetsValue) (terms set : List Tree) (i : ℕ) → length terms ≤ i → ((y : Tree) → IsAmong (take i terms) y → MayEnd (terms_over v.tables) y → ⊥) → AreSame terms set → HasEnding v set → ⊥
none_may_end v terms set i l h s e = h e.term (subst (λ (t : List Tree). IsAmong t e.term) (sym (take_all i terms l)) ((s e.term).from e.held)) e.ends

-- a term that weighs as much as the whole
weighs_some : (x : Tree) → 1 ≤ weight x
weighs_some x = some_weight x

rest_none : (xs : List Tree) (y : Tree) → set_weight xs ≡ 0 → IsAmong xs y → ⊥
rest_none [] y e j = j
rest_none (x ∷ xs) y e j = absurd (let l = weighs_some x in omega arith)

pub whole_alone : (xs : List Tree) (x : Tree) → IsAmong xs x → set_weight xs ≡ weight x → IsAlone xs x
whole_alone [] x i e y j = absurd j
whole_alone (z ∷ zs) x (inl q) e y (inl r) = r ∙ sym q
whole_alone (z ∷ zs) x (inl q) e y (inr j) = absurd (rest_none zs y (let w : weight x ≡ weight z = ap weight q in omega arith) j)
whole_alone (z ∷ zs) x (inr i) e y j = absurd (let w = member_weight x zs i in let l = weighs_some z in omega arith)

pub weighs_alone : (xs : List Tree) (x : Tree) (m n : ℕ) → IsAmong xs x → m ≡ set_weight xs → n ≡ min (weight x) most_stored → m ≡ n → IsAlone xs x
weighs_alone xs x m n i e f g = whole_alone xs x i (let w = member_weight x xs i in omega arith)

pub ruleset alone = (weighs_alone)

pub ruleset spelling = (bits_start, spelled_all, same_terms, same_as)
