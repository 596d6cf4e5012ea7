-- Lists of terms as sets.
use Rattle.std.specs.Prelude.{◌+◌, ◌≡◌, ◌≤◌, ◌⊎◌, ◌||◌, Bool, true, false, List, [], ◌∷◌, refl}
use Rattle.std.proofs.Common.{ap, sym, ◌∙◌, subst, arith, inl, inr}
use Rattle.std.specs.BTreeMap.{is_at}
use Rattle.std.specs.List.{AllByRecursion, list_any}
use Rattle.std.specs.List.Sorted.{IsStrictlySortedBy}
use Rattle.std.specs.declared.cmp.Ordering.{Ordering}
use Rattle.std.specs.declared.cmp.Ordering.TheVariants.{Less, Equal, Greater}
use Rattle.chart_term.specs.Equality.{same_tree}
use Rattle.chart_term.specs.Order.{tree_cmp}
use Rattle.chart_term.specs.OrderLaws.{tree_equal, tree_itself}
use Rattle.chart_term.specs.Properties.{Each}
use Rattle.chart_term.specs.Terms.{Tree, weight}
use Rattle.chart_term.proofs.Equal.{same_tree_is_exact}
use Rattle.term_laws.specs.Listing.{set_weight}
use Rattle.msc_base.specs.Lists.{IsAmong}
use Rattle.term_laws.specs.Normality.{AreDifferent}
use Rattle.term_successors.specs.Successors.{AreRising}

-- a property of each member

pub each_at : (P : Tree → Type 0) (xs : List Tree) (x : Tree) → Each P xs → IsAmong xs x → P x
each_at P [] x h i = absurd i
each_at P (y ∷ xs) x h (inl e) = subst P (sym e) h.0
each_at P (y ∷ xs) x h (inr i) = each_at P xs x h.1 i

pub each_from : (P : Tree → Type 0) (xs : List Tree) → ((x : Tree) → IsAmong xs x → P x) → Each P xs
each_from P [] f = tt
each_from P (x ∷ xs) f = (f x (inl refl), each_from P xs (λ y i. f y (inr i)))

-- a list without the members that equal one of it

apart : (x y : Tree) → same_tree x y ≡ false → x ≡ y → ⊥
apart x y h e = let t : same_tree x y ≡ true = same_tree_is_exact.whole x y e in let bad : true ≡ false = sym t ∙ h in cc

-- the other members of the list, behind which the first is as heavy as they are together with it
record Removed (x : Tree) (ys : List Tree) : Type 0 where
  pub rest : List Tree
  pub weighs : set_weight ys ≡ weight x + set_weight rest
  pub others : (z : Tree) → IsAmong ys z → (z ≡ x) ⊎ IsAmong rest z

remove : (x : Tree) (ys : List Tree) → IsAmong ys x → Removed x ys
remove x [] h = absurd h
remove x (y ∷ ys) (inl e) = record {
  rest = ys;
  weighs = ap (λ (z : Tree). weight z + set_weight ys) (sym e);
  others = λ z i. elim i [ inl q ↦ inl (q ∙ sym e) | inr j ↦ inr j ];
}
remove x (y ∷ ys) (inr h) = let r = remove x ys h in record {
  rest = y ∷ r.rest;
  weighs = omega (arith, r.weighs);
  others = λ z i. elim i [ inl q ↦ inr (inl q) | inr j ↦ later r.rest z (r.others z j) ];
}
  where
    later : (r : List Tree) (z : Tree) → (z ≡ x) ⊎ IsAmong r z → (z ≡ x) ⊎ IsAmong (y ∷ r) z
    later r z (inl q) = inl q
    later r z (inr j) = inr (inr j)

-- different members of a list weigh no more than it
pub lighter : (xs ys : List Tree) → AreDifferent xs → ((x : Tree) → IsAmong xs x → IsAmong ys x) → set_weight xs ≤ set_weight ys
lighter [] ys d f = omega arith
lighter (x ∷ xs) ys d f =
    let r = remove x ys (f x (inl refl)) in
    let l = lighter xs r.rest d.1 (λ z i. other r.rest z i (r.others z (f z (inr i)))) in
    omega (arith, r.weighs, l)
  where
    other : (r : List Tree) (z : Tree) → IsAmong xs z → (z ≡ x) ⊎ IsAmong r z → IsAmong r z
    other r z i (inl q) = absurd (apart x z (each_at (λ y. same_tree x y ≡ false) xs z d.0 i) (sym q))
    other r z i (inr j) = j

-- lists of different terms with the same members have the same weight
pub same_weight : (xs ys : List Tree) → AreDifferent xs → AreDifferent ys → ((x : Tree) → IsAmong xs x → IsAmong ys x) → ((x : Tree) → IsAmong ys x → IsAmong xs x) → set_weight xs ≡ set_weight ys
same_weight xs ys d e f g = omega (arith, lighter xs ys d f, lighter ys xs e g)

-- a member weighs no more than the list
pub member_weight : (x : Tree) (xs : List Tree) → IsAmong xs x → weight x ≤ set_weight xs
member_weight x [] h = absurd h
member_weight x (y ∷ xs) (inl e) = let q : weight y ≡ weight x = ap weight (sym e) in omega arith
member_weight x (y ∷ xs) (inr h) = let l = member_weight x xs h in omega arith

-- terms that rise are different

less_apart : (x y : Tree) → tree_cmp x y ≡ Less → same_tree x y ≡ false
less_apart x y h = go (same_tree x y) refl
  where
    go : (t : Bool) → same_tree x y ≡ t → t ≡ false
    go true e = let q : tree_cmp x y ≡ Equal = ap (tree_cmp x) (sym (same_tree_is_exact.sound x y e)) ∙ tree_itself x in let bad : Less ≡ Equal = sym h ∙ q in cc
    go false e = refl

each_apart : (x : Tree) (xs : List Tree) → Each (λ y. tree_cmp x y ≡ Less) xs → Each (λ y. same_tree x y ≡ false) xs
each_apart x [] h = tt
each_apart x (y ∷ xs) h = (less_apart x y h.0, each_apart x xs h.1)

pub rising_different : (xs : List Tree) → AreRising xs → AreDifferent xs
rising_different [] h = tt
rising_different (x ∷ xs) h = (each_apart x xs h.0, rising_different xs h.1)

-- what a sorted set has

pub seen_among : (xs : List Tree) (y : Tree) → list_any (is_at (tree_cmp y)) xs ≡ true → IsAmong xs y
seen_among [] y h = cc
seen_among (x ∷ xs) y h = go (tree_cmp y x) refl h (seen_among xs y)
  where
    go : (o : Ordering) → tree_cmp y x ≡ o → (is_at (tree_cmp y) x || list_any (is_at (tree_cmp y)) xs) ≡ true → (list_any (is_at (tree_cmp y)) xs ≡ true → IsAmong xs y) → (y ≡ x) ⊎ IsAmong xs y
    go Less e l f = let q : is_at (tree_cmp y) x ≡ false = rw e in inr (f (rw q at l))
    go Equal e l f = inl (tree_equal y x e)
    go Greater e l f = let q : is_at (tree_cmp y) x ≡ false = rw e in inr (f (rw q at l))

pub among_seen : (xs : List Tree) (y : Tree) → IsAmong xs y → list_any (is_at (tree_cmp y)) xs ≡ true
among_seen [] y h = absurd h
among_seen (x ∷ xs) y (inl e) = let q : tree_cmp y x ≡ Equal = ap (tree_cmp y) (sym e) ∙ tree_itself y in let t : is_at (tree_cmp y) x ≡ true = rw q in ap (λ b. b || list_any (is_at (tree_cmp y)) xs) t
among_seen (x ∷ xs) y (inr h) = ap (λ b. is_at (tree_cmp y) x || b) (among_seen xs y h) ∙ both (is_at (tree_cmp y) x)
  where
    both : (b : Bool) → (b || true) ≡ true
    both true = refl
    both false = refl

pub rising_from : (xs : List Tree) → IsStrictlySortedBy tree_cmp xs → AreRising xs
unfolding IsStrictlySortedBy
rising_from [] h = tt
rising_from (x ∷ xs) h = (all x xs h.0, rising_from xs h.1)
  where
    all : (x : Tree) (ys : List Tree) → AllByRecursion (λ y. tree_cmp x y ≡ Less) ys → Each (λ y. tree_cmp x y ≡ Less) ys
    all x [] h = tt
    all x (y ∷ ys) h = (h.0, all x ys h.1)
