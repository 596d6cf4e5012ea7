-- The terms that were found: in their order, each once, with their weight.
use Rattle.std.specs.BTreeSet.{contains}
use Rattle.std.specs.Ordering.{is_eq}
use Rattle.std.specs.Prelude.{◌+◌, ◌<◌, ◌≤◌, Bool, true, false, List, [], ◌∷◌, ◌≡◌, ◌⊎◌, refl, min, nat_le}
use Rattle.std.proofs.Common.{ap, sym, ◌∙◌, subst, arith, cond, inl, inr}
use Rattle.std.proofs.lemmas.Bool.Decides.{nat_tests}
use Rattle.msc_base.specs.Stored.{most_stored}
use Rattle.chart_term.specs.Equality.{same_tree}
use Rattle.chart_term.specs.Order.{tree_cmp}
use Rattle.chart_term.specs.Terms.{Tree, weight}
use Rattle.chart_term.proofs.Equal.{same_tree_is_exact}
use Rattle.chart_term.proofs.Distinct.{same_by_order}
use Rattle.msc_base.specs.Lists.{IsAmong}
use Rattle.term_laws.specs.Listing.{set_weight}
use Rattle.term_laws.specs.Normality.{AreDifferent}
use Rattle.term_successors.specs.Successors.{AreRising}
use Rattle.term_successors.proofs.TermSets.{among_seen, each_from, rising_different, same_weight, seen_among}
use Rattle.term_step.specs.Searches.{IsTally, AddsOne}
use Rattle.term_step.specs.declared.found.Found.{Found}

-- ---- a term that is put into a sorted set

module _ (t key : Tree) (e : key ≡ t) (old new : Found) (puts : (y : Tree) → contains tree_cmp new.terms y ≡ cond (is_eq (tree_cmp key y)) true (contains tree_cmp old.terms y)) where
  put_there : (b : Bool) → b ≡ true → (c : Bool) → cond b true c ≡ true
  put_there true q c = refl
  put_there false q c = cc

  put_kept : (b c : Bool) → c ≡ true → cond b true c ≡ true
  put_kept true c q = refl
  put_kept false c q = q

  pub is_there : IsAmong new.terms.keys t
  is_there =
      let same : is_eq (tree_cmp key t) ≡ true = same_by_order key t ∙ same_tree_is_exact.whole key t e in
      seen_among new.terms.keys t (puts t ∙ put_there (is_eq (tree_cmp key t)) same (contains tree_cmp old.terms t))

  pub is_kept : (z : Tree) → IsAmong old.terms.keys z → IsAmong new.terms.keys z
  is_kept z i = seen_among new.terms.keys z (puts z ∙ put_kept (is_eq (tree_cmp key z)) (contains tree_cmp old.terms z) (among_seen old.terms.keys z i))

  pub was_or_is : (z : Tree) → IsAmong new.terms.keys z → IsAmong old.terms.keys z ⊎ (z ≡ t)
  was_or_is z i = go (is_eq (tree_cmp key z)) refl (sym (puts z) ∙ among_seen new.terms.keys z i)
    where
      go : (b : Bool) → is_eq (tree_cmp key z) ≡ b → cond b true (contains tree_cmp old.terms z) ≡ true → IsAmong old.terms.keys z ⊎ (z ≡ t)
      go true q h = inr (sym (same_tree_is_exact.sound key z (sym (same_by_order key z) ∙ q)) ∙ e)
      go false q h = inl (seen_among old.terms.keys z h)

-- ---- a new term

apart : (t : Tree) (old : Found) → contains tree_cmp old.terms t ≡ false → (y : Tree) → IsAmong old.terms.keys y → same_tree t y ≡ false
apart t old free y i = go (same_tree t y) refl
  where
    go : (b : Bool) → same_tree t y ≡ b → b ≡ false
    go true q =
        let held : IsAmong old.terms.keys t = subst (λ (u : Tree). IsAmong old.terms.keys u) (sym (same_tree_is_exact.sound t y q)) i in
        let bad : true ≡ false = sym (among_seen old.terms.keys t held) ∙ free in
        cc
    go false q = refl

pub added-new : (old new : Found) (t key : Tree) (all : Bool) → IsTally old → set_weight old.terms.keys ≤ old.most → AreRising new.terms.keys → key ≡ t → contains tree_cmp old.terms key ≡ false
    → ((y : Tree) → contains tree_cmp new.terms y ≡ cond (is_eq (tree_cmp key y)) true (contains tree_cmp old.terms y)) → new.weight ≡ min (old.weight + min (weight t) most_stored) most_stored → new.most ≡ old.most
    → all ≡ nat_le new.weight new.most → AddsOne t old new all
added-new old new t key all h within rises e free puts heavy most test = record {
  gains = record {
    tally = record { rising = rises; weight = weighs; most = omega (arith, h.most) };
    most = most;
    kept = is_kept t key e old new puts;
    each = was_or_is t key e old new puts;
  };
  among = is_there t key e old new puts;
  bounded = record { within = low; beyond = high };
}
  where
    lacks : contains tree_cmp old.terms t ≡ false
    lacks = ap (λ (y : Tree). contains tree_cmp old.terms y) (sym e) ∙ free

    turned : (z : Tree) → IsAmong old.terms.keys z ⊎ (z ≡ t) → IsAmong (t ∷ old.terms.keys) z
    turned z (inl i) = inr i
    turned z (inr q) = inl q

    back : (z : Tree) → IsAmong (t ∷ old.terms.keys) z → IsAmong new.terms.keys z
    back z (inl q) = subst (λ (y : Tree). IsAmong new.terms.keys y) (sym q) (is_there t key e old new puts)
    back z (inr i) = is_kept t key e old new puts z i

    different : AreDifferent (t ∷ old.terms.keys)
    different = (each_from (λ y. same_tree t y ≡ false) old.terms.keys (apart t old lacks), rising_different old.terms.keys h.rising)

    whole : set_weight new.terms.keys ≡ weight t + set_weight old.terms.keys
    whole = same_weight new.terms.keys (t ∷ old.terms.keys) (rising_different new.terms.keys rises) different (λ z i. turned z (was_or_is t key e old new puts z i)) back

    weighs : new.weight ≡ min (set_weight new.terms.keys) most_stored
    weighs = let a = h.weight in let b = whole in omega arith

    low : all ≡ true → set_weight new.terms.keys ≤ new.most
    low a = let b : nat_le new.weight new.most ≡ true = sym test ∙ a in let l : new.weight ≤ new.most = grind (arith, nat_tests) in let m = h.most in let g = weighs in omega arith

    high : all ≡ false → new.most < set_weight new.terms.keys
    high a = let b : nat_le new.weight new.most ≡ false = sym test ∙ a in let l : new.most < new.weight = grind (arith, nat_tests) in let g = weighs in omega arith

-- ---- a term that was found before

pub added-met : (old new : Found) (t key : Tree) → IsTally old → set_weight old.terms.keys ≤ old.most → key ≡ t → contains tree_cmp old.terms key ≡ true → ((y : Tree) → contains tree_cmp new.terms y ≡ cond (is_eq (tree_cmp key y)) true (contains tree_cmp old.terms y))
    → AreRising new.terms.keys → new.weight ≡ old.weight → new.most ≡ old.most → AddsOne t old new true
added-met old new t key h within e met puts rises heavy most = record {
  gains = record {
    tally = record { rising = rises; weight = let a = h.weight in let b = whole in omega arith; most = omega (arith, h.most) };
    most = most;
    kept = is_kept t key e old new puts;
    each = λ z i. inl (held z (was_or_is t key e old new puts z i));
  };
  among = is_there t key e old new puts;
  bounded = record { within = λ a. let b = whole in omega arith; beyond = λ a. cc };
}
  where
    there : IsAmong old.terms.keys t
    there = seen_among old.terms.keys t (ap (λ (y : Tree). contains tree_cmp old.terms y) (sym e) ∙ met)

    held : (z : Tree) → IsAmong old.terms.keys z ⊎ (z ≡ t) → IsAmong old.terms.keys z
    held z (inl i) = i
    held z (inr q) = subst (λ (y : Tree). IsAmong old.terms.keys y) (sym q) there

    whole : set_weight new.terms.keys ≡ set_weight old.terms.keys
    whole = same_weight new.terms.keys old.terms.keys (rising_different new.terms.keys rises) (rising_different old.terms.keys h.rising) (λ z i. held z (was_or_is t key e old new puts z i)) (is_kept t key e old new puts)

pub tally-none : (f : Found) → f.terms.keys ≡ [] → f.weight ≡ 0 → f.most < most_stored → IsTally f
tally-none f h e l = record {
  rising = subst (λ (xs : List Tree). AreRising xs) (sym h) tt;
  weight = let p = ap set_weight h in omega arith;
  most = l;
}

pub ruleset tallying = (tally-none)
