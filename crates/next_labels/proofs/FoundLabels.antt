-- The labels that were found so far, as a sorted set.
use Rattle.std.specs.BTreeMap.{is_at}
use Rattle.std.specs.List.{list_any}
use Rattle.std.specs.List.Sorted.{IsStrictlySortedBy}
use Rattle.std.specs.Ordering.{is_eq}
use Rattle.std.specs.Prelude.{ℕ, ◌+◌, ◌<◌, ◌≡◌, ◌⊎◌, ◌||◌, Bool, true, false, List, [], ◌∷◌, Some, length, refl}
use Rattle.std.specs.declared.cmp.Ordering.{Ordering}
use Rattle.std.specs.declared.cmp.Ordering.TheVariants.{Less, Equal, Greater}
use Rattle.std.proofs.Common.{ap, sym, ◌∙◌, subst, arith, cond, ltb, inl, inr}
use Rattle.std.proofs.lemmas.Bool.{ltb-true, ltb-false}
use Rattle.std.proofs.lemmas.Option.{slice_get_within, same_Some}
use Rattle.msc_base.specs.declared.label.Label.{Label}
use Rattle.msc_base.specs.Lists.{IsAmong}
use Rattle.chart_term.specs.Terms.{Tree}
use Rattle.label_table.specs.Labels.{label_number}
use Rattle.label_table.proofs.Numbering.{present}
use Rattle.term_tables.specs.NetValues.{NetsValue}
use Rattle.trace_judge.specs.Sets.{GoesOnWith}
use Rattle.next_labels.specs.Found.{Finds, IsFoundUpTo}
use Rattle.next_labels.specs.NextLabels.{AreNextLabels}
use Rattle.next_labels.specs.Order.{label_cmp}
use Rattle.next_labels.proofs.LabelOrder.{cmp_is, cmp_itself}

-- ---- members of a sorted set

seen_among : (ls : List Label) (a : Label) → list_any (is_at (label_cmp a)) ls ≡ true → IsAmong ls a
seen_among [] a h = cc
seen_among (l ∷ ls) a h = go (label_cmp a l) refl h (seen_among ls a)
  where
    go : (o : Ordering) → label_cmp a l ≡ o → (is_at (label_cmp a) l || list_any (is_at (label_cmp a)) ls) ≡ true → (list_any (is_at (label_cmp a)) ls ≡ true → IsAmong ls a) → (a ≡ l) ⊎ IsAmong ls a
    go Less e h f = let q : is_at (label_cmp a) l ≡ false = rw e in inr (f (rw q at h))
    go Equal e h f = inl (cmp_is a l e)
    go Greater e h f = let q : is_at (label_cmp a) l ≡ false = rw e in inr (f (rw q at h))

among_seen : (ls : List Label) (a : Label) → IsAmong ls a → list_any (is_at (label_cmp a)) ls ≡ true
among_seen [] a h = absurd h
among_seen (l ∷ ls) a (inl e) =
    let q : label_cmp a l ≡ Equal = ap (label_cmp a) (sym e) ∙ cmp_itself a in
    let t : is_at (label_cmp a) l ≡ true = rw q in
    ap (λ b. b || list_any (is_at (label_cmp a)) ls) t
among_seen (l ∷ ls) a (inr h) = ap (λ b. is_at (label_cmp a) l || b) (among_seen ls a h) ∙ both (is_at (label_cmp a) l)
  where
    both : (b : Bool) → (b || true) ≡ true
    both true = refl
    both false = refl

-- ---- a label that is put into one

module _ (key : Label) (old new : List Label) (puts : (b : Label) → list_any (is_at (label_cmp b)) new ≡ cond (is_eq (label_cmp key b)) true (list_any (is_at (label_cmp b)) old)) where
  put_there : (b : Bool) → b ≡ true → (c : Bool) → cond b true c ≡ true
  put_there true q c = refl
  put_there false q c = cc

  put_kept : (b c : Bool) → c ≡ true → cond b true c ≡ true
  put_kept true c q = refl
  put_kept false c q = q

  is_there : IsAmong new key
  is_there = let same : is_eq (label_cmp key key) ≡ true = ap is_eq (cmp_itself key) in seen_among new key (puts key ∙ put_there (is_eq (label_cmp key key)) same (list_any (is_at (label_cmp key)) old))

  is_kept : (b : Label) → IsAmong old b → IsAmong new b
  is_kept b i = seen_among new b (puts b ∙ put_kept (is_eq (label_cmp key b)) (list_any (is_at (label_cmp b)) old) (among_seen old b i))

  was_or_is : (b : Label) → IsAmong new b → IsAmong old b ⊎ (b ≡ key)
  was_or_is b i = go (label_cmp key b) refl (sym (puts b) ∙ among_seen new b i)
    where
      go : (o : Ordering) → label_cmp key b ≡ o → cond (is_eq (label_cmp key b)) true (list_any (is_at (label_cmp b)) old) ≡ true → IsAmong old b ⊎ (b ≡ key)
      go Less e h = let q : is_eq (label_cmp key b) ≡ false = ap is_eq e in inl (seen_among old b (rw q at h))
      go Equal e h = inr (sym (cmp_is key b e))
      go Greater e h = let q : is_eq (label_cmp key b) ≡ false = ap is_eq e in inl (seen_among old b (rw q at h))

-- ---- what was found

module _ (v : NetsValue) (terms : List Tree) where
  pub found_none : IsFoundUpTo v terms 0 []
  unfolding IsStrictlySortedBy
  found_none = record { rising = tt; exact = λ a. record { to = λ i. absurd i; from = λ f. absurd (omega (arith, f.below)) } }

  later : (n : ℕ) (a : Label) → Finds v terms n a → Finds v terms (n + 1) a
  later n a f = record { number = f.number; below = omega (arith, f.below); is = f.is; goes_on = f.goes_on }

  -- a label that has a number below the next one has one below it, or it
  earlier : (n : ℕ) (a : Label) → Finds v terms (n + 1) a → Finds v terms n a ⊎ ((label_number v.labels a ≡ Some n) × GoesOnWith v a terms)
  earlier n a f = go (ordered f.number n f.below)
    where
      ordered : (m n : ℕ) → m < n + 1 → (m < n) ⊎ (m ≡ n)
      ordered m n h = by (ltb m n) refl
        where
          by : (b : Bool) → ltb m n ≡ b → (m < n) ⊎ (m ≡ n)
          by true e = inl (ltb-true m n e)
          by false e = let least = ltb-false m n e in inr (omega (arith, h, least))

      go : (f.number < n) ⊎ (f.number ≡ n) → Finds v terms n a ⊎ ((label_number v.labels a ≡ Some n) × GoesOnWith v a terms)
      go (inl h) = inl (record { number = f.number; below = h; is = f.is; goes_on = f.goes_on })
      go (inr e) = inr (f.is ∙ ap Some e, f.goes_on)

  -- the next label isn't gone on with
  pub found_same : (n : ℕ) (labels : List Label) → ((a : Label) → label_number v.labels a ≡ Some n → GoesOnWith v a terms → ⊥) → IsFoundUpTo v terms n labels → IsFoundUpTo v terms (n + 1) labels
  found_same n labels none h = record {
    rising = h.rising;
    exact = λ a. record { to = λ i. later n a ((h.exact a).to i); from = λ f. back a (earlier n a f) };
  }
    where
      back : (a : Label) → Finds v terms n a ⊎ ((label_number v.labels a ≡ Some n) × GoesOnWith v a terms) → IsAmong labels a
      back a (inl f) = (h.exact a).from f
      back a (inr g) = absurd (none a g.0 g.1)

  -- it is, and stands in the new set
  pub found_more : (n : ℕ) (key : Label) (old new : List Label) → label_number v.labels key ≡ Some n → GoesOnWith v key terms → IsStrictlySortedBy label_cmp new
      → ((b : Label) → list_any (is_at (label_cmp b)) new ≡ cond (is_eq (label_cmp key b)) true (list_any (is_at (label_cmp b)) old)) → IsFoundUpTo v terms n old → IsFoundUpTo v terms (n + 1) new
  found_more n key old new is goes sorted puts h = record {
    rising = sorted;
    exact = λ a. record { to = λ i. there a (was_or_is key old new puts a i); from = λ f. back a (earlier n a f) };
  }
    where
      there : (a : Label) → IsAmong old a ⊎ (a ≡ key) → Finds v terms (n + 1) a
      there a (inl i) = later n a ((h.exact a).to i)
      there a (inr e) = record {
        number = n;
        below = omega arith;
        is = ap (label_number v.labels) e ∙ is;
        goes_on = subst (λ (b : Label). GoesOnWith v b terms) (sym e) goes;
      }

      one : (a : Label) → label_number v.labels a ≡ Some n → a ≡ key
      one a e = same_Some a key (sym (present a v.labels n e) ∙ present key v.labels n is)

      back : (a : Label) → Finds v terms n a ⊎ ((label_number v.labels a ≡ Some n) × GoesOnWith v a terms) → IsAmong new a
      back a (inl f) = is_kept key old new puts a ((h.exact a).from f)
      back a (inr g) = subst (λ (b : Label). IsAmong new b) (sym (one a g.0)) (is_there key old new puts)

  -- all labels were asked
  pub found_all : (labels : List Label) → IsFoundUpTo v terms (length v.labels) labels → AreNextLabels v terms labels
  found_all labels h = record {
    rising = h.rising;
    exact = λ a. record {
      to = λ i. ((h.exact a).to i).goes_on;
      from = λ g. let is = g.left.left.labelled in (h.exact a).from (record { number = g.left.left.event.label; below = slice_get_within v.labels g.left.left.event.label a (present a v.labels g.left.left.event.label is); is = is; goes_on = g });
    };
  }

pub ruleset finding = (found_none, found_same, found_more, found_all)
