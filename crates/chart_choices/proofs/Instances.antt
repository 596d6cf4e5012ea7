-- Instances that are put into a sorted set.
use Rattle.std.specs.BTreeMap.{is_at}
use Rattle.std.specs.Cmp.Lexicographic.{slice_cmp}
use Rattle.std.specs.List.{list_any}
use Rattle.std.specs.Ordering.{is_eq, nat_cmp}
use Rattle.std.specs.Prelude.{◌≡◌, ◌⊎◌, ◌||◌, ℕ, Bool, true, false, List, [], ◌∷◌, cond, refl}
use Rattle.std.proofs.Common.{◌∙◌, ap, inl, inr, sym}
use Rattle.std.proofs.lemmas.Map.Text.{is_eq-slice_cmp}
use Rattle.std.proofs.lemmas.Slice.Eq.{bytes_eq-Decides}
use Rattle.msc_base.specs.declared.label.Label.{Label}
use Rattle.msc_base.specs.Lists.{IsAmong}
use Rattle.chart_choices.specs.Making.{AreRising, HasLabelAt, HaveAdded, IsAdded}

abbrev same : List ℕ → List ℕ → Bool
same i j = is_at (slice_cmp nat_cmp i) j

same_is : (i j : List ℕ) → same i j ≡ true → i ≡ j
same_is i j e = (bytes_eq-Decides i j).0 (sym (is_eq-slice_cmp i j) ∙ e)

is_same : (i j : List ℕ) → i ≡ j → same i j ≡ true
is_same i j e = is_eq-slice_cmp i j ∙ (bytes_eq-Decides i j).1 e

seen_among : (ls : List (List ℕ)) (i : List ℕ) → list_any (is_at (slice_cmp nat_cmp i)) ls ≡ true → IsAmong ls i
seen_among [] i h = cc
seen_among (l ∷ ls) i h = by (same i l) refl h (seen_among ls i)
  where
    by : (b : Bool) → same i l ≡ b → (b || list_any (is_at (slice_cmp nat_cmp i)) ls) ≡ true → (list_any (is_at (slice_cmp nat_cmp i)) ls ≡ true → IsAmong ls i) → (i ≡ l) ⊎ IsAmong ls i
    by true e h f = inl (same_is i l e)
    by false e h f = inr (f h)

among_seen : (ls : List (List ℕ)) (i : List ℕ) → IsAmong ls i → list_any (is_at (slice_cmp nat_cmp i)) ls ≡ true
among_seen [] i h = absurd h
among_seen (l ∷ ls) i (inl e) = ap (λ (b : Bool). b || list_any (is_at (slice_cmp nat_cmp i)) ls) (is_same i l e)
among_seen (l ∷ ls) i (inr h) = ap (λ (b : Bool). same i l || b) (among_seen ls i h) ∙ both (same i l)
  where
    both : (b : Bool) → (b || true) ≡ true
    both true = refl
    both false = refl

module _ (key : List ℕ) (old new : List (List ℕ)) (puts : (j : List ℕ) → list_any (is_at (slice_cmp nat_cmp j)) new ≡ cond (is_eq (slice_cmp nat_cmp key j)) true (list_any (is_at (slice_cmp nat_cmp j)) old)) where
  was_or_is : (j : List ℕ) → IsAmong new j → IsAmong old j ⊎ (j ≡ key)
  was_or_is j i = by (is_eq (slice_cmp nat_cmp key j)) refl (sym (puts j) ∙ among_seen new j i)
    where
      by : (b : Bool) → is_eq (slice_cmp nat_cmp key j) ≡ b → cond b true (list_any (is_at (slice_cmp nat_cmp j)) old) ≡ true → IsAmong old j ⊎ (j ≡ key)
      by true e h = inr (sym (same_is key j e))
      by false e h = inl (seen_among old j h)

  is_there : (j : List ℕ) → j ≡ key → IsAmong new j
  is_there j e = seen_among new j (puts j ∙ ap (λ (b : Bool). cond b true (list_any (is_at (slice_cmp nat_cmp j)) old)) (is_same key j (sym e)))

  is_kept : (j : List ℕ) → IsAmong old j → IsAmong new j
  is_kept j i = seen_among new j (puts j ∙ by (is_eq (slice_cmp nat_cmp key j)) (list_any (is_at (slice_cmp nat_cmp j)) old) (among_seen old j i))
    where
      by : (b c : Bool) → c ≡ true → cond b true c ≡ true
      by true c q = refl
      by false c q = q

  pub one_added : AreRising new → IsAdded key old new
  one_added rising = record {
    rising = rising;
    exact = λ j. record { to = was_or_is j; from = λ h. elim h [ inl i ↦ is_kept j i | inr e ↦ is_there j e ] };
  }

-- ---- labels one after another

pub none_added : (is : List (List ℕ)) → AreRising is → HaveAdded [] is is
none_added is rising = record { rising = rising; exact = λ i. record { to = λ h. inl h; from = λ h. elim h [ inl j ↦ j | inr l ↦ absurd l.among ] } }

pub then_added : (l : Label) (ls : List Label) (a b c : List (List ℕ)) → IsAdded l.at a b → HaveAdded ls b c → HaveAdded (l ∷ ls) a c
then_added l ls a b c h k = record {
  rising = k.rising;
  exact = λ i. record { to = λ j. first_or i ((k.exact i).to j); from = λ j. back i j };
}
  where
    was : (i : List ℕ) → IsAmong a i ⊎ (i ≡ l.at) → IsAmong a i ⊎ HasLabelAt (l ∷ ls) i
    was i (inl j) = inl j
    was i (inr e) = inr (record { label = l; among = inl refl; at = sym e })

    first_or : (i : List ℕ) → IsAmong b i ⊎ HasLabelAt ls i → IsAmong a i ⊎ HasLabelAt (l ∷ ls) i
    first_or i (inl j) = was i ((h.exact i).to j)
    first_or i (inr g) = inr (record { label = g.label; among = inr g.among; at = g.at })

    of_label : (i : List ℕ) (m : Label) → m.at ≡ i → (m ≡ l) ⊎ IsAmong ls m → IsAmong c i
    of_label i m e (inl q) = (k.exact i).from (inl ((h.exact i).from (inr (sym e ∙ ap (λ (n : Label). n.at) q))))
    of_label i m e (inr j) = (k.exact i).from (inr (record { label = m; among = j; at = e }))

    back : (i : List ℕ) → IsAmong a i ⊎ HasLabelAt (l ∷ ls) i → IsAmong c i
    back i (inl j) = (k.exact i).from (inl ((h.exact i).from (inl j)))
    back i (inr g) = of_label i g.label g.at g.among

-- what was added of labels so far, and what is left of them
pub record AreLeft (ls : List Label) (a : List (List ℕ)) (rest : List Label) (b : List (List ℕ)) : Type 0 where
  pub rising : AreRising b
  pub whole : (c : List (List ℕ)) → HaveAdded rest b c → HaveAdded ls a c

pub labels_start : (ls : List Label) (a : List (List ℕ)) → AreRising a → AreLeft ls a ls a
labels_start ls a r = record { rising = r; whole = λ c h. h }

pub labels_step : (ls : List Label) (a : List (List ℕ)) (l : Label) (rest : List Label) (b c : List (List ℕ)) → AreLeft ls a (l ∷ rest) b → IsAdded l.at b c → AreLeft ls a rest c
labels_step ls a l rest b c h i = record { rising = i.rising; whole = λ d k. h.whole d (then_added l rest b c d i k) }

pub labels_end : (ls : List Label) (a b : List (List ℕ)) → AreLeft ls a [] b → HaveAdded ls a b
labels_end ls a b h = h.whole b (none_added b h.rising)
