-- The number of a label in a list.
use Rattle.std.proofs.Common.{◌≡◌, ℕ, suc, Bool, true, false, Option, Some, None, List, [], ◌∷◌, length, get_or, slice_get, slice_index_or, zero, ◌<◌, refl, sym, ap, subst, ◌∙◌, arith, Contains}
use Rattle.std.proofs.lemmas.List.Elements.{Contains-get_or}
use Rattle.std.proofs.lemmas.List.Quantifiers.{position-Some}
use Rattle.std.proofs.lemmas.Option.{slice_get-get_or, slice_get_within, get_or_from_slice_get}
use Rattle.msc_base.specs.declared.label.Label.{Label}
use Rattle.label_table.specs.Labels.{same_label, label_number}
use Rattle.label_table.proofs.Equality.{same_label_is_exact}
use Rattle.label_table.proofs.Positions.{later_none, position-first, position-later}

pub some_none : {X : Type 0} (x : X) → Some x ≡ None → ⊥
some_none x h = absurd cc

-- what has no number isn't in the list
absent_at : (l : Label) (ls : List Label) (k : ℕ) → k < length ls → slice_index_or ls k l ≡ l → label_number ls l ≡ None → ⊥
absent_at l [] k h e n = omega (arith, h)
absent_at l (m ∷ ls) zero h e n = some_none 0 (sym (position-first (same_label l) m ls (same_label_is_exact.whole l m (sym e))) ∙ n)
absent_at l (m ∷ ls) (suc k) h e n = by (absent_at l ls k (omega (arith, h)) e) (same_label l m) refl
  where
    by : (label_number ls l ≡ None → ⊥) → (b : Bool) → same_label l m ≡ b → ⊥
    by rest true q = some_none 0 (sym (position-first (same_label l) m ls q) ∙ n)
    by rest false q = rest (later_none (label_number ls l) (sym (position-later (same_label l) m ls q) ∙ n))

pub absent : (l : Label) (ls : List Label) → label_number ls l ≡ None → Contains ls l → ⊥
absent l ls n h = absent_at l ls h.0 h.1 h.2 n

-- what has a number stands there
pub present : (l : Label) (ls : List Label) (n : ℕ) → label_number ls l ≡ Some n → slice_get ls n ≡ Some l
present l ls n h =
    let found = position-Some (same_label l) ls n l h in
    slice_get-get_or ls n l found.0 ∙ ap Some (sym (same_label_is_exact.sound l (get_or ls n l) found.1))

pub contains_at : (l : Label) (ls : List Label) (n : ℕ) → slice_get ls n ≡ Some l → Contains ls l
contains_at l ls n h =
    subst (Contains ls) (get_or_from_slice_get ls n l l h) (Contains-get_or ls n l (slice_get_within ls n l h))

-- where a label of the list stands
pub place : (l : Label) (ls : List Label) → Contains ls l → (n : ℕ) × (slice_get ls n ≡ Some l)
place l ls h = (h.0, slice_get-get_or ls h.0 l h.1 ∙ ap Some h.2)

-- where the label stands at one place alone, that is its number
pub number_at : (l : Label) (ls : List Label) (n : ℕ) → ((m : ℕ) → slice_get ls m ≡ Some l → m ≡ n) → slice_get ls n ≡ Some l → label_number ls l ≡ Some n
number_at l ls n once h = by (label_number ls l) refl
  where
    by : (r : Option ℕ) → label_number ls l ≡ r → label_number ls l ≡ Some n
    by None e = absurd (absent l ls e (contains_at l ls n h))
    by (Some m) e = e ∙ ap Some (once m (present l ls m e))

-- what isn't in the list has no number
pub no_number : (l : Label) (ls : List Label) → (Contains ls l → ⊥) → label_number ls l ≡ None
no_number l ls h = by (label_number ls l) refl
  where
    by : (r : Option ℕ) → label_number ls l ≡ r → label_number ls l ≡ None
    by None e = e
    by (Some m) e = absurd (h (contains_at l ls m (present l ls m e)))

pub ruleset numbered = (absent, present)
