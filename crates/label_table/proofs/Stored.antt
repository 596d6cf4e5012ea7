-- Tables of labels: what finds a label, and that labels that are added are found.
use Rattle.std.proofs.Common.{◌≡◌, ℕ, ◌<◌, ◌⊎◌, Bool, true, false, Some, None, List, [], ◌∷◌, ◌++◌, Contains, length, get_or, slice_get, ltb, refl, sym, ap, subst, ◌∙◌, arith}
use mathlib.Core.Logic.{inl, inr}
use Rattle.std.specs.BTreeMap.{Updates, get, is_at}
use Rattle.std.specs.Map.{lookup}
use Rattle.std.proofs.lemmas.Bool.{ltb-true, ltb-false}
use Rattle.std.proofs.lemmas.List.{length_push, get_or_append_left, get_or_push}
use Rattle.std.proofs.lemmas.Option.{slice_get-get_or, slice_get_within, get_or_from_slice_get, same_Some}
use Rattle.msc_base.specs.Stored.{most_numbered}
use Rattle.msc_base.specs.declared.label.Label.{Label}
use Rattle.label_table.specs.declared.key.LabelKey.{LabelKey}
use Rattle.label_table.specs.Keys.{TextNumbers, AreTextNumbers, KeepsNumbers, IsKey}
use Rattle.label_table.specs.Labels.{label_number}
use Rattle.label_table.specs.Stores.{KeyNumbers, key_order, IsFound, AreStored}
use Rattle.label_table.proofs.Keys.{key_is, label_is, key_kept, other_keys}
use Rattle.label_table.proofs.Numbering.{number_at, no_number, contains_at, place, some_none}

module _ (texts : TextNumbers) (keys : KeyNumbers) (labels : List Label) where
  -- a label stands at one place
  once : AreStored texts keys labels → (l : Label) (m n : ℕ) → slice_get labels m ≡ Some l → slice_get labels n ≡ Some l → m ≡ n
  once stored l m n h k =
      let first = stored.found m l h in
      let second = stored.found n l k in
      same_Some m n (sym first.at ∙ ap (get key_order keys) (key_is texts l first.key second.key first.is second.is) ∙ second.at)

  pub stored_number : AreStored texts keys labels → (l : Label) (n : ℕ) → slice_get labels n ≡ Some l → label_number labels l ≡ Some n
  stored_number stored l n h = number_at l labels n (λ m k. once stored l m n k h) h

  -- without a key the table lacks the label
  pub without_key : AreStored texts keys labels → (l : Label) → ((k : LabelKey) → IsKey texts l k → ⊥) → label_number labels l ≡ None
  without_key stored l none = no_number l labels (λ h. let (n, at) = place l labels h in let found = stored.found n l at in none found.key found.is)

  -- what a key finds is the label's number, or the table lacks the label
  found_number : AreStored texts keys labels → (l : Label) (k : LabelKey) → IsKey texts l k → (n : ℕ) → slice_get labels n ≡ Some l → get key_order keys k ≡ Some n
  found_number stored l k is n h = let found = stored.found n l h in ap (get key_order keys) (key_is texts l k found.key is found.is) ∙ found.at

  pub without_number : AreStored texts keys labels → (l : Label) (k : LabelKey) → IsKey texts l k → get key_order keys k ≡ None → label_number labels l ≡ None
  without_number stored l k is none = no_number l labels (λ h. let (n, at) = place l labels h in some_none n (sym (found_number stored l k is n at) ∙ none))

  pub other_label : AreStored texts keys labels → (l : Label) (k : LabelKey) → IsKey texts l k → (n : ℕ) → get key_order keys k ≡ Some n → (slice_get labels n ≡ Some l → ⊥) → label_number labels l ≡ None
  other_label stored l k is n at apart =
      no_number l labels (λ h. let (m, there) = place l labels h in apart (subst (λ i. slice_get labels i ≡ Some l) (same_Some m n (sym (found_number stored l k is m there) ∙ at)) there))

  -- the labels stay where each text keeps its number
  pub stored_texts : (new : TextNumbers) → KeepsNumbers texts new → AreTextNumbers new → AreStored texts keys labels → AreStored new keys labels
  stored_texts new keeps numbers stored = record {
    few = stored.few;
    numbers = numbers;
    found = λ n l h. let found = stored.found n l h in record { key = found.key; is = key_kept texts new keeps l found.key found.is; at = found.at };
  }

  -- they stay where the keys stay
  pub stored_unchanged : (new : KeyNumbers) → new.entries ≡ keys.entries → AreStored texts keys labels → AreStored texts new labels
  stored_unchanged new same stored = record {
    few = stored.few;
    numbers = stored.numbers;
    found = λ n l h. let found = stored.found n l h in record { key = found.key; is = found.is; at = ap (lookup (is_at (key_order found.key))) same ∙ found.at };
  }

  -- they stay where a label that they lack gets a number
  pub stored_keys : (new : KeyNumbers) (l : Label) (k : LabelKey) (n : ℕ) → IsKey texts l k → Updates key_order keys new k (Some n) → (Contains labels l → ⊥) → AreStored texts keys labels → AreStored texts new labels
  stored_keys new l k n is h apart stored = record {
    few = stored.few;
    numbers = stored.numbers;
    found = λ m o at.
        let found = stored.found m o at in
        record {
          key = found.key;
          is = found.is;
          at = other_keys keys new k n h found.key (λ same. apart (subst (Contains labels) (label_is texts stored.numbers o l k (subst (IsKey texts o) (sym same) found.is) is) (contains_at o labels m at))) ∙ found.at;
        };
  }

  -- a label whose key has the next number is found when it stands last
  push_at : (l m : Label) (n : ℕ) → slice_get (labels ++ l ∷ []) n ≡ Some m → (slice_get labels n ≡ Some m) ⊎ ((n ≡ length labels) × (l ≡ m))
  push_at l m n h = by (ltb n (length labels)) refl
    where
      there : get_or (labels ++ l ∷ []) n m ≡ m
      there = get_or_from_slice_get (labels ++ l ∷ []) n m m h

      by : (b : Bool) → ltb n (length labels) ≡ b → (slice_get labels n ≡ Some m) ⊎ ((n ≡ length labels) × (l ≡ m))
      by true e =
          let less = ltb-true n (length labels) e in
          inl (slice_get-get_or labels n m less ∙ ap Some (sym (get_or_append_left labels (l ∷ []) m n less) ∙ there))
      by false e =
          let within = slice_get_within (labels ++ l ∷ []) n m h in
          let longer = length_push labels l in
          let past = ltb-false n (length labels) e in
          let last : n ≡ length labels = omega (arith, within, longer, past) in
          inr (last, sym (get_or_push labels l m n (sym last)) ∙ there)

  pub stored_push : (l : Label) (k : LabelKey) → IsKey texts l k → get key_order keys k ≡ Some (length labels) → length labels < most_numbered → AreStored texts keys labels → AreStored texts keys (labels ++ l ∷ [])
  stored_push l k is at few stored = record {
    few = omega (arith, length_push labels l, few);
    numbers = stored.numbers;
    found = λ n m h. by n m (push_at l m n h);
  }
    where
      by : (n : ℕ) (m : Label) → (slice_get labels n ≡ Some m) ⊎ ((n ≡ length labels) × (l ≡ m)) → IsFound texts keys m n
      by n m (inl h) = stored.found n m h
      by n m (inr (last, same)) = record { key = k; is = subst (λ o. IsKey texts o k) same is; at = at ∙ ap Some (sym last) }
