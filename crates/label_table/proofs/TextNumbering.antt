-- Numbers of texts.
use Rattle.std.proofs.Common.{◌≡◌, ℕ, ◌+◌, ◌<◌, Bool, true, false, Some, None, List, refl, sym, ap, subst, ◌∙◌, arith, true≢false}
use Rattle.std.specs.BTreeMap.{Updates, btree_map_len, is_at}
use Rattle.std.specs.Cmp.Lexicographic.{slice_cmp}
use Rattle.std.specs.Map.{IsKeyTest, AreApart, KeepsOthers}
use Rattle.std.specs.Ordering.{nat_cmp, is_eq, eq_by_cmp}
use Rattle.std.specs.declared.alloc.Global.{Global}
use Rattle.std.specs.declared.cmp.Ordering.{Ordering}
use Rattle.std.specs.declared.cmp.Ordering.TheVariants.{Less, Equal, Greater}
use Rattle.std.specs.declared.vec.Vec.{Vec}
use Rattle.std.specs.Str.{bytes_eq}
use Rattle.std.proofs.lemmas.Map.Lookups.{exact_bytes}
use Rattle.std.proofs.lemmas.Slice.Eq.{bytes_eq-Decides}
use Rattle.label_table.proofs.Numbering.{some_none}
use Rattle.label_table.specs.Keys.{TextNumbers, text_number, IsNumbered, AreTextNumbers, KeepsNumbers}

pub is_equal : (r : Ordering) → is_eq r ≡ true → r ≡ Equal
is_equal Less h = absurd cc
is_equal Equal h = refl
is_equal Greater h = absurd cc

-- whether a stored text is this one
is_text : List ℕ → Vec ℕ Global → Bool
is_text text = is_at (λ key. slice_cmp nat_cmp text key.items)

-- the order of stored texts
abbrev pub text_order : Vec ℕ Global → Vec ℕ Global → Ordering
text_order a b = slice_cmp nat_cmp a.items b.items

is_text-equal : (text : List ℕ) (key : Vec ℕ Global) → is_text text key ≡ true → text ≡ key.items
unfolding is_text
is_text-equal text key h = exact_bytes text key.items (is_equal (slice_cmp nat_cmp text key.items) h)

is_text-test : (text : List ℕ) → IsKeyTest (eq_by_cmp text_order) (is_text text)
unfolding is_text
is_text-test text x y h = ap (λ t. is_eq (slice_cmp nat_cmp t y.items)) (is_text-equal text x h)

are_apart : (a b : List ℕ) → (a ≡ b → ⊥) → AreApart (is_text a) (is_text b)
are_apart a b apart key h = by (is_text b key) refl
  where
    by : (r : Bool) → is_text b key ≡ r → is_text b key ≡ false
    by true e = absurd (apart (is_text-equal a key h ∙ sym (is_text-equal b key e)))
    by false e = e

differ : (a b : List ℕ) → bytes_eq a b ≡ false → a ≡ b → ⊥
differ a b e same = absurd (true≢false (sym ((bytes_eq-Decides a b).1 same) ∙ e))

module _ (old new : TextNumbers) (key : Vec ℕ Global) (n : ℕ) (h : Updates text_order old new key (Some n)) where
  pub added : IsNumbered new key.items n
  added = h.1

  others : (text : List ℕ) → (key.items ≡ text → ⊥) → text_number new text ≡ text_number old text
  unfolding is_text KeepsOthers
  others text apart = h.3 (is_text text) (is_text-test text) (are_apart key.items text apart)

  pub kept : text_number old key.items ≡ None → KeepsNumbers old new
  kept fresh text m numbered = others text (λ same. absurd (some_none m (sym (subst (λ t. IsNumbered old t m) (sym same) numbered) ∙ fresh))) ∙ numbered

  below_new : AreTextNumbers old → n ≡ btree_map_len old → btree_map_len new ≡ btree_map_len old + 1
      → (text : List ℕ) (m : ℕ) → IsNumbered new text m → m < btree_map_len new
  below_new numbers next more text m numbered = by (bytes_eq key.items text) refl
    where
      by : (b : Bool) → bytes_eq key.items text ≡ b → m < btree_map_len new
      by true e =
          let same : Some n ≡ Some m = sym added ∙ ap (text_number new) ((bytes_eq-Decides key.items text).0 e) ∙ numbered in
          let same_number : n ≡ m = cc in
          omega (arith, same_number, next, more)
      by false e = omega (arith, more, numbers.below text m (sym (others text (differ key.items text e)) ∙ numbered))

  -- the number of a text that isn't the new one is below the new one's
  older : AreTextNumbers old → n ≡ btree_map_len old → (text : List ℕ) → (key.items ≡ text → ⊥) → IsNumbered new text n → ⊥
  older numbers next text apart numbered = omega (arith, next, numbers.below text n (sym (others text apart) ∙ numbered))

  once_new : AreTextNumbers old → n ≡ btree_map_len old → (a b : List ℕ) (m : ℕ) → IsNumbered new a m → IsNumbered new b m → a ≡ b
  once_new numbers next a b m h k = by (bytes_eq key.items a) (bytes_eq key.items b) refl refl
    where
      is_new : (text : List ℕ) → key.items ≡ text → IsNumbered new text m → m ≡ n
      is_new text same numbered = let e : Some m ≡ Some n = sym numbered ∙ ap (text_number new) (sym same) ∙ added in cc

      by : (c d : Bool) → bytes_eq key.items a ≡ c → bytes_eq key.items b ≡ d → a ≡ b
      by true true e f = sym ((bytes_eq-Decides key.items a).0 e) ∙ (bytes_eq-Decides key.items b).0 f
      by true false e f = absurd (older numbers next b (differ key.items b f) (k ∙ ap Some (is_new a ((bytes_eq-Decides key.items a).0 e) h)))
      by false true e f = absurd (older numbers next a (differ key.items a e) (h ∙ ap Some (is_new b ((bytes_eq-Decides key.items b).0 f) k)))
      by false false e f = numbers.once a b m (sym (others a (differ key.items a e)) ∙ h) (sym (others b (differ key.items b f)) ∙ k)

  pub are_numbers : AreTextNumbers old → n ≡ btree_map_len old → btree_map_len new ≡ btree_map_len old + 1 → AreTextNumbers new
  are_numbers numbers next more = record { below = below_new numbers next more; once = once_new numbers next }
