-- Sets of numbers of charts and instances: steps of those who make them.
use Rattle.std.proofs.Common.{◌≡◌, ◌↔◌, ◌⊎◌, inl, inr, ℕ, ◌<◌, ◌≤◌, ◌+◌, Bool, IsTrue, true, false, List, [], length, get_or, Option, Some, None, refl, ap, sym, subst, ◌∙◌, arith}
use Rattle.std.proofs.lemmas.Bool.{cases_eq, true≢false}
use Rattle.std.proofs.lemmas.List.{get_or_past}
use Rattle.std.specs.List.{position}
use Rattle.std.specs.Str.{bytes_eq}
use Rattle.bit_sets.specs.Blocks.{HasBitsOfBoth, ShareBit, has_bit, with_bit}
use Rattle.chart_links.specs.Rows.{RowHas}
use Rattle.chart_links.specs.Sets.{HasExpanded, LeadsToOther, MeetsExpanded, MeetsOther, MeetsRow}
use Rattle.chart_links.specs.Tables.{IsNumber}
use Rattle.chart_links.proofs.BitFacts.{had_either, had_with, none_had, or_true_is}
use Rattle.chart_links.proofs.TableFacts.{not_numbered, same_number}

-- the name's number is added
pub number_added : (names : List (List ℕ)) (name : List ℕ) (k : ℕ) (old new : List ℕ) → new ≡ with_bit old k → IsNumber names name k → (n : ℕ) → (has_bit new n ≡ true) ↔ ((has_bit old n ≡ true) ⊎ IsNumber names name n)
number_added names name k old new made is n = (
  λ h. elim ((had_with old k n).0 (subst (λ (l : List ℕ). has_bit l n ≡ true) made h)) [ inl o ↦ inl o | inr e ↦ inr (subst (IsNumber names name) (sym e) is) ],
  λ s. subst (λ (l : List ℕ). has_bit l n ≡ true) (sym made) ((had_with old k n).1 (elim s [ inl o ↦ inl o | inr at ↦ inr (same_number names name n k at is) ])),
)

-- it has none
pub number_missing : (names : List (List ℕ)) (name : List ℕ) (old : List ℕ) → position (bytes_eq name) names ≡ None → (n : ℕ) → (has_bit old n ≡ true) ↔ ((has_bit old n ≡ true) ⊎ IsNumber names name n)
number_missing names name old none n = (λ h. inl h, λ s. elim s [ inl h ↦ h | inr at ↦ absurd (not_numbered names name none n at) ])

-- the numbers of a row are added
pub row_added : (rows : List (List ℕ)) (row : ℕ) (set old new : List ℕ) → set ≡ get_or rows row [] → HasBitsOfBoth old set new → (n : ℕ) → (has_bit new n ≡ true) ↔ ((has_bit old n ≡ true) ⊎ RowHas rows row n)
row_added rows row set old new is both n =
    let either : has_bit new n ≡ true ↔ ((has_bit old n ≡ true) ⊎ (has_bit set n ≡ true)) = let e = had_either old set new both n in let c = or_true_is (has_bit old n) (has_bit set n) in (λ h. c.0 (sym e ∙ h), λ s. e ∙ c.1 s) in
    subst (λ (l : List ℕ). (has_bit new n ≡ true) ↔ ((has_bit old n ≡ true) ⊎ (has_bit l n ≡ true))) is either

-- there is none
pub row_missing : (rows : List (List ℕ)) (row : ℕ) → length rows ≤ row → (n : ℕ) → RowHas rows row n → ⊥
row_missing rows row high n h = true≢false (sym h ∙ ap (λ (l : List ℕ). has_bit l n) (get_or_past rows row [] high) ∙ none_had n)

pub row_skipped : (rows : List (List ℕ)) (row : ℕ) (old : List ℕ) → length rows ≤ row → (n : ℕ) → (has_bit old n ≡ true) ↔ ((has_bit old n ≡ true) ⊎ RowHas rows row n)
row_skipped rows row old high n = (λ h. inl h, λ s. elim s [ inl h ↦ h | inr r ↦ absurd (row_missing rows row high n r) ])

-- what two sets share
pub meets_is : (rows : List (List ℕ)) (row : ℕ) (own set : List ℕ) (b : Bool) → own ≡ get_or rows row [] → ShareBit own set b → IsTrue b ↔ MeetsRow rows row set
meets_is rows row own set true is shares = (λ t. record { number = shares.0; there = subst (λ (l : List ℕ). has_bit l shares.0 ≡ true) is shares.1; among = shares.2 }, λ m. refl)
meets_is rows row own set false is shares = (
  λ t. absurd (true≢false (sym t)),
  λ m. absurd (true≢false (sym m.among ∙ shares m.number (subst (λ (l : List ℕ). has_bit l m.number ≡ true) (sym is) m.there))),
)

pub meets_none : (rows : List (List ℕ)) (row : ℕ) (set : List ℕ) → length rows ≤ row → IsTrue false ↔ MeetsRow rows row set
meets_none rows row set high = (λ t. absurd (true≢false (sym t)), λ m. absurd (row_missing rows row high m.number m.there))

module _ (names rows : List (List ℕ)) (chart : List ℕ) where
  -- the chart's row, by its number
  pub expanded_row : (u : ℕ) → IsNumber names chart u → (n : ℕ) → RowHas rows u n ↔ HasExpanded names rows chart n
  expanded_row u is n = (λ h. record { from = u; from_is = is; has = h }, λ x. subst (λ (v : ℕ). RowHas rows v n) (same_number names chart x.from u x.from_is is) x.has)

  pub expanded_added : (u : ℕ) (old new : List ℕ) → IsNumber names chart u → ((n : ℕ) → (has_bit new n ≡ true) ↔ ((has_bit old n ≡ true) ⊎ RowHas rows u n))
      → (n : ℕ) → (has_bit new n ≡ true) ↔ ((has_bit old n ≡ true) ⊎ HasExpanded names rows chart n)
  expanded_added u old new is h n =
      let e = expanded_row u is n in
      (λ b. elim ((h n).0 b) [ inl o ↦ inl o | inr r ↦ inr (e.0 r) ], λ s. (h n).1 (elim s [ inl o ↦ inl o | inr x ↦ inr (e.1 x) ]))

  pub expanded_missing : (old : List ℕ) → position (bytes_eq chart) names ≡ None → (n : ℕ) → (has_bit old n ≡ true) ↔ ((has_bit old n ≡ true) ⊎ HasExpanded names rows chart n)
  expanded_missing old none n = (λ h. inl h, λ s. elim s [ inl h ↦ h | inr x ↦ absurd (not_numbered names chart none x.from x.from_is) ])

  pub expanded_meets : (u : ℕ) (set : List ℕ) (b : Bool) → IsNumber names chart u → IsTrue b ↔ MeetsRow rows u set → IsTrue b ↔ MeetsExpanded names rows chart set
  expanded_meets u set b is h = (
    λ t. let m = h.0 t in record { number = m.number; there = (expanded_row u is m.number).0 m.there; among = m.among },
    λ m. h.1 (record { number = m.number; there = (expanded_row u is m.number).1 m.there; among = m.among }),
  )

  pub none_meets : (set : List ℕ) → position (bytes_eq chart) names ≡ None → IsTrue false ↔ MeetsExpanded names rows chart set
  none_meets set none = (λ t. absurd (true≢false (sym t)), λ m. absurd (not_numbered names chart none m.there.from m.there.from_is))

  pub other_led : (u : ℕ) (set : List ℕ) (b : Bool) → IsNumber names chart u → IsTrue b ↔ MeetsOther rows (length names) u set → IsTrue b ↔ LeadsToOther names rows chart set
  other_led u set b is h = (
    λ t. record { from = u; from_is = is; one = h.0 t },
    λ l. h.1 (subst (λ (v : ℕ). MeetsOther rows (length names) v set) (same_number names chart l.from u l.from_is is) l.one),
  )

  pub none_led : (set : List ℕ) → position (bytes_eq chart) names ≡ None → IsTrue false ↔ LeadsToOther names rows chart set
  none_led set none = (λ t. absurd (true≢false (sym t)), λ l. absurd (not_numbered names chart none l.from l.from_is))

-- ---- another number than the row's own

-- the number is another's, in both
abbrev pub IsOther : List (List ℕ) → ℕ → List ℕ → ℕ → Type 0
IsOther rows row set k = (k ≡ row → ⊥) × RowHas rows row k × (has_bit set k ≡ true)

pub other_is : (rows : List (List ℕ)) (row : ℕ) (own set : List ℕ) (k : ℕ) (b : Bool) → own ≡ get_or rows row [] → IsTrue b ↔ ((k ≡ row → ⊥) × (has_bit own k ≡ true) × (has_bit set k ≡ true)) → IsTrue b ↔ IsOther rows row set k
other_is rows row own set k b is h = subst (λ (l : List ℕ). IsTrue b ↔ ((k ≡ row → ⊥) × (has_bit l k ≡ true) × (has_bit set k ≡ true))) is h

pub other_met : (rows : List (List ℕ)) (count row : ℕ) (set : List ℕ) (k : ℕ) → k < count → IsOther rows row set k → IsTrue true ↔ MeetsOther rows count row set
other_met rows count row set k low h = (λ t. record { number = k; low = low; other = h.0; there = h.1; among = h.2 }, λ m. refl)

pub others_more : (rows : List (List ℕ)) (row : ℕ) (set : List ℕ) (k : ℕ) → (IsOther rows row set k → ⊥) → ((j : ℕ) → j < k → (j ≡ row → ⊥) → RowHas rows row j → has_bit set j ≡ true → ⊥)
    → (j : ℕ) → j < k + 1 → (j ≡ row → ⊥) → RowHas rows row j → has_bit set j ≡ true → ⊥
others_more rows row set k none before j low other there among = elim (cases_eq j k) [
  | inl e ↦ none (subst (IsOther rows row set) e (other, there, among))
  | inr ne ↦ before j (omega (arith, low, ne)) other there among
]

pub none_other : (rows : List (List ℕ)) (count k row : ℕ) (set : List ℕ) → count ≤ k → ((j : ℕ) → j < k → (j ≡ row → ⊥) → RowHas rows row j → has_bit set j ≡ true → ⊥) → IsTrue false ↔ MeetsOther rows count row set
none_other rows count k row set high none = (λ t. absurd (true≢false (sym t)), λ m. absurd (none m.number (omega (arith, m.low, high)) m.other m.there m.among))

pub no_row_other : (rows : List (List ℕ)) (count row : ℕ) (set : List ℕ) → length rows ≤ row → IsTrue false ↔ MeetsOther rows count row set
no_row_other rows count row set high = (λ t. absurd (true≢false (sym t)), λ m. absurd (row_missing rows row high m.number m.there))
