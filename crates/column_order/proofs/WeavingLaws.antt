-- The laws of woven lists.
use Rattle.std.proofs.Common.{◌≡◌, ℕ, ◌<◌, ◌≤◌, ◌+◌, ◌↔◌, inl, inr, zero, suc, List, [], ◌∷◌, ◌++◌, arith, refl, sym}
use Rattle.std.proofs.lemmas.Bool.{cases_lt, cases_eq}
use Rattle.msc_base.specs.Lists.{IsAmong}
use Rattle.list_facts.proofs.Members.{among_left, among_right}
use Rattle.column_order.specs.Orders.{IsNext}
use Rattle.column_order.specs.Weaving.{ColumnOrders, ColumnsOrder}
use Rattle.column_order.specs.Laws.{WovenIsOne, NeverWovenAndCrossed, CrossedIsOne, TextIsWoven, numbers_from}
use Rattle.column_order.proofs.Agree.{Follows, from_follows, whole_same, whole_or_stuck, stuck_same}
use Rattle.column_order.proofs.Columns.{woven, whole_of}
use Rattle.column_order.proofs.Exchange.{has_either}

pub woven_is_one : WovenIsOne
woven_is_one n columns a b v w = whole_same n (ColumnsOrder columns) a b (whole_of n columns a v) (whole_of n columns b w)

pub never_woven_and_crossed : NeverWovenAndCrossed
never_woven_and_crossed n columns a x w c = whole_or_stuck n (ColumnsOrder columns) a x (whole_of n columns a w) c

pub crossed_is_one : CrossedIsOne
crossed_is_one n columns x y c d = stuck_same n (ColumnsOrder columns) x y c d

-- ---- the order of the text

front_more : (prefix : List ℕ) (k : ℕ) → ((y : ℕ) → IsAmong prefix y ↔ (y < k)) → (y : ℕ) → IsAmong (prefix ++ k ∷ []) y ↔ (y < suc k)
front_more prefix k is y = (
  (λ h. elim (has_either prefix (k ∷ []) y h) [
    | inl l ↦ let low : y < k = (is y).0 l in omega arith
    | inr r ↦ elim r [ inl e ↦ omega arith | inr b ↦ absurd b ]
  ]),
  λ low. elim (cases_lt y k) [
    | inl lt ↦ among_left prefix (k ∷ []) y ((is y).1 lt)
    | inr ge ↦ let e : y ≡ k = omega arith in among_right prefix (k ∷ []) y (inl e)
  ],
)

module _ (n : ℕ) (precedes : ℕ → ℕ → Type 0) (rises : (y x : ℕ) → precedes y x → y < x) where
  next_is : (prefix : List ℕ) (k : ℕ) → k < n → ((y : ℕ) → IsAmong prefix y ↔ (y < k)) → IsNext n precedes prefix k
  next_is prefix k low is = record {
    due = record {
      inside = low;
      remains = λ h. let own : k < k = (is k).0 h in omega arith;
      ready = λ y p. (is y).1 (rises y k p);
    };
    earliest = λ y d. elim (cases_lt y k) [ inl lt ↦ absurd (d.remains ((is y).1 lt)) | inr ge ↦ ge ];
  }

  text_follows : (prefix : List ℕ) (k m : ℕ) → k + m ≡ n → ((y : ℕ) → IsAmong prefix y ↔ (y < k)) → Follows n precedes prefix (numbers_from k m)
  text_follows prefix k zero e is = tt
  text_follows prefix k (suc m) e is = (next_is prefix k (omega arith) is, text_follows (prefix ++ k ∷ []) (suc k) m (omega arith) (front_more prefix k is))

has_number : (k m x : ℕ) → k ≤ x → x < k + m → IsAmong (numbers_from k m) x
has_number k zero x low high = absurd (omega arith)
has_number k (suc m) x low high = elim (cases_eq k x) [ inl e ↦ inl (sym e) | inr ne ↦ inr (has_number (suc k) m x (omega arith) (omega arith)) ]

precedes_rises : (columns : List (List ℕ)) → ((column : List ℕ) → IsAmong columns column → (y x : ℕ) → ColumnOrders column y x → y < x) → (y x : ℕ) → ColumnsOrder columns y x → y < x
precedes_rises [] each y x p = absurd p
precedes_rises (c ∷ cs) each y x (inl b) = each c (inl refl) y x b
precedes_rises (c ∷ cs) each y x (inr p) = precedes_rises cs (λ column h. each column (inr h)) y x p

pub text_is_woven : TextIsWoven
text_is_woven n columns order =
    let rises : (y x : ℕ) → ColumnsOrder columns y x → y < x = precedes_rises columns (λ column h. (order column h).1) in
    let none : (y : ℕ) → IsAmong [] y ↔ (y < 0) = λ y. ((λ h. absurd h), λ low. absurd (omega arith)) in
    let follows : Follows n (ColumnsOrder columns) [] (numbers_from 0 n) = text_follows n (ColumnsOrder columns) rises [] 0 n (omega arith) none in
    woven n columns (numbers_from 0 n) (λ column h. (order column h).0) (record {
      every = λ x low. has_number 0 n x (omega arith) (omega (arith, low));
      earliest = λ i x at. from_follows n (ColumnsOrder columns) [] (numbers_from 0 n) follows i x at;
    })
