-- The test of two keys, and the numbers that a list gives to keys.
use Rattle.std.proofs.Common.{◌≡◌, ℕ, inl, inr, List, Some, slice_get, true, sym, ◌∙◌, subst, nat_eq}
use Rattle.std.specs.List.{position}
use Rattle.std.specs.Bool.{Decides}
use Rattle.std.proofs.lemmas.Bool.{cases_eq, eq-eqb, ne_eqb, false_from_ne_true}
use Rattle.msc_meaning.specs.Pairing.{Key}
use Rattle.level_weaving.specs.Messages.{is_key}
use Rattle.msc_meaning.proofs.PairingTest.{key_itself, key_so}
use Rattle.level_pieces.proofs.Positions.{position_passes}

-- the test of two keys finds out whether they are the same
pub key_decides : (k l : Key) → Decides (is_key k l) (k ≡ l)
key_decides k l = (key_so k l, λ e. subst (λ (x : Key). is_key k x ≡ true) e (key_itself k))

pub key_same : (k : Key) → is_key k k ≡ true
key_same k = key_itself k

-- one number, one key
pub one_key : (keys : List Key) (k l : Key) (c d : ℕ) → position (is_key k) keys ≡ Some c → position (is_key l) keys ≡ Some d → d ≡ c → k ≡ l
one_key keys k l c d a b e =
    let x = position_passes (is_key k) keys c a in
    let y = position_passes (is_key l) keys d b in
    let at : slice_get keys c ≡ Some y.0 = subst (λ (n : ℕ). slice_get keys n ≡ Some y.0) e y.1 in
    let one : x.0 ≡ y.0 = cc (at, x.1) in
    (key_decides k x.0).0 x.2 ∙ one ∙ sym ((key_decides l y.0).0 y.2)

pub same_test : (keys : List Key) (k l : Key) (c d : ℕ) → position (is_key k) keys ≡ Some c → position (is_key l) keys ≡ Some d → is_key k l ≡ nat_eq d c
same_test keys k l c d a b = elim (cases_eq d c) [
  | inl is ↦ (key_decides k l).1 (one_key keys k l c d a b is) ∙ sym (eq-eqb d c is)
  | inr ne ↦
      false_from_ne_true (is_key k l) (λ t. ne (
      let e : k ≡ l = (key_decides k l).0 t in
      let at : position (is_key l) keys ≡ Some c = subst (λ (x : Key). position (is_key x) keys ≡ Some c) e a in
      let r : d ≡ c = cc (at, b) in r))
      ∙ sym (ne_eqb d c ne)
]
