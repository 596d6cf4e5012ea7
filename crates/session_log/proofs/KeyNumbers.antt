-- Numbers of keys.
use Rattle.std.proofs.Common.{◌≡◌, ◌≤◌, ◌<◌, ◌+◌, ◌++◌, ℕ, suc, Bool, true, false, List, [], ◌∷◌, length, Option, Some, None, refl, sym, ap, ◌∙◌, subst, arith, length-append}
use Rattle.std.specs.List.{position, list_any}
use Rattle.std.specs.Option.{is_some}
use Rattle.std.specs.Str.{bytes_eq}
use Rattle.std.proofs.lemmas.Slice.Eq.{bytes_eq-Decides}
use Rattle.label_table.proofs.Positions.{later, later_some, position-first, position-later}
use Rattle.msc_base.specs.NameTables.{with_name}
use Rattle.msc_base.specs.declared.label.Label.{Label}
use Rattle.msc_base.proofs.NameFacts.{numbered}
use Rattle.session_log.specs.Sessions.{HasRoom, IsNumbered}
use Rattle.session_log.specs.declared.keyed.KeyedLabel.{KeyedLabel}
use Rattle.session_log.specs.declared.keyed.KeyedNumberedEvent.{KeyedNumberedEvent}
use Rattle.session_log.specs.declared.keys.TheConstants.{MOST_SESSIONS}

module _ {X : Type 0} (p : X → Bool) where
  -- the place of an item stays with more behind it
  pub position_on : (xs ys : List X) (n : ℕ) → position p xs ≡ Some n → position p (xs ++ ys) ≡ Some n
  position_on [] ys n h = absurd (cc)
  position_on (x ∷ xs) ys n h = by (p x) refl (position_on xs ys)
    where
      by : (b : Bool) → p x ≡ b → ((m : ℕ) → position p xs ≡ Some m → position p (xs ++ ys) ≡ Some m) → position p (x ∷ (xs ++ ys)) ≡ Some n
      by true e rest = position-first p x (xs ++ ys) e ∙ sym (position-first p x xs e) ∙ h
      by false e rest =
          let m = later_some (position p xs) n (sym (position-later p x xs e) ∙ h) in
          position-later p x (xs ++ ys) e ∙ ap later (rest m.0 m.1) ∙ ap (λ (k : ℕ). Some k) (sym m.2)

  -- the place of one that stands behind all others
  pub position_end : (xs : List X) (x : X) → list_any p xs ≡ false → p x ≡ true → position p (xs ++ x ∷ []) ≡ Some (length xs)
  position_end [] x none is = position-first p x [] is
  position_end (y ∷ xs) x none is = by (p y) refl none (position_end xs x)
    where
      by : (b : Bool) → p y ≡ b → list_any p (y ∷ xs) ≡ false → (list_any p xs ≡ false → p x ≡ true → position p (xs ++ x ∷ []) ≡ Some (length xs)) → position p (y ∷ (xs ++ x ∷ [])) ≡ Some (length (y ∷ xs))
      by true e gone rest = let there : true ≡ false = sym (rw e refl) ∙ gone in absurd (cc)
      by false e gone rest =
          let others : list_any p xs ≡ false = sym (rw e refl) ∙ gone in
          let count : 1 + length xs ≡ length (y ∷ xs) = omega arith in
          position-later p y (xs ++ x ∷ []) e ∙ ap later (rest others is) ∙ ap (λ (k : ℕ). Some k) count

-- the number of a key stays with one more
pub number_on : (keys : List (List ℕ)) (key name : List ℕ) (n : ℕ) → position (bytes_eq key) keys ≡ Some n → position (bytes_eq key) (with_name keys name) ≡ Some n
number_on keys key name n h = by (list_any (bytes_eq name) keys) refl
  where
    by : (b : Bool) → list_any (bytes_eq name) keys ≡ b → position (bytes_eq key) (with_name keys name) ≡ Some n
    by true e = let same : with_name keys name ≡ keys = rw e refl in subst (λ (ks : List (List ℕ)). position (bytes_eq key) ks ≡ Some n) (sym same) h
    by false e =
        let more : with_name keys name ≡ keys ++ name ∷ [] = rw e refl in
        subst (λ (ks : List (List ℕ)). position (bytes_eq key) ks ≡ Some n) (sym more) (position_on (bytes_eq key) keys (name ∷ []) n h)

-- a key that has a number leaves the keys as they are
pub with_known : (keys : List (List ℕ)) (key : List ℕ) (n : ℕ) → position (bytes_eq key) keys ≡ Some n → with_name keys key ≡ keys
with_known keys key n is = let there : list_any (bytes_eq key) keys ≡ true = sym (numbered (bytes_eq key) keys) ∙ ap is_some is in rw there refl

absent : (keys : List (List ℕ)) (key : List ℕ) → position (bytes_eq key) keys ≡ None → list_any (bytes_eq key) keys ≡ false
absent keys key none = sym (numbered (bytes_eq key) keys) ∙ ap is_some none

-- another stands behind them
pub with_another : (keys : List (List ℕ)) (key : List ℕ) → position (bytes_eq key) keys ≡ None → with_name keys key ≡ keys ++ key ∷ []
with_another keys key none = let gone : list_any (bytes_eq key) keys ≡ false = absent keys key none in rw gone refl

pub room_known : (keys : List (List ℕ)) (key : List ℕ) (n : ℕ) → position (bytes_eq key) keys ≡ Some n → length keys ≤ MOST_SESSIONS → HasRoom keys key
room_known keys key n is few = subst (λ (ks : List (List ℕ)). length ks ≤ MOST_SESSIONS) (sym (with_known keys key n is)) few

pub room_another : (keys : List (List ℕ)) (key : List ℕ) → position (bytes_eq key) keys ≡ None → length keys < MOST_SESSIONS → HasRoom keys key
room_another keys key none few = subst (λ (ks : List (List ℕ)). length ks ≤ MOST_SESSIONS) (sym (with_another keys key none)) (omega (arith, few, length-append keys (key ∷ [])))

pub no_room : (keys : List (List ℕ)) (key : List ℕ) → position (bytes_eq key) keys ≡ None → MOST_SESSIONS ≤ length keys → HasRoom keys key → ⊥
no_room keys key none many room =
    let more : length (keys ++ key ∷ []) ≤ MOST_SESSIONS = subst (λ (ks : List (List ℕ)). length ks ≤ MOST_SESSIONS) (with_another keys key none) room in
    omega (arith, many, more, length-append keys (key ∷ []))

-- a new key has the next number
pub number_new : (keys : List (List ℕ)) (key : List ℕ) → position (bytes_eq key) keys ≡ None → position (bytes_eq key) (with_name keys key) ≡ Some (length keys)
number_new keys key none =
    subst (λ (ks : List (List ℕ)). position (bytes_eq key) ks ≡ Some (length keys)) (sym (with_another keys key none))
    (position_end (bytes_eq key) keys key (absent keys key none) ((bytes_eq-Decides key key).1 refl))

pub stays_numbered : (labels : List Label) (keys : List (List ℕ)) (event : KeyedLabel) (entry : KeyedNumberedEvent) → IsNumbered labels keys entry → IsNumbered labels (with_name keys event.key) entry
stays_numbered labels keys event entry is = (is.0, number_on keys entry.event.key event.key entry.session is.1)
