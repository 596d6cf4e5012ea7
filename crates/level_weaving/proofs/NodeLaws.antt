-- The numbers of the events of a level: they rise along its pieces, and differ in a woven list.
use Rattle.std.proofs.Common.{◌≡◌, inl, inr, ℕ, ◌<◌, ◌≤◌, ◌+◌, zero, suc, List, [], ◌∷◌, ◌++◌, Option, Some, None, slice_get, length, map, refl, sym, subst, ap, ◌∙◌, arith}
use Rattle.std.proofs.lemmas.Bool.{cases_order}
use Rattle.std.proofs.lemmas.List.{map-append}
use Rattle.msc_base.specs.Lists.{AreDifferent, IsAmong}
use Rattle.list_facts.proofs.Members.{among_either}
use Rattle.msc_tree.specs.declared.event.RawEvent.{RawEvent}
use Rattle.msc_tree.specs.Statements.{Form, Single, Coregion, Condition, Inline, Refer, Stop}
use Rattle.msc_meaning.specs.Bodies.{EventNode}
use Rattle.msc_meaning.specs.Levels.{nodes_from}
use Rattle.msc_meaning.specs.Pieces.{Piece, form_count}
use Rattle.level_pieces.specs.PieceNumbers.{AreNumbered}
use Rattle.level_weaving.specs.LevelNodes.{nodes_at, option_nodes, ordered_nodes, piece_nodes}
use Rattle.level_weaving.specs.LevelPairs.{number_of}

-- ---- numbers

-- the numbers rise along the events, from n on, and stay below m
abbrev AreWithin : ℕ → ℕ → List EventNode → Type 0
AreWithin n m [] = n ≤ m
AreWithin n m (d ∷ ds) = (n ≤ d.number) × AreWithin (suc d.number) m ds

within_end : (n m : ℕ) (ds : List EventNode) → AreWithin n m ds → n ≤ m
within_end n m [] w = w
within_end n m (d ∷ ds) w = let le : suc d.number ≤ m = within_end (suc d.number) m ds w.1 in omega (arith, w.0, le)

within_from : (n : ℕ) (at : List ℕ) (es : List RawEvent) → AreWithin n (n + length es) (nodes_from n at es)
within_from n at [] = omega arith
within_from n at (e ∷ es) =
    let z : suc n + length es ≡ n + suc (length es) = omega arith in
    (omega arith, subst (λ (m : ℕ). AreWithin (suc n) m (nodes_from (suc n) at es)) z (within_from (suc n) at es))

piece_within : (o : Option (List ℕ)) (n : ℕ) (f : Form) → AreWithin n (n + form_count f) (nodes_at o n f)
piece_within None n f = omega arith
piece_within (Some at) n (Single e) = (omega arith, omega arith)
piece_within (Some at) n (Coregion es) = within_from n at es
piece_within (Some at) n (Condition names shared) = omega arith
piece_within (Some at) n (Inline head held) = omega arith
piece_within (Some at) n (Refer r) = omega arith
piece_within (Some at) n Stop = omega arith

within_range : (n m : ℕ) (ds : List EventNode) (k : ℕ) → AreWithin n m ds → IsAmong (map number_of ds) k → (n ≤ k) × (k < m)
within_range n m [] k w h = absurd h
within_range n m (d ∷ ds) k w (inl e) = let le : suc d.number ≤ m = within_end (suc d.number) m ds w.1 in (omega (arith, e, w.0), omega (arith, e, le))
within_range n m (d ∷ ds) k w (inr h) = let r = within_range (suc d.number) m ds k w.1 h in (omega (arith, r.0, w.0), r.1)

within_different : (n m : ℕ) (ds : List EventNode) → AreWithin n m ds → AreDifferent (map number_of ds)
within_different n m [] w = tt
within_different n m (d ∷ ds) w = (λ h. let r = within_range (suc d.number) m ds d.number w.1 h in omega (arith, r.0), within_different (suc d.number) m ds w.1)

-- ---- the numbers of a woven list differ

starts_behind : (n : ℕ) (qs : List Piece) (x : ℕ) (p : Piece) → AreNumbered n qs → slice_get qs x ≡ Some p → n ≤ p.first
starts_behind n [] x p h at = cc
starts_behind n (q ∷ qs) zero p h at = let same : q ≡ p = cc in subst (λ (y : Piece). n ≤ y.first) same h.0
starts_behind n (q ∷ qs) (suc x) p h at = let low : q.first + form_count q.form ≤ p.first = starts_behind (q.first + form_count q.form) qs x p h.1 at in omega (arith, low, h.0)

piece_ends : (n : ℕ) (qs : List Piece) (x y : ℕ) (p q : Piece) → AreNumbered n qs → slice_get qs x ≡ Some p → slice_get qs y ≡ Some q → x < y → p.first + form_count p.form ≤ q.first
piece_ends n [] x y p q h a b lt = cc
piece_ends n (r ∷ qs) zero zero p q h a b lt = absurd (omega arith)
piece_ends n (r ∷ qs) zero (suc y) p q h a b lt =
    let same : r ≡ p = cc in
    let low : r.first + form_count r.form ≤ q.first = starts_behind (r.first + form_count r.form) qs y q h.1 b in
    subst (λ (z : Piece). z.first + form_count z.form ≤ q.first) same low
piece_ends n (r ∷ qs) (suc x) zero p q h a b lt = absurd (omega arith)
piece_ends n (r ∷ qs) (suc x) (suc y) p q h a b lt = piece_ends (r.first + form_count r.form) qs x y p q h.1 a b (omega arith)

-- a number of a woven list is one of an item of it
record IsNumberOf (qs : List Piece) (order : List ℕ) (k : ℕ) : Type 0 where
  pub item : ℕ
  pub piece : Piece
  pub among : IsAmong order item
  pub at : slice_get qs item ≡ Some piece
  pub low : piece.first ≤ k
  pub high : k < piece.first + form_count piece.form

number_of_item : (qs : List Piece) (order : List ℕ) (k : ℕ) → IsAmong (map number_of (ordered_nodes qs order)) k → IsNumberOf qs order k
number_of_item qs [] k h = absurd h
number_of_item qs (x ∷ order) k h = by (slice_get qs x) refl (number_of_item qs order k) h
  where
    later : IsNumberOf qs order k → IsNumberOf qs (x ∷ order) k
    later r = record { item = r.item; piece = r.piece; among = inr r.among; at = r.at; low = r.low; high = r.high }

    by : (o : Option Piece) → slice_get qs x ≡ o → (IsAmong (map number_of (ordered_nodes qs order)) k → IsNumberOf qs order k) → IsAmong (map number_of (option_nodes o ++ ordered_nodes qs order)) k → IsNumberOf qs (x ∷ order) k
    by None is rest g = later (rest g)
    by (Some p) is rest g = elim (among_either (map number_of (piece_nodes p)) (map number_of (ordered_nodes qs order)) k (subst (λ (l : List ℕ). IsAmong l k) (map-append number_of (piece_nodes p) (ordered_nodes qs order)) g)) [
      | inl l ↦
          let r = within_range p.first (p.first + form_count p.form) (piece_nodes p) k (piece_within (slice_get p.leads 0) p.first p.form) l in
          record { item = x; piece = p; among = inl refl; at = is; low = r.0; high = r.1 }
      | inr l ↦ later (rest l)
    ]

different_on : (xs ys : List ℕ) → AreDifferent xs → AreDifferent ys → ((k : ℕ) → IsAmong xs k → IsAmong ys k → ⊥) → AreDifferent (xs ++ ys)
different_on [] ys a b apart = b
different_on (x ∷ xs) ys a b apart = (
  λ h. elim (among_either xs ys x h) [ inl l ↦ a.0 l | inr r ↦ apart x (inl refl) r ],
  different_on xs ys a.1 b (λ k l r. apart k (inr l) r),
)

pub ordered_different : (qs : List Piece) (order : List ℕ) → AreNumbered 0 qs → AreDifferent order → AreDifferent (map number_of (ordered_nodes qs order))
ordered_different qs [] h d = tt
ordered_different qs (x ∷ order) h d = by (slice_get qs x) refl (ordered_different qs order h d.1)
  where
    by : (o : Option Piece) → slice_get qs x ≡ o → AreDifferent (map number_of (ordered_nodes qs order)) → AreDifferent (map number_of (option_nodes o ++ ordered_nodes qs order))
    by None is rest = rest
    by (Some p) is rest =
        let own = piece_within (slice_get p.leads 0) p.first p.form in
        subst (λ (l : List ℕ). AreDifferent l) (sym (map-append number_of (piece_nodes p) (ordered_nodes qs order)))
        (different_on (map number_of (piece_nodes p)) (map number_of (ordered_nodes qs order)) (within_different p.first (p.first + form_count p.form) (piece_nodes p) own) rest (λ k l r.
        let mine = within_range p.first (p.first + form_count p.form) (piece_nodes p) k own l in
        let other = number_of_item qs order k r in
        elim (cases_order x other.item) [
          | inl e ↦ d.0 (subst (λ (y : ℕ). IsAmong order y) (sym e) other.among)
          | inr ne ↦ elim ne [
            | inl below ↦ let le : p.first + form_count p.form ≤ other.piece.first = piece_ends 0 qs x other.item p other.piece h is other.at below in omega (arith, le, mine.1, other.low)
            | inr above ↦ let le : other.piece.first + form_count other.piece.form ≤ p.first = piece_ends 0 qs other.item x other.piece p h other.at is above in omega (arith, le, mine.0, other.high)
          ]
        ]))

number_among : (ds : List EventNode) (j : ℕ) (e : EventNode) → slice_get ds j ≡ Some e → IsAmong (map number_of ds) e.number
number_among [] j e at = cc
number_among (d ∷ ds) zero e at = let same : d ≡ e = cc in inl (sym (ap number_of same))
number_among (d ∷ ds) (suc j) e at = inr (number_among ds j e at)

-- an event has one position
pub one_position : (ds : List EventNode) (i j : ℕ) (d e : EventNode) → AreDifferent (map number_of ds) → slice_get ds i ≡ Some d → slice_get ds j ≡ Some e → d.number ≡ e.number → i ≡ j
one_position [] i j d e h a b same = cc
one_position (x ∷ ds) zero zero d e h a b same = refl
one_position (x ∷ ds) zero (suc j) d e h a b same =
    let is : x ≡ d = cc in
    absurd (h.0 (subst (λ (n : ℕ). IsAmong (map number_of ds) n) (sym same ∙ sym (ap number_of is)) (number_among ds j e b)))
one_position (x ∷ ds) (suc i) zero d e h a b same =
    let is : x ≡ e = cc in
    absurd (h.0 (subst (λ (n : ℕ). IsAmong (map number_of ds) n) (same ∙ sym (ap number_of is)) (number_among ds i d a)))
one_position (x ∷ ds) (suc i) (suc j) d e h a b same = ap suc (one_position ds i j d e h.1 a b same)
