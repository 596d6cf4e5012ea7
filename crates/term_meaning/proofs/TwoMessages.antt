-- The chart of two messages meets what the laws of plain charts ask.
use Rattle.std.specs.List.{list_any}
use Rattle.std.specs.Prelude.{ℕ, ◌<◌, ◌==◌, ◌&&◌, ◌||◌, not, Bool, true, false, List, [], ◌∷◌, ◌≡◌}
use Rattle.std.specs.Str.{bytes_eq}
use Rattle.std.proofs.Common.{inl, inr, refl, arith}
use Rattle.std.proofs.lemmas.Bool.Decides.{Decides-eqb}
use Rattle.std.proofs.lemmas.Bool.{and_parts}
use Rattle.label_table.specs.Labels.{same_label}
use Rattle.label_table.proofs.Equality.{label_self, bytes_self}
use Rattle.msc_base.specs.Orders.{Among, first, later, Once}
use Rattle.sound_terms.specs.RisingRows.{DoRise}
use Rattle.term_meaning.specs.TiedRows.{AreRowOf, TiedRowsMean}
use Rattle.term_meaning.specs.TwoMessages.{two_messages, their_pairs, their_tables, their_names, their_events, TwoMessagesMean}
use Rattle.sound_terms.proofs.Places.{or_case, or_this, or_that}

-- a test that nothing stands twice
module _ {X : Type 0} (eq : X → X → Bool) (self : (x : X) → eq x x ≡ true) where
  abbrev pub are_once : List X → Bool
  are_once [] = true
  are_once (x ∷ xs) = not (list_any (eq x) xs) && are_once xs

  among_found : (x : X) (xs : List X) → Among x xs → list_any (eq x) xs ≡ true
  among_found x (y ∷ xs) first = or_this (eq x x) (list_any (eq x) xs) (self x)
  among_found x (y ∷ xs) (later h) = or_that (eq x y) (list_any (eq x) xs) (among_found x xs h)
  among_found x [] h = elim h [ ]

  not_so : (b : Bool) → not b ≡ true → b ≡ true → ⊥
  not_so b h k = cc

  pub found_once : (xs : List X) → are_once xs ≡ true → Once xs
  found_once [] h = tt
  found_once (x ∷ xs) h =
      let (a, b) = and_parts (not (list_any (eq x) xs)) (are_once xs) h in
      (λ i. not_so (list_any (eq x) xs) a (among_found x xs i), found_once xs b)

rises : DoRise their_pairs
rises m n h = elim (or_case ((m == 0) && (n == 1)) (((m == 2) && (n == 3)) || false) h) [
  | inl a ↦ pair m n 0 1 (omega arith) a
  | inr a ↦ elim (or_case ((m == 2) && (n == 3)) false a) [ inl b ↦ pair m n 2 3 (omega arith) b | inr b ↦ absurd cc ]
]
  where
    pair : (m n k l : ℕ) → k < l → ((m == k) && (n == l)) ≡ true → m < n
    pair m n k l lt h = let (a, b) = and_parts (m == k) (n == l) h in let c = (Decides-eqb m k).0 a in let d = (Decides-eqb n l).0 b in omega (arith, lt, c, d)

their_term : AreRowOf their_tables their_names two_messages their_events
their_term = record {
  names_once = found_once bytes_eq bytes_self their_names refl;
  labels_once = found_once same_label label_self their_tables.labels refl;
  nets = tt;
  events = (record { number = refl; alone = refl; label = refl; at = refl }, (record { number = refl; alone = refl; label = refl; at = refl }, (record { number = refl; alone = refl; label = refl; at = refl }, (record { number = refl; alone = refl; label = refl; at = refl }, tt))));
}

pub two_messages_mean : TiedRowsMean → TwoMessagesMean
two_messages_mean rows = record {
  term = refl;
  means = λ o. rows.means their_tables their_names two_messages their_events their_pairs o their_term;
  sound = rows.sound their_tables their_names two_messages their_events their_pairs their_term rises;
}
