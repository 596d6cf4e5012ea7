-- The numbers of what the normalising constructors make.
use Rattle.std.specs.Prelude.{ℕ, zero, suc, ◌==◌, ◌||◌, Bool, true, false, List, [], ◌∷◌, ◌++◌, ◌≡◌, Option, Some, None}
use Rattle.std.proofs.Common.{ap, sym, ◌∙◌, refl}
use Rattle.std.proofs.lemmas.List.{append-nil, append_assoc}
use Rattle.std.proofs.lemmas.Option.{same_Some}
use Rattle.msc_base.specs.Patterns.{Mode, seq, par}
use Rattle.chart_term.specs.Equality.{same_tree}
use Rattle.chart_term.specs.NormalForms.{only, open_part, flat, join_of, join_all, open_choice, open_choices, unless_same, without, distinct, choice_form, choice_of, bound_form, kept_pairs, numbers, numbers_all, numbers_row, cut_gaps, drop_nil, at_zero, only_turns, live, live_gap, drop_free, free_gap, is_nil, has_free, lower_of, thin, thin_gap, has_gap, begun, turns_form, tidy}
use Rattle.chart_term.specs.Spreads.{touch}
use Rattle.chart_term.specs.Tables.{Tables}
use Rattle.chart_term.specs.Terms.{has, Tree, Nil, Event, Join, Choice, Tied, Loop, Walk, Trees, none, more, items, trees, Part, Gap, row_of}
use Rattle.term_laws.specs.FullSoundness.{fresh_loop}
use Rattle.term_laws.specs.OneResidual.{AreOnce}
use Rattle.term_laws.specs.Permission.{permit, permits_of}
use Rattle.sound_terms.specs.NumberLaws.{list_numbers, IsPartList, part_none, part_keep, part_drop, NumbersAreKept}
use Rattle.sound_terms.specs.TermRanks.{OnlyGaps, only_none, only_gap}

-- parts of lists
part_self : (a : List ℕ) → IsPartList a a
part_self [] = part_none
part_self (n ∷ a) = part_keep (part_self a)

part_on : {a b : List ℕ} (c : List ℕ) → IsPartList a b → IsPartList b c → IsPartList a c
part_on _ h part_none = h
part_on _ (part_keep h) (part_keep k) = part_keep (part_on _ h k)
part_on _ (part_drop h) (part_keep k) = part_drop (part_on _ h k)
part_on _ h (part_drop k) = part_drop (part_on _ h k)

part_empty : (b : List ℕ) → IsPartList [] b
part_empty [] = part_none
part_empty (n ∷ b) = part_drop (part_empty b)

part_skip : {c d : List ℕ} (a : List ℕ) → IsPartList c d → IsPartList c (a ++ d)
part_skip [] h = h
part_skip (n ∷ a) h = part_drop (part_skip a h)

part_behind : {c d : List ℕ} (a : List ℕ) → IsPartList c d → IsPartList (a ++ c) (a ++ d)
part_behind [] h = h
part_behind (n ∷ a) h = part_keep (part_behind a h)

part_as : (a b c d : List ℕ) → a ≡ b → c ≡ d → IsPartList b d → IsPartList a c
part_as a b c d e f h = rw (e, f) h

part_lacks : {a b : List ℕ} (n : ℕ) → IsPartList a b → has b n ≡ false → has a n ≡ false
part_lacks n part_none h = h
part_lacks n (part_keep {n = m} {a = a} {b = b} k) h = by (m == n) h (part_lacks n k)
  where
    by : (t : Bool) → (t || has b n) ≡ false → (has b n ≡ false → has a n ≡ false) → (t || has a n) ≡ false
    by true p f = absurd cc
    by false p f = f p
part_lacks n (part_drop {n = m} {b = b} k) h = part_lacks n k (by (m == n) h)
  where
    by : (t : Bool) → (t || has b n) ≡ false → has b n ≡ false
    by true p = absurd cc
    by false p = p

part_once : {a b : List ℕ} → IsPartList a b → AreOnce b → AreOnce a
part_once part_none h = tt
part_once (part_keep {n = n} k) (h, i) = (part_lacks n k h, part_once k i)
part_once (part_drop k) (h, i) = part_once k i

-- lists of terms
list_app : (a b : List Tree) → list_numbers (a ++ b) ≡ list_numbers a ++ list_numbers b
list_app [] b = refl
list_app (x ∷ a) b = ap (λ l. numbers x ++ l) (list_app a b) ∙ sym (append_assoc (numbers x) (list_numbers a) (list_numbers b))

of_items : (xs : Trees) → list_numbers (items xs) ≡ numbers_all xs
of_items none = refl
of_items (more x xs) = ap (λ l. numbers x ++ l) (of_items xs)

of_trees : (xs : List Tree) → numbers_all (trees xs) ≡ list_numbers xs
of_trees [] = refl
of_trees (x ∷ xs) = ap (λ l. numbers x ++ l) (of_trees xs)

opened : (m : Mode) (x : Tree) → list_numbers (open_part m x) ≡ numbers x
opened m Nil = refl
opened m (Event e) = refl
opened seq (Join seq xs) = of_items xs
opened seq (Join par xs) = append-nil (numbers_all xs)
opened par (Join seq xs) = append-nil (numbers_all xs)
opened par (Join par xs) = of_items xs
opened m (Choice xs) = append-nil (numbers_all xs)
opened m (Tied x q) = append-nil (numbers x)
opened m (Loop x lo hi r) = append-nil (numbers x ++ numbers_row r)
opened m (Walk n s t c) = refl

flattened : (m : Mode) (xs : List Tree) → list_numbers (flat m xs) ≡ list_numbers xs
flattened m [] = refl
flattened m (x ∷ xs) = list_app (open_part m x) (flat m xs) ∙ (ap (λ l. l ++ list_numbers (flat m xs)) (opened m x) ∙ ap (λ l. numbers x ++ l) (flattened m xs))

joined : (m : Mode) (xs : List Tree) → numbers (join_of m xs) ≡ list_numbers xs
joined m [] = refl
joined m (x ∷ []) = sym (append-nil (numbers x))
joined m (x ∷ y ∷ ys) = of_trees (x ∷ y ∷ ys)

-- choices
open_one : (x : Tree) → list_numbers (open_choice x) ≡ numbers x
open_one (Choice xs) = of_items xs
open_one Nil = refl
open_one (Event e) = refl
open_one (Join m xs) = append-nil (numbers_all xs)
open_one (Tied x q) = append-nil (numbers x)
open_one (Loop x lo hi r) = append-nil (numbers x ++ numbers_row r)
open_one (Walk n s t c) = refl

open_all : (xs : List Tree) → list_numbers (open_choices xs) ≡ list_numbers xs
open_all [] = refl
open_all (x ∷ xs) = list_app (open_choice x) (open_choices xs) ∙ (ap (λ l. l ++ list_numbers (open_choices xs)) (open_one x) ∙ ap (λ l. numbers x ++ l) (open_all xs))

unless_part : (b : Bool) (y : Tree) (ys : List Tree) → IsPartList (list_numbers (unless_same b y ys)) (numbers y ++ list_numbers ys)
unless_part true y ys = part_skip (numbers y) (part_self (list_numbers ys))
unless_part false y ys = part_self (numbers y ++ list_numbers ys)

without_part : (x : Tree) (ys : List Tree) → IsPartList (list_numbers (without x ys)) (list_numbers ys)
without_part x [] = part_none
without_part x (y ∷ ys) = part_on (numbers y ++ list_numbers ys) (unless_part (same_tree x y) y (without x ys)) (part_behind (numbers y) (without_part x ys))

distinct_part : (xs : List Tree) → IsPartList (list_numbers (distinct xs)) (list_numbers xs)
distinct_part [] = part_none
distinct_part (x ∷ xs) = part_behind (numbers x) (part_on (list_numbers xs) (without_part x (distinct xs)) (distinct_part xs))

chosen : (xs : List Tree) (y : Tree) → choice_form xs ≡ Some y → numbers y ≡ list_numbers xs
chosen [] y e = absurd cc
chosen (x ∷ []) y e = ap numbers (sym (same_Some x y e)) ∙ sym (append-nil (numbers x))
chosen (x ∷ z ∷ xs) y e = ap numbers (sym (same_Some (Choice (trees (x ∷ z ∷ xs))) y e)) ∙ of_trees (x ∷ z ∷ xs)

choice_part : (xs : List Tree) (y : Tree) → choice_of xs ≡ Some y → IsPartList (numbers y) (list_numbers xs)
choice_part xs y e = part_as (numbers y) (list_numbers (distinct (open_choices xs))) (list_numbers xs) (list_numbers (open_choices xs)) (chosen (distinct (open_choices xs)) y e) (sym (open_all xs)) (distinct_part (open_choices xs))

-- ties
tied : (x : Tree) (q : List (ℕ × ℕ)) → numbers (bound_form x q) ≡ numbers x
tied x [] = refl
tied x (p ∷ q) = refl

-- loops: a row of gaps alone stays one
zero_gaps : (hi : Option ℕ) (ps : List Part) → OnlyGaps ps → OnlyGaps (at_zero hi ps)
zero_gaps None ps h = h
zero_gaps (Some zero) ps h = no_turns ps h
  where
    no_turns : (ps : List Part) → OnlyGaps ps → OnlyGaps (only_turns ps)
    no_turns _ only_none = only_none
    no_turns _ (only_gap {ps = ps} h) = no_turns ps h
zero_gaps (Some (suc n)) ps h = h

live_gaps : (p : List ℕ → Option Tree) (ps : List Part) → OnlyGaps ps → OnlyGaps (live p ps)
live_gaps p _ only_none = only_none
live_gaps p _ (only_gap {c = c} {ps = ps} h) = by (p c) (live_gaps p ps h)
  where
    by : (r : Option Tree) → OnlyGaps (live p ps) → OnlyGaps (live_gap r c (live p ps))
    by None k = k
    by (Some x) k = only_gap k

free_gaps : (p : List ℕ → Option Tree) (ps : List Part) → OnlyGaps ps → OnlyGaps (drop_free p ps)
free_gaps p _ only_none = only_none
free_gaps p _ (only_gap {c = c} {ps = ps} h) = by (is_nil (p c)) (free_gaps p ps h)
  where
    by : (b : Bool) → OnlyGaps (drop_free p ps) → OnlyGaps (free_gap b c (drop_free p ps))
    by true k = k
    by false k = only_gap k

thin_one : (c : List ℕ) (ps : List Part) → OnlyGaps ps → OnlyGaps (thin_gap c ps)
thin_one c _ only_none = only_gap only_none
thin_one c _ (only_gap h) = only_gap h

thin_gaps : (ps : List Part) → OnlyGaps ps → OnlyGaps (thin ps)
thin_gaps _ only_none = only_none
thin_gaps _ (only_gap {c = c} {ps = ps} h) = thin_one c (thin ps) (thin_gaps ps h)

gaps_numbers : (ps : List Part) → OnlyGaps ps → numbers_row (row_of ps) ≡ []
gaps_numbers _ only_none = refl
gaps_numbers _ (only_gap {ps = ps} h) = gaps_numbers ps h

gaps_begun : (ps : List Part) → OnlyGaps ps → begun ps ≡ []
gaps_begun _ only_none = refl
gaps_begun _ (only_gap {ps = ps} h) = gaps_begun ps h

form_part : (b : Bool) (x : Tree) (lo : ℕ) (hi : Option ℕ) (ps : List Part) (y : Tree) → OnlyGaps ps → turns_form b x lo hi ps ≡ Some y → IsPartList (numbers y) (numbers x)
form_part true x lo hi ps y h e =
    part_as (numbers y) (numbers x) (numbers x) (numbers x) (ap numbers (sym (same_Some (Loop x lo hi (row_of ps)) y e)) ∙ (ap (λ l. numbers x ++ l) (gaps_numbers ps h) ∙ append-nil (numbers x))) refl (part_self (numbers x))
form_part false x zero hi ps y h e =
    part_as (numbers y) [] (numbers x) (numbers x) (ap numbers (sym (same_Some (join_all seq (begun ps)) y e)) ∙ ap (λ (l : List Tree). numbers (join_all seq l)) (gaps_begun ps h)) refl (part_empty (numbers x))
form_part false x (suc lo) hi ps y h e = absurd cc

loop_part : (w : Tables) (x : Tree) (lo : ℕ) (hi : Option ℕ) (y : Tree) → fresh_loop w x lo hi ≡ Some y → IsPartList (numbers y) (numbers x)
loop_part w x lo hi y e = form_part (has_gap (thin (drop_free p qs))) x (lower_of (has_free p qs) lo) hi (thin (drop_free p qs)) y (thin_gaps (drop_free p qs) (free_gaps p qs (live_gaps p (at_zero hi (drop_nil (cut_gaps all (Gap [] ∷ [])))) (zero_gaps hi (drop_nil (cut_gaps all (Gap [] ∷ []))) (only_gap only_none))))) e
  where
    p : List ℕ → Option Tree
    p c = permit (permits_of w) (only c) x

    all : List ℕ
    all = touch (permits_of w).spread x

    qs : List Part
    qs = tidy p all hi (Gap [] ∷ [])

pub numbers_are_kept : NumbersAreKept
numbers_are_kept = record {
  join = λ m xs. joined m (flat m xs) ∙ flattened m xs;
  choice = choice_part;
  tied = λ x q. tied x (kept_pairs (numbers x) q);
  loop = loop_part;
  once = λ a b h o. part_once h o;
}
