-- Lists of turns and the terms that they hold.
use Rattle.std.proofs.Common.{◌≡◌, ℕ, zero, suc, ◌+◌, ◌<◌, ◌≤◌, true, false, ◌||◌, List, [], ◌∷◌, ◌++◌, map, length, take, get_or, slice_get, Some, refl, ap, sym, ◌∙◌, arith, append_assoc, length-append}
use Rattle.std.proofs.lemmas.List.{map-append, length-map, take_all}
use Rattle.msc_base.specs.Patterns.{Mode, seq, par}
use Rattle.list_facts.proofs.Reading.{take_step}
use Rattle.chart_term.specs.NormalForms.{begun, flat, has_gap, join_of, open_part}
use Rattle.chart_term.specs.PartLists.{AreTurns}
use Rattle.chart_term.specs.Rows.{part_of, parts_of}
use Rattle.chart_term.specs.declared.term.RowPart.{RowPart}
use Rattle.chart_term.specs.declared.term.RowPart.TheVariants as part
use Rattle.chart_term.specs.Terms.{Tree, Nil, Join, trees, Part, Gap, Turn}
use Rattle.chart_term.proofs.Flattening.{flat-next, taken_next}
use Rattle.chart_term.proofs.Lists.{items-trees}

pub gap-append : (ps qs : List Part) → has_gap (ps ++ qs) ≡ (has_gap ps || has_gap qs)
gap-append [] qs = refl
gap-append (Gap c ∷ ps) qs = refl
gap-append (Turn x ∷ ps) qs = gap-append ps qs

pub begun-append : (ps qs : List Part) → begun (ps ++ qs) ≡ begun ps ++ begun qs
begun-append [] qs = refl
begun-append (Gap c ∷ ps) qs = begun-append ps qs
begun-append (Turn x ∷ ps) qs = ap (λ l. x ∷ l) (begun-append ps qs)

pub turns-map : (xs : List Tree) → has_gap (map Turn xs) ≡ false
turns-map [] = refl
turns-map (x ∷ xs) = turns-map xs

pub begun-map : (xs : List Tree) → begun (map Turn xs) ≡ xs
begun-map [] = refl
begun-map (x ∷ xs) = ap (λ l. x ∷ l) (begun-map xs)

-- turns alone are the turns of their terms
pub turns_are : (ps : List Part) → AreTurns ps → ps ≡ map Turn (begun ps)
turns_are [] h = refl
turns_are (Gap c ∷ ps) h = cc
turns_are (Turn x ∷ ps) h = ap (λ l. Turn x ∷ l) (turns_are ps h)

pub begun-length : (ps : List Part) → AreTurns ps → length (begun ps) ≡ length ps
begun-length [] h = refl
begun-length (Gap c ∷ ps) h = cc
begun-length (Turn x ∷ ps) h = ap suc (begun-length ps h)

-- the term of the turn at a place
pub turn_at : (ps : List Part) (i : ℕ) (x : Tree) → AreTurns ps → slice_get ps i ≡ Some (Turn x) → slice_get (begun ps) i ≡ Some x
turn_at [] i x h e = cc
turn_at (Gap c ∷ ps) i x h e = cc
turn_at (Turn y ∷ ps) zero x h e = let same : y ≡ x = cc in ap (λ z. Some z) same
turn_at (Turn y ∷ ps) (suc i) x h e = turn_at ps i x h e

-- no gap stands at a place
pub no_gap_at : (ps : List Part) (i : ℕ) (c : List ℕ) → AreTurns ps → slice_get ps i ≡ Some (Gap c) → ⊥
no_gap_at [] i c h e = cc
no_gap_at (Gap d ∷ ps) i c h e = cc
no_gap_at (Turn y ∷ ps) zero c h e = cc
no_gap_at (Turn y ∷ ps) (suc i) c h e = no_gap_at ps i c h e

-- the join of more than one turn, of none and of one
pub joined_many : (m : Mode) (ps : List Part) → AreTurns ps → 1 < length ps → Join m (trees (begun ps)) ≡ join_of m (begun ps)
joined_many m [] h l = absurd (omega arith)
joined_many m (Gap c ∷ ps) h l = cc
joined_many m (Turn x ∷ []) h l = absurd (omega arith)
joined_many m (Turn x ∷ Gap c ∷ ps) h l = cc
joined_many m (Turn x ∷ Turn y ∷ ps) h l = refl

pub joined_none : (m : Mode) (ps : List Part) → length ps ≡ 0 → Nil ≡ join_of m (begun ps)
joined_none m [] h = refl
joined_none m (p ∷ ps) h = absurd (omega (arith, h))

pub joined_one : (m : Mode) (ps : List Part) (x : Tree) → AreTurns ps → length ps ≤ 1 → slice_get (begun ps) 0 ≡ Some x → x ≡ join_of m (begun ps)
joined_one m [] x h l e = cc
joined_one m (Gap c ∷ ps) x h l e = cc
joined_one m (Turn y ∷ []) x h l e = cc
joined_one m (Turn y ∷ q ∷ ps) x h l e = absurd (omega arith)

pub parts_next : (xs : List RowPart) (i : ℕ) (x : RowPart) → i < length xs → x ≡ get_or xs i x → parts_of (take (i + 1) xs) ≡ parts_of (take i xs) ++ part_of x ∷ []
parts_next xs i x lt e = ap parts_of (taken_next xs i x lt e) ∙ map-append part_of (take i xs) (x ∷ [])

-- one more part is a turn
pub no_gap_next : (xs : List RowPart) (i : ℕ) (x : RowPart) (y : Tree) → i < length xs → x ≡ get_or xs i x → x ≡ part.Turn y → has_gap (parts_of (take i xs)) ≡ false → has_gap (parts_of (take (i + 1) xs)) ≡ false
no_gap_next xs i x y lt e is h = ap has_gap (parts_next xs i x lt e ∙ ap (λ p. parts_of (take i xs) ++ part_of p ∷ []) is) ∙ gap-append (parts_of (take i xs)) (Turn y ∷ []) ∙ ap (λ b. b || false) h

-- one of the parts is a gap
pub gap_there : (xs : List RowPart) (i : ℕ) (x : RowPart) (c : List ℕ) → i < length xs → x ≡ get_or xs i x → part_of x ≡ Gap c → true ≡ has_gap (parts_of xs)
gap_there [] i x c lt e is = absurd (omega arith)
gap_there (part.Gap b ∷ xs) i x c lt e is = refl
gap_there (part.Turn y ∷ xs) zero x c lt e is = let bad : Turn y ≡ Gap c = ap part_of (sym e) ∙ is in cc
gap_there (part.Turn y ∷ xs) (suc i) x c lt e is = gap_there xs i x c (omega (arith, lt)) e is

-- one more part of a join is opened
pub opened_next : (m : Mode) (xs : List Tree) (i : ℕ) (x : Tree) → i < length xs → x ≡ get_or xs i x → map Turn (flat m (take (i + 1) xs)) ≡ map Turn (flat m (take i xs)) ++ map Turn (open_part m x)
opened_next m xs i x lt e = ap (map Turn) (flat-next m xs i x lt e) ∙ map-append Turn (flat m (take i xs)) (open_part m x)

-- the turns of a row, and of parts side by side
pub opened_seq : (x : Tree) (ps : List Part) → (x ≡ Join seq (trees (begun ps))) × AreTurns ps → ps ≡ map Turn (open_part seq x)
opened_seq x ps h = turns_are ps h.1 ∙ ap (map Turn) (sym (ap (open_part seq) h.0 ∙ items-trees (begun ps)))

pub opened_par : (x : Tree) (ps : List Part) → (x ≡ Join par (trees (begun ps))) × AreTurns ps → ps ≡ map Turn (open_part par x)
opened_par x ps h = turns_are ps h.1 ∙ ap (map Turn) (sym (ap (open_part par) h.0 ∙ items-trees (begun ps)))

pub turns_step : (xs : List Tree) (i : ℕ) (x : Tree) (old mid new : List Tree) → slice_get xs i ≡ Some x → mid ≡ old ++ take i xs → new ≡ mid ++ x ∷ [] → new ≡ old ++ take (i + 1) xs
turns_step xs i x old mid new e so put = put ∙ ap (λ l. l ++ x ∷ []) so ∙ append_assoc old (take i xs) (x ∷ []) ∙ ap (λ l. old ++ l) (sym (take_step xs i x e))

pub turns_whole : (ps : List Part) (i : ℕ) → AreTurns ps → length ps ≤ i → take i (begun ps) ≡ begun ps
turns_whole ps i h l = take_all i (begun ps) (omega (arith, begun-length ps h))

-- behind parts of a choice there are more
pub longer : (old new xs : List Tree) → 0 < length xs → new ≡ old ++ xs → length old < length new
longer old new xs h e = omega (arith, ap length e, length-append old xs)

pub ruleset turns = (turns-map, begun-map, length-map, joined_many, joined_none, joined_one, turn_at, no_gap_at, opened_seq, opened_par)
