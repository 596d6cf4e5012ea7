-- Lists of parts, cut in two, by the parts as the code holds them.
use Rattle.std.proofs.Common.{◌≡◌, ℕ, zero, suc, ◌<◌, List, [], ◌∷◌, ◌++◌, length, take, drop, get_or, slice_get, Some, ap, sym, ◌∙◌, arith}
use Rattle.std.proofs.lemmas.List.{map-append, take-append-drop, take-map, drop-map, length-map}
use Rattle.persistent_sequence.proofs.Parts.{shorter_behind, shorter_before, length_parts, at_first, at_second, take_first, take_second, drop_first, drop_second}
use Rattle.chart_term.specs.declared.term.RowPart.{RowPart}
use Rattle.chart_term.specs.Rows.{part_of, parts_of}
use Rattle.chart_term.specs.Terms.{Part}

pub parts_whole : (n : ℕ) (xs : List RowPart) → parts_of (take n xs) ++ parts_of (drop n xs) ≡ parts_of xs
parts_whole n xs = sym (map-append part_of (take n xs) (drop n xs)) ∙ ap parts_of (take-append-drop n xs)

pub front_leaf : (ps : List Part) (held new : List RowPart) (i : ℕ) → ps ≡ parts_of held → new ≡ take i held → parts_of new ≡ take i ps
front_leaf ps held new i e is = ap parts_of is ∙ sym (ap (take i) e ∙ take-map part_of i held)

pub behind_leaf : (ps : List Part) (held new : List RowPart) (i : ℕ) → ps ≡ parts_of held → new ≡ drop i held → parts_of new ≡ drop i ps
behind_leaf ps held new i e is = ap parts_of is ∙ sym (ap (drop i) e ∙ drop-map part_of i held)

pub held_at : (held : List RowPart) (i : ℕ) (x : RowPart) → i < length held → x ≡ get_or held i x → slice_get (parts_of held) i ≡ Some (part_of x)
held_at [] i x lt e = absurd (omega arith)
held_at (y ∷ ys) zero x lt e = ap (λ z. Some (part_of z)) (sym e)
held_at (y ∷ ys) (suc i) x lt e = held_at ys i x (omega (arith, lt)) e

pub at_leaf : (ps : List Part) (held : List RowPart) (i : ℕ) (x : RowPart) → ps ≡ parts_of held → i < length held → x ≡ get_or held i x → slice_get ps i ≡ Some (part_of x)
at_leaf ps held i x e lt is = ap (λ l. slice_get l i) e ∙ held_at held i x lt is

pub parts_long : (xs : List RowPart) → length (parts_of xs) ≡ length xs
parts_long xs = length-map xs part_of

pub ruleset cuts = (shorter_behind, shorter_before, length_parts, at_first, at_second, take_first, take_second, drop_first, drop_second, parts_whole, front_leaf, behind_leaf, at_leaf, parts_long)
