-- Lists compared item by item.
use Rattle.std.proofs.Common.{inl, inr, ◌≡◌, ℕ, ◌+◌, ◌*◌, ◌<◌, ◌≤◌, ◌⊎◌, suc, zero, List, [], ◌∷◌, refl, ap, ap₂, sym, ◌∙◌, arith, length, slice_get, Option, Some, drop, Bool, true, false, not, nat_eq, IsTrue, ◌↔◌}
use Rattle.std.specs.Ordering.{nat_cmp, ordering_then, ordering_index}
use Rattle.std.specs.declared.cmp.Ordering.{Ordering}
use Rattle.std.specs.declared.cmp.Ordering.TheVariants.{Less, Equal, Greater}
use Rattle.std.proofs.lemmas.List.{drop_all}
use Rattle.bit_sets.specs.Blocks.{set_cmp}
use Rattle.term_facts.proofs.Listing.{got_is, is_equal, list_cmp, list_cmp-end, list_cmp-next, number_equal}
use Rattle.chart_term.specs.Comparisons.{ComparesAs, ComparesParts}
use Rattle.chart_term.specs.Order.{code_cmp, maybe_cmp, part_cmp, tree_cmp, shape_cmp, trees_cmp, row_cmp}
use Rattle.chart_term.specs.OrderLaws.{tree_equal, tree_itself}
use Rattle.chart_term.specs.NormalForms.{begun}
use Rattle.chart_term.specs.PartLists.{AreTurns}
use Rattle.chart_term.specs.Rows.{part_of}
use Rattle.chart_term.specs.Sizes.{begun-nodes, nodes, nodes_all, nodes_row-row_of, part_nodes, parts_nodes}
use Rattle.chart_term.specs.declared.term.Node.TheDeep.{deep-RowPart}
use Rattle.chart_term.specs.declared.term.order.Compared.{Compared}
use Rattle.chart_term.specs.declared.term.order.Compared.TheVariants as compared
use Rattle.chart_term.specs.declared.term.RowPart.{RowPart}
use Rattle.chart_term.specs.declared.term.RowPart.TheVariants as part
use Rattle.chart_term.specs.Terms.{Tree, Loop, Trees, trees, Part, Gap, Turn, row_of}

pub row_by_list : (ps qs : List Part) → list_cmp part_cmp ps qs ≡ row_cmp (row_of ps) (row_of qs)
row_by_list [] [] = refl
row_by_list [] (Gap d ∷ qs) = refl
row_by_list [] (Turn y ∷ qs) = refl
row_by_list (Gap c ∷ ps) [] = refl
row_by_list (Turn x ∷ ps) [] = refl
row_by_list (Gap c ∷ ps) (Gap d ∷ qs) = ap (ordering_then (set_cmp c d)) (row_by_list ps qs)
row_by_list (Gap c ∷ ps) (Turn y ∷ qs) = refl
row_by_list (Turn x ∷ ps) (Gap d ∷ qs) = refl
row_by_list (Turn x ∷ ps) (Turn y ∷ qs) = ap (ordering_then (tree_cmp x y)) (row_by_list ps qs)

-- an order before another

then_equal : (o : Ordering) → ordering_then o Equal ≡ o
then_equal Less = refl
then_equal Equal = refl
then_equal Greater = refl

then_then : (o p q : Ordering) → ordering_then (ordering_then o p) q ≡ ordering_then o (ordering_then p q)
then_then Less p q = refl
then_then Equal p q = refl
then_then Greater p q = refl

told : (o p : Ordering) → not (nat_eq (ordering_index o) 1) ≡ true → ordering_then o p ≡ o
told Less p h = refl
told Equal p h = cc
told Greater p h = refl

pub untold : (o : Ordering) → not (nat_eq (ordering_index o) 1) ≡ false → o ≡ Equal
untold Less h = cc
untold Equal h = refl
untold Greater h = cc

-- two rows from a place on

abbrev pub rows_from : ℕ → List Part → List Part → Ordering
rows_from i ps qs = row_cmp (row_of (drop i ps)) (row_of (drop i qs))

by_list : (i : ℕ) (ps qs : List Part) → list_cmp part_cmp (drop i ps) (drop i qs) ≡ rows_from i ps qs
by_list i ps qs = row_by_list (drop i ps) (drop i qs)

next_part : (ps qs : List Part) (i : ℕ) (x y : Part) → i < length ps → i < length qs → slice_get ps i ≡ Some x → slice_get qs i ≡ Some y → rows_from i ps qs ≡ ordering_then (part_cmp x y) (rows_from (i + 1) ps qs)
next_part ps qs i x y l m e f = sym (by_list i ps qs) ∙ list_cmp-next part_cmp ps qs i x y l m (got_is ps i x e) (got_is qs i y f) ∙ ap (ordering_then (part_cmp x y)) (by_list (i + 1) ps qs)

none_from : (ps qs : List Part) (i : ℕ) → length ps ≤ i → length qs ≤ i → rows_from i ps qs ≡ Equal
none_from ps qs i l m = ap₂ (λ (us vs : List Part). row_cmp (row_of us) (row_of vs)) (drop_all i ps l) (drop_all i qs m)

pub rows_end : (ps qs : List Part) (i : ℕ) → i ≤ length ps → i ≤ length qs → (length ps ≤ i) ⊎ (length qs ≤ i) → rows_from i ps qs ≡ nat_cmp (length ps) (length qs)
rows_end ps qs i a b h = sym (by_list i ps qs) ∙ list_cmp-end part_cmp ps qs i a b h

-- parts that differ
pub parts_told : (ps qs : List Part) (from i to : ℕ) (x y : Part) (o : Ordering) → i < length ps → i < length qs → slice_get ps i ≡ Some x → slice_get qs i ≡ Some y → o ≡ part_cmp x y → rows_from from ps qs ≡ rows_from i ps qs → not (nat_eq (ordering_index o) 1) ≡ true → ComparesParts ps qs from to o
parts_told ps qs from i to x y o l m e f is so h =
    told o (rows_from to ps qs) h ∙ (sym (told o (rows_from (i + 1) ps qs) h) ∙ (ap (λ p. ordering_then p (rows_from (i + 1) ps qs)) is ∙ (sym (next_part ps qs i x y l m e f) ∙ sym so)))

-- two equal parts
pub parts_on : (ps qs : List Part) (from i : ℕ) (x y : Part) (o : Ordering) → i < length ps → i < length qs → slice_get ps i ≡ Some x → slice_get qs i ≡ Some y → o ≡ part_cmp x y → rows_from from ps qs ≡ rows_from i ps qs → not (nat_eq (ordering_index o) 1) ≡ false → rows_from from ps qs ≡ rows_from (i + 1) ps qs
parts_on ps qs from i x y o l m e f is so h =
    so ∙ (next_part ps qs i x y l m e f ∙ ap (λ p. ordering_then p (rows_from (i + 1) ps qs)) (sym is ∙ untold o h))

-- the end of a list before the place
pub parts_ended : (ps qs : List Part) (from at to : ℕ) (o : Ordering) → at < to → at ≤ length ps → at ≤ length qs → (length ps ≤ at) ⊎ (length qs ≤ at) → o ≡ nat_cmp (length ps) (length qs) → rows_from from ps qs ≡ rows_from at ps qs → ComparesParts ps qs from to o
parts_ended ps qs from at to o l a b over is so = go o refl ∙ (is ∙ (sym (rows_end ps qs at a b over) ∙ sym so))
  where
    go : (p : Ordering) → o ≡ p → ordering_then o (rows_from to ps qs) ≡ o
    go Less q = ap (λ p. ordering_then p (rows_from to ps qs)) q ∙ sym q
    go Greater q = ap (λ p. ordering_then p (rows_from to ps qs)) q ∙ sym q
    go Equal q =
        let same : length ps ≡ length qs = number_equal (length ps) (length qs) (sym is ∙ q) in
        let both : rows_from to ps qs ≡ Equal = none_from ps qs to (elim over [ inl h ↦ omega arith | inr h ↦ omega arith ]) (elim over [ inl h ↦ omega arith | inr h ↦ omega arith ]) in
        (λ i. ordering_then (q i) (both i)) ∙ sym q

-- the heaviest parts, between those before and those behind
module _ (ps qs : List Part) (i end : ℕ) (x y : Part) (l : i < length ps) (m : i < length qs) (e : slice_get ps i ≡ Some x) (f : slice_get qs i ≡ Some y) (front behind : Ordering) (h : ComparesParts ps qs 0 i front) (k : ComparesParts ps qs (i + 1) end behind) (a : length ps ≤ end) (b : length qs ≤ end) where
  whole : not (nat_eq (ordering_index front) 1) ≡ false → row_cmp (row_of ps) (row_of qs) ≡ ordering_then (part_cmp x y) behind
  whole t =
      sym h ∙ (ap (λ p. ordering_then p (rows_from i ps qs)) (untold front t) ∙ (next_part ps qs i x y l m e f ∙ ap (ordering_then (part_cmp x y)) rest))
    where
      rest : rows_from (i + 1) ps qs ≡ behind
      rest = sym k ∙ (ap (ordering_then behind) (none_from ps qs end a b) ∙ then_equal behind)

  pub heavy_as : (u v : Tree) → x ≡ Turn u → y ≡ Turn v → not (nat_eq (ordering_index front) 1) ≡ false → (ordering_then (tree_cmp u v) behind ≡ row_cmp (row_of ps) (row_of qs)) × (nodes u < parts_nodes ps)
  heavy_as u v p q t = (sym (whole t ∙ ap (λ o. ordering_then o behind) (ap₂ part_cmp p q)), let n = part_fewer ps i x e in let s = ap part_nodes p in omega arith)
    where
      part_fewer : (ts : List Part) (j : ℕ) (t : Part) → slice_get ts j ≡ Some t → part_nodes t + 1 ≤ parts_nodes ts
      part_fewer [] j t k = cc
      part_fewer (u ∷ ts) zero t k = let same : u ≡ t = cc in let n = ap part_nodes same in omega arith
      part_fewer (u ∷ ts) (suc j) t k = omega (arith, part_fewer ts j t k)

  pub heavy_told : (o p : Ordering) → o ≡ part_cmp x y → p ≡ ordering_then o behind → not (nat_eq (ordering_index front) 1) ≡ false → p ≡ row_cmp (row_of ps) (row_of qs)
  heavy_told o p is r t = r ∙ (ap (λ q. ordering_then q behind) is ∙ sym (whole t))

-- a walk down two terms

told_at : (x y u v : Tree) (codes o behind : Ordering) → codes ≡ code_cmp x y → codes ≡ Equal → o ≡ shape_cmp x y → ordering_then (tree_cmp x y) behind ≡ tree_cmp u v → ordering_then o behind ≡ tree_cmp u v
told_at x y u v codes o behind is none e so = ap (λ p. ordering_then p behind) (e ∙ sym (ap (λ p. ordering_then p (shape_cmp x y)) (sym is ∙ none))) ∙ so

pub goes_down : (x y u v s t : Tree) (codes o behind : Ordering) → codes ≡ code_cmp x y → codes ≡ Equal → ordering_then (tree_cmp s t) o ≡ shape_cmp x y → ordering_then (tree_cmp x y) behind ≡ tree_cmp u v → ordering_then (tree_cmp s t) (ordering_then o behind) ≡ tree_cmp u v
goes_down x y u v s t codes o behind is none e so = sym (then_then (tree_cmp s t) o behind) ∙ told_at x y u v codes (ordering_then (tree_cmp s t) o) behind is none e so

-- by weights that differ or by the order
pub equal_by_order : (x y : Tree) (b : Bool) → b ≡ nat_eq (ordering_index (tree_cmp x y)) 1 → IsTrue b ↔ (x ≡ y)
equal_by_order x y b e = (λ h. tree_equal x y (is_equal (tree_cmp x y) (sym e ∙ h)), λ h. e ∙ ap (λ o. nat_eq (ordering_index o) 1) (ap (λ z. tree_cmp x z) (sym h) ∙ tree_itself x))

-- turns compare as their terms
pub turns_cmp : (ps qs : List Part) → AreTurns ps → AreTurns qs → row_cmp (row_of ps) (row_of qs) ≡ trees_cmp (trees (begun ps)) (trees (begun qs))
turns_cmp [] [] g h = refl
turns_cmp [] (Gap d ∷ qs) g h = cc
turns_cmp [] (Turn y ∷ qs) g h = refl
turns_cmp (Gap c ∷ ps) qs g h = cc
turns_cmp (Turn x ∷ ps) [] g h = refl
turns_cmp (Turn x ∷ ps) (Gap d ∷ qs) g h = cc
turns_cmp (Turn x ∷ ps) (Turn y ∷ qs) g h = ap (ordering_then (tree_cmp x y)) (turns_cmp ps qs g h)

-- what is told of two lists and of their nodes holds of what has them
pub compared_as : (o p : Ordering) (m n : ℕ) (r : Compared) → o ≡ p → m ≤ n → ComparesAs o m r → ComparesAs p n r
compared_as o p m n (compared.Told q) e l h = h ∙ e
compared_as o p m n (compared.As x y q) e l h = (h.0 ∙ e, omega (arith, l, h.1))

-- joins and choices of turns compare as their lists
pub compared_joined : (k : Trees → Tree) → ((us vs : Trees) → shape_cmp (k us) (k vs) ≡ trees_cmp us vs) → ((us : Trees) → nodes (k us) ≡ nodes_all us + 1) → (ps qs : List Part) (x y : Tree) (r : Compared) → AreTurns ps → AreTurns qs → k (trees (begun ps)) ≡ x → k (trees (begun qs)) ≡ y → ComparesAs (row_cmp (row_of ps) (row_of qs)) (parts_nodes ps) r → ComparesAs (shape_cmp x y) (nodes x) r
compared_joined k same size ps qs x y r g h e f a =
    compared_as (row_cmp (row_of ps) (row_of qs)) (shape_cmp x y) (parts_nodes ps) (nodes x) r (turns_cmp ps qs g h ∙ sym (same (trees (begun ps)) (trees (begun qs))) ∙ ap₂ shape_cmp e f) (omega (arith, begun-nodes ps g, size (trees (begun ps)), ap nodes e)) a

-- loops whose operands and bounds are equal compare as their rows
pub compared_loops : (x y : Tree) (lo low : ℕ) (hi high : Option ℕ) (ps qs : List Part) (a b : Tree) (r : Compared) → ordering_then (tree_cmp x y) (ordering_then (nat_cmp lo low) (maybe_cmp hi high)) ≡ Equal → Loop x lo hi (row_of ps) ≡ a → Loop y low high (row_of qs) ≡ b → ComparesAs (row_cmp (row_of ps) (row_of qs)) (parts_nodes ps) r → ComparesAs (shape_cmp a b) (nodes a) r
compared_loops x y lo low hi high ps qs a b r h e f s =
    compared_as (row_cmp (row_of ps) (row_of qs)) (shape_cmp a b) (parts_nodes ps) (nodes a) r (goes (tree_cmp x y) (nat_cmp lo low) (maybe_cmp hi high) (row_cmp (row_of ps) (row_of qs)) h ∙ ap₂ shape_cmp e f) (omega (arith, nodes_row-row_of ps, ap nodes e)) s
  where
    goes : (o p q d : Ordering) → ordering_then o (ordering_then p q) ≡ Equal → d ≡ ordering_then o (ordering_then p (ordering_then q d))
    goes Less p q d k = cc
    goes Greater p q d k = cc
    goes Equal Less q d k = cc
    goes Equal Greater q d k = cc
    goes Equal Equal Less d k = cc
    goes Equal Equal Greater d k = cc
    goes Equal Equal Equal d k = refl

-- no part of a row is as deep as the row
pub part_falls : (ps : List Part) (i : ℕ) (x : RowPart) → slice_get ps i ≡ Some (part_of x) → deep-RowPart x ≤ parts_nodes ps * 2
part_falls [] i x e = cc
part_falls (p ∷ ps) zero (part.Gap b) e = omega arith
part_falls (p ∷ ps) zero (part.Turn y) e = let same : p ≡ Turn y = cc in let n = ap part_nodes same in omega arith
part_falls (p ∷ ps) (suc i) x e = omega (arith, part_falls ps i x e)

pub ruleset comparing = (turns_cmp, part_falls)
