-- Whether a number stands in terms and in lists of parts.
use Rattle.std.proofs.Common.{◌≡◌, ℕ, zero, suc, arith, ◌+◌, ◌*◌, ◌<◌, ◌≤◌, ◌⊎◌, inl, inr, Bool, true, false, ◌||◌, nat_eq, List, [], ◌∷◌, ◌++◌, refl, ap, sym, ◌∙◌, length, take, get_or, Option, append-nil, subst}
use Rattle.std.proofs.lemmas.List.{map-append, take_all}
use Rattle.std.proofs.lemmas.List.Folds.{list_any-append}
use Rattle.term_facts.specs.declared.facts.Facts.{Facts}
use Rattle.term_facts.specs.NodeFacts.{lies_in, numbers_in}
use Rattle.chart_term.specs.Facts.{HasFacts, RowHasFacts}
use Rattle.chart_term.specs.NormalForms.{numbers, numbers_row}
use Rattle.chart_term.specs.Numbers.{part_numbers}
use Rattle.chart_term.specs.Rows.{part_of, parts_of}
use Rattle.chart_term.specs.Sizes.{begun-nodes, nodes, part_nodes, parts_nodes}
use Rattle.chart_term.specs.Soughts.{IsSought}
use Rattle.chart_term.specs.TermViews.{IsFull, tree_of}
use Rattle.chart_term.specs.Terms.{Tree, Loop, Part, Gap, Turn, row_of, has}
use Rattle.chart_term.specs.declared.term.Form.{Form}
use Rattle.chart_term.specs.declared.term.Form.TheVariants as form
use Rattle.chart_term.specs.declared.term.Node.TheDeep.{deep-RowPart}
use Rattle.chart_term.specs.declared.term.RowPart.{RowPart}
use Rattle.chart_term.specs.declared.term.RowPart.TheVariants as part
use Rattle.chart_term.specs.declared.term.numbers.Sought.{Sought}
use Rattle.chart_term.specs.declared.term.numbers.Sought.TheVariants as sought
use Rattle.chart_term.proofs.Gathering.{row_numbers-append, turns-numbers}
use Rattle.chart_term.proofs.Passing.{lacks_there}
use Rattle.chart_term.proofs.Turns.{parts_next}

-- the numbers of a node of turns
pub numbers_joined : (f : Form) (ps : List Part) (x : Tree) → (f ≡ form.Seq ps) ⊎ ((f ≡ form.Par ps) ⊎ (f ≡ form.Choice ps)) → tree_of f ≡ x → numbers_row (row_of ps) ≡ numbers x
numbers_joined f ps x (inl e) is = turns-numbers ps ∙ ap numbers (ap tree_of (sym e) ∙ is)
numbers_joined f ps x (inr (inl e)) is = turns-numbers ps ∙ ap numbers (ap tree_of (sym e) ∙ is)
numbers_joined f ps x (inr (inr e)) is = turns-numbers ps ∙ ap numbers (ap tree_of (sym e) ∙ is)

-- a number beside the range isn't there
pub number_beside : (x : Tree) (n : ℕ) (f : Facts) → HasFacts x f → lies_in (numbers_in f.ranges) n ≡ false → false ≡ has (numbers x) n
number_beside x n f p h = sym (lacks_there (numbers x) n (ap (λ s. lies_in s n) (sym p.span) ∙ h))

pub row_number_beside : (ps : List Part) (n : ℕ) (f : Facts) → RowHasFacts (row_of ps) f → lies_in (numbers_in f.ranges) n ≡ false → false ≡ has (numbers_row (row_of ps)) n
row_number_beside ps n f p h = sym (lacks_there (numbers_row (row_of ps)) n (ap (λ s. lies_in s n) (sym p.span) ∙ h))

pub number_both : (ps qs : List Part) (n : ℕ) → has (numbers_row (row_of (ps ++ qs))) n ≡ (has (numbers_row (row_of ps)) n || has (numbers_row (row_of qs)) n)
number_both ps qs n = ap (λ l. has l n) (row_numbers-append ps qs) ∙ list_any-append (λ m. nat_eq m n) (numbers_row (row_of ps)) (numbers_row (row_of qs))

pub number_of_loop : (x : Tree) (lo : ℕ) (hi : Option ℕ) (ps : List Part) (n : ℕ) → has (numbers (Loop x lo hi (row_of ps))) n ≡ (has (numbers x) n || has (numbers_row (row_of ps)) n)
number_of_loop x lo hi ps n = list_any-append (λ m. nat_eq m n) (numbers x) (numbers_row (row_of ps))

one_part : (p : Part) (n : ℕ) → has (numbers_row (row_of (p ∷ []))) n ≡ has (part_numbers p) n
one_part (Gap c) n = refl
one_part (Turn x) n = ap (λ l. has l n) (append-nil (numbers x))

-- one more part of a leaf
pub number_next : (xs : List RowPart) (i : ℕ) (x : RowPart) (n : ℕ) → i < length xs → x ≡ get_or xs i x → has (numbers_row (row_of (parts_of (take (i + 1) xs)))) n ≡ (has (numbers_row (row_of (parts_of (take i xs)))) n || has (part_numbers (part_of x)) n)
number_next xs i x n lt e =
    ap (λ l. has (numbers_row (row_of l)) n) (parts_next xs i x lt e) ∙ number_both (parts_of (take i xs)) (part_of x ∷ []) n
    ∙ ap (λ b. has (numbers_row (row_of (parts_of (take i xs)))) n || b) (one_part (part_of x) n)

-- a part of a leaf has it
pub number_there : (xs : List RowPart) (i : ℕ) (x : RowPart) (n : ℕ) → i < length xs → x ≡ get_or xs i x → has (part_numbers (part_of x)) n ≡ true → true ≡ has (numbers_row (row_of (parts_of xs))) n
number_there [] i x n lt e h = absurd (omega arith)
number_there (y ∷ ys) zero x n lt e h = sym (number_both (part_of y ∷ []) (parts_of ys) n ∙ ap (λ b. b || has (numbers_row (row_of (parts_of ys))) n) (one_part (part_of y) n ∙ ap (λ z. has (part_numbers (part_of z)) n) (sym e) ∙ h))
number_there (y ∷ ys) (suc i) x n lt e h = or_true (has (numbers_row (row_of (part_of y ∷ []))) n) (has (numbers_row (row_of (parts_of ys))) n) (number_there ys i x n (omega (arith, lt)) e h) ∙ sym (number_both (part_of y ∷ []) (parts_of ys) n)
  where
    or_true : (a b : Bool) → true ≡ b → true ≡ (a || b)
    or_true true b k = refl
    or_true false b k = k

-- what is told of some numbers holds of those that have the number alike
pub sought_as : (ns ms : List ℕ) (n k l : ℕ) (r : Sought) → has ns n ≡ has ms n → k ≤ l → IsSought ns n k r → IsSought ms n l r
sought_as ns ms n k l (sought.Told b) e m h = h ∙ e
sought_as ns ms n k l (sought.In x) e m h = (h.0 ∙ e, omega (arith, m, h.1))

-- a node of turns has more nodes than they
pub nodes_joined : (f : Form) (ps : List Part) (x : Tree) → (f ≡ form.Seq ps) ⊎ ((f ≡ form.Par ps) ⊎ (f ≡ form.Choice ps)) → IsFull f → tree_of f ≡ x → parts_nodes ps ≤ nodes x
nodes_joined f ps x (inl e) h is = omega (arith, begun-nodes ps (subst IsFull e h), ap nodes (ap tree_of (sym e) ∙ is))
nodes_joined f ps x (inr (inl e)) h is = omega (arith, begun-nodes ps (subst IsFull e h), ap nodes (ap tree_of (sym e) ∙ is))
nodes_joined f ps x (inr (inr e)) h is = omega (arith, begun-nodes ps (subst IsFull e h).0, ap nodes (ap tree_of (sym e) ∙ is))

-- the parts behind others
pub number_behind : (ps qs : List Part) (n : ℕ) (rs : List Part) → ps ++ qs ≡ rs → has (numbers_row (row_of ps)) n ≡ false → has (numbers_row (row_of qs)) n ≡ has (numbers_row (row_of rs)) n
number_behind ps qs n rs e h = sym (sym (ap (λ l. has (numbers_row (row_of l)) n) e) ∙ number_both ps qs n ∙ ap (λ b. b || has (numbers_row (row_of qs)) n) h)

pub behind_fewer : (ps qs rs : List Part) → ps ++ qs ≡ rs → parts_nodes qs ≤ parts_nodes rs
behind_fewer ps qs rs e = subst (λ l. parts_nodes qs ≤ parts_nodes l) e (fewer ps)
  where
    fewer : (ts : List Part) → parts_nodes qs ≤ parts_nodes (ts ++ qs)
    fewer [] = omega arith
    fewer (t ∷ ts) = omega (arith, fewer ts)

-- the last part of a leaf
pub number_front : (xs zs : List RowPart) (y : RowPart) (n : ℕ) → zs ≡ xs ++ y ∷ [] → true ≡ has (numbers_row (row_of (parts_of xs))) n → true ≡ has (numbers_row (row_of (parts_of zs))) n
number_front xs zs y n e h = sym (ap (λ l. has (numbers_row (row_of (parts_of l))) n) e ∙ ap (λ l. has (numbers_row (row_of l)) n) (map-append part_of xs (y ∷ [])) ∙ number_both (parts_of xs) (part_of y ∷ []) n ∙ ap (λ b. b || has (numbers_row (row_of (part_of y ∷ []))) n) (sym h))

pub number_last : (xs zs : List RowPart) (i : ℕ) (y : RowPart) (n : ℕ) → zs ≡ xs ++ y ∷ [] → length xs ≤ i → has (numbers_row (row_of (parts_of (take i xs)))) n ≡ false → has (part_numbers (part_of y)) n ≡ has (numbers_row (row_of (parts_of zs))) n
number_last xs zs i y n e l h =
    sym (ap (λ k. has (numbers_row (row_of (parts_of k))) n) e ∙ ap (λ k. has (numbers_row (row_of k)) n) (map-append part_of xs (y ∷ [])) ∙ number_both (parts_of xs) (part_of y ∷ []) n
    ∙ ap (λ b. b || has (numbers_row (row_of (part_of y ∷ []))) n) (sym (ap (λ k. has (numbers_row (row_of (parts_of k))) n) (take_all i xs l)) ∙ h) ∙ one_part (part_of y) n)

pub last_fewer : (xs zs : List RowPart) (y : RowPart) → zs ≡ xs ++ y ∷ [] → part_nodes (part_of y) < parts_nodes (parts_of zs)
last_fewer xs zs y e = subst (λ l. part_nodes (part_of y) < parts_nodes (parts_of l)) (sym e) (fewer xs)
  where
    fewer : (ts : List RowPart) → part_nodes (part_of y) < parts_nodes (parts_of (ts ++ y ∷ []))
    fewer [] = omega arith
    fewer (t ∷ ts) = omega (arith, fewer ts)

-- no part of a leaf is as deep as the leaf
pub front_falls : (xs zs : List RowPart) (y : RowPart) (i : ℕ) (x : RowPart) → zs ≡ xs ++ y ∷ [] → i < length xs → x ≡ get_or xs i x → deep-RowPart x ≤ parts_nodes (parts_of zs) * 2
front_falls xs zs y i x e lt is = subst (λ l. deep-RowPart x ≤ parts_nodes (parts_of l) * 2) (sym e) (falls xs i lt is)
  where
    falls : (ts : List RowPart) (j : ℕ) → j < length ts → x ≡ get_or ts j x → deep-RowPart x ≤ parts_nodes (parts_of (ts ++ y ∷ [])) * 2
    falls [] j l k = absurd (omega arith)
    falls (part.Gap b ∷ ts) zero l k = subst (λ z. deep-RowPart z ≤ parts_nodes (parts_of ((part.Gap b ∷ ts) ++ y ∷ [])) * 2) (sym k) (omega arith)
    falls (part.Turn t ∷ ts) zero l k = subst (λ z. deep-RowPart z ≤ parts_nodes (parts_of ((part.Turn t ∷ ts) ++ y ∷ [])) * 2) (sym k) (omega arith)
    falls (t ∷ ts) (suc j) l k = omega (arith, falls ts j (omega (arith, l)) k)

pub ruleset numbering = (number_beside, row_number_beside, number_both, number_of_loop)
