-- Lists without repeats, one item after another.
use Rattle.std.proofs.Common.{◌≡◌, ℕ, ◌+◌, ◌<◌, Bool, true, false, ◌||◌, not, cond, List, [], ◌∷◌, ◌++◌, refl, ap, ap₂, subst, sym, ◌∙◌, arith, length, take, get_or, append-nil}
use Rattle.std.specs.List.{list_any}
use Rattle.std.proofs.lemmas.Bool.{both_ways, false_from_ne_true, not-false, not-true}
use Rattle.std.proofs.lemmas.List.Folds.{list_any-append}
use Rattle.chart_term.specs.Equality.{same_tree}
use Rattle.std.specs.Ordering.{is_eq}
use Rattle.std.specs.declared.cmp.Ordering.{Ordering}
use Rattle.std.specs.declared.cmp.Ordering.TheVariants.{Less, Equal, Greater}
use Rattle.chart_term.specs.declared.term.Form.{Form}
use Rattle.chart_term.specs.declared.term.Form.TheVariants as form
use Rattle.chart_term.specs.NormalForms.{begun, open_choice, without, distinct, unless_same}
use Rattle.chart_term.specs.OrderLaws.{tree_equal, tree_itself}
use Rattle.chart_term.specs.TermViews.{IsFull, tree_of}
use Rattle.chart_term.proofs.Equal.{same_tree_is_exact}
use Rattle.chart_term.proofs.Lists.{items-trees}
use Rattle.chart_term.specs.Order.{tree_cmp}
use Rattle.chart_term.specs.PartLists.{AreTurns}
use Rattle.chart_term.specs.Terms.{Tree, Part}
use Rattle.chart_term.proofs.Flattening.{taken_next}

-- whether an item of the list is equal to the term
abbrev pub is_met : Tree → List Tree → Bool
is_met x ys = list_any (λ y. same_tree y x) ys

without-append : (x : Tree) (xs ys : List Tree) → without x (xs ++ ys) ≡ without x xs ++ without x ys
without-append x [] ys = refl
without-append x (z ∷ zs) ys = ap (unless_same (same_tree x z) z) (without-append x zs ys) ∙ out (same_tree x z) z (without x zs) (without x ys)
  where
    out : (b : Bool) (y : Tree) (us vs : List Tree) → unless_same b y (us ++ vs) ≡ unless_same b y us ++ vs
    out true y us vs = refl
    out false y us vs = refl

-- one more item
abbrev put_new : Bool → Tree → List Tree → List Tree
put_new true x xs = xs
put_new false x xs = xs ++ x ∷ []

distinct-snoc : (xs : List Tree) (x : Tree) → distinct (xs ++ x ∷ []) ≡ put_new (is_met x xs) x (distinct xs)
distinct-snoc [] x = refl
distinct-snoc (y ∷ ys) x = ap (λ l. y ∷ without y l) (distinct-snoc ys x) ∙ by_case (is_met x ys) (same_tree y x) refl
  where
    by_case : (met same : Bool) → same_tree y x ≡ same → y ∷ without y (put_new met x (distinct ys)) ≡ put_new (same || met) x (y ∷ without y (distinct ys))
    by_case true true e = refl
    by_case true false e = refl
    by_case false true e = ap (λ l. y ∷ l) (without-append y (distinct ys) (x ∷ []) ∙ ap (λ b. without y (distinct ys) ++ unless_same b x []) e ∙ append-nil (without y (distinct ys)))
    by_case false false e = ap (λ l. y ∷ l) (without-append y (distinct ys) (x ∷ []) ∙ ap (λ b. without y (distinct ys) ++ unless_same b x []) e)

pub distinct-next_new : (xs : List Tree) (i : ℕ) (x : Tree) → i < length xs → x ≡ get_or xs i x → is_met x (take i xs) ≡ false → distinct (take (i + 1) xs) ≡ distinct (take i xs) ++ x ∷ []
distinct-next_new xs i x lt e new = ap distinct (taken_next xs i x lt e) ∙ distinct-snoc (take i xs) x ∙ ap (λ b. put_new b x (distinct (take i xs))) new

pub distinct-next_met : (xs : List Tree) (i : ℕ) (x : Tree) → i < length xs → x ≡ get_or xs i x → is_met x (take i xs) ≡ true → distinct (take (i + 1) xs) ≡ distinct (take i xs)
distinct-next_met xs i x lt e met = ap distinct (taken_next xs i x lt e) ∙ distinct-snoc (take i xs) x ∙ ap (λ b. put_new b x (distinct (take i xs))) met

pub met-next : (xs : List Tree) (i : ℕ) (x y : Tree) → i < length xs → x ≡ get_or xs i x → is_met y (take (i + 1) xs) ≡ (is_met y (take i xs) || same_tree x y)
met-next xs i x y lt e = ap (is_met y) (taken_next xs i x lt e) ∙ list_any-append (λ z. same_tree z y) (take i xs) (x ∷ []) ∙ ap (λ b. is_met y (take i xs) || b) (or_none (same_tree x y))
  where
    or_none : (b : Bool) → (b || false) ≡ b
    or_none true = refl
    or_none false = refl

-- something is left of something
pub distinct_some : (xs : List Tree) → 0 < length xs → 0 < length (distinct xs)
distinct_some [] h = absurd (omega arith)
distinct_some (x ∷ xs) h = omega arith

-- the order and the test of equality agree
pub same_by_order : (x y : Tree) → is_eq (tree_cmp x y) ≡ same_tree x y
same_by_order x y = by_case (same_tree x y) refl
  where
    is_equal : (o : Ordering) → is_eq o ≡ true → o ≡ Equal
    is_equal Less h = cc
    is_equal Equal h = refl
    is_equal Greater h = cc

    by_case : (b : Bool) → same_tree x y ≡ b → is_eq (tree_cmp x y) ≡ same_tree x y
    by_case true e = ap is_eq (ap (λ z. tree_cmp x z) (sym (same_tree_is_exact.sound x y e)) ∙ tree_itself x) ∙ sym e
    by_case false e = false_from_ne_true (is_eq (tree_cmp x y)) (λ h. both_ways (same_tree x y) e (same_tree_is_exact.whole x y (tree_equal x y (is_equal (tree_cmp x y) h)))) ∙ sym e

-- what was seen, with one more item
pub seen_next : (xs : List Tree) (i : ℕ) (x key y : Tree) (old new : Bool) → i < length xs → x ≡ get_or xs i x → key ≡ x → new ≡ cond (is_eq (tree_cmp key y)) true old → old ≡ is_met y (take i xs) → new ≡ is_met y (take (i + 1) xs)
seen_next xs i x key y old new lt e is p q =
    p ∙ ap₂ (λ b c. cond b true c) (ap (λ z. is_eq (tree_cmp z y)) is ∙ same_by_order x y) q ∙ turned (same_tree x y) (is_met y (take i xs)) ∙ sym (met-next xs i x y lt e)
  where
    turned : (b c : Bool) → cond b true c ≡ (c || b)
    turned true true = refl
    turned true false = refl
    turned false true = refl
    turned false false = refl

-- a new item is kept
pub kept_new : (xs : List Tree) (i : ℕ) (x key item : Tree) (kept new : List Tree) (added old : Bool) → i < length xs → x ≡ get_or xs i x → key ≡ x → item ≡ x → kept ≡ distinct (take i xs) → new ≡ kept ++ item ∷ [] → added ≡ not old → added ≡ true → old ≡ is_met key (take i xs) → new ≡ distinct (take (i + 1) xs)
kept_new xs i x key item kept new added old lt e is this so put a yes_ seen =
    put ∙ ap₂ (λ l y. l ++ y ∷ []) so this ∙ sym (distinct-next_new xs i x lt e (ap (λ z. is_met z (take i xs)) (sym is) ∙ sym seen ∙ not-true old (sym a ∙ yes_)))

-- an item that was met isn't
pub kept_met : (xs : List Tree) (i : ℕ) (x key : Tree) (kept : List Tree) (added old : Bool) → i < length xs → x ≡ get_or xs i x → key ≡ x → kept ≡ distinct (take i xs) → added ≡ not old → added ≡ false → old ≡ is_met key (take i xs) → kept ≡ distinct (take (i + 1) xs)
kept_met xs i x key kept added old lt e is so a no_ seen =
    so ∙ sym (distinct-next_met xs i x lt e (ap (λ z. is_met z (take i xs)) (sym is) ∙ sym seen ∙ not-false old (sym a ∙ no_)))

-- the parts of a choice that has one
pub full_choice : (f : Form) (ps : List Part) (x : Tree) → f ≡ form.Choice ps → tree_of f ≡ x → IsFull f → (open_choice x ≡ begun ps) × AreTurns ps × (0 < length ps)
full_choice f ps x e is full =
    let full_is : IsFull (form.Choice ps) = subst IsFull e full in
    (ap open_choice (sym (ap tree_of (sym e) ∙ is)) ∙ items-trees (begun ps), full_is.0, full_is.1)
