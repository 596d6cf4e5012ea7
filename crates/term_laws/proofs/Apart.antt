-- Lists of terms that share no label, or only one that stands outside choices and loops of the earlier term.
use Rattle.std.specs.Prelude.{ℕ, Bool, true, false, List, [], ◌∷◌, ◌++◌, ◌≡◌, ◌⊎◌, Option, Some}
use Rattle.std.proofs.Common.{inl, inr}
use Rattle.msc_base.specs.Patterns.{Mode, seq, par}
use Rattle.chart_term.specs.Equality.{same_tree}
use Rattle.chart_term.specs.NormalForms.{NetPermits, open_part, flat, open_choice, open_choices, unless_same, without, distinct}
use Rattle.chart_term.specs.Properties.{Each, MayHave}
use Rattle.chart_term.specs.Terms.{TermEvent, Block, Tree, Nil, Event, Join, Choice, Tied, Loop, Walk, Trees, none, more, items}
use Rattle.term_laws.specs.Permission.{permit}
use Rattle.term_laws.specs.Taking.{IsAfter}
use Rattle.term_laws.proofs.Steady.{Lacks, LackAll, Sure, SureAll, permit_lacks, after_lacks, permit_sure, after_sure}
use Rattle.term_laws.proofs.Opening.{each_app}

-- each label of the later term stands in the earlier one outside choices and loops, if at all; side by side, not at all
abbrev pub Apart : Mode → Tree → Tree → Type 0
Apart seq x y = (a : ℕ) → Sure a x ⊎ Lacks a y
Apart par x y = (a : ℕ) → Lacks a x ⊎ Lacks a y

abbrev pub AllApart : Mode → List Tree → Type 0
AllApart m [] = Unit {0}
AllApart m (x ∷ xs) = Each (Apart m x) xs × AllApart m xs

-- no label is new, and none comes into a choice or a loop
pub record Fewer (x y : Tree) : Type 0 where
  pub lacks : (a : ℕ) → Lacks a x → Lacks a y
  pub sure : (a : ℕ) → Sure a x → Sure a y

pub fewer_self : (x : Tree) → Fewer x x
fewer_self x = record { lacks = λ a h. h; sure = λ a h. h }

pub fewer_on : (x y z : Tree) → Fewer x y → Fewer y z → Fewer x z
fewer_on x y z f g = record { lacks = λ a h. g.lacks a (f.lacks a h); sure = λ a h. g.sure a (f.sure a h) }

pub fewer_apart : (m : Mode) (x x' y y' : Tree) → Fewer x x' → Fewer y y' → Apart m x y → Apart m x' y'
fewer_apart seq x x' y y' f g h = λ a. elim (h a) [ inl i ↦ inl (f.sure a i) | inr i ↦ inr (g.lacks a i) ]
fewer_apart par x x' y y' f g h = λ a. elim (h a) [ inl i ↦ inl (f.lacks a i) | inr i ↦ inr (g.lacks a i) ]

lacks_some : (a : ℕ) (r : Option Tree) (y : Tree) → r ≡ Some y → MayHave (Lacks a) r → Lacks a y
lacks_some a r y e h = rw e at h

sure_some : (a : ℕ) (r : Option Tree) (y : Tree) → r ≡ Some y → MayHave (Sure a) r → Sure a y
sure_some a r y e h = rw e at h

pub permit_fewer : (k : NetPermits) (b : Block) (x y : Tree) → permit k b x ≡ Some y → Fewer x y
permit_fewer k b x y e = record { lacks = λ a h. lacks_some a (permit k b x) y e (permit_lacks k a b x h); sure = λ a h. sure_some a (permit k b x) y e (permit_sure k a b x h) }

pub after_fewer : (k : NetPermits) {x y : Tree} {e : TermEvent} → IsAfter k x e y → Fewer x y
after_fewer k {x = x} {y = y} p = record { lacks = λ a h. after_lacks k a {x = x} {y = y} p h; sure = λ a h. after_sure k a {x = x} {y = y} p h }

-- some of the terms, each with fewer labels
pub data Thins : List Tree → List Tree → Type 0 where
  thin_end : Thins [] []
  thin_keep : {x y : Tree} {xs ys : List Tree} → Fewer x y → Thins xs ys → Thins (x ∷ xs) (y ∷ ys)
  thin_skip : {x : Tree} {xs ys : List Tree} → Thins xs ys → Thins (x ∷ xs) ys

pub thins_self : (xs : List Tree) → Thins xs xs
thins_self [] = thin_end
thins_self (x ∷ xs) = thin_keep (fewer_self x) (thins_self xs)

each_thins : (m : Mode) (x x' : Tree) {xs ys : List Tree} → Fewer x x' → Thins xs ys → Each (Apart m x) xs → Each (Apart m x') ys
each_thins m x x' f thin_end h = tt
each_thins m x x' f (thin_keep {x = y} {y = y'} g t) h = (fewer_apart m x x' y y' f g h.0, each_thins m x x' f t h.1)
each_thins m x x' f (thin_skip t) h = each_thins m x x' f t h.1

pub apart_thins : (m : Mode) {xs ys : List Tree} → Thins xs ys → AllApart m xs → AllApart m ys
apart_thins m thin_end h = tt
apart_thins m (thin_keep {x = x} {y = y} f t) h = (each_thins m x y f t h.0, apart_thins m t h.1)
apart_thins m (thin_skip t) h = apart_thins m t h.1

-- lists in two parts
each_from : (m : Mode) (xs ys : List Tree) → Each (λ x. Each (Apart m x) ys) xs → AllApart m xs → AllApart m ys → AllApart m (xs ++ ys)
each_from m [] ys c h i = i
each_from m (x ∷ xs) ys c h i = (each_app (Apart m x) xs ys h.0 c.0, each_from m xs ys c.1 h.1 i)

-- the parts of an earlier term, and of a later one
first : {A B C : Type 0} → (A → B) → A ⊎ C → B ⊎ C
first f (inl a) = inl (f a)
first f (inr c) = inr c

second : {A B C : Type 0} → (B → C) → A ⊎ B → A ⊎ C
second f (inl a) = inl a
second f (inr b) = inr (f b)

sure_items : (y : Tree) (xs : Trees) → ((a : ℕ) → SureAll a xs ⊎ Lacks a y) → Each (λ x. Apart seq x y) (items xs)
sure_items y none h = tt
sure_items y (more x xs) h = (λ a. first (λ i. i.0) (h a), sure_items y xs (λ a. first (λ i. i.1) (h a)))

lack_items : (y : Tree) (xs : Trees) → ((a : ℕ) → LackAll a xs ⊎ Lacks a y) → Each (λ x. Apart par x y) (items xs)
lack_items y none h = tt
lack_items y (more x xs) h = (λ a. first (λ i. i.0) (h a), lack_items y xs (λ a. first (λ i. i.1) (h a)))

row_later : (x : Tree) (ys : Trees) → ((a : ℕ) → Sure a x ⊎ LackAll a ys) → Each (Apart seq x) (items ys)
row_later x none h = tt
row_later x (more y ys) h = (λ a. second (λ i. i.0) (h a), row_later x ys (λ a. second (λ i. i.1) (h a)))

aside_later : (x : Tree) (ys : Trees) → ((a : ℕ) → Lacks a x ⊎ LackAll a ys) → Each (Apart par x) (items ys)
aside_later x none h = tt
aside_later x (more y ys) h = (λ a. second (λ i. i.0) (h a), aside_later x ys (λ a. second (λ i. i.1) (h a)))

open_first : (m : Mode) (x y : Tree) → Apart m x y → Each (λ z. Apart m z y) (open_part m x)
open_first m Nil y h = tt
open_first seq (Join seq xs) y h = sure_items y xs h
open_first seq (Join par xs) y h = (h, tt)
open_first par (Join seq xs) y h = (h, tt)
open_first par (Join par xs) y h = lack_items y xs h
open_first m (Event e) y h = (h, tt)
open_first m (Choice xs) y h = (h, tt)
open_first m (Tied x q) y h = (h, tt)
open_first m (Loop x lo hi r) y h = (h, tt)
open_first m (Walk n f t c) y h = (h, tt)

open_later : (m : Mode) (x y : Tree) → Apart m x y → Each (Apart m x) (open_part m y)
open_later m x Nil h = tt
open_later seq x (Join seq ys) h = row_later x ys h
open_later seq x (Join par ys) h = (h, tt)
open_later par x (Join seq ys) h = (h, tt)
open_later par x (Join par ys) h = aside_later x ys h
open_later m x (Event e) h = (h, tt)
open_later m x (Choice ys) h = (h, tt)
open_later m x (Tied y q) h = (h, tt)
open_later m x (Loop y lo hi r) h = (h, tt)
open_later m x (Walk n f t c) h = (h, tt)

-- the parts of a join
flat_later : (m : Mode) (x : Tree) (ys : List Tree) → Each (Apart m x) ys → Each (Apart m x) (flat m ys)
flat_later m x [] h = tt
flat_later m x (y ∷ ys) h = each_app (Apart m x) (open_part m y) (flat m ys) (open_later m x y h.0) (flat_later m x ys h.1)

each_flat : (m : Mode) (xs ys : List Tree) → Each (λ x. Each (Apart m x) ys) xs → Each (λ x. Each (Apart m x) (flat m ys)) xs
each_flat m [] ys h = tt
each_flat m (x ∷ xs) ys h = (flat_later m x ys h.0, each_flat m xs ys h.1)

cross_none : (m : Mode) (xs : List Tree) → Each (λ x. Each (Apart m x) []) xs
cross_none m [] = tt
cross_none m (x ∷ xs) = (tt, cross_none m xs)

cross_more : (m : Mode) (xs : List Tree) (y : Tree) (ys : List Tree) → Each (λ x. Apart m x y) xs → Each (λ x. Each (Apart m x) ys) xs → Each (λ x. Each (Apart m x) (y ∷ ys)) xs
cross_more m [] y ys h i = tt
cross_more m (x ∷ xs) y ys h i = ((h.0, i.0), cross_more m xs y ys h.1 i.1)

cross : (m : Mode) (x : Tree) (ys : List Tree) → Each (Apart m x) ys → Each (λ z. Each (Apart m z) ys) (open_part m x)
cross m x [] h = cross_none m (open_part m x)
cross m x (y ∷ ys) h = cross_more m (open_part m x) y ys (open_first m x y h.0) (cross m x ys h.1)

-- the opened parts of each term are apart
pub flat_apart : (m : Mode) (xs : List Tree) → Each (λ x. AllApart m (open_part m x)) xs → AllApart m xs → AllApart m (flat m xs)
flat_apart m [] o h = tt
flat_apart m (x ∷ xs) o h = each_from m (open_part m x) (flat m xs) (each_flat m (open_part m x) xs (cross m x xs h.0)) o.0 (flat_apart m xs o.1 h.1)

-- the parts of a choice
choice_first : (x y : Tree) → Apart par x y → Each (λ z. Apart par z y) (open_choice x)
choice_first (Choice xs) y h = lack_items y xs h
choice_first Nil y h = (h, tt)
choice_first (Event e) y h = (h, tt)
choice_first (Join m xs) y h = (h, tt)
choice_first (Tied x q) y h = (h, tt)
choice_first (Loop x lo hi r) y h = (h, tt)
choice_first (Walk n f t c) y h = (h, tt)

choice_later : (x y : Tree) → Apart par x y → Each (Apart par x) (open_choice y)
choice_later x (Choice ys) h = aside_later x ys h
choice_later x Nil h = (h, tt)
choice_later x (Event e) h = (h, tt)
choice_later x (Join m ys) h = (h, tt)
choice_later x (Tied y q) h = (h, tt)
choice_later x (Loop y lo hi r) h = (h, tt)
choice_later x (Walk n f t c) h = (h, tt)

choices_later : (x : Tree) (ys : List Tree) → Each (Apart par x) ys → Each (Apart par x) (open_choices ys)
choices_later x [] h = tt
choices_later x (y ∷ ys) h = each_app (Apart par x) (open_choice y) (open_choices ys) (choice_later x y h.0) (choices_later x ys h.1)

each_choices : (xs ys : List Tree) → Each (λ x. Each (Apart par x) ys) xs → Each (λ x. Each (Apart par x) (open_choices ys)) xs
each_choices [] ys h = tt
each_choices (x ∷ xs) ys h = (choices_later x ys h.0, each_choices xs ys h.1)

cross_choice : (x : Tree) (ys : List Tree) → Each (Apart par x) ys → Each (λ z. Each (Apart par z) ys) (open_choice x)
cross_choice x [] h = cross_none par (open_choice x)
cross_choice x (y ∷ ys) h = cross_more par (open_choice x) y ys (choice_first x y h.0) (cross_choice x ys h.1)

pub choices_apart : (xs : List Tree) → Each (λ x. AllApart par (open_choice x)) xs → AllApart par xs → AllApart par (open_choices xs)
choices_apart [] o h = tt
choices_apart (x ∷ xs) o h = each_from par (open_choice x) (open_choices xs) (each_choices (open_choice x) xs (cross_choice x xs h.0)) o.0 (choices_apart xs o.1 h.1)

-- each term once
unless_thins : (t : Bool) (y : Tree) (xs ys : List Tree) → Thins xs ys → Thins (y ∷ xs) (unless_same t y ys)
unless_thins true y xs ys h = thin_skip h
unless_thins false y xs ys h = thin_keep (fewer_self y) h

without_thins : (x : Tree) (xs ys : List Tree) → Thins xs ys → Thins xs (without x ys)
without_thins x xs ys thin_end = thin_end
without_thins x xs ys (thin_keep {x = z} {y = y} {xs = zs} {ys = us} f t) = go (same_tree x y) (without_thins x zs us t)
  where
    go : (t : Bool) → Thins zs (without x us) → Thins (z ∷ zs) (unless_same t y (without x us))
    go true h = thin_skip h
    go false h = thin_keep f h
without_thins x xs ys (thin_skip {xs = zs} t) = thin_skip (without_thins x zs ys t)

pub distinct_thins : (xs : List Tree) → Thins xs (distinct xs)
distinct_thins [] = thin_end
distinct_thins (x ∷ xs) = thin_keep (fewer_self x) (without_thins x xs (distinct xs) (distinct_thins xs))
