-- Terms without begun turns: the constructors keep them so, and a choice of such terms is there.
use Rattle.std.specs.Prelude.{ℕ, List, [], ◌∷◌, ◌++◌, Some}
use Rattle.std.specs.Option.{unwrap_or}
use Rattle.std.proofs.Common.{◌≡◌, refl, sym, subst, ap}
use Rattle.msc_base.specs.Patterns.{Mode}
use Rattle.chart_term.specs.NormalForms.{join_all, open_choice, open_choices, without, distinct, choice_form, choice_of, tie_of}
use Rattle.chart_term.specs.Properties.{Each}
use Rattle.chart_term.specs.Terms.{Tree, Nil, Event, Join, Choice, Tied, Loop, Walk, Trees, none, more, items, trees}
use Rattle.expanded_terms.specs.BareTerms.{IsBare, AreBare}
use Rattle.expanded_terms.specs.ExpandedTerms.{one_of}
use Rattle.term_laws.proofs.Opening.{each_app}
use Rattle.expanded_terms.proofs.KeptParts.{IsByParts, choice_has, join_has, tie_has}

abbrev pub EachBare : List Tree → Type 0
EachBare xs = Each IsBare xs

bare_items : (xs : Trees) → AreBare xs → EachBare (items xs)
bare_items none h = tt
bare_items (more x xs) (h, k) = (h, bare_items xs k)

bare_trees : (xs : List Tree) → EachBare xs → AreBare (trees xs)
bare_trees [] h = tt
bare_trees (x ∷ xs) (h, k) = (h, bare_trees xs k)

bare_by_parts : IsByParts IsBare
bare_by_parts = record {
  nil = tt;
  join_in = λ m x y xs h. bare_trees (x ∷ y ∷ xs) h;
  join_out = λ m xs h. bare_items xs h;
  choice_in = λ x y xs h. (tt, bare_trees (x ∷ y ∷ xs) h);
  choice_out = λ xs h. bare_items xs h.1;
  tie_in = λ x q h. h;
}

pub bare_both : (xs ys : List Tree) → EachBare xs → EachBare ys → EachBare (xs ++ ys)
bare_both xs ys h k = each_app IsBare xs ys h k

pub bare_join : (m : Mode) (xs : List Tree) → EachBare xs → IsBare (join_all m xs)
bare_join m xs h = join_has IsBare bare_by_parts m xs h

pub bare_choice : (xs : List Tree) (y : Tree) → EachBare xs → choice_of xs ≡ Some y → IsBare y
bare_choice xs y h e = choice_has IsBare bare_by_parts xs y h e

pub bare_tie : (x : Tree) (q : List (ℕ × ℕ)) → IsBare x → IsBare (tie_of x q)
bare_tie x q h = tie_has IsBare bare_by_parts x q h

-- a choice of such terms is there
record HasFirst (xs : List Tree) : Type 0 where
  part : Tree
  others : List Tree
  is : xs ≡ part ∷ others

has_first : (x : Tree) → IsBare x → HasFirst (open_choice x)
has_first Nil h = record { part = Nil; others = []; is = refl }
has_first (Event e) h = record { part = Event e; others = []; is = refl }
has_first (Join m xs) h = record { part = Join m xs; others = []; is = refl }
has_first (Choice none) h = absurd h.0
has_first (Choice (more x xs)) h = record { part = x; others = items xs; is = refl }
has_first (Tied x q) h = record { part = Tied x q; others = []; is = refl }
has_first (Loop x lo hi r) h = record { part = Loop x lo hi r; others = []; is = refl }
has_first (Walk n f t c) h = record { part = Walk n f t c; others = []; is = refl }

form_there : (x : Tree) (xs : List Tree) → choice_form (x ∷ xs) ≡ Some (unwrap_or (choice_form (x ∷ xs)) Nil)
form_there x [] = refl
form_there x (y ∷ xs) = refl

pub one_there : (x : Tree) (xs : List Tree) → IsBare x → choice_of (x ∷ xs) ≡ Some (one_of (x ∷ xs))
one_there x xs h =
    let f = has_first x h in
    subst (λ (os : List Tree). choice_form (distinct os) ≡ Some (unwrap_or (choice_form (distinct os)) Nil)) (ap (λ l. l ++ open_choices xs) (sym f.is)) (form_there f.part (without f.part (distinct (f.others ++ open_choices xs))))
