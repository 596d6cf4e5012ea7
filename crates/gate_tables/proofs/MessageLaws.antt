-- Texts are the same where their parts are.
use Rattle.std.specs.Prelude.{◌≡◌, ℕ, Bool, true, ◌&&◌, List, [], ◌∷◌, Option, None, Some}
use Rattle.std.specs.Str.{bytes_eq}
use Rattle.std.proofs.Common.{◌∙◌, refl, ap, ap₂}
use Rattle.std.proofs.lemmas.Bool.{and_parts}
use Rattle.std.proofs.lemmas.Slice.Eq.{bytes_eq-Decides}
use Rattle.gate_tables.specs.MessageTexts.{MessageText, are_same_items, are_same_lists, is_same_text}
use Rattle.gate_tables.proofs.MapSteps.{itself}

items_are : (xs ys : List (List ℕ)) → are_same_items xs ys ≡ true → xs ≡ ys
items_are [] [] h = refl
items_are [] (y ∷ ys) h = absurd cc
items_are (x ∷ xs) [] h = absurd cc
items_are (x ∷ xs) (y ∷ ys) h =
    let (first, behind) = and_parts (bytes_eq x y) (are_same_items xs ys) h in
    ap₂ (λ (z : List ℕ) (zs : List (List ℕ)). z ∷ zs) ((bytes_eq-Decides x y).0 first) (items_are xs ys behind)

lists_are : (a b : Option (List (List ℕ))) → are_same_lists a b ≡ true → a ≡ b
lists_are None None h = refl
lists_are None (Some ys) h = absurd cc
lists_are (Some xs) None h = absurd cc
lists_are (Some xs) (Some ys) h = ap (λ (zs : List (List ℕ)). Some zs) (items_are xs ys h)

pub same_text : (a b : MessageText) → is_same_text a b ≡ true → a ≡ b
same_text a b h =
    let (names, lists) = and_parts (bytes_eq a.name b.name) (are_same_lists a.parameters b.parameters) h in
    ap₂ (λ (n : List ℕ) (p : Option (List (List ℕ))). record { name = n; parameters = p }) ((bytes_eq-Decides a.name b.name).0 names) (lists_are a.parameters b.parameters lists)

items_itself : (xs : List (List ℕ)) → are_same_items xs xs ≡ true
items_itself [] = refl
items_itself (x ∷ xs) = ap (λ (b : Bool). b && are_same_items xs xs) (itself x) ∙ items_itself xs

list_itself : (a : Option (List (List ℕ))) → are_same_lists a a ≡ true
list_itself None = refl
list_itself (Some xs) = items_itself xs

pub text_itself : (a : MessageText) → is_same_text a a ≡ true
text_itself a = ap (λ (b : Bool). b && are_same_lists a.parameters a.parameters) (itself a.name) ∙ list_itself a.parameters
