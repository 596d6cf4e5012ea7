-- A chart that decomposes nothing has no coregion of a decomposed instance.
use Rattle.std.proofs.Common.{◌≡◌, ◌∙◌, ℕ, Bool, true, false, ◌&&◌, nat_eq, List, [], ◌∷◌, ◌++◌, length, Option, refl, sym, ap, ap₂, subst, arith}
use Rattle.std.specs.List.{flat_map, list_any}
use Rattle.std.specs.Str.{bytes_eq}
use Rattle.chart_text.specs.Gathering.{place_if}
use Rattle.chart_text.specs.Texts.{Passage, a_head, a_statement, an_item, an_operand, Scope, Whole, Within, Standing, own_scope, chart_text}
use Rattle.creation_rules.specs.Creating.{decomposed}
use Rattle.msc_base.specs.Lists.{IsAmong}
use Rattle.msc_base.specs.Places.{IsLeast}
use Rattle.msc_base.specs.declared.place.Place.{Place}
use Rattle.msc_tree.specs.Charts.{Chart}
use Rattle.msc_tree.specs.Statements.{Form, Single, Coregion, Condition, Inline, Refer, Stop}
use Rattle.refinement_rules.specs.Coregions.{HasLocalCoregion, item_coregions, passage_coregions, stands_at}

none_named : (names : List (List ℕ)) → list_any (λ n. list_any (bytes_eq n) []) names ≡ false
none_named [] = refl
none_named (n ∷ names) = none_named names

none_stands : (s : Scope) → stands_at [] s ≡ false
none_stands Whole = refl
none_stands (Within names) = none_named names

and_false : (b : Bool) → (b && false) ≡ false
and_false true = refl
and_false false = refl

item_none : (s : Standing) (place : Place) (form : Form) → item_coregions [] s place form ≡ []
item_none s place (Coregion events) = ap (λ b. place_if b place) (ap (λ b. nat_eq s.depth 0 && b) (none_stands (own_scope s.side)) ∙ and_false (nat_eq s.depth 0))
item_none s place (Single event) = refl
item_none s place (Condition names shared) = refl
item_none s place (Inline head held) = refl
item_none s place (Refer reference) = refl
item_none s place Stop = refl

passage_none : (x : Passage) → passage_coregions [] x ≡ []
passage_none (a_head decl) = refl
passage_none (a_statement depth scope x) = refl
passage_none (an_item s place form) = item_none s place form
passage_none (an_operand s x) = refl

text_none : (xs : List Passage) → flat_map (passage_coregions []) xs ≡ []
text_none [] = refl
text_none (x ∷ xs) = ap₂ (λ a b. a ++ b) (passage_none x) (text_none xs)

no_length : (xs : List (List ℕ)) → length xs ≡ 0 → xs ≡ []
no_length [] e = refl
no_length (x ∷ xs) e = absurd (omega arith)

pub coregions_none : (chart : Chart) (refined : List (List ℕ)) → refined ≡ decomposed chart → length refined ≡ 0 → (q : Place) → HasLocalCoregion chart q → ⊥
coregions_none chart refined is none q h =
    let nothing : decomposed chart ≡ [] = sym is ∙ no_length refined none in
    let P : List Place → Type 0 = λ l. IsAmong l q in
    subst P (ap (λ (l : List (List ℕ)). flat_map (passage_coregions l) (chart_text chart)) nothing ∙ text_none (chart_text chart)) h

-- those that are noted are those of the chart
pub coregions_least : (chart : Chart) (refined : List (List ℕ)) (text : List Passage) (start new slice : List Place) (o : Option Place) → refined ≡ decomposed chart → text ≡ chart_text chart → start ≡ [] → new ≡ start ++ flat_map (passage_coregions refined) text
    → slice ≡ new → IsLeast (IsAmong slice) o → IsLeast (HasLocalCoregion chart) o
coregions_least chart refined text start new slice o is text_is none noted held =
    let P : List Place → Type 0 = λ l. IsLeast (IsAmong l) o in
    let told : slice ≡ flat_map (passage_coregions refined) text = held ∙ noted ∙ ap (λ l. l ++ flat_map (passage_coregions refined) text) none in
    subst P (told ∙ ap₂ (λ (r : List (List ℕ)) (t : List Passage). flat_map (passage_coregions r) t) is text_is)
