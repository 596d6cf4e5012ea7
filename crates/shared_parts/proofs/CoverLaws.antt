-- Lists of the same names cover the same.
use Rattle.std.proofs.Common.{◌≡◌, ℕ, Bool, IsTrue, true, false, cond, Option, Some, List, [], ◌∷◌, length, refl, sym, ap, ◌∙◌}
use Rattle.std.specs.List.{list_any}
use Rattle.std.specs.Str.{bytes_eq}
use Rattle.msc_base.specs.Lists.{IsAmong}
use Rattle.msc_base.proofs.NameFacts.{any_from_one, one_from_any}
use Rattle.msc_meaning.specs.LevelItems.{cover_by, is_in, within}
use Rattle.msc_tree.specs.declared.chart.Cover.{Cover}
use Rattle.msc_tree.specs.declared.chart.Cover.TheVariants.{Listed}
use Rattle.shared_parts.specs.Sharing.{AllAmong, HaveSame, Tells}
use Rattle.shared_parts.proofs.ColumnLaws.{among_of}

same_test : (names others : List (List ℕ)) (i : List ℕ) → HaveSame names others → is_in names i ≡ is_in others i
same_test names others i h = by (is_in names i) (is_in others i) refl refl
  where
    by : (a b : Bool) → is_in names i ≡ a → is_in others i ≡ b → a ≡ b
    by true true e f = refl
    by true false e f = sym (any_from_one others i (h.0 i (one_from_any names i e))) ∙ f
    by false true e f = sym e ∙ any_from_one names i (h.1 i (one_from_any others i f))
    by false false e f = refl

pub within_same : (level names others : List (List ℕ)) → HaveSame names others → within level names ≡ within level others
within_same [] names others h = refl
within_same (i ∷ level) names others h =
    ap (λ (b : Bool). cond b (i ∷ within level names) (within level names)) (same_test names others i h)
    ∙ ap (λ (l : List (List ℕ)). cond (is_in others i) (i ∷ l) l) (within_same level names others h)

-- ---- by their tables

pub table_among : (table names : List (List ℕ)) → ((i : List ℕ) → list_any (bytes_eq i) table ≡ list_any (bytes_eq i) names) → (i : List ℕ) → IsAmong table i → IsAmong names i
table_among table names has i at = one_from_any names i (sym (has i) ∙ any_from_one table i at)

pub sets_same : (names cover table own : List (List ℕ)) → ((i : List ℕ) → list_any (bytes_eq i) table ≡ list_any (bytes_eq i) cover) → ((i : List ℕ) → list_any (bytes_eq i) own ≡ list_any (bytes_eq i) names)
    → AllAmong table names → AllAmong own cover → HaveSame names cover
sets_same names cover table own has holds a b = (λ i at. table_among table cover has i (among_of table names a i at), λ i at. table_among own names holds i (among_of own cover b i at))

-- by the answer of a test
pub yes_tells : (P Q : Type 0) (b : Bool) → IsTrue b → Tells b P Q → P
yes_tells P Q true e h = h
yes_tells P Q false e h = cc

-- a list of the same names as what is covered covers that
pub listed_covers : (level leads names cover : List (List ℕ)) (i : List ℕ) (list : Option Cover) → list ≡ Some (Listed names) → (length names ≡ 0 → ⊥) → within level cover ≡ cover → HaveSame names cover
    → cover_by level leads (Some i) list ≡ cover
listed_covers level leads [] cover i list is some kept h = absurd (some refl)
listed_covers level leads (j ∷ names) cover i list is some kept h = ap (cover_by level leads (Some i)) is ∙ within_same level (j ∷ names) cover h ∙ kept
