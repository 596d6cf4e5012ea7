-- Listed instances, each once: those of charts one after another, behind those of others.
use Rattle.std.proofs.Common.{◌≡◌, ◌++◌, ◌||◌, ◌-◌, ◌<◌, ℕ, zero, suc, Bool, true, false, if◌then◌else◌, List, [], ◌∷◌, None, Result, Ok, Err, IfOk, OnOk, fold, map, arith, refl, sym, subst, ap, ◌∙◌}
use Rattle.std.specs.List.{list_any}
use Rattle.std.specs.Str.{bytes_eq}
use Rattle.std.proofs.lemmas.Bool.{or_right}
use Rattle.std.proofs.lemmas.List.Sums.{fold-append}
use Rattle.msc_base.proofs.NameFacts.{any_folded}
use Rattle.msc_base.specs.NameTables.{with_name}
use Rattle.msc_base.specs.declared.limits.TheConstants.Limits.{EXPANDED_NESTING}
use Rattle.msc_meaning.specs.Tables.{ChartEntry, HighLevel, Table, Woven, chart_at}
use Rattle.msc_meaning.specs.Views.{table_view}
use Rattle.msc_meaning.specs.declared.body.ChartEntry as code
use Rattle.msc_tree.specs.Graphs.{Graph}
use Rattle.woven_laws.specs.GraphNames.{graph_names}
use Rattle.chart_lists.specs.Listing.{as_listed, content_listed, entry_listed, instances_behind, listed_of, listed_refined, listed_to}

-- ---- names, each once

with_twice : (seen names : List (List ℕ)) (x : List ℕ) → fold with_name seen (with_name names x) ≡ with_name (fold with_name seen names) x
with_twice seen names x = by (list_any (bytes_eq x) names) refl
  where
    by : (b : Bool) → list_any (bytes_eq x) names ≡ b → fold with_name seen (with_name names x) ≡ with_name (fold with_name seen names) x
    by true e =
        let there : list_any (bytes_eq x) (fold with_name seen names) ≡ true = any_folded seen names x ∙ or_right (list_any (bytes_eq x) seen) (list_any (bytes_eq x) names) e in
        ap (λ (b : Bool). fold with_name seen (if b then names else names ++ x ∷ [])) e ∙ sym (ap (λ (b : Bool). if b then fold with_name seen names else fold with_name seen names ++ x ∷ []) there)
    by false e = ap (λ (b : Bool). fold with_name seen (if b then names else names ++ x ∷ [])) e ∙ fold-append with_name seen names (x ∷ [])

-- names behind names behind others
seen_twice : (seen names more : List (List ℕ)) → fold with_name seen (fold with_name names more) ≡ fold with_name (fold with_name seen names) more
seen_twice seen names [] = refl
seen_twice seen names (x ∷ more) = seen_twice seen (with_name names x) more ∙ ap (λ (l : List (List ℕ)). fold with_name l more) (with_twice seen names x)

module _ (of : List ℕ → List (List ℕ)) where
  behind_twice : (seen before names : List (List ℕ)) → fold with_name seen (instances_behind of before names) ≡ instances_behind of (fold with_name seen before) names
  behind_twice seen before [] = refl
  behind_twice seen before (n ∷ names) = behind_twice seen (fold with_name before (of n)) names ∙ ap (λ (l : List (List ℕ)). instances_behind of l names) (seen_twice seen before (of n))

  pub gathered : (seen names : List (List ℕ)) → instances_behind of seen names ≡ fold with_name seen (instances_behind of [] names)
  gathered seen names = sym (behind_twice seen [] names)

-- ---- charts

-- where nothing may be named, nothing is listed
pub none_listed : (table : Table) (depth : ℕ) (seen names : List (List ℕ)) → depth ≡ 0 → seen ≡ instances_behind (listed_to table depth) seen names
none_listed table depth seen names e = subst (λ (d : ℕ). seen ≡ instances_behind (listed_to table d) seen names) (sym e) (by seen names)
  where
    by : (seen names : List (List ℕ)) → seen ≡ instances_behind (listed_to table 0) seen names
    by seen [] = refl
    by seen (n ∷ names) = by seen names

-- those of one chart more
pub one_listed : (table : Table) (depth : ℕ) (name : List ℕ) → 0 < depth → entry_listed (listed_to table (depth - 1)) (chart_at table name) ≡ listed_to table depth name
one_listed table zero name low = absurd (omega (arith, low))
one_listed table (suc depth) name low = ap (λ (d : ℕ). entry_listed (listed_to table d) (chart_at table name)) (omega arith)

-- ---- lists

pub drawn_listed : (table : Table) (e : ChartEntry) (drawn : Graph) (names : List (List ℕ)) → e.content ≡ HighLevel drawn → names ≡ instances_behind (listed_to table EXPANDED_NESTING) [] (graph_names drawn) → map (λ (n : List ℕ). as_listed n None) names ≡ listed_of table e
drawn_listed table e drawn names is made =
    ap (map (λ (n : List ℕ). as_listed n None)) made
    ∙ ap (λ (w : Woven). map (λ (n : List ℕ). as_listed n (listed_refined e.decls w n)) (content_listed (listed_to table EXPANDED_NESTING) w)) (sym is)

pub with_end : {A E X : Type 0} (r : Result A E) (x y z : X) → OnOk r (x ≡ y) → y ≡ z → OnOk r (x ≡ z)
with_end (Ok a) x y z h e = h ∙ e
with_end (Err b) x y z h e = tt

pub if_end : {E X : Type 0} (r : Result X E) (y z : X) → IfOk r (λ x. x ≡ y) → y ≡ z → IfOk r (λ x. x ≡ z)
if_end (Ok a) y z h e = h ∙ e
if_end (Err b) y z h e = tt

-- in the table of the same charts
pub listed_in_table : (some charts : List code.ChartEntry) (names : List (List ℕ)) (drawn : Graph) → some ≡ charts → names ≡ instances_behind (listed_to (table_view some) EXPANDED_NESTING) [] (graph_names drawn)
    → names ≡ instances_behind (listed_to (table_view charts) EXPANDED_NESTING) [] (graph_names drawn)
listed_in_table some charts names drawn same h = subst (λ (es : List code.ChartEntry). names ≡ instances_behind (listed_to (table_view es) EXPANDED_NESTING) [] (graph_names drawn)) same h
