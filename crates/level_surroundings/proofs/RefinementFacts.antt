-- The decomposed instances of a chart, and its refining charts, one after another.
use Rattle.std.proofs.Common.{◌≡◌, ◌∙◌, ◌++◌, ◌<◌, ◌≤◌, ◌+◌, ◌||◌, ℕ, zero, suc, Bool, true, false, List, [], ◌∷◌, Option, Some, None, refl, sym, ap, subst, cond, append-nil, append_assoc, arith, drop, get_or, length, take}
use Rattle.std.proofs.lemmas.List.{map-append, take_more}
use Rattle.std.specs.List.{list_any, slice_get}
use Rattle.std.specs.Option.{option_or}
use Rattle.std.specs.Str.{bytes_eq}
use Rattle.msc_base.proofs.NameFacts.{any_with_name}
use Rattle.msc_base.specs.NameTables.{with_name}
use Rattle.msc_tree.specs.declared.chart.Decl.{Decl}
use Rattle.msc_meaning.specs.Bodies.{Body, level, WovenItems}
use Rattle.msc_meaning.specs.Refinements.{refining, refining_by, refinings}
use Rattle.msc_meaning.specs.Refinements as plain
use Rattle.msc_meaning.specs.Tables.{Refinement, Table, body_at, declared, refined_as, refinement, refinements, refinements_of}
use Rattle.msc_meaning.specs.Views.{body_view}
use Rattle.level_surroundings.specs.DecomposedInstances.{HasInstances, refinement_view, refinements_view}
use Rattle.level_surroundings.specs.RefiningViews.{refining_view, refinings_view}
use Rattle.level_surroundings.specs.declared.decomposed.Refinement as rust
use Rattle.level_surroundings.specs.declared.refining.Refining as rust_refining
use Rattle.level_surroundings.proofs.Dropped.{drop_less, item_at}
use Rattle.level_surroundings.proofs.ChartNames.{turned}

-- ---- what declarations say

pub chart_none : (d : Decl) (ds : List Decl) (name : List ℕ) → d.refined ≡ None → refined_as (d ∷ ds) name ≡ refined_as ds name
chart_none d ds name none = ap (λ (o : Option (List ℕ)). option_or (cond (bytes_eq d.name name) o None) (refined_as ds name)) none ∙ by (bytes_eq d.name name)
  where
    by : (b : Bool) → option_or (cond b None None) (refined_as ds name) ≡ refined_as ds name
    by true = refl
    by false = refl

pub chart_some : (d : Decl) (ds : List Decl) (name chart : List ℕ) → d.refined ≡ Some chart → refined_as (d ∷ ds) name ≡ cond (bytes_eq d.name name) (Some chart) (refined_as ds name)
chart_some d ds name chart some = ap (λ (o : Option (List ℕ)). option_or (cond (bytes_eq d.name name) o None) (refined_as ds name)) some ∙ by (bytes_eq d.name name)
  where
    by : (b : Bool) → option_or (cond b (Some chart) None) (refined_as ds name) ≡ cond b (Some chart) (refined_as ds name)
    by true = refl
    by false = refl

-- declarations before which none names a chart
pub plain_more : (ds : List Decl) (i : ℕ) (d : Decl) (name : List ℕ) → i < length ds → d ≡ get_or ds i d → d.refined ≡ None → refined_as ds name ≡ refined_as (drop i ds) name → refined_as ds name ≡ refined_as (drop (i + 1) ds) name
plain_more ds i d name low is none h =
    let same : i + 1 ≡ i + 1 = refl in
    h ∙ (ap (λ (l : List Decl). refined_as l name) (drop_less ds i (i + 1) d (item_at ds i d low is) same) ∙ chart_none d (drop (i + 1) ds) name none)

drop_all : {X : Type 0} (xs : List X) (i : ℕ) → length xs ≤ i → drop i xs ≡ []
drop_all [] zero h = refl
drop_all [] (suc i) h = refl
drop_all (x ∷ xs) zero h = absurd (omega (arith, h))
drop_all (x ∷ xs) (suc i) h = drop_all xs i (omega (arith, h))

pub none_refined : (ds : List Decl) (i : ℕ) → length ds ≤ i → ((name : List ℕ) → refined_as ds name ≡ refined_as (drop i ds) name) → refinements ds ≡ []
none_refined ds i all h = each (declared [] ds)
  where
    each : (names : List (List ℕ)) → refinements_of ds names ≡ []
    each [] = refl
    each (name ∷ names) = ap (λ (o : Option (List ℕ)). refinement name o ++ refinements_of ds names) (h name ∙ ap (λ (l : List Decl). refined_as l name) (drop_all ds i all)) ∙ each names

-- ---- instances, in the order in which they are declared

declared_last : (names : List (List ℕ)) (ds : List Decl) (d : Decl) → declared names (ds ++ d ∷ []) ≡ with_name (declared names ds) d.name
declared_last names [] d = refl
declared_last names (e ∷ ds) d = declared_last (with_name names e.name) ds d

pub declared_more : (ds : List Decl) (i : ℕ) (d : Decl) (old new : List (List ℕ)) → i < length ds → d ≡ get_or ds i d → old ≡ declared [] (take i ds) → new ≡ with_name old d.name → new ≡ declared [] (take (i + 1) ds)
declared_more ds i d old new low is h put =
    put ∙ (ap (λ (l : List (List ℕ)). with_name l d.name) h
    ∙ sym (ap (declared []) (take_more ds i d low ∙ ap (λ (y : Decl). take i ds ++ y ∷ []) (sym is)) ∙ declared_last [] (take i ds) d))

pub name_old : (names : List (List ℕ)) (name : List ℕ) → list_any (bytes_eq name) names ≡ true → names ≡ with_name names name
name_old names name there = rw there refl

pub name_new : (names : List (List ℕ)) (name : List ℕ) → list_any (bytes_eq name) names ≡ false → with_name names name ≡ names ++ name ∷ []
name_new names name there = rw there refl

refinements_last : (ds : List Decl) (names : List (List ℕ)) (name : List ℕ) → refinements_of ds (names ++ name ∷ []) ≡ refinements_of ds names ++ refinement name (refined_as ds name)
refinements_last ds [] name = append-nil (refinement name (refined_as ds name))
refinements_last ds (n ∷ names) name = ap (λ l. refinement n (refined_as ds n) ++ l) (refinements_last ds names name) ∙ sym (append_assoc (refinement n (refined_as ds n)) (refinements_of ds names) (refinement name (refined_as ds name)))

-- one that is declared for the first time
pub refinement_more : (ds : List Decl) (seen now : List (List ℕ)) (name : List ℕ) (chart : Option (List ℕ)) (old new : List Refinement) → list_any (bytes_eq name) seen ≡ false → now ≡ with_name seen name → chart ≡ refined_as ds name
    → old ≡ refinements_of ds seen → new ≡ old ++ refinement name chart → new ≡ refinements_of ds now
refinement_more ds seen now name chart old new first is said h put =
    put ∙ (ap (λ (l : List Refinement). l ++ refinement name chart) h ∙ (ap (λ (o : Option (List ℕ)). refinements_of ds seen ++ refinement name o) said
    ∙ (sym (refinements_last ds seen name) ∙ ap (refinements_of ds) (sym (is ∙ name_new seen name first)))))

-- ---- their names

any_both : {X : Type 0} (p : X → Bool) (xs ys : List X) → list_any p (xs ++ ys) ≡ (list_any p xs || list_any p ys)
any_both p [] ys = refl
any_both p (x ∷ xs) ys = ap (λ b. p x || b) (any_both p xs ys) ∙ or_assoc (p x) (list_any p xs) (list_any p ys)
  where
    or_assoc : (a b c : Bool) → (a || (b || c)) ≡ ((a || b) || c)
    or_assoc true b c = refl
    or_assoc false b c = refl

or_none : (b : Bool) → (b || false) ≡ b
or_none true = refl
or_none false = refl

pub instances_more : (rs : List rust.Refinement) (i : ℕ) (r : rust.Refinement) (old new : List (List ℕ)) → i < length rs → r ≡ get_or rs i r → HasInstances old (refinements_view (take i rs)) → new ≡ with_name old r.instance.now
    → HasInstances new (refinements_view (take (i + 1) rs))
instances_more rs i r old new low is h put name =
    let test : Refinement → Bool = λ (s : Refinement). bytes_eq s.instance name in
    let before = refinements_view (take i rs) in
    ap (list_any (bytes_eq name)) put ∙ (any_with_name old r.instance.now name
    ∙ (ap (λ b. b || bytes_eq name r.instance.now) (h name) ∙ (ap (λ b. list_any test before || b) (turned name r.instance.now ∙ sym (or_none (bytes_eq r.instance.now name)))
    ∙ sym (ap (list_any test) (ap refinements_view (take_more rs i r low ∙ ap (λ (y : rust.Refinement). take i rs ++ y ∷ []) (sym is)) ∙ map-append refinement_view (take i rs) (r ∷ [])) ∙ any_both test before (refinement_view r ∷ [])))))

-- ---- refining charts

refinings_last : (table : Table) (held : WovenItems) (rs : List Refinement) (r : Refinement) → refinings table held (rs ++ r ∷ []) ≡ refinings table held rs ++ refining_by r.instance held (body_at table r.chart)
refinings_last table held [] r = append-nil (refining_by r.instance held (body_at table r.chart))
refinings_last table held (s ∷ rs) r =
    ap (λ l. refining_by s.instance held (body_at table s.chart) ++ l) (refinings_last table held rs r)
    ∙ sym (append_assoc (refining_by s.instance held (body_at table s.chart)) (refinings table held rs) (refining_by r.instance held (body_at table r.chart)))

pub refinings_more : (table : Table) (held : WovenItems) (rs : List rust.Refinement) (i : ℕ) (r : rust.Refinement) (old new : List plain.Refining) → i < length rs → r ≡ get_or rs i r → old ≡ refinings table held (refinements_view (take i rs))
    → new ≡ old ++ refining_by r.instance.now held (body_at table r.chart.now) → new ≡ refinings table held (refinements_view (take (i + 1) rs))
refinings_more table held rs i r old new low is h put =
    put ∙ (ap (λ (l : List plain.Refining). l ++ refining_by r.instance.now held (body_at table r.chart.now)) h
    ∙ sym (ap (refinings table held) (ap refinements_view (take_more rs i r low ∙ ap (λ (y : rust.Refinement). take i rs ++ y ∷ []) (sym is)) ∙ map-append refinement_view (take i rs) (r ∷ []))
    ∙ refinings_last table held (refinements_view (take i rs)) (refinement_view r)))
