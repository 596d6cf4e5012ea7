-- Charts of a table by their names, worked out as deep as references stand in each other.
use Rattle.std.specs.List.{position, position_or_len, slice_get}
use Rattle.std.specs.Prelude.{◌≡◌, ◌<◌, ◌≤◌, ◌+◌, ◌-◌, ◌||◌, ℕ, zero, suc, Bool, true, false, cond, not, nat_lt, List, [], ◌∷◌, Option, None, Some, if◌then◌else◌, length, map, is_some, option_map, take, Result, Ok, Err, OnOk}
use Rattle.std.specs.Str.{bytes_eq}
use Rattle.std.proofs.Common.{◌∙◌, refl, sym, ap, subst, arith, get_or, Bor}
use Rattle.std.proofs.lemmas.Bool.Decides.{nat_tests}
use Rattle.std.proofs.lemmas.List.{length-map}
use Rattle.std.proofs.lemmas.List.Folds.{find_at}
use Rattle.std.proofs.lemmas.Option.{cond_some, slice_get-map, slice_get_past}
use Rattle.std.proofs.lemmas.Slice.Eq.{bytes_eq-Decides}
use Rattle.indexmap.specs.IndexMap.{get_by}
use Rattle.list_facts.proofs.Bools.{or_true}
use Rattle.msc_meaning.specs.Bodies.{Body}
use Rattle.msc_meaning.specs.Tables.{Table, body_at, body_in, chart_at}
use Rattle.msc_meaning.specs.Views.{entry_view, table_view}
use Rattle.msc_meaning.specs.declared.body.ChartEntry as rust
use Rattle.gate_ends.specs.FoundEnds.{AreAll, GoesTo, body_inner, body_names, inner_to, level_inner, level_names}
use Rattle.gate_ends.proofs.FoundEnds.{all_weaker, same_to}
use Rattle.gate_tables.specs.ChartTables.{AreSomeOf, Grows, HasFacts}
use Rattle.gate_tables.specs.GateFacts.{Facts, facts_of}
use Rattle.gate_tables.specs.KeptMaps.{gate_in, has_name, kept_of}
use Rattle.gate_tables.specs.KnownFacts.{level_known}
use Rattle.gate_ends.specs.NameViews.{names_view}
use Rattle.gate_tables.specs.declared.kept.KeptMap.{KeptMap}
use Rattle.gate_tables.specs.declared.kept.KeptMaps.{KeptMaps}
use Rattle.gate_tables.proofs.FactLaws.{facts_seen}
use Rattle.gate_tables.proofs.KnownLaws.{IsKnown, level_is}
use Rattle.gate_tables.proofs.MapSteps.{itself, turned}

-- ---- the chart of a name

abbrev pub chart_names : List rust.ChartEntry → List (List ℕ)
chart_names cs = map (λ (c : rust.ChartEntry). c.name) cs

place_is : (cs : List rust.ChartEntry) (name : List ℕ) → position_or_len (bytes_eq name) (chart_names cs) ≡ position_or_len (λ c. bytes_eq c.name name) (table_view cs)
place_is [] name = refl
place_is (c ∷ cs) name =
    ap (λ (n : ℕ). cond (not (bytes_eq name c.name)) (1 + n) 0) (place_is cs name)
    ∙ ap (λ (b : Bool). cond (not b) (1 + position_or_len (λ d. bytes_eq d.name name) (table_view cs)) 0) (turned name c.name)

-- the chart is the one at the first place of its name
at_place : (cs : List rust.ChartEntry) (name : List ℕ) → chart_at (table_view cs) name ≡ option_map entry_view (slice_get cs (position_or_len (bytes_eq name) (chart_names cs)))
at_place cs name =
    find_at (λ c. bytes_eq c.name name) (table_view cs)
    ∙ slice_get-map entry_view cs (position_or_len (λ c. bytes_eq c.name name) (table_view cs))
    ∙ ap (λ (n : ℕ). option_map entry_view (slice_get cs n)) (sym (place_is cs name))

pub chart_found : (cs : List rust.ChartEntry) (names : List (List ℕ)) (name : List ℕ) (i : ℕ) → names ≡ chart_names cs → position (bytes_eq name) names ≡ Some i → option_map entry_view (slice_get cs i) ≡ chart_at (table_view cs) name
chart_found cs names name i is at =
    let n = position_or_len (bytes_eq name) (chart_names cs) in
    let here : cond (nat_lt n (length (chart_names cs))) (Some n) None ≡ Some i = ap (position (bytes_eq name)) (sym is) ∙ at in
    ap (λ (k : ℕ). option_map entry_view (slice_get cs k)) (sym (cond_some (nat_lt n (length (chart_names cs))) n i here).1) ∙ sym (at_place cs name)

pub no_chart : (cs : List rust.ChartEntry) (names : List (List ℕ)) (name : List ℕ) → names ≡ chart_names cs → position (bytes_eq name) names ≡ None → chart_at (table_view cs) name ≡ None
no_chart cs names name is at =
    let n = position_or_len (bytes_eq name) (chart_names cs) in
    let here : cond (nat_lt n (length (chart_names cs))) (Some n) None ≡ None = ap (position (bytes_eq name)) (sym is) ∙ at in
    at_place cs name ∙ ap (option_map entry_view) (slice_get_past cs n (past n (length (chart_names cs)) here (length-map cs (λ (c : rust.ChartEntry). c.name))))
  where
    past : (n m : ℕ) → cond (nat_lt n m) (Some n) None ≡ None → m ≡ length cs → length cs ≤ n
    past n m h e = by (nat_lt n m) refl h
      where
        by : (b : Bool) → nat_lt n m ≡ b → cond b (Some n) None ≡ None → length cs ≤ n
        by true q h = absurd cc
        by false q h = grind (arith, nat_tests)

-- ---- how deep

pub goes_deep : (table : Table) (k : ℕ) (name : List ℕ) → GoesTo table k name → 0 < k
goes_deep table zero name h = absurd h
goes_deep table (suc k) name h = omega arith

pub goes_in : (table : Table) (k : ℕ) (name : List ℕ) (b : Body) → body_at table name ≡ Some b → GoesTo table k name → AreAll (GoesTo table (k - 1)) (level_names b)
goes_in table zero name b is h = absurd h
goes_in table (suc k) name b is h =
    let less : k ≡ suc k - 1 = omega arith in
    subst (λ (n : ℕ). AreAll (GoesTo table n) (level_names b)) less (subst (λ (o : Option Body). AreAll (GoesTo table k) (body_names o)) is h)

-- a chart whose references go no deeper is as at the next depth
chart_at_depth : (table : Table) (k n : ℕ) (name g : List ℕ) (b : Body) → body_at table name ≡ Some b → k < n → AreAll (GoesTo table k) (level_names b) → facts_of (inner_to table n name g) ≡ facts_of (level_inner (inner_to table n) b g)
chart_at_depth table k n name g b is low h =
    let goes : GoesTo table (suc k) name = subst (λ (o : Option Body). AreAll (GoesTo table k) (body_names o)) (sym is) h in
    ap facts_of (same_to table (suc k) n name g (omega arith) goes ∙ sym (same_to table (suc k) (suc n) name g (omega arith) goes))
    ∙ ap (λ (o : Option Body). facts_of (body_inner (inner_to table n) name o g)) is
    ∙ facts_seen name (level_inner (inner_to table n) b g)

no_chart_at_depth : (table : Table) (n : ℕ) (name g : List ℕ) → body_at table name ≡ None → facts_of (inner_to table n name g) ≡ None
no_chart_at_depth table zero name g is = refl
no_chart_at_depth table (suc n) name g is = ap (λ (o : Option Body). facts_of (body_inner (inner_to table n) name o g)) is

-- ---- some charts of a table

pub stays : (table : Table) (depth : ℕ) (known : KeptMaps) → AreSomeOf table depth known → Grows table depth known known
stays table depth known right = record { right = right; kept = λ n h. h }

pub grows_on : (table : Table) (depth : ℕ) (old mid new : KeptMaps) → Grows table depth old mid → Grows table depth mid new → Grows table depth old new
grows_on table depth old mid new first behind = record { right = behind.right; kept = λ n h. behind.kept n (first.kept n h) }

module _ (table : Table) (depth : ℕ) (known new : KeptMaps) (name : List ℕ) (of : List ℕ → Option Facts) (right : AreSomeOf table depth known)
    (at : (n g : List ℕ) → kept_of new n g ≡ (if bytes_eq name n then of g else kept_of known n g)) (has : (n : List ℕ) → has_name new n ≡ (bytes_eq name n || has_name known n)) where
  pub added : HasFacts new name
  added = has name ∙ ap (λ (b : Bool). b || has_name known name) (itself name)

  pub grown : ((g : List ℕ) → of g ≡ facts_of (inner_to table depth name g)) → Grows table depth known new
  grown is = record {
    right = record { right = λ n g h. by n g (bytes_eq name n) refl (at n g) (has n) h };
    kept = λ n h. has n ∙ ap (λ (b : Bool). bytes_eq name n || b) h ∙ or_true (bytes_eq name n);
  }
    where
      by : (n g : List ℕ) (b : Bool) → bytes_eq name n ≡ b → kept_of new n g ≡ (if b then of g else kept_of known n g) → has_name new n ≡ (b || has_name known n) → HasFacts new n → kept_of new n g ≡ facts_of (inner_to table depth n g)
      by n g true e a q h = a ∙ is g ∙ ap (λ (m : List ℕ). facts_of (inner_to table depth m g)) ((bytes_eq-Decides name n).0 e)
      by n g false e a q h = a ∙ right.right n g (sym q ∙ h)

-- one without a body has no gates
pub no_body : (table : Table) (depth : ℕ) (known new : KeptMaps) (name : List ℕ) (of : List ℕ → Option Facts) → AreSomeOf table depth known → ((g : List ℕ) → of g ≡ None) → body_at table name ≡ None
    → ((n g : List ℕ) → kept_of new n g ≡ (if bytes_eq name n then of g else kept_of known n g)) → ((n : List ℕ) → has_name new n ≡ (bytes_eq name n || has_name known n)) → Grows table depth known new
no_body table depth known new name of right none is at has = grown table depth known new name of right at has (λ g. none g ∙ sym (no_chart_at_depth table depth name g is))

-- one with a body, whose charts are known
pub with_body : (table : Table) (depth k : ℕ) (known new : KeptMaps) (name : List ℕ) (b : Body) (of : List ℕ → Option Facts) → AreSomeOf table depth known → body_at table name ≡ Some b → k < depth → AreAll (GoesTo table k) (level_names b)
    → AreAll (HasFacts known) (level_names b) → ((g : List ℕ) → of g ≡ level_known (kept_of known) b g)
    → ((n g : List ℕ) → kept_of new n g ≡ (if bytes_eq name n then of g else kept_of known n g)) → ((n : List ℕ) → has_name new n ≡ (bytes_eq name n || has_name known n)) → Grows table depth known new
with_body table depth k known new name b of right is low deep all made at has =
    let charts = all_weaker (HasFacts known) (IsKnown (kept_of known) (inner_to table depth)) (level_names b) (λ n h g. right.right n g h) all in
    grown table depth known new name of right at has (λ g. made g ∙ level_is (kept_of known) (inner_to table depth) b g charts ∙ sym (chart_at_depth table k depth name g b is low deep))

-- ---- names gone through

pub all_more : (P : List ℕ → Type 0) (ns : List (Bor (List ℕ))) (i : ℕ) (n : Bor (List ℕ)) → i < length ns → n ≡ get_or ns i n → AreAll P (names_view (take i ns)) → P n.now → AreAll P (names_view (take (i + 1) ns))
all_more P [] i n low is all here = absurd (omega arith)
all_more P (m ∷ ns) zero n low is all here = (subst (λ (k : Bor (List ℕ)). P k.now) is here, tt)
all_more P (m ∷ ns) (suc i) n low is all here =
    let more : suc (i + 1) ≡ suc i + 1 = omega arith in
    subst (λ (k : ℕ). AreAll P (names_view (take k (m ∷ ns)))) more (all.0, all_more P ns i n (omega arith) is all.1 here)

pub one_at : (P : List ℕ → Type 0) (ns : List (Bor (List ℕ))) (i : ℕ) (n : Bor (List ℕ)) → i < length ns → n ≡ get_or ns i n → AreAll P (names_view ns) → P n.now
one_at P [] i n low is all = absurd (omega arith)
one_at P (m ∷ ns) zero n low is all = subst (λ (k : Bor (List ℕ)). P k.now) (sym is) all.0
one_at P (m ∷ ns) (suc i) n low is all = one_at P ns i n (omega arith) is all.1

-- ---- all charts of a table

pub on_both : {T E A B C : Type 0} (r : Result T E) → (A → B → C) → OnOk r A → OnOk r B → OnOk r C
on_both (Ok x) f a b = f a b
on_both (Err e) f a b = tt

pub no_facts : (known : KeptMaps) (name g : List ℕ) → has_name known name ≡ false → kept_of known name g ≡ None
no_facts known name g h = by (get_by (λ k. bytes_eq name k.items) known.held) h
  where
    by : (o : Option KeptMap) → is_some o ≡ false → gate_in o g ≡ None
    by None h = refl
    by (Some m) h = absurd cc

-- one that isn't there is none of the charts
not_there : (known : KeptMaps) (cs : List rust.ChartEntry) (name : List ℕ) → AreAll (HasFacts known) (chart_names cs) → has_name known name ≡ false → chart_at (table_view cs) name ≡ None
not_there known [] name all h = refl
not_there known (c ∷ cs) name all h = by (bytes_eq c.name name) refl (not_there known cs name all.1 h)
  where
    by : (b : Bool) → bytes_eq c.name name ≡ b → chart_at (table_view cs) name ≡ None → (if b then Some (entry_view c) else chart_at (table_view cs) name) ≡ None
    by true e more = let here = ap (has_name known) (sym ((bytes_eq-Decides c.name name).0 e)) ∙ all.0 in absurd cc
    by false e more = more

pub all_found : (cs : List rust.ChartEntry) (depth : ℕ) (known : KeptMaps) → AreSomeOf (table_view cs) depth known → AreAll (HasFacts known) (chart_names cs) → (name g : List ℕ) → kept_of known name g ≡ facts_of (inner_to (table_view cs) depth name g)
all_found cs depth known right all name g = by (has_name known name) refl
  where
    by : (b : Bool) → has_name known name ≡ b → kept_of known name g ≡ facts_of (inner_to (table_view cs) depth name g)
    by true h = right.right name g h
    by false h = no_facts known name g h ∙ sym (no_chart_at_depth (table_view cs) depth name g (ap body_in (not_there known cs name all h)))

-- charts gone through

pub charts_more : (P : List ℕ → Type 0) (cs : List rust.ChartEntry) (i : ℕ) (c : rust.ChartEntry) → i < length cs → c ≡ get_or cs i c → AreAll P (chart_names (take i cs)) → P c.name → AreAll P (chart_names (take (i + 1) cs))
charts_more P [] i c low is all here = absurd (omega arith)
charts_more P (d ∷ cs) zero c low is all here = (subst (λ (e : rust.ChartEntry). P e.name) is here, tt)
charts_more P (d ∷ cs) (suc i) c low is all here =
    let more : suc (i + 1) ≡ suc i + 1 = omega arith in
    subst (λ (k : ℕ). AreAll P (chart_names (take k (d ∷ cs)))) more (all.0, charts_more P cs i c (omega arith) is all.1 here)

pub chart_one : (P : List ℕ → Type 0) (cs : List rust.ChartEntry) (i : ℕ) (c : rust.ChartEntry) → i < length cs → c ≡ get_or cs i c → AreAll P (chart_names cs) → P c.name
chart_one P [] i c low is all = absurd (omega arith)
chart_one P (d ∷ cs) zero c low is all = subst (λ (e : rust.ChartEntry). P e.name) (sym is) all.0
chart_one P (d ∷ cs) (suc i) c low is all = chart_one P cs i c (omega arith) is all.1

-- the chart of a number
pub chart_numbered : (P : List ℕ → Type 0) (cs : List rust.ChartEntry) (i : ℕ) (c : rust.ChartEntry) → Some c ≡ slice_get cs i → AreAll P (chart_names cs) → P c.name
chart_numbered P [] i c is all = absurd cc
chart_numbered P (d ∷ cs) zero c is all = let same : d ≡ c = cc in subst (λ (e : rust.ChartEntry). P e.name) same all.0
chart_numbered P (d ∷ cs) (suc i) c is all = chart_numbered P cs i c is all.1

pub all_stay : (table : Table) (depth : ℕ) (old new : KeptMaps) (ns : List (List ℕ)) → Grows table depth old new → AreAll (HasFacts old) ns → AreAll (HasFacts new) ns
all_stay table depth old new ns grows all = all_weaker (HasFacts old) (HasFacts new) ns grows.kept all
