-- Charts that are written in order, or have no references, and what is told of each chart.
use Rattle.std.proofs.Common.{◌≡◌, ◌∙◌, ◌<◌, ◌≤◌, ◌+◌, inl, inr, ℕ, zero, suc, Bool, true, false, if◌then◌else◌, List, [], ◌∷◌, ◌++◌, Option, Some, None, refl, sym, subst, ap, get_or, length, map, replicate, take, arith}
use Rattle.std.proofs.lemmas.List.{map-append, take_all, take_more}
use Rattle.std.proofs.lemmas.Slice.Eq.{bytes_eq-Decides}
use Rattle.std.specs.List.{slice_get}
use Rattle.std.specs.Str.{bytes_eq}
use Rattle.msc_base.specs.Lists.{AreDifferent, IsAmong}
use Rattle.msc_meaning.specs.Bodies.{Body, level, WovenItems, no_items, item_and, WovenItem, Single, Coregion, Inline, Refer, Bodies, no_bodies, body_and}
use Rattle.msc_meaning.specs.Tables.{Table, ChartEntry, Woven, Basic, HighLevel, chart_at}
use Rattle.msc_meaning.specs.Views.{entry_view, table_view}
use Rattle.msc_meaning.specs.declared.body.ChartEntry as rust
use Rattle.expanded_charts.specs.Expanding.{expansion}
use Rattle.expanded_charts.specs.Numbering.{numbering_of}
use Rattle.gate_ends.specs.FoundEnds.{AreAll, item_names, items_names, level_names, operands_names, table_ends}
use Rattle.written_order.specs.Rising.{IsRisingEntry, IsRisingTo, IsRisingWoven}
use Rattle.written_order.specs.RisingLaws.{RisingChartsAreRanked}
use Rattle.chart_cycles.specs.Cycles.{AreOrdered, IsOrdered, TellCycles, TellsCycle}
use Rattle.chart_cycles.specs.Written.{AreWritten, HasNoReference, HaveNoReference, IsWritten, IsWrittenChart, ItemHasNoReference, OperandsHaveNoReference, StandsAlone}

-- ---- without references

both_nil : {X : Type 0} (xs ys : List X) → xs ≡ [] → ys ≡ [] → xs ++ ys ≡ []
both_nil xs ys e f = ap (λ z. z ++ ys) e ∙ f

mutual
  no_names : (b : Body) → HasNoReference b → level_names b ≡ []
  no_names (level cover held pairs) h = no_item_names held h

  no_item_names : (xs : WovenItems) → HaveNoReference xs → items_names xs ≡ []
  no_item_names no_items h = refl
  no_item_names (item_and x xs) h = both_nil (item_names x) (items_names xs) (no_name x h.0) (no_item_names xs h.1)

  no_name : (x : WovenItem) → ItemHasNoReference x → item_names x ≡ []
  no_name (Single k) h = refl
  no_name (Coregion ks) h = refl
  no_name (Inline form part operands) h = no_operand_names operands h
  no_name (Refer part) h = absurd h

  no_operand_names : (bs : Bodies) → OperandsHaveNoReference bs → operands_names bs ≡ []
  no_operand_names no_bodies h = refl
  no_operand_names (body_and b bs) h = both_nil (level_names b) (operands_names bs) (no_names b h.0) (no_operand_names bs h.1)

alone_rises : (P : List ℕ → Type 0) (w : Woven) → StandsAlone w → IsWritten w → IsRisingWoven P w
alone_rises P (Basic b) alone up = (up, subst (AreAll P) (sym (no_names b alone)) tt)
alone_rises P (HighLevel drawn) alone up = tt

chart_rises : (table : Table) (depth : ℕ) (name : List ℕ) (c : ChartEntry) → chart_at table name ≡ Some c → StandsAlone c.content → IsWrittenChart c → IsRisingTo table depth name
chart_rises table zero name c at alone up = tt
chart_rises table (suc k) name c at alone up = subst (IsRisingEntry (IsRisingTo table k)) (sym at) (up.0, alone_rises (IsRisingTo table k) c.content alone up.1)

pub alone_ordered : RisingChartsAreRanked → (table : Table) (depth : ℕ) (name : List ℕ) (c : ChartEntry) → chart_at table name ≡ Some c → StandsAlone c.content → IsWrittenChart c → IsOrdered table depth name
alone_ordered law table depth name c at alone up = law.ranked (table_ends table) table depth name (numbering_of (expansion (table_ends table) table depth name)) (chart_rises table depth name c at alone up)

-- ---- all written in order

written_at : (charts : Table) (name : List ℕ) (c : ChartEntry) → AreWritten charts → chart_at charts name ≡ Some c → IsWrittenChart c
written_at [] name c h e = absurd cc
written_at (d ∷ charts) name c h e = by (bytes_eq d.name name) e (written_at charts name c h.1)
  where
    by : (b : Bool) → (if b then Some d else chart_at charts name) ≡ Some c → (chart_at charts name ≡ Some c → IsWrittenChart c) → IsWrittenChart c
    by true f behind = let same : d ≡ c = cc in subst (λ (x : ChartEntry). IsWrittenChart x) same h.0
    by false f behind = behind f

all_of : (P : List ℕ → Type 0) → ((name : List ℕ) → P name) → (names : List (List ℕ)) → AreAll P names
all_of P f [] = tt
all_of P f (n ∷ names) = (f n, all_of P f names)

woven_rises : (P : List ℕ → Type 0) → ((name : List ℕ) → P name) → (w : Woven) → IsWritten w → IsRisingWoven P w
woven_rises P f (Basic b) up = (up, all_of P f (level_names b))
woven_rises P f (HighLevel drawn) up = tt

all_rise : (table : Table) → AreWritten table → (depth : ℕ) (name : List ℕ) → IsRisingTo table depth name
all_rise table up zero name = tt
all_rise table up (suc k) name = by (chart_at table name) (λ c at. written_at table name c up at) refl (all_rise table up k)
  where
    by : (o : Option ChartEntry) → ((c : ChartEntry) → chart_at table name ≡ Some c → IsWrittenChart c) → chart_at table name ≡ o → ((other : List ℕ) → IsRisingTo table k other) → IsRisingEntry (IsRisingTo table k) o
    by None f e below = tt
    by (Some c) f e below = let written = f c e in (written.0, woven_rises (IsRisingTo table k) below c.content written.1)

pub written_ordered : RisingChartsAreRanked → (table : Table) (depth : ℕ) → AreWritten table → (charts : List ChartEntry) → AreOrdered table depth charts
written_ordered law table depth up [] = tt
written_ordered law table depth up (c ∷ charts) = (law.ranked (table_ends table) table depth c.name (numbering_of (expansion (table_ends table) table depth c.name)) (all_rise table up depth c.name), written_ordered law table depth up charts)

-- ---- chart by chart

abbrev names_of : List rust.ChartEntry → List (List ℕ)
names_of cs = map (λ (c : rust.ChartEntry). c.name) cs

among_name : (cs : List rust.ChartEntry) (i : ℕ) (c : rust.ChartEntry) → slice_get cs i ≡ Some c → IsAmong (names_of cs) c.name
among_name [] i c e = absurd cc
among_name (d ∷ cs) zero c e = let same : c ≡ d = cc in inl (ap (λ (x : rust.ChartEntry). x.name) same)
among_name (d ∷ cs) (suc i) c e = inr (among_name cs i c e)

pub chart_there : (cs : List rust.ChartEntry) (i : ℕ) (c : rust.ChartEntry) → AreDifferent (names_of cs) → slice_get cs i ≡ Some c → chart_at (table_view cs) c.name ≡ Some (entry_view c)
chart_there [] i c d e = absurd cc
chart_there (b ∷ cs) zero c d e =
    let same : b ≡ c = cc in
    let here : bytes_eq b.name c.name ≡ true = (bytes_eq-Decides b.name c.name).1 (ap (λ (x : rust.ChartEntry). x.name) same) in
    (rw here refl) ∙ ap (λ (x : rust.ChartEntry). Some (entry_view x)) same
chart_there (b ∷ cs) (suc i) c d e = by (bytes_eq b.name c.name) refl (chart_there cs i c d.1 e)
  where
    by : (t : Bool) → bytes_eq b.name c.name ≡ t → chart_at (table_view cs) c.name ≡ Some (entry_view c) → chart_at (table_view (b ∷ cs)) c.name ≡ Some (entry_view c)
    by true q f = absurd (d.0 (subst (IsAmong (names_of cs)) (sym ((bytes_eq-Decides b.name c.name).0 q)) (among_name cs i c e)))
    by false q f = rw q f

pub item_at : {X : Type 0} (xs : List X) (i : ℕ) (x : X) → i < length xs → x ≡ get_or xs i x → slice_get xs i ≡ Some x
item_at [] i x l h = absurd (omega arith)
item_at (y ∷ xs) zero x l h = ap Some (sym h)
item_at (y ∷ xs) (suc i) x l h = item_at xs i x (omega (arith, l)) h

-- ---- what is told of each chart

told_snoc : (table : Table) (depth : ℕ) (cs : List ChartEntry) (told : List Bool) (c : ChartEntry) (b : Bool) → TellCycles table depth cs told → TellsCycle table depth c b → TellCycles table depth (cs ++ c ∷ []) (told ++ b ∷ [])
told_snoc table depth [] [] c b h one = (one, tt)
told_snoc table depth [] (a ∷ told) c b h one = absurd h
told_snoc table depth (d ∷ cs) [] c b h one = absurd h
told_snoc table depth (d ∷ cs) (a ∷ told) c b h one = (h.0, told_snoc table depth cs told c b h.1 one)

pub tells : (table : Table) (depth : ℕ) (c : ChartEntry) (b : Bool) → (b ≡ true → IsOrdered table depth c.name → ⊥) → (b ≡ false → IsOrdered table depth c.name) → TellsCycle table depth c b
tells table depth c true f g = f refl
tells table depth c false f g = g refl

pub told_more : (table : Table) (depth : ℕ) (cs : List rust.ChartEntry) (i : ℕ) (c : rust.ChartEntry) (told : List Bool) (b : Bool) → i < length cs → c ≡ get_or cs i c → TellCycles table depth (map entry_view (take i cs)) told
    → (b ≡ true → IsOrdered table depth c.name → ⊥) → (b ≡ false → IsOrdered table depth c.name) → TellCycles table depth (map entry_view (take (i + 1) cs)) (told ++ b ∷ [])
told_more table depth cs i c told b low is h f g =
    let more : map entry_view (take (i + 1) cs) ≡ map entry_view (take i cs) ++ entry_view c ∷ [] = ap (map entry_view) (take_more cs i c low ∙ ap (λ (y : rust.ChartEntry). take i cs ++ y ∷ []) (sym is)) ∙ map-append entry_view (take i cs) (c ∷ []) in
    subst (λ (l : List ChartEntry). TellCycles table depth l (told ++ b ∷ [])) (sym more) (told_snoc table depth (map entry_view (take i cs)) told (entry_view c) b h (tells table depth (entry_view c) b f g))

pub all_told : (table : Table) (depth : ℕ) (cs : List rust.ChartEntry) (i : ℕ) (told : List Bool) → length cs ≤ i → TellCycles table depth (map entry_view (take i cs)) told → TellCycles table depth (map entry_view cs) told
all_told table depth cs i told low h = subst (λ (l : List rust.ChartEntry). TellCycles table depth (map entry_view l) told) (take_all i cs low) h

pub none_told : (table : Table) (depth : ℕ) (cs : List rust.ChartEntry) → AreOrdered table depth (map entry_view cs) → TellCycles table depth (map entry_view cs) (replicate (length cs) false)
none_told table depth [] h = tt
none_told table depth (c ∷ cs) h = (h.0, none_told table depth cs h.1)
