-- The chart of a name, by the place of the name.
use Rattle.std.proofs.Common.{◌≡◌, ◌≤◌, ℕ, zero, suc, Bool, true, false, Some, None, List, [], ◌∷◌, ◌++◌, length, map, refl, sym, ap, ◌∙◌, option_map, arith}
use Rattle.std.specs.List.{position, list_any, slice_get}
use Rattle.std.specs.Str.{bytes_eq}
use Rattle.std.proofs.lemmas.Slice.Eq.{bytes_eq-Decides}
use Rattle.std.proofs.lemmas.Option.{same_Some}
use Rattle.label_table.proofs.Numbering.{some_none}
use Rattle.label_table.proofs.Positions.{later, later_some, later_none, position-first, position-later}
use Rattle.list_facts.proofs.Bools.{tests_agree}
use Rattle.msc_meaning.specs.declared.body.ChartEntry as rust
use Rattle.msc_meaning.specs.Tables.{chart_at}
use Rattle.msc_meaning.specs.Views.{entry_view, table_view}

pub turned : (a b : List ℕ) → bytes_eq a b ≡ bytes_eq b a
turned a b = tests_agree (bytes_eq a b) (bytes_eq b a) (λ e. (bytes_eq-Decides b a).1 (sym ((bytes_eq-Decides a b).0 e))) (λ e. (bytes_eq-Decides a b).1 (sym ((bytes_eq-Decides b a).0 e)))

abbrev pub chart_names : List rust.ChartEntry → List (List ℕ)
chart_names cs = map (λ (c : rust.ChartEntry). c.name) cs

pub chart_found : (cs : List rust.ChartEntry) (name : List ℕ) (n : ℕ) → position (bytes_eq name) (chart_names cs) ≡ Some n → option_map entry_view (slice_get cs n) ≡ chart_at (table_view cs) name
chart_found [] name n h = absurd cc
chart_found (c ∷ cs) name n h = by (chart_found cs name) (bytes_eq name c.name) refl
  where
    by : ((m : ℕ) → position (bytes_eq name) (chart_names cs) ≡ Some m → option_map entry_view (slice_get cs m) ≡ chart_at (table_view cs) name) → (b : Bool) → bytes_eq name c.name ≡ b
        → option_map entry_view (slice_get (c ∷ cs) n) ≡ chart_at (table_view (c ∷ cs)) name
    by more true e =
        let first : 0 ≡ n = same_Some 0 n (sym (position-first (bytes_eq name) c.name (chart_names cs) e) ∙ h) in
        let here : bytes_eq c.name name ≡ true = turned c.name name ∙ e in
        ap (λ m. option_map entry_view (slice_get (c ∷ cs) m)) (sym first) ∙ (rw here refl)
    by more false e =
        let (m, found, is) = later_some (position (bytes_eq name) (chart_names cs)) n (sym (position-later (bytes_eq name) c.name (chart_names cs) e) ∙ h) in
        let here : bytes_eq c.name name ≡ false = turned c.name name ∙ e in
        let behind : n ≡ suc m = omega (arith, is) in
        ap (λ k. option_map entry_view (slice_get (c ∷ cs) k)) behind ∙ (more m found ∙ (rw here refl))

pub no_chart : (cs : List rust.ChartEntry) (name : List ℕ) → position (bytes_eq name) (chart_names cs) ≡ None → chart_at (table_view cs) name ≡ None
no_chart [] name h = refl
no_chart (c ∷ cs) name h = by (no_chart cs name) (bytes_eq name c.name) refl
  where
    by : (position (bytes_eq name) (chart_names cs) ≡ None → chart_at (table_view cs) name ≡ None) → (b : Bool) → bytes_eq name c.name ≡ b → chart_at (table_view (c ∷ cs)) name ≡ None
    by more true e = absurd (some_none 0 (sym (position-first (bytes_eq name) c.name (chart_names cs) e) ∙ h))
    by more false e =
        let here : bytes_eq c.name name ≡ false = turned c.name name ∙ e in
        rw here (more (later_none (position (bytes_eq name) (chart_names cs)) (sym (position-later (bytes_eq name) c.name (chart_names cs) e) ∙ h)))

pub none_at : {X : Type 0} (xs : List X) (i : ℕ) → length xs ≤ i → slice_get xs i ≡ None
none_at [] i h = refl
none_at (x ∷ xs) zero h = absurd (omega (arith, h))
none_at (x ∷ xs) (suc i) h = none_at xs i (omega (arith, h))
