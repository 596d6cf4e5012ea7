-- Columns that are given entry by entry.
use Rattle.std.proofs.Common.{◌≡◌, ℕ, ◌<◌, ◌+◌, zero, suc, inl, inr, List, [], ◌∷◌, All, length, Bool, true, false, cond, nat_eq, Some, slice_get, Vec, Global, refl, sym, subst, ap, ap₂, ◌∙◌, arith}
use Rattle.std.proofs.lemmas.List.Elements.{All-head, All-tail}
use Rattle.msc_base.specs.Lists.{IsAmong}
use Rattle.column_order.specs.declared.edge.Edge.{Edge}
use Rattle.column_order.specs.Columns.{columns_from, items_of}
use Rattle.column_order.specs.Counts.{targets}

pub lists_are : (k : ℕ) (vs : List (Vec ℕ Global)) (entries : List Edge) → ((x : ℕ) (v : Vec ℕ Global) → slice_get vs x ≡ Some v → v.items ≡ targets entries (k + x))
    → items_of vs ≡ columns_from k (length vs) entries
lists_are k [] entries each = refl
lists_are k (v ∷ vs) entries each =
    let here : k + zero ≡ k = omega arith in
    let first : v.items ≡ targets entries k = subst (λ (n : ℕ). v.items ≡ targets entries n) here (each zero v refl) in
    let rest : items_of vs ≡ columns_from (suc k) (length vs) entries =
    lists_are (suc k) vs entries (λ x w at. let there : k + suc x ≡ suc k + x = omega arith in subst (λ (n : ℕ). w.items ≡ targets entries n) there (each (suc x) w at)) in
    ap₂ (λ (a : List ℕ) (more : List (List ℕ)). a ∷ more) first rest

target_low : (columns count : ℕ) (entries : List Edge) (k x : ℕ) → All (λ (e : Edge). (e.from < columns) × (e.to < count)) entries → IsAmong (targets entries k) x → x < count
target_low columns count [] k x low h = absurd h
target_low columns count (e ∷ es) k x low h = by (nat_eq e.from k) h (target_low columns count es k x (All-tail (λ (d : Edge). (d.from < columns) × (d.to < count)) e es low))
  where
    by : (b : Bool) → IsAmong (cond b (e.to ∷ targets es k) (targets es k)) x → (IsAmong (targets es k) x → x < count) → x < count
    by true g rest = elim g [
      | inl is ↦ subst (λ (n : ℕ). n < count) (sym is) (All-head (λ (d : Edge). (d.from < columns) × (d.to < count)) e es low).1
      | inr r ↦ rest r
    ]
    by false g rest = rest g

pub columns_low : (columns count k n : ℕ) (entries : List Edge) → All (λ (e : Edge). (e.from < columns) × (e.to < count)) entries
    → (column : List ℕ) → IsAmong (columns_from k n entries) column → (x : ℕ) → IsAmong column x → x < count
columns_low columns count k zero entries low column mine x h = absurd mine
columns_low columns count k (suc n) entries low column (inl is) x h = target_low columns count entries k x low (subst (λ (c : List ℕ). IsAmong c x) is h)
columns_low columns count k (suc n) entries low column (inr mine) x h = columns_low columns count (suc k) n entries low column mine x h

-- the lists of the targets are the columns
pub lists_of : (columns : ℕ) (entries : List Edge) (vs held : List (Vec ℕ Global)) → vs ≡ held → length vs ≡ columns
    → ((x : ℕ) (v : Vec ℕ Global) → slice_get held x ≡ Some v → v.items ≡ targets entries x) → items_of vs ≡ columns_from 0 columns entries
lists_of columns entries vs held same long each =
    let at : (x : ℕ) (v : Vec ℕ Global) → slice_get vs x ≡ Some v → v.items ≡ targets entries (0 + x) = λ x v is.
    let here : x ≡ 0 + x = omega arith in
    subst (λ (n : ℕ). v.items ≡ targets entries n) here (each x v (ap (λ (ws : List (Vec ℕ Global)). slice_get ws x) (sym same) ∙ is)) in
    lists_are 0 vs entries at ∙ ap (λ (n : ℕ). columns_from 0 n entries) long
