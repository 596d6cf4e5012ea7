-- Which declaration says that an instance is refined.
use Rattle.std.proofs.Common.{◌≡◌, ◌<◌, ◌+◌, ◌&&◌, ℕ, Bool, true, false, cond, is_some, List, Option, Some, None, drop, get_or, length, refl, sym, ap, ◌∙◌}
use Rattle.std.specs.Option.{option_or}
use Rattle.std.specs.Str.{bytes_eq}
use Rattle.list_facts.proofs.Reading.{drop_read}
use Rattle.msc_tree.specs.declared.chart.Decl.{Decl}
use Rattle.msc_meaning.specs.Tables.{refined_as}

here_by : (b : Bool) (r later : Option (List ℕ)) → (b && is_some r) ≡ true → r ≡ option_or (cond b r None) later
here_by true (Some x) later h = refl
here_by true None later h = cc
here_by false r later h = cc

past_by : (b : Bool) (r later : Option (List ℕ)) → (b && is_some r) ≡ false → later ≡ option_or (cond b r None) later
past_by true (Some x) later h = cc
past_by true None later h = refl
past_by false r later h = refl

pub refined_here : (list : List Decl) (k : ℕ) (d : Decl) (name : List ℕ) → k < length list → d ≡ get_or list k d → (bytes_eq d.name name && is_some d.refined) ≡ true
    → refined_as (drop k list) name ≡ refined_as list name → d.refined ≡ refined_as list name
refined_here list k d name low is so h =
    here_by (bytes_eq d.name name) d.refined (refined_as (drop (k + 1) list) name) so ∙ sym (ap (λ (ds : List Decl). refined_as ds name) (drop_read list k d low is)) ∙ h

pub refined_past : (list : List Decl) (k : ℕ) (d : Decl) (name : List ℕ) → k < length list → d ≡ get_or list k d → (bytes_eq d.name name && is_some d.refined) ≡ false
    → refined_as (drop k list) name ≡ refined_as list name → refined_as (drop (k + 1) list) name ≡ refined_as list name
refined_past list k d name low is so h =
    past_by (bytes_eq d.name name) d.refined (refined_as (drop (k + 1) list) name) so ∙ sym (ap (λ (ds : List Decl). refined_as ds name) (drop_read list k d low is)) ∙ h
